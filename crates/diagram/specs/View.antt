-- A diagram and its two rows as a world.
use Rattle.std.proofs.Common.{sym, ◌∙◌}
use Rattle.std.specs.Prelude.{not, ◌&&◌, List, nat_lt}
use Rattle.std.specs.List.{slice_get}
use Rattle.std.proofs.lemmas.Bool.{and_parts, ltb-true, not-true}
use Rattle.family.specs.Meaning.{Meaning}
use Rattle.wiring.specs.Layout.{rank_of}
use Rattle.wiring.specs.View.{layout}
use Rattle.wiring.proofs.Whole.{lawful, placed_small, at_rank, of_rank}
use Rattle.slots.specs.View.{ledger}
use Rattle.slots.proofs.Free.{free_empty}
use Rattle.passes.specs.Rows.{row}
use Rattle.diagram.specs.declared.diagram.Diagram.{Diagram}
use Rattle.diagram.specs.Chart.{Chart}
use Rattle.diagram.specs.World.{World, Sound}

-- the diagram without its ranks
abbrev pub chart : {F : Type 0} → Diagram F → Chart
chart d = record {
  placed = (ledger d.slots).placed;
  generation = (ledger d.slots).generation;
  ports = (layout d.wiring).ports;
  direct = λ t p. nat_lt p ((layout d.wiring).ports t) && not ((layout d.wiring).late t p);
  source = (layout d.wiring).source;
  freed = (ledger d.slots).freed;
  used = (ledger d.slots).used;
  scan = d.scan;
  scans = d.scans;
}

-- every diagram is sound
pub sound : {F : Type 0} (d : Diagram F) → Sound (chart d) (layout d.wiring).order (rank_of (layout d.wiring))
sound d =
    let l = lawful d.wiring in
    record {
      small = λ s on. placed_small d.wiring s (d.agree s ∙ on);
      empty = λ s e. free_empty d.slots s e;
      heads = λ t p s e. sym (d.agree s) ∙ l.heads s t (p, e);
      tails = λ t p s e. sym (d.agree t) ∙ l.tails s t (p, e);
      stands = λ s on. at_rank d.wiring s (d.agree s ∙ on);
      ranked = λ r low. let k = of_rank d.wiring r low in (sym (d.agree _) ∙ k.0, k.1);
      ascends = λ t p s on e. let k = and_parts _ _ on in l.ascends s t (p, e, ltb-true _ _ k.0, not-true _ k.1);
    }

-- a diagram, and the two rows that it is lent
pub record Lent (F R S : Type 0) : Type 0 where
  pub diagram : Diagram F
  pub records : List R
  pub signals : List S

-- these, in a clause
abbrev pub lent : {F R S : Type 0} → Diagram F → List R → List S → Lent F R S
lent d records signals = record { diagram = d; records = records; signals = signals }

-- as a world
abbrev pub world : {F R S : Type 0} → Meaning R S → Lent F R S → World R S
world m x = record {
  chart = chart x.diagram;
  order = (layout x.diagram.wiring).order;
  rank = rank_of (layout x.diagram.wiring);
  sound = sound x.diagram;
  records = slice_get x.records;
  signals = row m x.signals;
}
