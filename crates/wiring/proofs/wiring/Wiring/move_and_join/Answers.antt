use Rattle.std.proofs.Common.{◌≡◌, ℕ, ◌+◌, Bool, true, false, cond, ◌&&◌, eqb, List, get_or, Some, Decides, sym, ap, ◌∙◌, subst, arith}
use Rattle.wiring.specs.Sound.{live_of, rank_in}
use Rattle.wiring.specs.declared.block.Block.{Block}
use Rattle.wiring.specs.declared.wiring.Wiring.{Wiring}
use Rattle.wiring.specs.Change.{rewired}
use Rattle.wiring.specs.Layout.{Direct, is_placed, rank_of, layout_of, ports_at, late_at, source_at}
use Rattle.wiring.specs.Order.{Ahead, Dealt, between}
use Rattle.wiring.specs.Pass.{Marks, marked}
use Rattle.wiring.specs.Reach.{Reaches}
use Rattle.wiring.specs.Ring.{HasRing}
use Rattle.wiring.specs.View.{layout}
use Rattle.wiring.proofs.Orders.{parted, dealt_once}
use Rattle.wiring.proofs.Passes.{reached_live}
use Rattle.wiring.proofs.Whole.{alive, live_is, rank_at, sound}
use Rattle.wiring.proofs.wiring.Wiring.move_and_join.Goals as goal

-- the marks of the pass are those of what is ahead
decides : (w : Wiring) (t s : ℕ) → is_placed (layout w) t ≡ true → (m : List Bool) → Marks (layout w) (rank_in w.rank) t (rank_of (layout w) s + 1) m → (u : ℕ) → Decides (get_or m u false) (Ahead (layout w) t s u)
decides w t s on m marks u = (λ e. let b = (marks u).0 e in let k = b.1 in (b.0, omega (arith, rank b)), λ b. let k = b.1 in (marks u).1 (b.0, omega (arith, rank b)))
  where
    rank : {X : Type 0} → Reaches (Direct (layout w)) t u × X → rank_of (layout w) u ≡ get_or (rank_in w.rank) u 0
    rank b = rank_at w u (live_is w u ∙ reached_live w.count w.order (rank_in w.rank) (live_of w.rank) (layout w) (sound w) t (alive w t on) b.0)

pub returns : goal.returns
returns c =
    let w = c.args.self.now in
    let l = layout w in
    let t = c.args.target in
    let p = c.args.port in
    let s = c.args.source in
    let m = c.args.ahead.now.marks in
    let same = c.feed.ensures.same in
    let slots = c.reorder.ensures.slots in
    let o = (layout c.feed.new.self).order in
    let dealt : Dealt l t s o = record {
      others = marked m false (between l t s);
      ahead = marked m true (between l t s);
      parted = parted (Ahead l t s) m (decides w t s c.requires.ready.target m c.requires.marks) (between l t s);
      is = same.order ∙ c.reorder.ensures.order;
    } in
    record {
      connected = record {
        order = record { kept = λ up. absurd (up c.requires.down); dealt = λ _. dealt; only = λ _ o' d. dealt_once l t s o' o d dealt };
        ports = λ u. same.ports u ∙ ap (λ (xs : List Block). ports_at xs u) slots;
        late = λ u q. same.late u q ∙ ap (λ (xs : List Block). late_at xs u q) slots;
        source = λ u q. same.source u q ∙ ap (λ (xs : List Block). cond (eqb u t && eqb q p) (Some s) (source_at xs u q)) slots;
      };
      free = λ ring. c.feed.ensures.free (subst (λ (xs : List Block). HasRing (Direct (rewired (layout_of w.count w.order xs) t p (Some s)))) (sym slots) ring);
    }
