-- One call: refused or accepted, and the plan and the diagram still say the same.
use Rattle.std.proofs.Common.{◌≡◌, ℕ, ◌<◌, Bool, true, false, cond, not, ◌&&◌, eqb, ◌⊎◌, List, [], ◌∷◌, is_some, Some, None, Option, sym, refl, ap, ◌∙◌, subst, inl, inr}
use mathlib.Core.Path.{fun_ext}
use Rattle.std.proofs.lemmas.Bool.{and_parts, both_ways, not-false}
use Rattle.family.specs.declared.values.Params.{Params}
use Rattle.family.specs.Laws.{SamePorts}
use Rattle.family.specs.Meaning.{Meaning}
use Rattle.passes.specs.Rows.{put, or_else, on_some}
use Rattle.passes.specs.Scan.{inputs_of}
use Rattle.refusal.specs.declared.refusals.Refusal.{Refusal}
use Rattle.refusal.specs.declared.refusals.Refusal.TheVariants.{DiagramOpen, WrongScan, UnknownHandle, UnknownKind, BadParameter, NoFreeSlot, MakesRing}
use Rattle.diagram.specs.Calls.{Edit, tune, feed, Call, place, remove, wire, cut, edit, solve, settle, Answer, Event, amiss, edited, Lawful}
use Rattle.wiring.specs.Change.{off}
use Rattle.slots.specs.Ledger.{free_of}
use Rattle.diagram.specs.Chart.{slot, handle, names, empty, free, charted, given, when, first, is_scan, checks}
use Rattle.diagram.specs.World.{World, look, refusing, recorded, signalled, Accepted, Closes, Refused, By, Does}
use Rattle.session.specs.Plan.{Plan, grown, planned, plan}
use Rattle.session.specs.Begun.{Long, LentSession, start, then}
use Rattle.session.proofs.Base.{none_some, some_same, first_none, check_none, slot_small, slot_handle, named}
use Rattle.session.proofs.Coherent.{Coherent, placed_blocks, placed_wires, placed_agrees, removed_blocks, removed_wires, removed_agrees, sourced_wires, edited_blocks, edited_agrees, settled_blocks, settled_agrees, carried_same, long_put, long_some, some_still}

-- why a call was refused
pub record Barred {R S : Type 0} (m : Meaning R S) (c : Call) (w : World R S) (a : Answer) (v : World R S) : Type 0 where
  pub why : Refusal
  pub was : Refused m why w a v
  pub by : (first (checks m c w.chart) ≡ Some why) ⊎ ((first (checks m c w.chart) ≡ None) × ((refusing m c w.records ≡ Some why) ⊎ ((why ≡ MakesRing) × Closes m c w)))

-- no check applied, and the call was accepted
pub record LetThrough {R S : Type 0} (m : Meaning R S) (c : Call) (w : World R S) (a : Answer) (v : World R S) : Type 0 where
  pub clear : first (checks m c w.chart) ≡ None
  pub fit : refusing m c w.records ≡ None
  pub accepted : Accepted m c w a v

-- a call is refused or let through
pub does_cases : {R S : Type 0} (m : Meaning R S) (c : Call) (w : World R S) (a : Answer) (v : World R S) → Does m c w a v → Barred m c w a v ⊎ LetThrough m c w a v
does_cases m c w a v = go (first (checks m c w.chart)) (refusing m c w.records) refl refl
  where
    go : (o l : Option Refusal) → first (checks m c w.chart) ≡ o → refusing m c w.records ≡ l → By m o l c w a v → Barred m c w a v ⊎ LetThrough m c w a v
    go (Some n) l e f d = inl (record { why = n; was = d; by = inl e })
    go None (Some n) e f d = inl (record { why = n; was = d; by = inr (e, inl f) })
    go None None e f (inl d) = inl (record { why = MakesRing; was = d.1; by = inr (e, inr (refl, d.0)) })
    go None None e f (inr d) = inr (record { clear = e; fit = f; accepted = d })

-- of a call whose checks are that no scan is open and that a block is placed
pub open_named : (a b : Bool) → first (when a DiagramOpen ∷ when (not b) UnknownHandle ∷ []) ≡ None → (a ≡ false) × (b ≡ true)
open_named a b e = let x = check_none a DiagramOpen _ e in (x.0, not-false b (check_none (not b) UnknownHandle [] x.1).0)

-- the slot that a place takes, where there is one
free_is : (o : Option ℕ) → not (is_some o) ≡ false → o ≡ Some (or_else 0 o)
free_is None e = absurd (both_ways true e refl)
free_is (Some s) e = refl

scan_open : (o : Option ℕ) (n : ℕ) → is_scan o n ≡ true → is_some o ≡ true
scan_open None n e = e
scan_open (Some k) n e = refl

unmapped : (o : Option ℕ) → on_some BadParameter o ≡ None → o ≡ None
unmapped None e = refl
unmapped (Some n) e = absurd (none_some (Some (BadParameter n)) e refl)

passed : {A B : Type 0} (f : A → Option B) (o : Option A) (a : A) → look f o ≡ None → o ≡ Some a → f a ≡ None
passed f None a e is = absurd (none_some None refl is)
passed f (Some b) a e is = ap f (sym (some_same (Some b) refl is)) ∙ e

module _ {R S : Type 0} (m : Meaning R S) (lawful : Lawful m) (w : World R S) where
  -- what the checks that were passed say
  pub named_by : (h : ℕ) → first (when (is_some w.chart.scan) DiagramOpen ∷ when (not (names w.chart h)) UnknownHandle ∷ []) ≡ None → names w.chart h ≡ true
  named_by h e = (open_named _ _ e).1

  pub free_at : (kind : ℕ) (x : Params) → first (checks m (place kind x) w.chart) ≡ None → (w.chart.placed (free w.chart) ≡ false) × (free w.chart < 256)
  free_at kind x e =
      let a = (check_none (is_some w.chart.scan) DiagramOpen _ e).1 in
      let b = (check_none (not (m.exists kind)) UnknownKind _ a).1 in
      let d = (first_none (on_some BadParameter (m.bad kind x)) _ b).1 in
      w.sound.empty (free w.chart) (free_is (free_of w.chart.freed w.chart.used) (check_none _ NoFreeSlot [] d).0)

  pub wire_ends : (t p s : ℕ) → first (checks m (wire t p s) w.chart) ≡ None → (names w.chart t ≡ true) × (names w.chart s ≡ true)
  wire_ends t p s e =
      let a = (check_none (is_some w.chart.scan) DiagramOpen _ e).1 in
      and_parts (names w.chart t) (names w.chart s) (not-false _ (check_none (not (names w.chart t && names w.chart s)) UnknownHandle _ a).0)

  pub cut_end : (t p : ℕ) → first (checks m (cut t p) w.chart) ≡ None → names w.chart t ≡ true
  cut_end t p e =
      let a = (check_none (is_some w.chart.scan) DiagramOpen _ e).1 in
      not-false _ (check_none (not (names w.chart t)) UnknownHandle _ a).0

  pub settle_open : (n : ℕ) → first (checks m (settle n) w.chart) ≡ None → is_some w.chart.scan ≡ true
  settle_open n e = scan_open w.chart.scan n (not-false _ (check_none _ WrongScan [] e).0)

  module _ (P : Plan R S) (was : Coherent m P w.chart w.records w.signals) where
    solved_handle : P.opened ≡ true → (t p u : ℕ) → w.chart.source t p ≡ Some u → P.solved (handle w.chart u) ≡ w.signals u
    solved_handle o t p u e = was.solved o (handle w.chart u) ∙ ap w.signals (slot_handle w.chart u (w.sound.small u (w.sound.heads t p u e)))

    -- an acceptable edit keeps the ports
    edit_keeps : (x : Edit) (r : R) → amiss m x r ≡ None → SamePorts m.ports m.late (edited m x r) r
    edit_keeps (tune x) r e = lawful.kind.tuned_same r x (unmapped (m.unfit r x) e)
    edit_keeps (feed n) r e = lawful.kind.fed_same r n

    -- the plan and the chart after an accepted call; σ are the signals after it
    pub accept : (c : Call) → first (checks m c w.chart) ≡ None → refusing m c w.records ≡ None → (σ : ℕ → S) → ((s : ℕ) → σ s ≡ signalled m c w s) → Coherent m (grown m c (given c w.chart) σ P) (charted m c w.chart) (recorded m c w) σ
    accept (place kind x) e f σ sig =
        let at = free_at kind x e in
        let s = free w.chart in
        let r = m.fresh kind x in
        record {
          blocks = λ h. ap (λ (g : ℕ → Option R). put g (handle w.chart s) (Some r) h) (fun_ext was.blocks) ∙ placed_blocks m w.chart w.records s at.1 at.0 r h;
          wires = λ h p. was.wires h p ∙ placed_wires m w.chart w.records s at.1 at.0 r h p;
          opened = was.opened;
          solved = λ o h. absurd (both_ways _ (check_none (is_some w.chart.scan) DiagramOpen _ e).0 (sym was.opened ∙ o));
          agrees = placed_agrees m w.chart w.records s at.1 at.0 r was.agrees;
          long = long_put w.records s (Some r) refl was.long;
        }
    accept (remove g) e f σ sig =
        let on = named_by g e in
        record {
          blocks = λ h. ap (λ (k : ℕ → Option R). put k g None h) (fun_ext was.blocks) ∙ removed_blocks m w.chart w.order w.rank w.sound w.records g on h;
          wires = λ h p. ap (λ o. cond (eqb h g) None (off g o)) (was.wires h p) ∙ removed_wires m w.chart w.order w.rank w.sound w.records g on h p;
          opened = was.opened;
          solved = λ o h. was.solved o h ∙ sym (sig (slot h));
          agrees = removed_agrees m w.chart w.order w.rank w.sound w.records g on was.agrees;
          long = was.long;
        }
    accept (wire t q s) e f σ sig =
        let on = wire_ends t q s e in
        record {
          blocks = was.blocks;
          wires = λ h p. ap (λ (k : ℕ → ℕ → Option ℕ). put k t (put (k t) q (Some s)) h p) (fun_ext (λ x. fun_ext (was.wires x)))
              ∙ sourced_wires w.chart t on.0 q (Some s) (Some (slot s)) (ap Some (named w.chart s on.1).1) h p;
          opened = was.opened;
          solved = λ o h. was.solved o h ∙ sym (sig (slot h));
          agrees = was.agrees;
          long = was.long;
        }
    accept (cut t q) e f σ sig =
        record {
          blocks = was.blocks;
          wires = λ h p. ap (λ (k : ℕ → ℕ → Option ℕ). put k t (put (k t) q None) h p) (fun_ext (λ x. fun_ext (was.wires x)))
              ∙ sourced_wires w.chart t (cut_end t q e) q None None refl h p;
          opened = was.opened;
          solved = λ o h. was.solved o h ∙ sym (sig (slot h));
          agrees = was.agrees;
          long = was.long;
        }
    accept (edit g x) e f σ sig =
        record {
          blocks = λ h. ap (λ (k : ℕ → Option R). put k g (on_some (edited m x) (k g)) h) (fun_ext was.blocks) ∙ edited_blocks w.chart w.records g (named_by g e) (edited m x) h;
          wires = was.wires;
          opened = was.opened;
          solved = λ o h. was.solved o h ∙ sym (sig (slot h));
          agrees = edited_agrees m w.chart w.records (slot g) (edited m x) (λ r is. edit_keeps x r (passed (amiss m x) (w.records (slot g)) r f is)) was.agrees;
          long = long_put w.records (slot g) _ (some_still (edited m x) (w.records (slot g)) ∙ was.long (slot g) (slot_small g)) was.long;
        }
    accept solve e f σ sig =
        record {
          blocks = was.blocks;
          wires = was.wires;
          opened = refl;
          solved = λ o h. refl;
          agrees = was.agrees;
          long = was.long;
        }
    accept (settle n) e f σ sig =
        let o : P.opened ≡ true = was.opened ∙ settle_open n e in
        let here = inputs_of m w.signals in
        let there = inputs_of m P.solved in
        record {
          blocks = λ h. ap (on_some (λ r. m.next r (there (P.source h)))) (was.blocks h)
              ∙ settled_blocks m w.chart w.records (λ s r. m.next r (here (w.chart.source s))) (λ k r. m.next r (there (P.source k)))
              (λ k on. fun_ext (λ r. ap (m.next r) (carried_same m P w.chart was.wires k on P.solved w.signals (solved_handle o)))) h;
          wires = was.wires;
          opened = refl;
          solved = λ z h. absurd (both_ways false refl z);
          agrees = settled_agrees m w.chart w.records (λ s r. m.next r (here (w.chart.source s))) (λ s r. lawful.kind.next_same r _) was.agrees;
          long = long_some w.records w.chart.placed (λ s r. m.next r (here (w.chart.source s))) was.long;
        }

    pub steps : (c : Call) (a : Answer) (v : World R S) (σ : ℕ → S) → Does m c w a v → ((s : ℕ) → σ s ≡ v.signals s) → Coherent m (planned m c a σ P) v.chart v.records v.signals
    steps c a v σ does same = elim (does_cases m c w a v does) [
      | inl b ↦
          let Q : Plan R S = planned m c a σ P in
          let e : Q ≡ P = ap (λ x. planned m c x σ P) b.was.answer in
          let x : Coherent m Q w.chart w.records w.signals = subst (λ (y : Plan R S). Coherent m y w.chart w.records w.signals) (sym e) was in
          subst (λ (y : World R S). Coherent m Q y.chart y.records y.signals) (sym b.was.same) x
      | inr d ↦
          let x = accept c d.clear d.fit v.signals d.accepted.signals in
          let y = subst (λ z. Coherent m (grown m c (given c w.chart) v.signals P) z (recorded m c w) v.signals) (sym d.accepted.chart) x in
          let z = subst (λ (k : ℕ → Option R). Coherent m (grown m c (given c w.chart) v.signals P) v.chart k v.signals) (sym (fun_ext d.accepted.records)) y in
          let u = subst (λ (k : ℕ → S). Coherent m (grown m c (given c w.chart) k P) v.chart v.records v.signals) (sym (fun_ext same)) z in
          subst (λ k. Coherent m (planned m c k σ P) v.chart v.records v.signals) (sym d.accepted.answer) u
    ]

module _ {R S : Type 0} (m : Meaning R S) (lawful : Lawful m) where
  -- in a fresh diagram nothing stands
  started : (w : World R S) → w.chart ≡ empty → Long w.records → Coherent m (plan m []) w.chart w.records w.signals
  started w e long = subst (λ c. Coherent m (plan m []) c w.records w.signals) (sym e)
      (record { blocks = λ h. refl; wires = λ h p. refl; opened = refl; solved = λ z h. absurd (both_ways false refl z); agrees = λ s r on is. absurd (both_ways false refl on); long = long })

  -- the plan of a session says what its diagram says
  pub coherent : (es : List (Event S)) (w : World R S) → LentSession m es w → Coherent m (plan m es) w.chart w.records w.signals
  coherent es w (start e long) = started w e long
  coherent es v (then {w} {es = fs} e s does same) = steps m lawful w (plan m fs) (coherent fs w s) e.call e.answer v e.signals does same
