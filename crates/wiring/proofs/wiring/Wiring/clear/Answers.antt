use Rattle.std.proofs.Common.{◌≡◌, ℕ, ◌<◌, ◌≤◌, length, set, sym, ◌∙◌, arith, rules}
use Rattle.wiring.specs.Sound.{live_of, rank_in}
use Rattle.wiring.specs.Change.{off}
use Rattle.wiring.specs.Layout.{Layout, layout_of, ports_at}
use Rattle.wiring.specs.View.{layout}
use Rattle.wiring.proofs.Whole.{sound}
use Rattle.wiring.proofs.Wires.{Fewer, fewer_sound, set_fewer, set_few, off_some}
use Rattle.wiring.proofs.wiring.Wiring.clear.Goals as goal

-- the wires that a cut leaves were there
cut_fewer : (l m : Layout) (slot : ℕ) → ((t : ℕ) → m.ports t ≡ l.ports t) → ((t p : ℕ) → m.late t p ≡ l.late t p) → ((t p : ℕ) → m.source t p ≡ off slot (l.source t p)) → Fewer l m
cut_fewer l m slot ports late source = record {
  source = λ s t p e. (off_some slot (l.source t p) s (sym (source t p) ∙ e)).0;
  ports = λ s t p e. ports t;
  late = λ s t p e. late t p;
}

pub invariant_of-self : goal.invariant_of-self
invariant_of-self c =
    let w = c.args.self.now in
    let s = c.args.slot in
    let mid = c.cut_off.new.slots in
    let b = c.none.result in
    let cut = c.cut_off.ensures in
    let small : s < length mid = search rules in
    let few : (t : ℕ) → ports_at mid t ≤ 3 = λ t. let h = w.few t in omega (arith, cut.ports t) in
    let y = fewer_sound (layout w) (layout_of w.count w.order mid) (cut_fewer (layout w) (layout_of w.count w.order mid) s cut.ports cut.late cut.source) w.count w.order (rank_in w.rank) (live_of w.rank) few (sound w) in
    let x = fewer_sound (layout_of w.count w.order mid) (layout_of w.count w.order (set mid s b)) (set_fewer mid s b small c.none.ensures.source w.count w.count w.order w.order) w.count w.order (rank_in w.rank) (live_of w.rank)
    (set_few mid s b small c.none.ensures.source (omega (arith, c.none.ensures.ports)) few) y in
    record { room = w.room; sized = w.sized; placed = x.placed; ranked = x.ranked; few = x.few; fits = x.fits; heads = x.heads; tails = x.tails; ascends = x.ascends }
