use Rattle.std.proofs.Common.{◌≡◌, ℕ, ◌+◌, ◌-◌, ◌<◌, ◌≤◌, Bool, true, false, List, length, get_or, set, replicate, Decides, sym, ap, ◌∙◌, subst, inl, inr, arith, rules}
use Rattle.std.proofs.lemmas.List.{length-set, length-replicate, get_or-set_same}
use Rattle.std.proofs.lemmas.Bool.Decides.{not_from_Decides}
use Rattle.std.proofs.lemmas.Bool.{cases_Bool}
use Rattle.wiring.specs.Sound.{live_of, rank_in}
use Rattle.wiring.specs.Layout.{rank_of, no_block}
use Rattle.wiring.specs.Pass.{Fed, Marks, marked, segment}
use Rattle.wiring.specs.View.{layout}
use Rattle.wiring.proofs.Counts.{count_none, count_ahead, count_other}
use Rattle.wiring.proofs.Passes.{marks_none, marks_yes, marks_no}
use Rattle.wiring.proofs.Places.{length-segment, seg_of}
use Rattle.wiring.proofs.Whole.{alive, rank_at, sound}
use Rattle.wiring.proofs.wiring.Wiring.pass.Goals as goal
use Rattle.wiring.proofs.wiring.Wiring.pass.Goals.{then-fed, else-fed}

pub loop-slot-init : goal.loop-slot-init
loop-slot-init c =
    let w = c.args.self.now in
    let t = c.args.target in
    let on = alive w t c.requires.target in
    let is = rank_at w t c.requires.target in
    let m = set (replicate 256 false) t true in
    let lm : length m ≡ 256 = length-set (replicate 256 false) t true ∙ length-replicate 256 false in
    let a = rank_of (layout w) t in
    let marked_t : get_or m (get_or w.order a 0) false ≡ true = ap (λ s. get_or m s false) (ap (λ n. get_or w.order n 0) is ∙ (w.ranked t on).1) ∙ get_or-set_same (replicate 256 false) t true false (omega (arith, length-replicate 256 false)) in
    let M : List Bool → ℕ → Type 0 = λ x n. (length x ≡ 256) × Marks (layout w) (rank_in w.rank) t n x × (◌≡◌ {A = ℕ} 0 (length (marked x false (segment w.order a n)))) × (0 ≤ n) in
    let start : M m (a + 1) = (lm, subst (λ (n : ℕ). Marks (layout w) (rank_in w.rank) t (n + 1) m) (sym is) (marks_none w.count w.order (rank_in w.rank) (live_of w.rank) (layout w) (sound w) t on (search rules)), sym (count_none w.order a m (omega (arith, (w.ranked t on).0, w.room, is)) marked_t), omega arith) in
    let z : a + 1 ≡ c.args.from + 0 = omega (arith, c.requires.from) in
    subst (λ (x : List Bool). M x (c.args.from + 0)) (sym c.requires.marks) (subst (M m) z start)

pub loop-slot-preserved : goal.loop-slot-preserved
loop-slot-preserved c =
    let w = c.args.self.now in
    let t = c.args.target in
    let r = c.args.from + c.loop-slot.slot-index in
    let slot = get_or (segment w.order c.args.from c.args.to) c.loop-slot.slot-index 0 in
    let m = c.loop-slot.marks in
    let inv = c.loop-slot.invariant in
    let on = alive w t c.requires.target in
    let is = rank_at w t c.requires.target in
    let a = rank_of (layout w) t in
    let low : c.loop-slot.slot-index < c.args.to - c.args.from = omega (arith, length-segment w.order c.args.from c.args.to (omega arith) (omega arith), c.loop-slot-test.true) in
    let in' : r < w.count = omega arith in
    let past : get_or (rank_in w.rank) t 0 < r = omega (arith, c.requires.from, is) in
    let x = get_or w.order r 0 in
    let at : slot ≡ x = seg_of w.order c.args.from c.args.to c.loop-slot.slot-index low in
    let fed : Decides c.fed.result (Fed (get_or w.slots x no_block) m) = subst (λ (s : ℕ). Decides c.fed.result (Fed (get_or w.slots s no_block) m)) at c.fed.ensures in
    let here = (w.placed r in').1 in
    let M : List Bool → ℕ → ℕ → Type 0 = λ y n k. (length y ≡ 256) × Marks (layout w) (rank_in w.rank) t k y × (n ≡ length (marked y false (segment w.order a k))) × (n ≤ k) in
    let next : r + 1 ≡ c.args.from + (c.loop-slot.slot-index + 1) = omega arith in
    let stands : M c.if-fed.marks c.if-fed.others (r + 1) =
    elim c.if-fed.branch [
      | then-fed v ↦
          let apart : (i : ℕ) → a ≤ i → i < r → get_or w.order i 0 ≡ x → ⊥ = λ i h k e. let z : i ≡ r = sym (w.placed i (omega arith)).1 ∙ ap (λ s. get_or (rank_in w.rank) s 0) e ∙ here in omega arith in
          let y : M (set m x true) c.loop-slot.others (r + 1) = (
            length-set m x true ∙ inv.0,
            marks_yes w.count w.order (rank_in w.rank) (live_of w.rank) (layout w) (sound w) t on r m in' past inv.1 inv.0 (search rules) (fed.0 v.if-fed.true),
            inv.2 ∙ sym (count_ahead w.order a r (omega arith) (search rules) m (search rules) apart),
            omega (arith, inv.3),
          ) in
          subst (λ (n : ℕ). M c.if-fed.marks n (r + 1)) (sym v.others-is) (subst (λ (z : List Bool). M z c.loop-slot.others (r + 1)) (sym (v.marks-is ∙ ap (λ s. set m s true) at)) y)
      | else-fed v ↦
          let unmarked : get_or m x false ≡ false = elim (cases_Bool (get_or m x false)) [ inl e ↦ absurd (let k = ((inv.1 x).0 e).1 in omega arith) | inr e ↦ e ] in
          let y : M m (c.loop-slot.others + 1) (r + 1) = (
            inv.0,
            marks_no w.count w.order (rank_in w.rank) (live_of w.rank) (layout w) (sound w) t on r m in' past inv.1 (not_from_Decides c.fed.result fed v.if-fed.false),
            ap (λ n. n + 1) inv.2 ∙ sym (count_other w.order a r (omega arith) (search rules) m unmarked),
            omega (arith, inv.3),
          ) in
          subst (λ (n : ℕ). M c.if-fed.marks n (r + 1)) (sym v.others-is) (subst (λ (z : List Bool). M z (c.loop-slot.others + 1) (r + 1)) (sym v.marks-is) y)
    ] in
    subst (M c.if-fed.marks c.if-fed.others) next stands
