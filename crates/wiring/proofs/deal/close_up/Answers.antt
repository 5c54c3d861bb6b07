use Rattle.std.proofs.Common.{◌≡◌, ℕ, ◌+◌, ◌-◌, ◌<◌, Bool, true, false, List, get_or, sym, ap, ◌∙◌, arith}
use Rattle.std.specs.List.{CopiedTo}
use Rattle.wiring.specs.Pass.{segment}
use Rattle.wiring.specs.Sound.{live_of, rank_in}
use Rattle.wiring.proofs.Standing.{rank_in-set, live_still, live_in}
use Rattle.wiring.proofs.Places.{length-segment, seg_of}
use Rattle.wiring.proofs.Ranking.{ranking_more}
use Rattle.wiring.proofs.deal.close_up.Goals as goal

-- what stands in the segment stood one rank higher
lowered : (xs ys : List ℕ) (a b : ℕ) → CopiedTo xs ys (a + 1) a (b + 1 - (a + 1)) → (k : ℕ) → k < b - a → get_or (segment ys a b) k 0 ≡ get_or xs (a + k + 1) 0
lowered xs ys a b copied k l = seg_of ys a b k l ∙ copied (a + k) 0 (omega arith) (omega arith) ∙ ap (λ n. get_or xs n 0) (let z : a + 1 + (a + k - a) ≡ a + k + 1 = omega arith in z)

pub loop-i-preserved : goal.loop-i-preserved
loop-i-preserved c =
    let a = c.args.from in
    let i = c.loop-i.i in
    let inv = c.loop-i.invariant in
    let stood = lowered c.args.order.now c.copy_within.new.self a c.args.last c.copy_within.ensures.by_index.0 in
    let slot = get_or (segment c.copy_within.new.self a c.args.last) i 0 in
    let low : i < c.args.last - a = omega (arith, length-segment c.copy_within.new.self a c.args.last (omega arith) (omega arith), c.loop-i-test.true) in
    let on : get_or (live_of c.loop-i.rank) slot false ≡ true = ap (λ (xs : List Bool). get_or xs slot false) inv.live ∙ ap (λ s. get_or (live_of c.args.rank.now) s false) (stood i low) ∙ c.requires.live (a + i + 1) (omega arith) (omega arith) in
    record {
      ranking = rw (rank_in-set c.loop-i.rank slot (a + i)) (ranking_more (λ k l e.
          let z : a + k + 1 ≡ a + i + 1 = sym (c.requires.ranked (a + k + 1) (omega arith) (omega arith)) ∙ ap (λ s. get_or (rank_in c.args.rank.now) s 0) (sym (stood k (omega arith)) ∙ e ∙ stood i low) ∙ c.requires.ranked (a + i + 1) (omega arith) (omega arith) in
          omega arith)
          (live_in c.loop-i.rank slot on) inv.ranking);
      live = live_still c.loop-i.rank slot (a + i) on ∙ inv.live;
    }

pub returns-clause-here : goal.returns-clause-here
returns-clause-here c = λ r u v.
    let a = c.args.from in
    let stood = lowered c.args.order.now c.copy_within.new.self a c.args.last c.copy_within.ensures.by_index.0 in
    let z : a + (r - a) ≡ r = omega arith in
    ap (λ n. get_or (rank_in c.loop-i.rank) n 0) (ap (λ n. get_or c.args.order.now (n + 1) 0) (sym z) ∙ sym (stood (r - a) (omega arith)))
    ∙ c.loop-i.invariant.ranking.here (r - a) (omega (arith, length-segment c.copy_within.new.self a c.args.last (omega arith) (omega arith))) ∙ z

pub returns-clause-other : goal.returns-clause-other
returns-clause-other c = λ s none.
    let a = c.args.from in
    let stood = lowered c.args.order.now c.copy_within.new.self a c.args.last c.copy_within.ensures.by_index.0 in
    c.loop-i.invariant.ranking.other s (λ k l e. let low : k < c.args.last - a = omega (arith, length-segment c.copy_within.new.self a c.args.last (omega arith) (omega arith)) in none (a + k) (omega arith) (omega arith) (sym (stood k low) ∙ e))
