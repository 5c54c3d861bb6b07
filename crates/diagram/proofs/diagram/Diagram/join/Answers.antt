use Rattle.std.proofs.Common.{◌≡◌, refl, sym, ◌∙◌, Some, None, Ok, Err, Result, inl, inr, rules}
use Rattle.std.specs.Result.{OnErr}
use Rattle.wiring.specs.Faults.{connect_fault}
use Rattle.wiring.specs.View.{layout}
use Rattle.wiring.proofs.Stays.{still_placed}
use Rattle.diagram.specs.Chart.{slot}
use Rattle.diagram.proofs.Joined.{joined_chart}
use Rattle.diagram.proofs.Ring.{ring_in_chart}
use Rattle.diagram.proofs.diagram.Diagram.join.Goals as goal

-- what is so whatever the result is
told : {T E X : Type 0} (r : Result T E) → X → OnErr r X
told (Ok _) x = search rules
told (Err _) x = x

pub invariant_of-self : goal.invariant_of-self
invariant_of-self g c =
    let d = c.args.self.now in
    record { agree = λ u. still_placed _ _ _ _ _ c.in_ok-wiring.ensures.ok.2 u ∙ d.agree u }

pub returns-clause-ok : goal.returns-clause-ok
returns-clause-ok g c =
    let d = c.args.self.now in
    let k = c.in_ok-wiring.ensures.ok in
    (joined_chart d c.in_ok-wiring.wiring (λ u. still_placed _ _ _ _ _ k.2 u ∙ d.agree u) (slot c.args.target) c.args.port (slot c.args.source) k.2, k.2.order)

pub returns-in_err-wiring-clause-err : goal.returns-in_err-wiring-clause-err
returns-in_err-wiring-clause-err g c =
    let d = c.args.self.now in
    let none : connect_fault (layout d.wiring) (slot c.args.target) c.args.port (slot c.args.source) ≡ None = search rules in
    told c.from_residual.result (refl, elim c.in_err-wiring.ensures.err [ inl fault ↦ absurd (let z : None ≡ Some _ = sym none ∙ fault in cc) | inr ring ↦ ring_in_chart d (slot c.args.target) c.args.port (slot c.args.source) ring.2 ])
