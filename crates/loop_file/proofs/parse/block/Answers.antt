use Rattle.std.proofs.Common.{sym, subst}
use Rattle.loop_file.specs.Orders.{Numbers}
use Rattle.loop_file.proofs.Next.{rest, next}
use Rattle.loop_file.proofs.parse.block.Goals as goal

pub returns-in_err-params : goal.returns-in_err-params
returns-in_err-params c = rw c.from_residual-in_err-params.ensures (λ n k p q r h.
    let e = next c.in_ok-kind.ensures.0 (next c.in_ok-name.ensures.0 (rest h.1)) in
    c.in_err-params.ensures p q r (subst (λ ws. Numbers ws p q r) (sym e) h.4) h.5 h.6 h.7)
