use Rattle.loop_file.proofs.Next.{rest, next}
use Rattle.loop_file.proofs.parse.tune.Goals as goal

pub returns-in_err-q : goal.returns-in_err-q
returns-in_err-q c = rw c.from_residual-in_err-q.ensures (λ n p q r h. c.in_err-q.ensures q _ (next c.in_ok-p.ensures.0 (next c.in_ok-name.ensures.0 (rest h.0))) h.3)

pub returns-in_err-r : goal.returns-in_err-r
returns-in_err-r c = rw c.from_residual-in_err-r.ensures (λ n p q r h. c.in_err-r.ensures r _ (next c.in_ok-q.ensures.0 (next c.in_ok-p.ensures.0 (next c.in_ok-name.ensures.0 (rest h.0)))) h.4)
