use Rattle.std.proofs.Common.{◌≡◌, sym, ◌∙◌, arith}
use Rattle.std.proofs.lemmas.Fmt.{decimal_injective}
use Rattle.words.proofs.Numerals.{minus}
use Rattle.words.proofs.word.negative.Goals as goal

pub returns-in_err-n : goal.returns-in_err-n
returns-in_err-n c = rw c.from_residual.ensures (λ z h. let m = minus c.args.s.now z h in c.in_err-n.ensures m.0 m.2 m.3)

pub returns-then-n-eq0 : goal.returns-then-n-eq0
returns-then-n-eq0 c = λ z h.
    let m = minus c.args.s.now z h in
    let e : c.in_ok-n.n ≡ m.0 = decimal_injective c.in_ok-n.n m.0 (omega arith) (omega (arith, m.2)) (sym c.in_ok-n.ensures.1 ∙ m.3) in
    omega (arith, m.1)
