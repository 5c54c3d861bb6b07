use Rattle.std.proofs.Common.{rules, ◌≡◌, pos, arith, inl, inr, sym, ap, ◌∙◌, unsigned_abs}
use Rattle.loop_file.proofs.Next.{same_number, natural}
use Rattle.loop_file.proofs.take.number_among.Goals as goal

pub returns-in_err-number_word : goal.returns-in_err-number_word
returns-in_err-number_word c = rw c.from_residual.ensures (λ n ws e l h. c.in_err-number_word.ensures (pos n) ws e (omega arith))

pub returns-in_err-n : goal.returns-in_err-n
returns-in_err-n c = rw c.from_residual-in_err-n.ensures (λ n ws e l h.
    let k : c.in_ok-number_word.field-0 ≡ pos n = same_number _ n c.in_ok-number_word.ensures.0 e c.in_ok-number_word.ensures.1 (omega arith) in
    search (rules, k))

pub returns-then-n-low : goal.returns-then-n-low
returns-then-n-low c = λ n ws e l h.
    let k : c.in_ok-number_word.field-0 ≡ pos n = same_number _ n c.in_ok-number_word.ensures.0 e c.in_ok-number_word.ensures.1 (omega arith) in
    let v : c.in_ok-number_word.field-0 ≡ pos c.in_ok-n.n = search (rules, natural) in
    elim c.then-n-low.either [ inl low ↦ omega (arith, ap unsigned_abs (sym k ∙ v)) | inr high ↦ omega (arith, ap unsigned_abs (sym k ∙ v)) ]
