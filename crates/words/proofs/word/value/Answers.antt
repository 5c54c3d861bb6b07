use Rattle.std.proofs.Common.{◌≡◌, ◌+◌, ◌-◌, ◌*◌, ◌^◌, ◌≤◌, get_or, drop, rules, decimal, sym, ap, ◌∙◌, arith}
use Rattle.std.proofs.lemmas.List.{at_drop_more, at_drop_all}
use Rattle.words.proofs.Numerals.{read_on, below, small, digit_here, numeral_is}
use Rattle.words.proofs.word.value.Goals as goal

pub overflow_mul-n : goal.overflow_mul-n
overflow_mul-n c = omega (arith, small c.loop-digit.digit-index (omega arith))

pub overflow_add-n : goal.overflow_add-n
overflow_add-n c = omega (arith, small c.loop-digit.digit-index (omega arith), (digit_here c.args.s.now c.loop-digit.digit-index (omega arith) c.loop-digit.invariant.1).1)

pub loop-digit-preserved : goal.loop-digit-preserved
loop-digit-preserved c =
    let d = digit_here c.args.s.now c.loop-digit.digit-index (omega arith) c.loop-digit.invariant.1 in
    let f : c.from.result ≡ get_or c.args.s.now c.loop-digit.digit-index 0 - 48 = search rules in
    (ap (λ x. read_on (c.loop-digit.n * 10 + x) (drop (c.loop-digit.digit-index + 1) c.args.s.now)) f ∙ sym (at_drop_more (read_on c.loop-digit.n) c.args.s.now c.loop-digit.digit-index 0 (omega arith)) ∙ c.loop-digit.invariant.0, d.2, below _ _ _ c.loop-digit.invariant.2 (omega arith))

pub returns : goal.returns
returns c =
    let e : read_on c.loop-digit.n (drop c.loop-digit.digit-index c.args.s.now) ≡ c.loop-digit.n = at_drop_all (read_on c.loop-digit.n) c.args.s.now c.loop-digit.digit-index (omega arith) in
    let p : 10 ^ c.loop-digit.digit-index ≤ 10000000 = small c.loop-digit.digit-index (omega arith) in
    let n : c.loop-digit.n ≡ read_on 0 c.args.s.now = sym e ∙ c.loop-digit.invariant.0 in
    (omega arith, numeral_is c.args.s.now c.requires (omega arith) ∙ ap decimal (sym n))
