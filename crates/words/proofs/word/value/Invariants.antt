use Rattle.std.proofs.Common.{◌≡◌, ◌^◌, ◌<◌, true, drop}
use Rattle.std.specs.Str.{all_ascii_digits}
use Rattle.words.proofs.Numerals.{read_on}
use Rattle.words.proofs.word.value.Given as goal

abbrev pub invariant-loop-digit : goal.invariant-loop-digit
invariant-loop-digit l = (read_on l.n (drop l.digit-index l.s) ≡ read_on 0 l.s) × (all_ascii_digits (drop l.digit-index l.s) ≡ true) × (l.n < 10 ^ l.digit-index)
