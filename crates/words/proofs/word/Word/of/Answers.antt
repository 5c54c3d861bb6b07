use Rattle.std.proofs.Common.{refl}
use Rattle.words.proofs.Numerals.{name_no_number}
use Rattle.words.proofs.word.Word.of.Goals as goal

pub returns-then-is_name : goal.returns-then-is_name
returns-then-is_name c = let n = c.is_name.ensures.0 c.if-is_name.true in (refl, n, name_no_number c.args.bytes.now n)
