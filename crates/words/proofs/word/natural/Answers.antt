use Rattle.std.proofs.Common.{rules}
use Rattle.words.proofs.Numerals.{read_or_none}
use Rattle.words.proofs.word.natural.Goals as goal

pub returns : goal.returns
returns c = read_or_none c.args.s.now c.is_numeral.result c.then.result c.is_numeral.ensures c.then.ensures.variant (search rules)
