use Rattle.std.proofs.Common.{◌≡◌, length, rules, arith, length-drop}
use Rattle.words.proofs.Steps.{no_line}
use Rattle.words.proofs.reader.Reader.next_line.Goals as goal

pub returns-then-is_spent-clause-gives : goal.returns-then-is_spent-clause-gives
returns-then-is_spent-clause-gives c =
    let e : c.args.self.now.at ≡ length c.args.self.now.text.now = search rules in
    no_line _ (omega (arith, e, length-drop c.args.self.now.at c.args.self.now.text.now))
