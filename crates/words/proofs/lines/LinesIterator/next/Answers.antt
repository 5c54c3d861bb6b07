use Rattle.words.proofs.Readers.{line_rest}
use Rattle.words.proofs.lines.LinesIterator.next.Goals as goal

pub returns-clause-rest : goal.returns-clause-rest
returns-clause-rest c = line_rest c.args.self.now.reader c.next_line.new.self c.next_line.result c.next_line.ensures.same c.next_line.ensures.place
