use Rattle.std.proofs.Common.{◌∷◌, sym, ◌∙◌}
use Rattle.words.specs.Parts.{lines_left}
use Rattle.words.proofs.Steps.{line_here}
use Rattle.words.proofs.reader.Reader.line.Goals as goal

pub returns-clause-gives : goal.returns-clause-gives
returns-clause-gives c =
    line_here c.args.self.now.text.now c.part.result.0.now c.args.self.now.at c.part.new.self.at c.part.result.1 c.requires c.part.ensures.part
    ∙ (λ i. c.part.result.0.now ∷ lines_left (sym c.part.ensures.same.0 i).now c.part.new.self.at)
