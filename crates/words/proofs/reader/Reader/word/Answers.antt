use Rattle.std.proofs.Common.{◌∷◌, sym, ◌∙◌}
use Rattle.words.specs.Parts.{words_left}
use Rattle.words.proofs.Steps.{word_here}
use Rattle.words.proofs.reader.Reader.word.Goals as goal

pub returns-clause-gives : goal.returns-clause-gives
returns-clause-gives c =
    word_here c.args.self.now.text.now c.part-last.result.0.now c.args.self.now.at c.part-last.new.self.at c.args.self.now.over c.part-last.result.1 c.requires c.part-last.ensures.part
    ∙ (λ i. c.part-last.result.0.now ∷ words_left (sym c.part-last.ensures.same.0 i).now c.part-last.new.self.at c.part-last.result.1)
