use Rattle.std.proofs.Common.{◌∷◌, sym, ap, ◌∙◌}
use Rattle.words.specs.Left.{words_left}
use Rattle.loop_file.proofs.Spaced.{no_words}
use Rattle.loop_file.proofs.Verbs.{first, no_verb, said_by_verb}
use Rattle.loop_file.proofs.parse.by_words.Goals as goal

pub returns-in_err-next : goal.returns-in_err-next
returns-in_err-next c = rw c.from_residual.ensures (λ _. no_words c.args.line.now (sym c.of-words.ensures.words ∙ c.in_err-next.ensures.steps.0))

pub returns-in_err-verb : goal.returns-in_err-verb
returns-in_err-verb c = rw c.from_residual-in_err-verb.ensures
    (no_verb c.args.line.now c.requires.1 (λ v e. c.in_err-verb.ensures v (ap first (sym c.in_ok-next.ensures.steps ∙ c.of-words.ensures.words) ∙ e)))

pub returns : goal.returns
returns c =
    let left = words_left c.next.new.self in
    said_by_verb c.args.line.now c.requires.0 c.requires.1 c.in_ok-verb.verb left
    (sym c.of-words.ensures.words ∙ c.in_ok-next.ensures.steps ∙ ap (λ w. w ∷ left) c.in_ok-verb.ensures) c.arguments.result c.arguments.ensures
