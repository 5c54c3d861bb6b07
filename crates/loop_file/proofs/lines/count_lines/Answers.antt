use Rattle.std.proofs.Common.{◌≡◌, ◌+◌, [], length, get_or, drop, sym, refl, ap, ◌∙◌, subst, inr, arith, rules, length-drop, below_more}
use Rattle.words.specs.Parts.{lines_of}
use Rattle.loop_file.specs.Files.{FitBelow}
use Rattle.loop_file.specs.Lines.{Fits}
use Rattle.loop_file.proofs.Turns.{few_lines, line_at, fit, unfit}
use Rattle.loop_file.proofs.lines.count_lines.Goals as goal

pub loop-before-init-derived : goal.loop-before-init-derived
loop-before-init-derived c = search (rules, few_lines c.args.file.now, ap length c.of.ensures.lines)

pub overflow_cast-lines : goal.overflow_cast-lines
overflow_cast-lines c = search (rules, few_lines c.args.file.now, c.in-Some.ensures.steps.1, c.loop-before.invariant.3, c.loop-before.invariant.2)

pub overflow_add-lines : goal.overflow_add-lines
overflow_add-lines c = search (rules, few_lines c.args.file.now, c.in-Some.ensures.steps.1, c.loop-before.invariant.3, c.loop-before.invariant.2)

pub returns-then-is_none : goal.returns-then-is_none
returns-then-is_none c =
    let lines = lines_of c.args.file.now in
    let n : c.in-Some.before ≡ c.loop-before.lines = c.in-Some.ensures.steps.1 ∙ c.loop-before.invariant.3 in
    let l = line_at lines _ _ c.loop-before.lines (sym c.loop-before.invariant.0 ∙ c.in-Some.ensures.steps.0) in
    inr (
      c.in-Some.before,
      refl,
      omega arith,
      omega (arith, n, l.0),
      subst (λ k. FitBelow k lines) (sym n) c.loop-before.invariant.1,
      λ f. unfit _ _ c.command_of.ensures.said (search rules) (subst Fits (ap (λ k. get_or lines k []) n ∙ l.1) f),
    )

pub loop-before-preserved : goal.loop-before-preserved
loop-before-preserved c =
    let lines = lines_of c.args.file.now in
    let n : c.in-Some.before ≡ c.loop-before.lines = c.in-Some.ensures.steps.1 ∙ c.loop-before.invariant.3 in
    let l = line_at lines _ _ c.loop-before.lines (sym c.loop-before.invariant.0 ∙ c.in-Some.ensures.steps.0) in (
      l.2 ∙ ap (λ k. drop (k + 1) lines) (sym n),
      subst (λ k. FitBelow (k + 1) lines) (sym n) (below_more _ _ c.loop-before.invariant.1 (subst Fits (sym l.1) (fit _ _ c.command_of.ensures.said (search rules)))),
      omega (arith, n, l.0),
      c.in-Some.ensures.steps.2 ∙ ap (λ k. k + 1) (sym c.in-Some.ensures.steps.1),
    )

pub returns : goal.returns
returns c =
    let lines = lines_of c.args.file.now in
    let none : drop c.loop-before.lines lines ≡ [] = sym c.loop-before.invariant.0 ∙ c.in-None.ensures.steps.0.0 in
    let all : c.loop-before.lines ≡ length lines = omega (arith, sym (length-drop c.loop-before.lines lines) ∙ ap length none, c.loop-before.invariant.2) in
    let fit : FitBelow (length lines) lines = subst (λ n. FitBelow n lines) all c.loop-before.invariant.1 in
    ((omega arith, fit), (λ k h un. un (fit k h)), all)
