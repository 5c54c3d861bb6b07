use Rattle.std.proofs.Common.{rules, tests, ◌≡◌, ◌+◌, length, take, drop, ap, ◌∙◌, arith, length-drop}
use Rattle.std.specs.List.{position_or_len}
use Rattle.std.proofs.lemmas.Iterator.{YieldsList-from_slice}
use Rattle.std.proofs.lemmas.Iterator.Search.{position_from_yields_List}
use Rattle.std.proofs.lemmas.List.{take_all}
use Rattle.words.specs.Parts.{is}
use Rattle.words.proofs.Steps.{place}
use Rattle.words.proofs.split.split_once.Goals as goal

pub returns-in_err-at : goal.returns-in_err-at
returns-in_err-at c =
    let e = position_from_yields_List (is c.args.b) _ _ c.position.result c.position.ensures.ran (YieldsList-from_slice c.args.text.now (cc)) (λ x b q k. search (rules, tests)) in
    search (rules, place (position_or_len (is c.args.b) c.args.text.now) (length c.args.text.now) c.position.result e)

pub returns : goal.returns
returns c =
    let e = position_from_yields_List (is c.args.b) _ _ c.position.result c.position.ensures.ran (YieldsList-from_slice c.args.text.now (cc)) (λ x b q k. search (rules, tests)) in
    let h = place (position_or_len (is c.args.b) c.args.text.now) (length c.args.text.now) c.position.result e in
    let n : c.in_ok-at.at ≡ position_or_len (is c.args.b) c.args.text.now = search (rules, h) in
    (search (rules, h), ap (λ k. take k c.args.text.now) n, take_all _ _ (omega (arith, length-drop (c.in_ok-at.at + 1) c.args.text.now)) ∙ ap (λ k. drop (k + 1) c.args.text.now) n)
