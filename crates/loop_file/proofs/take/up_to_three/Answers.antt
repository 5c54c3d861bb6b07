use Rattle.std.proofs.Common.{◌≡◌, ℕ, ◌+◌, List, map, get_or, drop, ℤ, pos, sym, ap, ◌∙◌, subst, rules}
use Rattle.std.specs.Fmt.{signed_decimal}
use Rattle.std.proofs.lemmas.List.{drop-drop, get_or-drop}
use Rattle.loop_file.specs.Orders.{Number}
use Rattle.loop_file.proofs.Three.{followed, taken, three}
use Rattle.loop_file.proofs.take.up_to_three.Goals as goal

-- the number at a place, as the first of those from there on
first_from : (zs : List ℤ) (i : ℕ) (z : ℤ) → z ≡ get_or zs (i + 0) (pos 0) → Number z → Number (get_or (drop i zs) 0 (pos 0))
first_from zs i z e h = subst Number (e ∙ sym (get_or-drop i zs 0 (pos 0))) h

pub returns-in_err-p : goal.returns-in_err-p
returns-in_err-p c = rw c.from_residual.ensures (λ p q r n i j k. taken _ n.0 c.in_err-p.ensures n.5 (subst Number n.2 i))

pub returns-in_err-q : goal.returns-in_err-q
returns-in_err-q c = rw c.from_residual-in_err-q.ensures (λ p q r n i j k.
    taken _ (drop 1 n.0) c.in_err-q.ensures (followed _ _ _ n.0 c.in_ok-p.ensures n.5) (first_from n.0 1 q n.3 j))

pub returns-in_err-r : goal.returns-in_err-r
returns-in_err-r c = rw c.from_residual-in_err-r.ensures (λ p q r n i j k.
    let e = followed _ _ _ (drop 1 n.0) c.in_ok-q.ensures (followed _ _ _ n.0 c.in_ok-p.ensures n.5) in
    taken _ (drop 2 n.0) c.in_err-r.ensures (e ∙ ap (map signed_decimal) (drop-drop 1 1 n.0)) (first_from n.0 2 r n.4 k))

pub returns : goal.returns
returns c = search (rules, three _ _ _ _ _ _ _ c.in_ok-p.ensures c.in_ok-q.ensures c.in_ok-r.ensures c.in_ok-no_more.ensures)
