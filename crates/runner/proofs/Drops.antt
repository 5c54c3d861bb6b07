-- What stays past a place stays past a later one.
use Rattle.std.proofs.Common.{◌≡◌, ℕ, ◌+◌, ◌-◌, ◌≤◌, List, drop, sym, ap, ◌∙◌, arith}
use Rattle.std.proofs.lemmas.List.{drop-drop}

pub drop_later : {A : Type 0} (i j : ℕ) (xs ys : List A) → i ≤ j → drop i xs ≡ drop i ys → drop j xs ≡ drop j ys
drop_later {A = A} i j xs ys h e =
    let k : j ≡ i + (j - i) = omega arith in
    let split : (l : List A) → drop j l ≡ drop (j - i) (drop i l) = λ l. ap (λ (n : ℕ). drop n l) k ∙ sym (drop-drop (j - i) i l) in
    split xs ∙ ap (drop (j - i)) e ∙ sym (split ys)
