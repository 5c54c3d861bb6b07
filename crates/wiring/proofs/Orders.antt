-- The order after a wire: the passes' deal is the one that is stated, and no other is.
use Rattle.std.proofs.Common.{◌≡◌, ℕ, ◌+◌, ◌-◌, ◌≤◌, Bool, true, false, not, List, [], ◌∷◌, ◌++◌, length, get_or, take, drop, Decides, sym, refl, ap, ◌∙◌, subst, inl, inr, arith}
use Rattle.std.proofs.lemmas.List.{take-append-drop, take-append-le, drop-append-le, take_at, length-take-le, length-drop, append_assoc}
use Rattle.std.proofs.lemmas.Bool.{cases_Bool, cond-true, cond-false}
use Rattle.std.proofs.lemmas.Bool.Decides.{not_from_Decides}
use Rattle.wiring.specs.Layout.{Layout, rank_of}
use Rattle.wiring.specs.Order.{Ahead, Parted, none, stays, moves, Dealt}
use Rattle.wiring.specs.Pass.{is_marked, marked, segment, redealt}
use Rattle.wiring.proofs.Deals.{length-redealt}

-- marks that decide P part a list by it
pub parted : (P : ℕ → Type 0) (m : List Bool) → ((s : ℕ) → Decides (get_or m s false) (P s)) → (xs : List ℕ) → Parted P xs (marked m false xs) (marked m true xs)
parted P m marks [] = none
parted P m marks (x ∷ xs) = elim (cases_Bool (get_or m x false)) [
  | inl t ↦
      subst (λ (ys : List ℕ). Parted P (x ∷ xs) ys (marked m true (x ∷ xs))) (sym (cond-false (is_marked m false x) (x ∷ marked m false xs) (marked m false xs) (ap not t)))
      (subst (λ (zs : List ℕ). Parted P (x ∷ xs) (marked m false xs) zs) (sym (cond-true (is_marked m true x) (x ∷ marked m true xs) (marked m true xs) t)) (moves ((marks x).0 t) (parted P m marks xs)))
  | inr f ↦
      subst (λ (ys : List ℕ). Parted P (x ∷ xs) ys (marked m true (x ∷ xs))) (sym (cond-true (is_marked m false x) (x ∷ marked m false xs) (marked m false xs) (ap not f)))
      (subst (λ (zs : List ℕ). Parted P (x ∷ xs) (x ∷ marked m false xs) zs) (sym (cond-false (is_marked m true x) (x ∷ marked m true xs) (marked m true xs) f)) (stays (not_from_Decides (get_or m x false) (marks x) f) (parted P m marks xs)))
]

-- a list is parted in one way
one_way : (P : ℕ → Type 0) {xs ys zs ys' zs' : List ℕ} → Parted P xs ys zs → Parted P xs ys' zs' → (ys ≡ ys') × (zs ≡ zs')
one_way P none none = (refl, refl)
one_way P (stays {x = x} n p) (stays n' q) = let e = one_way P p q in (ap (λ (vs : List ℕ). x ∷ vs) e.0, e.1)
one_way P (stays n p) (moves y q) = absurd (n y)
one_way P (moves y p) (stays n q) = absurd (n y)
one_way P (moves {x = x} y p) (moves y' q) = let e = one_way P p q in (e.0, ap (λ (vs : List ℕ). x ∷ vs) e.1)

-- so no two orders are dealt
pub dealt_once : (l : Layout) (target source : ℕ) (o o' : List ℕ) → Dealt l target source o → Dealt l target source o' → o ≡ o'
unfolding one_way
dealt_once l target source o o' d d' =
    let e = one_way (Ahead l target source) d.parted d'.parted in
    let low = take (rank_of l target) l.order in
    let high = drop (rank_of l source + 1) l.order in
    d.is ∙ ap (λ (ys : List ℕ). low ++ (ys ++ (d.ahead ++ high))) e.0 ∙ ap (λ (zs : List ℕ). low ++ (d'.others ++ (zs ++ high))) e.1 ∙ sym d'.is

-- a deal among the first n of a table is one among them as a list
pub redealt_front : (o : List ℕ) (m : List Bool) (a b n : ℕ) → a ≤ b → b ≤ n → n ≤ length o → take n (redealt o m a b) ≡ redealt (take n o) m a b
redealt_front o m a b n h k long =
    let xs = take n o in
    let ys = drop n o in
    let lx = length-take-le n o long in
    let e : redealt o m a b ≡ redealt xs m a b ++ ys = ap (λ (os : List ℕ). redealt os m a b) (sym (take-append-drop n o)) ∙ split xs ys (omega arith) in
    ap (take n) e ∙ take_at (redealt xs m a b) ys n (length-redealt m xs a b h (omega arith) xs ∙ lx)
  where
    -- what stands behind the segment stays
    split : (xs ys : List ℕ) → b ≤ length xs → redealt (xs ++ ys) m a b ≡ redealt xs m a b ++ ys
    split xs ys l =
        let seg : segment (xs ++ ys) a b ≡ segment xs a b = ap (take (b - a)) (drop-append-le a xs ys (omega arith)) ∙ take-append-le (b - a) (drop a xs) ys (omega (arith, length-drop a xs)) in
        let N = marked m false (segment xs a b) in
        let Y = marked m true (segment xs a b) in
        ap (λ (ws : List ℕ). ws ++ (marked m false (segment (xs ++ ys) a b) ++ (marked m true (segment (xs ++ ys) a b) ++ drop b (xs ++ ys)))) (take-append-le a xs ys (omega arith))
        ∙ ap (λ (ws : List ℕ). take a xs ++ (marked m false ws ++ (marked m true ws ++ drop b (xs ++ ys)))) seg ∙ ap (λ (ws : List ℕ). take a xs ++ (N ++ (Y ++ ws))) (drop-append-le b xs ys l)
        ∙ sym (append_assoc (take a xs) (N ++ (Y ++ drop b xs)) ys ∙ ap (λ (ws : List ℕ). take a xs ++ ws) (append_assoc N (Y ++ drop b xs) ys ∙ ap (λ (ws : List ℕ). N ++ ws) (append_assoc Y (drop b xs) ys)))
