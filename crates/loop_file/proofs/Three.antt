-- At most three numbers, of which the missing ones are 0.
use Rattle.std.proofs.Common.{◌≡◌, ℕ, List, [], ◌∷◌, map, length, get_or, drop, ℤ, pos, sym, refl, ap, ◌∙◌, inl, inr, arith}
use Rattle.std.specs.Fmt.{signed_decimal}
use Rattle.loop_file.specs.Orders.{Number, Numbers}
use Rattle.loop_file.specs.Ahead.{Took, NotTaken}
use Rattle.loop_file.proofs.Next.{next}

-- there is no first word where there are no words
no_first : {w : List ℕ} {left ws : List (List ℕ)} → left ≡ [] → left ≡ w ∷ ws → ⊥
no_first e f = omega (arith, ap length (sym e ∙ f))

-- where no word is left, 0 is taken, and no word is left
none_taken : (left on : List (List ℕ)) (z : ℤ) → Took left z on → left ≡ [] → (z ≡ pos 0) × (on ≡ [])
none_taken left on z t e = elim t.1 [ inl f ↦ absurd (no_first e f) | inr f ↦ (f.2, f.1) ]

-- the words after the numeral of the first of some numbers
pub followed : (left on : List (List ℕ)) (z : ℤ) (zs : List ℤ) → Took left z on → left ≡ map signed_decimal zs → on ≡ map signed_decimal (drop 1 zs)
followed left on z [] t e = (none_taken left on z t e).1
followed left on z (y ∷ ys) t e = elim t.1 [ inl f ↦ next f e | inr f ↦ absurd (no_first f.0 e) ]

-- the first of some numbers can be taken
pub taken : (left : List (List ℕ)) (zs : List ℤ) → NotTaken left → left ≡ map signed_decimal zs → Number (get_or zs 0 (pos 0)) → ⊥
taken left [] t e h = t.0 e
taken left (z ∷ zs) t e h = t.1 z (map signed_decimal zs) e h

-- two that were taken one after the other after p, with no word left
two : (left l m o : List (List ℕ)) (p q r : ℤ) → left ≡ signed_decimal p ∷ l → Took l q m → Took m r o → o ≡ [] → Numbers left p q r
two left l m o p q r e u v d =
    elim u.1 [
      | inl f ↦ elim v.1 [
        | inl g ↦ (p ∷ q ∷ r ∷ [], omega arith, refl, refl, refl, cc)
        | inr g ↦ (p ∷ q ∷ [], omega arith, refl, refl, g.2, (let k : m ≡ [] = g.0 in cc))
      ]
      | inr f ↦ (p ∷ [], omega arith, refl, f.2, (none_taken m o r v f.1).0, (let k : l ≡ [] = f.0 in cc))
    ]

-- three that were taken one after the other, with no word left
pub three : (left l m o : List (List ℕ)) (p q r : ℤ) → Took left p l → Took l q m → Took m r o → o ≡ [] → Numbers left p q r
three left l m o p q r t u v d =
    elim t.1 [
      | inl f ↦ two left l m o p q r f u v d
      | inr f ↦ (let k = none_taken l m q u f.1 in ([], omega arith, f.2, k.0, (none_taken m o r v k.1).0, f.0))
    ]
