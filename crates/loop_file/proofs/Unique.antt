-- No line says two orders: the order can be had back from its words.
use Rattle.std.proofs.Common.{◌≡◌, ℕ, zero, suc, ◌≤◌, false, cond, eqb, List, [], ◌∷◌, map, length, get_or, drop, ℤ, pos, negsuc, neg_ℤ, nat_abs, decimal, sym, refl, ap, ◌∙◌, inl, inr, arith}
use Rattle.std.specs.Fmt.{signed_decimal}
use Rattle.std.specs.Str.Parse.{digits_value}
use Rattle.std.proofs.lemmas.Fmt.{digits_value-decimal}
use Rattle.std.proofs.lemmas.Bool.Decides.{nat_tests}
use Rattle.words.specs.Parts.{words_of}
use Rattle.words.proofs.Numerals.{own, decimal_first}
use Rattle.loop_file.specs.declared.verb.Verb.{Verb}
use Rattle.loop_file.specs.declared.verb.Verb.TheVariants.{Block, Wire, Cut, Drop, Tune, Feed, Scan, Show}
use Rattle.loop_file.specs.Lines.{spaced, Idle, OneOrder}
use Rattle.loop_file.specs.Orders.{Order, nothing, block, wire, cut, remove, tune, feed, scan, show, Number, Words}
use Rattle.loop_file.specs.Verbs.{spelled}
use Rattle.loop_file.proofs.Spaced.{spaced_before, text_words}
use Rattle.loop_file.proofs.Verbs.{first, verb, spells}

-- the number of a numeral
abbrev number_of : List ℕ → ℤ
number_of bs = cond (eqb (get_or bs 0 0) 45) (neg_ℤ (pos (digits_value 10 (drop 1 bs)))) (pos (digits_value 10 bs))

number_back : (z : ℤ) → Number z → number_of (signed_decimal z) ≡ z
number_back (pos n) h =
    let k = decimal_first n h in
    let e : eqb (get_or (decimal n) 0 0) 45 ≡ false = grind (arith, nat_tests) in
    ap (λ v. cond v (neg_ℤ (pos (digits_value 10 (drop 1 (decimal n))))) (pos (digits_value 10 (decimal n)))) e ∙ ap pos (digits_value-decimal own n (omega arith))
number_back (negsuc n) h = ap (λ m. neg_ℤ (pos m)) (digits_value-decimal own (suc n) (omega arith))

-- a number without a sign
natural_back : (n : ℕ) → n ≤ 9999999 → nat_abs (number_of (decimal n)) ≡ n
natural_back n h = ap nat_abs (number_back (pos n) h)

-- the numeral at a place, which is that of 0 past the last
numeral_at : (zs : List ℤ) (i : ℕ) → get_or (map signed_decimal zs) i (signed_decimal (pos 0)) ≡ signed_decimal (get_or zs i (pos 0))
numeral_at [] i = refl
numeral_at (z ∷ zs) zero = refl
numeral_at (z ∷ zs) (suc i) = numeral_at zs i

-- one of a block's numbers
given_back : (ws : List (List ℕ)) (zs : List ℤ) (i : ℕ) (z : ℤ) → ws ≡ map signed_decimal zs → z ≡ get_or zs i (pos 0) → Number z → number_of (get_or ws i (signed_decimal (pos 0))) ≡ z
given_back ws zs i z e f h = ap (λ l. number_of (get_or l i (signed_decimal (pos 0)))) e ∙ ap number_of (numeral_at zs i ∙ ap signed_decimal (sym f)) ∙ number_back z h

-- the order of a verb in some words
abbrev order_of : Verb → List (List ℕ) → Order
order_of Block ws = block (get_or ws 1 []) (get_or ws 2 []) (number_of (get_or ws 3 (signed_decimal (pos 0)))) (number_of (get_or ws 4 (signed_decimal (pos 0)))) (number_of (get_or ws 5 (signed_decimal (pos 0))))
order_of Wire ws = wire (get_or ws 1 []) (nat_abs (number_of (get_or ws 2 []))) (get_or ws 3 [])
order_of Cut ws = cut (get_or ws 1 []) (nat_abs (number_of (get_or ws 2 [])))
order_of Drop ws = remove (get_or ws 1 [])
order_of Tune ws = tune (get_or ws 1 []) (number_of (get_or ws 2 [])) (number_of (get_or ws 3 [])) (number_of (get_or ws 4 []))
order_of Feed ws = feed (get_or ws 1 []) (number_of (get_or ws 2 []))
order_of Scan ws = scan (nat_abs (number_of (get_or ws 1 [])))
order_of Show ws = show (get_or ws 1 [])

-- the order of some words
abbrev order_in : List (List ℕ) → Order
order_in ws = order_of (verb (first ws)) ws

order_back : (o : Order) (ws : List (List ℕ)) → Words o ws → order_in ws ≡ o
order_back nothing ws h = absurd h
order_back (block n k p q r) ws h =
    let z = h.4 in
    let a = given_back h.0 z.0 0 p z.5 z.2 h.5 in
    let b = given_back h.0 z.0 1 q z.5 z.3 h.6 in
    let d = given_back h.0 z.0 2 r z.5 z.4 h.7 in
    ap order_in h.1 ∙ (λ i. block n k (a i) (b i) (d i))
order_back (wire t p s) ws h = ap order_in h.0 ∙ ap (λ m. wire t m s) (natural_back p (omega arith))
order_back (cut t p) ws h = ap order_in h.0 ∙ ap (cut t) (natural_back p (omega arith))
order_back (remove n) ws h = ap order_in h.0
order_back (tune n p q r) ws h = ap order_in h.0 ∙ (λ i. tune n (number_back p h.2 i) (number_back q h.3 i) (number_back r h.4 i))
order_back (feed n z) ws h = ap order_in h.0 ∙ ap (feed n) (number_back z h.2)
order_back (scan n) ws h = ap order_in h.0 ∙ ap scan (natural_back n (omega arith))
order_back (show n) ws h = ap order_in h.0

-- a verb begins with a letter
letter_first : (v : Verb) → (x : ℕ) × (w : List ℕ) × (spelled v ≡ x ∷ w) × (97 ≤ x)
letter_first Block = (98, _, refl, omega arith)
letter_first Wire = (119, _, refl, omega arith)
letter_first Cut = (99, _, refl, omega arith)
letter_first Drop = (100, _, refl, omega arith)
letter_first Tune = (116, _, refl, omega arith)
letter_first Feed = (102, _, refl, omega arith)
letter_first Scan = (115, _, refl, omega arith)
letter_first Show = (115, _, refl, omega arith)

-- a command's line does something
not_idle : (o : Order) (ws : List (List ℕ)) (line : List ℕ) → Words o ws → line ≡ spaced ws → Idle line → ⊥
not_idle o ws line h e idle =
    let v = spells o ws h in
    let l = letter_first v.0 in
    let b : line ≡ l.0 ∷ spaced (l.1 ∷ v.1) = e ∙ ap spaced v.2 ∙ ap (λ w. spaced (w ∷ v.1)) l.2 ∙ spaced_before l.0 l.1 v.1 in
    elim idle [ inl i ↦ omega (arith, sym i ∙ ap length b) | inr i ↦ omega (arith, l.3, sym i ∙ ap (λ s. get_or s 0 0) b) ]

pub one_order : OneOrder
one_order line a b s t =
    elim s.1 [
      | inl i ↦ elim t.1 [ inl j ↦ i.0 ∙ sym j.0 | inr j ↦ absurd (not_idle b j.0 line j.1 j.2 i.1) ]
      | inr i ↦ elim t.1 [
        | inl j ↦ absurd (not_idle a i.0 line i.1 i.2 j.1)
        | inr j ↦ sym (order_back a (words_of line) (text_words a i.0 line i.1 i.2)) ∙ order_back b (words_of line) (text_words b j.0 line j.1 j.2)
      ]
    ]
