-- A line is its words with single spaces between, and no other words have that text.
use Rattle.std.proofs.Common.{◌≡◌, ℕ, suc, ◌≤◌, Bool, true, false, not, ◌||◌, List, [], ◌∷◌, map, length, get_or, ℤ, pos, negsuc, codes, decimal, sym, refl, ap, ◌∙◌, subst, arith}
use Rattle.std.specs.Char.{is_ascii_digit, is_ascii_lowercase}
use Rattle.std.specs.Fmt.{signed_decimal}
use Rattle.std.specs.List.{All, list_all}
use Rattle.std.specs.Str.{all_ascii_digits}
use Rattle.std.proofs.lemmas.Bool.Decides.{nat_tests}
use Rattle.std.proofs.lemmas.List.Elements.{All-from_get_or, All-cons}
use Rattle.std.proofs.lemmas.List.Recursion.{and_at}
use Rattle.std.proofs.lemmas.List.Splits.{slice_split_none, slice_split_at, length-slice_split, join_with_byte-slice_split}
use Rattle.words.specs.Names.{all_name}
use Rattle.words.specs.Parts.{is, words_of}
use Rattle.words.proofs.Numerals.{is_numeral}
use Rattle.loop_file.specs.Lines.{spaced}
use Rattle.loop_file.specs.Orders.{Order, nothing, block, wire, cut, remove, tune, feed, scan, show, Number, Words}

-- a line has a word
pub no_words : (line : List ℕ) → words_of line ≡ [] → ⊥
no_words line e = omega (arith, ap length (sym e), length-slice_split (is 32) line)

-- a byte before the first of some words
pub spaced_before : (x : ℕ) (w : List ℕ) (ws : List (List ℕ)) → spaced ((x ∷ w) ∷ ws) ≡ x ∷ spaced (w ∷ ws)
unfolding spaced
spaced_before x w [] = refl
spaced_before x w (v ∷ vs) = refl

-- the words of a line, with single spaces between, are the line
pub rejoined : (line : List ℕ) → spaced (words_of line) ≡ line
unfolding spaced
rejoined = join_with_byte-slice_split 32

-- a word without a space
abbrev Plain : List ℕ → Type 0
Plain = All (λ x. is 32 x ≡ false)

-- words without a space
abbrev AllPlain : List (List ℕ) → Type 0
AllPlain [] = Unit {0}
AllPlain (w ∷ ws) = Plain w × AllPlain ws

-- the words of a text of plain words
pub words_spaced : (w : List ℕ) (ws : List (List ℕ)) → Plain w → AllPlain ws → words_of (spaced (w ∷ ws)) ≡ w ∷ ws
unfolding spaced
words_spaced w [] h k = slice_split_none (is 32) w h
words_spaced w (v ∷ vs) h k = slice_split_at (is 32) w 32 (spaced (v ∷ vs)) h refl ∙ ap (λ l. w ∷ l) (words_spaced v vs k.0 k.1)

-- a false test
not_true : (b : Bool) → not b ≡ true → b ≡ false
not_true true h = sym h
not_true false h = refl

-- a text that is given is plain by a test
plain : (w : List ℕ) → list_all (λ x. not (is 32 x)) w ≡ true → Plain w
plain w h = All-from_get_or (λ x. is 32 x ≡ false) w 0 (λ i l. not_true _ (and_at (list_all (λ x. not (is 32 x))) (λ x. not (is 32 x)) refl (λ _ _. refl) w i 0 l h))

-- a letter or a digit is no space
no_space : (b : ℕ) → (is_ascii_lowercase b || is_ascii_digit b) ≡ true → is 32 b ≡ false
no_space b h = grind (arith, nat_tests)

-- names are plain
plain_name : (bs : List ℕ) → all_name bs ≡ true → Plain bs
plain_name bs h = All-from_get_or (λ x. is 32 x ≡ false) bs 0 (λ i l. no_space (get_or bs i 0) (and_at all_name (λ b. is_ascii_lowercase b || is_ascii_digit b) refl (λ _ _. refl) bs i 0 l h))

-- a digit is no space
no_digit : (b : ℕ) → is_ascii_digit b ≡ true → is 32 b ≡ false
no_digit b h = grind (arith, nat_tests)

-- digits are plain
plain_digits : (bs : List ℕ) → all_ascii_digits bs ≡ true → Plain bs
plain_digits bs h = All-from_get_or (λ x. is 32 x ≡ false) bs 0 (λ i l. no_digit (get_or bs i 0) (and_at all_ascii_digits is_ascii_digit refl (λ _ _. refl) bs i 0 l h))

-- a number's numeral is plain
plain_number : (z : ℤ) → Number z → Plain (signed_decimal z)
plain_number (pos n) h = plain_digits (decimal n) (is_numeral n h).3
plain_number (negsuc n) h = All-cons (λ x. is 32 x ≡ false) 45 (decimal (suc n)) refl (plain_digits (decimal (suc n)) (is_numeral (suc n) h).3)

-- at most three numerals are plain
plain_numbers : (zs : List ℤ) → length zs ≤ 3 → Number (get_or zs 0 (pos 0)) → Number (get_or zs 1 (pos 0)) → Number (get_or zs 2 (pos 0)) → AllPlain (map signed_decimal zs)
plain_numbers [] h i j k = tt
plain_numbers (x ∷ []) h i j k = (plain_number x i, tt)
plain_numbers (x ∷ y ∷ []) h i j k = (plain_number x i, (plain_number y j, tt))
plain_numbers (x ∷ y ∷ z ∷ []) h i j k = (plain_number x i, (plain_number y j, (plain_number z k, tt)))
plain_numbers (x ∷ y ∷ z ∷ w ∷ ws) h i j k = absurd (omega arith)

-- the words of the text of words that are plain
again : (ws vs : List (List ℕ)) (w : List ℕ) → ws ≡ w ∷ vs → Plain w → AllPlain vs → words_of (spaced ws) ≡ ws
again ws vs w e h k = subst (λ l. words_of (spaced l) ≡ l) (sym e) (words_spaced w vs h k)

-- the words of an order are those of their text
plain_order : (o : Order) (ws : List (List ℕ)) → Words o ws → words_of (spaced ws) ≡ ws
plain_order nothing ws h = absurd h
plain_order (block n k p q r) ws h =
    let z = h.4 in
    again ws _ _ h.1 (plain (codes "block") refl)
    (plain_name n h.2.3, (plain_name k h.3.3, subst AllPlain (sym z.5) (plain_numbers z.0 z.1 (subst Number z.2 h.5) (subst Number z.3 h.6) (subst Number z.4 h.7))))
plain_order (wire t p s) ws h = again ws _ _ h.0 (plain (codes "wire") refl) (plain_name t h.1.3, (plain_number (pos p) (omega arith), (plain_name s h.3.3, tt)))
plain_order (cut t p) ws h = again ws _ _ h.0 (plain (codes "cut") refl) (plain_name t h.1.3, (plain_number (pos p) (omega arith), tt))
plain_order (remove n) ws h = again ws _ _ h.0 (plain (codes "drop") refl) (plain_name n h.1.3, tt)
plain_order (tune n p q r) ws h =
    again ws _ _ h.0 (plain (codes "tune") refl) (plain_name n h.1.3, (plain_number p h.2, (plain_number q h.3, (plain_number r h.4, tt))))
plain_order (feed n z) ws h = again ws _ _ h.0 (plain (codes "feed") refl) (plain_name n h.1.3, (plain_number z h.2, tt))
plain_order (scan n) ws h = again ws _ _ h.0 (plain (codes "scan") refl) (plain_number (pos n) (omega arith), tt)
plain_order (show n) ws h = again ws _ _ h.0 (plain (codes "show") refl) (plain_name n h.1.3, tt)

-- the words of an order's text are the order's
pub text_words : (o : Order) (ws : List (List ℕ)) (line : List ℕ) → Words o ws → line ≡ spaced ws → Words o (words_of line)
text_words o ws line h e = subst (Words o) (sym (ap words_of e ∙ plain_order o ws h)) h
