-- Where a byte stands, and the first line or word before it.
use Rattle.std.proofs.Common.{min, ◌≡◌, ℕ, suc, ◌+◌, ◌<◌, ◌≤◌, Bool, true, false, not, cond, eqb, List, [], ◌∷◌, length, length-drop, take, drop, refl, ap, ◌∙◌, arith, Some, None, Option, MatchOption, subst, sym}
use lib.Dec.{ltb}
use Rattle.std.proofs.lemmas.Bool.{ltb-true, ltb-false}
use Rattle.std.proofs.lemmas.List.{drop-drop, drop_min}
use Rattle.std.proofs.lemmas.List.Splits.{slice_split_first}
use Rattle.std.specs.List.{position_or_len, before_first, after_first, onto_first}
use Rattle.words.specs.Parts.{is, lines_of, words_of, Parted, lines_left, words_left, past}

-- a place n that was looked for below l, by what was found
pub place : (n l : ℕ) (r : Option ℕ) → r ≡ cond (ltb n l) (Some n) None → MatchOption r (l ≤ n) (λ i. (i ≡ n) × (n < l))
place n l r e = subst (λ o. MatchOption o (l ≤ n) (λ i. (i ≡ n) × (n < l))) (sym e) (by (ltb n l) refl)
  where
    by : (v : Bool) → ltb n l ≡ v → MatchOption (cond v (Some n) None) (l ≤ n) (λ i. (i ≡ n) × (n < l))
    by true h = (refl, ltb-true n l h)
    by false h = ltb-false n l h

-- the place of the first byte 10, or the length
abbrev end : List ℕ → ℕ
end = position_or_len (is 10)

-- a byte 10 ends the first line
pub first_line : (xs : List ℕ) → end xs < length xs → lines_of xs ≡ before_first (is 10) xs ∷ lines_of (after_first (is 10) xs)
unfolding lines_of
first_line [] h = absurd (omega arith)
first_line (x ∷ xs) h = by (eqb x 10) (first_line xs) h
  where
    by : (v : Bool) → (end xs < length xs → lines_of xs ≡ take (end xs) xs ∷ lines_of (drop (end xs + 1) xs)) → cond (not v) (1 + end xs) 0 < length (x ∷ xs) → cond v ([] ∷ lines_of xs) (onto_first x (lines_of xs)) ≡ take (cond (not v) (1 + end xs) 0) (x ∷ xs) ∷ lines_of (drop (cond (not v) (1 + end xs) 0 + 1) (x ∷ xs))
    by true ih h = refl
    by false ih h =
        let e : suc (end xs) ≡ 1 + end xs = omega arith in
        let f : suc (end xs + 1) ≡ 1 + end xs + 1 = omega arith in
        ap (onto_first x) (ih (omega arith)) ∙ (λ i. take (e i) (x ∷ xs) ∷ lines_of (drop (f i) (x ∷ xs)))

-- without one, the line goes to the file's end
pub last_line : (xs : List ℕ) → 0 < length xs → length xs ≤ end xs → lines_of xs ≡ xs ∷ []
unfolding lines_of
last_line [] s h = absurd (omega arith)
last_line (x ∷ xs) s h = by (eqb x 10) xs (last_line xs) h
  where
    by : (v : Bool) (xs : List ℕ) → (0 < length xs → length xs ≤ end xs → lines_of xs ≡ xs ∷ []) → length (x ∷ xs) ≤ cond (not v) (1 + end xs) 0 → cond v ([] ∷ lines_of xs) (onto_first x (lines_of xs)) ≡ (x ∷ xs) ∷ []
    by true xs ih h = absurd (omega arith)
    by false [] ih h = refl
    by false (y ∷ ys) ih h = ap (onto_first x) (ih (omega arith) (omega arith))

-- no line is left of an empty file
pub no_line : (xs : List ℕ) → length xs ≡ 0 → lines_of xs ≡ []
unfolding lines_of
no_line [] h = refl
no_line (x ∷ xs) h = absurd (omega arith)

-- the line at a place of a file, and those after it
pub line_here : (text part : List ℕ) (at on : ℕ) (last : Bool) → at < length text → Parted 10 text at part on last → lines_left text at ≡ part ∷ lines_left text on
line_here text part at on true h p =
    last_line (drop at text) (omega (arith, length-drop at text)) p.0 ∙ (λ i. sym p.1 i ∷ sym (no_line (drop on text) (omega (arith, p.2, length-drop on text))) i)
line_here text part at on false h p = first_line (drop at text) p.2.0 ∙ (λ i. sym p.2.1 i ∷ lines_of (sym p.2.2 i))

-- a line without a space is one word
pub last_word : (xs : List ℕ) → length xs ≤ position_or_len (is 32) xs → words_of xs ≡ xs ∷ []
last_word [] h = refl
last_word (x ∷ xs) h = by (eqb x 32) (last_word xs) h
  where
    by : (v : Bool) → (length xs ≤ position_or_len (is 32) xs → words_of xs ≡ xs ∷ []) → length (x ∷ xs) ≤ cond (not v) (1 + position_or_len (is 32) xs) 0 → cond v ([] ∷ words_of xs) (onto_first x (words_of xs)) ≡ (x ∷ xs) ∷ []
    by true ih h = absurd (omega arith)
    by false ih h = ap (onto_first x) (ih (omega arith))

-- the word at a place of a line, and those after it
pub word_here : (text part : List ℕ) (at on : ℕ) (over last : Bool) → over ≡ false → Parted 32 text at part on last → words_left text at over ≡ part ∷ words_left text on last
word_here text part at on over last h p = ap (λ v. cond v [] (words_of (drop at text))) h ∙ by last p
  where
    by : (v : Bool) → Parted 32 text at part on v → words_of (drop at text) ≡ part ∷ words_left text on v
    by true p = last_word (drop at text) p.0 ∙ ap (λ w. w ∷ []) (sym p.1)
    by false p = slice_split_first (is 32) (drop at text) 0 p.2.0 ∙ (λ i. sym p.2.1 i ∷ words_of (sym p.2.2 i))

-- what is left past a line or a word: all but this and the byte that ends it
pub left_past : (text part : List ℕ) (at on : ℕ) → on ≡ past text at part → drop on text ≡ drop (length part + 1) (drop at text)
left_past text part at on e =
    let m : on ≡ min (at + (length part + 1)) (length text) = omega (arith, e) in
    ap (λ k. drop k text) m ∙ drop_min (at + (length part + 1)) text ∙ sym (drop-drop (length part + 1) at text)
