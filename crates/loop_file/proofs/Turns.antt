-- One line of a file, and those after it.
use Rattle.std.proofs.Common.{◌≡◌, ℕ, suc, ◌+◌, ◌<◌, ◌≤◌, Bool, true, false, cond, List, [], ◌∷◌, length, length-drop, get_or, drop, add-zero, ap, ◌∙◌, Bor, Some, None, Option, MatchOption, is_none, sym, refl, subst, arith}
use Rattle.std.specs.List.{onto_first}
use Rattle.std.proofs.lemmas.List.{drop-drop, get_or-drop}
use Rattle.words.specs.Parts.{is, lines_of}
use Rattle.loop_file.specs.Files.{NoneUnfit}
use Rattle.loop_file.specs.declared.command.Command.{Command}
use Rattle.loop_file.specs.Lines.{order, Fits, Said, Given}

-- a file without a byte has no line
pub no_lines : (file : List ℕ) → length file ≡ 0 → 0 ≡ length (lines_of file)
unfolding lines_of
no_lines [] h = refl
no_lines (x ∷ xs) h = absurd (omega arith)

-- the line at a place, and the lines from the next place on
pub line_at : (lines more : List (List ℕ)) (line : List ℕ) (n : ℕ) → drop n lines ≡ line ∷ more → (n < length lines) × (get_or lines n [] ≡ line) × (more ≡ drop (n + 1) lines)
line_at lines more line n e = (
  omega (arith, sym (length-drop n lines) ∙ ap length e),
  ap (λ i. get_or lines i []) (sym (add-zero n)) ∙ sym (get_or-drop n lines 0 []) ∙ ap (λ ls. get_or ls 0 []) e,
  sym (ap (drop 1) e) ∙ drop-drop 1 n lines,
)

-- where none is unfit, the first is not
pub first_fits : (lines more : List (List ℕ)) (line : List ℕ) → lines ≡ line ∷ more → NoneUnfit lines → (Fits line → ⊥) → ⊥
first_fits lines more line e n = subst NoneUnfit e n 0 (omega arith)

-- nor are the others
pub rest_fits : (lines more : List (List ℕ)) (line : List ℕ) → lines ≡ line ∷ more → NoneUnfit lines → NoneUnfit more
rest_fits lines more line e n = λ k h. subst NoneUnfit e n (suc k) (omega arith)

-- a line has its end, or else a byte
pub few_lines : (file : List ℕ) → length (lines_of file) ≤ length file
unfolding lines_of
few_lines [] = omega arith
few_lines (x ∷ xs) = by (is 10 x) (lines_of xs) (few_lines xs)
  where
    by : (v : Bool) (ls : List (List ℕ)) → length ls ≤ length xs → length (cond v ([] ∷ ls) (onto_first x ls)) ≤ length (x ∷ xs)
    by true ls h = omega arith
    by false [] h = omega arith
    by false (l ∷ ls) h = omega arith

-- and so are the lines that a call of `next` leaves
pub left_fits : (r : Option (Bor (List ℕ))) (lines more : List (List ℕ)) → NoneUnfit lines → MatchOption r ((lines ≡ []) × (more ≡ [])) (λ x. lines ≡ x.now ∷ more) → NoneUnfit more
left_fits None lines more h e = subst NoneUnfit (sym e.1) (λ k l. absurd (omega arith))
left_fits (Some x) lines more h e = rest_fits lines more x.now e h

-- so what the first line is read as is a command
pub given : (r : Option Command) (lines more : List (List ℕ)) (line : List ℕ) → NoneUnfit lines → lines ≡ line ∷ more → Said line r → Given lines r more
given None lines more line h e f = absurd (first_fits lines more line e h f)
given (Some c) lines more line h e f = (line, e, f)

-- a line that is read as no command does not fit, and any other does
pub unfit : (line : List ℕ) (r : Option Command) → Said line r → is_none r ≡ true → Fits line → ⊥
unfit line None s e = s
unfit line (Some c) s e = absurd (let z : true ≡ false = sym e in cc)

pub fit : (line : List ℕ) (r : Option Command) → Said line r → is_none r ≡ false → Fits line
fit line None s e = absurd (let z : true ≡ false = e in cc)
fit line (Some c) s e = (order c, s)
