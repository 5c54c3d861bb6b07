-- One write after another.
use Rattle.std.proofs.Common.{◌≡◌, ℕ, ◌+◌, List, ◌++◌, length, take, drop, sym, ap, ◌∙◌, append_assoc, arith, length-append}
use Rattle.std.proofs.lemmas.List.{drop-drop}
use Rattle.loop_file.specs.Closing.{Wrote}

-- one write after another
pub more : {a b c : List ℕ} {at i j : ℕ} {xs ys : List ℕ} → Wrote a at xs b i → Wrote b i ys c j → Wrote a at (xs ++ ys) c j
more {a = a} {b = b} {at = at} {i = i} {j = j} {xs = xs} {ys = ys} p q =
    let n : length (xs ++ ys) ≡ length xs + length ys = length-append xs ys in
    let k : j ≡ i + length ys = q.place in
    let split : (l : List ℕ) → drop j l ≡ drop (length ys) (drop i l) = λ l. ap (λ m. drop m l) k ∙ sym (drop-drop (length ys) i l) in
    record {
      place = omega (arith, p.place, q.place);
      front = q.front ∙ ap (λ l. l ++ ys) p.front ∙ append_assoc (take at a) xs ys;
      back = q.back ∙ split b ∙ ap (drop (length ys)) p.back ∙ sym (split a);
      within = q.within;
    }
