-- What a reader has yet to give, before a line and after it.
use Rattle.std.proofs.Common.{◌≡◌, ℕ, ◌+◌, List, length, drop, ◌∙◌, Bor, Some, None, Option, MatchOption}
use Rattle.words.specs.Parts.{past}
use Rattle.words.specs.Left.{left}
use Rattle.words.specs.declared.lines.Lines.{Lines}
use Rattle.words.specs.declared.reader.Reader.{Reader}
use Rattle.words.proofs.Steps.{left_past}

-- all but the line and the byte that ends it; a reader that gave none is as it was
pub line_rest : (old new : Reader) (r : Option (Bor (List ℕ))) → (new.text ≡ old.text) × (new.over ≡ old.over) → MatchOption r (new ≡ old) (λ l. new.at ≡ past old.text.now old.at l.now)
    → MatchOption r (◌≡◌ {A = Lines} (record { reader = new }) (record { reader = old })) (λ l. left new ≡ drop (length l.now + 1) (left old))
line_rest old new None s p = λ i. record { reader = p i }
line_rest old new (Some l) s p = (λ i. drop new.at (s.0 i).now) ∙ left_past old.text.now l.now old.at new.at p
