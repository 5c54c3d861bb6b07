-- The two halves of a scan, over the two rows.
use Rattle.std.specs.Prelude.{◌≡◌, ℕ, Bool, cond, ◌&&◌, List, [], ◌∷◌, length, Option, nat_le}
use Rattle.std.specs.List.{slice_get}
use Rattle.family.specs.declared.values.Inputs.{Inputs}
use Rattle.family.specs.Meaning.{Meaning}
use Rattle.wiring.specs.Layout.{Layout, is_placed}
use Rattle.passes.specs.Rows.{put, or_else, on_some, row}

-- both rows have an entry for each slot
abbrev pub long : {A B : Type 0} → List A → List B → Bool
long records signals = nat_le 256 (length records) && nat_le 256 (length signals)

module _ {R S : Type 0} (m : Meaning R S) where
  -- what comes from a source: an unwired port carries the signal at rest
  abbrev pub carried : (ℕ → S) → Option ℕ → S
  carried signals source = or_else m.rest (on_some signals source)

  -- what a block's three ports carry, by the source of each
  abbrev pub inputs_of : (ℕ → S) → (ℕ → Option ℕ) → Inputs S
  inputs_of signals source = record { a = carried signals (source 0); b = carried signals (source 1); c = carried signals (source 2) }

  -- the output of the block at s, where it has a record
  abbrev pub output_at : (ℕ → ℕ → Option ℕ) → (ℕ → Option R) → (ℕ → S) → ℕ → S
  output_at source records signals s = or_else (signals s) (on_some (λ r. m.output r (inputs_of signals (source s))) (records s))

  -- the signals after some blocks, one after another, were set to their outputs on the signals that stood then
  abbrev pub swept : (ℕ → ℕ → Option ℕ) → (ℕ → Option R) → List ℕ → (ℕ → S) → ℕ → S
  swept source records [] signals = signals
  swept source records (s ∷ ss) signals = swept source records ss (put signals s (output_at source records signals s))

  -- the records after those of some blocks became their next ones
  abbrev pub advanced : (ℕ → ℕ → Option ℕ) → (ℕ → S) → (ℕ → Bool) → (ℕ → Option R) → ℕ → Option R
  advanced source signals some records s = cond (some s) (on_some (λ r. m.next r (inputs_of signals (source s))) (records s)) (records s)

  -- a solve: the signal row by rank, and nothing else
  pub record Solves (l : Layout) (records : List R) (before after : List S) : Type 0 where
    pub size : length after ≡ length before
    pub signals : (s : ℕ) → row m after s ≡ swept l.source (slice_get records) l.order (row m before) s

  -- a settle: every placed block's record, and nothing else
  pub record Settles (l : Layout) (signals : List S) (before after : List R) : Type 0 where
    pub size : length after ≡ length before
    pub records : (s : ℕ) → slice_get after s ≡ advanced l.source (row m signals) (is_placed l) (slice_get before) s
