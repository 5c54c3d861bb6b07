-- Rows as functions of the slot.
use Rattle.std.specs.Prelude.{ℕ, cond, List, Some, None, Option, ◌==◌, slice_index_or}
use Rattle.family.specs.Meaning.{Meaning}

-- f, but v at k
abbrev pub put : {A : Type 0} → (ℕ → A) → ℕ → A → ℕ → A
put f k v s = cond (s == k) v (f s)

-- what is there, else a
abbrev pub or_else : {A : Type 0} → A → Option A → A
or_else a None = a
or_else a (Some b) = b

-- what f makes of what is there
abbrev pub on_some : {A B : Type 0} → (A → B) → Option A → Option B
on_some f None = None
on_some f (Some a) = Some (f a)

-- the signal row; past its end signals are at rest
abbrev pub row : {R S : Type 0} → Meaning R S → List S → ℕ → S
row m signals s = slice_index_or signals s m.rest
