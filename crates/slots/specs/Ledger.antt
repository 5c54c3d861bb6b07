-- The slots as their reader sees them, and what filling and emptying one makes of them.
use Rattle.std.specs.Prelude.{◌≡◌, ℕ, ◌+◌, ◌*◌, ◌/◌, ◌%◌, Bool, true, false, cond, ◌&&◌, List, [], ◌∷◌, Some, None, Option, ◌==◌, nat_lt}

pub record Ledger : Type 0 where
  pub placed : ℕ → Bool  -- a block stands at the slot
  pub generation : ℕ → ℕ
  pub freed : List ℕ  -- the empty slots that can be used again, the one freed last first
  pub used : ℕ  -- the slots below have been used

-- m is l, at every slot
pub record Same (m l : Ledger) : Type 0 where
  pub placed : (s : ℕ) → m.placed s ≡ l.placed s
  pub generation : (s : ℕ) → m.generation s ≡ l.generation s
  pub freed : m.freed ≡ l.freed
  pub used : m.used ≡ l.used

-- no slot was ever used
abbrev pub untouched : Ledger
untouched = record { placed = λ s. false; generation = λ s. 1; freed = []; used = 0 }

-- the handle of the block at a slot
abbrev pub handle_at : Ledger → ℕ → ℕ
handle_at l s = l.generation s * 256 + s

-- whether a handle names a placed block
abbrev pub names : Ledger → ℕ → Bool
names l h = l.placed (h % 256) && l.generation (h % 256) == h / 256

-- the slot freed last, else the lowest never used
abbrev pub free_of : List ℕ → ℕ → Option ℕ
free_of [] used = cond (nat_lt used 256) (Some used) None
free_of (s ∷ freed) used = Some s

-- the slots to use again once one is taken
abbrev pub fewer : List ℕ → List ℕ
fewer [] = []
fewer (s ∷ freed) = freed

-- how many slots have been used once one is taken
abbrev pub more : List ℕ → ℕ → ℕ
more [] used = used + 1
more (s ∷ freed) used = used

-- a block put at the slot s, which is the free one
abbrev pub filled : Ledger → ℕ → Ledger
filled l s = record {
  placed = λ t. cond (t == s) true (l.placed t);
  generation = l.generation;
  freed = fewer l.freed;
  used = more l.freed l.used;
}

-- the block at the slot s taken out: the generation rises, and at 65,535 the slot is worn out
abbrev pub emptied : Ledger → ℕ → Ledger
emptied l s = record {
  placed = λ t. cond (t == s) false (l.placed t);
  generation = λ t. cond (t == s) (l.generation s + 1) (l.generation t);
  freed = cond (nat_lt (l.generation s) 65535) (s ∷ l.freed) l.freed;
  used = l.used;
}
