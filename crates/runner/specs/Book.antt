-- The names as their reader sees them, and which of them counts.
use Rattle.std.specs.Prelude.{ℕ, zero, suc, Bool, cond, ◌&&◌, List, Some, None, Option}
use Rattle.std.specs.Str.{bytes_eq}
use Rattle.passes.specs.Rows.{on_some}
use Rattle.diagram.specs.Chart.{Chart, names}

-- one name and one handle for each slot
pub record Book : Type 0 where
  pub name : ℕ → List ℕ
  pub handle : ℕ → ℕ

-- whether the name at the slot s is n, and in use: its handle names a placed block
abbrev pub in_use : Chart → Book → List ℕ → ℕ → Bool
in_use c b n s = bytes_eq (b.name s) n && names c (b.handle s)

-- the first of two that is there
abbrev pub either : {A : Type 0} → Option A → Option A → Option A
either (Some a) o = Some a
either None o = o

-- the lowest number below k of which p holds
unfoldable pub lowest : (ℕ → Bool) → ℕ → Option ℕ
lowest p zero = None
lowest p (suc k) = either (lowest p k) (cond (p k) (Some k) None)

-- the handle that the name n stands for: of those in use, the lowest slot's
unfoldable pub found : Chart → Book → List ℕ → Option ℕ
found c b n = on_some b.handle (lowest (in_use c b n) 256)
