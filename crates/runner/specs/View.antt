-- The table of names as a book.
use Rattle.std.specs.Prelude.{◌≡◌, ℕ, true, Some, List, [], get_or, take, slice_index_or}
use Rattle.std.proofs.Common.{lit≤}
use Rattle.diagram.specs.Chart.{Chart, names}
use Rattle.runner.specs.declared.names.Entry.{Entry}
use Rattle.runner.specs.declared.names.Names.{Names}
use Rattle.runner.specs.Book.{Book, in_use, lowest}

-- the name in an entry
abbrev pub name_in : Entry → List ℕ
name_in e = take e.size e.bytes

-- an entry that no slot has
abbrev pub blank : Entry
blank = record { bytes = []; size = 0; handle = 0; short = lit≤ tt }

-- what the table says
abbrev pub book : Names → Book
book t = record { name = λ s. name_in (slice_index_or t.entries s blank); handle = λ s. (get_or t.entries s blank).handle }

-- the entry stands at the lowest slot with this name in use
abbrev pub Lowest : Chart → Names → List ℕ → Entry → Type 0
Lowest c t n e = (s : ℕ) × (lowest (in_use c (book t) n) 256 ≡ Some s) × (e ≡ slice_index_or t.entries s blank) × (names c e.handle ≡ true)
