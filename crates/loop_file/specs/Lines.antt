-- Which lines fit, and what they say.
use Rattle.std.specs.Prelude.{◌≡◌, ℕ, ◌≤◌, ◌⊎◌, List, [], ◌∷◌, length, Some, None, Option, slice_index, MatchOption}
use Rattle.std.specs.List.{join_with_byte}
use Rattle.loop_file.specs.declared.command.Command.{Command}
use Rattle.loop_file.specs.declared.command.Command.TheVariants.{Nothing, Block, Wire, Cut, Drop, Tune, Feed, Scan, Show}
use Rattle.loop_file.specs.Orders.{Order, nothing, block, wire, cut, remove, tune, feed, scan, show, Words}

-- what a command says, its names by their bytes
abbrev pub order : Command → Order
order Nothing = nothing
order (Block name kind params) = block name.now kind.now params.p params.q params.r
order (Wire target port source) = wire target.now port source.now
order (Cut target port) = cut target.now port
order (Drop name) = remove name.now
order (Tune name params) = tune name.now params.p params.q params.r
order (Feed name number) = feed name.now number
order (Scan times) = scan times
order (Show name) = show name.now

-- words with single spaces between
unfoldable pub spaced : List (List ℕ) → List ℕ
spaced = join_with_byte 32

-- a line that does nothing: an empty one, or one that begins with `#`
abbrev pub Idle : List ℕ → Type 0
Idle line = (length line ≡ 0) ⊎ (slice_index line 0 ≡ 35)

-- the line is a text of the order
abbrev pub Text : Order → List ℕ → Type 0
Text o line = ((o ≡ nothing) × Idle line) ⊎ ((ws : List (List ℕ)) × Words o ws × (line ≡ spaced ws))

-- the line says the order: it is a text of it, of at most 80 bytes
abbrev pub Says : List ℕ → Order → Type 0
Says line o = (length line ≤ 80) × Text o line

-- the line fits the grammar: it says some order
abbrev pub Fits : List ℕ → Type 0
Fits line = (o : Order) × Says line o

-- no line says two orders
abbrev pub OneOrder : Type 0
OneOrder = (line : List ℕ) (a b : Order) → Says line a → Says line b → a ≡ b

-- what a line is read as: the command that it says, if it says one
abbrev pub Said : List ℕ → Option Command → Type 0
Said line (Some c) = Says line (order c)
Said line None = Fits line → ⊥

-- the command that the first of the lines says was given, and `more` are the others; or there is no line
abbrev pub Given : List (List ℕ) → Option Command → List (List ℕ) → Type 0
Given lines r more = MatchOption r ((lines ≡ []) × (more ≡ [])) (λ c. (line : List ℕ) × (lines ≡ line ∷ more) × Says line (order c))
