-- Each refusal in words, for people.
use Rattle.std.specs.Prelude.{ℕ, cond, List, codes, ◌==◌}
use Rattle.refusal.specs.declared.refusals.Refusal.{Refusal}
use Rattle.refusal.specs.declared.refusals.Refusal.TheVariants.{FileTooLong, BadLine, RowTooShort, DiagramOpen, WrongScan, UnknownName, NameInUse, UnknownHandle, UnknownKind, BadParameter, NoSuchPort, PortWired, PortUnwired, TakesNoFeed, NoFreeSlot, MakesRing, BufferTooShort}

-- which parameter is refused, by its number
abbrev pub parameter : ℕ → List ℕ
parameter n = cond (n == 0) (codes "the first parameter is not acceptable") (cond (n == 1) (codes "the second parameter is not acceptable") (codes "the third parameter is not acceptable"))

-- the refusal in words
abbrev pub words : Refusal → List ℕ
words FileTooLong = codes "the file has more than 16,384 bytes"
words (BadLine line) = codes "the line does not fit the grammar"
words RowTooShort = codes "a row has fewer than 256 entries"
words DiagramOpen = codes "a scan is open"
words WrongScan = codes "the token is not that of the open scan"
words UnknownName = codes "there is no block of that name"
words NameInUse = codes "the name is in use"
words UnknownHandle = codes "the handle names no block"
words UnknownKind = codes "there is no such kind of block"
words NoSuchPort = codes "the block has no such port"
words PortWired = codes "the port is wired already"
words PortUnwired = codes "the port is not wired"
words TakesNoFeed = codes "the block takes no feed"
words NoFreeSlot = codes "every slot is filled or worn out"
words MakesRing = codes "the wire would close a ring"
words BufferTooShort = codes "the reply is full"
words (BadParameter n) = parameter n
