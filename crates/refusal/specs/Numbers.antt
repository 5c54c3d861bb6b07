-- The number of each refusal, and what it tells.
use Rattle.std.specs.Prelude.{ℕ}
use Rattle.refusal.specs.declared.refusals.Refusal.{Refusal}
use Rattle.refusal.specs.declared.refusals.Refusal.TheVariants.{FileTooLong, BadLine, RowTooShort, DiagramOpen, WrongScan, UnknownName, NameInUse, UnknownHandle, UnknownKind, BadParameter, NoSuchPort, PortWired, PortUnwired, TakesNoFeed, NoFreeSlot, MakesRing, BufferTooShort}
use Rattle.refusal.specs.declared.refusals.Told.{Told}
use Rattle.refusal.specs.declared.refusals.Told.TheVariants.{Nothing, Line, Parameter}

-- a refusal's number, and beside it the line or the parameter that it tells
abbrev pub meaning : Refusal → ℕ × Told
meaning FileTooLong = (1, Nothing)
meaning (BadLine line) = (2, Line line)
meaning RowTooShort = (3, Nothing)
meaning DiagramOpen = (4, Nothing)
meaning WrongScan = (5, Nothing)
meaning UnknownName = (6, Nothing)
meaning NameInUse = (7, Nothing)
meaning UnknownHandle = (8, Nothing)
meaning UnknownKind = (9, Nothing)
meaning (BadParameter parameter) = (10, Parameter parameter)
meaning NoSuchPort = (11, Nothing)
meaning PortWired = (12, Nothing)
meaning PortUnwired = (13, Nothing)
meaning TakesNoFeed = (14, Nothing)
meaning NoFreeSlot = (15, Nothing)
meaning MakesRing = (16, Nothing)
meaning BufferTooShort = (17, Nothing)
