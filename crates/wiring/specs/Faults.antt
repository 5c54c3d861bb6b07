-- Why an edit is refused: the first fault that applies.
use Rattle.std.specs.Prelude.{◌≡◌, ℕ, Bool, cond, not, ◌&&◌, ◌⊎◌, is_some, Some, None, Option, nat_lt}
use Rattle.wiring.specs.declared.wiring.Fault.{Fault}
use Rattle.wiring.specs.declared.wiring.Fault.TheVariants.{Occupied, TooManyPorts, NoBlock, NoPort, Wired, Unwired, Ring}
use Rattle.wiring.specs.Change.{rewired}
use Rattle.wiring.specs.Layout.{Layout, Direct, is_placed}
use Rattle.wiring.specs.Ring.{HasRing}

-- the fault where it applies, and else a later one
abbrev pub check : Bool → Fault → Option Fault → Option Fault
check applies fault later = cond applies (Some fault) later

-- of a block of n ports at s
abbrev pub insert_fault : Layout → ℕ → ℕ → Option Fault
insert_fault l s n = check (is_placed l s) Occupied (check (nat_lt 3 n) TooManyPorts None)

-- of a removal
abbrev pub remove_fault : Layout → ℕ → Option Fault
remove_fault l s = check (not (is_placed l s)) NoBlock None

-- of what is done at the port p of t: it has to be there, before a later fault
abbrev pub port_fault : Layout → ℕ → ℕ → Option Fault → Option Fault
port_fault l t p later = check (not (is_placed l t)) NoBlock (check (not (nat_lt p (l.ports t))) NoPort later)

-- of a cut at the port p of t
abbrev pub disconnect_fault : Layout → ℕ → ℕ → Option Fault
disconnect_fault l t p = port_fault l t p (check (not (is_some (l.source t p))) Unwired None)

-- of a wire from s into the port p of t, but for a ring
abbrev pub connect_fault : Layout → ℕ → ℕ → ℕ → Option Fault
connect_fault l t p s = check (not (is_placed l t && is_placed l s)) NoBlock (check (not (nat_lt p (l.ports t))) NoPort (check (is_some (l.source t p)) Wired None))

-- that wire closes a ring of direct wires
abbrev pub ClosesRing : Layout → ℕ → ℕ → ℕ → Type 0
ClosesRing l t p s = HasRing (Direct (rewired l t p (Some s)))

-- why it is refused: one of these faults, or else a ring
abbrev pub ConnectRefused : Layout → ℕ → ℕ → ℕ → Fault → Type 0
ConnectRefused l t p s fault = (connect_fault l t p s ≡ Some fault) ⊎ ((connect_fault l t p s ≡ None) × (fault ≡ Ring) × ClosesRing l t p s)
