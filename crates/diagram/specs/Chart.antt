-- A diagram without its ranks: which checks a call meets in it, and what an accepted call makes of it. Slots are numbers below 256.
use Rattle.std.specs.Prelude.{◌≡◌, ℕ, ◌+◌, ◌*◌, ◌/◌, ◌%◌, ◌<◌, Bool, true, false, cond, not, ◌&&◌, List, [], ◌∷◌, is_some, Some, None, Option, ◌==◌, nat_lt}
use Rattle.family.specs.Laws.{direct}
use Rattle.family.specs.Meaning.{Meaning}
use Rattle.wiring.specs.Change.{off}
use Rattle.slots.specs.Ledger.{free_of, fewer, more}
use Rattle.passes.specs.Rows.{put, or_else, on_some}
use Rattle.refusal.specs.declared.refusals.Refusal.{Refusal}
use Rattle.refusal.specs.declared.refusals.Refusal.TheVariants.{DiagramOpen, WrongScan, UnknownHandle, UnknownKind, BadParameter, NoSuchPort, PortWired, PortUnwired, NoFreeSlot}
use Rattle.diagram.specs.Calls.{Call, place, remove, wire, cut, edit, solve, settle}

pub record Chart : Type 0 where
  pub placed : ℕ → Bool  -- a block stands at the slot
  pub generation : ℕ → ℕ
  pub ports : ℕ → ℕ  -- of the block at the slot, from place
  pub direct : ℕ → ℕ → Bool  -- its port p is direct, from place
  pub source : ℕ → ℕ → Option ℕ  -- the slot that its port p is wired from
  pub freed : List ℕ  -- the empty slots that can be used again, the one freed last first
  pub used : ℕ  -- the slots below have been used
  pub scan : Option ℕ  -- the number of the open scan
  pub scans : ℕ  -- the number of the last scan, 0 before the first

-- the slot of a handle
abbrev pub slot : ℕ → ℕ
slot h = h % 256

-- the handle of the block at a slot
abbrev pub handle : Chart → ℕ → ℕ
handle c s = c.generation s * 256 + s

-- whether h is the handle of a placed block
abbrev pub names : Chart → ℕ → Bool
names c h = c.placed (slot h) && c.generation (slot h) == h / 256

-- a fresh diagram
abbrev pub empty : Chart
empty = record {
  placed = λ s. false;
  generation = λ s. 1;
  ports = λ s. 0;
  direct = λ s p. false;
  source = λ s p. None;
  freed = [];
  used = 0;
  scan = None;
  scans = 0;
}

-- the slot that a place takes
abbrev pub free : Chart → ℕ
free c = or_else 0 (free_of c.freed c.used)

-- scan numbers go from 1 to 1,000,000 and begin again at 1
abbrev pub following : ℕ → ℕ
following n = cond (nat_lt n 1000000) (n + 1) 1

-- a block of the record r at the slot s
abbrev pub placing : {R S : Type 0} → Meaning R S → R → ℕ → Chart → Chart
placing m r s c = record {
  placed = put c.placed s true;
  generation = c.generation;
  ports = put c.ports s (m.ports r);
  direct = put c.direct s (direct m.ports m.late r);
  source = put c.source s (λ p. None);
  freed = fewer c.freed;
  used = more c.freed c.used;
  scan = c.scan;
  scans = c.scans;
}

-- the block at the slot s taken out, with all wires to and from it
abbrev pub removing : ℕ → Chart → Chart
removing s c = record {
  placed = put c.placed s false;
  generation = put c.generation s (c.generation s + 1);
  ports = put c.ports s 0;
  direct = put c.direct s (λ p. false);
  source = λ t p. cond (t == s) None (off s (c.source t p));
  freed = cond (nat_lt (c.generation s) 65535) (s ∷ c.freed) c.freed;
  used = c.used;
  scan = c.scan;
  scans = c.scans;
}

-- the port p of the slot t wired from o
abbrev pub sourcing : ℕ → ℕ → Option ℕ → Chart → Chart
sourcing t p o c = record {
  placed = c.placed;
  generation = c.generation;
  ports = c.ports;
  direct = c.direct;
  source = put c.source t (put (c.source t) p o);
  freed = c.freed;
  used = c.used;
  scan = c.scan;
  scans = c.scans;
}

-- the open scan and the last number as given
abbrev pub scanning : Option ℕ → ℕ → Chart → Chart
scanning o n c = record {
  placed = c.placed;
  generation = c.generation;
  ports = c.ports;
  direct = c.direct;
  source = c.source;
  freed = c.freed;
  used = c.used;
  scan = o;
  scans = n;
}

-- the chart after an accepted call
abbrev pub charted : {R S : Type 0} → Meaning R S → Call → Chart → Chart
charted m (place kind x) c = placing m (m.fresh kind x) (free c) c
charted m (remove h) c = removing (slot h) c
charted m (wire t p s) c = sourcing (slot t) p (Some (slot s)) c
charted m (cut t p) c = sourcing (slot t) p None c
charted m (edit h x) c = c
charted m solve c = scanning (Some (following c.scans)) (following c.scans) c
charted m (settle n) c = scanning None c.scans c

-- what an accepted call gives out
abbrev pub given : Call → Chart → ℕ
given (place kind x) c = handle c (free c)
given (remove h) c = 0
given (wire t p s) c = 0
given (cut t p) c = 0
given (edit h x) c = 0
given solve c = following c.scans
given (settle n) c = 0

-- a refusal where the test says so
abbrev pub when : Bool → Refusal → Option Refusal
when b r = cond b (Some r) None

-- the first refusal that applies
abbrev pub first : List (Option Refusal) → Option Refusal
first [] = None
first (None ∷ later) = first later
first (Some r ∷ later) = Some r

-- whether the open scan has this number
abbrev pub is_scan : Option ℕ → ℕ → Bool
is_scan None n = false
is_scan (Some k) n = k == n

-- the wire from the slot s into the port p of the slot t passes all checks but the ring's
pub record WireFits (c : Chart) (t p s : ℕ) : Type 0 where
  pub target : c.placed t ≡ true
  pub source : c.placed s ≡ true
  pub port : p < c.ports t
  pub bare : c.source t p ≡ None

-- the checks of a call on the chart, in their order
abbrev pub checks : {R S : Type 0} → Meaning R S → Call → Chart → List (Option Refusal)
checks m (place kind x) c =
    when (is_some c.scan) DiagramOpen ∷ when (not (m.exists kind)) UnknownKind ∷ on_some BadParameter (m.bad kind x) ∷ when (not (is_some (free_of c.freed c.used))) NoFreeSlot ∷ []
checks m (remove h) c = when (is_some c.scan) DiagramOpen ∷ when (not (names c h)) UnknownHandle ∷ []
checks m (wire t p s) c =
    when (is_some c.scan) DiagramOpen ∷ when (not (names c t && names c s)) UnknownHandle ∷ when (not (nat_lt p (c.ports (slot t)))) NoSuchPort ∷ when (is_some (c.source (slot t) p)) PortWired ∷ []
checks m (cut t p) c =
    when (is_some c.scan) DiagramOpen ∷ when (not (names c t)) UnknownHandle ∷ when (not (nat_lt p (c.ports (slot t)))) NoSuchPort ∷ when (not (is_some (c.source (slot t) p))) PortUnwired ∷ []
checks m (edit h x) c = when (is_some c.scan) DiagramOpen ∷ when (not (names c h)) UnknownHandle ∷ []
checks m solve c = when (is_some c.scan) DiagramOpen ∷ []
checks m (settle n) c = when (not (is_scan c.scan n)) WrongScan ∷ []
