-- The seven kinds of interlock blocks.
use Rattle.std.specs.Prelude.{ℕ, Bool, true, false, cond, List, ℤ, pos, Some, None, codes, Option, ◌==◌}
use Rattle.std.specs.Str.{bytes_eq}
use Rattle.family.specs.declared.values.Params.{Params}
use Rattle.family.specs.Params.{within, among, bad_but}
use Rattle.interlock_blocks.specs.declared.record.Kind.{Kind}
use Rattle.interlock_blocks.specs.declared.record.Kind.TheVariants.{In, And, Or, Not, Latch, Hold, Timer}

-- the kind of a code
abbrev pub kind_of : ℕ → Option Kind
kind_of n =
    cond (n == 1) (Some In) (cond (n == 2) (Some And) (cond (n == 3) (Some Or) (cond (n == 4) (Some Not)
    (cond (n == 5) (Some Latch) (cond (n == 6) (Some Hold) (cond (n == 7) (Some Timer) None))))))

-- the code of a kind
abbrev pub kind_code : Kind → ℕ
kind_code In = 1
kind_code And = 2
kind_code Or = 3
kind_code Not = 4
kind_code Latch = 5
kind_code Hold = 6
kind_code Timer = 7

-- the kind that a word names
abbrev pub kind_named : List ℕ → Option Kind
kind_named w =
    cond (bytes_eq w (codes "in")) (Some In) (cond (bytes_eq w (codes "and")) (Some And) (cond (bytes_eq w (codes "or")) (Some Or) (cond (bytes_eq w (codes "not")) (Some Not)
    (cond (bytes_eq w (codes "latch")) (Some Latch) (cond (bytes_eq w (codes "hold")) (Some Hold) (cond (bytes_eq w (codes "timer")) (Some Timer) None))))))

-- how many ports a kind has
abbrev pub ports_of : Kind → ℕ
ports_of In = 0
ports_of And = 2
ports_of Or = 2
ports_of Not = 1
ports_of Latch = 2
ports_of Hold = 1
ports_of Timer = 1

-- whether a port is late: the input of a hold
abbrev pub late_of : Kind → ℕ → Bool
late_of Hold i = i == 0
late_of _ i = false

-- whether a kind takes feeds
abbrev pub takes_of : Kind → Bool
takes_of In = true
takes_of _ = false

-- whether a new block of a kind starts with p as its state
abbrev pub starts_of : Kind → Bool
starts_of In = true
starts_of Hold = true
starts_of _ = false

-- the first parameter that a kind does not accept
abbrev pub bad_of : Kind → Params → Option ℕ
bad_of In x = bad_but (among (pos 0) x.p (pos 1)) x
bad_of And x = bad_but (within x.p 0) x
bad_of Or x = bad_but (within x.p 0) x
bad_of Not x = bad_but (within x.p 0) x
bad_of Latch x = bad_but (within x.p 0) x
bad_of Hold x = bad_but (among (pos 0) x.p (pos 1)) x
bad_of Timer x = bad_but (among (pos 1) x.p (pos 1000000)) x

-- how large the state of a kind can be; of a kind that has none it is 0
abbrev pub limit_of : Kind → ℤ
limit_of In = pos 1
limit_of Latch = pos 1
limit_of Hold = pos 1
limit_of Timer = pos 1000000
limit_of _ = pos 0
