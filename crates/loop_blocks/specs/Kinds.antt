-- The eleven kinds of loop blocks.
use Rattle.std.specs.Prelude.{ℕ, Bool, true, false, cond, ◌&&◌, List, pos, Some, None, codes, Option, ◌==◌, int_le}
use Rattle.std.specs.Str.{bytes_eq}
use Rattle.family.specs.declared.values.Params.{Params}
use Rattle.family.specs.Params.{within, among, first_bad, bad_but}
use Rattle.loop_blocks.specs.declared.record.Kind.{Kind}
use Rattle.loop_blocks.specs.declared.record.Kind.TheVariants.{In, Pid, Pidt, Lim, Root, Lag, Hold, Low, High, Sum, Gain}

-- the kind of a code
abbrev pub kind_of : ℕ → Option Kind
kind_of n =
    cond (n == 1) (Some In) (cond (n == 2) (Some Pid) (cond (n == 3) (Some Pidt) (cond (n == 4) (Some Lim)
    (cond (n == 5) (Some Root) (cond (n == 6) (Some Lag) (cond (n == 7) (Some Hold) (cond (n == 8) (Some Low)
    (cond (n == 9) (Some High) (cond (n == 10) (Some Sum) (cond (n == 11) (Some Gain) None))))))))))

-- the code of a kind
abbrev pub kind_code : Kind → ℕ
kind_code In = 1
kind_code Pid = 2
kind_code Pidt = 3
kind_code Lim = 4
kind_code Root = 5
kind_code Lag = 6
kind_code Hold = 7
kind_code Low = 8
kind_code High = 9
kind_code Sum = 10
kind_code Gain = 11

-- the kind that a word names
abbrev pub kind_named : List ℕ → Option Kind
kind_named w =
    cond (bytes_eq w (codes "in")) (Some In) (cond (bytes_eq w (codes "pid")) (Some Pid) (cond (bytes_eq w (codes "pidt")) (Some Pidt) (cond (bytes_eq w (codes "lim")) (Some Lim)
    (cond (bytes_eq w (codes "root")) (Some Root) (cond (bytes_eq w (codes "lag")) (Some Lag) (cond (bytes_eq w (codes "hold")) (Some Hold) (cond (bytes_eq w (codes "low")) (Some Low)
    (cond (bytes_eq w (codes "high")) (Some High) (cond (bytes_eq w (codes "sum")) (Some Sum) (cond (bytes_eq w (codes "gain")) (Some Gain) None))))))))))

-- how many ports a kind has
abbrev pub ports_of : Kind → ℕ
ports_of In = 0
ports_of Pid = 2
ports_of Pidt = 3
ports_of Lim = 1
ports_of Root = 1
ports_of Lag = 1
ports_of Hold = 1
ports_of Low = 2
ports_of High = 2
ports_of Sum = 3
ports_of Gain = 1

-- whether a port is late: the tracking input of a pidt, and the input of a lag and of a hold
abbrev pub late_of : Kind → ℕ → Bool
late_of Pidt i = i == 2
late_of Lag i = i == 0
late_of Hold i = i == 0
late_of _ i = false

-- whether a kind takes feeds
abbrev pub takes_of : Kind → Bool
takes_of In = true
takes_of _ = false

-- whether a new block of a kind starts with p as its state
abbrev pub starts_of : Kind → Bool
starts_of In = true
starts_of Hold = true
starts_of _ = false

-- the first bad parameter of a controller: three gains
abbrev pub bad_gains : Params → Option ℕ
bad_gains x = first_bad (within x.p 100000) (within x.q 100000) (within x.r 100000)

-- the first bad parameter of a limiter: the upper limit is bad where it is below the lower
abbrev pub bad_limits : Params → Option ℕ
bad_limits x = first_bad (within x.p 1000000) (within x.q 1000000 && int_le x.p x.q) (within x.r 0)

-- the first parameter that a kind does not accept
abbrev pub bad_of : Kind → Params → Option ℕ
bad_of In x = bad_but (within x.p 1000000) x
bad_of Pid x = bad_gains x
bad_of Pidt x = bad_gains x
bad_of Lim x = bad_limits x
bad_of Root x = bad_but (within x.p 0) x
bad_of Lag x = bad_but (among (pos 1) x.p (pos 1000)) x
bad_of Hold x = bad_but (within x.p 1000000) x
bad_of Low x = bad_but (within x.p 0) x
bad_of High x = bad_but (within x.p 0) x
bad_of Sum x = bad_but (within x.p 0) x
bad_of Gain x = bad_but (within x.p 100000) x
