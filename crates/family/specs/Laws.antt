-- The two laws of a family, over its functions: R its records, S its signals.
use Rattle.std.specs.Prelude.{◌≡◌, ℕ, Bool, true, cond, not, ◌&&◌, ℤ, None, Option, ◌==◌, nat_lt}
use Rattle.family.specs.declared.values.Inputs.{Inputs}
use Rattle.family.specs.declared.values.Params.{Params}

-- what the port p carries
abbrev pub input : {S : Type 0} → Inputs S → ℕ → S
input x p = cond (p == 0) x.a (cond (p == 1) x.b x.c)

module _ {R : Type 0} (ports : R → ℕ) (late : R → ℕ → Bool) where
  -- the port p is one of the block's, and not late
  abbrev pub direct : R → ℕ → Bool
  direct r p = nat_lt p (ports r) && not (late r p)

  -- Late law: inputs that agree at the direct ports give the same output
  abbrev pub LateLaw : {S : Type 0} → (R → Inputs S → S) → Type 0
  LateLaw {S = S} output = (r : R) (x y : Inputs S) → ((p : ℕ) → direct r p ≡ true → input x p ≡ input y p) → output r x ≡ output r y

  -- q has the ports and the late ports of r
  abbrev pub SamePorts : R → R → Type 0
  SamePorts q r = (ports q ≡ ports r) × ((p : ℕ) → late q p ≡ late r p)

  -- Kind law: the next, the fed and the acceptably tuned record have the ports and the late ports of the record before
  pub record KindLaw {S : Type 0} (next : R → Inputs S → R) (fed : R → ℤ → R) (unfit : R → Params → Option ℕ) (tuned : R → Params → R) : Type 0 where
    pub next_same : (r : R) (x : Inputs S) → SamePorts (next r x) r
    pub fed_same : (r : R) (n : ℤ) → SamePorts (fed r n) r
    pub tuned_same : (r : R) (x : Params) → unfit r x ≡ None → SamePorts (tuned r x) r
