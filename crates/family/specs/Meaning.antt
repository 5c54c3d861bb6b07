-- What a family means, as one record: R its records, S its signals.
use Rattle.std.specs.Prelude.{ℕ, Bool, List, ℤ, Option}
use Rattle.family.specs.declared.interface.Family.{Ghosts}
use Rattle.family.specs.declared.values.Inputs.{Inputs}
use Rattle.family.specs.declared.values.Params.{Params}

pub record Meaning (R S : Type 0) : Type 0 where
  pub word : List ℕ → Option ℕ
  pub exists : ℕ → Bool
  pub bad : ℕ → Params → Option ℕ
  pub fresh : ℕ → Params → R
  pub ports : R → ℕ
  pub late : R → ℕ → Bool
  pub takes : R → Bool
  pub fed : R → ℤ → R
  pub unfit : R → Params → Option ℕ
  pub tuned : R → Params → R
  pub output : R → Inputs S → S
  pub next : R → Inputs S → R
  pub number : S → ℤ
  pub rest : S

-- of the ghost members of a family
abbrev pub meaning : {F R S : Type 0} → Ghosts F R S → Meaning R S
meaning f = record {
  word = f.word;
  exists = f.exists;
  bad = f.bad;
  fresh = f.fresh;
  ports = f.ports;
  late = f.late;
  takes = f.takes;
  fed = f.fed;
  unfit = f.unfit;
  tuned = f.tuned;
  output = f.output;
  next = f.next;
  number = f.number;
  rest = f.rest;
}
