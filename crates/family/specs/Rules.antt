-- The rules of a family whose blocks are of kinds: K its kinds, R its records, S its signals. And what such a family means.
use Rattle.std.specs.Prelude.{◌≡◌, ℕ, ◌≤◌, Bool, true, cond, not, ◌&&◌, List, ℤ, pos, is_some, Some, None, Option, option_map}
use Rattle.family.specs.declared.values.Inputs.{Inputs}
use Rattle.family.specs.declared.values.Params.{Params}
use Rattle.family.specs.Counts.{kind_for, record_for}
use Rattle.family.specs.Laws.{LateLaw}
use Rattle.family.specs.Meaning.{Meaning}

pub record Rules (K R S : Type 0) : Type 0 where
  -- the kind that a word names, the kind of a code, the code of a kind, and the kind of an idle block
  pub named : List ℕ → Option K
  pub of_code : ℕ → Option K
  pub code : K → ℕ
  pub plain : K
  -- how many ports a kind has, and whether a port is late
  pub ports : K → ℕ
  pub late : K → ℕ → Bool
  -- whether a kind takes feeds, and the state that a number that is fed comes to
  pub takes : K → Bool
  pub told : ℤ → ℤ
  -- whether a new block of the kind starts with p as its state
  pub starts : K → Bool
  -- the first parameter that a kind does not accept, and whether a block of the kind can have a record's states
  pub bad : K → Params → Option ℕ
  pub holds : K → R → Bool
  -- a new record, with its state
  pub made : ℕ → Params → ℤ → R
  -- a record's code and parameters, and the record with other parameters and with another state
  pub code_in : R → ℕ
  pub params_in : R → Params
  pub retuned : R → Params → R
  pub with_u : R → ℤ → R
  -- the output and the next record of a block of a kind
  pub output : K → R → Inputs S → S
  pub next : K → R → Inputs S → R
  -- a signal as a number, and the signal at rest
  pub number : S → ℤ
  pub rest : S

module _ {K R S : Type 0} (q : Rules K R S) where
  -- the record is one that a block of the kind can have: its parameters and its states are judged alone
  abbrev pub fits : K → R → Bool
  fits t k = not (is_some (q.bad t (q.params_in k))) && q.holds t k

  -- a new block of the plain kind, each parameter 0
  abbrev pub idle : R
  idle = q.made (q.code q.plain) (record { p = pos 0; q = pos 0; r = pos 0 }) (pos 0)

  -- the kind that a record counts as, and the record as it counts: itself where its kind's test lets it pass, else the idle one
  abbrev pub kind_in : R → K
  kind_in k = kind_for fits q.plain idle (q.of_code (q.code_in k)) k

  abbrev pub counted : R → R
  counted k = record_for fits q.plain idle (q.of_code (q.code_in k)) k

  -- the first parameter that the kind of a code does not accept; none where there is no such kind
  abbrev pub bad_for : Option K → Params → Option ℕ
  bad_for None x = None
  bad_for (Some t) x = q.bad t x

  -- the state that a block of a kind starts with; 0 where there is no such kind
  abbrev pub start_of : Option K → Params → ℤ
  start_of None x = pos 0
  start_of (Some t) x = cond (q.starts t) x.p (pos 0)

  -- the record after a feed: a kind that takes none keeps its own
  abbrev pub fed_of : K → R → ℤ → R
  fed_of t k n = cond (q.takes t) (q.with_u k (q.told n)) k

  -- what the family means, for every record and every signal
  abbrev pub meaning_of : Meaning R S
  meaning_of = record {
    word = λ w. option_map q.code (q.named w);
    exists = λ n. is_some (q.of_code n);
    bad = λ n. bad_for (q.of_code n);
    fresh = λ n x. q.made n x (start_of (q.of_code n) x);
    ports = λ k. q.ports (kind_in k);
    late = λ k. q.late (kind_in k);
    takes = λ k. q.takes (kind_in k);
    fed = λ k. fed_of (kind_in k) (counted k);
    unfit = λ k. q.bad (kind_in k);
    tuned = λ k. q.retuned (counted k);
    output = λ k. q.output (kind_in k) (counted k);
    next = λ k. q.next (kind_in k) (counted k);
    number = q.number;
    rest = q.rest;
  }

  -- What a family owes of its kinds.
  pub record Lawful : Type 0 where
    -- at most three ports, and the output of a block depends on its direct ports alone
    pub few : (t : K) → q.ports t ≤ 3
    pub lateness : (k : R) → LateLaw q.ports q.late (λ t. q.output t k)
    -- a kind is the kind of its code, and the idle record passes its kind's test
    pub coded : (t : K) → q.of_code (q.code t) ≡ Some t
    pub idle_fits : fits q.plain idle ≡ true
    -- a new record has the code that it is made with, and no change of a record changes its code
    pub made_code : (n : ℕ) (x : Params) (u : ℤ) → q.code_in (q.made n x u) ≡ n
    pub next_code : (t : K) (k : R) (x : Inputs S) → q.code_in (q.next t k x) ≡ q.code_in k
    pub with_u_code : (k : R) (u : ℤ) → q.code_in (q.with_u k u) ≡ q.code_in k
    pub retuned_code : (k : R) (x : Params) → q.code_in (q.retuned k x) ≡ q.code_in k
    -- a tune puts the parameters in, and leaves the states as they are
    pub retuned_params : (k : R) (x : Params) → q.params_in (q.retuned k x) ≡ x
    pub retuned_holds : (t : K) (k : R) (x : Params) → q.holds t (q.retuned k x) ≡ q.holds t k
    -- the next record and the fed one are ones that a block of the kind can have
    pub next_fits : (t : K) (k : R) (x : Inputs S) → fits t k ≡ true → fits t (q.next t k x) ≡ true
    pub told_fits : (t : K) (k : R) (n : ℤ) → q.takes t ≡ true → fits t k ≡ true → fits t (q.with_u k (q.told n)) ≡ true
