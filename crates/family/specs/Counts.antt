-- What a record counts as, in a family with kinds K and records R: itself where its kind's test lets it pass, else an idle record of a plain kind.
use Rattle.std.specs.Prelude.{Bool, cond, Some, None, Option}

module _ {K R : Type 0} (fits : K → R → Bool) (plain : K) (idle : R) where
  -- the kind that a record counts as, where its code is that of the kind given
  abbrev pub kind_for : Option K → R → K
  kind_for None r = plain
  kind_for (Some t) r = cond (fits t r) t plain

  -- the record as it counts, where its code is that of the kind given
  abbrev pub record_for : Option K → R → R
  record_for None r = idle
  record_for (Some t) r = cond (fits t r) r idle
