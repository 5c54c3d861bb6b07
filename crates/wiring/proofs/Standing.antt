-- A table of ranks, one entry changed: who has a rank, and which.
use Rattle.std.proofs.Common.{◌≡◌, ℕ, ◌<◌, true, false, cond, List, length, get_or, set, is_some, Some, None, Option, refl, sym, ap, ◌∙◌, inl, inr, arith}
use Rattle.std.specs.Option.{unwrap_or}
use Rattle.std.proofs.lemmas.List.{map-set, set-get_or, length-map, get_or_past}
use Rattle.std.proofs.Math.ListN.{get_or-map}
use Rattle.std.proofs.lemmas.Bool.{cases_lt, both_ways}
use Rattle.wiring.specs.Sound.{live_of, rank_in}

-- a rank given to a slot
pub rank_in-set : (ranks : List (Option ℕ)) (s r : ℕ) → rank_in (set ranks s (Some r)) ≡ set (rank_in ranks) s r
rank_in-set ranks s r = map-set (λ o. unwrap_or o 0) ranks s (Some r)

pub live_of-set : (ranks : List (Option ℕ)) (s r : ℕ) → live_of (set ranks s (Some r)) ≡ set (live_of ranks) s true
live_of-set ranks s r = map-set is_some ranks s (Some r)

-- a slot that had a rank has one still
pub live_still : (ranks : List (Option ℕ)) (s r : ℕ) → get_or (live_of ranks) s false ≡ true → live_of (set ranks s (Some r)) ≡ live_of ranks
live_still ranks s r on = live_of-set ranks s r ∙ ap (set (live_of ranks) s) (sym on) ∙ set-get_or (live_of ranks) s false

-- a slot with a rank is one of the table
pub live_in : (ranks : List (Option ℕ)) (s : ℕ) → get_or (live_of ranks) s false ≡ true → s < length (rank_in ranks)
live_in ranks s on = elim (cases_lt s (length (live_of ranks))) [
  | inl l ↦ omega (arith, length-map ranks is_some, length-map ranks (λ o. unwrap_or o 0))
  | inr l ↦ absurd (both_ways (get_or (live_of ranks) s false) (get_or_past (live_of ranks) s false l) on)
]

-- a slot that has none any more
pub rank_in-clear : (ranks : List (Option ℕ)) (s : ℕ) → rank_in (set ranks s None) ≡ set (rank_in ranks) s 0
rank_in-clear ranks s = map-set (λ o. unwrap_or o 0) ranks s None

pub live_of-clear : (ranks : List (Option ℕ)) (s : ℕ) → live_of (set ranks s None) ≡ set (live_of ranks) s false
live_of-clear ranks s = map-set is_some ranks s None

-- an entry, by who has a rank and which
pub entry_is : (ranks : List (Option ℕ)) (s : ℕ) → get_or ranks s None ≡ cond (get_or (live_of ranks) s false) (Some (get_or (rank_in ranks) s 0)) None
entry_is ranks s = rw (get_or-map is_some ranks s None, get_or-map (λ o. unwrap_or o 0) ranks s None) (parted (get_or ranks s None))
  where
    parted : (o : Option ℕ) → o ≡ cond (is_some o) (Some (unwrap_or o 0)) None
    parted None = refl
    parted (Some r) = refl
