-- What a wiring's ghost fields say, together and of its layout.
use Rattle.std.proofs.Common.{◌≡◌, ℕ, ◌<◌, ◌≤◌, true, false, cond, length, get_or, is_some, Some, None, sym, ap, ◌∙◌, inl, inr, arith}
use Rattle.std.specs.Option.{unwrap_or}
use Rattle.std.proofs.lemmas.List.{get_or_past, length-map}
use Rattle.std.proofs.lemmas.Bool.{cases_Bool, cases_lt, cond-false, both_ways}
use Rattle.wiring.specs.declared.wiring.Wiring.{Wiring}
use Rattle.wiring.specs.Lawful.{Lawful}
use Rattle.wiring.specs.Layout.{Direct, WireTo, is_placed, rank_of}
use Rattle.wiring.specs.Sound.{live_of, rank_in, Sound}
use Rattle.wiring.specs.View.{layout}
use Rattle.wiring.proofs.Index.{listed, listed_at, listed_apart, member_is, rank_is}
use Rattle.wiring.proofs.Pigeon.{some_room}
use Rattle.wiring.proofs.Rings.{no_ring}
use Rattle.wiring.proofs.Standing.{entry_is}

-- the ghost fields as one record
abbrev pub sound : (w : Wiring) → Sound w.count w.order (rank_in w.rank) (live_of w.rank) (layout w)
sound w = record { placed = w.placed; ranked = w.ranked; few = w.few; fits = w.fits; heads = w.heads; tails = w.tails; ascends = w.ascends }

-- the ranks in use are within the table
pub in_table : (w : Wiring) → w.count ≤ length w.order
in_table w = omega (arith, w.room, w.sized.0)

-- what is placed is live
pub live_is : (w : Wiring) (s : ℕ) → is_placed (layout w) s ≡ get_or (live_of w.rank) s false
live_is w s = member_is w.count w.order (rank_in w.rank) (live_of w.rank) (in_table w) w.placed w.ranked s

-- in the form that tables want
pub alive : (w : Wiring) (s : ℕ) → is_placed (layout w) s ≡ true → get_or (live_of w.rank) s false ≡ true
alive w s on = sym (live_is w s) ∙ on

-- and its rank is that of the table
pub rank_at : (w : Wiring) (s : ℕ) → is_placed (layout w) s ≡ true → rank_of (layout w) s ≡ get_or (rank_in w.rank) s 0
rank_at w s on = rank_is w.count w.order (rank_in w.rank) (live_of w.rank) (in_table w) w.placed w.ranked s (alive w s on)

-- what the table has for a slot
pub entry_at : (w : Wiring) (s : ℕ) → get_or w.rank s None ≡ cond (is_placed (layout w) s) (Some (rank_of (layout w) s)) None
entry_at w s = entry_is w.rank s ∙ ap (λ b. cond b (Some (get_or (rank_in w.rank) s 0)) None) (sym (live_is w s)) ∙ (elim (cases_Bool (is_placed (layout w) s)) [
  | inl on ↦ ap (λ r. cond (is_placed (layout w) s) (Some r) None) (sym (rank_at w s on))
  | inr off ↦ cond-false (is_placed (layout w) s) _ _ off ∙ sym (cond-false (is_placed (layout w) s) _ _ off)
])

-- the table has an entry for each slot
pub ranks_long : (w : Wiring) → length (rank_in w.rank) ≡ 256
ranks_long w = omega (arith, w.sized.1, length-map w.rank is_some, length-map w.rank (λ o. unwrap_or o 0))

-- where a slot is free, not all ranks are taken
pub room_for : (w : Wiring) (s : ℕ) → s < 256 → is_placed (layout w) s ≡ false → w.count < 256
room_for w s small free = some_room w.count w.order (rank_in w.rank) (live_of w.rank) s w.placed w.room w.sized.1 small (sym (live_is w s) ∙ free)

-- the order has the ranks in use
in_order : (w : Wiring) → length (layout w).order ≡ w.count
in_order w = listed w.count w.order (rank_in w.rank) (live_of w.rank) (in_table w) w.placed w.ranked

-- and what stands there
in_place : (w : Wiring) (i : ℕ) → i < w.count → get_or (layout w).order i 0 ≡ get_or w.order i 0
in_place w = listed_at w.count w.order (rank_in w.rank) (live_of w.rank) (in_table w) w.placed w.ranked

-- a live slot is one of the 256
live_small : (w : Wiring) (s : ℕ) → get_or (live_of w.rank) s false ≡ true → s < 256
live_small w s on = elim (cases_lt s 256) [ inl l ↦ l | inr l ↦ absurd (both_ways (get_or (live_of w.rank) s false) (get_or_past (live_of w.rank) s false (omega (arith, w.sized.1))) on) ]

-- the layout of a wiring is lawful
pub lawful : (w : Wiring) → Lawful (layout w)
lawful w = record {
  apart = λ i j h k e. listed_apart w.count w.order (rank_in w.rank) (live_of w.rank) (in_table w) w.placed w.ranked i j h (in_count j k) (sym (in_place w i (in_count i (omega arith))) ∙ e ∙ in_place w j (in_count j k));
  small = λ i h. rw (in_place w i (in_count i h)) (live_small w (get_or w.order i 0) (w.placed i (in_count i h)).0);
  few = w.few;
  fits = λ s t p e. w.fits t p (s, e);
  heads = heads;
  tails = tails;
  ascends = λ s t e. let up = w.ascends s t e in omega (arith, rank_at w s (heads s t (e.0, e.1)), rank_at w t (tails s t (e.0, e.1)));
  free = no_ring (Direct (layout w)) (λ s. get_or (rank_in w.rank) s 0) w.ascends;
}
  where
    -- a place in the list is a rank in use
    in_count : (i : ℕ) → i < length (layout w).order → i < w.count
    in_count i h = omega (arith, in_order w)

    -- a wire comes from what is placed
    heads : (s t : ℕ) → WireTo (layout w) s t → is_placed (layout w) s ≡ true
    heads s t e = live_is w s ∙ w.heads s t e

    -- and goes to what is placed
    tails : (s t : ℕ) → WireTo (layout w) s t → is_placed (layout w) t ≡ true
    tails s t e = live_is w t ∙ w.tails s t e

-- a placed slot is one of the 256,
pub placed_small : (w : Wiring) (s : ℕ) → is_placed (layout w) s ≡ true → s < 256
placed_small w s on = live_small w s (alive w s on)

-- and stands in the order at its rank
pub at_rank : (w : Wiring) (s : ℕ) → is_placed (layout w) s ≡ true → (rank_of (layout w) s < length (layout w).order) × (get_or (layout w).order (rank_of (layout w) s) 0 ≡ s)
at_rank w s on =
    let k = w.ranked s (alive w s on) in
    let e = rank_at w s on in
    (omega (arith, e, k.0, in_order w), ap (λ (r : ℕ). get_or (layout w).order r 0) e ∙ in_place w (get_or (rank_in w.rank) s 0) k.0 ∙ k.1)

-- what stands in the order is placed, with that rank
pub of_rank : (w : Wiring) (r : ℕ) → r < length (layout w).order → (is_placed (layout w) (get_or (layout w).order r 0) ≡ true) × (rank_of (layout w) (get_or (layout w).order r 0) ≡ r)
of_rank w r low =
    let k : r < w.count = omega (arith, in_order w) in
    let e = in_place w r k in
    let at = w.placed r k in
    let on : is_placed (layout w) (get_or (layout w).order r 0) ≡ true = ap (is_placed (layout w)) e ∙ live_is w (get_or w.order r 0) ∙ at.0 in
    (on, rank_at w (get_or (layout w).order r 0) on ∙ ap (λ (s : ℕ). get_or (rank_in w.rank) s 0) e ∙ at.1)
