-- A wire moves blocks, and leaves each of them placed.
use Rattle.std.proofs.Common.{◌≡◌, ℕ, ◌+◌, ◌-◌, ◌≤◌, Bool, true, false, ◌||◌, eqb, List, [], ◌∷◌, ◌++◌, take, drop, sym, refl, ap, ◌∙◌, inl, inr, arith}
use Rattle.std.proofs.lemmas.List.{take-append-drop, drop-drop}
use Rattle.std.proofs.lemmas.Bool.{cases_Bool, cases_lt, both_ways}
use Rattle.std.proofs.Math.Bool.{or_assoc}
use Rattle.wiring.specs.Layout.{Layout, member, is_placed, rank_of}
use Rattle.wiring.specs.Order.{Parted, none, stays, moves, between, Dealt, Descends, Connected}

-- of three, the first two change places
or_swap : (a b c : Bool) → (a || (b || c)) ≡ (b || (a || c))
or_swap true true c = refl
or_swap true false c = refl
or_swap false true c = refl
or_swap false false c = refl

-- the members of two lists, one behind the other
member_append : (xs ys : List ℕ) (u : ℕ) → member (xs ++ ys) u ≡ (member xs u || member ys u)
member_append [] ys u = refl
member_append (x ∷ xs) ys u = ap (λ (b : Bool). eqb x u || b) (member_append xs ys u) ∙ sym (or_assoc (eqb x u) (member xs u) (member ys u))

-- a list that is parted has the members of both its parts
member_parted : (P : ℕ → Type 0) (u : ℕ) {xs ys zs : List ℕ} → Parted P xs ys zs → (member ys u || member zs u) ≡ member xs u
member_parted P u none = refl
member_parted P u (stays {x = x} {ys = ys} {zs = zs} n p) = or_assoc (eqb x u) (member ys u) (member zs u) ∙ ap (λ (b : Bool). eqb x u || b) (member_parted P u p)
member_parted P u (moves {x = x} {ys = ys} {zs = zs} y p) = or_swap (member ys u) (eqb x u) (member zs u) ∙ ap (λ (b : Bool). eqb x u || b) (member_parted P u p)

-- the slots below the target's rank, those between, and those above the source's are the order
in_three : (o : List ℕ) (a b : ℕ) → a ≤ b → take a o ++ (take (b - a) (drop a o) ++ drop b o) ≡ o
in_three o a b h =
    let k : a + (b - a) ≡ b = omega arith in
    ap (λ (ys : List ℕ). take a o ++ (take (b - a) (drop a o) ++ ys)) (sym (drop-drop (b - a) a o ∙ ap (λ (n : ℕ). drop n o) k))
    ∙ ap (λ (ys : List ℕ). take a o ++ ys) (take-append-drop (b - a) (drop a o)) ∙ take-append-drop a o

-- an order dealt out again has the members that it had
member_dealt : (l : Layout) (target source : ℕ) (o : List ℕ) → rank_of l target ≤ rank_of l source + 1 → Dealt l target source o → (u : ℕ) → member o u ≡ member l.order u
member_dealt l target source o h d u =
    let low = take (rank_of l target) l.order in
    let high = drop (rank_of l source + 1) l.order in
    ap (λ (xs : List ℕ). member xs u) d.is ∙ member_append low (d.others ++ (d.ahead ++ high)) u
    ∙ ap (λ (b : Bool). member low u || b) (member_append d.others (d.ahead ++ high) u ∙ ap (λ (b : Bool). member d.others u || b) (member_append d.ahead high u)
    ∙ sym (or_assoc (member d.others u) (member d.ahead u) (member high u)) ∙ ap (λ (b : Bool). b || member high u) (member_parted _ u d.parted)
    ∙ sym (member_append (between l target source) high u))
    ∙ sym (member_append low (between l target source ++ high) u) ∙ ap (λ (xs : List ℕ). member xs u) (in_three l.order (rank_of l target) (rank_of l source + 1) h)

-- the same blocks are placed before and after a wire
pub still_placed : (l m : Layout) (t p s : ℕ) → Connected l m t p s → (u : ℕ) → is_placed m u ≡ is_placed l u
still_placed l m t p s k u = elim (cases_Bool (l.late t p)) [
  | inl e ↦ kept (λ d. both_ways (l.late t p) d.0 e)
  | inr e ↦ elim (cases_lt (rank_of l s) (rank_of l t)) [
    | inl h ↦ kept (λ d. let f = d.1 in absurd (omega arith))
    | inr h ↦ member_dealt l t s m.order (omega arith) (k.order.dealt (e, h)) u
  ]
]
  where
    -- where the order stays
    kept : (Descends l t p s → ⊥) → is_placed m u ≡ is_placed l u
    kept up = ap (λ (xs : List ℕ). member xs u) (k.order.kept up)
