-- Small facts: options, a function changed at one place, handles.
use Rattle.std.proofs.Common.{◌≡◌, ℕ, ◌+◌, ◌*◌, ◌/◌, ◌<◌, Bool, true, false, cond, eqb, List, ◌∷◌, is_some, Some, None, Option, sym, refl, ap, ◌∙◌, inl, inr, arith}
use Rattle.std.proofs.lemmas.Bool.{eq-eqb, eqb-true, cases_Bool, and_parts, and_from, and_left, both_ways}
use Rattle.refusal.specs.declared.refusals.Refusal.{Refusal}
use Rattle.diagram.specs.Calls.{ok, refused}
use Rattle.wiring.specs.Change.{off}
use Rattle.diagram.specs.Chart.{Chart, slot, handle, names, when, first}

pub none_some : {A : Type 0} {a : A} (o : Option A) → o ≡ None → o ≡ Some a → ⊥
none_some o p q = let z : ◌≡◌ {A = ℕ} 0 1 = cc in omega arith

pub some_same : {A : Type 0} {a b : A} (o : Option A) → o ≡ Some a → o ≡ Some b → a ≡ b
some_same o p q = cc

pub some_is : {A : Type 0} (o : Option A) → is_some o ≡ true → (a : A) × (o ≡ Some a)
some_is (Some a) e = (a, refl)
some_is None e = absurd (both_ways false refl e)

-- a check that does not apply, and the later ones
pub when_none : (b : Bool) (r : Refusal) → when b r ≡ None → b ≡ false
when_none true r e = absurd (none_some (Some r) e refl)
when_none false r e = refl

pub first_none : (o : Option Refusal) (later : List (Option Refusal)) → first (o ∷ later) ≡ None → (o ≡ None) × (first later ≡ None)
first_none None later e = (refl, e)
first_none (Some r) later e = absurd (none_some (Some r) e refl)

pub check_none : (b : Bool) (r : Refusal) (later : List (Option Refusal)) → first (when b r ∷ later) ≡ None → (b ≡ false) × (first later ≡ None)
check_none b r later e = let x = first_none (when b r) later e in (when_none b r x.0, x.1)

pub check_from : (b : Bool) (r : Refusal) (later : List (Option Refusal)) → b ≡ false → first later ≡ None → first (when b r ∷ later) ≡ None
check_from true r later e f = absurd (both_ways true e refl)
check_from false r later e f = f

pub cond_same : {A : Type 0} (b : Bool) (x : A) → cond b x x ≡ x
cond_same true x = refl
cond_same false x = refl

pub slot_small : (h : ℕ) → slot h < 256
slot_small h = omega arith

pub slot_of : (g s : ℕ) → s < 256 → slot (g * 256 + s) ≡ s
slot_of g s l = omega arith

pub generation_of : (g s : ℕ) → s < 256 → (g * 256 + s) / 256 ≡ g
generation_of g s l = omega arith

pub parts : (h : ℕ) → (h / 256) * 256 + slot h ≡ h
parts h = omega arith

module _ (c : Chart) where
  pub slot_handle : (s : ℕ) → s < 256 → slot (handle c s) ≡ s
  slot_handle s l = slot_of (c.generation s) s l

  -- a handle that names a block is that of its slot
  pub named : (h : ℕ) → names c h ≡ true → (c.placed (slot h) ≡ true) × (handle c (slot h) ≡ h) × (c.generation (slot h) ≡ h / 256)
  named h e =
      let b = and_parts (c.placed (slot h)) (eqb (c.generation (slot h)) (h / 256)) e in
      let g = eqb-true (c.generation (slot h)) (h / 256) b.1 in
      (b.0, ap (λ x. x * 256 + slot h) g ∙ parts h, g)

  pub names_from : (h : ℕ) → c.placed (slot h) ≡ true → c.generation (slot h) ≡ h / 256 → names c h ≡ true
  names_from h p g = and_from _ _ p (eq-eqb _ _ g)

  pub names_handle : (s : ℕ) → s < 256 → c.placed s ≡ true → names c (handle c s) ≡ true
  names_handle s l p =
      let e = slot_handle s l in
      names_from (handle c s) (ap c.placed e ∙ p) (ap c.generation e ∙ sym (generation_of (c.generation s) s l))

  -- no two handles of placed blocks have one slot
  pub one_handle : (g h : ℕ) → names c g ≡ true → slot h ≡ slot g → (h ≡ g → ⊥) → names c h ≡ false
  one_handle g h e same ne = elim (cases_Bool (names c h)) [
    | inr off ↦ off
    | inl on ↦ absurd (ne (sym (named h on).1 ∙ ap (handle c) same ∙ (named g e).1))
  ]

  pub not_named : (h : ℕ) → c.placed (slot h) ≡ false → names c h ≡ false
  not_named h e = and_left _ _ e

-- an answer is not both
pub ok_refused : (n : ℕ) (r : Refusal) → ok n ≡ refused r → ⊥
ok_refused n r e = let z : ◌≡◌ {A = ℕ} 0 1 = cc in omega arith
