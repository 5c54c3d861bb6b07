-- A plan and a diagram that say the same, and that an accepted call keeps them so.
use Rattle.std.proofs.Common.{◌≡◌, ℕ, ◌+◌, ◌*◌, ◌/◌, ◌<◌, Bool, true, false, cond, not, ◌&&◌, eqb, ltb, List, is_some, Some, None, Option, sym, refl, ap, ◌∙◌, ap₂, inl, inr, arith}
use Rattle.std.proofs.lemmas.Bool.{eq-eqb, ne_eqb, cases_eq, cases_Bool, and_right, cond-true, cond-false, both_ways}
use Rattle.family.specs.declared.values.Inputs.{Inputs}
use Rattle.family.specs.Laws.{direct, SamePorts}
use Rattle.family.specs.Meaning.{Meaning}
use Rattle.passes.specs.Rows.{put, on_some}
use Rattle.passes.specs.Scan.{carried, inputs_of}
use Rattle.wiring.specs.Change.{off}
use Rattle.diagram.specs.Chart.{Chart, slot, handle, names, placing, removing, sourcing}
use Rattle.diagram.specs.World.{Sound}
use Rattle.session.specs.Plan.{Plan}
use Rattle.session.specs.Begun.{Long}
use Rattle.passes.proofs.Rows.{put_same, put_other}
use Rattle.session.proofs.Base.{none_some, some_same, cond_same, parts, slot_handle, named, names_from, one_handle, not_named}

abbrev pub block_of : {R : Type 0} → Chart → (ℕ → Option R) → ℕ → Option R
block_of c records h = cond (names c h) (records (slot h)) None

abbrev pub source_of : Chart → ℕ → ℕ → Option ℕ
source_of c h p = cond (names c h) (on_some (handle c) (c.source (slot h) p)) None

-- each placed block's record has the ports that the chart keeps
abbrev pub Agrees : {R S : Type 0} → Meaning R S → Chart → (ℕ → Option R) → Type 0
Agrees {R = R} m c records = (s : ℕ) (r : R) → c.placed s ≡ true → records s ≡ Some r → (c.ports s ≡ m.ports r) × ((p : ℕ) → c.direct s p ≡ direct m.ports m.late r p)

pub record Coherent {R S : Type 0} (m : Meaning R S) (P : Plan R S) (c : Chart) (records : ℕ → Option R) (signals : ℕ → S) : Type 0 where
  pub blocks : (h : ℕ) → P.block h ≡ block_of c records h
  pub wires : (h p : ℕ) → P.source h p ≡ source_of c h p
  pub opened : P.opened ≡ is_some c.scan
  pub solved : P.opened ≡ true → (h : ℕ) → P.solved h ≡ signals (slot h)
  pub agrees : Agrees m c records
  pub long : Long records

-- a row keeps its entries where one is written,
pub long_put : {R : Type 0} (records : ℕ → Option R) (k : ℕ) (o : Option R) → is_some o ≡ true → Long records → Long (put records k o)
long_put records k o is was s low = elim (cases_eq s k) [
  | inl e ↦ ap is_some (put_same records k o s e) ∙ is
  | inr ne ↦ ap is_some (put_other records k o s ne) ∙ was s low
]

-- where one is changed,
pub some_still : {A B : Type 0} (f : A → B) (o : Option A) → is_some (on_some f o) ≡ is_some o
some_still f None = refl
some_still f (Some a) = refl

-- and where some are
pub long_some : {R : Type 0} (records : ℕ → Option R) (some : ℕ → Bool) (f : ℕ → R → R) → Long records → Long (λ s. cond (some s) (on_some (f s) (records s)) (records s))
long_some records some f was s low = elim (cases_Bool (some s)) [
  | inl on ↦ ap is_some (cond-true (some s) (on_some (f s) (records s)) (records s) on) ∙ some_still (f s) (records s) ∙ was s low
  | inr off ↦ ap is_some (cond-false (some s) (on_some (f s) (records s)) (records s) off) ∙ was s low
]

module _ {R : Type 0} (c : Chart) (records : ℕ → Option R) (h : ℕ) where
  pub block_in : names c h ≡ true → block_of c records h ≡ records (slot h)
  block_in e = cond-true (names c h) (records (slot h)) None e

  pub block_out : names c h ≡ false → block_of c records h ≡ None
  block_out e = cond-false (names c h) (records (slot h)) None e

module _ (c : Chart) (h p : ℕ) where
  pub source_in : names c h ≡ true → source_of c h p ≡ on_some (handle c) (c.source (slot h) p)
  source_in e = cond-true (names c h) (on_some (handle c) (c.source (slot h) p)) None e

  pub source_out : names c h ≡ false → source_of c h p ≡ None
  source_out e = cond-false (names c h) (on_some (handle c) (c.source (slot h) p)) None e

-- a block placed at the empty slot s
module _ {R S : Type 0} (m : Meaning R S) (c : Chart) (records : ℕ → Option R) (s : ℕ) (small : s < 256) (bare : c.placed s ≡ false) (r : R) where
  pub places_other : (h : ℕ) → (slot h ≡ s → ⊥) → names (placing m r s c) h ≡ names c h
  places_other h ne = ap (λ x. x && eqb (c.generation (slot h)) (h / 256)) (put_other c.placed s true (slot h) ne)

  places_here : (h : ℕ) → h ≡ handle c s → names (placing m r s c) h ≡ true
  places_here h e =
      let at : slot h ≡ s = ap slot e ∙ slot_handle c s small in
      names_from (placing m r s c) h (put_same c.placed s true (slot h) at)
      (ap c.generation at ∙ (let z : c.generation s ≡ h / 256 = omega arith in z))

  places_not : (h : ℕ) → slot h ≡ s → (h ≡ handle c s → ⊥) → names (placing m r s c) h ≡ false
  places_not h at ne = and_right _ _ (ne_eqb _ _ (λ g. ne (sym (parts h) ∙ ap₂ (λ x y. x * 256 + y) (sym g ∙ ap c.generation at) at)))

  was_not : (h : ℕ) → slot h ≡ s → names c h ≡ false
  was_not h at = not_named c h (ap c.placed at ∙ bare)

  pub placed_blocks : (h : ℕ) → put (block_of c records) (handle c s) (Some r) h ≡ block_of (placing m r s c) (put records s (Some r)) h
  placed_blocks h = elim (cases_eq (slot h) s) [
    | inr ne ↦
        put_other (block_of c records) (handle c s) (Some r) h (λ e. ne (ap slot e ∙ slot_handle c s small))
        ∙ sym (ap₂ (λ x y. cond x y None) (places_other h ne) (put_other records s (Some r) (slot h) ne))
    | inl at ↦ elim (cases_eq h (handle c s)) [
      | inl e ↦ put_same (block_of c records) (handle c s) (Some r) h e ∙ sym (block_in (placing m r s c) (put records s (Some r)) h (places_here h e) ∙ put_same records s (Some r) (slot h) at)
      | inr ne ↦ put_other (block_of c records) (handle c s) (Some r) h ne ∙ block_out c records h (was_not h at) ∙ sym (block_out (placing m r s c) (put records s (Some r)) h (places_not h at ne))
    ]
  ]

  pub placed_wires : (h p : ℕ) → source_of c h p ≡ source_of (placing m r s c) h p
  placed_wires h p = elim (cases_eq (slot h) s) [
    | inr ne ↦ sym (ap₂ (λ x y. cond x (on_some (handle c) (y p)) None) (places_other h ne) (put_other c.source s (λ q. None) (slot h) ne))
    | inl at ↦ source_out c h p (was_not h at)
        ∙ sym (ap (λ y. cond (names (placing m r s c) h) (on_some (handle c) (y p)) None) (put_same c.source s (λ q. None) (slot h) at) ∙ cond_same (names (placing m r s c) h) None)
  ]

  pub placed_agrees : Agrees m c records → Agrees m (placing m r s c) (put records s (Some r))
  placed_agrees was t q on is = elim (cases_eq t s) [
    | inl at ↦
        let e : r ≡ q = some_same (put records s (Some r) t) (put_same records s (Some r) t at) is in
        (put_same c.ports s (m.ports r) t at ∙ ap m.ports e, λ p. ap (λ f. f p) (put_same c.direct s (direct m.ports m.late r) t at) ∙ ap (λ x. direct m.ports m.late x p) e)
    | inr ne ↦
        let old = was t q (sym (put_other c.placed s true t ne) ∙ on) (sym (put_other records s (Some r) t ne) ∙ is) in
        (put_other c.ports s (m.ports r) t ne ∙ old.0, λ p. ap (λ f. f p) (put_other c.direct s (direct m.ports m.late r) t ne) ∙ old.1 p)
  ]

-- the block g taken out
module _ {R S : Type 0} (m : Meaning R S) (c : Chart) (order : List ℕ) (rank : ℕ → ℕ) (sound : Sound c order rank) (records : ℕ → Option R) (g : ℕ) (on : names c g ≡ true) where
  pub removes_other : (h : ℕ) → (slot h ≡ slot g → ⊥) → names (removing (slot g) c) h ≡ names c h
  removes_other h ne = ap₂ (λ x y. x && eqb y (h / 256)) (put_other c.placed (slot g) false (slot h) ne) (put_other c.generation (slot g) _ (slot h) ne)

  pub removes_here : (h : ℕ) → slot h ≡ slot g → names (removing (slot g) c) h ≡ false
  removes_here h at = not_named (removing (slot g) c) h (put_same c.placed (slot g) false (slot h) at)

  pub removed_blocks : (h : ℕ) → put (block_of c records) g None h ≡ block_of (removing (slot g) c) records h
  removed_blocks h = elim (cases_eq (slot h) (slot g)) [
    | inr ne ↦ put_other (block_of c records) g None h (λ e. ne (ap slot e)) ∙ sym (ap (λ x. cond x (records (slot h)) None) (removes_other h ne))
    | inl at ↦ elim (cases_eq h g) [
      | inl e ↦ put_same (block_of c records) g None h e ∙ sym (block_out (removing (slot g) c) records h (removes_here h at))
      | inr ne ↦ put_other (block_of c records) g None h ne ∙ block_out c records h (one_handle c g h on at ne) ∙ sym (block_out (removing (slot g) c) records h (removes_here h at))
    ]
  ]

  off_same : (o : Option ℕ) → ((u : ℕ) → o ≡ Some u → u < 256) → off g (on_some (handle c) o) ≡ on_some (handle (removing (slot g) c)) (off (slot g) o)
  off_same None low = refl
  off_same (Some u) low = elim (cases_eq u (slot g)) [
    | inl e ↦ cond-true (eqb (handle c u) g) None (Some (handle c u)) (eq-eqb _ _ (ap (handle c) e ∙ (named c g on).1))
        ∙ sym (ap (on_some (handle (removing (slot g) c))) (cond-true (eqb u (slot g)) None (Some u) (eq-eqb _ _ e)))
    | inr ne ↦ cond-false (eqb (handle c u) g) None (Some (handle c u)) (ne_eqb _ _ (λ e. ne (sym (slot_handle c u (low u refl)) ∙ ap slot e)))
        ∙ sym (ap (on_some (handle (removing (slot g) c))) (cond-false (eqb u (slot g)) None (Some u) (ne_eqb _ _ ne)) ∙ ap (λ x. Some (x * 256 + u)) (put_other c.generation (slot g) _ u ne))
  ]

  pub removed_wires : (h p : ℕ) → cond (eqb h g) None (off g (source_of c h p)) ≡ source_of (removing (slot g) c) h p
  removed_wires h p = elim (cases_eq (slot h) (slot g)) [
    | inl at ↦
        (elim (cases_eq h g) [
          | inl e ↦ cond-true (eqb h g) None (off g (source_of c h p)) (eq-eqb _ _ e)
          | inr ne ↦ cond-false (eqb h g) None (off g (source_of c h p)) (ne_eqb _ _ ne) ∙ ap (off g) (source_out c h p (one_handle c g h on at ne))
        ]) ∙ sym (source_out (removing (slot g) c) h p (removes_here h at))
    | inr ne ↦
        cond-false (eqb h g) None (off g (source_of c h p)) (ne_eqb _ _ (λ e. ne (ap slot e)))
        ∙ (elim (cases_Bool (names c h)) [
          | inr out ↦ ap (off g) (source_out c h p out) ∙ sym (source_out (removing (slot g) c) h p (removes_other h ne ∙ out))
          | inl named_h ↦ ap (off g) (source_in c h p named_h)
              ∙ off_same (c.source (slot h) p) (λ u e. sound.small u (sound.heads (slot h) p u e))
              ∙ sym (source_in (removing (slot g) c) h p (removes_other h ne ∙ named_h) ∙ ap (on_some (handle (removing (slot g) c))) (cond-false (eqb (slot h) (slot g)) None _ (ne_eqb _ _ ne)))
        ])
  ]

  pub removed_agrees : Agrees m c records → Agrees m (removing (slot g) c) records
  removed_agrees was t q still is = elim (cases_eq t (slot g)) [
    | inl at ↦ absurd (both_ways _ (put_same c.placed (slot g) false t at) still)
    | inr ne ↦
        let old = was t q (sym (put_other c.placed (slot g) false t ne) ∙ still) is in
        (put_other c.ports (slot g) 0 t ne ∙ old.0, λ p. ap (λ f. f p) (put_other c.direct (slot g) (λ i. false) t ne) ∙ old.1 p)
  ]

-- the port q of the block g wired otherwise
module _ (c : Chart) (g : ℕ) (on : names c g ≡ true) (q : ℕ) (o i : Option ℕ) (is : on_some (handle c) i ≡ o) where
  pub sourced_wires : (h p : ℕ) → put (source_of c) g (put (source_of c g) q o) h p ≡ source_of (sourcing (slot g) q i c) h p
  sourced_wires h p = elim (cases_eq h g) [
    | inl e ↦
        ap (λ f. f p) (put_same (source_of c) g (put (source_of c g) q o) h e)
        ∙ (elim (cases_eq p q) [
          | inl at ↦ put_same (source_of c g) q o p at ∙ sym is ∙ ap (on_some (handle c)) (sym (put_same (c.source (slot g)) q i p at))
          | inr ne ↦ put_other (source_of c g) q o p ne ∙ source_in c g p on ∙ ap (on_some (handle c)) (sym (put_other (c.source (slot g)) q i p ne))
        ])
        ∙ sym (source_in (sourcing (slot g) q i c) h p (ap (names c) e ∙ on) ∙ ap (λ f. on_some (handle c) (f p)) (put_same c.source (slot g) (put (c.source (slot g)) q i) (slot h) (ap slot e)))
    | inr ne ↦
        ap (λ f. f p) (put_other (source_of c) g (put (source_of c g) q o) h ne)
        ∙ (elim (cases_eq (slot h) (slot g)) [
          | inl at ↦ source_out c h p (one_handle c g h on at ne) ∙ sym (source_out (sourcing (slot g) q i c) h p (one_handle c g h on at ne))
          | inr off_slot ↦ sym (ap (λ f. cond (names c h) (on_some (handle c) (f p)) None) (put_other c.source (slot g) (put (c.source (slot g)) q i) (slot h) off_slot))
        ])
  ]

-- the record of the block g made f of it
module _ {R : Type 0} (c : Chart) (records : ℕ → Option R) (g : ℕ) (on : names c g ≡ true) (f : R → R) where
  pub edited_blocks : (h : ℕ) → put (block_of c records) g (on_some f (block_of c records g)) h ≡ block_of c (put records (slot g) (on_some f (records (slot g)))) h
  edited_blocks h = elim (cases_eq h g) [
    | inl e ↦ put_same (block_of c records) g _ h e ∙ ap (on_some f) (block_in c records g on)
        ∙ sym (block_in c (put records (slot g) (on_some f (records (slot g)))) h (ap (names c) e ∙ on) ∙ put_same records (slot g) _ (slot h) (ap slot e))
    | inr ne ↦ put_other (block_of c records) g _ h ne
        ∙ (elim (cases_eq (slot h) (slot g)) [
          | inl at ↦ block_out c records h (one_handle c g h on at ne) ∙ sym (block_out c (put records (slot g) (on_some f (records (slot g)))) h (one_handle c g h on at ne))
          | inr off_slot ↦ ap (λ x. cond (names c h) x None) (sym (put_other records (slot g) _ (slot h) off_slot))
        ])
  ]

mapped : {A B : Type 0} (f : A → B) (o : Option A) (b : B) → on_some f o ≡ Some b → (a : A) × (o ≡ Some a) × (f a ≡ b)
mapped f None b e = absurd (none_some None refl e)
mapped f (Some a) b e = (a, refl, cc)

pub direct_alike : {R S : Type 0} (m : Meaning R S) (q r : R) → SamePorts m.ports m.late q r → (p : ℕ) → direct m.ports m.late q p ≡ direct m.ports m.late r p
direct_alike m q r e p = ap₂ (λ x y. ltb p x && not y) e.0 (e.1 p)

pub edited_agrees : {R S : Type 0} (m : Meaning R S) (c : Chart) (records : ℕ → Option R) (t : ℕ) (f : R → R) → ((r : R) → records t ≡ Some r → SamePorts m.ports m.late (f r) r) → Agrees m c records → Agrees m c (put records t (on_some f (records t)))
edited_agrees m c records t f alike was s q on is = elim (cases_eq s t) [
  | inr ne ↦ was s q on (sym (put_other records t _ s ne) ∙ is)
  | inl at ↦
      let x = mapped f (records t) q (sym (put_same records t (on_some f (records t)) s at) ∙ is) in
      let old = was s x.0 on (ap records at ∙ x.1) in
      let like = alike x.0 x.1 in
      (old.0 ∙ sym like.0 ∙ ap m.ports x.2, λ p. old.1 p ∙ sym (direct_alike m (f x.0) x.0 like p) ∙ ap (λ y. direct m.ports m.late y p) x.2)
]

-- equal inputs, port by port
pub inputs_same : {S : Type 0} (x y : Inputs S) → x.a ≡ y.a → x.b ≡ y.b → x.c ≡ y.c → x ≡ y
inputs_same x y ea eb ec = λ i. record { a = ea i; b = eb i; c = ec i }

-- what the ports of a block carry in the plan is what those of its slot carry
pub carried_same : {R S : Type 0} (m : Meaning R S) (P : Plan R S) (c : Chart) → ((h p : ℕ) → P.source h p ≡ source_of c h p) → (h : ℕ) → names c h ≡ true → (σ signals : ℕ → S) → ((t p u : ℕ) → c.source t p ≡ Some u → σ (handle c u) ≡ signals u)
    → inputs_of m σ (P.source h) ≡ inputs_of m signals (c.source (slot h))
carried_same m P c wires h on σ signals same = inputs_same _ _ (port 0) (port 1) (port 2)
  where
    go : (p : ℕ) (o : Option ℕ) → c.source (slot h) p ≡ o → carried m σ (on_some (handle c) o) ≡ carried m signals o
    go p None e = refl
    go p (Some u) e = same (slot h) p u e

    port : (p : ℕ) → carried m σ (P.source h p) ≡ carried m signals (c.source (slot h) p)
    port p = ap (carried m σ) (wires h p ∙ source_in c h p on) ∙ go p (c.source (slot h) p) refl

settled_some : {R : Type 0} (b : Bool) (o : Option R) (f : R → R) → b ≡ true → cond b (on_some f o) o ≡ on_some f o
settled_some b o f e = cond-true b (on_some f o) o e

-- each placed block's record made the next one
module _ {R S : Type 0} (m : Meaning R S) (c : Chart) (records : ℕ → Option R) (f : ℕ → R → R) where
  pub settled_blocks : (g : ℕ → R → R) → ((h : ℕ) → names c h ≡ true → g h ≡ f (slot h)) → (h : ℕ) → on_some (g h) (block_of c records h) ≡ block_of c (λ s. cond (c.placed s) (on_some (f s) (records s)) (records s)) h
  settled_blocks g same h = elim (cases_Bool (names c h)) [
    | inr out ↦ ap (on_some (g h)) (block_out c records h out) ∙ sym (block_out c (λ s. cond (c.placed s) (on_some (f s) (records s)) (records s)) h out)
    | inl on ↦ ap₂ on_some (same h on) (block_in c records h on)
        ∙ sym (block_in c (λ s. cond (c.placed s) (on_some (f s) (records s)) (records s)) h on ∙ settled_some (c.placed (slot h)) (records (slot h)) (f (slot h)) (named c h on).0)
  ]

  pub settled_agrees : ((s : ℕ) (r : R) → SamePorts m.ports m.late (f s r) r) → Agrees m c records → Agrees m c (λ s. cond (c.placed s) (on_some (f s) (records s)) (records s))
  settled_agrees alike was s q on is =
      let x = mapped (f s) (records s) q (sym (settled_some (c.placed s) (records s) (f s) on) ∙ is) in
      let old = was s x.0 on x.1 in
      let like = alike s x.0 in
      (old.0 ∙ sym like.0 ∙ ap m.ports x.2, λ p. old.1 p ∙ sym (direct_alike m (f s x.0) x.0 like p) ∙ ap (λ y. direct m.ports m.late y p) x.2)
