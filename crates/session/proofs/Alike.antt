-- The induction along two sessions.
use Rattle.std.proofs.Common.{◌≡◌, ℕ, true, false, List, [], ◌∷◌, is_some, sym, refl, ap, ◌∙◌, subst, inl, inr, arith}
use Rattle.std.proofs.lemmas.Bool.{cases_Bool, cond-true, cond-false, both_ways}
use Rattle.family.specs.Meaning.{Meaning}
use Rattle.diagram.specs.Calls.{Event, stirs, Lawful}
use Rattle.diagram.specs.Chart.{Chart, names, empty}
use Rattle.diagram.specs.World.{World, Does}
use Rattle.session.specs.Plan.{planned, plan, Wake}
use Rattle.session.specs.Law.{others, Confinement}
use Rattle.session.specs.Begun.{Long, LentSession, start, then}
use Rattle.session.proofs.Steps.{coherent}
use Rattle.session.proofs.Solving.{stands}
use Rattle.session.proofs.Wakes.{Twin, both, stir_left, stir_right}

no_cons : {A : Type 0} (x : A) (xs : List A) → ◌≡◌ {A = List A} (x ∷ xs) [] → ⊥
no_cons x xs e = let z : ◌≡◌ {A = ℕ} 0 1 = cc in omega arith

head_same : {A : Type 0} (x y : A) (xs ys : List A) → ◌≡◌ {A = List A} (x ∷ xs) (y ∷ ys) → x ≡ y
head_same x y xs ys e = cc

tail_same : {A : Type 0} (x y : A) (xs ys : List A) → ◌≡◌ {A = List A} (x ∷ xs) (y ∷ ys) → xs ≡ ys
tail_same x y xs ys e = cc

module _ {S : Type 0} (h : ℕ) (e : Event S) (es : List (Event S)) where
  mine_out : stirs h e.call ≡ true → others h (e ∷ es) ≡ others h es
  mine_out = cond-true (stirs h e.call) (others h es) (e.call ∷ others h es)

  other_in : stirs h e.call ≡ false → others h (e ∷ es) ≡ e.call ∷ others h es
  other_in = cond-false (stirs h e.call) (others h es) (e.call ∷ others h es)

module _ {R S : Type 0} (m : Meaning R S) (lawful : Lawful m) (h : ℕ) where
  -- the two sessions, so far
  abbrev Twins : List (Event S) → World R S → List (Event S) → World R S → Type 0
  Twins es w fs v = Twin m h (plan m es) (plan m fs) (Wake m h es) w v

  -- two fresh diagrams
  fresh_both : (w v : World R S) → w.chart ≡ empty → v.chart ≡ empty → Twins [] w [] v
  fresh_both w v e f = record {
    chart = e ∙ sym f;
    blocks = λ k out. refl;
    signals = λ k on out. absurd (both_ways false refl (ap (λ z. names z k) (sym e) ∙ on));
    closed = λ o. absurd (both_ways false refl (ap (λ (z : Chart). is_some z.scan) (sym e) ∙ o));
    mine = inl refl;
  }

  -- an edit of h in the second session alone
  right : (es fs : List (Event S)) (w v v' : World R S) (f : Event S) → LentSession m es w → LentSession m fs v → Does m f.call v f.answer v' → stirs h f.call ≡ true → Twins es w fs v → Twins es w (f ∷ fs) v'
  right es fs w v v' f s t does mine twin =
      stir_right m lawful h (plan m es) (plan m fs) (Wake m h es) w v (coherent m lawful es w s) (coherent m lawful fs v t) twin f.call f.answer v' f.signals mine does

  -- a second session with edits of h alone
  drain : (w : World R S) (e : w.chart ≡ empty) (l : Long w.records) (fs : List (Event S)) (v : World R S) → LentSession m fs v → others h fs ≡ [] → Twins [] w fs v
  drain w e l fs v (start f k) none = fresh_both w v e f
  drain w e l fs v' (then {w = v} {es = gs} f t does same) none = elim (cases_Bool (stirs h f.call)) [
    | inl mine ↦ right [] gs w v v' f (start e l) t does mine (drain w e l gs v t (sym (mine_out h f gs mine) ∙ none))
    | inr not_mine ↦ absurd (no_cons f.call (others h gs) (sym (other_in h f gs not_mine) ∙ none))
  ]

  module _ (es : List (Event S)) (w w' : World R S) (e : Event S) (s : LentSession m es w) (does : Does m e.call w e.answer w') (whole : LentSession m (e ∷ es) w')
      (rec : (fs : List (Event S)) (v : World R S) → LentSession m fs v → others h es ≡ others h fs → Twins es w fs v) where
    -- one more call of both
    meet : (fs : List (Event S)) (v : World R S) → LentSession m fs v → e.call ∷ others h es ≡ others h fs → Twins (e ∷ es) w' fs v
    meet fs v (start f k) same = absurd (no_cons e.call (others h es) same)
    meet fs v' (then {w = v} {es = gs} f t does' sig) same = elim (cases_Bool (stirs h f.call)) [
      | inl mine ↦ right (e ∷ es) gs w' v v' f whole t does' mine (meet gs v t (same ∙ mine_out h f gs mine))
      | inr not_mine ↦
          let line = same ∙ other_in h f gs not_mine in
          let call : e.call ≡ f.call = head_same e.call f.call (others h es) (others h gs) line in
          let twin = rec gs v t (tail_same e.call f.call (others h es) (others h gs) line) in
          subst (λ c. Twin m h (plan m (e ∷ es)) (planned m c f.answer f.signals (plan m gs)) (Wake m h (e ∷ es)) w' v') call
          (both m lawful h (plan m es) (plan m gs) (Wake m h es) w v (coherent m lawful es w s) (coherent m lawful gs v t) twin
          e.call e.answer f.answer w' v' e.signals f.signals does (subst (λ c. Does m c v f.answer v') (sym call) does'))
    ]

    -- an edit of h in the first session alone
    left : stirs h e.call ≡ true → (fs : List (Event S)) (v : World R S) → LentSession m fs v → others h es ≡ others h fs → Twins (e ∷ es) w' fs v
    left mine fs v t same =
        stir_left m lawful h (plan m es) (plan m fs) (Wake m h es) w v (coherent m lawful es w s) (coherent m lawful fs v t) (rec fs v t same) e.call e.answer w' e.signals mine does

  -- along both
  pub twins : (es : List (Event S)) (w : World R S) → LentSession m es w → (fs : List (Event S)) (v : World R S) → LentSession m fs v → others h es ≡ others h fs → Twins es w fs v
  twins es w (start e l) fs v t same = drain w e l fs v t (sym same)
  twins es w' (then {w} {es = gs} e s does sig) fs v t same = elim (cases_Bool (stirs h e.call)) [
    | inl mine ↦ left gs w w' e s does (then e s does sig) (λ fs v t same. twins gs w s fs v t same) mine fs v t (sym (mine_out h e gs mine) ∙ same)
    | inr not_mine ↦ meet gs w w' e s does (then e s does sig) (λ fs v t same. twins gs w s fs v t same) fs v t (sym (other_in h e gs not_mine) ∙ same)
  ]

pub confinement : {R S : Type 0} (m : Meaning R S) → Lawful m → Confinement m (World R S) (λ w. w.signals) (LentSession m)
confinement m lawful h es fs w v s t same k r block out =
    let twin = twins m lawful h es w s fs v t same in
    (sym (twin.blocks k out) ∙ block, twin.signals k (stands m (plan m es) w (coherent m lawful es w s) k r block).0 out)
