-- What a line's own function promises, as what a line does at a desk.
use Rattle.std.proofs.Common.{◌≡◌, ℕ, ◌≤◌, true, List, [], ◌∷◌, ◌++◌, length, take, drop, Some, None, Ok, Err, Option, Result, sym, refl, ap, ◌∙◌, subst, ap₂, arith}
use Rattle.family.specs.Meaning.{Meaning}
use Rattle.refusal.specs.declared.refusals.Refusal.{Refusal}
use Rattle.diagram.specs.Calls.{Call, refused, Event}
use Rattle.diagram.specs.Chart.{first}
use Rattle.diagram.specs.Made.{answer}
use Rattle.diagram.specs.View.{Lent}
use Rattle.loop_file.specs.Orders.{Order, nothing, block, wire, cut, remove, tune, feed, scan, show}
use Rattle.runner.specs.declared.names.Names.{Names}
use Rattle.runner.specs.Desks.{desk_of, verdict, place}
use Rattle.runner.specs.Lines.{Desk, Under, Tried, shown_of, line_checks, call_of, Showing, Showed}
use Rattle.runner.specs.Runs.{why, NamesAfter, Doing, Obeyed}
use Rattle.runner.specs.Scans.{event, rows_fit}

-- the answer of a line that adds nothing to the reply
abbrev pub staying : {A : Type 0} → Result A Refusal → ℕ → Result ℕ Refusal
staying (Ok a) at = Ok at
staying (Err e) at = Err e

-- a refused line leaves the names
names_left : (o : Order) (e : Refusal) (t t' : Names) → NamesAfter o (refused e) t t' → t' ≡ t
names_left nothing e t t' n = n
names_left (block x k p q r) e t t' n = n
names_left (wire s p f) e t t' n = n
names_left (cut s p) e t t' n = n
names_left (remove x) e t t' n = n
names_left (tune x p q r) e t t' n = n
names_left (feed x z) e t t' n = n
names_left (scan k) e t t' n = n
names_left (show x) e t t' n = n

module _ {F R S A : Type 0} (m : Meaning R S) (f : A → ℕ) where
  -- a line that stands for the call c
  done : (e : Option Refusal) (c : Call) (o : Order) (x : Desk F R S) (l : Lent F R S) (t' : Names) (r : Result A Refusal) → rows_fit x.lent ≡ true → Under m e (Some c) f x.lent r l
      → NamesAfter o (answer f r) x.names t' → (es : List (Event S)) × Doing m e (Some c) o x es (why (answer f r)) (record { lent = l; names = t'; said = x.said; room = x.room })
  done (Some e) c o x l t' r rows u n =
      let left : t' ≡ x.names = names_left o e x.names t' (subst (λ (q : Result A Refusal). NamesAfter o (answer f q) x.names t') u.0 n) in
      ([], (refl, ap (λ (q : Result A Refusal). why (answer f q)) u.0, λ i. record { lent = u.1 i; names = left i; said = x.said; room = x.room }))
  done None c o x l t' r rows u n = (event m c (answer f r) l ∷ [], (answer f r, record { rows = rows; made = u; events = refl; verdict = refl; said = refl }, n))

  -- at a desk whose reply stands in a buffer
  stays : (o : Order) (c : Call) (k : Lent F R S) (t : Names) (reply : List ℕ) (at : ℕ) (r : Result A Refusal) (l : Lent F R S) (t' : Names) → call_of m o (desk_of k t reply at) ≡ Some c → at ≤ length reply → rows_fit k ≡ true
      → Under m (first (line_checks m o (desk_of k t reply at))) (Some c) f k r l → NamesAfter o (answer f r) t t' → Obeyed m o k t reply at (staying r at) l t' reply
  stays o c k t reply at (Ok a) l t' is low rows u n =
      let x = desk_of k t reply at in
      let w = done (first (line_checks m o x)) c o x l t' (Ok a) rows u n in
      record { events = w.0; line = (refl, subst (λ (d : Option Call). Doing m (first (line_checks m o x)) d o x w.0 None (desk_of l t' reply at)) (sym is) w.1); rest = refl; up = omega arith; within = low }
  stays o c k t reply at (Err e) l t' is low rows u n =
      let x = desk_of k t reply at in
      let w = done (first (line_checks m o x)) c o x l t' (Err e) rows u n in
      record { events = w.0; line = (refl, subst (λ (d : Option Call). Doing m (first (line_checks m o x)) d o x w.0 (Some e) (desk_of l t' reply at)) (sym is) w.1); rest = refl; up = omega arith; within = low }

  -- a line that stands for a call and adds nothing to the reply, by another name of its order and of its answer
  pub by_call : (o o' : Order) (c : Call) (k : Lent F R S) (t : Names) (reply : List ℕ) (at : ℕ) (r : Result A Refusal) (s : Result ℕ Refusal) (l : Lent F R S) (t' : Names) → o' ≡ o → s ≡ staying r at → call_of m o (desk_of k t reply at) ≡ Some c → at ≤ length reply → rows_fit k ≡ true
      → Tried m f o (desk_of k t reply at) r l → NamesAfter o (answer f r) t t' → Obeyed m o' k t reply at s l t' reply
  by_call o o' c k t reply at r s l t' p q is low rows u n =
      let v : Under m (first (line_checks m o (desk_of k t reply at))) (Some c) f k r l = subst (λ (d : Option Call). Under m (first (line_checks m o (desk_of k t reply at))) d f k r l) is u in
      subst (λ (x : Order). Obeyed m x k t reply at s l t' reply) (sym p) (subst (λ (x : Result ℕ Refusal). Obeyed m o k t reply at x l t' reply) (sym q) (stays o c k t reply at r l t' is low rows v n))

module _ {F R S : Type 0} (m : Meaning R S) (k : Lent F R S) (t : Names) where
  -- a `show` line, by the check that stops it
  shows : (e : Option Refusal) (n text old : List ℕ) (at : ℕ) (r : Result ℕ Refusal) (new : List ℕ) → text ≡ shown_of m (desk_of k t old at) n → at ≤ length old → length new ≡ length old → Showing e text old at r new
      → (Doing m e None (show n) (desk_of k t old at) [] (verdict r) (desk_of k t new (place at r))) × (drop (place at r) new ≡ drop (place at r) old) × (at ≤ place at r) × (place at r ≤ length new)
  shows (Some e) n text old at r new is low same s =
      let p : place at r ≡ at = ap (place at) s.0 in (
        (refl, ap verdict s.0, ap₂ (λ (q : List ℕ) (i : ℕ). desk_of k t q i) s.1 p),
        ap (drop (place at r)) s.1,
        omega (arith, p),
        omega (arith, p, same),
      )
  shows None n text old at (Ok on) new is low same s = ((refl, refl, refl, refl, s.front ∙ ap (λ (q : List ℕ). take at old ++ q) is), s.back, omega (arith, s.place), s.within)
  shows None n text old at (Err e) new is low same s = absurd s

  -- a `show` line
  show_line : (n old : List ℕ) (at : ℕ) (r : Result ℕ Refusal) (new : List ℕ) → at ≤ length old → length new ≡ length old → Showed m n (desk_of k t old at) old at r new → Obeyed m (show n) k t old at r k t new
  show_line n old at r new low same s =
      let w = shows (first (line_checks m (show n) (desk_of k t old at))) n (shown_of m (desk_of k t old at) n) old at r new refl low same s in
      record { events = []; line = (same, w.0); rest = w.1; up = w.2; within = w.3 }

  -- the same, by another name of its order
  pub by_show : (o : Order) (n old : List ℕ) (at : ℕ) (r : Result ℕ Refusal) (new : List ℕ) → o ≡ show n → at ≤ length old → length new ≡ length old → Showed m n (desk_of k t old at) old at r new → Obeyed m o k t old at r k t new
  by_show o n old at r new p low same s = subst (λ (x : Order). Obeyed m x k t old at r k t new) (sym p) (show_line n old at r new low same s)
