-- The calls of a run go on with a session.
use Rattle.std.proofs.Common.{◌≡◌, ℕ, true, leb, List, [], ◌∷◌, ◌++◌, length, Some, None, Option, Result, sym, refl, ap, subst, append_assoc}
use Rattle.std.proofs.lemmas.Bool.{and_parts}
use Rattle.family.specs.Meaning.{Meaning}
use Rattle.refusal.specs.declared.refusals.Refusal.{Refusal}
use Rattle.diagram.specs.Calls.{Call, Answer, ok, Event}
use Rattle.diagram.specs.Calls as calls
use Rattle.diagram.specs.Chart.{first}
use Rattle.diagram.specs.Made.{Made, fits}
use Rattle.diagram.specs.View.{Lent, world}
use Rattle.session.specs.Begun.{LentSession, then}
use Rattle.loop_file.specs.declared.stop.Stop.{Stop}
use Rattle.loop_file.specs.Orders.{Order, nothing, block, wire, cut, remove, tune, feed, scan, show}
use Rattle.runner.specs.Lines.{Desk, line_checks, call_of}
use Rattle.runner.specs.Runs.{Doing, Followed, start, next, RunOf, ended, stopped}
use Rattle.runner.specs.Scans.{event, rows_fit, Scanned, none, more}

-- where both rows are long, those that a call takes are
all_fit : {F R S : Type 0} (c : Call) (l : Lent F R S) → rows_fit l ≡ true → fits c l.records l.signals ≡ true
all_fit (calls.place kind x) l e = e
all_fit (calls.remove h) l e = refl
all_fit (calls.wire t p s) l e = refl
all_fit (calls.cut t p) l e = refl
all_fit (calls.edit h x) l e = (and_parts (leb 256 (length l.records)) (leb 256 (length l.signals)) e).0
all_fit calls.solve l e = e
all_fit (calls.settle n) l e = e

module _ {F R S : Type 0} (m : Meaning R S) where
  -- one call more
  one_more : (c : Call) (a : Answer) (k l : Lent F R S) (es : List (Event S)) → rows_fit k ≡ true → Made m c k a l → LentSession m es (world m k) → LentSession m (event m c a l ∷ es) (world m l)
  one_more c a k l es rows made s = then {w = world m k} {v = world m l} (event m c a l) s (made.does (all_fit c k rows)) (λ t. refl)

  -- scans
  scanned : (k l : Lent F R S) (n : ℕ) (es fs : List (Event S)) → Scanned m k n es l → LentSession m fs (world m k) → LentSession m (es ++ fs) (world m l)
  scanned k l n es fs none s = s
  scanned k l n es fs (more {es = gs} {l = j} so_far once) s =
      one_more (calls.settle once.number) (ok 0) once.between l _ once.rows.1 once.settled
      (one_more calls.solve (ok once.number) j once.between _ once.rows.0 once.solved (scanned k j _ gs fs so_far s))

  -- nothing was called
  same : (x y : Desk F R S) (es fs : List (Event S)) → es ≡ [] → y.lent ≡ x.lent → LentSession m fs (world m x.lent) → LentSession m (es ++ fs) (world m y.lent)
  same x y es fs e l s = subst (λ (gs : List (Event S)). LentSession m (gs ++ fs) (world m y.lent)) (sym e) (subst (λ (q : Lent F R S). LentSession m fs (world m q)) (sym l) s)

  -- a line, by what decides it
  did : (e : Option Refusal) (c : Option Call) (o : Order) (x y : Desk F R S) (es fs : List (Event S)) (v : Option Refusal) → Doing m e c o x es v y → LentSession m fs (world m x.lent) → LentSession m (es ++ fs) (world m y.lent)
  did (Some e) c o x y es fs v b s = same x y es fs b.0 (ap (λ (d : Desk F R S). d.lent) b.2) s
  did None (Some c) o x y es fs v b s =
      subst (λ (gs : List (Event S)). LentSession m (gs ++ fs) (world m y.lent)) (sym b.1.events) (one_more c b.0 x.lent y.lent fs b.1.rows b.1.made s)
  did None None nothing x y es fs v b s = same x y es fs b.0 (ap (λ (d : Desk F R S). d.lent) b.2) s
  did None None (block n k p q r) x y es fs v b s = absurd b
  did None None (wire t p f) x y es fs v b s = absurd b
  did None None (cut t p) x y es fs v b s = absurd b
  did None None (remove n) x y es fs v b s = absurd b
  did None None (tune n p q r) x y es fs v b s = absurd b
  did None None (feed n z) x y es fs v b s = absurd b
  did None None (scan n) x y es fs v b s = scanned x.lent y.lent n es fs b.0 s
  did None None (show n) x y es fs v b s = same x y es fs b.0 b.2 s

  -- lines that were followed
  followed : (x y : Desk F R S) (lines : List (List ℕ)) (es fs : List (Event S)) → Followed m x lines es y → LentSession m fs (world m x.lent) → LentSession m (es ++ fs) (world m y.lent)
  followed x y lines es fs start s = s
  followed x y lines es fs (next {es = gs} {y = w} line o hs before says did_line) s =
      subst (λ (q : List (Event S)). LentSession m q (world m y.lent)) (sym (append_assoc hs gs fs))
      (did (first (line_checks m o w)) (call_of m o w) o w y hs (gs ++ fs) None did_line.1 (followed x w _ gs fs before s))

  -- a run
  pub counted : (lines : List (List ℕ)) (x y : Desk F R S) (es fs : List (Event S)) (outcome : Result ℕ Stop) → RunOf m lines x es outcome y → LentSession m fs (world m x.lent) → LentSession m (es ++ fs) (world m y.lent)
  counted lines x y es fs outcome (ended all) s = followed x y lines es fs all s
  counted lines x y es fs outcome (stopped {es = gs} {y = w} before after line o hs r is so_far says did_line) s =
      subst (λ (q : List (Event S)). LentSession m q (world m y.lent)) (sym (append_assoc hs gs fs))
      (did (first (line_checks m o w)) (call_of m o w) o w y hs (gs ++ fs) (Some r) did_line.1 (followed x w before gs fs so_far s))
