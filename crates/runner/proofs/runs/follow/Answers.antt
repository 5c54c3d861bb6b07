use Rattle.std.proofs.Common.{◌≡◌, ℕ, ◌+◌, true, List, [], ◌∷◌, ◌++◌, length, sym, refl, ap, ◌∙◌, subst, append_assoc, arith, length-append, Ok, rules}
use Rattle.std.proofs.lemmas.List.{append-nil}
use Rattle.family.specs.Meaning.{meaning}
use Rattle.passes.specs.Scan.{long}
use Rattle.diagram.specs.View.{lent}
use Rattle.words.specs.Left.{lines_left}
use Rattle.loop_file.specs.Lines.{order}
use Rattle.runner.specs.Desks.{desk_of}
use Rattle.runner.specs.Runs.{Followed, start, next, RunOf, stopped_at, ended, stopped}
use Rattle.runner.proofs.Drops.{drop_later}
use Rattle.runner.proofs.Sessions.{counted}
use Rattle.runner.proofs.runs.follow.Goals as goal

pub loop-before-init : goal.loop-before-init
loop-before-init g c = ([], [], search rules, start, search rules, c.requires.rows, omega arith, refl)

pub loop-before-preserved : goal.loop-before-preserved
loop-before-preserved g c =
    let v = c.loop-before.invariant in
    let n = c.in-Some.ensures.steps.0 in
    let b = c.in-Ok.ensures in
    let rows : long c.obey.new.records c.obey.new.signals ≡ true = search rules in
    let ahead = lines_left c.next.new.self.iter.lines in (
      v.0 ++ (n.0 ∷ []),
      b.events ++ v.1,
      v.2 ∙ ap (λ (q : List (List ℕ)). v.0 ++ q) n.1 ∙ sym (append_assoc v.0 (n.0 ∷ []) ahead),
      next n.0 (order c.in-Some.command) b.events v.3 n.2 b.line,
      length-append v.0 (n.0 ∷ []) ∙ ap (λ (k : ℕ). k + 1) v.4 ∙ sym c.in-Some.ensures.steps.2,
      rows,
      b.within,
      b.rest ∙ drop_later c.loop-before.written c.in-Ok.on c.loop-before.reply c.args.reply.now b.up v.7,
    )

pub returns-in-Err : goal.returns-in-Err
returns-in-Err g c =
    let m = meaning g.F.Family in
    let v = c.loop-before.invariant in
    let n = c.in-Some.ensures.steps.0 in
    let b = c.in-Err.ensures in
    let lines = lines_left c.args.commands.lines in
    let x = desk_of (lent c.args.diagram.now c.args.records.now c.args.signals.now) c.args.names.now c.args.reply.now 0 in
    let y = desk_of (lent c.obey.new.diagram c.obey.new.records c.obey.new.signals) c.obey.new.names c.obey.new.reply c.loop-before.written in
    let did : RunOf m lines x (b.events ++ v.1) (stopped_at (length v.0 + 1) c.in-Err.refusal) y =
    stopped v.0 (lines_left c.next.new.self.iter.lines) n.0 (order c.in-Some.command) b.events c.in-Err.refusal (v.2 ∙ ap (λ (q : List (List ℕ)). v.0 ++ q) n.1) v.3 n.2 b.line in
    let run = subst (λ (k : ℕ). RunOf m lines x (b.events ++ v.1) (stopped_at (k + 1) c.in-Err.refusal) y) (v.4 ∙ sym c.in-Some.ensures.steps.1) did in
    record {
      ran = record { events = b.events ++ v.1; run = run; counts = λ es s. counted m lines x y (b.events ++ v.1) es _ run s };
      rest = b.rest ∙ v.7;
      within = b.within;
    }

pub returns : goal.returns
returns g c =
    let m = meaning g.F.Family in
    let v = c.loop-before.invariant in
    let lines = lines_left c.args.commands.lines in
    let x = desk_of (lent c.args.diagram.now c.args.records.now c.args.signals.now) c.args.names.now c.args.reply.now 0 in
    let y = desk_of (lent c.loop-before.diagram c.loop-before.records c.loop-before.signals) c.loop-before.names c.loop-before.reply c.loop-before.written in
    let all : v.0 ≡ lines = sym (v.2 ∙ ap (λ (q : List (List ℕ)). v.0 ++ q) c.in-None.ensures.steps.0.0 ∙ append-nil v.0) in
    let did : RunOf m lines x v.1 (Ok (length lines)) y = ended (subst (λ (q : List (List ℕ)). Followed m x q v.1 y) all v.3) in
    let run = subst (λ (k : ℕ). RunOf m lines x v.1 (Ok k) y) (sym c.requires.count) did in
    record {
      ran = record { events = v.1; run = run; counts = λ es s. counted m lines x y v.1 es _ run s };
      rest = v.7;
      within = v.6;
    }
