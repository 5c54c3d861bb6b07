use Rattle.std.proofs.Common.{◌≡◌, true, false, [], is_some, add-one, rules}
use Rattle.passes.specs.Scan.{long}
use Rattle.family.specs.Meaning.{meaning}
use Rattle.runner.specs.Scans.{none, more, scan_events}
use Rattle.runner.proofs.scans.scan.Goals as goal

pub loop-n-init : goal.loop-n-init
loop-n-init g c =
    let shut : is_some c.args.diagram.now.scan ≡ false = search rules in
    (shut, c.requires, ([], none))

pub loop-n-preserved : goal.loop-n-preserved
loop-n-preserved g c =
    let rows : long c.scan_once.new.records c.scan_once.new.signals ≡ true = search rules in
    let s = c.scan_once.ensures.scan in
    let so_far = c.loop-n.invariant.2 in
    (c.scan_once.ensures.shut, rows, (scan_events (meaning g.F.Family) s so_far.0, rw add-one (more so_far.1 s)))
