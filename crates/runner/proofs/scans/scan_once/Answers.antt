use Rattle.std.proofs.Common.{rules}
use Rattle.diagram.specs.View.{lent}
use Rattle.runner.proofs.scans.scan_once.Goals as goal

pub returns-clause-scan : goal.returns-clause-scan
returns-clause-scan g c = record {
  number = c.unwrap-token.result.number;
  between = lent c.solve.new.self c.args.records.now c.solve.new.signals;
  rows = (c.requires.rows, search rules);
  solved = search rules;
  settled = search rules;
}
