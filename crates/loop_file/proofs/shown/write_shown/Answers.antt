use Rattle.std.proofs.Common.{rules}
use Rattle.loop_file.proofs.Writes.{more}
use Rattle.loop_file.proofs.shown.write_shown.Goals as goal

pub returns : goal.returns
returns c = search (rules, more c.put-on.ensures c.put.ensures)
