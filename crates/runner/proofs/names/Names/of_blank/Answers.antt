use Rattle.runner.proofs.Found.{all_blank}
use Rattle.runner.proofs.names.Names.of_blank.Goals as goal

pub returns : goal.returns
returns c = all_blank c.args.entry c.requires.name c.requires.handle
