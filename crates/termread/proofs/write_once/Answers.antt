use Rattle.std.proofs.Common.{length}
use Rattle.termread.specs.Reached.{took}
use Rattle.termread.proofs.write_once.Goals as goal

-- The only place where bytes become taken: as many as `write` answered.
pub returns : goal.returns
returns c = took c.args.taken (length c.args.text.now) c.write.result c.requires.reached
