use Rattle.std.proofs.Common.{refl, rules}
use Rattle.termread.specs.Came.{nothing_came}
use Rattle.termread.proofs.read_input.Goals as goal

pub loop-count-init : goal.loop-count-init
loop-count-init g c = (search rules, refl, nothing_came)
