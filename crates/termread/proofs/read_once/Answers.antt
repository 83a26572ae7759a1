use Rattle.std.proofs.Common.{length, rules}
use Rattle.termread.specs.Came.{read_said}
use Rattle.termread.proofs.AnswerTests.{moved_of}
use Rattle.termread.proofs.read_once.Goals as goal

-- The only place where bytes come in: as many as `read` answered.
pub returns : goal.returns
returns c =
    read_said c.args.count (length c.args.buffer.now) c.read.result c.requires.came c.requires.in_bounds
    (moved_of c.read.result c.read.new.buf (length c.args.buffer.now) (search rules) c.read.ensures.bound)
