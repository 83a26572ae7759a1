use Rattle.text.proofs.Writing.{put_none}
use Rattle.explain.proofs.lines.put_if.Goals as goal

pub returns-then-shown : goal.returns-then-shown
returns-then-shown c = rw c.if-shown.true c.put_word.ensures

pub returns-else-shown : goal.returns-else-shown
returns-else-shown c = rw c.if-shown.false (put_none _ _)
