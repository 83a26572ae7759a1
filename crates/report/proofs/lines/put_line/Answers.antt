use Rattle.text.proofs.Writing.{both}
use Rattle.report.specs.Text.{line_of}
use Rattle.report.proofs.lines.put_line.Goals as goal

pub returns : goal.returns
unfolding line_of
returns c =
    both _ _ _ _ _ _ _ _ c.put_answer-end.ensures c.put_byte.ensures
