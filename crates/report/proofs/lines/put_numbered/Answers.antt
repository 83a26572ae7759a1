use Rattle.text.proofs.Writing.{both}
use Rattle.report.proofs.lines.put_numbered.Goals as goal

pub returns : goal.returns
returns c =
    both _ _ _ _ _ _ _ _ c.put_number-end.ensures c.put_byte.ensures
