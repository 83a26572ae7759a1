use Rattle.text.proofs.Writing.{both}
use Rattle.report.proofs.lines.put_number.Goals as goal

pub returns : goal.returns
returns c =
    both _ _ _ _ _ _ _ _ c.put_word-next.ensures c.put_decimal.ensures
