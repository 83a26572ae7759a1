use Rattle.text.proofs.Writing.{both}
use Rattle.explain.specs.RecordLine.{which_text}
use Rattle.explain.proofs.lines.put_which.Goals as goal

pub returns : goal.returns
unfolding which_text
returns c =
    rw (← c.label_of.ensures, ← c.is_generic.ensures)
    (both _ _ _ _ _ _ _ _ c.put_word-number.ensures
    (both _ _ _ _ _ _ _ _ c.put_decimal-behind_number.ensures
    (both _ _ _ _ _ _ _ _ c.put_word-label.ensures
    (both _ _ _ _ _ _ _ _ c.put_decimal-behind_label.ensures c.put_if.ensures))))
