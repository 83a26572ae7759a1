use mathlib.Core.Path.{sym, ◌∙◌}
use Rattle.file_writer.proofs.Lines.{head_plain, head_generic}
use Rattle.file_writer.proofs.put_head.Goals as goal

pub returns-then-is_generic : goal.returns-then-is_generic
returns-then-is_generic c =
    head_generic _ _ _ _ _ _ _ _ c.label_of.ensures _ _ (sym c.is_generic.ensures ∙ c.if-is_generic.true)
    c.put_decimal-blank.ensures c.put_byte-next.ensures c.put_word.ensures

pub returns : goal.returns
returns c =
    head_plain _ _ _ _ _ _ _ _ c.label_of.ensures (sym c.is_generic.ensures ∙ c.if-is_generic.false)
    c.put_decimal-blank.ensures c.put_byte-next.ensures
