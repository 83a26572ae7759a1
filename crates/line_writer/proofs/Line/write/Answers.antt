use Rattle.line_writer.proofs.Writing.{no_room, whole_line_lem}
use borrow.Author.Rules.{rules}
use Rattle.line_writer.proofs.Line.write.Goals as goal

pub returns-then-buffer-size : goal.returns-then-buffer-size
returns-then-buffer-size c = no_room _ _ _ c.length-size.ensures (search rules)

pub returns : goal.returns
returns c = whole_line_lem _ _ _ _ _ c.length-size.ensures (search rules)
    c.put.ensures
