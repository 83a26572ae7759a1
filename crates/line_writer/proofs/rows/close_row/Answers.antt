use borrow.Author.Tests.{ne_eqb}
use Rattle.text.proofs.Writing.{put_none}
use Rattle.line_writer.proofs.rows.close_row.Goals as goal

pub returns : goal.returns
returns c = rw (ne_eqb _ 58 c.if-between-eq-COLON.false) (put_none _ _)
