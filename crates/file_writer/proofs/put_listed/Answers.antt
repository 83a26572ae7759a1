use mathlib.Core.Path.{sym}
use lib.Seq.{length-take-le}
use Rattle.text.proofs.Writing.{put_none}
use Rattle.file_writer.proofs.Lines.{listed_within, listed_line_lem, none_listed}
use borrow.Author.Rules.{rules}
use Rattle.file_writer.proofs.put_listed.Goals as goal

pub slice_bounds-line-end : goal.slice_bounds-line-end
slice_bounds-line-end c = listed_within _ _ _ _ _ (search rules) c.write_listed.ensures _ c.in-Ok.is

pub slice_bounds-put_word-end : goal.slice_bounds-put_word-end
slice_bounds-put_word-end c =
    sym (length-take-le c.in-Ok.size c.write_listed.new.buffer
    (listed_within _ _ _ _ _ (search rules) c.write_listed.ensures _ c.in-Ok.is))

pub returns-in-Ok : goal.returns-in-Ok
returns-in-Ok c =
    rw (sym (listed_line_lem _ _ _ _ _ (search rules) c.write_listed.ensures _ c.in-Ok.is)) c.put_word.ensures

pub returns-in-Err : goal.returns-in-Err
returns-in-Err c =
    rw (none_listed _ _ _ _ _ (search rules) c.write_listed.ensures _ c.in-Err.is) (put_none _ _)
