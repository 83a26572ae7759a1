use mathlib.Core.Path.{sym}
use Rattle.text.proofs.Writing.{put_none}
use Rattle.packet_line.proofs.Laws.{seen_within, seen_line_lem, none_seen}
use borrow.Author.Rules.{rules}
use Rattle.packet_line.proofs.put_seen.Goals as goal

pub slice_bounds-put_word-end : goal.slice_bounds-put_word-end
slice_bounds-put_word-end c =
    let within = seen_within _ _ _ _ (search rules) c.write_observation.ensures _ c.in-Ok.is in
    search rules

pub returns-in-Ok : goal.returns-in-Ok
returns-in-Ok c =
    rw (sym (seen_line_lem _ _ _ _ (search rules) c.write_observation.ensures _ c.in-Ok.is)) c.put_word.ensures

pub returns-in-Err : goal.returns-in-Err
returns-in-Err c =
    rw (none_seen _ _ _ _ (search rules) c.write_observation.ensures _ c.in-Err.is) (put_none _ _)
