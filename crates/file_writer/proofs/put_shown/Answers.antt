use mathlib.Core.Path.{sym, ◌∙◌}
use native.Mathlib.Omega.{arith}
use Rattle.siglist.proofs.List.{header_areas, header_none}
use Rattle.text.proofs.Writing.{put_none}
use Rattle.file_writer.proofs.Lines.{no_areas, past_the_last, shown_put}
use Rattle.file_writer.proofs.put_shown.Goals as goal

pub returns-in_default : goal.returns-in_default
returns-in_default c =
    let a = c.args in
    let out = header_none a.list.now (sym c.read_header.ensures ∙ c.in_default.is) in
    rw (no_areas a.list.now a.index out) (put_none _ _)

pub returns-then-areas-index : goal.returns-then-areas-index
returns-then-areas-index c =
    let a = c.args in
    let fit = header_areas a.list.now _ (sym c.read_header.ensures ∙ c.in-Some.is) in
    rw (past_the_last a.list.now a.index (omega (arith, fit.records, c.if-areas-index.true))) (put_none _ _)

pub returns : goal.returns
returns c =
    let a = c.args in
    let fit = header_areas a.list.now _ (sym c.read_header.ensures ∙ c.in-Some.is) in
    shown_put a.list.now a.index _ _ _ _ _ _ _ _ _ _ fit c.if-areas-index.false c.record_at.ensures c.put_head-next.ensures
    c.put_listed-behind.ensures c.put_byte.ensures
