use mathlib.Core.Path.{sym, ◌∙◌}
use native.Mathlib.Omega.{arith}
use Rattle.siglist.proofs.List.{header_areas, header_none, lie_within}
use Rattle.line_writer.proofs.Writing.{no_areas, past_the_last, lie_elsewhere, listed_text_lem}
use Rattle.line_writer.proofs.write_listed.Goals as goal

pub returns-in_default : goal.returns-in_default
returns-in_default c =
    let l = c.args.list.now in
    no_areas l _ _ (header_none l (sym c.read_header.ensures ∙ c.in_default.is))

pub returns-then-areas-index : goal.returns-then-areas-index
returns-then-areas-index c =
    let a = c.args in
    let fit = header_areas a.list.now _ (sym c.read_header.ensures ∙ c.in-Some.is) in
    past_the_last a.list.now _ a.index (omega (arith, fit.records, c.if-areas-index.true))

pub returns-then-not-entries_lie : goal.returns-then-not-entries_lie
returns-then-not-entries_lie c =
    let a = c.args in
    let fit = header_areas a.list.now _ (sym c.read_header.ensures ∙ c.in-Some.is) in
    lie_elsewhere a.list.now _ a.index fit c.if-areas-index.false _ _ _ c.record_at-raw.ensures
    c.first_entry-first.ensures c.entry_count-count.ensures _
    (sym c.entries_lie.ensures ∙ c.if-not-entries_lie.true)

pub slice_bounds-entries-end : goal.slice_bounds-entries-end
slice_bounds-entries-end c =
    let l = c.args.list.now in
    let fit = header_areas l _ (sym c.read_header.ensures ∙ c.in-Some.is) in
    let yes = c.if-not-entries_lie.false in
    let within = lie_within _ c.first_entry-first.result c.entry_count-count.result (sym c.entries_lie.ensures ∙ yes) in
    omega (arith, fit.entries_fit, within)

pub returns : goal.returns
returns c =
    let a = c.args in
    let fit = header_areas a.list.now _ (sym c.read_header.ensures ∙ c.in-Some.is) in
    let yes = c.if-not-entries_lie.false in
    listed_text_lem a.list.now _ a.index fit c.if-areas-index.false _ _ _ c.record_at-raw.ensures
    c.first_entry-first.ensures c.entry_count-count.ensures _ _ _
    (sym c.entries_lie.ensures ∙ yes)
    (rw (← c.signature_of.ensures) c.write.ensures)
