-- `search::record_holds` meets its contract.
use Rattle.search.proofs.Fits.{layout_fails, bad_place, scalars_decide}
use Rattle.siglist.proofs.List.{lie_within}
use mathlib.Core.Path.{sym, ◌∙◌}
use borrow.Author.Rules.{rules}
use Rattle.search.proofs.finding.record_holds.Goals as goal

pub returns-then-not-entries_lie : goal.returns-then-not-entries_lie
returns-then-not-entries_lie c =
    let lie = c.entries_lie in
    sym
    (bad_place _ _ _ _ _ _ c.args.list.fits
    (rw (← c.entry_count-declared.ensures, ← c.first_entry-first.ensures)
    (sym lie.ensures ∙ c.if-not-entries_lie.true)))

pub slice_bounds-entries-end : goal.slice_bounds-entries-end
slice_bounds-entries-end c =
    let areas = c.args.list.areas in
    let fits = c.args.list.fits in
    let lie = c.entries_lie in
    let within =
    lie_within areas.entries c.first_entry-first.result c.entry_count-declared.result
    (sym lie.ensures ∙ c.if-not-entries_lie.false) in
    search rules

pub returns-then-not-olayout_matches : goal.returns-then-not-olayout_matches
returns-then-not-olayout_matches c =
    let matched = c.olayout_matches in
    let count = c.entry_count-declared.ensures in
    let first = c.first_entry-first.ensures in
    let fits = c.args.list.fits in
    sym
    (layout_fails _ _ _ _ _ _ fits
    (rw (← fits.entries_at, ← count, ← first, ← matched.ensures) (c.if-not-olayout_matches.true)))

pub returns : goal.returns
returns c =
    let matched = c.olayout_matches in
    let lie = c.entries_lie in
    let count = c.entry_count-declared.ensures in
    let first = c.first_entry-first.ensures in
    let fits = c.args.list.fits in
    c.scalars_well_formed.ensures
    ∙ sym
    (scalars_decide _ _ _ _ _ _ fits
    (rw (← count, ← first, ← lie.ensures) (c.if-not-entries_lie.false))
    (rw (← fits.entries_at, ← count, ← first, ← matched.ensures) (c.if-not-olayout_matches.false)))
