-- `siglist::check_list` meets its contract.
use Rattle.siglist.proofs.Entries.{area_walked}
use Rattle.siglist.proofs.FirstBad.{does_not_fit}
use Rattle.siglist.proofs.List.{header_areas, header_none, list_fits_lem, from_the_first, record_good_turn, record_bad_turn, records_end}
use mathlib.Core.Path.{sym, ◌∙◌}
use borrow.Author.Rules.{rules}
use Rattle.siglist.proofs.check_list.Goals as goal

pub returns-in_default : goal.returns-in_default
returns-in_default c = sym (does_not_fit _ (header_none _ (sym c.read_header.ensures ∙ c.in_default.is)))

pub slice_bounds-entries_good-end : goal.slice_bounds-entries_good-end
slice_bounds-entries_good-end c =
    let fit = header_areas c.args.list.now _ (sym c.read_header.ensures ∙ c.in-Some.is) in
    search rules

pub loop-i-init : goal.loop-i-init
loop-i-init c =
    let l = c.args.list.now in
    let fit = header_areas l _ (sym c.read_header.ensures ∙ c.in-Some.is) in
    from_the_first l _ (list_fits_lem l _ fit) fit

pub invariant_of-checked : goal.invariant_of-checked
invariant_of-checked c = record { fits = header_areas c.args.list.now _ (sym c.read_header.ensures ∙ c.in-Some.is) }

pub record_good-requires : goal.record_good-requires
record_good-requires c =
    let l = c.args.list.now in
    let fit = header_areas l _ (sym c.read_header.ensures ∙ c.in-Some.is) in
    (c.loop-i-test.true, c.entries_good-all_good.ensures ∙ area_walked l _ fit)

pub returns-then-not-record_good : goal.returns-then-not-record_good
returns-then-not-record_good c =
    let l = c.args.list.now in
    sym
    (sym c.loop-i.invariant
    ∙ record_bad_turn l c.loop-i.i c.in-Some.areas.records c.loop-i-test.true
    (sym c.record_good.ensures ∙ c.if-not-record_good.true))

pub loop-i-preserved : goal.loop-i-preserved
loop-i-preserved c =
    let l = c.args.list.now in
    record_good_turn l c.loop-i.i c.in-Some.areas.records c.loop-i-test.true
    (sym c.record_good.ensures ∙ c.if-not-record_good.false)
    ∙ c.loop-i.invariant

pub returns : goal.returns
returns c =
    let l = c.args.list.now in
    sym (sym c.loop-i.invariant ∙ records_end l c.loop-i.i c.in-Some.areas.records c.loop-i-test.false)
