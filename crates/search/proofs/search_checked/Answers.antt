-- `search::search_checked` meets its contract.
use Rattle.search.proofs.Examined.{none_examined}
use Rattle.siglist.proofs.List.{list_fits_lem, header_areas, header_none}
use Rattle.search.specs.Search.{search_over, search_all, searched}
use mathlib.Core.Path.{sym, ◌∙◌}
use Rattle.search.proofs.search_checked.Goals as goal

pub returns-in_default : goal.returns-in_default
returns-in_default c = sym (none_examined _ _ (header_none _ (sym c.read_header.ensures ∙ c.in_default.is)))

pub invariant_of-search_records : goal.invariant_of-search_records
invariant_of-search_records c = record { fits = header_areas c.args.list.now _ (sym c.read_header.ensures ∙ c.in-Some.is) }

pub returns : goal.returns
unfolding search_all search_over searched
returns c =
    let l = c.args.list.now in
    let areas = header_areas l _ (sym c.read_header.ensures ∙ c.in-Some.is) in
    rw (list_fits_lem l _ areas, c.search_records.ensures, c.features_of-features.ensures)
