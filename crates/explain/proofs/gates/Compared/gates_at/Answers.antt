use mathlib.Core.Path.{◌∙◌}
use Rattle.explain.proofs.Laws.{entries_good_lem, entries_end, the_gates}
use borrow.Author.Rules.{rules}
use Rattle.explain.proofs.gates.Compared.gates_at.Goals as goal

pub slice_bounds-gates_of-end : goal.slice_bounds-gates_of-end
slice_bounds-gates_of-end c =
    let passed = c.args.self.now.passed in
    let within = entries_end _ _ _ passed.list.fits passed.good c.requires _ _ _ c.record_at-raw.ensures c.first_entry.ensures
    c.entry_count.ensures in
    let fits = passed.list.fits.entries_fit in
    search rules

pub gates_of-requires : goal.gates_of-requires
gates_of-requires c =
    let passed = c.args.self.now.passed in
    entries_good_lem _ _ _ passed.list.fits passed.good c.requires _ _ _ c.record_at-raw.ensures c.first_entry.ensures
    c.entry_count.ensures

pub returns : goal.returns
returns c =
    let passed = c.args.self.now.passed in
    c.gates_of.ensures
    ∙ the_gates _ _ _ passed.list.fits passed.good c.requires _ _ _ c.record_at-raw.ensures c.first_entry.ensures
    c.entry_count.ensures _ _ _
