use mathlib.Core.Path.{sym, ◌∙◌}
use borrow.Author.Rules.{rules}
use Rattle.list_compiler.proofs.Compiled.{bad_line, too_many, its_list}
use Rattle.list_compiler.proofs.compile_list.Goals as goal

pub returns-in_err-first_bad : goal.returns-in_err-first_bad
returns-in_err-first_bad c =
    let refused = bad_line c.args.file.now c.args.buffer.now _ (sym c.first_bad.ensures ∙ c.in_err-first_bad.was) in
    search rules

pub returns-in_err-counts : goal.returns-in_err-counts
returns-in_err-counts c =
    let good = sym c.first_bad.ensures ∙ c.in_ok-first_bad.was in
    let refused = too_many c.args.file.now c.args.buffer.now good _ (sym c.tally.ensures ∙ c.in_err-counts.was) in
    search rules

pub returns : goal.returns
returns c =
    let good = sym c.first_bad.ensures ∙ c.in_ok-first_bad.was in
    let counted = sym c.tally.ensures ∙ c.in_ok-counts.was in
    its_list c.args.file.now _ good _ counted _ _ c.write_list.ensures
