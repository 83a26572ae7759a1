use mathlib.Core.Path.{sym, ◌∙◌}
use borrow.Author.Rules.{rules}
use Rattle.line_writer.proofs.Writing.{list_refused_lem, its_line}
use Rattle.line_writer.proofs.write_record.Goals as goal

pub returns-in_err-check_list : goal.returns-in_err-check_list
returns-in_err-check_list c =
    let refused = list_refused_lem c.args.list.now c.args.buffer.now c.args.index _ (sym c.check_list.ensures ∙ c.in_err-check_list.was) in
    search rules

pub returns : goal.returns
returns c =
    its_line c.args.list.now _ _ _ _ (sym c.check_list.ensures ∙ c.in_ok-check_list.was)
    c.write_listed.ensures
