use mathlib.Core.Path.{sym, ◌∙◌}
use Rattle.line_writer.proofs.Writing.{no_room, whole_line_lem}
use Rattle.file_writer.proofs.Files.{list_refused_lem, its_file}
use borrow.Author.Rules.{rules}
use Rattle.file_writer.proofs.write_file.Goals as goal

pub returns-in_err-check_list : goal.returns-in_err-check_list
returns-in_err-check_list c =
    let refused = list_refused_lem c.args.list.now c.args.buffer.now _ (sym c.check_list.ensures ∙ c.in_err-check_list.was) in
    search rules

pub returns-then-buffer-size : goal.returns-then-buffer-size
returns-then-buffer-size c =
    its_file c.args.list.now _ _ _ (sym c.check_list.ensures ∙ c.in_ok-check_list.was)
    (no_room _ _ _ c.file_length-size.ensures (search rules))

pub returns : goal.returns
returns c =
    its_file c.args.list.now _ _ _ (sym c.check_list.ensures ∙ c.in_ok-check_list.was)
    (whole_line_lem _ _ _ _ _ c.file_length-size.ensures (search rules) c.put_lines.ensures)
