use Rattle.file_writer.proofs.Lines.{shown_counted}
use borrow.Author.Rules.{rules}
use Rattle.file_writer.proofs.shown_length.Goals as goal

pub returns : goal.returns
returns c = shown_counted _ _ _ _ _ (search rules) c.put_shown.ensures
