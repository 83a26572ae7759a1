use Rattle.text.proofs.Writing.{put_nothing, put_one}
use borrow.Author.Rules.{rules}
use Rattle.text.proofs.put_byte.Goals as goal

pub returns-then-buffer-at : goal.returns-then-buffer-at
returns-then-buffer-at c = put_nothing _ _ _ (search rules)

pub returns : goal.returns
returns c = put_one _ _ _ (search rules)
