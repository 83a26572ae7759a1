-- `text::put_word` meets its contract.
use Rattle.text.proofs.Writing.{all_put, part_put}
use borrow.Author.Rules.{rules}
use Rattle.text.proofs.put_word.Goals as goal

pub returns-then-left-word : goal.returns-then-left-word
returns-then-left-word c = part_put _ _ _ _ _ _ c.saturating_sub-left.ensures c.copy.ensures

pub returns : goal.returns
returns c = all_put _ _ _ _ _ (search rules) c.copy-2.ensures
