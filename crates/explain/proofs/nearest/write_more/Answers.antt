use Rattle.text.proofs.Writing.{put_within}
use borrow.Author.Rules.{rules}
use Rattle.explain.proofs.nearest.write_more.Goals as goal

pub slice_bounds-write_all-end : goal.slice_bounds-write_all-end
slice_bounds-write_all-end c =
    let first = put_within _ _ _ 0 _ (search rules) c.put_word-number.ensures in
    let second = put_within _ _ _ _ _ (search rules) c.put_decimal-behind.ensures in
    let third = put_within _ _ _ _ _ (search rules) c.put_word-filled.ensures in
    search rules
