-- `keeper_line::kept_at` meets its contract.
use Rattle.keeper_line.proofs.Turns.{nothing_at, feed_inside, starts_before, ends_within, reads}
use borrow.Author.Rules.{rules}
use Rattle.keeper_line.proofs.kept_at.Goals as goal
use Rattle.keeper_line.proofs.kept_at.Goals.{then-passed_over, else-passed_over}

pub returns-then-file-at : goal.returns-then-file-at
returns-then-file-at c = nothing_at _ _ c.if-file-at.true

pub slice_bounds-text-count : goal.slice_bounds-text-count
slice_bounds-text-count c =
    let f = c.feed_from-feed in
    starts_before _ _ c.if-file-at.false f.result c.text_end.result f.ensures c.text_end.ensures

pub slice_bounds-text-start : goal.slice_bounds-text-start
slice_bounds-text-start c =
    let f = c.feed_from-feed in
    starts_before _ _ c.if-file-at.false f.result c.text_end.result f.ensures c.text_end.ensures

pub slice_bounds-text-end : goal.slice_bounds-text-end
slice_bounds-text-end c =
    let f = c.feed_from-feed in
    ends_within _ _ c.if-file-at.false f.result c.text_end.result f.ensures c.text_end.ensures

pub overflow_add-result : goal.overflow_add-result
overflow_add-result c =
    let f = c.feed_from-feed in
    let inside = feed_inside _ _ c.if-file-at.false f.result c.text_end.result f.ensures c.text_end.ensures in
    search rules

pub returns : goal.returns
returns c =
    let f = c.feed_from-feed in
    reads _ _ c.if-file-at.false f.result c.text_end.result f.ensures c.text_end.ensures c.if-passed_over.read
    (elim c.if-passed_over.branch [
      | then-passed_over w ↦ rw (w.read-is, ← c.passed_over.ensures, w.if-passed_over.true)
      | else-passed_over w ↦ rw (w.read-is, ← c.passed_over.ensures, w.if-passed_over.false, w.read_kept.ensures)
    ])
