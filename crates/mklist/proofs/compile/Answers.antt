use Rattle.mklist.proofs.Laws.{list_within}
use borrow.Author.Rules.{rules}
use Rattle.mklist.proofs.compile.Goals as goal

pub slice_bounds-write_all-end : goal.slice_bounds-write_all-end
slice_bounds-write_all-end c =
    let within = list_within _ _ _ _ _ c.compile_list.ensures c.in-Ok.is in
    search rules
