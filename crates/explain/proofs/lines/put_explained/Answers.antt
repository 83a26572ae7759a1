use mathlib.Core.Path.{◌∙◌}
use Rattle.siglist.proofs.List.{record_of_list}
use Rattle.explain.proofs.Laws.{explained_put}
use Rattle.explain.proofs.lines.put_explained.Goals as goal

pub returns : goal.returns
returns c =
    explained_put _ _ _ _ _ (c.record_at.ensures ∙ record_of_list _ _ _ c.args.list.fits c.requires)
    c.row_of-row.ensures _ _ _ _ _ _ _ _ _ _ _ c.put_which-behind_which.ensures c.put_gates-behind_gates.ensures
    c.put_word-signature.ensures c.put_listed-behind_signature.ensures c.put_byte.ensures
