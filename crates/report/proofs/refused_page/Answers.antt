use mathlib.Core.Path.{sym, ◌∙◌}
use native.Mathlib.Nat.{zero-add}
use Rattle.report.specs.Text.{refused_word, refused_line}
use Rattle.report.proofs.Writing.{numbered_put}
use borrow.Author.Rules.{rules}
use Rattle.report.proofs.refused_page.Goals as goal

pub returns : goal.returns
unfolding refused_line
returns c =
    let p = numbered_put _ _ refused_word _ _ _ (search rules) c.put_numbered-filled.ensures in
    rw (sym (c.from.ensures ∙ c.refusal_number.ensures)) (rw (p.0 ∙ zero-add _), p.1)
