use Rattle.report.proofs.Writing.{numbered_length, numbered_put}
use Rattle.report.specs.Text.{packets_word}
use Rattle.basis.specs.Bytes.{be16}
use mathlib.Core.Path.{◌∙◌}
use native.Mathlib.Nat.{zero-add}
use native.Mathlib.Omega.{arith}
use Rattle.report.proofs.Turns.{head_paged}
use borrow.Author.Rules.{rules}
use Rattle.report.proofs.head_page.Goals as goal

pub put_lines-requires : goal.put_lines-requires
put_lines-requires c =
    let line = numbered_put _ _ packets_word _ _ _ (search rules) c.put_numbered-filled.ensures in
    omega (arith, line.0, numbered_length packets_word c.be16_at-count.result)

pub returns : goal.returns
unfolding be16
returns c =
    let a = c.args in
    let line = numbered_put _ _ packets_word _ _ _ (search rules) c.put_numbered-filled.ensures in
    head_paged a.mode a.bundle.now _ _ _ _ _ _ _ (search rules) c.be16_at-count.ensures c.be16_at.ensures
    (line.0 ∙ zero-add _) line.1 c.put_lines.ensures
