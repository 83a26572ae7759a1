use mathlib.Core.Path.{sym, ◌∙◌}
use Rattle.text.proofs.Writing.{both, put_none}
use Rattle.line_writer.specs.Rows.{name_at}
use Rattle.line_writer.proofs.rows.put_shown.Goals as goal

pub returns-then-not-contains : goal.returns-then-not-contains
unfolding name_at
returns-then-not-contains c =
    let no = c.if-not-contains.true in
    rw (sym c.contains.ensures ∙ no) (put_none _ _)

pub returns : goal.returns
unfolding name_at
returns c =
    let yes = c.if-not-contains.false in
    rw (
      sym
          c.contains.ensures ∙ yes,
      ← c.between.ensures,
    )
    (both _ _ _ _ _ _ _ _ c.put_byte-name.ensures c.put_quirk.ensures)
