use Rattle.text.proofs.Writing.{both, put_none}
use Rattle.explain.proofs.lines.put_named.Goals as goal

pub returns-then-not-shown : goal.returns-then-not-shown
returns-then-not-shown c = rw c.if-not-shown.true (put_none _ _)

pub returns : goal.returns
returns c =
    rw (c.if-not-shown.false, ← c.name_of.ensures) (both _ _ _ _ _ _ _ _ c.put_if-name.ensures c.put_word.ensures)
