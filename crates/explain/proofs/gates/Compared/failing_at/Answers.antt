use mathlib.Core.Path.{◌∙◌, ap}
use Rattle.explain.specs.Gating.{row_of, fails}
use Rattle.explain.proofs.gates.Compared.failing_at.Goals as goal

pub returns : goal.returns
returns c =
    c.failing.ensures ∙ ap fails (c.row_of.ensures ∙ ap row_of c.gates_at.ensures)
