-- `observable::holds_kind` meets its contract.
use mathlib.Core.Path.{◌∙◌}
use native.Mathlib.Omega.{arith}
use Rattle.observable.proofs.Laws.{among_forty}
use Rattle.observable.proofs.holds_kind.Goals as goal

pub returns : goal.returns
returns c = c.contains.ensures.value ∙ among_forty _ _ _ _ (omega arith) c.least.ensures
