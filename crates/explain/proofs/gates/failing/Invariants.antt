use mathlib.Core.Path.{◌≡◌}
use lib.ListN.{take}
use Rattle.std.specs.List.{count_by}
use Rattle.explain.specs.Gating.{is_fails}
use Rattle.explain.proofs.gates.failing.Given as goal

abbrev pub invariant-loop-said : goal.invariant-loop-said
invariant-loop-said l = l.fields ≡ count_by is_fails (take l.said-index l.row)
