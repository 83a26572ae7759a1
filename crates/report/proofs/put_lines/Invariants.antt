use Rattle.report.specs.Pages.{Filled, page_size, page_from}
use Rattle.report.specs.declared.Progress.{Progress}
use Prim.Native.Nat.{ℕ, ◌≤◌, ◌-◌}
use mathlib.Core.List.{List}
use Rattle.report.proofs.put_lines.Given as goal

abbrev pub invariant-loop-done : goal.invariant-loop-done
invariant-loop-done l = (l.filled ≤ page_size)
    × ((r : Progress) (p : List ℕ)
    → Filled l.page l.filled (page_from l.mode l.bundle l.filled l.at (l.progress.left - l.done)) r p
    → Filled l.initial.page l.initial.filled (page_from l.mode l.bundle l.initial.filled l.initial.at l.progress.left) r p)
