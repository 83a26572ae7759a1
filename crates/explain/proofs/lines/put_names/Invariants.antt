use mathlib.Core.Path.{◌≡◌}
use mathlib.Core.List.{List}
use Prim.Native.Nat.{ℕ}
use lib.ListN.{length, drop}
use Rattle.text.specs.Written.{Put}
use Rattle.explain.specs.GateText.{names_from, names_of}
use Rattle.explain.proofs.lines.put_names.Given as goal

abbrev pub invariant-loop-k : goal.invariant-loop-k
invariant-loop-k l = (length l.line ≡ length l.initial.line)
    × ((n : ℕ) (b : List ℕ) → Put l.line l.next (names_from l.what l.any l.k (drop l.k l.row)) n b
    → Put l.initial.line l.at (names_of l.what l.row) n b)
