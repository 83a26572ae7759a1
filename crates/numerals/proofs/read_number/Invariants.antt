-- `numerals::read_number` meets its contract.
use Prim.Native.Nat.{◌≤◌, max}
use mathlib.Core.Path.{◌≡◌}
use lib.ListN.{length}
use Rattle.numerals.specs.Pieces.{number_from}
use Rattle.numerals.proofs.read_number.Given as goal

abbrev pub invariant-loop-at : goal.invariant-loop-at
invariant-loop-at l =
    (l.at ≤ max l.from (length l.s)) × (l.value ≤ l.max) × (number_from l.max l.value l.s l.at ≡ number_from l.max 0 l.s l.from)
