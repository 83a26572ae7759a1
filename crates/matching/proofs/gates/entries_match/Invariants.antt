-- `matching::entries_match` meets its contract.
use mathlib.Core.Path.{◌≡◌}
use mathlib.Core.Bool.{true}
use Rattle.sigrecord.specs.Layout.{entries_good}
use Rattle.matching.specs.Gates.{entries_match}
use Rattle.matching.proofs.gates.entries_match.Given as goal

abbrev pub invariant-loop-i : goal.invariant-loop-i
invariant-loop-i l =
    record {
      same : entries_match l.kinds l.bytes l.entries l.i ≡ true;
      good : entries_good l.entries l.i ≡ true;
    }
