-- `search::next_candidate` meets its contract.
use Rattle.search.proofs.Onward.{FailTo}
use Rattle.matching.specs.Fit.{passes}
use Prim.Native.Nat.{◌-◌, ◌≤◌}
use Rattle.search.proofs.finding.next_candidate.Given as goal

abbrev pub invariant-loop-i : goal.invariant-loop-i
invariant-loop-i l = (l.from ≤ l.i) × (l.i ≤ l.list.areas.records) × FailTo (passes l.observed) l.list.bytes.now l.from l.i

abbrev pub decreases-loop-i : goal.decreases-loop-i
decreases-loop-i l = l.list.areas.records - l.i
