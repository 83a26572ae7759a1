-- `search::next_alike` meets its contract.
use Rattle.search.proofs.Onward.{FailTo}
use Rattle.matching.specs.Asked.{count_and_scale_match}
use Prim.Native.Nat.{◌-◌, ◌≤◌}
use Rattle.search.proofs.finding.next_alike.Given as goal

abbrev pub invariant-loop-i : goal.invariant-loop-i
invariant-loop-i l = (l.from ≤ l.i) × (l.i ≤ l.size) × FailTo (count_and_scale_match l.count l.wscale) l.bytes l.from l.i

abbrev pub decreases-loop-i : goal.decreases-loop-i
decreases-loop-i l = l.size - l.i

abbrev pub invariant-loop-i-2 : goal.invariant-loop-i-2
invariant-loop-i-2 l = (l.from ≤ l.i) × (l.i ≤ l.size) × FailTo (count_and_scale_match l.count l.wscale) l.bytes l.from l.i

abbrev pub decreases-loop-i-2 : goal.decreases-loop-i-2
decreases-loop-i-2 l = l.size - l.i
