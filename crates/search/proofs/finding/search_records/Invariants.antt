-- `search::search_records` meets its contract.
use Rattle.search.specs.Search.{search_row}
use Rattle.found.specs.Least.{numbers_from}
use Rattle.found.specs.Rank.{rank_of}
use Prim.Native.Nat.{◌-◌, ◌≤◌, ◌<◌}
use mathlib.Core.Path.{◌≡◌}
use Rattle.search.proofs.finding.search_records.Given as goal

abbrev pub invariant-loop-i : goal.invariant-loop-i
invariant-loop-i l =
    record {
      within : l.i ≤ l.size;
      passed : l.held ≡ search_row l.observed l.layout.kinds l.layout.bytes l.list.bytes.now (numbers_from 0 l.i);
      ranked : l.best ≡ rank_of l.held;
      not_ended : 0 < l.best;
    }

abbrev pub decreases-loop-i : goal.decreases-loop-i
decreases-loop-i l = l.size - l.i
