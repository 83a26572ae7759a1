-- `sigrecord::entries_good` meets its contract.
use mathlib.Core.Path.{sym}
use Rattle.sigrecord.proofs.Laws.{no_byte, no_kind, both_set, none_bad, one_more_good, one_bad}
use Rattle.sigrecord.proofs.entries_good.Goals as goal
use Rattle.sigrecord.proofs.entries_good.Goals.{else-byte-ne0-via-then-byte-ne0+else-entries-i-ne0, else-byte-ne0-via-else-byte-ne0}

pub loop-i-init : goal.loop-i-init
loop-i-init c = none_bad _

pub returns-then-entries-i-ne0 : goal.returns-then-entries-i-ne0
returns-then-entries-i-ne0 c =
    sym (one_bad _ _ c.loop-i.i c.loop-i-test.true (both_set _ _ c.if-byte-ne0.true c.if-entries-i-ne0.true))

pub loop-i-preserved : goal.loop-i-preserved
loop-i-preserved c =
    elim c.else-byte-ne0.branch [
      | else-byte-ne0-via-then-byte-ne0+else-entries-i-ne0 w ↦
          one_more_good _ c.loop-i.i (no_kind _ _ w.if-byte-ne0.true w.if-entries-i-ne0.false) c.loop-i.invariant
      | else-byte-ne0-via-else-byte-ne0 w ↦ one_more_good _ c.loop-i.i (no_byte _ _ w.if-byte-ne0.false) c.loop-i.invariant
    ]
