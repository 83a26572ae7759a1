-- `matching::entries_match` meets its contract.
use mathlib.Core.Path.{sym, ◌∙◌}
use Rattle.basis.proofs.Tests.{and_false}
use Rattle.sigrecord.proofs.Laws.{none_bad, one_more_good, one_bad}
use Rattle.matching.specs.Gates.{entries_match}
use Rattle.matching.proofs.Entries.{no_entry, entry_matches, kind_differs, byte_differs}
use Rattle.matching.proofs.gates.entries_match.Goals as goal

pub loop-i-init : goal.loop-i-init
loop-i-init c = record { same = no_entry _ _ _; good = none_bad _ }

pub returns-then-bytes-i : goal.returns-then-bytes-i
returns-then-bytes-i c =
    let a = c.args in
    rw (byte_differs a.kinds.now a.bytes.now a.entries.now a.count c.loop-i.i c.loop-i-test.true c.if-bytes-i.true)

pub returns-then-not-entry_good : goal.returns-then-not-entry_good
returns-then-not-entry_good c =
    let a = c.args in
    let bad = sym c.entry_good.ensures ∙ c.if-not-entry_good.true in
    rw (one_bad a.entries.now a.count c.loop-i.i c.loop-i-test.true bad)
    (sym (and_false (entries_match a.kinds.now a.bytes.now a.entries.now a.count)))

pub returns-then-kinds-i : goal.returns-then-kinds-i
returns-then-kinds-i c =
    let a = c.args in
    rw (kind_differs a.kinds.now a.bytes.now a.entries.now a.count c.loop-i.i c.loop-i-test.true c.if-kinds-i.true)

pub loop-i-preserved : goal.loop-i-preserved
loop-i-preserved c =
    let l = c.loop-i in
    record {
      same = entry_matches _ _ _ l.i c.if-kinds-i.false c.if-bytes-i.false l.invariant.same;
      good = one_more_good _ l.i (sym c.entry_good.ensures ∙ c.if-not-entry_good.false) l.invariant.good;
    }
