-- `search::candidate_at` meets its contract.
use Rattle.search.proofs.Rows.{none_there}
use Rattle.search.specs.Search.{candidate_at}
use Rattle.search.proofs.Fits.{not_held, tolerated}
use Rattle.siglist.proofs.List.{record_of_list}
use mathlib.Core.Path.{sym, ◌∙◌}
use Rattle.search.proofs.finding.candidate_at.Goals as goal

pub returns-then-not-record_holds : goal.returns-then-not-record_holds
returns-then-not-record_holds c =
    let holds = c.record_holds in
    let a = c.args in
    let pre = c.requires in
    let same = c.record_at-raw.ensures ∙ record_of_list a.list.bytes.now a.list.areas a.i a.list.fits pre.0 in
    sym
    (none_there a.observed a.layout.now.kinds a.layout.now.bytes a.list.bytes.now a.i
    (not_held _ _ _ _ _ _ a.list.fits pre.0 pre.1
    (rw (← same, ← holds.ensures) (c.if-not-record_holds.true))))

pub returns : goal.returns
unfolding candidate_at
returns c =
    let holds = c.record_holds in
    let a = c.args in
    let pre = c.requires in
    let same = c.record_at-raw.ensures ∙ record_of_list a.list.bytes.now a.list.areas a.i a.list.fits pre.0 in
    rw (
      tolerated a.observed a.layout.now.kinds a.layout.now.bytes a.list.bytes.now a.list.areas a.i a.list.fits pre.0 pre.1
          (rw (← same, ← holds.ensures) (c.if-not-record_holds.false)),
      ← same,
      ← c.tolerance-fit.ensures,
      ← c.label_of.ensures,
      ← c.is_generic.ensures,
      ← c.found_of.ensures,
    )
