-- `search::next_candidate` meets its contract.
use Rattle.search.proofs.Onward.{none_yet, one_more, here, at_end, as_far, others_decide, by_gates}
use Rattle.siglist.proofs.List.{record_of_list}
use Rattle.matching.specs.Fit.{passes}
use mathlib.Core.Path.{sym, ◌∙◌}
use native.Mathlib.Omega.{arith}
use borrow.Author.Rules.{rules}
use Rattle.search.proofs.finding.next_candidate.Goals as goal

pub loop-i-init : goal.loop-i-init
loop-i-init c = (search rules, c.requires.0, none_yet (passes c.args.observed) _ _)

pub next_alike-i-requires : goal.next_alike-i-requires
next_alike-i-requires c = c.loop-i.invariant.1

pub returns-then-size-i : goal.returns-then-size-i
returns-then-size-i c =
    let next = c.next_alike-i.ensures in
    let l = c.loop-i in
    let a = c.args in
    let pre = c.requires in
    by_gates _ _ _ _ _
    (at_end (passes a.observed) _ _ _ _ (omega (arith, l.invariant.0, next.reached)) (omega (arith, next.within))
    (as_far a.observed _ pre.1 _ _ l.i _ next _ l.invariant.2))

pub returns-then-other_gates_match : goal.returns-then-other_gates_match
returns-then-other_gates_match c =
    let next = c.next_alike-i.ensures in
    let r = c.next_alike-i.result in
    let l = c.loop-i in
    let a = c.args in
    let pre = c.requires in
    let same = c.record_at.ensures ∙ record_of_list a.list.bytes.now a.list.areas r a.list.fits (search rules) in
    by_gates _ _ _ _ _
    (here (passes a.observed) _ _ _ r (omega (arith, l.invariant.0, next.reached)) (search rules)
    (as_far a.observed _ pre.1 _ _ l.i _ next _ l.invariant.2)
    (others_decide a.observed _ pre.1 _ _ _ r next (search rules)
    ∙ rw (← same) (sym c.other_gates_match.ensures ∙ c.if-other_gates_match.true)))

pub loop-i-preserved : goal.loop-i-preserved
loop-i-preserved c =
    let next = c.next_alike-i.ensures in
    let r = c.next_alike-i.result in
    let l = c.loop-i in
    let a = c.args in
    let pre = c.requires in
    let same = c.record_at.ensures ∙ record_of_list a.list.bytes.now a.list.areas r a.list.fits (search rules) in (
      omega (arith, l.invariant.0, next.reached),
      search rules,
      one_more (passes a.observed) _ _ r (as_far a.observed _ pre.1 _ _ l.i _ next _ l.invariant.2)
          (others_decide a.observed _ pre.1 _ _ _ r next (search rules)
          ∙ rw (← same) (sym c.other_gates_match.ensures ∙ c.if-other_gates_match.false)),
    )

pub returns : goal.returns
returns c =
    let l = c.loop-i in
    let a = c.args in
    by_gates _ _ _ _ _ (at_end (passes a.observed) _ _ _ l.i l.invariant.0 (omega (arith, l.invariant.1)) l.invariant.2)
