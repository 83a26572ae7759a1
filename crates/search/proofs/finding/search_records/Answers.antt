-- `search::search_records` meets its contract.
use Rattle.search.proofs.Rows.{none_fits, at_start, skipped, after, ended_at, first_best}
use Rattle.search.proofs.Fits.{over_forty}
use Rattle.siglist.specs.List.{record_count}
use Rattle.found.specs.Rank.{rank_of}
use Rattle.found.specs.Examined.{searched_in}
use Rattle.found.proofs.Examined.{answers}
use Rattle.found.proofs.Rank.{taken, left}
use native.Mathlib.Omega.{arith}
use mathlib.Core.Path.{◌≡◌, refl, sym, ◌∙◌, ap}
use borrow.Author.Rules.{rules}
use Rattle.search.proofs.finding.search_records.Goals as goal
use Rattle.search.proofs.finding.search_records.Goals.{then-rank-best, else-rank-best}

pub returns-then-observed-gt40 : goal.returns-then-observed-gt40
returns-then-observed-gt40 c =
    let size = c.args.list.fits.records in
    c.none_of.ensures ∙ answers _ _ _ _ (sym (none_fits _ _ _ _ (over_forty _ _ _ _ (omega (arith, c.if-observed-gt40.true))) _)) size

pub loop-i-init : goal.loop-i-init
loop-i-init c = record { within = search rules; passed = at_start _ _ _ _; ranked = refl; not_ended = omega arith }

pub next_candidate-i-requires : goal.next_candidate-i-requires
next_candidate-i-requires c =
    let few = c.if-observed-gt40.false in
    (search rules, omega (arith, few))

pub returns-then-size-i : goal.returns-then-size-i
returns-then-size-i c =
    let l = c.loop-i in
    let next = c.next_candidate-i in
    let within = next.ensures.within in
    let size = record_count c.args.list.bytes.now in
    let end : next.result ≡ size = omega arith in
    c.none_ended.ensures
    ∙ rw (c.args.list.fits.records, ← end) (ap (searched_in _) (l.invariant.passed ∙ skipped _ _ _ _ _ _ _ c.args.list.fits next.ensures))

pub candidate_at-found-requires : goal.candidate_at-found-requires
candidate_at-found-requires c =
    let gates = c.next_candidate-i.ensures.candidate (search rules) in
    search rules

pub returns-then-rank-eq0 : goal.returns-then-rank-eq0
returns-then-rank-eq0 c =
    let rank = c.rank_of-rank in
    let found = c.candidate_at-found in
    let next = c.next_candidate-i in
    let l = c.loop-i in
    let zero : rank_of found.result ≡ 0 = omega (arith, rank.ensures, c.if-rank-eq0.true) in
    let size = record_count c.args.list.bytes.now in
    answers size _ _ _
    (rw (← c.args.list.fits.records)
    (first_best _ _ _ _ next.result _ _ c.if-size-i.false
    (after _ _ _ _ _ l.i _ _ _ c.args.list.fits l.invariant.passed next.ensures
    (taken l.held found.result _ _ _ found.ensures l.invariant.ranked rank.ensures
    (omega (arith, c.if-rank-eq0.true, l.invariant.not_ended))))
    zero))
    (search rules ∙ sym (ended_at _ _ _ _ size next.result found.result found.ensures zero))

pub loop-i-preserved : goal.loop-i-preserved
loop-i-preserved c =
    let rank = c.rank_of-rank in
    let found = c.candidate_at-found in
    let next = c.next_candidate-i in
    let l = c.loop-i in
    elim c.if-rank-best.branch [
      | then-rank-best w ↦ record {
        within = search rules;
        passed = after _ _ _ _ _ l.i _ _ _ c.args.list.fits l.invariant.passed next.ensures
            (w.held-is ∙ taken l.held found.result _ _ _ found.ensures l.invariant.ranked rank.ensures w.if-rank-best.true);
        ranked = w.best-is ∙ rank.ensures ∙ ap rank_of (sym w.held-is);
        not_ended = omega (arith, w.best-is, c.if-rank-eq0.false);
      }
      | else-rank-best w ↦ record {
        within = search rules;
        passed = after _ _ _ _ _ l.i _ _ _ c.args.list.fits l.invariant.passed next.ensures
            (w.held-is ∙ left l.held found.result _ _ _ found.ensures l.invariant.ranked rank.ensures w.if-rank-best.false);
        ranked = w.best-is ∙ l.invariant.ranked ∙ ap rank_of (sym w.held-is);
        not_ended = omega (arith, w.best-is, l.invariant.not_ended);
      }
    ]

pub returns : goal.returns
returns c =
    let l = c.loop-i in
    let size = record_count c.args.list.bytes.now in
    let end : l.i ≡ size = omega arith in
    c.none_ended-2.ensures ∙ rw (c.args.list.fits.records, ← end) (ap (searched_in _) l.invariant.passed)
