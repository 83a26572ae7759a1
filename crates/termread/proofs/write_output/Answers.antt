use lib.ListN.{length, replicate}
use Prim.Native.Nat.{ℕ, ◌≤◌}
use mathlib.Core.Path.{refl, subst}
use native.Mathlib.Omega.{arith}
use Rattle.flow.specs.Modes.{plain_mode}
use Rattle.report.proofs.Whole.{first_page_kept, next_page_kept}
use Rattle.termread.specs.Reached.{Reached, none_yet}
use Rattle.termread.proofs.Laws.{page_follows, part_length, begun, begun_fits, turned, turned_fits, ended, page_reached}
use Rattle.termread.proofs.write_output.Goals as goal

pub loop-init : goal.loop-init
loop-init g c =
    let call = c.first_page-progress in
    let b = c.args.bundle.now in
    let page = replicate {A = ℕ} 4096 0 in (
      first_page_kept plain_mode b page call.new.page c.args.longer call.result refl call.ensures,
      begun_fits b c.args.longer page call.new.page call.result call.ensures,
      omega arith,
      none_yet,
      begun b c.args.longer page call.new.page call.result call.ensures,
    )

pub send-requires : goal.send-requires
send-requires g c =
    let held = c.loop.invariant in
    let p = c.loop.progress in
    let page = c.loop.page in
    record {
      reached = held.3;
      follows = page_follows c.args.bundle.now c.args.longer c.loop.taken page p held.4;
      text_bound =
          omega (
            arith,
            held.2,
            held.1,
            c.loop-test.true,
            part_length page p.filled (omega (arith, held.0, held.1)),
          );
    }

pub returns-then-progress-eq0 : goal.returns-then-progress-eq0
returns-then-progress-eq0 g c =
    let sent = c.in_ok-send.ensures in
    let held = c.loop.invariant in
    let p = c.loop.progress in
    let page = c.loop.page in
    let fits : p.filled ≤ length page = omega (arith, held.0, held.1) in
    let reached = page_reached c.loop.taken page p.filled fits sent in
    subst Reached (ended c.args.bundle.now c.args.longer c.loop.taken page p fits c.if-progress-eq0.true held.4) reached

pub loop-preserved : goal.loop-preserved
loop-preserved g c =
    let call = c.next_page-progress in
    let sent = c.in_ok-send.ensures in
    let held = c.loop.invariant in
    let p = c.loop.progress in
    let page = c.loop.page in
    let page' = call.new.page in
    let fits : p.filled ≤ length page = omega (arith, held.0, held.1) in
    let b = c.args.bundle.now in (
      next_page_kept plain_mode b page page' p.left p.at call.result held.0 call.ensures,
      turned_fits b page page' p call.result call.ensures,
      omega (arith, held.1, held.2),
      page_reached c.loop.taken page p.filled fits sent,
      turned b c.args.longer c.loop.taken page page' p call.result fits held.4 call.ensures,
    )
