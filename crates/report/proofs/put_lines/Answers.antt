use Rattle.report.proofs.Turns.{filled_full, no_room, no_packet, one_line, no_more}
use Rattle.report.proofs.Writing.{line_length}
use Rattle.text.specs.Written.{PutAll}
use Rattle.text.proofs.Writing.{put_all}
use Rattle.report.specs.Pages.{page_size}
use Rattle.report.specs.Text.{line_of}
use Rattle.bundle.proofs.Packets.{packet_there, none_there}
use Rattle.bundle.specs.Answers.{answer_at}
use lib.ListN.{length}
use native.Mathlib.Omega.{arith}
use native.Mathlib.Numerals.{unary_clauses}
use Prim.Native.Nat.{◌+◌, ◌-◌, ◌≤◌}
use mathlib.Core.Path.{◌≡◌, sym, ◌∙◌}
use borrow.Author.Rules.{rules}
use Rattle.report.proofs.put_lines.Goals as goal

pub loop-done-init : goal.loop-done-init
loop-done-init c = (search rules, λ r p h. simp unary_clauses at h)

pub returns-then-filled-lt-LINE : goal.returns-then-filled-lt-LINE
returns-then-filled-lt-LINE c =
    let a = c.args in
    let l = c.loop-done in
    let full = no_room a.mode a.bundle.now l.page l.filled l.at _ l.done c.loop-done-test.true c.if-filled-lt-LINE.true in
    l.invariant.1 _ _ (rw full (filled_full l.page l.filled _ l.at))

pub returns-in_default : goal.returns-in_default
returns-in_default c =
    let a = c.args in
    let b = a.bundle.now in
    let l = c.loop-done in
    let none = none_there a.mode b l.at (sym c.packet_at_in.ensures ∙ c.in_default.is) in
    let room : 19 ≤ page_size - l.filled = omega (arith, c.if-filled-lt-LINE.false) in
    let ended = no_packet a.mode b l.page l.filled l.at _ l.done c.loop-done-test.true room none in
    l.invariant.1 _ _ (rw ended (filled_full l.page l.filled 0 l.at))

pub loop-done-preserved : goal.loop-done-preserved
loop-done-preserved c =
    let a = c.args in
    let b = a.bundle.now in
    let l = c.loop-done in
    let put = c.put_line-filled in
    let found = packet_there a.mode b l.at _ (sym c.packet_at_in.ensures ∙ c.in-Some.is) in
    let line = answer_at a.mode b l.at in
    let room : 19 ≤ page_size - l.filled = omega (arith, c.if-filled-lt-LINE.false) in
    let whole : length l.page ≡ page_size = search rules in
    let done : PutAll l.page l.filled (line_of line) put.result put.new.page =
    put_all _ _ _ _ _ (omega (arith, line_length line)) (rw (sym found.answer) put.ensures) in
    let next : l.filled + length (line_of line) ≤ page_size = omega (arith, line_length line) in (
      rw done.0 next,
      λ r p h. l.invariant.1 r p
          (one_line a.mode b l.page l.filled l.at _ l.done c.loop-done-test.true room found.lies whole put.new.page p
          put.result r done (rw (sym found.ends) h)),
    )

pub returns : goal.returns
returns c =
    let a = c.args in
    let l = c.loop-done in
    let none_left = no_more a.mode a.bundle.now l.filled l.at _ l.done c.loop-done-test.false in
    l.invariant.1 _ _ (rw none_left (filled_full l.page l.filled 0 l.at))
