-- `syn_options::walk_part` meets its contract.
use Rattle.tcp.specs.declared.Layout.{Layout}
use Rattle.one_option.specs.declared.Seen.{Seen}
use Rattle.one_option.specs.See.{see_option}
use Rattle.syn_options.specs.declared.Places.{Places}
use Rattle.syn_options.specs.Walk.{entry_byte}
use lib.ListN.{length, set, length-set}
use lib.Seq.{get_or-set_other}
use native.Mathlib.Omega.{arith}
use Prim.Native.Nat.{◌+◌, ◌-◌}
use mathlib.Core.Path.{◌≡◌, refl, sym, ◌∙◌, ap}
use Rattle.syn_options.proofs.Entries.{zero_row}
use Rattle.syn_options.proofs.Rows.{noted_if, row_is_walk}
use Rattle.syn_options.proofs.Walk.{so_far, damaged_known, sound_known, last_entry, other_entry}
use Rattle.syn_options.proofs.Walk.{turn_stops, turn_goes_on, walk_ends}
use borrow.Author.Rules.{rules}
use Rattle.syn_options.proofs.walk_part.Goals as goal
use Rattle.syn_options.proofs.walk_part.Goals.{then-step, else-step, then-step-2, else-step-2, then-step-eq-EOL, else-step-eq-EOL}

pub loop-at-init : goal.loop-at-init
loop-at-init c =
    let rows = c.empty_layout-olayout.ensures in (
      search rules,
      search rules,
      ap (λ (l : Layout). length l.kinds) rows,
      ap (λ (l : Layout). length l.bytes) rows,
      λ i h. rw rows (zero_row i),
      refl,
      refl,
    )

pub loop-at-preserved : goal.loop-at-preserved
unfolding see_option
loop-at-preserved c =
    let l = c.loop-at in
    let a = c.args in
    let step = c.step_inside-step in
    let seen : Seen = record { mss = l.mss; wscale = l.wscale; quirks = l.shown } in
    let places : Places = record { past = l.past; short = l.short } in
    let past : c.if-step.past ≡ noted_if step.result.past l.past l.at =
    elim c.if-step.branch [
      | then-step w ↦ w.past-is ∙ w.first_place-past.ensures ∙ damaged_known l.past l.at w.if-step.true
      | else-step w ↦ w.past-is ∙ sound_known l.past l.at w.if-step.false
    ] in
    let short : c.if-step-2.short ≡ noted_if step.result.short l.short l.at =
    elim c.if-step-2.branch [
      | then-step-2 w ↦ w.short-is ∙ w.first_place-short.ensures ∙ damaged_known l.short l.at w.if-step-2.true
      | else-step-2 w ↦ w.short-is ∙ sound_known l.short l.at w.if-step-2.false
    ] in
    let left = step.result.end - (l.at + 1) in
    let kinds : c.if-step-eq-EOL.olayout.kinds ≡ set l.olayout.kinds l.count step.result.kind =
    elim c.if-step-eq-EOL.branch [
      | then-step-eq-EOL w ↦ ap (λ (o : Layout). o.kinds) w.olayout-is
      | else-step-eq-EOL w ↦ ap (λ (o : Layout). o.kinds) w.olayout-is
    ] in
    let bytes : c.if-step-eq-EOL.olayout.bytes ≡ set l.olayout.bytes l.count (entry_byte step.result.kind left) =
    elim c.if-step-eq-EOL.branch [
      | then-step-eq-EOL w ↦
          ap (λ (o : Layout). o.bytes) w.olayout-is ∙ last_entry l.olayout.bytes l.count step.result.kind left w.if-step-eq-EOL.true
      | else-step-eq-EOL w ↦
          ap (λ (o : Layout). o.bytes) w.olayout-is
          ∙ other_entry l.olayout.bytes l.count step.result.kind left w.if-step-eq-EOL.false (l.invariant.4 l.count (omega arith))
    ] in (
      search rules,
      search rules,
      rw kinds (length-set l.olayout.kinds _ _ ∙ l.invariant.2),
      rw bytes (length-set l.olayout.bytes _ _ ∙ l.invariant.3),
      rw bytes
          (λ i h. get_or-set_other l.olayout.bytes l.count i _ 0 (omega arith) ∙ l.invariant.4 i (omega arith)),
      l.invariant.5,
      rw (kinds, bytes, c.later_quirks-shown.ensures, c.later_scale-wscale.ensures, c.later_mss-mss.ensures)
          (turn_goes_on a.stop a.syn l.olayout.kinds l.olayout.bytes l.count seen places a.options.now l.at
          c.loop-at-test.true step.result step.ensures.is
          (rw (past, short)) (sym c.stops.ensures ∙ c.if-stops.false)
          ∙ l.invariant.6),
    )

pub returns-after-loop-at : goal.returns-after-loop-at
returns-after-loop-at c =
    let l = c.loop-at in
    let a = c.args in
    let seen : Seen = record { mss = l.mss; wscale = l.wscale; quirks = l.shown } in
    let places : Places = record { past = l.past; short = l.short } in
    let rows = c.empty_layout-olayout.ensures in
    let begun = rw rows at l.invariant.6 in
    rw (l.invariant.5, ← row_is_walk a.stop a.syn a.quirks a.options.now c.requires)
    (sym
    (walk_ends a.stop a.syn (so_far l.olayout.kinds l.olayout.bytes l.count seen) places a.options.now l.at
    c.loop-at-test.false)
    ∙ begun)

pub returns-then-stops : goal.returns-then-stops
returns-then-stops c =
    let l = c.loop-at in
    let a = c.args in
    let seen : Seen = record { mss = l.mss; wscale = l.wscale; quirks = l.shown } in
    let places : Places = record { past = l.past; short = l.short } in
    let step = c.step_inside-step in
    let rows = c.empty_layout-olayout.ensures in
    let begun = rw rows at l.invariant.6 in
    let past : c.if-step.past ≡ noted_if step.result.past l.past l.at =
    elim c.if-step.branch [
      | then-step w ↦ w.past-is ∙ w.first_place-past.ensures ∙ damaged_known l.past l.at w.if-step.true
      | else-step w ↦ w.past-is ∙ sound_known l.past l.at w.if-step.false
    ] in
    let short : c.if-step-2.short ≡ noted_if step.result.short l.short l.at =
    elim c.if-step-2.branch [
      | then-step-2 w ↦ w.short-is ∙ w.first_place-short.ensures ∙ damaged_known l.short l.at w.if-step-2.true
      | else-step-2 w ↦ w.short-is ∙ sound_known l.short l.at w.if-step-2.false
    ] in
    rw (c.insert-shown.ensures, ← row_is_walk a.stop a.syn a.quirks a.options.now c.requires)
    (sym
    (turn_stops a.stop a.syn l.olayout.kinds l.olayout.bytes l.count seen places a.options.now l.at
    c.loop-at-test.true step.result step.ensures.is (rw (past, short))
    (sym c.stops.ensures ∙ c.if-stops.true))
    ∙ begun)
