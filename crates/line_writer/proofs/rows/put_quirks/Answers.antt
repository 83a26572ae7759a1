use native.Mathlib.Omega.{arith}
use Rattle.quirks.specs.declared.TheConstants.Quirk.{DISPLAY_ORDER}
use Rattle.line_writer.proofs.Names.{name_turn, no_name, whole_names}
use Rattle.line_writer.proofs.rows.put_quirks.Goals as goal

pub loop-quirk-init : goal.loop-quirk-init
loop-quirk-init c = (omega arith, λ n b. whole_names _ _ n _ b)

pub loop-quirk-preserved : goal.loop-quirk-preserved
loop-quirk-preserved c =
    let l = c.loop-quirk in
    let here = c.put_shown-at.ensures in (
      omega (arith, here.0),
      λ n b rest. l.invariant.1 n b (name_turn _ DISPLAY_ORDER l.quirk-index _ l.at _ n l.buffer _ b
          c.loop-quirk-test.true l.invariant.0 here rest),
    )

pub returns : goal.returns
returns c =
    let l = c.loop-quirk in
    l.invariant.1 _ _
    (no_name _ DISPLAY_ORDER l.quirk-index _ l.at _ l.buffer _ c.loop-quirk-test.false
    (rw (← c.between.ensures) c.close_row.ensures))
