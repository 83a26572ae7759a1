use mathlib.Core.Path.{◌∙◌}
use native.Mathlib.Omega.{arith}
use Rattle.list_compiler.proofs.Passes.{check_bad, check_good, total_on, records_put, no_records}
use Rattle.list_compiler.proofs.pieces.put_records.Goals as goal

pub overflow_add-first : goal.overflow_add-first
overflow_add-first c =
    let l = c.loop-line in
    let total = total_on c.in-Some.ensures.steps c.in-Ok.is in
    omega (arith, total, l.invariant.2)

pub loop-line-preserved-in-Ok : goal.loop-line-preserved-in-Ok
loop-line-preserved-in-Ok c =
    let l = c.loop-line in
    let total = total_on c.in-Some.ensures.steps c.in-Ok.is in (
      omega arith,
      check_good c.in-Some.ensures.steps c.in-Ok.is ∙ l.invariant.1,
      omega (arith, total, l.invariant.2),
      λ n b rest. l.invariant.3 n b
          (records_put c.in-Some.ensures.steps c.in-Ok.is _ _ b l.next _ n l.first c.put_record-next.ensures rest),
    )

-- No line is refused.
pub loop-line-preserved : goal.loop-line-preserved
loop-line-preserved c =
    let not_good = check_bad c.in-Some.ensures.steps c.in_default.is ∙ c.loop-line.invariant.1 in
    cc

pub returns : goal.returns
returns c =
    let l = c.loop-line in
    let steps = c.in-None.ensures.steps in
    l.invariant.3 _ _ (no_records steps.0 l.first l.buffer l.next)
