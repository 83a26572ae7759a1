use Rattle.text.proofs.Writing.{both}
use Rattle.report.specs.Text.{answer_text}
use Rattle.report.proofs.lines.put_answer.Goals as goal

pub returns-in-Ok-Opening : goal.returns-in-Ok-Opening
unfolding answer_text
returns-in-Ok-Opening c =
    let arm = c.in-Ok-Opening in
    let which = rw arm.is at arm.field-0-is in
    rw (arm.is, which) (both _ _ _ _ _ _ _ _ c.put_kind-next.ensures c.put_found.ensures)
