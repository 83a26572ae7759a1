use Rattle.text.proofs.Writing.{both}
use Rattle.explain.specs.GateText.{gates_text}
use Rattle.explain.proofs.lines.put_gates.Goals as goal

pub returns : goal.returns
unfolding gates_text
returns c =
    both _ _ _ _ _ _ _ _ c.put_word-held.ensures
    (both _ _ _ _ _ _ _ _ c.put_names-behind_held.ensures
    (both _ _ _ _ _ _ _ _ c.put_word-tolerated.ensures
    (both _ _ _ _ _ _ _ _ c.put_names-behind_tolerated.ensures
    (both _ _ _ _ _ _ _ _ c.put_word-failed.ensures c.put_names.ensures))))
