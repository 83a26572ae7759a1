-- `syn_options::step_inside` meets its contract.
use Rattle.one_option.proofs.Options.{step_lies}
use Rattle.syn_options.proofs.step_inside.Goals as goal

pub returns : goal.returns
returns c =
    let lies = step_lies _ _ c.option_step.ensures c.requires in
    record { is = c.option_step.ensures; behind = lies.0; within = lies.1 }
