-- `syn_options::walk_options` meets its contract.
use Rattle.syn_options.proofs.Walk.{forty}
use Rattle.syn_options.specs.Stops.{walk_to, walk_options}
use mathlib.Core.Path.{◌∙◌, ap}
use Rattle.syn_options.proofs.walk_options.Goals as goal

pub returns : goal.returns
unfolding walk_options
returns c =
    let a = c.args in
    let end = c.least-end in
    c.walk_part.ensures
    ∙ ap (walk_to a.stop a.syn a.quirks) (forty a.options.now end.result end.ensures)
