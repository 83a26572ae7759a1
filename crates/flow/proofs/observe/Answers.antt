-- `flow::observe` meets its contract.
use Rattle.flow.proofs.Parts.{part_raised}
use Rattle.flow.proofs.Walks.{observed_walk}
use Rattle.rfc.specs.Rfc9293.{options_end}
use Rattle.flow.proofs.observe.Goals as goal

pub returns : goal.returns
returns c =
    let a = c.args in
    simp (
      c.observation.ensures,
      c.peer_taken.ensures,
      c.walk_options-walk.ensures,
      c.stop_of.ensures,
      c.shown_quirks-quirks.ensures,
      c.options_end-end.ensures,
      part_raised 20 (options_end a.tcp.bytes.now) a.tcp.bytes.now,
    )
    (observed_walk a.mode a.facts a.tcp.bytes.now a.syn _)
