use Rattle.termread.proofs.Laws.{part_follows}
use Rattle.termread.proofs.send.Goals as goal

pub write_once-got-requires-clause-follows : goal.write_once-got-requires-clause-follows
write_once-got-requires-clause-follows g c =
    part_follows _ c.args.text.now c.args.taken c.loop.from c.loop.invariant.0 c.requires.follows
