use Rattle.line_writer.proofs.Writing.{too_long, raw_line_lem}
use borrow.Author.Rules.{rules}
use Rattle.line_writer.proofs.write_observation.Goals as goal

pub returns-then-o-gt40 : goal.returns-then-o-gt40
returns-then-o-gt40 c = too_long c.args.o _ c.if-o-gt40.true

pub returns : goal.returns
returns c =
    let o = c.args.o in
    let turned = c.entries_in-row.ensures in
    let seen = c.signature_seen.ensures in
    raw_line_lem o _ _ _ _ (search rules) turned (rw (← seen) c.write.ensures)
