-- `flow::is_valid` meets its contract.
use Rattle.tcp_header.proofs.Flags.{valid_by_type, valid_flags}
use borrow.Author.Rules.{rules}
use Rattle.tcp_header.proofs.is_valid.Goals as goal

pub returns : goal.returns
unfolding valid_by_type
returns c = rw (← valid_flags c.args.flags (search rules), c.tcp_type-masked.ensures)
