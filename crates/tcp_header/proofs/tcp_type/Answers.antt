-- `flow::tcp_type` meets its contract.
use Rattle.tcp_header.proofs.Flags.{masked_type_lem}
use borrow.Author.Rules.{rules}
use Rattle.tcp_header.proofs.tcp_type.Goals as goal

pub returns : goal.returns
returns c = masked_type_lem _ (search rules)
