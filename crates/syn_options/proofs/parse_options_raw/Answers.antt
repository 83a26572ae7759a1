-- `syn_options::parse_options_raw` meets its contract.
use Rattle.std.proofs.lemmas.Result.{err_from_is_err_and}
use Rattle.syn_options.proofs.Readers.{parsed_of_walk}
use Rattle.quirks.proofs.Named.{empty_bits}
use Rattle.syn_options.proofs.parse_options_raw.Goals as goal

pub returns-in_err-walk : goal.returns-in_err-walk
returns-in_err-walk c =
    let said = c.from_residual.ensures in
    let p = err_from_is_err_and c.from_residual.result said.1 in
    rw (← parsed_of_walk c.args.buf.now, empty_bits, ← c.read_options.ensures, c.in_err-walk.was, p.1, p.2)

pub returns : goal.returns
returns c =
    rw (c.parsed.ensures, ← parsed_of_walk c.args.buf.now, empty_bits, ← c.read_options.ensures, c.in_ok-walk.was)
