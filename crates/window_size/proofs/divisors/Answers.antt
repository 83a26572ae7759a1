-- `window_size::divisors` meets its contract.
use Rattle.window_size.proofs.Laws.{row_held}
use Rattle.window_size.proofs.divisors.Goals as goal

pub returns : goal.returns
returns c =
    let a = c.args in
    row_held a.mss a.tot_hdr a.peer a.own_timestamp_is_nonzero a.ipv6
    c.saturating_sub.ensures c.only_if.ensures c.only_if-2.ensures
    c.only_if-3.ensures c.saturating_add.ensures c.saturating_add-2.ensures
    c.saturating_add-3.ensures c.only_if-4.ensures c.saturating_sub-2.ensures
