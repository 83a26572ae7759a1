-- `ttl::rows::byte_in` meets its contract: the row's number, shifted to the byte.
use mathlib.Core.Path.{◌∙◌, ap}
use Prim.Native.Nat.{ℕ, ◌<◌}
use native.Mathlib.Nat.{zero-add}
use native.Mathlib.Omega.{arith}
use lib.ListN.{get_or}
use Rattle.ttl.proofs.RowLaws.{word_from, shifted, under, each_of_eight}
use Rattle.ttl.proofs.rows.byte_in.Goals as goal

-- `at-k` is where byte k was widened, the last first.
pub returns : goal.returns
unfolding word_from
returns c =
    let args = c.args in
    let byte : ℕ → ℕ = λ i. get_or args.row i 0 in
    let small =
    each_of_eight (λ i. byte i < 256) (under c.wide-7.ensures) (under c.wide-6.ensures)
    (under c.wide-5.ensures) (under c.wide-4.ensures) (under c.wide-3.ensures)
    (under c.wide-2.ensures) (under c.wide.ensures) (under c.wide-from_7.ensures) in
    rw (
      c.wide-7.ensures.same,
      c.wide-6.ensures.same,
      c.wide-5.ensures.same,
      c.wide-4.ensures.same,
      c.wide-3.ensures.same,
      c.wide-2.ensures.same,
      c.wide.ensures.same,
      c.wide-from_7.ensures.same,
    )
    (shifted byte small 0 7 args.at (omega arith) (omega arith) ∙ ap byte (zero-add args.at))
