-- `ttl::rows::table_row` meets its contract: each arm picks the row of its number out of both constants.
use mathlib.Core.Path.{◌≡◌}
use native.Mathlib.Omega.{arith}
use borrow.Author.Rules.{rules}
use Rattle.ttl.proofs.TableLaws.{picked, NoneBelow, none_below}
use Rattle.ttl.proofs.rows.table_row.Goals as goal

-- The last arm: a number under 32 that is none of those before is 31.
pub returns-in_default : goal.returns-in_default
unfolding NoneBelow
returns-in_default c =
    let least = none_below _ 31 c.in_default.in_default-own.rest in
    let last : c.args.row ≡ 31 = omega (arith, least) in
    search (rules, picked)
