-- `ttl::calculate_ttl` meets its contract.
use Rattle.basis.proofs.Rules.{cases}
use Rattle.ttl.proofs.TableLaws.{reading_by, read_off}
use Rattle.ttl.proofs.calculate_ttl.Goals as goal

pub returns-in-0 : goal.returns-in-0
unfolding reading_by
returns-in-0 c = rw (← read_off _ _ c.ttl_entry-entry.ensures, c.in-0.is)

pub returns-in-1 : goal.returns-in-1
unfolding reading_by
returns-in-1 c = rw (← read_off _ _ c.ttl_entry-entry.ensures, c.in-1.is)

pub returns-in-2 : goal.returns-in-2
unfolding reading_by
returns-in-2 c = rw (← read_off _ _ c.ttl_entry-entry.ensures, c.in-2.is)

pub returns-in_default : goal.returns-in_default
unfolding reading_by
returns-in_default c = rw (← read_off _ _ c.ttl_entry-entry.ensures) (search cases)
