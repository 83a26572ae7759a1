-- `ttl::ttl_entry` meets its contract: the byte's place in its row.
use Rattle.ttl.proofs.TableLaws.{in_rows}
use Rattle.ttl.proofs.ttl_entry.Goals as goal

pub returns : goal.returns
returns c = rw (c.byte_in-2.ensures, c.byte_in.ensures) (in_rows _ _ c.table_row-row.ensures)
