-- The lines of siglist, by its uniqueness theorems.
-- tools/promises makes this file from the contracts, and the gate holds it to them.
use Rattle.std.specs.Prelude.{refl}
use Rattle.siglist.proofs.Unique as unique
use Rattle.acceptance.specs.Promises.siglist.{Promises}
use Rattle.acceptance.proofs.Promised.{answered, part_answered}

pub promises : Promises
promises =
    record {
      read_header_one = λ κs list. answered tt (unique.read_header_one κs list) (λ m. m) refl;
      record_at_one = λ κs list areas i. part_answered tt (unique.record_at_one κs list areas i) list (λ r m. m) refl;
      entries_lie_one = λ areas first count. answered tt (unique.entries_lie_one areas first count) (λ m. m) refl;
      check_list_one = λ κs list. answered tt (unique.check_list_one κs list) (λ m. m) refl;
    }
