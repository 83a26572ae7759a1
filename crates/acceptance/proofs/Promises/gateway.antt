-- The lines of gateway, by its uniqueness theorems.
-- tools/promises makes this file from the contracts, and the gate holds it to them.
use Rattle.std.specs.Prelude.{refl}
use Rattle.gateway.proofs.Unique as unique
use Rattle.acceptance.specs.Promises.gateway.{Promises}
use Rattle.acceptance.proofs.Promised.{answered, line_answered}

pub promises : Promises
promises =
    record {
      termread_check_list_one = λ κs list. answered tt (unique.termread_check_list_one κs list) (λ m. m) refl;
      termread_answer_checked_one =
          λ κs packet peer list. answered tt (unique.termread_answer_checked_one κs packet peer list) (λ m. m) refl;
      termread_answer_one = λ κs packet peer list. answered tt (unique.termread_answer_one κs packet peer list) (λ m. m) refl;
      termread_answer_checked_in_one =
          λ κs packet peer list bits. answered tt (unique.termread_answer_checked_in_one κs packet peer list bits) (λ m. m) refl;
      termread_answer_in_one =
          λ κs packet peer list bits. answered tt (unique.termread_answer_in_one κs packet peer list bits) (λ m. m) refl;
      termread_raw_line_one = λ κs buffer packet peer. line_answered tt (unique.termread_raw_line_one κs buffer packet peer) (λ m. m) refl;
      termread_raw_line_in_one =
          λ κs buffer packet peer bits. line_answered tt (unique.termread_raw_line_in_one κs buffer packet peer bits) (λ m. m) refl;
      termread_record_line_one =
          λ κs buffer list index. line_answered tt (unique.termread_record_line_one κs buffer list index) (λ m. m) refl;
      termread_compile_list_one = λ κs buffer file. line_answered tt (unique.termread_compile_list_one κs buffer file) (λ m. m) refl;
    }
