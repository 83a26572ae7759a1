-- The lines of report, by its uniqueness theorems.
-- tools/promises makes this file from the contracts, and the gate holds it to them.
use Rattle.std.specs.Prelude.{refl}
use Rattle.report.proofs.Unique as unique
use Rattle.acceptance.specs.Promises.report.{Promises}
use Rattle.acceptance.proofs.Promised.{buffer_answered, page_answered}

pub promises : Promises
promises =
    record {
      first_page_in_one =
          λ κs bundle longer page mode. page_answered tt (unique.first_page_in_one κs bundle longer page mode) (λ m. m) refl;
      next_page_in_one =
          λ κs bundle progress page mode. page_answered tt (unique.next_page_in_one κs bundle progress page mode) (λ m. m) refl;
      first_page_one = λ κs bundle longer page. page_answered tt (unique.first_page_one κs bundle longer page) (λ m. m) refl;
      next_page_one = λ κs bundle progress page. page_answered tt (unique.next_page_one κs bundle progress page) (λ m. m) refl;
      put_numbered_one = λ κs page at word n. buffer_answered tt (unique.put_numbered_one κs page at word n) (λ m. m) refl;
      put_answer_one = λ κs page at answer. buffer_answered tt (unique.put_answer_one κs page at answer) (λ m. m) refl;
    }
