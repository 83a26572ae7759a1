-- Demand 1: the lines of the crates, and what holds of the pages.
use Rattle.report.proofs.Whole.{all_pages_lem, first_page_within, next_page_within}
use Rattle.acceptance.specs.Demand1.{Demand1}
use Rattle.acceptance.proofs.Promises.{each_crate}

pub demand1 : Demand1
demand1 =
    record {
      promises = each_crate;
      whole = all_pages_lem;
      first_fits = first_page_within;
      next_fits = next_page_within;
    }
