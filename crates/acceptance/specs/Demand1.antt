-- Demand 1: "Each public function, refusals included, has exactly one result that meets its promise on each input, and that
-- uniqueness is proved" (document 01, "What acceptance reads"), and "lent input is never written". Promises/ has one line for each public
-- function of the product, crate by crate, over the function's own contract and signature (Promised.antt says what a line says), with the
-- definition that the one result is.
use Rattle.std.specs.Prelude.{◌≡◌, Bool, List, ℕ, ◌≤◌, length}
use Rattle.flow.specs.declared.Mode.{Mode}
use Rattle.report.specs.Pages.{page_size, first_page_in, next_page_in, all_pages, output_of_input_in}
use Rattle.acceptance.specs.Promises.{EachCrate}

pub record Demand1 : Type 0 where
  pub promises : EachCrate
  -- The pages, one after the other, are the output: nothing is lost, doubled or moved, and each fits its page.
  pub whole : (mode : Mode) (b : List ℕ) (longer : Bool) → all_pages mode b longer ≡ output_of_input_in mode b longer
  pub first_fits : (mode : Mode) (b : List ℕ) (longer : Bool) → length (first_page_in mode b longer).text ≤ page_size
  pub next_fits : (mode : Mode) (b : List ℕ) (left at : ℕ) → length (next_page_in mode b left at).text ≤ page_size
