-- Demand 1, a line for each public function of search.
-- tools/promises makes this file from the contracts, and the gate holds it to them.
use Rattle.std.specs.Borrow.{Bor}
use Rattle.std.specs.Prelude.{ℕ, List}
use contract.Lifetimes.{Lfts}
use Rattle.observable.specs.declared.TcpObservation.{TcpObservation}
use Rattle.search.specs.Search.{search_list, searched}
use Rattle.search.specs.contracts.search as search'
use Rattle.search.specs.contracts.search_checked as search_checked'
use Rattle.search.proofs.search.Reads as search_reads
use Rattle.search.proofs.search_checked.Reads as search_checked_reads
use Rattle.acceptance.specs.Promised.{Answers}

pub record Promises : Type 0 where
  pub search_checked_one
      : (κs : Lfts 1) (observed : TcpObservation) (list : Bor (List ℕ))
      → Answers search_checked'.signature κs (search_checked_reads.Pre κs) (search_checked_reads.Post κs)
      (observed, (list, tt)) (searched observed list.now)
  pub search_one
      : (κs : Lfts 1) (observed : TcpObservation) (list : Bor (List ℕ))
      → Answers search'.signature κs (search_reads.Pre κs) (search_reads.Post κs) (observed, (list, tt)) (search_list observed list.now)
