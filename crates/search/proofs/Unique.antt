-- Exactly one result meets each public function's own contract.
-- tools/promises makes this file from the contracts, and the gate holds it to them.
use Rattle.std.specs.Borrow.{Bor}
use Rattle.std.specs.Prelude.{ℕ, List, Result}
use contract.Lifetimes.{Lfts}
use Rattle.basis.specs.Unique.{ExactlyOne}
use Rattle.basis.proofs.Unique.{equation}
use Rattle.observable.specs.declared.TcpObservation.{TcpObservation}
use Rattle.found.specs.declared.Searched.{Searched}
use Rattle.search.specs.declared.SearchRefusal.{SearchRefusal}
use Rattle.search.specs.Search.{search_list, searched}
use Rattle.search.proofs.search.Reads as search'
use Rattle.search.proofs.search_checked.Reads as search_checked'

pub search_checked_one
    : (κs : Lfts 1) (observed : TcpObservation) (list : Bor (List ℕ))
    → ExactlyOne Searched (λ (r : Searched). search_checked'.Post κs (observed, (list, tt)) r (observed, (list, tt)))
search_checked_one κs observed list = equation (searched observed list.now)

pub search_one
    : (κs : Lfts 1) (observed : TcpObservation) (list : Bor (List ℕ))
    → ExactlyOne (Result Searched SearchRefusal)
    (λ (r : Result Searched SearchRefusal). search'.Post κs (observed, (list, tt)) r (observed, (list, tt)))
search_one κs observed list = equation (search_list observed list.now)
