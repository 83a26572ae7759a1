-- Exactly one result meets each public function's own contract.
-- tools/promises makes this file from the contracts, and the gate holds it to them.
use Rattle.std.specs.Borrow.{Bor}
use Rattle.std.specs.Prelude.{ℕ, Bool, List, Option, Result, ◌≡◌}
use contract.Lifetimes.{Lfts}
use Rattle.basis.specs.Unique.{ExactlyOne}
use Rattle.basis.proofs.Unique.{equation, part}
use Rattle.refusals.specs.declared.ListRefusal.{ListRefusal}
use Rattle.siglist.specs.declared.Areas.{Areas}
use Rattle.siglist.specs.List.{check_list, entries_lie, header_of, record_of}
use Rattle.siglist.proofs.check_list.Reads as check_list'
use Rattle.siglist.proofs.entries_lie.Reads as entries_lie'
use Rattle.siglist.proofs.read_header.Reads as read_header'
use Rattle.siglist.proofs.record_at.Reads as record_at'

pub read_header_one
    : (κs : Lfts 1) (list : Bor (List ℕ))
    → ExactlyOne (Option Areas) (λ (r : Option Areas). read_header'.Post κs (list, tt) r (list, tt))
read_header_one κs list = equation (header_of list.now)

pub record_at_one
    : (κs : Lfts 1) (list : Bor (List ℕ)) (areas : Areas) (i : ℕ)
    → ExactlyOne (List ℕ)
    (λ (v : List ℕ). (r : Bor (List ℕ)) → r.now ≡ v → record_at'.Post κs (list, (areas, (i, tt))) r (list, (areas, (i, tt))))
record_at_one κs list areas i = part list (record_of list.now areas i)

pub entries_lie_one
    : (areas : Areas) (first count : ℕ)
    → ExactlyOne Bool (λ (r : Bool). entries_lie'.Post tt (areas, (first, (count, tt))) r (areas, (first, (count, tt))))
entries_lie_one areas first count = equation (entries_lie areas.entries first count)

pub check_list_one
    : (κs : Lfts 1) (list : Bor (List ℕ))
    → ExactlyOne (Result (Unit {0}) ListRefusal) (λ (r : Result (Unit {0}) ListRefusal). check_list'.Post κs (list, tt) r (list, tt))
check_list_one κs list = equation (check_list list.now)
