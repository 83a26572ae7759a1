-- Demand 1, a line for each public function of siglist.
-- tools/promises makes this file from the contracts, and the gate holds it to them.
use Rattle.std.specs.Borrow.{Bor}
use Rattle.std.specs.Prelude.{ℕ, List}
use contract.Lifetimes.{Lfts}
use Rattle.siglist.specs.declared.Areas.{Areas}
use Rattle.siglist.specs.List.{check_list, entries_lie, header_of, record_of}
use Rattle.siglist.specs.contracts.check_list as check_list'
use Rattle.siglist.specs.contracts.entries_lie as entries_lie'
use Rattle.siglist.specs.contracts.read_header as read_header'
use Rattle.siglist.specs.contracts.record_at as record_at'
use Rattle.siglist.proofs.check_list.Reads as check_list_reads
use Rattle.siglist.proofs.entries_lie.Reads as entries_lie_reads
use Rattle.siglist.proofs.read_header.Reads as read_header_reads
use Rattle.siglist.proofs.record_at.Reads as record_at_reads
use Rattle.acceptance.specs.Promised.{Answers, PartAnswers}

pub record Promises : Type 0 where
  pub read_header_one
      : (κs : Lfts 1) (list : Bor (List ℕ))
      → Answers read_header'.signature κs (read_header_reads.Pre κs) (read_header_reads.Post κs) (list, tt) (header_of list.now)
  pub record_at_one
      : (κs : Lfts 1) (list : Bor (List ℕ)) (areas : Areas) (i : ℕ)
      → PartAnswers record_at'.signature κs (record_at_reads.Pre κs) (record_at_reads.Post κs)
      (list, (areas, (i, tt))) (record_of list.now areas i)
  pub entries_lie_one
      : (areas : Areas) (first count : ℕ)
      → Answers entries_lie'.signature tt (entries_lie_reads.Pre tt) (entries_lie_reads.Post tt)
      (areas, (first, (count, tt))) (entries_lie areas.entries first count)
  pub check_list_one
      : (κs : Lfts 1) (list : Bor (List ℕ))
      → Answers check_list'.signature κs (check_list_reads.Pre κs) (check_list_reads.Post κs) (list, tt) (check_list list.now)
