-- Demand 1, a line for each public function of ttl.
-- tools/promises makes this file from the contracts, and the gate holds it to them.
use Rattle.std.specs.Prelude.{ℕ}
use Rattle.ttl.specs.declared.Ttl.{Ttl}
use Rattle.ttl.specs.Table.{class_of, each_byte, entry_of}
use Rattle.ttl.specs.Ttl.{byte_of, guess_of, max_dist, reading_of}
use Rattle.ttl.specs.contracts.calculate_ttl as calculate_ttl'
use Rattle.ttl.specs.contracts.guess_distance as guess_distance'
use Rattle.ttl.specs.contracts.max_dist as max_dist'
use Rattle.ttl.specs.contracts.observed_ttl as observed_ttl'
use Rattle.ttl.specs.contracts.ttl_classes as ttl_classes'
use Rattle.ttl.specs.contracts.ttl_entry as ttl_entry'
use Rattle.ttl.specs.contracts.ttl_guesses as ttl_guesses'
use Rattle.ttl.proofs.calculate_ttl.Reads as calculate_ttl_reads
use Rattle.ttl.proofs.guess_distance.Reads as guess_distance_reads
use Rattle.ttl.proofs.max_dist.Reads as max_dist_reads
use Rattle.ttl.proofs.observed_ttl.Reads as observed_ttl_reads
use Rattle.ttl.proofs.ttl_classes.Reads as ttl_classes_reads
use Rattle.ttl.proofs.ttl_entry.Reads as ttl_entry_reads
use Rattle.ttl.proofs.ttl_guesses.Reads as ttl_guesses_reads
use Rattle.acceptance.specs.Promised.{Answers}

pub record Promises : Type 0 where
  pub max_dist_one : Answers max_dist'.signature tt (max_dist_reads.Pre tt) (max_dist_reads.Post tt) tt max_dist
  pub observed_ttl_one
      : (ttl : Ttl)
      → Answers observed_ttl'.signature tt (observed_ttl_reads.Pre tt) (observed_ttl_reads.Post tt) (ttl, tt) (byte_of ttl)
  pub ttl_classes_one : Answers ttl_classes'.signature tt (ttl_classes_reads.Pre tt) (ttl_classes_reads.Post tt) tt (each_byte class_of)
  pub ttl_guesses_one : Answers ttl_guesses'.signature tt (ttl_guesses_reads.Pre tt) (ttl_guesses_reads.Post tt) tt (each_byte guess_of)
  pub ttl_entry_one
      : (ttl : ℕ)
      → Answers ttl_entry'.signature tt (ttl_entry_reads.Pre tt) (ttl_entry_reads.Post tt) (ttl, tt) (entry_of ttl)
  pub guess_distance_one
      : (ttl : ℕ)
      → Answers guess_distance'.signature tt (guess_distance_reads.Pre tt) (guess_distance_reads.Post tt) (ttl, tt) (guess_of ttl)
  pub calculate_ttl_one
      : (ttl_observed : ℕ)
      → Answers calculate_ttl'.signature tt (calculate_ttl_reads.Pre tt) (calculate_ttl_reads.Post tt)
      (ttl_observed, tt) (reading_of ttl_observed)
