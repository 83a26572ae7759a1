-- Demand 1, a line for each public function of found.
-- tools/promises makes this file from the contracts, and the gate holds it to them.
use Rattle.matching.specs.declared.SignatureFit.{SignatureFit}
use Rattle.found.specs.declared.Found.{Found}
use Rattle.found.specs.declared.Hit.{Hit}
use Rattle.found.specs.Rank.{found_of, is_none, rank_of}
use Rattle.found.specs.contracts.found_of as found_of'
use Rattle.found.specs.contracts.is_none as is_none'
use Rattle.found.specs.contracts.rank_of as rank_of'
use Rattle.found.proofs.found_of.Reads as found_of_reads
use Rattle.found.proofs.is_none.Reads as is_none_reads
use Rattle.found.proofs.rank_of.Reads as rank_of_reads
use Rattle.acceptance.specs.Promised.{Answers}

pub record Promises : Type 0 where
  pub is_none_one
      : (fit : SignatureFit)
      → Answers is_none'.signature tt (is_none_reads.Pre tt) (is_none_reads.Post tt) (fit, tt) (is_none fit)
  pub found_of_one
      : (hit : Hit) (fit : SignatureFit)
      → Answers found_of'.signature tt (found_of_reads.Pre tt) (found_of_reads.Post tt) (hit, (fit, tt)) (found_of hit fit)
  pub rank_of_one
      : (found : Found)
      → Answers rank_of'.signature tt (rank_of_reads.Pre tt) (rank_of_reads.Post tt) (found, tt) (rank_of found)
