-- Exactly one result meets each public function's own contract.
-- tools/promises makes this file from the contracts, and the gate holds it to them.
use Rattle.std.specs.Prelude.{ℕ, List}
use Rattle.basis.specs.Unique.{ExactlyOne}
use Rattle.basis.proofs.Unique.{equation}
use Rattle.ttl.specs.declared.Ttl.{Ttl}
use Rattle.ttl.specs.declared.TtlEntry.{TtlEntry}
use Rattle.ttl.specs.Table.{class_of, each_byte, entry_of}
use Rattle.ttl.specs.Ttl.{byte_of, guess_of, max_dist, reading_of}
use Rattle.ttl.proofs.calculate_ttl.Reads as calculate_ttl'
use Rattle.ttl.proofs.guess_distance.Reads as guess_distance'
use Rattle.ttl.proofs.max_dist.Reads as max_dist'
use Rattle.ttl.proofs.observed_ttl.Reads as observed_ttl'
use Rattle.ttl.proofs.ttl_classes.Reads as ttl_classes'
use Rattle.ttl.proofs.ttl_entry.Reads as ttl_entry'
use Rattle.ttl.proofs.ttl_guesses.Reads as ttl_guesses'

pub max_dist_one : ExactlyOne ℕ (λ (r : ℕ). max_dist'.Post tt tt r tt)
max_dist_one = equation max_dist

pub observed_ttl_one : (ttl : Ttl) → ExactlyOne ℕ (λ (r : ℕ). observed_ttl'.Post tt (ttl, tt) r (ttl, tt))
observed_ttl_one ttl = equation (byte_of ttl)

pub ttl_classes_one : ExactlyOne (List (List ℕ)) (λ (r : List (List ℕ)). ttl_classes'.Post tt tt r tt)
ttl_classes_one = equation (each_byte class_of)

pub ttl_guesses_one : ExactlyOne (List (List ℕ)) (λ (r : List (List ℕ)). ttl_guesses'.Post tt tt r tt)
ttl_guesses_one = equation (each_byte guess_of)

pub ttl_entry_one : (ttl : ℕ) → ExactlyOne TtlEntry (λ (r : TtlEntry). ttl_entry'.Post tt (ttl, tt) r (ttl, tt))
ttl_entry_one ttl = equation (entry_of ttl)

pub guess_distance_one : (ttl : ℕ) → ExactlyOne ℕ (λ (r : ℕ). guess_distance'.Post tt (ttl, tt) r (ttl, tt))
guess_distance_one ttl = equation (guess_of ttl)

pub calculate_ttl_one : (ttl_observed : ℕ) → ExactlyOne Ttl (λ (r : Ttl). calculate_ttl'.Post tt (ttl_observed, tt) r (ttl_observed, tt))
calculate_ttl_one ttl_observed = equation (reading_of ttl_observed)
