-- Generic lines come last (document 02, Wish 3): a list whose byte 21 are all 0 answers as document 01 says, and cases of lists where they
-- are not. What is found is in Outcome.antt; `GenericLast` is the statement.
use Rattle.std.specs.Prelude.{◌≡◌, true, false, List, [], ◌∷◌, ◌++◌, ◌↔◌, ◌⊎◌, ℕ, ◌<◌, Some, None, Result, Err}
use Rattle.basis.specs.Bytes.{byte_at}
use Rattle.observable.specs.declared.TcpObservation.{TcpObservation}
use Rattle.quirks.specs.Quirks.{set_of}
use Rattle.matching.specs.declared.FuzzyReason.{FuzzyReason}
use Rattle.matching.specs.declared.SignatureFit.TheVariants as fit
use Rattle.refusals.specs.declared.ListRefusal.TheVariants as refusal
use Rattle.flow.specs.Reading.{read_packet, observation_read}
use Rattle.siglist.specs.List.{record_count, record_at}
use Rattle.found.specs.declared.Hit.{Hit}
use Rattle.found.specs.declared.Found.TheVariants as found
use Rattle.found.specs.declared.Searched.{Searched}
use Rattle.search.specs.declared.SearchRefusal.{SearchRefusal}
use Rattle.search.specs.declared.SearchRefusal.TheVariants as answer
use Rattle.search.specs.Search.{searched, search_list}
use Rattle.acceptance.specs.Outcome.{fit_of_record, Named, FirstFuzzy, NoneFits}
use Rattle.acceptance.specs.Refusals.{BadRecord}
use Rattle.acceptance.specs.Values.{packet_a, after}

-- ---- as before

-- Byte 21 of every record is 0.
abbrev pub AllSpecific : List ℕ → Type 0
AllSpecific l = (i : ℕ) → i < record_count l → byte_at (record_at l i) 21 ≡ 0

-- Document 01: "byte 21 [..] is not 0" makes a record bad.
abbrev pub BadBefore : List ℕ → ℕ → Type 0
BadBefore l i = BadRecord l i ⊎ (0 < byte_at (record_at l i) 21)

-- Document 01: "the first exact record in list order".
pub record FirstExact (o : TcpObservation) (l : List ℕ) (hit : Hit) : Type 0 where
  pub named : Named l hit
  pub exact : fit_of_record o l hit.number ≡ fit.Exact
  pub first : (j : ℕ) → j < hit.number → fit_of_record o l j ≡ fit.Exact → ⊥

-- The same records are bad, and the same record is found: "the first exact record in list order; else the first fuzzy one, with its
-- reason; else none". Whatever is found is specific.
pub record AsBefore (l : List ℕ) : Type 0 where
  pub bad : (i : ℕ) → i < record_count l → BadRecord l i ↔ BadBefore l i
  pub exact : (o : TcpObservation) (hit : Hit) → ((searched o l).found ≡ found.Exact hit) ↔ FirstExact o l hit
  pub fuzzy
      : (o : TcpObservation) (hit : Hit) (reason : FuzzyReason)
      → ((searched o l).found ≡ found.Fuzzy hit reason) ↔ FirstFuzzy o l hit reason
  pub none : (o : TcpObservation) → ((searched o l).found ≡ found.None) ↔ NoneFits o l
  pub specific : (hit : Hit) → Named l hit → hit.generic ≡ false

-- ---- two records

-- The record of the whole example with another TTL, byte 21 and label, and a list of two such.
abbrev pub record_with : ℕ → ℕ → ℕ → List ℕ
record_with t kind label =
    0 ∷ 0 ∷ t ∷ 0 ∷ 0 ∷ 0 ∷ 0 ∷ 0 ∷ 3 ∷ 0 ∷ 4 ∷ 0 ∷ 0 ∷ 0 ∷ 0 ∷ 0 ∷ 0 ∷ 2 ∷ 0 ∷ 0 ∷ 1 ∷ kind ∷ 0 ∷ label ∷ []

abbrev pub two_records : List ℕ → List ℕ → List ℕ
two_records r s = 0 ∷ 2 ∷ 0 ∷ 8 ∷ 0 ∷ 1 ∷ 0 ∷ 56 ∷ r ++ s ++ (2 ∷ 0 ∷ [])

-- Packet A against two records, and against none: "first specific exact, else first generic exact, else first fuzzy of either kind.
-- [..] 10 now covers byte 21 above 1"; and how many were examined. A record of TTL 128 fits it fuzzily.
abbrev pub search_a : List ℕ → List ℕ → Result Searched SearchRefusal
search_a r s = search_list (observation_read (read_packet packet_a None)) (two_records r s)

abbrev pub far_reason : FuzzyReason
far_reason = record { hops = Some 64; added = set_of 0; missing = set_of 0 }

pub record KindValues : Type 0 where
  pub first_specific
      : search_a (record_with 64 0 7) (record_with 64 0 8) ≡ after 1 (found.Exact (record { label = 7; number = 0; generic = false }))
  pub specific_behind_generic
      : search_a (record_with 64 1 7) (record_with 64 0 8) ≡ after 2 (found.Exact (record { label = 8; number = 1; generic = false }))
  pub first_generic
      : search_a (record_with 64 1 7) (record_with 64 1 8) ≡ after 2 (found.Exact (record { label = 7; number = 0; generic = true }))
  pub generic_behind_fuzzy
      : search_a (record_with 128 0 7) (record_with 64 1 8) ≡ after 2 (found.Exact (record { label = 8; number = 1; generic = true }))
  pub first_fuzzy_generic
      : search_a (record_with 128 1 7) (record_with 128 0 8)
      ≡ after 2 (found.Fuzzy (record { label = 7; number = 0; generic = true }) far_reason)
  pub no_records : search_list (observation_read (read_packet packet_a None)) (0 ∷ 0 ∷ 0 ∷ 8 ∷ 0 ∷ 0 ∷ 0 ∷ 8 ∷ []) ≡ after 0 found.None
  pub byte_21_of_2 : search_a (record_with 64 0 7) (record_with 64 2 8) ≡ Err (answer.List (refusal.BadRecord 1))

pub record GenericLast : Type 0 where
  pub as_before : (l : List ℕ) → AllSpecific l → AsBefore l
  pub values : KindValues
