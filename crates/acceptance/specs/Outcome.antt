-- What a search's answer says of the records of its list (document 02, Wish 3): "first specific exact, else first generic exact, else
-- first fuzzy of either kind", "with its reason; else none" (document 01, "The signature list"). A record is named by its number in the
-- list, from 0, by its label and by its kind.
use Rattle.std.specs.Prelude.{◌≡◌, true, false, List, ◌↔◌, ◌⊎◌, ℕ, ◌<◌}
use Rattle.observable.specs.declared.TcpObservation.{TcpObservation}
use Rattle.matching.specs.declared.FuzzyReason.{FuzzyReason}
use Rattle.matching.specs.declared.SignatureFit.{SignatureFit}
use Rattle.matching.specs.declared.SignatureFit.TheVariants as fit
use Rattle.matching.specs.Fit.{features_of}
use Rattle.sigrecord.specs.Record.{label_of, is_generic}
use Rattle.siglist.specs.List.{record_count, record_at}
use Rattle.found.specs.declared.Hit.{Hit}
use Rattle.found.specs.declared.Found.{Found}
use Rattle.found.specs.declared.Found.TheVariants as found
use Rattle.search.specs.Search.{fit_at, searched}

-- How record i of a list fits an observation; what is not a well-formed record of the list does not fit.
abbrev pub fit_of_record : TcpObservation → List ℕ → ℕ → SignatureFit
fit_of_record o l i = fit_at (features_of o) o.olayout.kinds o.olayout.bytes l i

-- Record i is specific and fits exactly.
pub record SpecificExact (o : TcpObservation) (l : List ℕ) (i : ℕ) : Type 0 where
  pub exact : fit_of_record o l i ≡ fit.Exact
  pub specific : is_generic (record_at l i) ≡ false

-- The record that is named is one of the list's, and label and kind are its own.
pub record Named (l : List ℕ) (hit : Hit) : Type 0 where
  pub in_list : hit.number < record_count l
  pub own_label : hit.label ≡ label_of (record_at l hit.number)
  pub own_kind : hit.generic ≡ is_generic (record_at l hit.number)

-- "first specific exact": no specific one before it is exact.
pub record FirstSpecific (o : TcpObservation) (l : List ℕ) (hit : Hit) : Type 0 where
  pub named : Named l hit
  pub specific : hit.generic ≡ false
  pub exact : fit_of_record o l hit.number ≡ fit.Exact
  pub first : (j : ℕ) → j < hit.number → SpecificExact o l j → ⊥

-- "else first generic exact": no record of the list is specific and exact, and none before it is exact.
pub record FirstGeneric (o : TcpObservation) (l : List ℕ) (hit : Hit) : Type 0 where
  pub named : Named l hit
  pub generic : hit.generic ≡ true
  pub exact : fit_of_record o l hit.number ≡ fit.Exact
  pub first : (j : ℕ) → j < hit.number → fit_of_record o l j ≡ fit.Exact → ⊥
  pub no_specific : (j : ℕ) → j < record_count l → SpecificExact o l j → ⊥

-- "else first fuzzy of either kind", "with its reason": the reason is that record's too, no record before it fits, and none of the list
-- is exact.
pub record FirstFuzzy (o : TcpObservation) (l : List ℕ) (hit : Hit) (reason : FuzzyReason) : Type 0 where
  pub named : Named l hit
  pub fuzzy : fit_of_record o l hit.number ≡ fit.Fuzzy reason
  pub first : (j : ℕ) → j < hit.number → fit_of_record o l j ≡ fit.None
  pub none_exact : (j : ℕ) → j < record_count l → fit_of_record o l j ≡ fit.Exact → ⊥

-- "else none"
abbrev pub NoneFits : TcpObservation → List ℕ → Type 0
NoneFits o l = (i : ℕ) → i < record_count l → fit_of_record o l i ≡ fit.None

-- What an answer says, whichever of the three it is.
abbrev pub Outcome : TcpObservation → List ℕ → Found → Type 0
Outcome o l (found.Exact hit) = FirstSpecific o l hit ⊎ FirstGeneric o l hit
Outcome o l (found.Fuzzy hit reason) = FirstFuzzy o l hit reason
Outcome o l found.None = NoneFits o l

-- The four outcomes, each exactly when the list's records are so.
pub record FourOutcomes (o : TcpObservation) (l : List ℕ) : Type 0 where
  pub specific : (hit : Hit) → (((searched o l).found ≡ found.Exact hit) × (hit.generic ≡ false)) ↔ FirstSpecific o l hit
  pub generic : (hit : Hit) → (((searched o l).found ≡ found.Exact hit) × (hit.generic ≡ true)) ↔ FirstGeneric o l hit
  pub fuzzy : (hit : Hit) (reason : FuzzyReason) → ((searched o l).found ≡ found.Fuzzy hit reason) ↔ FirstFuzzy o l hit reason
  pub none : ((searched o l).found ≡ found.None) ↔ NoneFits o l
