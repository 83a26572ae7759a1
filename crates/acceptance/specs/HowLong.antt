-- How long a search was (document 02, Wish 6): "how many records it examined. That is the position of the specific exact record that ended
-- it, counted from one, or the size of the list if none did. A refused search reports no count. The number is a part of the answer in
-- demands 2 and 3": so every equation of an answer in Demand1.antt and Demand3.antt is one of its count too. Counts of given lists are
-- among the values of Values.antt and GenericLast.antt. `HowLong` is the statement.
use Rattle.std.specs.Prelude.{◌≡◌, true, false, List, ◌↔◌, ℕ, ◌+◌, ◌<◌, ◌≤◌, Ok, Err}
use Rattle.observable.specs.declared.TcpObservation.{TcpObservation}
use Rattle.matching.specs.declared.FuzzyReason.{FuzzyReason}
use Rattle.flow.specs.declared.Mode.{Mode}
use Rattle.flow.specs.declared.Kind.TheVariants as kind
use Rattle.siglist.specs.List.{record_count, size_of, check_list}
use Rattle.found.specs.declared.Hit.{Hit}
use Rattle.found.specs.declared.Found.TheVariants as found
use Rattle.found.specs.declared.Searched.{Searched}
use Rattle.search.specs.Search.{searched, search_list}
use Rattle.packet_answer.specs.declared.PacketAnswer.TheVariants as packet
use Rattle.gateway.specs.Parts.{GatewayAnswer, gateway_in}
use Rattle.acceptance.specs.Outcome.{SpecificExact}
use Rattle.acceptance.specs.Honesty.{struct_at, checked_answer, checked_struct}

-- The number by the list's records alone, whatever the search finds.
pub data Examined (o : TcpObservation) (l : List ℕ) : ℕ → Type 0 where
  -- "the position of the specific exact record that ended it, counted from one": record i is one, and no record before it is
  ended_by : {i : ℕ} → i < size_of l → SpecificExact o l i → ((j : ℕ) → j < i → SpecificExact o l j → ⊥) → Examined o l (i + 1)
  -- "or the size of the list if none did"
  none_ended_it : ((i : ℕ) → i < size_of l → SpecificExact o l i → ⊥) → Examined o l (size_of l)

-- The count by what the search finds.
pub record ByOutcome (o : TcpObservation) (l : List ℕ) : Type 0 where
  pub specific
      : (hit : Hit) → (searched o l).found ≡ found.Exact hit → hit.generic ≡ false → (searched o l).examined ≡ hit.number + 1
  pub generic : (hit : Hit) → (searched o l).found ≡ found.Exact hit → hit.generic ≡ true → (searched o l).examined ≡ size_of l
  pub fuzzy : (hit : Hit) (reason : FuzzyReason) → (searched o l).found ≡ found.Fuzzy hit reason → (searched o l).examined ≡ size_of l
  pub none : (searched o l).found ≡ found.None → (searched o l).examined ≡ size_of l

-- The count of a gateway's answer; one that no search gave has none, and its field is 0.
abbrev pub count_of : GatewayAnswer → ℕ
count_of (GatewayAnswer.answered (Ok (packet.Opening kind.Syn s))) = s.examined
count_of (GatewayAnswer.answered (Ok (packet.Opening kind.SynAck s))) = s.examined
count_of (GatewayAnswer.answered (Ok packet.Nothing)) = 0
count_of (GatewayAnswer.answered (Err r)) = 0
count_of (GatewayAnswer.list_refused_lem r) = 0

pub record HowLong : Type 0 where
  -- On any list, checked or not, the count is this number and no other.
  pub examined : (o : TcpObservation) (l : List ℕ) (n : ℕ) → ((searched o l).examined ≡ n) ↔ Examined o l n
  pub by_outcome : (o : TcpObservation) (l : List ℕ) → ByOutcome o l
  pub at_most : (o : TcpObservation) (l : List ℕ) → (searched o l).examined ≤ size_of l
  -- A search that is not refused answers so, and its list's size is what the header says.
  pub search : (o : TcpObservation) (l : List ℕ) (s : Searched) → search_list o l ≡ Ok s → s ≡ searched o l
  pub size : (l : List ℕ) → check_list l ≡ (Ok tt) → size_of l ≡ record_count l
  -- The gateway gets it in the field `examined`.
  pub field : (mode : Mode) (p : List ℕ) (peer : ℕ) (l : List ℕ) → (struct_at mode p peer l).examined ≡ count_of (gateway_in mode p peer l)
  pub checked_field
      : (mode : Mode) (p : List ℕ) (peer : ℕ) (l : List ℕ)
      → (checked_struct mode p peer l).examined ≡ count_of (GatewayAnswer.answered (checked_answer mode p peer l))
