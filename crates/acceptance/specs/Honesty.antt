-- "Exact, fuzzy and none stay three answers": what each of the three means, for a record, for a search and for a packet (document 01,
-- module 7 and "The signature list"), and that they stay three in the struct that a gateway gets, in every mode. `Honesty` is the
-- statement.
use Rattle.std.specs.Prelude.{◌≡◌, true, false, List, ◌++◌, ◌↔◌, ◌⊎◌, ℕ, ◌<◌, Option, Some, None, Ok, Result, Err}
use Rattle.basis.specs.Bytes.{AllBytes}
use Rattle.quirks.specs.Quirks.{is_empty}
use Rattle.observable.specs.declared.TcpObservation.{TcpObservation}
use Rattle.refusals.specs.declared.PacketRefusal.{PacketRefusal}
use Rattle.flow.specs.declared.Kind.TheVariants as kind
use Rattle.flow.specs.declared.Mode.{Mode}
use Rattle.flow.specs.Modes.{read_in}
use Rattle.flow.specs.Reading.{kind_read, observation_read}
use Rattle.distances.specs.declared.TtlFit.{TtlFit}
use Rattle.distances.specs.declared.TtlFit.TheVariants as ttlfit
use Rattle.distances.specs.Distances.{ttl_fit}
use Rattle.matching.specs.declared.Features.{Features}
use Rattle.matching.specs.declared.FuzzyReason.{FuzzyReason}
use Rattle.sigrecord.specs.declared.Signature.{Signature}
use Rattle.matching.specs.declared.SignatureFit.TheVariants as fit
use Rattle.matching.specs.declared.Tolerated.{Tolerated}
use Rattle.matching.specs.Gates.{layout_matches}
use Rattle.matching.specs.Tolerance.{masked_quirks, quirks_fit}
use Rattle.matching.specs.Fit.{scalar_gates, fit_of}
use Rattle.siglist.specs.List.{check_list}
use Rattle.found.specs.declared.Hit.{Hit}
use Rattle.found.specs.declared.Found.{Found}
use Rattle.found.specs.declared.Found.TheVariants as found
use Rattle.found.specs.declared.Searched.{Searched}
use Rattle.found.specs.Rank.{rank_of}
use Rattle.search.specs.Search.{search_over, searched, search_list}
use Rattle.packet_answer.specs.declared.PacketAnswer.{PacketAnswer}
use Rattle.packet_answer.specs.declared.PacketAnswer.TheVariants as packet
use Rattle.packet_answer.specs.Packet.{peer_of, answer_in}
use Rattle.gateway.specs.declared.TermreadResult.{TermreadResult}
use Rattle.gateway.specs.Parts.{GatewayAnswer, packet_parts, parts_of, gateway_in, list_parts}
use Rattle.gateway.specs.Decode.{answer_from}
use Rattle.gateway.specs.Zeros.{Zeros}
use Rattle.acceptance.specs.Outcome.{Outcome, FourOutcomes}

-- "Nothing tolerated": the TTL is in range, and no quirk is added or missing.
pub data NothingTolerated : Option TtlFit → Option Tolerated → Type 0 where
  nothing_tolerated
      : {d : ℕ} {q : Tolerated}
      → is_empty q.added ≡ true
      → is_empty q.missing ≡ true
      → NothingTolerated (Some (ttlfit.InRange d)) (Some q)

-- "Seven gates must all hold", and nothing is tolerated.
pub record FitsExactly (f : Features) (kinds bytes : List ℕ) (s : Signature) (count : ℕ) (entries : List ℕ) : Type 0 where
  pub gates : scalar_gates f s ≡ true
  pub layout : layout_matches f.count kinds bytes count entries ≡ true
  pub untolerated
      : NothingTolerated (ttl_fit f.ttl s.ittl) (quirks_fit f.quirks (masked_quirks s.quirks s.version f.version))

-- "else fuzzy with a reason: the hop distance if out of range, the added and the missing quirks": neither is rejected, and the TTL is
-- out of range, or a quirk is added, or one is missing.
pub data ToleratedWith : Option TtlFit → Option Tolerated → FuzzyReason → Type 0 where
  out_of_range
      : {d : ℕ} {q : Tolerated}
      → ToleratedWith (Some (ttlfit.OutOfRange d)) (Some q)
      (record { hops = Some d; added = q.added; missing = q.missing })
  an_added
      : {d : ℕ} {q : Tolerated}
      → is_empty q.added ≡ false
      → ToleratedWith (Some (ttlfit.InRange d)) (Some q)
      (record { hops = None; added = q.added; missing = q.missing })
  a_missing
      : {d : ℕ} {q : Tolerated}
      → is_empty q.missing ≡ false
      → ToleratedWith (Some (ttlfit.InRange d)) (Some q)
      (record { hops = None; added = q.added; missing = q.missing })

-- The seven gates hold, and something is tolerated, for this reason.
pub record FitsFuzzily (f : Features) (kinds bytes : List ℕ) (s : Signature) (count : ℕ) (entries : List ℕ) (reason : FuzzyReason)
    : Type 0
  where
    pub gates : scalar_gates f s ≡ true
    pub layout : layout_matches f.count kinds bytes count entries ≡ true
    pub tolerated
        : ToleratedWith (ttl_fit f.ttl s.ittl) (quirks_fit f.quirks (masked_quirks s.quirks s.version f.version)) reason

-- Which of the three a search's answer is: 1 exact, 2 fuzzy, 3 none.
abbrev pub which_of : Found → ℕ
which_of (found.Exact hit) = 1
which_of (found.Fuzzy hit reason) = 2
which_of found.None = 3

-- Of a gateway's answer: one of the three, or 4 (neither SYN nor SYN+ACK), or 5 (refused).
abbrev pub outcome_of : GatewayAnswer → ℕ
outcome_of (GatewayAnswer.answered (Ok (packet.Opening kind.Syn s))) = which_of s.found
outcome_of (GatewayAnswer.answered (Ok (packet.Opening kind.SynAck s))) = which_of s.found
outcome_of (GatewayAnswer.answered (Ok packet.Nothing)) = 4
outcome_of (GatewayAnswer.answered (Err r)) = 5
outcome_of (GatewayAnswer.list_refused_lem r) = 5

-- The struct that a gateway gets for a packet, the peer's MSS and a list (`termread_answer_in`; in the plain mode `termread_answer`).
abbrev pub struct_at : Mode → List ℕ → ℕ → List ℕ → TermreadResult
struct_at mode p peer l = parts_of (gateway_in mode p peer l)

-- The answer that a gateway gets which checked its list once, and its struct (`termread_answer_checked_in`; in the plain mode
-- `termread_answer_checked`).
abbrev pub checked_answer : Mode → List ℕ → ℕ → List ℕ → Result PacketAnswer PacketRefusal
checked_answer mode p peer l = answer_in mode p (peer_of peer) l

abbrev pub checked_struct : Mode → List ℕ → ℕ → List ℕ → TermreadResult
checked_struct mode p peer l = packet_parts (checked_answer mode p peer l)

-- The struct that a gateway gets for a list alone (`termread_check_list`).
abbrev pub list_struct : List ℕ → TermreadResult
list_struct l = list_parts (check_list l)

pub record Honesty : Type 0 where
  -- "Nothing tolerated is exact, else fuzzy": exact exactly when the gates hold and nothing is tolerated.
  pub exact
      : (f : Features) (kinds bytes : List ℕ) (s : Signature) (count : ℕ) (entries : List ℕ)
      → (fit_of f kinds bytes s count entries ≡ fit.Exact) ↔ FitsExactly f kinds bytes s count entries
  -- Fuzzy with a reason exactly when the gates hold, neither the TTL nor the quirks are rejected, and something is tolerated; the reason
  -- is then what was.
  pub fuzzy
      : (f : Features) (kinds bytes : List ℕ) (s : Signature) (count : ℕ) (entries : List ℕ) (reason : FuzzyReason)
      → (fit_of f kinds bytes s count entries ≡ fit.Fuzzy reason) ↔ FitsFuzzily f kinds bytes s count entries reason
  -- What a search finds: the first specific exact record of its list, else the first generic exact one, else the first fuzzy one of
  -- either kind with its reason, else none. How many records it examined is in HowLong.antt.
  pub search : (o : TcpObservation) (l : List ℕ) (s : Searched) → search_list o l ≡ Ok s → Outcome o l s.found
  -- Over a longer row of record numbers a search finds the same, or what has strictly less rank: specific exact, generic exact, fuzzy,
  -- none.
  pub longer_row
      : (o : TcpObservation) (l is js : List ℕ)
      → (search_over (is ++ js) o l ≡ search_over is o l) ⊎ (rank_of (search_over (is ++ js) o l) < rank_of (search_over is o l))
  -- What the program and the gateway answer of a SYN or SYN+ACK is the search for its observation. It is an answer exactly when the
  -- records are so, on any list, checked or not: this record, by number, label and kind, exactly when it is the first specific exact one,
  -- or the first generic exact one where no specific one is exact, or the first fuzzy one where none is exact; none exactly when no
  -- record fits.
  pub answered : (o : TcpObservation) (l : List ℕ) → FourOutcomes o l
  pub syn_answer
      : (mode : Mode) (p : List ℕ) (peer : Option ℕ) (l : List ℕ)
      → kind_read (read_in mode p peer) ≡ Ok (Some kind.Syn)
      → answer_in mode p peer l ≡ Ok (packet.Opening kind.Syn (searched (observation_read (read_in mode p peer)) l))
  pub syn_ack_answer
      : (mode : Mode) (p : List ℕ) (peer : Option ℕ) (l : List ℕ)
      → kind_read (read_in mode p peer) ≡ Ok (Some kind.SynAck)
      → answer_in mode p peer l ≡ Ok (packet.Opening kind.SynAck (searched (observation_read (read_in mode p peer)) l))
  -- "nothing" and a refusal stay what they are.
  pub nothing_answer
      : (mode : Mode) (p : List ℕ) (peer : Option ℕ) (l : List ℕ)
      → kind_read (read_in mode p peer) ≡ Ok None
      → answer_in mode p peer l ≡ Ok packet.Nothing
  pub refused_answer
      : (mode : Mode) (p : List ℕ) (peer : Option ℕ) (l : List ℕ) (r : PacketRefusal)
      → kind_read (read_in mode p peer) ≡ Err r
      → answer_in mode p peer l ≡ Err r
  -- No two of the three answers are one.
  pub exact_not_fuzzy : (a b : Hit) (r : FuzzyReason) → found.Exact a ≡ found.Fuzzy b r → ⊥
  pub exact_not_none : (a : Hit) → found.Exact a ≡ found.None → ⊥
  pub fuzzy_not_none : (a : Hit) (r : FuzzyReason) → found.Fuzzy a r ≡ found.None → ⊥
  -- Nothing of an answer is lost in its struct: the answer is read back from it.
  pub read_back
      : (mode : Mode) (p : List ℕ) (peer : ℕ) (l : List ℕ)
      → AllBytes p
      → AllBytes l
      → answer_from (struct_at mode p peer l) ≡ gateway_in mode p peer l
  -- No two different answers of the gateway share a struct.
  pub structs_differ
      : (a b : Mode) (p q : List ℕ) (m n : ℕ) (l k : List ℕ)
      → AllBytes p
      → AllBytes q
      → AllBytes l
      → AllBytes k
      → struct_at a p m l ≡ struct_at b q n k
      → gateway_in a p m l ≡ gateway_in b q n k
  -- The field `outcome` alone tells the three apart, and them from 4 and 5.
  pub outcome_field
      : (mode : Mode) (p : List ℕ) (peer : ℕ) (l : List ℕ) → (struct_at mode p peer l).outcome ≡ outcome_of (gateway_in mode p peer l)
  -- What an answer does not have is 0 in its struct, and so is what no answer has yet.
  pub zeros : (mode : Mode) (p : List ℕ) (peer : ℕ) (l : List ℕ) → Zeros (struct_at mode p peer l)
  -- The same four of the function that gateways are told to call, on any byte strings, also where the list was not checked.
  pub checked_read_back
      : (mode : Mode) (p : List ℕ) (peer : ℕ) (l : List ℕ)
      → AllBytes p
      → AllBytes l
      → answer_from (checked_struct mode p peer l) ≡ GatewayAnswer.answered (checked_answer mode p peer l)
  pub checked_structs_differ
      : (a b : Mode) (p q : List ℕ) (m n : ℕ) (l k : List ℕ)
      → AllBytes p
      → AllBytes q
      → AllBytes l
      → AllBytes k
      → checked_struct a p m l ≡ checked_struct b q n k
      → checked_answer a p m l ≡ checked_answer b q n k
  pub checked_outcome_field
      : (mode : Mode) (p : List ℕ) (peer : ℕ) (l : List ℕ)
      → (checked_struct mode p peer l).outcome ≡ outcome_of (GatewayAnswer.answered (checked_answer mode p peer l))
  pub checked_zeros : (mode : Mode) (p : List ℕ) (peer : ℕ) (l : List ℕ) → Zeros (checked_struct mode p peer l)
  -- And the zeros of what is said of a list.
  pub list_zeros : (l : List ℕ) → Zeros (list_struct l)
