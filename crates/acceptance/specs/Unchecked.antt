-- Public functions that do not refuse what document 01 refuses, for callers that have asked before or follow a function that has:
-- `search_checked`, `answer_packet`, `termread_answer_checked` and `packet_at`, the last three also as `.._in`, and `walk_options`. What
-- binds each to the function that refuses, and what it answers where that one does. docs/ANSWERS.md, "Exceptions", gives the grounds.
-- `Unchecked` is the statement.
use Rattle.std.specs.Prelude.{◌≡◌, Bool, true, false, cond, List, [], ◌∷◌, ◌↔◌, ℕ, suc, ◌<◌, ◌≤◌, length, take, Option, Some, None, Ok, Err}
use Rattle.quirks.specs.declared.QuirkSet.{QuirkSet}
use Rattle.quirks.specs.Named.{empty}
use Rattle.observable.specs.declared.TcpObservation.{TcpObservation}
use Rattle.syn_options.specs.declared.StopBefore.{StopBefore}
use Rattle.syn_options.specs.Walk.{walk_of, parsed_of, parse_options_raw}
use Rattle.syn_options.specs.Stops.{walk_options, read_options}
use Rattle.flow.specs.declared.Kind.TheVariants as kind
use Rattle.flow.specs.declared.Mode.{Mode}
use Rattle.flow.specs.Modes.{read_in}
use Rattle.flow.specs.Reading.{kind_read, observation_read}
use Rattle.refusals.specs.declared.ListRefusal.TheVariants as why
use Rattle.siglist.specs.List.{record_count, size_of, record_good, check_list}
use Rattle.found.specs.declared.Found.TheVariants as found
use Rattle.found.specs.declared.Searched.{Searched}
use Rattle.found.specs.Examined.{searched_in}
use Rattle.found.specs.Least.{numbers_from}
use Rattle.search.specs.Search.{search_over, searched, search_list}
use Rattle.packet_answer.specs.declared.PacketAnswer.TheVariants as packet
use Rattle.packet_answer.specs.Packet.{peer_of, answer_in}
use Rattle.bundle.specs.Bundle.{packet_count, list_of, packet_bytes, packet_peer, packet_end, check_bundle}
use Rattle.bundle.specs.Answers.{packet_lies, packet_at_in, start_of}
use Rattle.gateway.specs.Parts.{GatewayAnswer, plain, gateway_in}
use Rattle.acceptance.specs.Honesty.{struct_at, checked_struct, list_struct}

-- Of a row of record numbers, those of well-formed records; and all of a list: the list without its bad records.
unfoldable pub good_ones : List ℕ → List ℕ → List ℕ
good_ones l [] = []
good_ones l (i ∷ is) = cond (record_good l i) (i ∷ good_ones l is) (good_ones l is)

abbrev pub good_records : List ℕ → List ℕ
good_records l = good_ones l (numbers_from 0 (record_count l))

-- No record fits, since there are none.
abbrev pub nothing_there : Searched
nothing_there = record { found = found.None; examined = 0 }

-- `search_checked`, against `search` (refusals 11, 9 and 10).
pub record SearchUnchecked : Type 0 where
  -- What `search` does not refuse, both answer alike.
  pub same
      : (o : TcpObservation) (l : List ℕ)
      → o.olayout.count ≤ 40
      → check_list l ≡ (Ok tt)
      → search_list o l ≡ Ok (searched o l)
  -- 10: what is found is what the list without its bad records has, each by its number in the whole list, of which the count is, too.
  pub bad_record_lem : (o : TcpObservation) (l : List ℕ) → searched o l ≡ searched_in (size_of l) (search_over (good_records l) o l)
  -- 9 and 11: none; of what does not fit no record is examined, for too long a layout all are.
  pub does_not_fit : (o : TcpObservation) (l : List ℕ) → check_list l ≡ Err why.DoesNotFit → searched o l ≡ nothing_there
  pub layout_too_long
      : (o : TcpObservation) (l : List ℕ) → 40 < o.olayout.count → searched o l ≡ record { found = found.None; examined = size_of l }

-- `answer_packet` and `termread_answer_checked`, against `termread_answer` (refusals 9 and 10 before a packet's own), in every mode.
pub record PacketUnchecked : Type 0 where
  pub same
      : (mode : Mode) (p : List ℕ) (peer : ℕ) (l : List ℕ)
      → check_list l ≡ (Ok tt)
      → gateway_in mode p peer l ≡ GatewayAnswer.answered (answer_in mode p (peer_of peer) l)
  pub same_struct
      : (mode : Mode) (p : List ℕ) (peer : ℕ) (l : List ℕ)
      → check_list l ≡ (Ok tt)
      → checked_struct mode p peer l ≡ struct_at mode p peer l
  -- `termread_check_list` has outcome 0 of a good list and of no other, and every other field is then 0.
  pub checked : (l : List ℕ) → ((list_struct l).outcome ≡ 0) ↔ (check_list l ≡ (Ok tt))
  pub checked_good : (l : List ℕ) → check_list l ≡ (Ok tt) → list_struct l ≡ plain 0 0 0 0 0 0
  -- 10: as `search_checked`.
  pub syn
      : (mode : Mode) (p : List ℕ) (peer : Option ℕ) (l : List ℕ)
      → kind_read (read_in mode p peer) ≡ Ok (Some kind.Syn)
      → answer_in mode p peer l
      ≡ Ok (packet.Opening kind.Syn (searched_in (size_of l) (search_over (good_records l) (observation_read (read_in mode p peer)) l)))
  pub syn_ack
      : (mode : Mode) (p : List ℕ) (peer : Option ℕ) (l : List ℕ)
      → kind_read (read_in mode p peer) ≡ Ok (Some kind.SynAck)
      → answer_in mode p peer l
      ≡ Ok (packet.Opening kind.SynAck (searched_in (size_of l) (search_over (good_records l) (observation_read (read_in mode p peer)) l)))
  -- 9: none.
  pub syn_unfit
      : (mode : Mode) (p : List ℕ) (peer : Option ℕ) (l : List ℕ)
      → kind_read (read_in mode p peer) ≡ Ok (Some kind.Syn)
      → check_list l ≡ Err why.DoesNotFit
      → answer_in mode p peer l ≡ Ok (packet.Opening kind.Syn nothing_there)
  pub syn_ack_unfit
      : (mode : Mode) (p : List ℕ) (peer : Option ℕ) (l : List ℕ)
      → kind_read (read_in mode p peer) ≡ Ok (Some kind.SynAck)
      → check_list l ≡ Err why.DoesNotFit
      → answer_in mode p peer l ≡ Ok (packet.Opening kind.SynAck nothing_there)

-- `packet_at`, against `check_bundle` (refusals 12, 9 and 10), in every mode.
pub record BundleUnchecked : Type 0 where
  -- Of a bundle that is not refused: each packet's answer, and where the next starts.
  pub same
      : (mode : Mode) (b : List ℕ) (i : ℕ)
      → check_bundle b ≡ (Ok tt)
      → i < packet_count b
      → packet_at_in mode b (start_of b i)
      ≡ Some
      (record {
        answer = answer_in mode (packet_bytes b (start_of b i)) (packet_peer b (start_of b i)) (list_of b);
        end = start_of b (suc i);
      })
  -- Of any other: the same of a packet that lies within the bundle, as does the list; else that there is none.
  pub lies
      : (mode : Mode) (b : List ℕ) (at : ℕ)
      → packet_lies b at ≡ true
      → packet_at_in mode b at
      ≡ Some (record { answer = answer_in mode (packet_bytes b at) (packet_peer b at) (list_of b); end = packet_end b at })
  pub lies_not : (mode : Mode) (b : List ℕ) (at : ℕ) → packet_lies b at ≡ false → packet_at_in mode b at ≡ None

-- `walk_options`, against `parse_options_raw` and `read_options` (refusal 8).
pub record OptionsUnchecked : Type 0 where
  pub same
      : (s : List ℕ)
      → length s ≤ 40
      → parse_options_raw s ≡ Ok (parsed_of (walk_of true false empty s))
  -- 8: the walk of the first forty bytes.
  pub over_40 : (stop syn : Bool) (q : QuirkSet) (s : List ℕ) → walk_of stop syn q s ≡ walk_of stop syn q (take 40 s)
  pub walk_same
      : (stop : StopBefore) (syn : Bool) (q : QuirkSet) (s : List ℕ)
      → length s ≤ 40
      → read_options stop syn q s ≡ Ok (walk_options stop syn q s)
  pub walk_over_40
      : (stop : StopBefore) (syn : Bool) (q : QuirkSet) (s : List ℕ) → walk_options stop syn q s ≡ walk_options stop syn q (take 40 s)

pub record Unchecked : Type 0 where
  pub search : SearchUnchecked
  pub packet : PacketUnchecked
  pub bundle : BundleUnchecked
  pub options : OptionsUnchecked
