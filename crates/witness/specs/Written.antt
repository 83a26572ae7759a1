-- The answers as structs of numbers.
use Rattle.std.specs.Prelude.{◌≡◌, ℕ, ◌%◌, Bool, false, cond, List, replicate, Option, Some, None, Result, Ok, Err}
use Rattle.text.specs.Written.{written}
use Rattle.quirks.specs.Quirks.{bits_of}
use Rattle.tcp.specs.declared.IpVersion.{IpVersion}
use Rattle.tcp.specs.declared.IpVersion.TheVariants as version
use Rattle.tcp.specs.declared.PayloadSize.{PayloadSize}
use Rattle.tcp.specs.declared.PayloadSize.TheVariants as payload
use Rattle.ttl.specs.declared.Ttl.{Ttl}
use Rattle.ttl.specs.declared.Ttl.TheVariants as ttl
use Rattle.ttl.specs.Table.{form_of, entry_of}
use Rattle.ttl.specs.Ttl.{byte_of}
use Rattle.window_size.specs.declared.WindowMultiplier.{WindowMultiplier}
use Rattle.observable.specs.declared.TcpObservation.{TcpObservation}
use Rattle.observable.specs.Observation.{window_multiplier}
use Rattle.syn_options.specs.declared.ParsedTcpOptions.{ParsedTcpOptions}
use Rattle.syn_options.specs.Walk.{parse_options_raw}
use Rattle.flow.specs.declared.Kind.TheVariants as kind
use Rattle.flow.specs.declared.Reading.{Reading}
use Rattle.flow.specs.declared.Reading.TheVariants as reading
use Rattle.flow.specs.Reading.{observation_read}
use Rattle.flow.specs.Modes.{mode_of, read_in}
use Rattle.found.specs.declared.Found.{Found}
use Rattle.found.specs.declared.Found.TheVariants as found
use Rattle.found.specs.declared.Searched.{Searched}
use Rattle.refusals.specs.declared.OptionsTooLong.{OptionsTooLong}
use Rattle.refusals.specs.declared.PacketRefusal.{PacketRefusal}
use Rattle.refusals.specs.declared.Refusal.{Refusal}
use Rattle.refusals.specs.declared.Refusal.TheVariants as refusal
use Rattle.refusals.specs.Refusals.{number, packet_value, list_value, by_kind}
use Rattle.search.specs.declared.SearchRefusal.{SearchRefusal}
use Rattle.search.specs.Search.{as_refusal}
use Rattle.packet_answer.specs.Packet.{peer_of}
use Rattle.report.specs.Pages.{Page, progress_of, first_page_in, next_page_in}
use Rattle.report.specs.declared.Progress.{Progress}
use Rattle.witness.specs.declared.PlainObservation.{PlainObservation}
use Rattle.witness.specs.declared.PlainPacket.{PlainPacket}
use Rattle.witness.specs.declared.PlainOptions.{PlainOptions}
use Rattle.witness.specs.declared.PlainSearch.{PlainSearch}
use Rattle.witness.specs.declared.PlainProgress.{PlainProgress}
use Rattle.witness.specs.declared.PlainTtl.{PlainTtl}

-- ---- an observation

abbrev pub version_number : IpVersion → ℕ
version_number version.V4 = 4
version_number version.V6 = 6

abbrev pub ttl_hops : Ttl → ℕ
ttl_hops (ttl.Value v) = 0
ttl_hops (ttl.Distance v hops) = hops
ttl_hops (ttl.Guess v) = 0
ttl_hops (ttl.Bad v) = 0

-- A value that may be absent: whether it is there, and it, or 0.
abbrev pub has : {A : Type 0} → Option A → ℕ
has None = 0
has (Some x) = 1

abbrev pub or_zero : Option ℕ → ℕ
or_zero None = 0
or_zero (Some n) = n

abbrev pub payload_number : PayloadSize → ℕ
payload_number payload.Zero = 0
payload_number payload.NonZero = 1

abbrev pub multiple_number : Option WindowMultiplier → ℕ
multiple_number None = 0
multiple_number (Some m) = m.multiple

abbrev pub multiple_of : Option WindowMultiplier → ℕ
multiple_of None = 0
multiple_of (Some m) = cond m.of_mtu 2 1

unfoldable pub plain_observation : TcpObservation → Option WindowMultiplier → PlainObservation
plain_observation o m =
    record {
      count = o.olayout.count;
      quirks = bits_of o.quirks;
      mss = or_zero o.mss;
      wsize = o.wsize;
      peer_mss = or_zero o.peer_mss;
      tot_hdr = o.tot_hdr;
      multiple = multiple_number m;
      multiple_of = multiple_of m;
      version = version_number o.version;
      ttl_form = form_of o.ittl;
      ttl = byte_of o.ittl;
      hops = ttl_hops o.ittl;
      olen = o.olen;
      tos = o.tos;
      wscale = or_zero o.wscale;
      pclass = payload_number o.pclass;
      has_mss = has o.mss;
      has_wscale = has o.wscale;
      has_peer_mss = has o.peer_mss;
      kinds = o.olayout.kinds;
      bytes = o.olayout.bytes;
    }

-- ---- a TTL byte's entry in the table

unfoldable pub ttl_read : ℕ → PlainTtl
ttl_read t = record { class = (entry_of t).class; guess = (entry_of t).guess }

-- ---- a packet

abbrev pub answer_number : Result Reading PacketRefusal → ℕ
answer_number (Ok (reading.Opening kind.Syn o)) = 1
answer_number (Ok (reading.Opening kind.SynAck o)) = 2
answer_number (Ok reading.Nothing) = 3
answer_number (Err r) = 4

abbrev pub answer_refusal : Result Reading PacketRefusal → ℕ
answer_refusal (Ok r) = 0
answer_refusal (Err r) = number (refusal.Packet r)

abbrev pub answer_flags : Result Reading PacketRefusal → ℕ
answer_flags (Ok r) = 0
answer_flags (Err r) = packet_value r

-- Beside nothing and a refusal stands the empty observation.
unfoldable pub plain_packet : Result Reading PacketRefusal → Option WindowMultiplier → PlainPacket
plain_packet r m =
    record {
      observation = plain_observation (observation_read r) m;
      answer = answer_number r;
      refusal = answer_refusal r;
      flags = answer_flags r;
    }

unfoldable pub packet_read : ℕ → List ℕ → ℕ → PlainPacket
packet_read bits p peer =
    let read = read_in (mode_of bits) p (peer_of peer) in
    plain_packet read (window_multiplier (observation_read read))

-- ---- an option string

-- Beside a refusal all else is 0.
unfoldable pub plain_options : Result ParsedTcpOptions OptionsTooLong → PlainOptions
plain_options (Ok o) =
    record {
      count = o.olayout.count;
      mss = or_zero o.mss;
      refusal = 0;
      malformed = o.malformed;
      has_mss = has o.mss;
      has_wscale = has o.wscale;
      wscale = or_zero o.wscale;
      kinds = o.olayout.kinds;
      bytes = o.olayout.bytes;
    }
plain_options (Err r) =
    record {
      count = 0;
      mss = 0;
      refusal = number refusal.OptionsTooLong;
      malformed = false;
      has_mss = 0;
      has_wscale = 0;
      wscale = 0;
      kinds = replicate 40 0;
      bytes = replicate 40 0;
    }

unfoldable pub options_read : List ℕ → PlainOptions
options_read s = plain_options (parse_options_raw s)

-- ---- a search

abbrev pub kind_number : Bool → ℕ
kind_number generic = cond generic 1 0

-- An answer without a reason.
abbrev pub outcome_of : ℕ → ℕ → ℕ → ℕ → ℕ → PlainSearch
outcome_of outcome label number kind examined =
    record {
      added = 0;
      missing = 0;
      bad_record = 0;
      label = label;
      number = number;
      examined = examined;
      outcome = outcome;
      refusal = 0;
      far = 0;
      hops = 0;
      generic = kind;
    }

abbrev pub plain_found : Found → ℕ → PlainSearch
plain_found found.None examined = outcome_of 3 0 0 0 examined
plain_found (found.Exact hit) examined = outcome_of 1 hit.label hit.number (kind_number hit.generic) examined
plain_found (found.Fuzzy hit reason) examined =
    record {
      added = bits_of reason.added;
      missing = bits_of reason.missing;
      bad_record = 0;
      label = hit.label;
      number = hit.number;
      examined = examined;
      outcome = 2;
      refusal = 0;
      far = has reason.hops;
      hops = or_zero reason.hops;
      generic = kind_number hit.generic;
    }

unfoldable pub plain_searched : Searched → PlainSearch
plain_searched s = plain_found s.found s.examined

abbrev pub refused_search : ℕ → ℕ → PlainSearch
refused_search refusal bad =
    record {
      added = 0;
      missing = 0;
      bad_record = bad;
      label = 0;
      number = 0;
      examined = 0;
      outcome = 5;
      refusal = refusal;
      far = 0;
      hops = 0;
      generic = 0;
    }

-- The record that refusal 10 names; 0 of any other refusal.
abbrev pub bad_record : Refusal → ℕ
bad_record r = by_kind (λ why. 0) (λ why. list_value why % 4294967296) 0 r

unfoldable pub plain_search : Result Searched SearchRefusal → PlainSearch
plain_search (Ok s) = plain_searched s
plain_search (Err r) = refused_search (number (as_refusal r)) (bad_record (as_refusal r))

-- ---- the output of a bundle

abbrev pub plain_progress : Progress → PlainProgress
plain_progress p = record { filled = p.filled; left = p.left; at = p.at }

abbrev pub first_of : ℕ → List ℕ → Page
first_of bits b = first_page_in (mode_of bits) b false

abbrev pub next_of : ℕ → List ℕ → PlainProgress → Page
next_of bits b p = next_page_in (mode_of bits) b p.left p.at

-- A page's text was put at the start of the page, and the progress is the page's.
abbrev pub Paged : List ℕ → Page → PlainProgress → List ℕ → Type 0
Paged page p r page' = (r ≡ plain_progress (progress_of p)) × (page' ≡ written page 0 p.text)
