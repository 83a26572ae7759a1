-- Demand 2: the multiplier theorem, what an observation holds, the single fit, the table of values (Values.antt), and the readers that
-- the table shuts out.
-- That each public function's answer is its definition's stands in Demand1.antt. `Demand2` is the statement.
use Rattle.std.specs.Prelude.{◌≡◌, Bool, false, true, List, [], ◌∷◌, ◌↔◌, ℕ, ◌<◌, ◌≤◌, Option, Some, None, Result, Ok, Err}
use Rattle.basis.specs.Bytes.{byte_at}
use Rattle.tcp.specs.declared.IpVersion.{IpVersion}
use Rattle.quirks.specs.declared.Quirk.TheVariants as quirk
use Rattle.quirks.specs.Quirks.{contains, SubsetByPlaces}
use Rattle.quirks.specs.Named.{empty, seventeen}
use Rattle.ttl.specs.declared.Ttl.TheVariants as ttl
use Rattle.window_size.specs.declared.WindowMultiplier.{WindowMultiplier}
use Rattle.window_size.specs.Divisors.{SomeOf, is_v6, peer_size, twelve}
use Rattle.window_size.specs.Multiplier.{FirstOf, multiplier_of}
use Rattle.observable.specs.declared.TcpObservation.{TcpObservation}
use Rattle.observable.specs.Observation.{empty_observation}
use Rattle.syn_options.specs.Walk.{walk_of}
use Rattle.refusals.specs.declared.PacketRefusal.{PacketRefusal}
use Rattle.flow.specs.declared.Kind.TheVariants as kind
use Rattle.flow.specs.declared.Reading.{Reading}
use Rattle.flow.specs.Tcp.{known_peer}
use Rattle.flow.specs.Reading.{read_packet, kind_read, observation_read}
use Rattle.matching.specs.declared.SignatureFit.{SignatureFit}
use Rattle.matching.specs.declared.SignatureFit.TheVariants as fit
use Rattle.matching.specs.Fit.{features_of, fit_of}
use Rattle.sigrecord.specs.Record.{signature_of, entry_count, label_of, is_generic}
use Rattle.siglist.specs.List.{record_count, record_at, entries_of, check_list}
use Rattle.found.specs.declared.Hit.{Hit}
use Rattle.found.specs.declared.Found.{Found}
use Rattle.found.specs.declared.Found.TheVariants as found
use Rattle.found.specs.declared.Searched.{Searched}
use Rattle.search.specs.declared.SearchRefusal.{SearchRefusal}
use Rattle.search.specs.Search.{search_list}
use Rattle.acceptance.specs.Values.{Values, example_list, after}

-- ---- the multiplier

pub record MultiplierTheorem : Type 0 where
  -- "With a nonzero window and an MSS of at least 100, a multiplier is given exactly if one of the twelve divisors applies, is
  -- nonzero and divides the window."
  pub given_exactly_if
      : (window own headers : ℕ) (stamped : Bool) (version : IpVersion) (peer : Option ℕ)
      → 0 < window
      → 100 ≤ own
      → ((m : WindowMultiplier) × (multiplier_of window (Some own) headers stamped version peer ≡ Some m))
      ↔ SomeOf window (twelve own headers stamped (is_v6 version) (peer_size peer))
  -- "It is then the window over the first such", a multiple of the MTU exactly where that divisor is one of the MTU's.
  pub over_the_first
      : (window own headers : ℕ) (stamped : Bool) (version : IpVersion) (peer : Option ℕ)
      → 0 < window
      → 100 ≤ own
      → (m : WindowMultiplier)
      → multiplier_of window (Some own) headers stamped version peer ≡ Some m
      → FirstOf window (twelve own headers stamped (is_v6 version) (peer_size peer)) m
  -- "Window 0, MSS absent or MSS under 100: none."
  pub window_0
      : (own : Option ℕ) (headers : ℕ) (stamped : Bool) (version : IpVersion) (peer : Option ℕ)
      → multiplier_of 0 own headers stamped version peer ≡ None
  pub mss_absent
      : (window headers : ℕ) (stamped : Bool) (version : IpVersion) (peer : Option ℕ)
      → multiplier_of window None headers stamped version peer ≡ None
  pub mss_under_100
      : (window own headers : ℕ) (stamped : Bool) (version : IpVersion) (peer : Option ℕ)
      → own < 100
      → multiplier_of window (Some own) headers stamped version peer ≡ None

-- ---- the observation

-- What holds of every reading; of a refusal and "nothing" `observation_read` gives the empty observation, of which it holds too.
pub record TheObservation (p : List ℕ) (peer : Option ℕ) : Type 0 where
  -- "The reader never gives Guess."
  pub no_guess : (t : ℕ) → (observation_read (read_packet p peer)).ittl ≡ ttl.Guess t → ⊥
  -- "A layout has at most 40 entries"; "two byte arrays of 40 and a count, entries past it 0"
  pub at_most_40 : (observation_read (read_packet p peer)).olayout.count ≤ 40
  pub kinds_past_lem
      : (i : ℕ)
      → (observation_read (read_packet p peer)).olayout.count ≤ i
      → byte_at (observation_read (read_packet p peer)).olayout.kinds i ≡ 0
  pub bytes_past
      : (i : ℕ)
      → (observation_read (read_packet p peer)).olayout.count ≤ i
      → byte_at (observation_read (read_packet p peer)).olayout.bytes i ≡ 0
  -- "Seventeen bits": no other is shown
  pub of_seventeen : SubsetByPlaces (observation_read (read_packet p peer)).quirks seventeen
  -- "`OptBad` is never set, `PeerTimestampNonZero` on a SYN only."
  pub no_opt_bad : contains (observation_read (read_packet p peer)).quirks quirk.OptBad ≡ false
  pub peer_stamp_lem
      : contains (observation_read (read_packet p peer)).quirks quirk.PeerTimestampNonZero ≡ true
      → kind_read (read_packet p peer) ≡ Ok (Some kind.Syn)
  -- "only a SYN+ACK's observation takes [the peer's MSS]; a SYN's has none", "A zero peer MSS counts as absent": and no other reading
  -- depends on it.
  pub syn_has_none : kind_read (read_packet p peer) ≡ Ok (Some kind.Syn) → (observation_read (read_packet p peer)).peer_mss ≡ None
  pub syn_ack_takes
      : kind_read (read_packet p peer) ≡ Ok (Some kind.SynAck)
      → (observation_read (read_packet p peer)).peer_mss ≡ known_peer peer
  pub no_other_takes
      : (other : Option ℕ)
      → (kind_read (read_packet p peer) ≡ Ok (Some kind.SynAck) → ⊥)
      → read_packet p peer ≡ read_packet p other

-- ---- the single fit

-- What a search finds in one record, by its label, number and kind and its fit.
abbrev pub of_one : Hit → SignatureFit → Found
of_one hit fit.None = found.None
of_one hit fit.Exact = found.Exact hit
of_one hit (fit.Fuzzy reason) = found.Fuzzy hit reason

-- "a single fit is the search of a list of one record"
abbrev pub SingleFit : Type 0
SingleFit =
    (o : TcpObservation) (l : List ℕ)
    → o.olayout.count ≤ 40
    → check_list l ≡ (Ok tt)
    → record_count l ≡ 1
    → search_list o l
    ≡ after 1
    (of_one (record { label = label_of (record_at l 0); number = 0; generic = is_generic (record_at l 0) })
    (fit_of (features_of o) o.olayout.kinds o.olayout.bytes (signature_of (record_at l 0)) (entry_count (record_at l 0))
    (entries_of l (record_at l 0))))

-- ---- what is shut out

pub record ShutOut : Type 0 where
  -- "a reader that refuses all (packet A)"
  pub refuses_all : ((p : List ℕ) → (r : PacketRefusal) × (kind_read (read_packet p None) ≡ Err r)) → ⊥
  -- "one that says none always (A is exact)"
  pub none_always
      : ((p : List ℕ)
      → (n : ℕ) × (search_list (observation_read (read_packet p None)) example_list ≡ after n found.None))
      → ⊥
  -- "one that hands back an empty observation untouched"
  pub untouched : ((p : List ℕ) → (observation_read (read_packet p None)) ≡ empty_observation) → ⊥
  -- "a walk that reads the first option truly and the rest for show (a second MSS would not replace the first)"
  pub second_mss : (walk_of false true empty (2 ∷ 4 ∷ 5 ∷ 0xb4 ∷ 2 ∷ 4 ∷ 2 ∷ 0x18 ∷ [])).seen.mss ≡ Some 536
  -- any reader and any search that answer a constant
  pub constant_reader : (c : Result Reading PacketRefusal) → ((p : List ℕ) (peer : Option ℕ) → read_packet p peer ≡ c) → ⊥
  pub constant_search : (c : Result Searched SearchRefusal) → ((o : TcpObservation) (l : List ℕ) → search_list o l ≡ c) → ⊥

pub record Demand2 : Type 0 where
  pub multiplier : MultiplierTheorem
  pub observation : (p : List ℕ) (peer : Option ℕ) → TheObservation p peer
  pub single : SingleFit
  pub values : Values
  pub shut_out : ShutOut
