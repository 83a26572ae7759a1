-- Document 01, "Values to reproduce": each line marked P, as a case of the definitions; and the union of module 1. One record a subject;
-- `Values` is the table.
use Rattle.std.specs.Prelude.{◌≡◌, true, false, List, [], ◌∷◌, ◌++◌, ℕ, length, replicate, set, Some, None, Result, Ok, is_ok, IsOkAnd}
use Rattle.basis.specs.Bytes.{byte_at}
use Rattle.quirks.specs.declared.Quirk.TheVariants as quirk
use Rattle.quirks.specs.Quirks.{set_of, bits_of, contains}
use Rattle.quirks.specs.Named.{display_order, empty, seventeen}
use Rattle.tcp.specs.declared.PayloadSize.TheVariants as payload
use Rattle.syn_options.specs.Walk.{walk_of, parse_options_raw}
use Rattle.observable.specs.declared.TcpObservation.{TcpObservation}
use Rattle.flow.specs.declared.Kind.TheVariants as kind
use Rattle.flow.specs.declared.Reading.TheVariants as reading
use Rattle.flow.specs.Reading.{read_packet, refusal_of, observation_read}
use Rattle.distances.specs.declared.TtlFit.TheVariants as ttlfit
use Rattle.sigrecord.specs.declared.WindowSize.TheVariants as wsize
use Rattle.distances.specs.DistanceGates.{window_matches}
use Rattle.distances.specs.Distances.{initial_ttl, ttl_fit}
use Rattle.found.specs.declared.Hit.{Hit}
use Rattle.found.specs.declared.Found.{Found}
use Rattle.found.specs.declared.Found.TheVariants as found
use Rattle.found.specs.declared.Searched.{Searched}
use Rattle.search.specs.declared.SearchRefusal.{SearchRefusal}
use Rattle.siglist.specs.List.{check_list}
use Rattle.search.specs.Search.{search_list}
use Rattle.tcp.specs.declared.IpVersion.TheVariants as version
use Rattle.ttl.specs.declared.Ttl.TheVariants as ttl
use Rattle.ttl.specs.Ttl.{reading_of}
use Rattle.window_size.specs.Multiplier.{multiplier_of}
use Rattle.report.specs.Pages.{output_of}

-- Module 1: "Seventeen bits as listed there; their union is 0x1F03F03F."
pub record QuirkValues : Type 0 where
  pub seventeen_quirks : length display_order ≡ 17
  pub union : bits_of seventeen ≡ 0x1F03F03F

-- "TTL 0 Bad(0); 1, 33, 65, 97, 224 Value; 2, 34, 98, 225 Distance 30."
pub record TtlValues : Type 0 where
  pub ttl_0 : reading_of 0 ≡ ttl.Bad 0
  pub ttl_1 : reading_of 1 ≡ ttl.Value 1
  pub ttl_33 : reading_of 33 ≡ ttl.Value 33
  pub ttl_65 : reading_of 65 ≡ ttl.Value 65
  pub ttl_97 : reading_of 97 ≡ ttl.Value 97
  pub ttl_224 : reading_of 224 ≡ ttl.Value 224
  pub ttl_2 : reading_of 2 ≡ ttl.Distance 2 30
  pub ttl_34 : reading_of 34 ≡ ttl.Distance 34 30
  pub ttl_98 : reading_of 98 ≡ ttl.Distance 98 30
  pub ttl_225 : reading_of 225 ≡ ttl.Distance 225 30

-- "window 5840, MSS 1460: 4 of MSS. 1500, 1460, v4: 1 of MTU. MSS 99: none."
-- "window 24, MSS 1460, peer 12, v4, tot_hdr 44: 2 of MSS; window 25: none (12 - 12 is passed over)."
-- Where a line names no header size, timestamp or peer: 40 bytes, none and none.
pub record WindowValues : Type 0 where
  pub four_of_mss
      : multiplier_of 5840 (Some 1460) 40 false version.V4 None
      ≡ Some (record { multiple = 4; of_mtu = false })
  pub one_of_mtu
      : multiplier_of 1500 (Some 1460) 40 false version.V4 None
      ≡ Some (record { multiple = 1; of_mtu = true })
  pub mss_under_100 : multiplier_of 5840 (Some 99) 40 false version.V4 None ≡ None
  pub two_of_peer
      : multiplier_of 24 (Some 1460) 44 false version.V4 (Some 12)
      ≡ Some (record { multiple = 2; of_mtu = false })
  pub zero_passed_over : multiplier_of 25 (Some 1460) 44 false version.V4 (Some 12) ≡ None

-- "scale 15 shows ExcessiveWindowScaling, 14 not."
-- "options 00 00 01 00: Eol(3) with trailing nonzero."
-- "02 04 05: the walk gives layout MSS, no MSS number; parse_options_raw gives an empty layout, malformed."
pub record OptionValues : Type 0 where
  pub scale_15 : contains (walk_of false true empty (3 ∷ 3 ∷ 15 ∷ [])).seen.quirks quirk.ExcessiveWindowScaling ≡ true
  pub scale_14 : contains (walk_of false true empty (3 ∷ 3 ∷ 14 ∷ [])).seen.quirks quirk.ExcessiveWindowScaling ≡ false
  pub eol_count : (walk_of false true empty (0 ∷ 0 ∷ 1 ∷ 0 ∷ [])).olayout.count ≡ 1
  pub eol_kind : byte_at (walk_of false true empty (0 ∷ 0 ∷ 1 ∷ 0 ∷ [])).olayout.kinds 0 ≡ 0
  pub eol_left : byte_at (walk_of false true empty (0 ∷ 0 ∷ 1 ∷ 0 ∷ [])).olayout.bytes 0 ≡ 3
  pub eol_trailing
      : contains (walk_of false true empty (0 ∷ 0 ∷ 1 ∷ 0 ∷ [])).seen.quirks quirk.TrailinigNonZero ≡ true
  pub cut_mss_count : (walk_of false true empty (2 ∷ 4 ∷ 5 ∷ [])).olayout.count ≡ 1
  pub cut_mss_kind : byte_at (walk_of false true empty (2 ∷ 4 ∷ 5 ∷ [])).olayout.kinds 0 ≡ 2
  pub cut_mss_number : (walk_of false true empty (2 ∷ 4 ∷ 5 ∷ [])).seen.mss ≡ None
  pub raw_cut_mss_answer : is_ok (parse_options_raw (2 ∷ 4 ∷ 5 ∷ [])) ≡ true
  pub raw_cut_mss_count : IsOkAnd (parse_options_raw (2 ∷ 4 ∷ 5 ∷ [])) (λ told. told.olayout.count ≡ 0)
  pub raw_cut_mss_malformed : IsOkAnd (parse_options_raw (2 ∷ 4 ∷ 5 ∷ [])) (λ told. told.malformed ≡ true)

-- Packet A of the whole example: 20 bytes of IPv4, 20 of TCP, one MSS option of 1460.
abbrev pub packet_a : List ℕ
packet_a =
    0x45 ∷ 0 ∷ 0 ∷ 0x2c ∷ 0 ∷ 0 ∷ 0x40 ∷ 0 ∷ 0x40 ∷ 6 ∷ 0 ∷ 0
    ∷ 0 ∷ 0 ∷ 0 ∷ 0 ∷ 0 ∷ 0 ∷ 0 ∷ 0
    ∷ 0 ∷ 1 ∷ 0 ∷ 2 ∷ 0 ∷ 0 ∷ 0 ∷ 1 ∷ 0 ∷ 0 ∷ 0 ∷ 0 ∷ 0x60 ∷ 2 ∷ 0x16 ∷ 0xd0 ∷ 0 ∷ 0 ∷ 0 ∷ 0
    ∷ 2 ∷ 4 ∷ 5 ∷ 0xb4 ∷ []

-- What one would write down by hand of packet A: TTL 64 at no distance, MSS 1460, window 5840, 44 header bytes, layout MSS, df.
abbrev pub observation_a : TcpObservation
observation_a =
    record {
      version = version.V4;
      ittl = ttl.Distance 64 0;
      olen = 0;
      mss = Some 1460;
      wsize = 5840;
      tot_hdr = 44;
      wscale = None;
      olayout = record { kinds = 2 ∷ replicate 39 0; bytes = replicate 40 0; count = 1 };
      quirks = set_of 0x2;
      pclass = payload.Zero;
      peer_mss = None;
      tos = 0;
    }

pub record PacketValues : Type 0 where
  pub packet_a_lem : read_packet packet_a None ≡ Ok (reading.Opening kind.Syn observation_a)
  -- "C is 45 00 00": "refused 2"
  pub packet_c : refusal_of (read_packet (0x45 ∷ 0 ∷ 0 ∷ []) None) ≡ 2

-- "signature 64: observed 29 in range (35), 28 out (36), 65 out with hop distance 0. Bad(64): 65 rejects, 0 gives 64."
-- "Distance(200,100) starts at 255."
-- "window 0 fits modulus 8, not modulus 0."
pub record FitValues : Type 0 where
  pub ttl_29 : ttl_fit 29 (ttl.Value 64) ≡ Some (ttlfit.InRange 35)
  pub ttl_28 : ttl_fit 28 (ttl.Value 64) ≡ Some (ttlfit.OutOfRange 36)
  pub ttl_65 : ttl_fit 65 (ttl.Value 64) ≡ Some (ttlfit.OutOfRange 0)
  pub bad_65 : ttl_fit 65 (ttl.Bad 64) ≡ None
  pub bad_0 : ttl_fit 0 (ttl.Bad 64) ≡ Some (ttlfit.InRange 64)
  pub starts_at_255 : initial_ttl (ttl.Distance 200 100) ≡ 255
  pub modulus_8 : window_matches 0 (wsize.Mod 8) None ≡ true
  pub modulus_0 : window_matches 0 (wsize.Mod 0) None ≡ false

-- The list of the whole example: one record, any version, Value 64, window MSS x 4, layout MSS, quirks 0x2, payload empty, label 7.
abbrev pub example_list : List ℕ
example_list =
    0 ∷ 1 ∷ 0 ∷ 8 ∷ 0 ∷ 1 ∷ 0 ∷ 32
    ∷ 0 ∷ 0 ∷ 64 ∷ 0 ∷ 0 ∷ 0 ∷ 0 ∷ 0 ∷ 3 ∷ 0 ∷ 4 ∷ 0 ∷ 0 ∷ 0 ∷ 0 ∷ 0 ∷ 0 ∷ 2 ∷ 0 ∷ 0 ∷ 1 ∷ 0 ∷ 0 ∷ 7
    ∷ 2 ∷ 0 ∷ []

-- Its record: label 7, the list's first.
abbrev pub the_record : Hit
the_record = record { label = 7; number = 0; generic = false }

-- What a search answers that examined so many records.
abbrev pub after : ℕ → Found → Result Searched SearchRefusal
after n x = Ok (record { found = x; examined = n })

-- Packet A, packet B (A with TTL byte 1c) and an observation of another window: the three answers.
pub record ThreeAnswers : Type 0 where
  pub list_good : check_list example_list ≡ (Ok tt)
  pub exact : search_list (observation_read (read_packet packet_a None)) example_list ≡ after 1 (found.Exact the_record)
  pub fuzzy
      : search_list (observation_read (read_packet (set packet_a 8 0x1c) None)) example_list
      ≡ after 1 (found.Fuzzy the_record (record { hops = Some 36; added = set_of 0; missing = set_of 0 }))
  pub none : search_list (observation_read (read_packet (set packet_a 34 0x17) None)) example_list ≡ after 1 found.None

-- "The whole example", as a bundle: its header, the list behind it, then A, B (A with TTL byte 1c) and C, peer absent; and its four lines.
abbrev pub example_bundle : List ℕ
example_bundle =
    0 ∷ 3 ∷ 0 ∷ 42 ∷ 0 ∷ 34 ∷ 0 ∷ 8 ∷ []
    ++ example_list
    ++ (0 ∷ 0 ∷ 0 ∷ 44 ∷ packet_a)
    ++ (0 ∷ 0 ∷ 0 ∷ 44 ∷ set packet_a 8 0x1c)
    ++ (0 ∷ 0 ∷ 0 ∷ 3 ∷ 0x45 ∷ 0 ∷ 0 ∷ [])

-- "packets 3", "syn exact 7", "syn fuzzy 7", "refused 2"
abbrev pub example_lines : List ℕ
example_lines =
    112 ∷ 97 ∷ 99 ∷ 107 ∷ 101 ∷ 116 ∷ 115 ∷ 32 ∷ 51 ∷ 10
    ∷ 115 ∷ 121 ∷ 110 ∷ 32 ∷ 101 ∷ 120 ∷ 97 ∷ 99 ∷ 116 ∷ 32 ∷ 55 ∷ 10
    ∷ 115 ∷ 121 ∷ 110 ∷ 32 ∷ 102 ∷ 117 ∷ 122 ∷ 122 ∷ 121 ∷ 32 ∷ 55 ∷ 10
    ∷ 114 ∷ 101 ∷ 102 ∷ 117 ∷ 115 ∷ 101 ∷ 100 ∷ 32 ∷ 50 ∷ 10 ∷ []

pub record WholeExample : Type 0 where
  pub lines : output_of example_bundle ≡ example_lines

pub record Values : Type 0 where
  pub quirks : QuirkValues
  pub ttl : TtlValues
  pub window : WindowValues
  pub options : OptionValues
  pub packet : PacketValues
  pub fit : FitValues
  pub search : ThreeAnswers
  pub whole : WholeExample
