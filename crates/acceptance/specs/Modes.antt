-- Document 02, Wish 2: "we want a strict entry beside the present one that sets these aside .. demand 3 holds for both", and Wish 5: "The
-- strict entry of Wish 2 now stops before the first such option, shows `OptBad` and goes on with what it has; from here it equals the old
-- entry only on sound options." What is said of a packet's answers in the other files is said of every mode; here: what the modes are to
-- each other. When 14 is given stands with the other rows (Refusals.antt), demand 3 in Demand3.antt. `Modes` is the statement.
use Rattle.std.specs.Prelude.{◌≡◌, Bool, true, false, List, [], ◌∷◌, ◌++◌, ◌↔◌, ℕ, ◌*◌, ◌%◌, ◌<◌, ◌≤◌, set, take, Option, None, Ok, Err}
use Rattle.std.specs.Prelude.{Some}
use Rattle.basis.specs.Bytes.{byte_at}
use Rattle.quirks.specs.declared.Quirk.TheVariants as quirk
use Rattle.quirks.specs.Quirks.{bits_of, contains, SubsetByPlaces}
use Rattle.quirks.specs.Named.{seventeen}
use Rattle.refusals.specs.declared.ListRefusal.{ListRefusal}
use Rattle.refusals.specs.declared.PacketRefusal.TheVariants as refusal
use Rattle.observable.specs.declared.TcpObservation.{TcpObservation}
use Rattle.flow.specs.declared.Mode.{Mode}
use Rattle.flow.specs.declared.Kind.TheVariants as kind
use Rattle.flow.specs.Modes.{mode_of, plain_mode, strict_mode, read_in}
use Rattle.flow.specs.Reading.{read_packet, refusal_of, kind_read, observation_read}
use Rattle.siglist.specs.List.{check_list}
use Rattle.packet_answer.specs.Packet.{peer_of, answer_of, answer_in}
use Rattle.bundle.specs.Bundle.{packet_count, packet_bytes, packet_peer, check_bundle}
use Rattle.bundle.specs.Answers.{start_of, bundle_answer}
use Rattle.report.specs.Pages.{output_of_input, output_of_input_in}
use Rattle.gateway.specs.Parts.{GatewayAnswer, gateway_answer, gateway_in}
use Rattle.acceptance.specs.Values.{packet_a}
use Rattle.acceptance.specs.NotFree.{over_ipv6}
use Rattle.acceptance.specs.OneWalk.{SoundOptions}

-- ---- the plain mode is document 01's

pub record PlainMode : Type 0 where
  pub reader : (p : List ℕ) (peer : Option ℕ) → read_in plain_mode p peer ≡ read_packet p peer
  pub answer : (p : List ℕ) (peer : Option ℕ) (l : List ℕ) → answer_in plain_mode p peer l ≡ answer_of p peer l
  pub gateway : (p : List ℕ) (peer : ℕ) (l : List ℕ) → gateway_in plain_mode p peer l ≡ gateway_answer p peer l
  -- "A packet meets 1 to 7 only"
  pub no_14 : (p : List ℕ) (peer : Option ℕ) → refusal_of (read_packet p peer) ≡ 14 → ⊥

-- ---- the strict mode

-- A packet is set aside: the strict reader refuses it by 14.
abbrev pub SetAside : List ℕ → Option ℕ → Type 0
SetAside p peer = refusal_of (read_in strict_mode p peer) ≡ 14

-- A packet that is neither a SYN nor a SYN+ACK, whose options no reader looks at.
pub record NoOpening (p : List ℕ) (peer : Option ℕ) : Type 0 where
  pub no_syn : kind_read (read_packet p peer) ≡ Ok (Some kind.Syn) → ⊥
  pub no_syn_ack : kind_read (read_packet p peer) ≡ Ok (Some kind.SynAck) → ⊥

-- The strict mode finds nothing wrong: the packet is not set aside, and its options are sound or not looked at.
pub data NothingWrong (p : List ℕ) (peer : Option ℕ) : Type 0 where
  sound : (SetAside p peer → ⊥) → SoundOptions p → NothingWrong p peer
  no_opening : (SetAside p peer → ⊥) → NoOpening p peer → NothingWrong p peer

-- All that an observation holds beside what the walk over the options says.
pub record SameBesideOptions (o x : TcpObservation) : Type 0 where
  pub version : o.version ≡ x.version
  pub ittl : o.ittl ≡ x.ittl
  pub olen : o.olen ≡ x.olen
  pub wsize : o.wsize ≡ x.wsize
  pub tot_hdr : o.tot_hdr ≡ x.tot_hdr
  pub pclass : o.pclass ≡ x.pclass
  pub peer_mss : o.peer_mss ≡ x.peer_mss
  pub tos : o.tos ≡ x.tos

-- The reader, the answer against a list and the gateway's: a packet that is set aside gets 14 and nothing else. A packet of which nothing
-- is wrong gets what it gets in the plain mode, refusals 1 to 7 included, and the reader gives that to no other. The wish's "only on sound
-- options" is said of a SYN and a SYN+ACK: what is neither has the same answer in both modes whatever its options.
pub record StrictMode : Type 0 where
  pub reader_aside : (p : List ℕ) (peer : Option ℕ) → SetAside p peer → read_in strict_mode p peer ≡ Err refusal.DataOffset
  pub reader : (p : List ℕ) (peer : Option ℕ) → (read_in strict_mode p peer ≡ read_packet p peer) ↔ NothingWrong p peer
  -- A packet that is not set aside is a SYN, a SYN+ACK, neither, or refused by 1 to 7, as in the plain mode,
  pub same_kind
      : (p : List ℕ) (peer : Option ℕ)
      → (SetAside p peer → ⊥)
      → kind_read (read_in strict_mode p peer) ≡ kind_read (read_packet p peer)
  -- and its observation is the same beside the options: payload class and `tot_hdr` stay those of the data offset.
  pub beside_options
      : (p : List ℕ) (peer : Option ℕ)
      → (SetAside p peer → ⊥)
      → SameBesideOptions (observation_read (read_in strict_mode p peer)) (observation_read (read_packet p peer))
  -- A SYN or SYN+ACK that is not set aside shows `OptBad` if its options are damaged, which the plain mode never does.
  pub shows_bad
      : (p : List ℕ) (peer : Option ℕ)
      → (SetAside p peer → ⊥)
      → (NoOpening p peer → ⊥)
      → (SoundOptions p → ⊥)
      → contains (observation_read (read_in strict_mode p peer)).quirks quirk.OptBad ≡ true
  pub plain_shows_none : (p : List ℕ) (peer : Option ℕ) → contains (observation_read (read_packet p peer)).quirks quirk.OptBad ≡ false
  pub answer_aside
      : (p : List ℕ) (peer : Option ℕ) (l : List ℕ) → SetAside p peer → answer_in strict_mode p peer l ≡ Err refusal.DataOffset
  pub answer_else
      : (p : List ℕ) (peer : Option ℕ) (l : List ℕ) → NothingWrong p peer → answer_in strict_mode p peer l ≡ answer_of p peer l
  pub gateway_aside
      : (p : List ℕ) (peer : ℕ) (l : List ℕ)
      → check_list l ≡ (Ok tt)
      → SetAside p (peer_of peer)
      → gateway_in strict_mode p peer l ≡ GatewayAnswer.answered (Err refusal.DataOffset)
  pub gateway_else
      : (p : List ℕ) (peer : ℕ) (l : List ℕ) → NothingWrong p (peer_of peer) → gateway_in strict_mode p peer l ≡ gateway_answer p peer l
  -- the peer's MSS has no part in it
  pub any_peer : (p : List ℕ) (peer other : Option ℕ) → SetAside p peer → SetAside p other
  -- a bundle of which no packet has anything wrong has the plain output, byte by byte
  pub bundle_else
      : (b : List ℕ) (longer : Bool)
      → ((i : ℕ) → i < packet_count b → NothingWrong (packet_bytes b (start_of b i)) (packet_peer b (start_of b i)))
      → output_of_input_in strict_mode b longer ≡ output_of_input b longer
  -- an observation of any mode: "A layout has at most 40 entries", "entries past it 0", no quirk but the seventeen
  pub at_most_40 : (mode : Mode) (p : List ℕ) (peer : Option ℕ) → (observation_read (read_in mode p peer)).olayout.count ≤ 40
  pub kinds_past_lem
      : (mode : Mode) (p : List ℕ) (peer : Option ℕ) (i : ℕ)
      → (observation_read (read_in mode p peer)).olayout.count ≤ i
      → byte_at (observation_read (read_in mode p peer)).olayout.kinds i ≡ 0
  pub bytes_past
      : (mode : Mode) (p : List ℕ) (peer : Option ℕ) (i : ℕ)
      → (observation_read (read_in mode p peer)).olayout.count ≤ i
      → byte_at (observation_read (read_in mode p peer)).olayout.bytes i ≡ 0
  pub of_seventeen : (mode : Mode) (p : List ℕ) (peer : Option ℕ) → SubsetByPlaces (observation_read (read_in mode p peer)).quirks seventeen

-- A list and a bundle are checked alike in every mode, before any packet.
pub record InEveryMode : Type 0 where
  pub list_refused_lem
      : (mode : Mode) (p : List ℕ) (peer : ℕ) (l : List ℕ) (r : ListRefusal)
      → check_list l ≡ Err r
      → gateway_in mode p peer l ≡ GatewayAnswer.list_refused_lem r
  pub bundle_check_lem : (mode : Mode) (b : List ℕ) → (bundle_answer mode b).check ≡ check_bundle b

-- A mode as a number: bit 0 is strict.
pub record ModeNumbers : Type 0 where
  pub even : (bits : ℕ) → bits % 2 ≡ 0 → mode_of bits ≡ plain_mode
  pub odd : (bits : ℕ) → bits % 2 ≡ 1 → mode_of bits ≡ strict_mode

-- ---- values

-- Packet A (its TCP part is bytes 20 to 43; the data offset is the high half of byte 32, the flags are byte 33) with another data offset.
abbrev pub with_offset : ℕ → List ℕ
with_offset words = set packet_a 32 (16 * words)

pub record StrictValues : Type 0 where
  -- under 5, and 5
  pub offset_4 : SetAside (with_offset 4) None
  pub offset_5 : read_in strict_mode (with_offset 5) None ≡ read_packet (with_offset 5) None
  -- as long as the TCP part, and a word longer
  pub as_long : read_in strict_mode packet_a None ≡ read_packet packet_a None
  pub word_longer : SetAside (with_offset 7) None
  pub six_word_longer : SetAside (set over_ipv6 52 0x70) None
  -- bytes behind the IP length are not in the TCP part
  pub behind_length : SetAside (with_offset 7 ++ 0 ∷ 0 ∷ 0 ∷ 0 ∷ []) None
  -- nor is what the capture cut: packet A without its last byte, which is sound where it was sent
  pub cut : SetAside (take 43 packet_a) None
  pub cut_plain : kind_read (read_packet (take 43 packet_a) None) ≡ Ok (Some kind.Syn)
  -- before "nothing": an ACK
  pub an_ack : SetAside (set (with_offset 4) 33 0x10) None
  pub an_ack_plain : (kind_read (read_packet (set (with_offset 4) 33 0x10) None)) ≡ Ok None
  -- before 7: no flag at all
  pub no_flag : SetAside (set (with_offset 4) 33 0) None
  pub no_flag_plain : refusal_of (read_packet (set (with_offset 4) 33 0) None) ≡ 7
  -- after 6: a TCP part of 19 bytes
  pub short_part : refusal_of (read_in strict_mode (take 39 (with_offset 4)) None) ≡ 6

-- Packet A with other bytes where its options are (40 to 43).
abbrev pub with_options : List ℕ → List ℕ
with_options s = take 40 packet_a ++ s

pub record DamageValues : Type 0 where
  -- a length byte of 0, and one that runs past the end: nothing of the option is taken, and OptBad is shown
  pub length_0 : (observation_read (read_in strict_mode (with_options (2 ∷ 0 ∷ 5 ∷ 0xb4 ∷ [])) None)).olayout.count ≡ 0
  pub length_0_bits : bits_of (observation_read (read_in strict_mode (with_options (2 ∷ 0 ∷ 5 ∷ 0xb4 ∷ [])) None)).quirks ≡ 0x10000002
  pub past_the_end : bits_of (observation_read (read_in strict_mode (with_options (1 ∷ 2 ∷ 4 ∷ 5 ∷ [])) None)).quirks ≡ 0x10000002
  -- a length byte of 1: what stands before it is kept
  pub before_it : (observation_read (read_in strict_mode (with_options (1 ∷ 3 ∷ 1 ∷ 7 ∷ [])) None)).olayout.count ≡ 1
  -- no end-of-options behind it: `01 02 00 00` has one entry, in the plain mode three
  pub no_end : (observation_read (read_in strict_mode (with_options (1 ∷ 2 ∷ 0 ∷ 0 ∷ [])) None)).olayout.count ≡ 1
  pub no_end_plain : (observation_read (read_packet (with_options (1 ∷ 2 ∷ 0 ∷ 0 ∷ [])) None)).olayout.count ≡ 3
  -- a length byte behind an end-of-options is none
  pub behind_end
      : read_in strict_mode (with_options (1 ∷ 0 ∷ 2 ∷ 0 ∷ [])) None ≡ read_packet (with_options (1 ∷ 0 ∷ 2 ∷ 0 ∷ [])) None
  -- an ACK is nothing in both, whatever its options
  pub an_ack
      : read_in strict_mode (set (with_options (2 ∷ 0 ∷ 0 ∷ 0 ∷ [])) 33 0x10) None
      ≡ read_packet (set (with_options (2 ∷ 0 ∷ 0 ∷ 0 ∷ [])) 33 0x10) None

pub record Modes : Type 0 where
  pub plain : PlainMode
  pub strict : StrictMode
  pub every : InEveryMode
  pub numbers : ModeNumbers
  pub values : StrictValues
  pub damage : DamageValues
