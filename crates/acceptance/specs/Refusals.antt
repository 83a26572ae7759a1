-- Document 01, "Refusal numbers, in order of test": each number with what its row says, the order in which a packet, an option
-- string, a list, a search and a bundle are tested, and what a refusal gives; and document 02's row of a packet in the strict mode.
-- `Refusals` is the statement.
use Rattle.std.specs.Prelude.{◌≡◌, true, false, List, [], ◌∷◌, ◌↔◌, ℕ, ◌+◌, ◌*◌, ◌<◌, length, Option, Ok, Err, Result}
use Rattle.basis.specs.Bytes.{byte_at, be16, be32, part}
use Rattle.rfc.specs.Rfc791 as v4
use Rattle.rfc.specs.Rfc8200 as v6
use Rattle.rfc.specs.Rfc9293 as tcp
use Rattle.quirks.specs.Quirks.{set_of, holds}
use Rattle.quirks.specs.Named.{seventeen}
use Rattle.observable.specs.declared.TcpObservation.{TcpObservation}
use Rattle.refusals.specs.declared.OptionsTooLong.{OptionsTooLong}
use Rattle.syn_options.specs.Walk.{too_long, parse_options_raw, options_refusal}
use Rattle.refusals.specs.declared.PacketRefusal.{PacketRefusal}
use Rattle.refusals.specs.declared.PacketRefusal.TheVariants as refusal
use Rattle.refusals.specs.declared.ListRefusal.TheVariants as why
use Rattle.refusals.specs.Refusals.{packet_number}
use Rattle.flow.specs.declared.Kind.TheVariants as kind
use Rattle.flow.specs.declared.Mode.{Mode}
use Rattle.flow.specs.declared.Reading.{Reading}
use Rattle.tcp_header.specs.Flags.{masked_type}
use Rattle.flow.specs.Modes.{plain_mode, read_in}
use Rattle.flow.specs.Reading.{read_packet, refusal_of}
use Rattle.flow.specs.declared.Reading.TheVariants as reading
use Rattle.sigrecord.specs.Record.{first_entry, entry_count}
use Rattle.siglist.specs.List.{record_count, records_offset, layout_count, layout_offset, record_at, entries_of, record_good, check_list}
use Rattle.siglist.specs.List.{list_refusal}
use Rattle.search.specs.declared.SearchRefusal.TheVariants as search_answer
use Rattle.search.specs.Search.{search_list, search_refusal}
use Rattle.bundle.specs.declared.BundleRefusal.TheVariants as bundle_check
use Rattle.bundle.specs.Bundle.{packet_count, packets_offset, list_length, list_offset, list_of, packet_end, check_bundle, bundle_refusal}
use Rattle.bundle.specs.Answers.{start_of, bundle_answer}

-- The number of the first row that holds, of rows in this order of test; 0 if none does.
pub data First (Row : ℕ → Type 0) : List ℕ → ℕ → Type 0 where
  here : {n : ℕ} {rest : List ℕ} → Row n → First Row (n ∷ rest) n
  later : {m n : ℕ} {rest : List ℕ} → (Row m → ⊥) → First Row rest n → First Row (m ∷ rest) n
  none : First Row [] 0

-- ---- a packet, in any mode

-- The TCP part, by the places of document 01, "Headers and options".
abbrev pub part4 : List ℕ → List ℕ
part4 p = part (v4.data_start p) (v4.data_end p) p

abbrev pub part6 : List ℕ → List ℕ
part6 p = v6.payload p

-- "Flags invalid: SYN with FIN or RST, FIN with RST, or none of SYN, ACK, FIN, RST."
pub data FlagsInvalid (flags : ℕ) : Type 0 where
  syn_fin : tcp.syn flags ≡ 1 → tcp.fin flags ≡ 1 → FlagsInvalid flags
  syn_rst : tcp.syn flags ≡ 1 → tcp.rst flags ≡ 1 → FlagsInvalid flags
  fin_rst : tcp.fin flags ≡ 1 → tcp.rst flags ≡ 1 → FlagsInvalid flags
  none_set : tcp.syn flags ≡ 0 → tcp.ack flags ≡ 0 → tcp.fin flags ≡ 0 → tcp.rst flags ≡ 0 → FlagsInvalid flags

-- Document 02, Wish 2: "data offset is under 5 or 4 x data offset exceeds the TCP part".
pub data ContradictsItself (t : List ℕ) : Type 0 where
  under_five : tcp.data_offset t < 5 → ContradictsItself t
  past_part : length t < 4 * tcp.data_offset t → ContradictsItself t

pub data PacketRow (mode : Mode) (p : List ℕ) : ℕ → Type 0 where
  -- 1: "packet empty, or top nibble of byte 0 not 4 or 6"
  no_bytes : length p ≡ 0 → PacketRow mode p 1
  other_version : (v4.version p ≡ 4 → ⊥) → (v4.version p ≡ 6 → ⊥) → PacketRow mode p 1
  -- 2: "under 20 bytes (v4), under 40 (v6)"
  short4 : v4.version p ≡ 4 → length p < 20 → PacketRow mode p 2
  short6 : v4.version p ≡ 6 → length p < 40 → PacketRow mode p 2
  -- 3: "v4 header length under 5 words"
  words4 : v4.version p ≡ 4 → v4.ihl p < 5 → PacketRow mode p 3
  -- 4: "protocol or next header not 6"
  protocol4 : v4.version p ≡ 4 → (v4.protocol p ≡ 6 → ⊥) → PacketRow mode p 4
  protocol6 : v4.version p ≡ 6 → (v6.next_header p ≡ 6 → ⊥) → PacketRow mode p 4
  -- 5: "v4 fragment offset above 0, or more-fragments set"
  offset4 : v4.version p ≡ 4 → 0 < v4.fragment_offset p → PacketRow mode p 5
  more4 : v4.version p ≡ 4 → v4.more_fragments p ≡ 1 → PacketRow mode p 5
  -- 6: "TCP part under 20 bytes"
  tcp4 : v4.version p ≡ 4 → length (part4 p) < 20 → PacketRow mode p 6
  tcp6 : v4.version p ≡ 6 → length (part6 p) < 20 → PacketRow mode p 6
  -- 14, in the strict mode alone: the header contradicts itself
  contradicts4 : mode.strict ≡ true → v4.version p ≡ 4 → ContradictsItself (part4 p) → PacketRow mode p 14
  contradicts6 : mode.strict ≡ true → v4.version p ≡ 6 → ContradictsItself (part6 p) → PacketRow mode p 14
  -- 7: "flags invalid"
  flags4 : v4.version p ≡ 4 → FlagsInvalid (tcp.control (part4 p)) → PacketRow mode p 7
  flags6 : v4.version p ≡ 6 → FlagsInvalid (tcp.control (part6 p)) → PacketRow mode p 7

-- "Refusals: 14, after 6 and before 7".
abbrev pub packet_order : List ℕ
packet_order = 1 ∷ 2 ∷ 3 ∷ 4 ∷ 5 ∷ 6 ∷ 14 ∷ 7 ∷ []

-- "A packet meets 1 to 7 only": in the plain mode, document 01's.
abbrev pub plain_order : List ℕ
plain_order = 1 ∷ 2 ∷ 3 ∷ 4 ∷ 5 ∷ 6 ∷ 7 ∷ []

-- The flags byte of a packet's TCP part.
pub data FlagsByte (p : List ℕ) : ℕ → Type 0 where
  of4 : v4.version p ≡ 4 → FlagsByte p (tcp.control (part4 p))
  of6 : v4.version p ≡ 6 → FlagsByte p (tcp.control (part6 p))

-- "Also returns": nothing, but for 7 the flags byte. A refusal is an `Err`: no observation stands beside it.
pub data Refused (p : List ℕ) : PacketRefusal → Type 0 where
  nothing_more : {r : PacketRefusal} → (packet_number r ≡ 7 → ⊥) → Refused p r
  flags_byte : {f : ℕ} → FlagsByte p f → Refused p (refusal.InvalidTcpFlags f)

pub record Gives (mode : Mode) (p : List ℕ) (peer : Option ℕ) : Type 0 where
  pub why : PacketRefusal
  pub reading : read_in mode p peer ≡ Err why
  pub also : Refused p why

-- "Valid flags whose masked type is neither SYN nor SYN+ACK answer 'nothing', which is not a refusal".
pub data Answered (p : List ℕ) : Result Reading PacketRefusal → Type 0 where
  syn : {f : ℕ} {o : TcpObservation} → FlagsByte p f → masked_type f ≡ 2 → Answered p (Ok (reading.Opening kind.Syn o))
  syn_ack
      : {f : ℕ} {o : TcpObservation}
      → FlagsByte p f
      → masked_type f ≡ 18
      → Answered p (Ok (reading.Opening kind.SynAck o))
  neither
      : {f : ℕ}
      → FlagsByte p f
      → (masked_type f ≡ 2 → ⊥)
      → (masked_type f ≡ 18 → ⊥)
      → Answered p (Ok reading.Nothing)

-- ---- an option string

-- 8: "option string over 40 bytes"
pub data OptionsRow (s : List ℕ) : ℕ → Type 0 where
  over_40 : 40 < length s → OptionsRow s 8

-- ---- a list and a search

-- A record, as its 24 bytes, of a list of so many layout entries, with the entries of its layout.
pub data Bad (r : List ℕ) (entries : ℕ) (layout : List ℕ) : Type 0 where
  -- "a code is not listed": version (0, 4, 6), TTL form (0 to 3), window form (0 to 4), payload (0 to 2)
  version_code : (byte_at r 0 ≡ 0 → ⊥) → (byte_at r 0 ≡ 4 → ⊥) → (byte_at r 0 ≡ 6 → ⊥) → Bad r entries layout
  ttl_form_lem : 3 < byte_at r 1 → Bad r entries layout
  window_form : 4 < byte_at r 8 → Bad r entries layout
  payload_code : 2 < byte_at r 13 → Bad r entries layout
  -- "a presence byte is not 0 or 1"
  mss_present : 1 < byte_at r 5 → Bad r entries layout
  scale_present : 1 < byte_at r 11 → Bad r entries layout
  -- "10 now covers byte 21 above 1" (document 02, Wish 3)
  byte_21 : 1 < byte_at r 21 → Bad r entries layout
  -- "an absent or unused number is not 0": the MSS and the scale where absent, the distance of another form than Distance, the number of
  -- window form any
  absent_mss : byte_at r 5 ≡ 0 → 0 < be16 r 6 → Bad r entries layout
  absent_scale : byte_at r 11 ≡ 0 → 0 < byte_at r 12 → Bad r entries layout
  unused_distance : (byte_at r 1 ≡ 1 → ⊥) → 0 < byte_at r 3 → Bad r entries layout
  unused_window : byte_at r 8 ≡ 0 → 0 < be16 r 9 → Bad r entries layout
  -- "an MSS or MTU multiple exceeds 255"
  mss_multiple : byte_at r 8 ≡ 3 → 255 < be16 r 9 → Bad r entries layout
  mtu_multiple : byte_at r 8 ≡ 4 → 255 < be16 r 9 → Bad r entries layout
  -- "a quirk bit is outside the seventeen"
  quirk_bit
      : (k : ℕ) → k < 32 → holds (set_of (be32 r 14)) k ≡ true → holds seventeen k ≡ false → Bad r entries layout
  -- "its layout exceeds 40 entries, has first entry plus count above the entry count, or holds a bad entry": a kind other than 0 with a
  -- byte other than 0
  over_40 : 40 < entry_count r → Bad r entries layout
  past_entries : entries < first_entry r + entry_count r → Bad r entries layout
  bad_entry
      : (j : ℕ) → j < entry_count r → 0 < byte_at layout (2 * j) → 0 < byte_at layout (2 * j + 1) → Bad r entries layout

-- "A record is bad": record i of a list.
abbrev pub BadRecord : List ℕ → ℕ → Type 0
BadRecord l i = Bad (record_at l i) (layout_count l) (entries_of l (record_at l i))

-- The first bad record of a list, by its index from 0.
pub record FirstBad (l : List ℕ) (i : ℕ) : Type 0 where
  pub within : i < record_count l
  pub bad : BadRecord l i
  pub before : (j : ℕ) → j < i → BadRecord l j → ⊥

pub data ListRow (l : List ℕ) : ℕ → Type 0 where
  -- 9: "list header or its areas do not fit"
  header : length l < 8 → ListRow l 9
  records : length l < records_offset l + 24 * record_count l → ListRow l 9
  entries : length l < layout_offset l + 2 * layout_count l → ListRow l 9
  -- 10: "a list record is bad"
  bad_record_lem : (i : ℕ) → i < record_count l → BadRecord l i → ListRow l 10

pub data SearchRow (o : TcpObservation) (l : List ℕ) : ℕ → Type 0 where
  of_list_lem : {n : ℕ} → ListRow l n → SearchRow o l n
  -- 11: "observation's layout count over 40"
  layout_over_40 : 40 < o.olayout.count → SearchRow o l 11

-- ---- a bundle

pub data BundleRow (b : List ℕ) : ℕ → Type 0 where
  -- 12: "bundle over 65,535 bytes, or its header, list area or a packet does not fit"; the packets' offset is within the bundle "also at
  -- count 0", and a packet is its four bytes and as many more as its length says, each where the one before it ends.
  over_65535 : 65535 < length b → BundleRow b 12
  header : length b < 8 → BundleRow b 12
  list_area : length b < list_offset b + list_length b → BundleRow b 12
  offset : length b < packets_offset b → BundleRow b 12
  a_packet : (i : ℕ) → i < packet_count b → length b < packet_end b (start_of b i) → BundleRow b 12
  -- 9 and 10, of its list
  of_list_lem : {n : ℕ} → ListRow (list_of b) n → BundleRow b n

-- ---- the statement

pub record Refusals : Type 0 where
  -- "Given exactly when", "in order of test": a number is given exactly when its row holds and no row before it does, and 0, which
  -- is no refusal, exactly when no row holds.
  pub packet
      : (mode : Mode) (p : List ℕ) (peer : Option ℕ) (n : ℕ)
      → (refusal_of (read_in mode p peer) ≡ n) ↔ First (PacketRow mode p) packet_order n
  pub packet_gives : (mode : Mode) (p : List ℕ) (peer : Option ℕ) → 0 < refusal_of (read_in mode p peer) → Gives mode p peer
  pub packet_answers
      : (mode : Mode) (p : List ℕ) (peer : Option ℕ) → refusal_of (read_in mode p peer) ≡ 0 → Answered p (read_in mode p peer)
  -- document 01's reader, by document 01's rows
  pub plain_packet_lem
      : (p : List ℕ) (peer : Option ℕ) (n : ℕ) → (refusal_of (read_packet p peer) ≡ n) ↔ First (PacketRow plain_mode p) plain_order n
  -- "an option string 8"
  pub options : (s : List ℕ) (n : ℕ) → (options_refusal (parse_options_raw s) ≡ n) ↔ First (OptionsRow s) (8 ∷ []) n
  pub options_give
      : (s : List ℕ) (e : OptionsTooLong) → parse_options_raw s ≡ Err e → parse_options_raw s ≡ Err too_long
  -- the test of a record that the check and the fit use
  pub record_bad : (l : List ℕ) (i : ℕ) → (record_good l i ≡ false) ↔ BadRecord l i
  -- a list 9, then 10, with the index of the first bad record
  pub list : (l : List ℕ) (n : ℕ) → (list_refusal (check_list l) ≡ n) ↔ First (ListRow l) (9 ∷ 10 ∷ []) n
  pub list_gives : (l : List ℕ) (i : ℕ) → check_list l ≡ Err (why.BadRecord i) → FirstBad l i
  -- "a search 11, then 9, then 10", with the same index
  pub search
      : (o : TcpObservation) (l : List ℕ) (n : ℕ)
      → (search_refusal (search_list o l) ≡ n) ↔ First (SearchRow o l) (11 ∷ 9 ∷ 10 ∷ []) n
  pub search_gives : (o : TcpObservation) (l : List ℕ) (i : ℕ) → search_list o l ≡ Err (search_answer.List (why.BadRecord i)) → FirstBad l i
  -- "A bundle meets 12, then 9, then 10, before any packet", with the same index; beside a refusal no packet is answered, and in a
  -- bundle that is not refused every packet is.
  pub bundle : (b : List ℕ) (n : ℕ) → (bundle_refusal (check_bundle b) ≡ n) ↔ First (BundleRow b) (12 ∷ 9 ∷ 10 ∷ []) n
  pub bundle_gives : (b : List ℕ) (i : ℕ) → check_bundle b ≡ Err (bundle_check.List (why.BadRecord i)) → FirstBad (list_of b) i
  pub bundle_refused : (mode : Mode) (b : List ℕ) → 0 < bundle_refusal (check_bundle b) → (bundle_answer mode b).answers ≡ []
  pub bundle_answered
      : (mode : Mode) (b : List ℕ) → check_bundle b ≡ (Ok tt) → length (bundle_answer mode b).answers ≡ packet_count b
