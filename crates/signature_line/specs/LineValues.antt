-- The readings of a signature line that were decided (document 02, Wish 1), each by a line: what is read, and where a line is refused.
-- `LineValues` is the statement; every case is computed.
use Rattle.std.specs.Prelude.{◌≡◌, List, [], ◌∷◌, ◌++◌, ℕ, zero, suc, length, replicate, Ok}
use Prim.Native.String.{String}
use Rattle.basis.specs.Ascii.{ascii}
use Rattle.siglist.specs.List.{check_list}
use Rattle.signature_line.specs.Answer.{read_of, refused_at}
use Rattle.signature_line.specs.LineReader.{read_line}
use Rattle.signature_line.specs.Meaning.{LineMeaning, padded}
use Rattle.signature_line.specs.OneRecord.{list_of_one}

-- A record's 24 bytes, and the kinds and the bytes of its layout's entries.
abbrev pub record_of : List ℕ → List ℕ → List ℕ → LineMeaning
record_of raw kinds bytes =
    record { raw = raw; layout = record { kinds = padded kinds; bytes = padded bytes; count = length kinds } }

-- So many more entries `nop`, each behind a comma.
abbrev pub nops : ℕ → List ℕ
nops zero = []
nops (suc n) = ascii ",nop" ++ nops n

-- A line of one quirk, and the record with these four bytes of quirks.
abbrev pub quirk_line : String → List ℕ
quirk_line name = ascii "*:64:0:*:*,*::" ++ ascii name ++ ascii ":0"

abbrev pub quirk_record : ℕ → ℕ → ℕ → ℕ → LineMeaning
quirk_record a b c d =
    record_of
    (0 ∷ 0 ∷ 64 ∷ 0 ∷ 0 ∷ 0 ∷ 0 ∷ 0 ∷ 0 ∷ 0 ∷ 0 ∷ 0 ∷ 0 ∷ 0 ∷ a ∷ b ∷ c ∷ d ∷ 0 ∷ 0 ∷ 0 ∷ 0 ∷ 0 ∷ 0 ∷ []) [] []

-- Forty entries, and the record of a line of zeros.
abbrev pub forty_nops : LineMeaning
forty_nops =
    record_of
    (0 ∷ 0 ∷ 64 ∷ 0 ∷ 0 ∷ 0 ∷ 0 ∷ 0 ∷ 0 ∷ 0 ∷ 0 ∷ 0 ∷ 0 ∷ 0 ∷ 0 ∷ 0 ∷ 0 ∷ 0 ∷ 0 ∷ 0 ∷ 40 ∷ 0 ∷ 0 ∷ 0 ∷ []) (replicate 40 1)
    (replicate 40 0)

abbrev pub zero_record : LineMeaning
zero_record = record_of (replicate 24 0) [] []

-- `*:`, a TTL of so many zeros, and the rest of a line.
abbrev pub zeros_line : ℕ → List ℕ
zeros_line n = ascii "*:" ++ replicate n 48 ++ ascii ":0:*:*,*:::0"

pub record LinesRead : Type 0 where
  -- the line that docs/FORMATS.md takes apart
  pub ours
      : read_line (ascii "*:64:0:1460:mss*20,7:mss,sok,ts,nop,ws:df,id+:0")
      ≡ read_of
      (record_of
      (0 ∷ 0 ∷ 64 ∷ 0 ∷ 0 ∷ 1 ∷ 5 ∷ 180 ∷ 3 ∷ 0 ∷ 20 ∷ 1 ∷ 7 ∷ 0 ∷ 0 ∷ 0 ∷ 0 ∷ 6 ∷ 0 ∷ 0 ∷ 5 ∷ 0 ∷ 0 ∷ 0 ∷ [])
      (2 ∷ 4 ∷ 8 ∷ 1 ∷ 3 ∷ [])
      (0 ∷ 0 ∷ 0 ∷ 0 ∷ 0 ∷ []))
  -- the record of document 01's whole example, its label apart
  pub document_01
      : read_line (ascii "*:64:0:*:mss*4,*:mss:df:0")
      ≡ read_of
      (record_of
      (0 ∷ 0 ∷ 64 ∷ 0 ∷ 0 ∷ 0 ∷ 0 ∷ 0 ∷ 3 ∷ 0 ∷ 4 ∷ 0 ∷ 0 ∷ 0 ∷ 0 ∷ 0 ∷ 0 ∷ 2 ∷ 0 ∷ 0 ∷ 1 ∷ 0 ∷ 0 ∷ 0 ∷ [])
      (2 ∷ [])
      (0 ∷ []))
  -- Distance, numbers, version 4, a payload
  pub distance
      : read_line (ascii "4:64+12:4:1460:8192,0:sok:ecn,bad,pushf+:+")
      ≡ read_of
      (record_of
      (4 ∷ 1 ∷ 64 ∷ 12 ∷ 4 ∷ 1 ∷ 5 ∷ 180 ∷ 1 ∷ 32 ∷ 0 ∷ 1 ∷ 0 ∷ 1 ∷ 16 ∷ 2 ∷ 0 ∷ 1 ∷ 0 ∷ 0 ∷ 1 ∷ 0 ∷ 0 ∷ 0 ∷ [])
      (4 ∷ [])
      (0 ∷ []))
  -- Guess, a modulus, an empty layout, version 6, any payload
  pub guess
      : read_line (ascii "6:128+?:0:*:%8192,*::flow:*")
      ≡ read_of
      (record_of
      (6 ∷ 2 ∷ 128 ∷ 0 ∷ 0 ∷ 0 ∷ 0 ∷ 0 ∷ 2 ∷ 32 ∷ 0 ∷ 0 ∷ 0 ∷ 2 ∷ 0 ∷ 0 ∷ 0 ∷ 32 ∷ 0 ∷ 0 ∷ 0 ∷ 0 ∷ 0 ∷ 0 ∷ [])
      []
      [])
  -- Bad, a multiple of the MTU, no quirks
  pub bad_ttl
      : read_line (ascii "*:0-:0:*:mtu*1,*:mss::0")
      ≡ read_of
      (record_of
      (0 ∷ 3 ∷ 0 ∷ 0 ∷ 0 ∷ 0 ∷ 0 ∷ 0 ∷ 4 ∷ 0 ∷ 1 ∷ 0 ∷ 0 ∷ 0 ∷ 0 ∷ 0 ∷ 0 ∷ 0 ∷ 0 ∷ 0 ∷ 1 ∷ 0 ∷ 0 ∷ 0 ∷ [])
      (2 ∷ [])
      (0 ∷ []))
  -- `64+0` is Distance
  pub distance_0
      : read_line (ascii "*:64+0:0:*:*,*:::0")
      ≡ read_of
      (record_of
      (0 ∷ 1 ∷ 64 ∷ 0 ∷ 0 ∷ 0 ∷ 0 ∷ 0 ∷ 0 ∷ 0 ∷ 0 ∷ 0 ∷ 0 ∷ 0 ∷ 0 ∷ 0 ∷ 0 ∷ 0 ∷ 0 ∷ 0 ∷ 0 ∷ 0 ∷ 0 ∷ 0 ∷ [])
      []
      [])
  pub distance_100
      : read_line (ascii "*:200+100:0:*:*,*:::0")
      ≡ read_of
      (record_of
      (0 ∷ 1 ∷ 200 ∷ 100 ∷ 0 ∷ 0 ∷ 0 ∷ 0 ∷ 0 ∷ 0 ∷ 0 ∷ 0 ∷ 0 ∷ 0 ∷ 0 ∷ 0 ∷ 0 ∷ 0 ∷ 0 ∷ 0 ∷ 0 ∷ 0 ∷ 0 ∷ 0 ∷ [])
      []
      [])
  -- TTL 0
  pub ttl_0
      : read_line (ascii "*:0:0:*:*,*:::0")
      ≡ read_of
      (record_of
      (0 ∷ 0 ∷ 0 ∷ 0 ∷ 0 ∷ 0 ∷ 0 ∷ 0 ∷ 0 ∷ 0 ∷ 0 ∷ 0 ∷ 0 ∷ 0 ∷ 0 ∷ 0 ∷ 0 ∷ 0 ∷ 0 ∷ 0 ∷ 0 ∷ 0 ∷ 0 ∷ 0 ∷ [])
      []
      [])
  -- `%0` is read
  pub modulus_0
      : read_line (ascii "*:64:0:*:%0,*:::0")
      ≡ read_of
      (record_of
      (0 ∷ 0 ∷ 64 ∷ 0 ∷ 0 ∷ 0 ∷ 0 ∷ 0 ∷ 2 ∷ 0 ∷ 0 ∷ 0 ∷ 0 ∷ 0 ∷ 0 ∷ 0 ∷ 0 ∷ 0 ∷ 0 ∷ 0 ∷ 0 ∷ 0 ∷ 0 ∷ 0 ∷ [])
      []
      [])
  -- multiples of 0 and of 255
  pub multiple_0
      : read_line (ascii "*:64:0:*:mss*0,*:::0")
      ≡ read_of
      (record_of
      (0 ∷ 0 ∷ 64 ∷ 0 ∷ 0 ∷ 0 ∷ 0 ∷ 0 ∷ 3 ∷ 0 ∷ 0 ∷ 0 ∷ 0 ∷ 0 ∷ 0 ∷ 0 ∷ 0 ∷ 0 ∷ 0 ∷ 0 ∷ 0 ∷ 0 ∷ 0 ∷ 0 ∷ [])
      []
      [])
  pub multiple_255
      : read_line (ascii "*:64:0:*:mtu*255,*:::0")
      ≡ read_of
      (record_of
      (0 ∷ 0 ∷ 64 ∷ 0 ∷ 0 ∷ 0 ∷ 0 ∷ 0 ∷ 4 ∷ 0 ∷ 255 ∷ 0 ∷ 0 ∷ 0 ∷ 0 ∷ 0 ∷ 0 ∷ 0 ∷ 0 ∷ 0 ∷ 0 ∷ 0 ∷ 0 ∷ 0 ∷ [])
      []
      [])
  -- any number of leading zeros
  pub leading_zeros
      : read_line (ascii "*:0064:000:001460:000000008192,007:eol+000::0")
      ≡ read_of
      (record_of
      (0 ∷ 0 ∷ 64 ∷ 0 ∷ 0 ∷ 1 ∷ 5 ∷ 180 ∷ 1 ∷ 32 ∷ 0 ∷ 1 ∷ 7 ∷ 0 ∷ 0 ∷ 0 ∷ 0 ∷ 0 ∷ 0 ∷ 0 ∷ 1 ∷ 0 ∷ 0 ∷ 0 ∷ [])
      (0 ∷ [])
      (0 ∷ []))
  -- every entry by its name, an end of options anywhere, kinds without a name
  pub entries
      : read_line (ascii "*:64:0:*:*,*:eol+2,nop,mss,ws,sok,sack,ts,?6,?7,?9,?020,eol+0,nop::0")
      ≡ read_of
      (record_of
      (0 ∷ 0 ∷ 64 ∷ 0 ∷ 0 ∷ 0 ∷ 0 ∷ 0 ∷ 0 ∷ 0 ∷ 0 ∷ 0 ∷ 0 ∷ 0 ∷ 0 ∷ 0 ∷ 0 ∷ 0 ∷ 0 ∷ 0 ∷ 13 ∷ 0 ∷ 0 ∷ 0 ∷ [])
      (0 ∷ 1 ∷ 2 ∷ 3 ∷ 4 ∷ 5 ∷ 8 ∷ 6 ∷ 7 ∷ 9 ∷ 20 ∷ 0 ∷ 1 ∷ [])
      (2 ∷ 0 ∷ 0 ∷ 0 ∷ 0 ∷ 0 ∷ 0 ∷ 0 ∷ 0 ∷ 0 ∷ 0 ∷ 0 ∷ 0 ∷ []))
  -- quirks are a set: any order, repeats allowed
  pub any_order
      : read_line (ascii "*:64:0:*:*,*::id-,df,ecn,df:0")
      ≡ read_of
      (record_of
      (0 ∷ 0 ∷ 64 ∷ 0 ∷ 0 ∷ 0 ∷ 0 ∷ 0 ∷ 0 ∷ 0 ∷ 0 ∷ 0 ∷ 0 ∷ 0 ∷ 0 ∷ 0 ∷ 0 ∷ 11 ∷ 0 ∷ 0 ∷ 0 ∷ 0 ∷ 0 ∷ 0 ∷ [])
      []
      [])
  -- any quirk goes with any version
  pub any_version
      : read_line (ascii "6:64:0:*:*,*::df,id+:0")
      ≡ read_of
      (record_of
      (6 ∷ 0 ∷ 64 ∷ 0 ∷ 0 ∷ 0 ∷ 0 ∷ 0 ∷ 0 ∷ 0 ∷ 0 ∷ 0 ∷ 0 ∷ 0 ∷ 0 ∷ 0 ∷ 0 ∷ 6 ∷ 0 ∷ 0 ∷ 0 ∷ 0 ∷ 0 ∷ 0 ∷ [])
      []
      [])
  -- the greatest numbers
  pub bounds
      : read_line (ascii "*:255+255:255:65535:65535,255:eol+255,?255::*")
      ≡ read_of
      (record_of
      (0 ∷ 1 ∷ 255 ∷ 255 ∷ 255 ∷ 1 ∷ 255 ∷ 255 ∷ 1 ∷ 255 ∷ 255 ∷ 1 ∷ 255 ∷ 2 ∷ 0 ∷ 0 ∷ 0 ∷ 0 ∷ 0 ∷ 0 ∷ 2 ∷ 0 ∷ 0 ∷ 0 ∷ [])
      (0 ∷ 255 ∷ [])
      (255 ∷ 0 ∷ []))
  -- forty entries
  pub entries_40 : read_line (ascii "*:64:0:*:*,*:nop" ++ nops 39 ++ ascii "::0") ≡ read_of forty_nops
  -- a line of 512 bytes
  pub bytes_512 : read_line (zeros_line 498) ≡ read_of zero_record
  -- what is read makes a good list of one record
  pub good_list_lem : check_list (list_of_one forty_nops) ≡ (Ok tt)

-- Each of the seventeen names, by its quirk's bit.
pub record QuirkNames : Type 0 where
  pub df : read_line (quirk_line "df") ≡ read_of (quirk_record 0 0 0 2)
  pub id_plus : read_line (quirk_line "id+") ≡ read_of (quirk_record 0 0 0 4)
  pub id_minus : read_line (quirk_line "id-") ≡ read_of (quirk_record 0 0 0 8)
  pub ecn : read_line (quirk_line "ecn") ≡ read_of (quirk_record 0 0 0 1)
  pub zero_plus : read_line (quirk_line "0+") ≡ read_of (quirk_record 0 0 0 16)
  pub flow : read_line (quirk_line "flow") ≡ read_of (quirk_record 0 0 0 32)
  pub seq_minus : read_line (quirk_line "seq-") ≡ read_of (quirk_record 0 0 16 0)
  pub ack_plus : read_line (quirk_line "ack+") ≡ read_of (quirk_record 0 0 32 0)
  pub ack_minus : read_line (quirk_line "ack-") ≡ read_of (quirk_record 0 0 64 0)
  pub uptr_plus : read_line (quirk_line "uptr+") ≡ read_of (quirk_record 0 0 128 0)
  pub urgf_plus : read_line (quirk_line "urgf+") ≡ read_of (quirk_record 0 1 0 0)
  pub pushf_plus : read_line (quirk_line "pushf+") ≡ read_of (quirk_record 0 2 0 0)
  pub ts1_minus : read_line (quirk_line "ts1-") ≡ read_of (quirk_record 1 0 0 0)
  pub ts2_plus : read_line (quirk_line "ts2+") ≡ read_of (quirk_record 2 0 0 0)
  pub opt_plus : read_line (quirk_line "opt+") ≡ read_of (quirk_record 4 0 0 0)
  pub exws : read_line (quirk_line "exws") ≡ read_of (quirk_record 8 0 0 0)
  pub bad : read_line (quirk_line "bad") ≡ read_of (quirk_record 16 0 0 0)

pub record LinesRefused : Type 0 where
  -- a line that only ends too soon is refused at its length
  pub no_byte : read_line (ascii "") ≡ refused_at 0
  -- an offending digit: 256 is no byte,
  pub digit_over : read_line (ascii "*:256") ≡ refused_at 4
  -- 65536 no word
  pub word_over : read_line (ascii "*:64:0:65536") ≡ refused_at 11
  pub multiple_over : read_line (ascii "*:64:0:*:mss*256") ≡ refused_at 15
  pub mtu_over : read_line (ascii "*:64:0:*:mtu*256") ≡ refused_at 15
  -- `?2` goes on to `?20`, so it is refused behind its digits; so is every named kind
  pub named_kind_2 : read_line (ascii "*:64:0:*:*,*:?2::0") ≡ refused_at 15
  pub named_kind_0 : read_line (ascii "*:64:0:*:*,*:?0::0") ≡ refused_at 15
  pub named_kind_1 : read_line (ascii "*:64:0:*:*,*:?1::0") ≡ refused_at 15
  pub named_kind_3 : read_line (ascii "*:64:0:*:*,*:?3::0") ≡ refused_at 15
  pub named_kind_4 : read_line (ascii "*:64:0:*:*,*:?4::0") ≡ refused_at 15
  pub named_kind_5 : read_line (ascii "*:64:0:*:*,*:?5::0") ≡ refused_at 15
  pub named_kind_8 : read_line (ascii "*:64:0:*:*,*:?8::0") ≡ refused_at 15
  pub kind_over : read_line (ascii "*:64:0:*:*,*:?256::0") ≡ refused_at 16
  -- bare `eol`,
  pub bare_eol : read_line (ascii "*:64:0:*:*,*:eol::0") ≡ refused_at 16
  -- `64+`,
  pub plus_alone : read_line (ascii "*:64+:0") ≡ refused_at 5
  -- `mss,`,
  pub comma_last : read_line (ascii "*:64:0:*:*,*:mss,::0") ≡ refused_at 17
  -- and `*` as a TTL are no lines
  pub ttl_any : read_line (ascii "*:*:0") ≡ refused_at 2
  -- `id` without its sign
  pub id_unsigned : read_line (ascii "*:64:0:*:*,*::id,df:0") ≡ refused_at 16
  -- a line end is no part of a line; nor is a blank
  pub line_end : read_line (ascii "*:64:0:*:*,*::df:0\n") ≡ refused_at 18
  pub blank : read_line (ascii "*:64:0:*:*,*::df:0 ") ≡ refused_at 18
  -- lower case
  pub upper_case : read_line (ascii "*:64:0:*:*,*::DF:0") ≡ refused_at 14
  -- ends within a word
  pub too_soon : read_line (ascii "*:64:0:*:mtu") ≡ refused_at 12
  -- a byte that is no character
  pub byte_255 : read_line (255 ∷ []) ≡ refused_at 0
  -- a 41st entry: the comma after the 40th
  pub entry_41 : read_line (ascii "*:64:0:*:*,*:nop" ++ nops 40 ++ ascii "::0") ≡ refused_at 172
  -- 512 bytes that go on and are no line: their length; 513 bytes, also of a line of the grammar: 512
  pub zeros_512 : read_line (ascii "*:" ++ replicate 510 48) ≡ refused_at 512
  pub bytes_513 : read_line (zeros_line 499) ≡ refused_at 512
  pub any_513 : read_line (replicate 513 0) ≡ refused_at 512

pub record LineValues : Type 0 where
  pub read : LinesRead
  pub quirks : QuirkNames
  pub refused : LinesRefused
