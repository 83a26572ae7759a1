-- The lines' values, every case computed; of the longest ones the zeros are read by induction.
use mathlib.Core.Path.{◌≡◌, refl}
use mathlib.Core.List.{List, ◌++◌}
use Prim.Native.Nat.{ℕ}
use native.Mathlib.Omega.{arith}
use Rattle.basis.specs.Ascii.{ascii}
use Rattle.quirks.specs.Quirks.{place_of, bit_of}
use Rattle.grammar.specs.Numeral.{any}
use Rattle.grammar.specs.States.{fits, after, done, run, left, states_read}
use Rattle.signature_line.specs.Answer.{read_of}
use Rattle.signature_line.specs.LineReader.{ttl_read, layout_read, quirks_read, parts_read, fields_read, read_as, read_line}
use Rattle.signature_line.specs.LineValues.{nops, forty_nops, LinesRead, QuirkNames, LinesRefused, LineValues}
use Rattle.signature_line.specs.Meaning.{kind_said, byte_said, layout_of, union_from, raw_of}
use Rattle.signature_line.specs.Words.{version, bare_byte, ttl_form, mss, window, scale, unnamed, entry, quirk_word, payload}
use Rattle.signature_line.proofs.Accepted.{accepted}
use Rattle.signature_line.proofs.WellFormed.{well_formed}
use Rattle.signature_line.proofs.Zeros.{zeros_refused, zeros_read}

abbrev forty_line : List ℕ
forty_line = ascii "*:64:0:*:*,*:nop" ++ nops 39 ++ ascii "::0"

forty : read_line forty_line ≡ read_of forty_nops
unfolding read_line fields_read parts_read ttl_read layout_read quirks_read read_as raw_of layout_of kind_said byte_said
    union_from version bare_byte ttl_form mss window scale unnamed entry quirk_word payload any fits after done run left states_read
    bit_of place_of
forty = refl

lines_read : LinesRead
unfolding read_line fields_read parts_read ttl_read layout_read quirks_read read_as raw_of layout_of kind_said byte_said
    union_from version bare_byte ttl_form mss window scale unnamed entry quirk_word payload any fits after done run left states_read
    bit_of place_of
lines_read =
    record {
      ours = refl;
      document_01 = refl;
      distance = refl;
      guess = refl;
      bad_ttl = refl;
      distance_0 = refl;
      distance_100 = refl;
      ttl_0 = refl;
      modulus_0 = refl;
      multiple_0 = refl;
      multiple_255 = refl;
      leading_zeros = refl;
      entries = refl;
      any_order = refl;
      any_version = refl;
      bounds = refl;
      entries_40 = forty;
      bytes_512 = zeros_read 497 (omega arith);
      good_list_lem = (well_formed forty_line forty_nops ((accepted forty_line forty_nops).0 forty).1).good;
    }

quirk_names : QuirkNames
unfolding read_line fields_read parts_read ttl_read layout_read quirks_read read_as raw_of layout_of kind_said byte_said
    union_from version bare_byte ttl_form mss window scale unnamed entry quirk_word payload any fits after done run left states_read
    bit_of place_of
quirk_names =
    record {
      df = refl;
      id_plus = refl;
      id_minus = refl;
      ecn = refl;
      zero_plus = refl;
      flow = refl;
      seq_minus = refl;
      ack_plus = refl;
      ack_minus = refl;
      uptr_plus = refl;
      urgf_plus = refl;
      pushf_plus = refl;
      ts1_minus = refl;
      ts2_plus = refl;
      opt_plus = refl;
      exws = refl;
      bad = refl;
    }

lines_refused : LinesRefused
unfolding read_line fields_read parts_read ttl_read layout_read quirks_read read_as raw_of layout_of kind_said byte_said
    union_from version bare_byte ttl_form mss window scale unnamed entry quirk_word payload any fits after done run left states_read
    bit_of place_of
lines_refused =
    record {
      no_byte = refl;
      digit_over = refl;
      word_over = refl;
      multiple_over = refl;
      mtu_over = refl;
      named_kind_2 = refl;
      named_kind_0 = refl;
      named_kind_1 = refl;
      named_kind_3 = refl;
      named_kind_4 = refl;
      named_kind_5 = refl;
      named_kind_8 = refl;
      kind_over = refl;
      bare_eol = refl;
      plus_alone = refl;
      comma_last = refl;
      ttl_any = refl;
      id_unsigned = refl;
      line_end = refl;
      blank = refl;
      upper_case = refl;
      too_soon = refl;
      byte_255 = refl;
      entry_41 = refl;
      zeros_512 = zeros_refused 509 (omega arith);
      bytes_513 = refl;
      any_513 = refl;
    }

pub line_values : LineValues
line_values = record { read = lines_read; quirks = quirk_names; refused = lines_refused }
