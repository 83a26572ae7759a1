-- The values of a keeper's file, every case computed.
use Rattle.std.specs.Prelude.{Ok}
use Prim.Native.Nat.{ℕ}
use mathlib.Core.Path.{◌≡◌, refl}
use mathlib.Core.List.{[], ◌∷◌}
use Rattle.basis.specs.Bytes.{be16, be32}
use Rattle.basis.specs.Digits.{digit}
use Rattle.basis.specs.Tests.{all_below}
use Rattle.text.specs.Decimal.{width, decimal}
use Rattle.refusals.specs.declared.Refusal.TheVariants as refusal
use Rattle.quirks.specs.Named.{display_order, from_quirks, seventeen}
use Rattle.quirks.specs.Quirks.{place_of, bit_of, holds, contains, is_empty, with, difference}
use Rattle.sigrecord.specs.Layout.{entry_good, entries_good}
use Rattle.sigrecord.specs.Record.{version_of, ttl_of, mss_of, scale_of, window_of, payload_of, signature_of}
use Rattle.sigrecord.specs.WellFormed.{version_good, ttl_good, presence_good, window_good, payload_good, quirks_good, scalars_good}
use Rattle.siglist.specs.List.{list_fits, layout_lies, record_good, records_from, check_list}
use Rattle.grammar.specs.Spelling.{spelt}
use Rattle.grammar.specs.Numeral.{any}
use Rattle.grammar.specs.States.{fits, after, done, run, left, states_read}
use Rattle.signature_line.specs.LineReader.{ttl_read, layout_read, quirks_read, parts_read, fields_read, read_as, read_line}
use Rattle.signature_line.specs.Meaning.{kind_said, byte_said, layout_of, union_from, raw_of}
use Rattle.signature_line.specs.OneRecord.{entries_in}
use Rattle.signature_line.specs.Words.{version, bare_byte, ttl_form, mss, window, scale, unnamed, entry, quirk_word, payload}
use Rattle.written_line.specs.LineText.{text_after_scale, text_after_olen, line_text, signature_text, record_text}
use Rattle.written_line.specs.Signature.{entry_said, entries_said, chosen, fields_of}
use Rattle.written_line.specs.Writing.{line_into}
use Rattle.keeper_file.specs.Compiling.{first_bad, meanings, tallied_from, refusing_line, list_into, compile_file}
use Rattle.keeper_file.specs.FileText.{head_text, kept_text, file_from, file_text, write_file}
use Rattle.keeper_file.specs.FileValues.{FileLines, LinesKept, two_lines, two_records, two_written, bad_second, FilesCompiled, FileValues}
use Rattle.keeper_file.specs.KeptLine.{label, mark, kind_and_label}
use Rattle.keeper_file.specs.KeptReader.{head_read, kept_behind, read_kept}
use Rattle.keeper_file.specs.Lines.{lines_of, numbered_from, signature_lines}
use Rattle.keeper_file.specs.ListText.{entry_total, entries_text, placed_at, records_text, header_text, list_text}

file_lines : FileLines
unfolding lines_of numbered_from signature_lines
file_lines =
    record {
      none = refl;
      empty_line = refl;
      ends = refl;
      last_ended = refl;
      lone_return = refl;
      two_returns = refl;
      return_at_the_end = refl;
      numbers = refl;
    }

lines_kept : LinesKept
unfolding read_kept head_read kept_behind label mark kind_and_label read_line fields_read parts_read ttl_read layout_read
    quirks_read read_as raw_of layout_of kind_said byte_said union_from version bare_byte ttl_form mss window scale unnamed entry
    quirk_word payload any fits after done run left states_read bit_of place_of
lines_kept =
    record {
      specific = refl;
      generic = refl;
      leading_zeros = refl;
      label_65535 = refl;
      label_65536 = refl;
      no_label = refl;
      no_blank = refl;
      two_blanks = refl;
      mark_without_blank = refl;
      two_marks = refl;
      bad_version = refl;
      ends_too_soon = refl;
    }

-- ---- compiled

two_compiled : (room : ℕ) → compile_file two_lines room ≡ list_into two_records room
unfolding compile_file lines_of numbered_from signature_lines first_bad tallied_from meanings list_text header_text entries_text
    records_text placed_at entry_total entries_in read_kept head_read kept_behind label mark kind_and_label read_line
    fields_read parts_read ttl_read layout_read quirks_read read_as raw_of layout_of kind_said byte_said union_from version bare_byte
    ttl_form mss window scale unnamed entry quirk_word payload any fits after done run left states_read bit_of place_of
two_compiled room = refl

bad_line : (room : ℕ) → compile_file bad_second room ≡ refusing_line 2 (refusal.BadLine 2)
unfolding compile_file lines_of numbered_from signature_lines first_bad read_kept head_read kept_behind label mark read_line
    fields_read parts_read ttl_read layout_read quirks_read version bare_byte ttl_form mss window scale unnamed entry quirk_word payload
    any fits after done run left states_read bit_of place_of
bad_line room = refl

no_lines : compile_file [] 8 ≡ record { answer = Ok 8; line = 0 ∷ 0 ∷ 0 ∷ 8 ∷ 0 ∷ 0 ∷ 0 ∷ 8 ∷ [] }
unfolding compile_file list_into lines_of numbered_from signature_lines first_bad tallied_from meanings list_text header_text entries_text
    records_text entry_total
no_lines = refl

-- ---- written back

good_list_lem : check_list two_records ≡ Ok tt
unfolding check_list list_fits records_from record_good layout_lies entries_good entry_good all_below scalars_good version_good ttl_good
    presence_good window_good payload_good quirks_good is_empty difference seventeen from_quirks display_order with bit_of place_of be16
    be32
good_list_lem = refl

file_back : file_text two_records ≡ two_written
unfolding file_text file_from kept_text head_text record_text signature_text line_text text_after_olen text_after_scale spelt version
    bare_byte ttl_form mss window scale unnamed entry quirk_word payload fields_of signature_of version_of ttl_of mss_of scale_of
    window_of payload_of entries_said entry_said chosen contains holds digit display_order bit_of place_of be16 be32 decimal width
file_back = refl

written_back : (room : ℕ) → write_file two_records room ≡ line_into two_written room
unfolding write_file
written_back room = rw (good_list_lem, file_back)

files_compiled : FilesCompiled
unfolding list_into line_into
files_compiled =
    record {
      two = two_compiled 62;
      no_room = two_compiled 61;
      nothing = no_lines;
      bad_line = bad_line 0;
      back = written_back 57;
      back_no_room = written_back 56;
    }

pub file_values : FileValues
file_values = record { lines = file_lines; kept = lines_kept; compiles = files_compiled }
