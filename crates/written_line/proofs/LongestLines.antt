-- The bounds are met: the longest lines, computed.
use Rattle.std.specs.Prelude.{Ok}
use Prim.Native.Nat.{ℕ, zero, suc, ◌<◌}
use mathlib.Core.Path.{◌≡◌, refl, ap}
use mathlib.Core.List.{◌++◌}
use native.Mathlib.Omega.{arith}
use lib.Dec.{lit<}
use lib.ListN.{length, replicate}
use Rattle.basis.specs.Ascii.{ascii}
use Rattle.basis.specs.Bytes.{byte_at, be16, be32}
use Rattle.basis.specs.Digits.{digit}
use Rattle.basis.specs.Tests.{all_below}
use Rattle.quirks.specs.Named.{display_order, from_quirks, seventeen}
use Rattle.quirks.specs.Quirks.{place_of, bit_of, holds, contains, is_empty, with, difference}
use Rattle.text.specs.Decimal.{width, decimal}
use Rattle.sigrecord.specs.Layout.{entry_good, entries_good}
use Rattle.sigrecord.specs.Record.{version_of, ttl_of, mss_of, scale_of, window_of, payload_of, signature_of}
use Rattle.sigrecord.specs.WellFormed.{version_good, ttl_good, presence_good, window_good, payload_good, quirks_good, scalars_good}
use Rattle.siglist.specs.List.{list_fits, layout_lies, record_good, records_from, check_list}
use Rattle.grammar.specs.Spelling.{spelt}
use Rattle.signature_line.specs.OneRecord.{entries_in, list_of_one}
use Rattle.signature_line.specs.Words.{version, bare_byte, ttl_form, mss, window, scale, unnamed, entry, quirk_word, payload}
use Rattle.written_line.specs.LineText.{text_after_scale, text_after_olen, line_text, signature_text, record_text, observation_text}
use Rattle.written_line.specs.Longest.{longest_list, longest_observation, behind_window, LongestLines}
use Rattle.written_line.specs.Numbers.{ObservationHeld}
use Rattle.written_line.specs.Signature.{entry_said, entries_said, chosen, fields_of, signature_seen}

good_list_lem : check_list longest_list ≡ Ok tt
unfolding check_list list_fits records_from record_good layout_lies entries_good entry_good all_below scalars_good version_good ttl_good
    presence_good window_good payload_good quirks_good is_empty difference seventeen from_quirks display_order with bit_of place_of be16
    be32 list_of_one entries_in
good_list_lem = refl

record_line_lem : record_text longest_list 0 ≡ ascii "4:255+255:255:65535:mss*255" ++ behind_window
unfolding record_text signature_text line_text text_after_olen text_after_scale spelt version bare_byte ttl_form mss window scale unnamed
    entry quirk_word payload fields_of signature_of version_of ttl_of mss_of scale_of window_of payload_of entries_said entry_said chosen
    contains holds digit display_order bit_of place_of be16 be32 list_of_one entries_in decimal width
record_line_lem = refl

observation_line_lem : observation_text longest_observation ≡ ascii "4:255+255:255:65535:65535" ++ behind_window
unfolding observation_text signature_text line_text text_after_olen text_after_scale spelt version bare_byte ttl_form mss window scale
    unnamed entry quirk_word payload fields_of signature_seen entries_said entry_said chosen contains holds digit seventeen from_quirks
    with display_order bit_of place_of entries_in decimal width
observation_line_lem = refl

one_byte : (n b i : ℕ) → b < 256 → byte_at (replicate n b) i < 256
one_byte zero b i h = omega arith
one_byte (suc n) b zero h = h
one_byte (suc n) b (suc i) h = one_byte n b i h

observation_held : ObservationHeld longest_observation
unfolding signature_seen
observation_held =
    record {
      signature = record { ittl = (lit< tt, lit< tt); olen = lit< tt; mss = lit< tt; wsize = lit< tt; wscale = lit< tt };
      kinds = λ i. one_byte 40 0 i (lit< tt);
      bytes = λ i. one_byte 40 255 i (lit< tt);
      kinds_whole = refl;
      bytes_whole = refl;
    }

pub longest_lines : LongestLines
longest_lines =
    record {
      good_list = good_list_lem;
      record_line = record_line_lem;
      record_length = ap length record_line_lem;
      held = observation_held;
      observation_line = observation_line_lem;
      observation_length = ap length observation_line_lem;
    }
