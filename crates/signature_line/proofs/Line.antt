-- The whole line is read exactly.
use Prim.Native.Nat.{ℕ, zero, suc, ◌+◌, ◌*◌, ◌≤◌}
use mathlib.Core.Path.{◌≡◌, refl}
use mathlib.Core.Bool.{true}
use mathlib.Core.List.{List, [], ◌∷◌}
use native.Mathlib.Omega.{arith}
use native.Mathlib.Decide.{dec_le}
use borrow.Author.Tests.{ne_eqb, lt-leb}
use Rattle.basis.specs.Tests.{all_below}
use Rattle.grammar.specs.LeadingZero.{is_digit}
use Rattle.grammar.specs.Language.{GoesOn, Then}
use Rattle.grammar.specs.States.{done, table_read}
use Rattle.grammar.specs.Table.{Said, Choice}
use Rattle.grammar.proofs.Fields.{is_not, Words, join_words, then_field, join_field, map_field, listed_field, any_listed_field}
use Rattle.grammar.proofs.Fields.{listed_words, any_listed_words}
use Rattle.grammar.proofs.Join.{Outside}
use Rattle.grammar.proofs.Numerals.{From, any_lives}
use Rattle.grammar.proofs.Reading.{Field}
use Rattle.grammar.proofs.Apart.{all_apart}
use Rattle.grammar.proofs.Tables.{table_field, table_empty}
use Rattle.grammar.proofs.WordBytes.{rows_within, rows_outside, table_within, table_outside}
use Rattle.signature_line.specs.Line.{colon, comma, TtlText, LayoutText, QuirksText, AfterScale, AfterOlen, fields, LineSays}
use Rattle.signature_line.specs.LineReader.{ttl_read, layout_read, quirks_read, after_scale_read, after_olen_read, parts_read, fields_read}
use Rattle.signature_line.specs.Words.{version, bare_byte, ttl_form, mss, window, scale, unnamed, entry, quirk_word, payload}

-- ---- every numeral goes on: `?2` to `?20`

-- The named kinds are below 9, so 9 and more are unnamed; and 0 goes on to 06, 1 to 8 go on to 10 .. 80.
pub big_unnamed : (n : ℕ) → 9 ≤ n → unnamed n ≡ true
unfolding unnamed
big_unnamed n h = rw (lt-leb n 5 (omega arith), ne_eqb n 8 (λ (e : n ≡ 8). omega arith))

six : unnamed 6 ≡ true
unfolding unnamed
six = refl

unnamed_lives : (n : ℕ) → n ≤ 255 → GoesOn (From 255 unnamed n) []
unnamed_lives n h = by (dec_le 9 n) n refl
  where
    by : Dec (9 ≤ n) → (k : ℕ) → n ≡ k → GoesOn (From 255 unnamed n) []
    by (yes g) k e =
        record { tail = []; meaning = n; derives = record { digits = tt; says = refl; small = h; meant = big_unnamed n g } }
    by (no g) zero e =
        rw e
        (record {
          tail = 54 ∷ [];
          meaning = 6;
          derives = record { digits = (omega arith, omega arith, tt); says = refl; small = omega arith; meant = six };
        })
    by (no g) (suc k) e =
        record {
          tail = 48 ∷ [];
          meaning = n * 10 + 0;
          derives =
              record {
                digits = (omega arith, omega arith, tt);
                says = refl;
                small = omega arith;
                meant = big_unnamed (n * 10 + 0) (omega arith);
              };
        }

-- ---- the tables

version_field : Field (Choice version) (table_read version)
unfolding version all_apart
version_field = table_field version tt refl refl

pub byte_field : Field (Choice bare_byte) (table_read bare_byte)
unfolding bare_byte all_apart
byte_field = table_field bare_byte (any_lives 255, tt) refl refl

form_field : Field (Choice ttl_form) (table_read ttl_form)
unfolding ttl_form all_apart
form_field = table_field ttl_form (any_lives 255, tt) refl refl

mss_field : Field (Choice mss) (table_read mss)
unfolding mss all_apart
mss_field = table_field mss (any_lives 65535, tt) refl refl

window_field : Field (Choice window) (table_read window)
unfolding window all_apart
window_field = table_field window (any_lives 65535, (any_lives 65535, (any_lives 255, (any_lives 255, tt)))) refl refl

scale_field : Field (Choice scale) (table_read scale)
unfolding scale all_apart
scale_field = table_field scale (any_lives 255, tt) refl refl

pub entry_field : Field (Choice entry) (table_read entry)
unfolding entry all_apart
entry_field = table_field entry (any_lives 255, (unnamed_lives, tt)) refl refl

pub quirk_field : Field (Choice quirk_word) (table_read quirk_word)
unfolding quirk_word all_apart
quirk_field = table_field quirk_word tt refl refl

payload_field : Field (Choice payload) (table_read payload)
unfolding payload all_apart
payload_field = table_field payload tt refl refl

-- ---- the bytes of their words

version_words : Words (is_not colon) (Choice version)
unfolding version rows_within all_below
version_words = table_within (is_not colon) version refl

byte_words : Words (is_not colon) (Choice bare_byte)
unfolding bare_byte rows_within all_below
byte_words = table_within (is_not colon) bare_byte refl

form_words : Words (is_not colon) (Choice ttl_form)
unfolding ttl_form rows_within all_below
form_words = table_within (is_not colon) ttl_form refl

mss_words : Words (is_not colon) (Choice mss)
unfolding mss rows_within all_below
mss_words = table_within (is_not colon) mss refl

window_words : Words (is_not comma) (Choice window)
unfolding window rows_within all_below
window_words = table_within (is_not comma) window refl

scale_words : Words (is_not colon) (Choice scale)
unfolding scale rows_within all_below
scale_words = table_within (is_not colon) scale refl

entry_words : Words (is_not colon) (Choice entry)
unfolding entry rows_within all_below
entry_words = table_within (is_not colon) entry refl

quirk_words : Words (is_not colon) (Choice quirk_word)
unfolding quirk_word rows_within
quirk_words = table_within (is_not colon) quirk_word refl

entry_before_comma : Words (is_not comma) (Choice entry)
unfolding entry rows_within all_below
entry_before_comma = table_within (is_not comma) entry refl

quirk_before_comma : Words (is_not comma) (Choice quirk_word)
unfolding quirk_word rows_within
quirk_before_comma = table_within (is_not comma) quirk_word refl

pub entry_empty : (v : Said) → Choice entry [] v → ⊥
unfolding entry done
entry_empty = table_empty entry refl

pub quirk_empty : (v : Said) → Choice quirk_word [] v → ⊥
unfolding quirk_word done
quirk_empty = table_empty quirk_word refl

-- ---- a TTL: its number is digits, and its form begins with none

byte_digits : Words is_digit (Choice bare_byte)
unfolding bare_byte rows_within all_below
byte_digits = table_within is_digit bare_byte refl

form_outside : (w : List ℕ) (v : Said) → Choice ttl_form w v → Outside is_digit w
unfolding ttl_form rows_outside
form_outside = table_outside is_digit ttl_form refl

ttl_field : Field TtlText ttl_read
unfolding ttl_read
ttl_field =
    join_field (Choice bare_byte) (Choice ttl_form) is_digit (table_read bare_byte) (table_read ttl_form) byte_digits form_outside
    byte_field form_field

ttl_words_lem : Words (is_not colon) TtlText
ttl_words_lem = join_words (is_not colon) (Choice bare_byte) (Choice ttl_form) byte_words form_words

-- ---- rows

pub layout_field : Field LayoutText layout_read
unfolding layout_read
layout_field = listed_field (Choice entry) comma (table_read entry) entry_before_comma entry_field entry_empty 39

quirks_field : Field QuirksText quirks_read
unfolding quirks_read
quirks_field = any_listed_field (Choice quirk_word) comma (table_read quirk_word) quirk_before_comma quirk_field quirk_empty

layout_words : Words (is_not colon) LayoutText
layout_words = listed_words (is_not colon) comma refl (Choice entry) entry_words 39

quirks_words : Words (is_not colon) QuirksText
quirks_words = any_listed_words (is_not colon) comma refl (Choice quirk_word) quirk_words

-- ---- the line

after_scale : Field AfterScale after_scale_read
after_scale =
    then_field LayoutText colon (Then QuirksText colon (Choice payload)) layout_read _ layout_words layout_field
    (then_field QuirksText colon (Choice payload) quirks_read (table_read payload) quirks_words quirks_field payload_field)

after_olen : Field AfterOlen after_olen_read
after_olen =
    then_field (Choice mss) colon (Then (Choice window) comma (Then (Choice scale) colon AfterScale)) (table_read mss) _ mss_words mss_field
    (then_field (Choice window) comma (Then (Choice scale) colon AfterScale) (table_read window) _ window_words window_field
    (then_field (Choice scale) colon AfterScale (table_read scale) _ scale_words scale_field after_scale))

pub line_field : Field LineSays fields_read
unfolding LineSays fields_read parts_read
line_field =
    map_field fields _ _
    (then_field (Choice version) colon (Then TtlText colon (Then (Choice bare_byte) colon AfterOlen)) (table_read version) _
    version_words version_field
    (then_field TtlText colon (Then (Choice bare_byte) colon AfterOlen) ttl_read _ ttl_words_lem ttl_field
    (then_field (Choice bare_byte) colon AfterOlen (table_read bare_byte) _ byte_words byte_field after_olen)))
