-- The line of a signature: which byte strings are one, and what each means (document 02, Wish 1). No reader is named here.
--
--     line = ver ":" ttl ":" olen ":" mss ":" wsize "," scale ":" olayout ":" quirks ":" pclass
use Rattle.std.specs.Prelude.{ℕ, ◌<◌, ◌≤◌, List, [], length}
use Rattle.grammar.specs.Language.{Refused, Join, Then, Optional, Mapped, Listed, AnyListed}
use Rattle.grammar.specs.Table.{Said, Choice}
use Rattle.signature_line.specs.Meaning.{Fields, LineMeaning, meaning_of}
use Rattle.signature_line.specs.Words.{version, bare_byte, ttl_form, mss, window, scale, entry, quirk_word, payload}

-- The bytes between.
abbrev pub colon : ℕ
colon = 58

abbrev pub comma : ℕ
comma = 44

-- ttl = byte | byte "+" byte | byte "+?" | byte "-"
abbrev pub TtlText : List ℕ → Said × Said → Type 0
TtlText = Join (Choice bare_byte) (Choice ttl_form)

-- olayout = "" | entry { "," entry }, at most 40 entries
abbrev pub LayoutText : List ℕ → List Said → Type 0
LayoutText = Optional [] (Listed (Choice entry) comma 39)

-- quirks = "" | quirk { "," quirk }, any number of them
abbrev pub QuirksText : List ℕ → List Said → Type 0
QuirksText = Optional [] (AnyListed (Choice quirk_word) comma)

-- olayout ":" quirks ":" pclass
abbrev pub AfterScale : List ℕ → List Said × (List Said × Said) → Type 0
AfterScale = Then LayoutText colon (Then QuirksText colon (Choice payload))

-- mss ":" wsize "," scale ":" ..
abbrev pub AfterOlen : List ℕ → Said × (Said × (Said × (List Said × (List Said × Said)))) → Type 0
AfterOlen = Then (Choice mss) colon (Then (Choice window) comma (Then (Choice scale) colon AfterScale))

abbrev pub Parts : Type 0
Parts = Said × ((Said × Said) × (Said × (Said × (Said × (Said × (List Said × (List Said × Said)))))))

abbrev pub fields : Parts → Fields
fields p =
    record {
      version = p.0;
      ttl = p.1.0.0;
      ttl_form = p.1.0.1;
      olen = p.1.1.0;
      mss = p.1.1.1.0;
      window = p.1.1.1.1.0;
      scale = p.1.1.1.1.1.0;
      layout = p.1.1.1.1.1.1.0;
      quirks = p.1.1.1.1.1.1.1.0;
      payload = p.1.1.1.1.1.1.1.1;
    }

-- ver ":" ttl ":" olen ":" ..
unfoldable pub LineSays : List ℕ → Fields → Type 0
LineSays = Mapped fields (Then (Choice version) colon (Then TtlText colon (Then (Choice bare_byte) colon AfterOlen)))

-- A line, and the record with its layout that it means.
unfoldable pub SignatureLine : List ℕ → LineMeaning → Type 0
SignatureLine = Mapped meaning_of LineSays

-- ---- refusal 13

-- "Read a line of at most 512 bytes".
abbrev pub longest : ℕ
longest = 512

-- "13 with the offset of the first byte at which no acceptable line of any length can go on (the line's length if it only ends too soon);
-- a line over 512 bytes first, with 512."
pub data LineRefused (s : List ℕ) : ℕ → Type 0 where
  too_long : longest < length s → LineRefused s longest
  goes_on_no_more : {at : ℕ} → length s ≤ longest → Refused SignatureLine s at → LineRefused s at
