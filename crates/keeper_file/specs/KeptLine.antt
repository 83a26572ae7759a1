-- A signature line of the keeper's file: which byte strings are one, and what each means. No reader is named here.
--
--     kept = label " " [ "g " ] line        label = a number up to 65535, line = that of document 02, Wish 1
use Rattle.std.specs.Prelude.{ℕ, ◌+◌, ◌-◌, ◌/◌, ◌%◌, ◌<◌, ◌≤◌, List, [], ◌∷◌, length, take, set}
use Rattle.basis.specs.Ascii.{ascii}
use Rattle.grammar.specs.Language.{GoesOn, Refused, Join, Then, Mapped}
use Rattle.grammar.specs.Table.{nothing, Row, row, Said, Choice}
use Rattle.signature_line.specs.Line.{LineSays, longest}
use Rattle.signature_line.specs.Meaning.{Fields, LineMeaning, raw_of, layout_of}
use Rattle.signature_line.specs.Words.{up_to65535}

-- The byte behind the label.
abbrev pub blank : ℕ
blank = 32

-- label: bytes 22 and 23 of a record.
unfoldable pub label : List Row
label = row (ascii "") 0 up_to65535 ∷ []

-- "`g` and a blank if it is generic": byte 21 of a record.
unfoldable pub mark : List Row
mark = row (ascii "") 0 nothing ∷ row (ascii "g ") 1 nothing ∷ []

-- label " " [ "g " ]
abbrev pub HeadSays : List ℕ → Said × Said → Type 0
HeadSays = Then (Choice label) blank (Choice mark)

abbrev pub KeptSays : List ℕ → Said × (Said × Fields) → Type 0
KeptSays = Then (Choice label) blank (Join (Choice mark) LineSays)

-- A record with its kind and its label.
unfoldable pub kind_and_label : ℕ → ℕ → List ℕ → List ℕ
kind_and_label kind number raw = set (set (set raw 21 kind) 22 (number / 256)) 23 (number % 256)

abbrev pub kept_meaning : Said × (Said × Fields) → LineMeaning
kept_meaning v =
    record { raw = kind_and_label v.1.0.form v.0.number (raw_of v.1.1); layout = layout_of v.1.1.layout }

-- A signature line, and the record with its layout that it means; the place of the layout is 0.
unfoldable pub KeptLine : List ℕ → LineMeaning → Type 0
KeptLine = Mapped kept_meaning KeptSays

-- ---- refusal 13

-- The line of Wish 1 starts here: what stands before is a label, a blank and a mark, and goes on no more.
pub record LineStarts (s : List ℕ) (at : ℕ) : Type 0 where
  pub within : at ≤ length s
  pub said : Said × Said
  pub head : HeadSays (take at s) said
  pub ends : at < length s → GoesOn HeadSays (take (at + 1) s) → ⊥

-- "a line over 512 bytes first, with 512", counted from where it starts; else the first byte at which no signature line goes on, or the
-- length.
pub data KeptRefused (s : List ℕ) : ℕ → Type 0 where
  too_long : {at : ℕ} → LineStarts s at → longest < length s - at → KeptRefused s (at + longest)
  goes_on_no_more
      : {at : ℕ} → ((start : ℕ) → LineStarts s start → length s - start ≤ longest) → Refused KeptLine s at → KeptRefused s at

-- A signature line that is short enough to be read, and its meaning.
pub record KeptMeans (s : List ℕ) (m : LineMeaning) : Type 0 where
  pub says : KeptLine s m
  pub short : (start : ℕ) → LineStarts s start → length s - start ≤ longest
