-- The options of a TCP header, one by one (RFC 9293, section 3.2; document 01, "Headers and options").
use Rattle.std.specs.Prelude.{ℕ, zero, suc, ◌+◌, ◌-◌, min, max, Bool, cond, ◌&&◌, List, [], ◌∷◌, eqb, ltb, length, take, drop}
use Rattle.basis.specs.Bytes.{byte_at}
use Rattle.one_option.specs.declared.OptionStep.{OptionStep}

-- One option: its kind, and its own bytes after the kind, clipped to what is left.
-- After kind 0 (End of Option List) all that is left counts as its own.
pub record Opt : Type 0 where
  pub kind : ℕ
  pub own : List ℕ

-- "data is what lies after two bytes, clipped"
abbrev pub data_of : Opt → List ℕ
data_of o = drop 1 o.own

-- "its length byte, but 2 if that is absent, 0 or 1" (an absent byte reads as 0)
abbrev pub length_byte : List ℕ → ℕ
length_byte rest = max (byte_at rest 0) 2

-- How many bytes an option asks for after its kind: "kinds 0 and 1 take one byte", but nothing follows kind 0.
unfoldable pub asked : ℕ → List ℕ → ℕ
asked kind rest = cond (eqb kind 0) (length rest) (cond (eqb kind 1) 0 (length_byte rest - 1))

-- It runs past the end: it has fewer bytes than it asks for.
unfoldable pub runs_past : Opt → Bool
runs_past o = ltb (length o.own) (asked o.kind o.own)

-- It has a length byte, and that is "0 or 1"; kinds 0 and 1 have none.
unfoldable pub short_length : Opt → Bool
short_length o = ltb 1 o.kind && (ltb 0 (length o.own) && ltb (byte_at o.own 0) 2)

-- The option of this kind before these bytes.
abbrev pub option_of : ℕ → List ℕ → Opt
option_of kind rest = record { kind = kind; own = take (asked kind rest) rest }

-- The options of a string, after so many bytes of an option that was read already.
unfoldable pub options_after : ℕ → List ℕ → List Opt
options_after skip [] = []
options_after (suc skip) (b ∷ rest) = options_after skip rest
options_after zero (b ∷ rest) = option_of b rest ∷ options_after (asked b rest) rest

-- The options of a string.
abbrev pub options_of : List ℕ → List Opt
options_of = options_after zero

-- An option begins at this place of a string, counted in bytes from 0: the first at 0, and behind one whatever begins in the bytes behind
-- those that it asks for.
pub data OptionBegins : ℕ → List ℕ → Type 0 where
  first : {b : ℕ} {rest : List ℕ} → OptionBegins 0 (b ∷ rest)
  next : {b n : ℕ} {rest : List ℕ} → OptionBegins n (drop (asked b rest) rest) → OptionBegins (suc (asked b rest + n)) (b ∷ rest)

-- ---- one step

-- The option whose kind byte stands at this place; past the end an End of Option List with nothing after it.
abbrev pub option_at : List ℕ → ℕ → Opt
option_at s at = option_of (byte_at s at) (drop (at + 1) s)

-- That option in places of the string: where it ends, "clipped", and what is wrong with it.
unfoldable pub step_of : List ℕ → ℕ → OptionStep
step_of s at =
    record {
      kind = byte_at s at;
      end = min (at + 1 + asked (byte_at s at) (drop (at + 1) s)) (length s);
      past = runs_past (option_at s at);
      short = short_length (option_at s at);
    }
