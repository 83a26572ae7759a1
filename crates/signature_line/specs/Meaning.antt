-- What the fields of a line mean, as a record of the signature list and its layout (document 01, "The signature list"): label, byte 21
-- and first entry are 0.
use Rattle.std.specs.Prelude.{ℕ, ◌-◌, ◌/◌, ◌%◌, cond, List, [], ◌∷◌, ◌++◌, eqb, length, replicate}
use Rattle.std.specs.Int.Bits.{bit_or}
use Rattle.tcp.specs.declared.Layout.{Layout}
use Rattle.grammar.specs.Table.{Said}

-- What each field says.
pub record Fields : Type 0 where
  pub version : Said
  pub ttl : Said
  pub ttl_form : Said
  pub olen : Said
  pub mss : Said
  pub window : Said
  pub scale : Said
  pub layout : List Said
  pub quirks : List Said
  pub payload : Said

-- "A layout entry is an option kind and a byte: bytes left after kind 0, else 0."
unfoldable pub kind_said : Said → ℕ
kind_said e = cond (eqb e.form 6) e.number e.form

unfoldable pub byte_said : Said → ℕ
byte_said e = cond (eqb e.form 0) e.number 0

abbrev pub each : (Said → ℕ) → List Said → List ℕ
each f [] = []
each f (e ∷ rest) = f e ∷ each f rest

-- Forty places, 0 past those that are taken.
abbrev pub padded : List ℕ → List ℕ
padded s = s ++ replicate (40 - length s) 0

unfoldable pub layout_of : List Said → Layout
layout_of entries =
    record { kinds = padded (each kind_said entries); bytes = padded (each byte_said entries); count = length entries }

-- The bits of all quirks that are named, in any order and any number of times.
unfoldable pub union_from : ℕ → List Said → ℕ
union_from bits [] = bits
union_from bits (q ∷ rest) = union_from (bit_or bits q.form) rest

-- The record's 24 bytes; numbers of two and four bytes have their high byte first.
unfoldable pub raw_of : Fields → List ℕ
raw_of f =
    let quirks = union_from 0 f.quirks in
    f.version.form
    ∷ f.ttl_form.form
    ∷ f.ttl.number
    ∷ f.ttl_form.number
    ∷ f.olen.number
    ∷ f.mss.form
    ∷ f.mss.number / 256
    ∷ f.mss.number % 256
    ∷ f.window.form
    ∷ f.window.number / 256
    ∷ f.window.number % 256
    ∷ f.scale.form
    ∷ f.scale.number
    ∷ f.payload.form
    ∷ quirks / 16777216
    ∷ quirks / 65536 % 256
    ∷ quirks / 256 % 256
    ∷ quirks % 256
    ∷ 0
    ∷ 0
    ∷ length f.layout
    ∷ 0
    ∷ 0
    ∷ 0
    ∷ []

-- The record and the layout of a line.
pub record LineMeaning : Type 0 where
  pub raw : List ℕ
  pub layout : Layout

abbrev pub meaning_of : Fields → LineMeaning
meaning_of f = record { raw = raw_of f; layout = layout_of f.layout }
