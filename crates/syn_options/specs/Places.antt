-- Where an option string is damaged (document 02, Wish 5): "the place of the first option that runs past the end and of the first whose
-- length byte is 0 or 1". A place is the offset of the option's kind byte, from 0; that there is none is a case of its own. What begins at
-- an offset is said by `OptionBegins` (crate `one_option`); that these are the first places in that sense is a theorem (`TheFirst`, below).
use Rattle.std.specs.Prelude.{◌≡◌, ℕ, suc, ◌+◌, ◌≤◌, min, Bool, true, false, cond, List, [], ◌∷◌, length, Option, Some, None}
use Rattle.syn_options.specs.declared.Places.{Places}
use Rattle.one_option.specs.Options.{Opt, runs_past, short_length, options_of, option_at, OptionBegins}

-- How many bytes an option takes: its kind byte, and its own.
abbrev pub size_of : Opt → ℕ
size_of o = suc (length o.own)

-- The first option of a row that meets a test; the row begins at this place.
unfoldable pub first_from : (Opt → Bool) → ℕ → List Opt → Option ℕ
first_from test at [] = None
first_from test at (o ∷ os) = cond (test o) (Some at) (first_from test (at + size_of o) os)

-- The first of a string.
abbrev pub first_of : (Opt → Bool) → List ℕ → Option ℕ
first_of test s = first_from test 0 (options_of s)

abbrev pub places_of : List ℕ → Places
places_of s = record { past = first_of runs_past s; short = first_of short_length s }

abbrev pub no_places : Places
no_places = record { past = None; short = None }

-- The earlier of two places.
unfoldable pub earlier : Option ℕ → Option ℕ → Option ℕ
earlier None other = other
earlier (Some m) None = Some m
earlier (Some m) (Some n) = Some (min m n)

-- ---- what the first place is

-- No option of the string meets the test; or one that begins at this place does, and none before it.
pub data TheFirst (test : Opt → Bool) (s : List ℕ) : Option ℕ → Type 0 where
  none : ((j : ℕ) → OptionBegins j s → test (option_at s j) ≡ false) → TheFirst test s None
  at
      : {k : ℕ}
      → OptionBegins k s
      → test (option_at s k) ≡ true
      → ((j : ℕ) → OptionBegins j s → test (option_at s j) ≡ true → k ≤ j)
      → TheFirst test s (Some k)
