-- No number of a text has a leading zero, by the text's bytes alone.
use Rattle.std.specs.Prelude.{ℕ, Bool, true, false, not, ◌&&◌, ◌||◌, List, [], ◌∷◌, eqb, leb, ltb}

-- 0x30 to 0x39
abbrev pub is_digit : ℕ → Bool
is_digit b = leb 48 b && ltb b 58

abbrev pub begins_with_digit : List ℕ → Bool
begins_with_digit [] = false
begins_with_digit (b ∷ s) = is_digit b

-- Of what stands behind a digit, or behind none: a 0 that begins a row of digits is the whole row.
unfoldable pub plain_behind : Bool → List ℕ → Bool
plain_behind digit [] = true
plain_behind digit (b ∷ s) = (digit || not (eqb b 48 && begins_with_digit s)) && plain_behind (is_digit b) s

abbrev pub no_leading_zero : List ℕ → Bool
no_leading_zero = plain_behind false
