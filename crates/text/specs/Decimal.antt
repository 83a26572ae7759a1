-- Numbers in decimal ("refusals in decimal", "`syn exact 7`": document 01, "The bundle program"), and the end of a line.
use Rattle.std.specs.Prelude.{ℕ, ◌+◌, ◌-◌, ◌/◌, ◌%◌, cond, List, [], ◌∷◌, ltb, drop}

abbrev pub newline : List ℕ
newline = 10 ∷ []

-- How many digits a number under 100,000 has.
unfoldable pub width : ℕ → ℕ
width n = cond (ltb n 10) 1 (cond (ltb n 100) 2 (cond (ltb n 1000) 3 (cond (ltb n 10000) 4 5)))

-- Five decimal digits, the highest first.
abbrev pub five_digits : ℕ → List ℕ
five_digits n =
    (48 + n / 10000 % 10) ∷ (48 + n / 1000 % 10) ∷ (48 + n / 100 % 10) ∷ (48 + n / 10 % 10) ∷ (48 + n % 10) ∷ []

-- A number under 100,000 in decimal, without leading zeros.
unfoldable pub decimal : ℕ → List ℕ
decimal n = drop (5 - width n) (five_digits n)
