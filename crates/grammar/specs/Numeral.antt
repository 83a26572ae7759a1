-- Numbers in decimal: any number of leading zeros, then the digits of a number up to a bound.
use Rattle.std.specs.Prelude.{ℕ, ◌+◌, ◌*◌, ◌-◌, ◌<◌, ◌≤◌, ◌≡◌, Bool, true, List, [], ◌∷◌, length}

-- Every byte is a digit, 0x30 to 0x39.
abbrev pub Digits : List ℕ → Type 0
Digits [] = Unit
Digits (b ∷ bs) = (48 ≤ b) × (b < 58) × Digits bs

-- The number that a row of digits says after those that said n.
abbrev pub decimal_value : ℕ → List ℕ → ℕ
decimal_value n [] = n
decimal_value n (b ∷ bs) = decimal_value (n * 10 + (b - 48)) bs

-- A numeral: digits, at least one, of a number that is at most the bound and wanted.
pub record Numeral (max : ℕ) (wanted : ℕ → Bool) (w : List ℕ) (n : ℕ) : Type 0 where
  pub some : 0 < length w
  pub digits : Digits w
  pub says : decimal_value 0 w ≡ n
  pub small : n ≤ max
  pub meant : wanted n ≡ true

-- Every number is wanted.
unfoldable pub any : ℕ → Bool
any n = true
