-- The rest of a numeral, one digit at a time.
use Prim.Native.Nat.{ℕ, ◌+◌, ◌*◌, ◌-◌, ◌<◌, ◌≤◌}
use mathlib.Core.Path.{◌≡◌, refl}
use mathlib.Core.Bool.{Bool, true, ◌&&◌}
use mathlib.Core.List.{List, [], ◌∷◌}
use native.Mathlib.Omega.{arith}
use lib.Dec.{ltb, leb}
use borrow.Author.Tests.{leb-true, ltb-true, le-leb, lt-ltb}
use Rattle.basis.proofs.Tests.{and_left, and_right}
use Rattle.grammar.specs.Language.{GoesOn}
use Rattle.grammar.specs.Numeral.{Digits, decimal_value, Numeral, any}
use Rattle.grammar.specs.States.{fits}

-- The rest of a numeral whose digits so far say n.
pub record From (max : ℕ) (wanted : ℕ → Bool) (n : ℕ) (w : List ℕ) (m : ℕ) : Type 0 where
  pub digits : Digits w
  pub says : decimal_value n w ≡ m
  pub small : m ≤ max
  pub meant : wanted m ≡ true

-- A digit only makes a number larger.
pub grows : (n : ℕ) (w : List ℕ) → n ≤ decimal_value n w
grows n [] = omega arith
grows n (b ∷ w) = omega (arith, grows (n * 10 + (b - 48)) w)

pub fits_digit : (max n b : ℕ) → fits max n b ≡ true → (48 ≤ b) × (b < 58) × (n * 10 + (b - 48) ≤ max)
unfolding fits
fits_digit max n b e =
    let l = and_left (leb 48 b && ltb b 58) (leb (n * 10 + (b - 48)) max) e in (
      leb-true 48 b (and_left (leb 48 b) (ltb b 58) l),
      ltb-true b 58 (and_right (leb 48 b) (ltb b 58) l),
      leb-true (n * 10 + (b - 48)) max (and_right (leb 48 b && ltb b 58) (leb (n * 10 + (b - 48)) max) e),
    )

pub digit_fits : (max n b : ℕ) → 48 ≤ b → b < 58 → n * 10 + (b - 48) ≤ max → fits max n b ≡ true
unfolding fits
digit_fits max n b h k l = rw (le-leb 48 b h, lt-ltb b 58 k, le-leb (n * 10 + (b - 48)) max l)

-- The rest after one digit more, both ways, and a whole numeral as its first digit and the rest.
pub after_from : (max : ℕ) (wanted : ℕ → Bool) (n b : ℕ) (w : List ℕ) (m : ℕ) → From max wanted n (b ∷ w) m
    → (fits max n b ≡ true) × From max wanted (n * 10 + (b - 48)) w m
after_from max wanted n b w m f = (
  digit_fits max n b f.digits.0 f.digits.1 (omega (arith, grows (n * 10 + (b - 48)) w, f.says, f.small)),
  record { digits = f.digits.2; says = f.says; small = f.small; meant = f.meant },
)

pub from_after : (max : ℕ) (wanted : ℕ → Bool) (n b : ℕ) → fits max n b ≡ true → (w : List ℕ) (m : ℕ)
    → From max wanted (n * 10 + (b - 48)) w m → From max wanted n (b ∷ w) m
from_after max wanted n b e w m f =
    let d = fits_digit max n b e in
    record { digits = (d.0, d.1, f.digits); says = f.says; small = f.small; meant = f.meant }

pub numeral_from : (max : ℕ) (wanted : ℕ → Bool) (b : ℕ) (w : List ℕ) (m : ℕ) → Numeral max wanted (b ∷ w) m → From max wanted 0 (b ∷ w) m
numeral_from max wanted b w m f = record { digits = f.digits; says = f.says; small = f.small; meant = f.meant }

pub from_numeral : (max : ℕ) (wanted : ℕ → Bool) (b : ℕ) (w : List ℕ) (m : ℕ) → From max wanted 0 (b ∷ w) m → Numeral max wanted (b ∷ w) m
from_numeral max wanted b w m f =
    record { some = omega arith; digits = f.digits; says = f.says; small = f.small; meant = f.meant }

-- ---- which numbers live

pub any_lives : (max n : ℕ) → n ≤ max → GoesOn (From max any n) []
unfolding any
any_lives max n h = record { tail = []; meaning = n; derives = record { digits = tt; says = refl; small = h; meant = refl } }
