-- Laws of the TTL reading.
use mathlib.Core.Path.{◌≡◌, refl, sym}
use mathlib.Core.Bool.{Bool, true, false, cond}
use Prim.Native.Nat.{ℕ}
use native.Mathlib.Omega.{arith}
use lib.Dec.{leb, eqb}
use borrow.Author.Tests.{eqb-true}
use Rattle.ttl.specs.declared.Ttl.TheVariants.{Value, Distance, Guess, Bad}
use Rattle.ttl.specs.Ttl.{guess_of, reading_of, byte_of}

-- "The reader never gives Guess."
pub never_guess : (t g : ℕ) → reading_of t ≡ Guess g → ⊥
unfolding reading_of
never_guess t g = by_cases (eqb t 0) (leb (guess_of t) 30)
  where
    by_cases : (zero? near? : Bool) → cond zero? (Bad 0) (cond near? (Distance t (guess_of t)) (Value t)) ≡ Guess g → ⊥
    by_cases true near? e = let z : ◌≡◌ {A = ℕ} 0 1 = cc in omega arith
    by_cases false true e = let z : ◌≡◌ {A = ℕ} 0 1 = cc in omega arith
    by_cases false false e = let z : ◌≡◌ {A = ℕ} 0 1 = cc in omega arith

-- A reading keeps the byte that it was made from.
pub byte_of_reading : (t : ℕ) → byte_of (reading_of t) ≡ t
unfolding reading_of
byte_of_reading t = by_cases (eqb t 0) (leb (guess_of t) 30) (eqb-true t 0)
  where
    by_cases
        : (zero? near? : Bool)
        → (zero? ≡ true → t ≡ 0)
        → byte_of (cond zero? (Bad 0) (cond near? (Distance t (guess_of t)) (Value t))) ≡ t
    by_cases true near? e = sym (e refl)
    by_cases false true e = refl
    by_cases false false e = refl
