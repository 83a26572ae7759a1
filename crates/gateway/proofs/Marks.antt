-- The two marks of an answer for C: each is read whatever the other is, and no other bit is set.
use Rattle.std.specs.Prelude.{Option, Some, None}
use mathlib.Core.Path.{◌≡◌, refl}
use mathlib.Core.Bool.{Bool, true, false, cond}
use Prim.Native.Nat.{ℕ, ◌/◌, ◌%◌, ◌<◌}
use native.Mathlib.Omega.{arith}
use lib.Dec.{eqb}
use Rattle.gateway.specs.Parts.{hops_of, generic_mark, marks_of}

pub hops_back
    : (h : Option ℕ) (generic : Bool) → cond (eqb (marks_of h generic % 2) 0) None (Some (hops_of h)) ≡ h
hops_back None true = refl
hops_back None false = refl
hops_back (Some d) true = refl
hops_back (Some d) false = refl

pub generic_back : (h : Option ℕ) (generic : Bool) → eqb (marks_of h generic / 4 % 2) 1 ≡ generic
generic_back None true = refl
generic_back None false = refl
generic_back (Some d) true = refl
generic_back (Some d) false = refl

pub bits_0_and_2 : (h : Option ℕ) (generic : Bool) → (marks_of h generic / 2 % 2 ≡ 0) × (marks_of h generic < 8)
bits_0_and_2 None true = (refl, omega arith)
bits_0_and_2 None false = (refl, omega arith)
bits_0_and_2 (Some d) true = (refl, omega arith)
bits_0_and_2 (Some d) false = (refl, omega arith)

-- Without a TTL out of range there is no distance.
pub no_distance : (h : Option ℕ) (generic : Bool) → marks_of h generic % 2 ≡ 0 → hops_of h ≡ 0
no_distance None generic e = refl
no_distance (Some d) true e = absurd (omega arith)
no_distance (Some d) false e = absurd (omega arith)

pub not_far : (generic : Bool) → generic_mark generic % 2 ≡ 0
not_far true = refl
not_far false = refl

-- One more mark fits a byte.
pub mark_fits : (generic : Bool) {m : ℕ} → m ≡ generic_mark generic → m < 5
mark_fits true e = omega arith
mark_fits false e = omega arith
