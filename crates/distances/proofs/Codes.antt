-- What an observed payload or version asks of a record's code, read off the code itself.
use mathlib.Core.Path.{◌≡◌, refl}
use mathlib.Core.Bool.{not}
use Prim.Native.Nat.{ℕ, zero, suc}
use native.Mathlib.Omega.{arith}
use lib.Dec.{eqb}
use borrow.Author.Tests.{ne_eqb}
use Rattle.tcp.specs.declared.PayloadSize.TheVariants as payload
use Rattle.tcp.specs.declared.IpVersion.TheVariants as version
use Rattle.distances.specs.DistanceGates.{payload_matches, version_matches}
use Rattle.sigrecord.specs.Record.{payload_of, version_of}

pub empty_passes : (code : ℕ) → not (eqb code 1) ≡ payload_matches payload.Zero (payload_of code)
unfolding payload_of payload_matches
empty_passes zero = refl
empty_passes (suc zero) = refl
empty_passes (suc (suc n)) = rw (ne_eqb (suc (suc n)) 0 (λ e. omega arith), ne_eqb (suc (suc n)) 1 (λ e. omega arith))

pub data_passes : (code : ℕ) → not (eqb code 0) ≡ payload_matches payload.NonZero (payload_of code)
unfolding payload_of payload_matches
data_passes zero = refl
data_passes (suc zero) = refl
data_passes (suc (suc n)) = rw (ne_eqb (suc (suc n)) 0 (λ e. omega arith), ne_eqb (suc (suc n)) 1 (λ e. omega arith))

pub v4_passes : (code : ℕ) → not (eqb code 6) ≡ version_matches version.V4 (version_of code)
unfolding version_of version_matches
v4_passes zero = refl
v4_passes (suc zero) = refl
v4_passes (suc (suc zero)) = refl
v4_passes (suc (suc (suc zero))) = refl
v4_passes (suc (suc (suc (suc zero)))) = refl
v4_passes (suc (suc (suc (suc (suc zero))))) = refl
v4_passes (suc (suc (suc (suc (suc (suc zero)))))) = refl
v4_passes (suc (suc (suc (suc (suc (suc (suc n))))))) =
    rw (
      ne_eqb (suc (suc (suc (suc (suc (suc (suc n))))))) 4 (λ e. omega arith),
      ne_eqb (suc (suc (suc (suc (suc (suc (suc n))))))) 6 (λ e. omega arith),
    )

pub v6_passes : (code : ℕ) → not (eqb code 4) ≡ version_matches version.V6 (version_of code)
unfolding version_of version_matches
v6_passes zero = refl
v6_passes (suc zero) = refl
v6_passes (suc (suc zero)) = refl
v6_passes (suc (suc (suc zero))) = refl
v6_passes (suc (suc (suc (suc zero)))) = refl
v6_passes (suc (suc (suc (suc (suc zero))))) = refl
v6_passes (suc (suc (suc (suc (suc (suc zero)))))) = refl
v6_passes (suc (suc (suc (suc (suc (suc (suc n))))))) =
    rw (
      ne_eqb (suc (suc (suc (suc (suc (suc (suc n))))))) 4 (λ e. omega arith),
      ne_eqb (suc (suc (suc (suc (suc (suc (suc n))))))) 6 (λ e. omega arith),
    )
