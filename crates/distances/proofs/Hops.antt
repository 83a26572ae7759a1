-- The hops to report are those of a TTL in range, and a guess otherwise.
use Rattle.std.specs.Prelude.{Option, Some, None}
use mathlib.Core.Path.{◌≡◌, refl}
use mathlib.Core.Bool.{Bool, true, false, cond, not, ◌&&◌, ◌||◌}
use Prim.Native.Nat.{ℕ, ◌-◌}
use lib.Dec.{ltb}
use Rattle.ttl.specs.declared.Ttl.{Ttl}
use Rattle.ttl.specs.Ttl.{byte_of, guess_of}
use Rattle.distances.specs.declared.TtlFit.{TtlFit}
use Rattle.distances.specs.declared.TtlFit.TheVariants as ttlfit
use Rattle.distances.specs.Distances.{initial_ttl, is_bad, ttl_fit, reported_hops}

abbrev pub hops_of : Option TtlFit → ℕ → ℕ
hops_of None guess = guess
hops_of (Some (ttlfit.InRange hops)) guess = hops
hops_of (Some (ttlfit.OutOfRange hops)) guess = guess

by_tests
    : (bad above far : Bool) (hops guess : ℕ)
    → cond (above || (not bad && far)) guess hops
    ≡ hops_of
    (cond bad (cond above None (Some (ttlfit.InRange hops)))
    (cond (above || far) (Some (ttlfit.OutOfRange hops)) (Some (ttlfit.InRange hops))))
    guess
by_tests true true far hops guess = refl
by_tests true false far hops guess = refl
by_tests false true far hops guess = refl
by_tests false false true hops guess = refl
by_tests false false false hops guess = refl

pub reported : (o s : Ttl) → reported_hops o s ≡ hops_of (ttl_fit (byte_of o) s) (guess_of (byte_of o))
unfolding reported_hops ttl_fit
reported o s =
    by_tests (is_bad s) (ltb (initial_ttl s) (byte_of o)) (ltb 35 (initial_ttl s - byte_of o)) (initial_ttl s - byte_of o)
    (guess_of (byte_of o))
