-- Laws of a search and of tests that no proof cites any more.
use Rattle.std.proofs.Common.{◌≡◌, ◌≤◌, ◌<◌, ◌+◌, refl, ℕ, zero, suc, Bool, true, false, List, arith}
use mathlib.Core.Bool.{false≢true}
use native.Mathlib.Decide.{dec_le}
use Rattle.basis.specs.Tests.{all_below}
use Rattle.matching.specs.declared.Features.{Features}
use Rattle.matching.specs.declared.SignatureFit.{SignatureFit}
use Rattle.matching.specs.declared.SignatureFit.TheVariants as fit
use Rattle.matching.specs.Fit.{passes}
use Rattle.found.specs.Rank.{is_none}
use Rattle.siglist.specs.List.{record_at}

-- A fit that is said to be none is.
pub is_none_lem : (x : SignatureFit) → is_none x ≡ true → x ≡ fit.None
is_none_lem fit.None e = refl
is_none_lem fit.Exact e = absurd (false≢true e)
is_none_lem (fit.Fuzzy r) e = absurd (false≢true e)

-- Every record between two fails the gates, and so does one more.
pub one_farther
    : (f : Features) (l : List ℕ) (from i : ℕ)
    → ((k : ℕ) → from ≤ k → k < i → passes f (record_at l k) ≡ false)
    → passes f (record_at l i) ≡ false
    → (k : ℕ)
    → from ≤ k
    → k < i + 1
    → passes f (record_at l k) ≡ false
one_farther f l from i before here k start end =
    elim (dec_le i k) [ yes h ↦ (let e : k ≡ i = omega arith in rw e here) | no h ↦ before k start (omega arith) ]

-- A test that holds of each number below a bound holds of all.
pub all_below_lem : (f : ℕ → Bool) (n : ℕ) → ((k : ℕ) → k < n → f k ≡ true) → all_below f n ≡ true
unfolding all_below
all_below_lem f zero h = refl
all_below_lem f (suc n) h = rw (h n (omega arith)) (all_below_lem f n (λ k l. h k (omega arith)))
