-- Where a search goes on: every record that it leaves out fails the gates.
use Rattle.std.specs.Prelude.{◌≡◌, ℕ, ◌≤◌, ◌<◌, Bool, true, false, List}
use Rattle.matching.specs.declared.Features.{Features}
use Rattle.siglist.specs.List.{record_at}
use Rattle.matching.specs.Fit.{passes}

-- The first of n records from one on that passes the gates, or n.
pub record Next (f : Features) (l : List ℕ) (n from r : ℕ) : Type 0 where
  pub reached : from ≤ r
  pub within : r ≤ n
  pub candidate : r < n → passes f (record_at l r) ≡ true
  pub between : (k : ℕ) → from ≤ k → k < r → passes f (record_at l k) ≡ false

-- The same of any test: every record that is left out fails it.
pub record NextOf (test : List ℕ → Bool) (l : List ℕ) (n from r : ℕ) : Type 0 where
  pub reached : from ≤ r
  pub within : r ≤ n
  pub candidate : r < n → test (record_at l r) ≡ true
  pub between : (k : ℕ) → from ≤ k → k < r → test (record_at l k) ≡ false
