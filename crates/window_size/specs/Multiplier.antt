-- The multiplier of a window (document 01, module 3).
use Rattle.std.specs.Prelude.{◌≡◌, ℕ, ◌/◌, Bool, cond, ◌&&◌, List, [], ◌∷◌, eqb, ltb, Option, Some, None}
use Rattle.tcp.specs.declared.IpVersion.{IpVersion}
use Rattle.window_size.specs.declared.WindowMultiplier.{WindowMultiplier}
use Rattle.window_size.specs.Divisors.{Candidate, candidate_at, FirstAt, is_v6, peer_size, twelve, divides}

-- The window over a divisor, of the MTU where the divisor is one.
abbrev pub quotient : ℕ → ℕ → Bool → WindowMultiplier
quotient window size of_mtu = record { multiple = window / size; of_mtu = of_mtu }

-- The window over the first candidate that applies, is nonzero and divides it.
unfoldable pub first_multiple : ℕ → List Candidate → Option WindowMultiplier
first_multiple window [] = None
first_multiple window (c ∷ cs) =
    cond (c.applies && divides c.size window)
    (Some (quotient window c.size c.of_mtu))
    (first_multiple window cs)

-- "MSS absent or MSS under 100: none."
abbrev pub by_mss : ℕ → Option ℕ → ℕ → Bool → IpVersion → Option ℕ → Option WindowMultiplier
by_mss window None headers stamped version peer = None
by_mss window (Some own) headers stamped version peer =
    cond (ltb own 100) None (first_multiple window (twelve own headers stamped (is_v6 version) (peer_size peer)))

-- "Window 0 ..: none."
unfoldable pub multiplier_of : ℕ → Option ℕ → ℕ → Bool → IpVersion → Option ℕ → Option WindowMultiplier
multiplier_of window own headers stamped version peer =
    cond (eqb window 0) None (by_mss window own headers stamped version peer)

-- A multiplier of a row, with the place of the first such candidate that it is the quotient of.
pub record FirstOf (window : ℕ) (cs : List Candidate) (m : WindowMultiplier) : Type 0 where
  pub place : ℕ
  pub is_first : FirstAt window cs place
  pub is_quotient : m ≡ quotient window (candidate_at cs place).size (candidate_at cs place).of_mtu
