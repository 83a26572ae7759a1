-- The twelve divisors of a window (document 01, module 3, and the original's list, which it orders as it stands).
use Rattle.std.specs.Prelude.{◌≡◌, ℕ, ◌+◌, ◌-◌, ◌%◌, ◌<◌, min, Bool, true, false, cond, not, ◌&&◌, List, [], ◌∷◌, eqb, length, get_or}
use Rattle.std.specs.Prelude.{Option, Some, None}
use Rattle.tcp.specs.declared.IpVersion.{IpVersion}
use Rattle.tcp.specs.declared.IpVersion.TheVariants as version
use Rattle.window_size.specs.declared.Divisor.{Divisor}

-- One of the twelve: whether it applies, its size, and whether it is an MTU.
pub record Candidate : Type 0 where
  pub applies : Bool
  pub size : ℕ
  pub of_mtu : Bool

-- An MSS, or an MTU, of a size, where it applies.
abbrev pub mss_divisor : Bool → ℕ → Candidate
mss_divisor a n = record { applies = a; size = n; of_mtu = false }

abbrev pub mtu_divisor : Bool → ℕ → Candidate
mtu_divisor a n = record { applies = a; size = n; of_mtu = true }

-- A sum that stops at the largest 16-bit number. (A difference that stops at 0 is the `-` of natural numbers.)
abbrev pub up_to65535 : ℕ → ℕ
up_to65535 n = min n 65535

abbrev pub is_v6 : IpVersion → Bool
is_v6 version.V4 = false
is_v6 version.V6 = true

-- "A zero peer MSS counts as absent": the peer's MSS as a number, 0 where there is none.
abbrev pub peer_size : Option ℕ → ℕ
peer_size None = 0
peer_size (Some n) = n

-- The twelve, in order: of the own MSS, the bytes of both headers, whether the own timestamp is nonzero,
-- whether the packet is IPv6, and the peer's MSS. 1500 is Ethernet's MTU, 40 and 60 the least headers over
-- IPv4 and IPv6, 12 a timestamps option with its padding.
unfoldable pub twelve : ℕ → ℕ → Bool → Bool → ℕ → List Candidate
twelve own headers stamped v6 peer =
    mss_divisor true own
    ∷ mss_divisor stamped (own - 12)
    ∷ mss_divisor true (1500 - 40)
    ∷ mss_divisor true (1500 - 40 - 12)
    ∷ mss_divisor v6 (1500 - 60)
    ∷ mss_divisor v6 (1500 - 60 - 12)
    ∷ mtu_divisor true (up_to65535 (own + 40))
    ∷ mtu_divisor true (up_to65535 (own + headers))
    ∷ mtu_divisor v6 (up_to65535 (own + 60))
    ∷ mtu_divisor true 1500
    ∷ mss_divisor (not (eqb peer 0)) peer
    ∷ mss_divisor (not (eqb peer 0)) (peer - 12)
    ∷ []

-- What the code holds of a candidate: 0 stands for a size that does not apply.
abbrev pub held : Candidate → Divisor
held c = record { size = cond c.applies c.size 0; of_mtu = c.of_mtu }

-- What it takes of a divisor that it holds: one that applies.
abbrev pub holding : Divisor → Candidate
holding d = record { applies = true; size = d.size; of_mtu = d.of_mtu }

-- The candidate at a place of a row; past its end, one that does not apply.
abbrev pub candidate_at : List Candidate → ℕ → Candidate
candidate_at cs i = get_or cs i (mss_divisor false 0)

-- The test of a size: it is nonzero and divides the window.
unfoldable pub divides : ℕ → ℕ → Bool
divides size window = not (eqb size 0) && eqb (window % size) 0

-- A candidate applies, is nonzero and divides the window.
pub record Divides (window : ℕ) (c : Candidate) : Type 0 where
  pub applies : c.applies ≡ true
  pub nonzero : c.size ≡ 0 → ⊥
  pub divides : window % c.size ≡ 0

-- The first candidate of a row that does so stands at this place.
pub record FirstAt (window : ℕ) (cs : List Candidate) (i : ℕ) : Type 0 where
  pub within : i < length cs
  pub here : Divides window (candidate_at cs i)
  pub before : (j : ℕ) → j < i → Divides window (candidate_at cs j) → ⊥

-- Some candidate of a row applies, is nonzero and divides the window.
pub record SomeOf (window : ℕ) (cs : List Candidate) : Type 0 where
  pub place : ℕ
  pub within : place < length cs
  pub here : Divides window (candidate_at cs place)
