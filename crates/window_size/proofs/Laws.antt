-- The row that the code holds gives the multiplier of the twelve.
use Rattle.std.specs.Prelude.{Option, Some, None}
use mathlib.Core.Path.{◌≡◌, refl, sym}
use mathlib.Core.Bool.{Bool, true, false, cond, not, ◌&&◌, false≢true}
use mathlib.Core.List.{List, [], ◌∷◌, map}
use Prim.Native.Nat.{ℕ, zero, suc, ◌+◌, ◌-◌, ◌<◌, ◌≤◌, min}
use native.Mathlib.Omega.{arith}
use native.Mathlib.Numerals.{add-one}
use lib.Dec.{eqb}
use lib.ListN.{length, get_or, drop, drop_of_length-le}
use lib.Seq.{drop-cons}
use borrow.Author.Tests.{ne_eqb}
use Rattle.window_size.specs.declared.Divisor.{Divisor}
use Rattle.window_size.specs.declared.WindowMultiplier.{WindowMultiplier}
use Rattle.window_size.specs.Divisors.{Candidate, twelve, held, holding, divides}
use Rattle.window_size.specs.Multiplier.{quotient, first_multiple}

-- A divisor of an MSS, or of an MTU, as the code holds it.
abbrev pub mss : ℕ → Divisor
mss n = record { size = n; of_mtu = false }

abbrev pub mtu : ℕ → Divisor
mtu n = record { size = n; of_mtu = true }

-- A divisor of the peer's MSS needs no test of the peer: it is 0 where the peer is.
pub of_peer : (peer n : ℕ) → (peer ≡ 0 → n ≡ 0) → cond (not (eqb peer 0)) n 0 ≡ n
of_peer zero n h = sym (h refl)
of_peer (suc peer) n h = rw (ne_eqb (suc peer) 0 (omega arith))

-- The row as the code makes it, from what it calls.
pub row_held
    : (own headers peer : ℕ) (stamped v6 : Bool) {less stamp v6-40 v6-52 to-40 to-headers to-60 v6-60 peer-less : ℕ}
    → less ≡ own - 12
    → stamp ≡ cond stamped less 0
    → v6-40 ≡ cond v6 1440 0
    → v6-52 ≡ cond v6 1428 0
    → to-40 ≡ min (own + 40) 65535
    → to-headers ≡ min (own + headers) 65535
    → to-60 ≡ min (own + 60) 65535
    → v6-60 ≡ cond v6 to-60 0
    → peer-less ≡ peer - 12
    → mss own ∷ mss stamp ∷ mss 1460 ∷ mss 1448 ∷ mss v6-40 ∷ mss v6-52 ∷ mtu to-40 ∷ mtu to-headers ∷ mtu v6-60 ∷ mtu 1500
    ∷ mss peer ∷ mss peer-less ∷ []
    ≡ map held (twelve own headers stamped v6 peer)
unfolding twelve
row_held own headers peer stamped v6 less stamp v6-40 v6-52 to-40 to-headers to-60 v6-60 peer-less =
    rw (stamp, less, v6-40, v6-52, to-40, to-headers, v6-60, to-60, peer-less)
    (rw (of_peer peer peer (λ e. e), of_peer peer (peer - 12) (λ e. omega arith)))

pub divides_nonzero : (size window : ℕ) → divides size window ≡ true → size ≡ 0 → ⊥
unfolding divides
divides_nonzero zero window e z = false≢true e
divides_nonzero (suc size) window e z = omega arith

-- ---- 0 stands for a divisor that does not apply

one_held
    : (window : ℕ) (c : Candidate) (rest : Option WindowMultiplier)
    → cond (divides (held c).size window) (Some (quotient window (held c).size c.of_mtu)) rest
    ≡ cond (c.applies && divides c.size window) (Some (quotient window c.size c.of_mtu)) rest
unfolding divides
one_held window c rest = by_applies c.applies
  where
    by_applies
        : (a : Bool)
        → cond (divides (cond a c.size 0) window) (Some (quotient window (cond a c.size 0) c.of_mtu)) rest
        ≡ cond (a && divides c.size window) (Some (quotient window c.size c.of_mtu)) rest
    by_applies true = refl
    by_applies false = refl

pub first_held : (window : ℕ) (cs : List Candidate) → first_multiple window (map holding (map held cs)) ≡ first_multiple window cs
unfolding first_multiple
first_held window [] = refl
first_held window (c ∷ cs) = rw (first_held window cs) (one_held window c (first_multiple window cs))

-- ---- one turn of the loop, and its end

-- The divisor at a place; past the end, none.
abbrev pub divisor_at : List Divisor → ℕ → Divisor
divisor_at ds i = get_or ds i (record { size = 0; of_mtu = false })

module _ (window : ℕ) (ds : List Divisor) (i : ℕ) (inside : i < length ds) where
  pub turn_hit
      : divides (divisor_at ds i).size window ≡ true
      → first_multiple window (map holding (drop i ds)) ≡ Some (quotient window (divisor_at ds i).size (divisor_at ds i).of_mtu)
  unfolding first_multiple
  turn_hit e = rw (drop-cons ds i (record { size = 0; of_mtu = false }) inside, e)

  pub turn_miss
      : divides (divisor_at ds i).size window ≡ false
      → first_multiple window (map holding (drop (i + 1) ds)) ≡ first_multiple window (map holding (drop i ds))
  unfolding first_multiple
  turn_miss e = rw (drop-cons ds i (record { size = 0; of_mtu = false }) inside, e, add-one)

pub turns_end : (window : ℕ) (ds : List Divisor) (i : ℕ) → length ds ≤ i → first_multiple window (map holding (drop i ds)) ≡ None
unfolding first_multiple
turns_end window ds i h = rw (drop_of_length-le ds h)

-- ---- the first of the twelve

pub own_first
    : (window own headers peer : ℕ) (stamped v6 : Bool)
    → divides own window ≡ true
    → first_multiple window (twelve own headers stamped v6 peer) ≡ Some (quotient window own false)
unfolding first_multiple twelve
own_first window own headers peer stamped v6 e = rw e
