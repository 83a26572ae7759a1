-- The multiplier in the words of demand 2: given exactly if one of the twelve divisors applies, is nonzero and divides the
-- window; then it is the window over the first such, of the MTU exactly where that divisor is one of the MTU's.
use Rattle.std.specs.Prelude.{Option, Some, None}
use mathlib.Core.Path.{◌≡◌, refl, sym, ◌∙◌}
use mathlib.Core.Bool.{Bool, true, false, cond, not, ◌&&◌, false≢true}
use mathlib.Core.Logic.{◌↔◌}
use mathlib.Core.List.{List, [], ◌∷◌}
use Prim.Native.Nat.{ℕ, zero, suc, ◌%◌, ◌<◌, ◌≤◌}
use native.Mathlib.Omega.{arith}
use lib.Dec.{eqb}
use lib.ListN.{length}
use borrow.Author.Tests.{eq-eqb, ne_eqb, le-ltb, eqb-true}
use Rattle.basis.proofs.Tests.{and_left, and_right}
use Rattle.tcp.specs.declared.IpVersion.{IpVersion}
use Rattle.window_size.specs.declared.WindowMultiplier.{WindowMultiplier}
use Rattle.window_size.specs.Divisors.{Candidate, candidate_at, Divides, FirstAt, SomeOf, divides, is_v6, peer_size, twelve}
use Rattle.window_size.specs.Multiplier.{quotient, first_multiple, multiplier_of, FirstOf}
use Rattle.window_size.proofs.Laws.{divides_nonzero}

-- ---- the test of one candidate

test : ℕ → Candidate → Bool
test window c = c.applies && divides c.size window

test_divides : (window : ℕ) (c : Candidate) → test window c ≡ true → Divides window c
unfolding test divides
test_divides window c e =
    let both = and_right c.applies (divides c.size window) e in
    record {
      applies = and_left c.applies (divides c.size window) e;
      nonzero = divides_nonzero c.size window both;
      divides = eqb-true _ 0 (and_right (not (eqb c.size 0)) (eqb (window % c.size) 0) both);
    }

divides_test : (window : ℕ) (c : Candidate) → Divides window c → test window c ≡ true
unfolding test divides
divides_test window c h = rw (h.applies, ne_eqb c.size 0 h.nonzero, eq-eqb (window % c.size) 0 h.divides)

-- ---- a row gives the quotient by its first such candidate, or nothing if there is none

-- What a row answers: the place of its first such candidate, or that there is none.
data Answer (window : ℕ) (cs : List Candidate) : Option WindowMultiplier → Type 0 where
  first
      : (i : ℕ)
      → FirstAt window cs i
      → Answer window cs (Some (quotient window (candidate_at cs i).size (candidate_at cs i).of_mtu))
  none : ((i : ℕ) → i < length cs → Divides window (candidate_at cs i) → ⊥) → Answer window cs None

later
    : (window : ℕ) (c : Candidate) (cs : List Candidate) {m : Option WindowMultiplier}
    → test window c ≡ false
    → Answer window cs m
    → Answer window (c ∷ cs) m
later window c cs miss (first i at) =
    first (suc i) (record { within = omega (arith, at.within); here = at.here; before = before })
  where
    before : (j : ℕ) → j < suc i → Divides window (candidate_at (c ∷ cs) j) → ⊥
    before zero h d = false≢true (sym miss ∙ divides_test window c d)
    before (suc j) h d = at.before j (omega arith) d
later window c cs miss (none no_one) = none all
  where
    all : (i : ℕ) → i < length (c ∷ cs) → Divides window (candidate_at (c ∷ cs) i) → ⊥
    all zero h d = false≢true (sym miss ∙ divides_test window c d)
    all (suc i) h d = no_one i (omega arith) d

answer : (window : ℕ) (cs : List Candidate) → Answer window cs (first_multiple window cs)
unfolding first_multiple test
answer window [] = none (λ i h d. omega arith)
answer window (c ∷ cs) = by_test (test window c) refl (answer window cs)
  where
    by_test
        : (t : Bool)
        → test window c ≡ t
        → Answer window cs (first_multiple window cs)
        → Answer window (c ∷ cs) (cond t (Some (quotient window c.size c.of_mtu)) (first_multiple window cs))
    by_test true hit rest =
        first zero (record { within = omega arith; here = test_divides window c hit; before = λ j h d. omega arith })
    by_test false miss rest = later window c cs miss rest

first_of
    : (window : ℕ) (cs : List Candidate) {a : Option WindowMultiplier} (m : WindowMultiplier)
    → Answer window cs a
    → a ≡ Some m
    → FirstOf window cs m
first_of window cs m (first i at) e = record { place = i; is_first = at; is_quotient = cc }
first_of window cs m (none no_one) e = let z : ◌≡◌ {A = ℕ} 0 1 = cc in absurd (omega arith)

some_of
    : (window : ℕ) (cs : List Candidate) {a : Option WindowMultiplier}
    → Answer window cs a
    → SomeOf window cs
    → (m : WindowMultiplier) × (a ≡ Some m)
some_of window cs (first i at) s = (quotient window (candidate_at cs i).size (candidate_at cs i).of_mtu, refl)
some_of window cs (none no_one) s = absurd (no_one s.place s.within s.here)

-- ---- the multiplier of a nonzero window and an MSS of at least 100

module _ (window own headers : ℕ) (stamped : Bool) (version : IpVersion) (peer : Option ℕ) (some : 0 < window) (useful : 100 ≤ own) where
  of_row
      : multiplier_of window (Some own) headers stamped version peer
      ≡ first_multiple window (twelve own headers stamped (is_v6 version) (peer_size peer))
  unfolding multiplier_of
  of_row = rw (ne_eqb window 0 (omega arith), le-ltb own 100 useful)

  -- "it is the window over the first such", of the MTU exactly where that divisor is one of the MTU's
  pub the_first
      : (m : WindowMultiplier)
      → multiplier_of window (Some own) headers stamped version peer ≡ Some m
      → FirstOf window (twelve own headers stamped (is_v6 version) (peer_size peer)) m
  the_first m e = first_of window _ m (answer window _) (sym of_row ∙ e)

  -- "a multiplier is given exactly if one of the twelve divisors applies, is nonzero and divides the window"
  pub exactly_if
      : ((m : WindowMultiplier) × (multiplier_of window (Some own) headers stamped version peer ≡ Some m))
      ↔ SomeOf window (twelve own headers stamped (is_v6 version) (peer_size peer))
  exactly_if = (to, from)
    where
      to
          : (m : WindowMultiplier) × (multiplier_of window (Some own) headers stamped version peer ≡ Some m)
          → SomeOf window (twelve own headers stamped (is_v6 version) (peer_size peer))
      to given =
          let found = the_first given.0 given.1 in
          record { place = found.place; within = found.is_first.within; here = found.is_first.here }

      from
          : SomeOf window (twelve own headers stamped (is_v6 version) (peer_size peer))
          → (m : WindowMultiplier) × (multiplier_of window (Some own) headers stamped version peer ≡ Some m)
      from s = let given = some_of window _ (answer window _) s in (given.0, of_row ∙ given.1)
