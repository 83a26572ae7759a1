-- Laws of a search that goes on over records that fail a test: one record farther, the end, and the gates asked in two steps.
use mathlib.Core.Path.{◌≡◌, refl, sym, ◌∙◌}
use mathlib.Core.Bool.{Bool, true, false}
use mathlib.Core.List.{List}
use Prim.Native.Nat.{ℕ, ◌+◌, ◌*◌, ◌<◌, ◌≤◌}
use native.Mathlib.Decide.{dec_le}
use native.Mathlib.Omega.{arith}
use Rattle.basis.specs.Bytes.{part}
use Rattle.matching.specs.declared.Features.{Features}
use Rattle.matching.specs.Fit.{passes}
use Rattle.matching.specs.Asked.{count_and_scale_match, other_gates_match}
use Rattle.matching.proofs.Asked.{passes_in_two_steps}
use Rattle.siglist.specs.List.{records_offset, record_at}
use Rattle.search.specs.Next.{Next, NextOf}

module _ (test : List ℕ → Bool) (l : List ℕ) (from : ℕ) where
  -- Every record from one on fails the test, up to another.
  abbrev pub FailTo : ℕ → Type 0
  FailTo i = (k : ℕ) → from ≤ k → k < i → test (record_at l k) ≡ false

  pub none_yet : FailTo from
  none_yet k start end = absurd (omega arith)

  one_farther : (i j : ℕ) → j ≡ i + 1 → FailTo i → test (record_at l i) ≡ false → FailTo j
  one_farther i j step before here k start end =
      elim (dec_le i k) [ yes h ↦ (let e : k ≡ i = omega arith in rw e here) | no h ↦ before k start (omega arith) ]

  -- Several in a turn.
  module _ (i : ℕ) (before : FailTo i) (first : test (record_at l i) ≡ false) where
    pub one_more : FailTo (i + 1)
    one_more = one_farther i (i + 1) refl before first

    pub two_more : test (record_at l (i + 1)) ≡ false → FailTo (i + 2)
    two_more second = one_farther (i + 1) (i + 2) (omega arith) one_more second

    pub three_more : test (record_at l (i + 1)) ≡ false → test (record_at l (i + 2)) ≡ false → FailTo (i + 3)
    three_more second third = one_farther (i + 2) (i + 3) (omega arith) (two_more second) third

    pub four_more
        : test (record_at l (i + 1)) ≡ false → test (record_at l (i + 2)) ≡ false → test (record_at l (i + 3)) ≡ false → FailTo (i + 4)
    four_more second third fourth = one_farther (i + 3) (i + 4) (omega arith) (three_more second third) fourth

  pub here : (n i : ℕ) → from ≤ i → i < n → FailTo i → test (record_at l i) ≡ true → NextOf test l n from i
  here n i reached inside fail passes = record { reached = reached; within = omega arith; candidate = λ h. passes; between = fail }

  pub at_end : (n i : ℕ) → from ≤ i → i ≡ n → FailTo i → NextOf test l n from i
  at_end n i reached end fail =
      record { reached = reached; within = omega arith; candidate = λ h. absurd (omega arith); between = fail }

-- By the gates it is what a search goes on by.
pub by_gates : (f : Features) (l : List ℕ) (n from r : ℕ) → NextOf (passes f) l n from r → Next f l n from r
by_gates f l n from r next =
    record { reached = next.reached; within = next.within; candidate = next.candidate; between = next.between }

-- What the test answers of the bytes at a record's place it answers of the record.
pub of_record
    : (test : List ℕ → Bool) (l : List ℕ) (at i : ℕ) {answer told : Bool}
    → at ≡ records_offset l + 24 * i
    → answer ≡ test (part at (at + 24) l)
    → answer ≡ told
    → test (record_at l i) ≡ told
of_record test l at i place same told = rw (← place) (sym same ∙ told)

module _
    (f : Features) (count : ℕ) (same : count ≡ f.count) (l : List ℕ) (n i r : ℕ)
    (next : NextOf (count_and_scale_match count f.wscale) l n i r)
  where
    -- Records that fail the gates of count and scale fail the gates.
    pub as_far : (from : ℕ) → FailTo (passes f) l from i → FailTo (passes f) l from r
    as_far from before k start end =
        elim (dec_le i k) [
          | yes h ↦ passes_in_two_steps f (record_at l k) ∙ rw (← same, next.between k h end)
          | no h ↦ before k start (omega arith)
        ]

    -- Of one that passes these two the other gates decide.
    pub others_decide : r < n → passes f (record_at l r) ≡ other_gates_match f (record_at l r)
    others_decide inside = passes_in_two_steps f (record_at l r) ∙ rw (← same, next.candidate inside)
