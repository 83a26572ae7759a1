-- Laws of the first of least rank, for any rank.
use mathlib.Core.Path.{◌≡◌, refl, ap, ◌∙◌}
use mathlib.Core.Bool.{Bool, true, false, cond}
use mathlib.Core.List.{List, [], ◌∷◌, ◌++◌}
use mathlib.Core.Logic.{◌⊎◌, inl, inr}
use Prim.Native.Nat.{ℕ, zero, suc, ◌+◌, ◌-◌, ◌<◌, ◌≤◌}
use native.Mathlib.Omega.{arith}
use lib.Dec.{ltb}
use lib.ListN.{length, get_or}
use borrow.Author.Tests.{ltb-true, ltb-false}
use Rattle.basis.proofs.Rules.{cases}
use Rattle.found.specs.Least.{unranked, Place, nowhere, at, rank_there, prefer, least_from, numbers_from}

-- ---- rows of numbers

pub numbers_length : (i n : ℕ) → length (numbers_from i n) ≡ n
unfolding numbers_from
numbers_length i zero = refl
numbers_length i (suc n) = ap suc (numbers_length (i + 1) n)

pub numbers_at : (i n k : ℕ) → k < n → get_or (numbers_from i n) k 0 ≡ i + k
unfolding numbers_from
numbers_at i zero k h = absurd (omega arith)
numbers_at i (suc n) zero h = omega arith
numbers_at i (suc n) (suc k) h = numbers_at (i + 1) n k (omega arith) ∙ omega arith

numbers_split : (i m n : ℕ) → numbers_from i (m + n) ≡ numbers_from i m ++ numbers_from (i + m) n
unfolding numbers_from
numbers_split i zero n = let e : i + 0 ≡ i = omega arith in let z : 0 + n ≡ n = omega arith in rw (e, z)
numbers_split i (suc m) n =
    let s : suc m + n ≡ suc (m + n) = omega arith in
    let e : i + suc m ≡ i + 1 + m = omega arith in
    rw (s, e) (ap (λ (r : List ℕ). i ∷ r) (numbers_split (i + 1) m n))

-- ---- two candidates

module _ {A : Type 0} (rank : A → ℕ) (held other : A) where
  pub kept : rank held ≤ rank other → prefer rank held other ≡ held
  unfolding prefer
  kept h = search cases

  pub preferred : rank other < rank held → prefer rank held other ≡ other
  unfolding prefer
  preferred h = search cases

  -- A reading that keeps ranks reads the better of two as the better of the two readings.
  pub read
      : {B : Type 0} (rank' : B → ℕ) (reading : A → B)
      → ((x : A) → rank' (reading x) ≡ rank x)
      → reading (prefer rank held other) ≡ prefer rank' (reading held) (reading other)
  unfolding prefer
  read rank' reading same = rw (same held, same other) (either (ltb (rank other) (rank held)))
    where
      either : (t : Bool) → reading (cond t other held) ≡ cond t (reading other) (reading held)
      either true = refl
      either false = refl

module _ (rank : ℕ → ℕ) where
  -- ---- a row after a row

  pub append : (held : Place) (is js : List ℕ) → least_from rank held (is ++ js) ≡ least_from rank (least_from rank held is) js
  unfolding least_from
  append held [] js = refl
  append held (i ∷ is) js = append (prefer (rank_there rank) held (at i)) is js

  -- ---- what does not matter

  -- A row in which nothing has less rank than what is held.
  pub unchanged
      : (held : Place) (is : List ℕ)
      → ((k : ℕ) → k < length is → rank_there rank held ≤ rank (get_or is k 0))
      → least_from rank held is ≡ held
  unfolding least_from
  unchanged held [] h = refl
  unchanged held (i ∷ is) h =
      rw (kept (rank_there rank) held (at i) (h 0 (omega arith))) (unchanged held is (λ k inside. h (suc k) (omega arith)))

  -- ---- the first of least rank, by places of the row

  pub data Least (held : Place) (is : List ℕ) : Place → Type 0 where
    stays : ((k : ℕ) → k < length is → rank_there rank held ≤ rank (get_or is k 0)) → Least held is held
    first
        : (k : ℕ)
        → k < length is
        → rank (get_or is k 0) < rank_there rank held
        → ((j : ℕ) → j < k → rank (get_or is k 0) < rank (get_or is j 0))
        → ((j : ℕ) → j < length is → rank (get_or is k 0) ≤ rank (get_or is j 0))
        → Least held is (at (get_or is k 0))

  pub least : (held : Place) (is : List ℕ) → Least held is (least_from rank held is)
  unfolding least_from prefer
  least held [] = stays (λ k inside. absurd (omega arith))
  least held (i ∷ is) = by_test (ltb (rank i) (rank_there rank held)) refl (least (at i) is) (least held is)
    where
      all_from
          : (r : ℕ)
          → r ≤ rank i
          → ((j : ℕ) → j < length is → r ≤ rank (get_or is j 0))
          → (j : ℕ)
          → j < length (i ∷ is)
          → r ≤ rank (get_or (i ∷ is) j 0)
      all_from r here there zero inside = here
      all_from r here there (suc j) inside = there j (omega arith)

      before_from
          : (r k : ℕ)
          → r < rank i
          → ((j : ℕ) → j < k → r < rank (get_or is j 0))
          → (j : ℕ)
          → j < suc k
          → r < rank (get_or (i ∷ is) j 0)
      before_from r k here there zero inside = here
      before_from r k here there (suc j) inside = there j (omega arith)

      taken : {x : Place} → rank i < rank_there rank held → Least (at i) is x → Least held (i ∷ is) x
      taken less (stays there) = first 0 (omega arith) less (λ j inside. absurd (omega arith)) (all_from (rank i) (omega arith) there)
      taken less (first k inside lesser before there) =
          first (suc k) (omega arith) (omega arith) (before_from (rank (get_or is k 0)) k lesser before)
          (all_from (rank (get_or is k 0)) (omega arith) there)

      left : {x : Place} → rank_there rank held ≤ rank i → Least held is x → Least held (i ∷ is) x
      left more (stays there) = stays (all_from (rank_there rank held) more there)
      left more (first k inside lesser before there) =
          first (suc k) (omega arith) lesser (before_from (rank (get_or is k 0)) k (omega arith) before)
          (all_from (rank (get_or is k 0)) (omega arith) there)

      by_test
          : (t : Bool)
          → ltb (rank i) (rank_there rank held) ≡ t
          → Least (at i) is (least_from rank (at i) is)
          → Least held is (least_from rank held is)
          → Least held (i ∷ is) (least_from rank (cond t (at i) held) is)
      by_test true e there rest = taken (ltb-true (rank i) (rank_there rank held) e) there
      by_test false e there rest = left (ltb-false (rank i) (rank_there rank held) e) rest

  -- ---- a longer row: the same, or strictly less rank

  pub longer_row
      : (held : Place) (is js : List ℕ)
      → (least_from rank held (is ++ js) ≡ least_from rank held is)
      ⊎ (rank_there rank (least_from rank held (is ++ js)) < rank_there rank (least_from rank held is))
  longer_row held is js = rw (append held is js) (by_place (least (least_from rank held is) js))
    where
      by_place : {old new : Place} → Least old js new → (new ≡ old) ⊎ (rank_there rank new < rank_there rank old)
      by_place (stays all) = inl refl
      by_place (first k inside less before all) = inr less

  -- ---- all numbers from 0, as a loop goes over them

  -- The first of least rank before number i.
  abbrev pub Passed : ℕ → Place
  Passed i = least_from rank nowhere (numbers_from 0 i)

  pub one_more : (i : ℕ) → Passed (i + 1) ≡ prefer (rank_there rank) (Passed i) (at i)
  unfolding least_from numbers_from
  one_more i =
      let e : 0 + i ≡ i = omega arith in
      rw (numbers_split 0 i 1, e) (append nowhere (numbers_from 0 i) (i ∷ []))

  -- The numbers between two change nothing if none of them has less rank.
  pub between
      : (i n : ℕ)
      → i ≤ n
      → ((k : ℕ) → i ≤ k → k < n → rank_there rank (Passed i) ≤ rank k)
      → Passed n ≡ Passed i
  between i n within more =
      let m : ℕ = n - i in
      let e : n ≡ i + m = omega arith in
      let z : 0 + i ≡ i = omega arith in
      rw (e, numbers_split 0 i m, z, append nowhere (numbers_from 0 i) (numbers_from i m))
      (unchanged (Passed i) (numbers_from i m)
      (λ k inside.
      let h : k < m = rw (← numbers_length i m) inside in
      rw (numbers_at i m k h) (more (i + k) (omega arith) (omega arith))))

  -- Rank 0 ends the search.
  pub ended : (i n : ℕ) → i ≤ n → rank_there rank (Passed i) ≡ 0 → Passed n ≡ Passed i
  ended i n within e = between i n within (λ k from to. omega arith)

  -- ---- a row without some numbers that have no rank

  pub data Without : List ℕ → List ℕ → Type 0 where
    end : Without [] []
    stays_in : {i : ℕ} {is js : List ℕ} → Without is js → Without (i ∷ is) (i ∷ js)
    left_out : {i : ℕ} {is js : List ℕ} → rank i ≡ unranked → Without is js → Without is (i ∷ js)

  pub without
      : ((k : ℕ) → rank k ≤ unranked)
      → {is js : List ℕ} (held : Place)
      → Without is js
      → least_from rank held is ≡ least_from rank held js
  unfolding least_from
  without last held end = refl
  without last held (stays_in {i} w) = without last (prefer (rank_there rank) held (at i)) w
  without last held (left_out {i} none w) = rw (kept (rank_there rank) held (at i) (worse held)) (without last held w)
    where
      worse : (p : Place) → rank_there rank p ≤ rank i
      worse nowhere = omega arith
      worse (at k) = let h = last k in omega arith
