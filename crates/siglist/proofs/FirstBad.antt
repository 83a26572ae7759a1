-- Refusals of a list: 9, and then 10.
use Rattle.std.specs.Prelude.{Result, Ok, Err}
use mathlib.Core.Path.{◌≡◌, refl, sym, ◌∙◌, ap}
use mathlib.Core.Bool.{Bool, true, false, cond}
use mathlib.Core.List.{List}
use Prim.Native.Nat.{ℕ, zero, suc, ◌+◌, ◌<◌, ◌≤◌}
use native.Mathlib.Omega.{arith}
use Rattle.refusals.specs.declared.ListRefusal.{ListRefusal}
use Rattle.refusals.specs.declared.ListRefusal.TheVariants as refusal
use Rattle.siglist.specs.List.{record_count, list_fits, record_good, records_from, check_list}

-- A list whose header or areas do not fit is refused by 9.
pub does_not_fit : (l : List ℕ) → list_fits l ≡ false → check_list l ≡ Err refusal.DoesNotFit
unfolding check_list
does_not_fit l e = rw e

-- What the records from one on answer: all well formed, or the first that is bad.
pub data Checked (l : List ℕ) (i n : ℕ) : Result (Unit {0}) ListRefusal → Type 0 where
  all_good : ((j : ℕ) → i ≤ j → j < i + n → record_good l j ≡ true) → Checked l i n (Ok tt)
  first_bad_lem
      : (k : ℕ)
      → i ≤ k
      → k < i + n
      → record_good l k ≡ false
      → ((j : ℕ) → i ≤ j → j < k → record_good l j ≡ true)
      → Checked l i n (Err (refusal.BadRecord k))

checked : (l : List ℕ) (i n : ℕ) → Checked l i n (records_from l i n)
unfolding records_from
checked l i zero = all_good (λ j h k. absurd (omega arith))
checked l i (suc n) = by_test (record_good l i) refl (checked l (i + 1) n)
  where
    from_here
        : (m : ℕ)
        → record_good l i ≡ true
        → ((j : ℕ) → i + 1 ≤ j → j < m → record_good l j ≡ true)
        → (j : ℕ)
        → i ≤ j
        → j < m
        → record_good l j ≡ true
    from_here m here later j h k =
        elim (native.Mathlib.Decide.ℕ_discrete i j) [ yes e ↦ ap (record_good l) (sym e) ∙ here | no d ↦ later j (omega arith) k ]

    later : {a : Result (Unit {0}) ListRefusal} → record_good l i ≡ true → Checked l (i + 1) n a → Checked l i (suc n) a
    later here (all_good rest) = all_good (λ j h k. from_here (i + 1 + n) here rest j h (omega arith))
    later here (first_bad_lem k h j bad rest) = first_bad_lem k (omega arith) (omega arith) bad (from_here k here rest)

    by_test
        : (t : Bool)
        → record_good l i ≡ t
        → Checked l (i + 1) n (records_from l (i + 1) n)
        → Checked l i (suc n) (cond t (records_from l (i + 1) n) (Err (refusal.BadRecord i)))
    by_test true e rest = later e rest
    by_test false e rest = first_bad_lem i (omega arith) (omega arith) e (λ j h k. absurd (omega arith))

-- "10: a list record is bad; index of the first, from 0": of a list that fits, either all records are well formed or the first bad one
-- is named.
pub first_bad_named : (l : List ℕ) → list_fits l ≡ true → Checked l 0 (record_count l) (check_list l)
unfolding check_list
first_bad_named l e = rw e (checked l 0 (record_count l))

-- A good list has a header.
pub no_header : (l : List ℕ) → check_list l ≡ (Ok tt) → list_fits l ≡ false → ⊥
no_header l e f = let no = sym e ∙ does_not_fit l f in let z : ◌≡◌ {A = ℕ} 0 1 = cc in omega arith

-- Nor does a good list lack areas that fit.
pub good_fits : (l : List ℕ) → check_list l ≡ (Ok tt) → list_fits l ≡ true
good_fits l e = by (list_fits l) refl
  where
    by : (t : Bool) → list_fits l ≡ t → t ≡ true
    by true f = refl
    by false f = absurd (no_header l e f)

-- Every record of a good list is.
pub each_good : (l : List ℕ) (i : ℕ) → check_list l ≡ (Ok tt) → i < record_count l → record_good l i ≡ true
each_good l i e h = by (check_list l) (first_bad_named l (good_fits l e)) e
  where
    by : (x : Result (Unit {0}) ListRefusal) → Checked l 0 (record_count l) x → x ≡ (Ok tt) → record_good l i ≡ true
    by x (all_good all) f = all i (omega arith) (omega arith)
    by x (first_bad_lem k a b bad before) f = let z : ◌≡◌ {A = ℕ} 0 1 = cc in absurd (omega arith)
