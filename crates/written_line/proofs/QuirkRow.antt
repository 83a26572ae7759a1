-- The quirks of a set as a row of words: every one has its word, they stand in display order, and together they are the set.
use Prim.Native.Nat.{ℕ, zero, suc, ◌/◌, ◌%◌, ◌^◌, ◌<◌, min, max}
use mathlib.Core.Path.{◌≡◌, refl, sym, ◌∙◌}
use mathlib.Core.Logic.{◌⊎◌, inl, inr}
use mathlib.Core.Bool.{Bool, true, false, cond}
use mathlib.Core.List.{List, [], ◌∷◌}
use native.Mathlib.Decide.{ℕ_discrete}
use native.Mathlib.Nat.{pow-zero, pow-succ'}
use native.Mathlib.Omega.{arith}
use lib.Bits.{bit_or, or_lt}
use lib.Dec.{eqb, lit<}
use borrow.Author.Tests.{eqb-true, eqb-false}
use Rattle.basis.specs.Digits.{digit}
use Rattle.basis.proofs.Digits.{digit_zero, digit_suc, digit_lt, digit_of_zero, digit_or, digit_power_same, digit_power_other}
use Rattle.quirks.specs.declared.Quirk.{Quirk}
use Rattle.quirks.specs.declared.Quirk.TheVariants as quirk
use Rattle.quirks.specs.declared.QuirkSet.{QuirkSet}
use Rattle.quirks.specs.Quirks.{bit_of, bits_of, with, place_of, holds, contains, SubsetByPlaces}
use Rattle.quirks.specs.Named.{from_quirks, display_order, seventeen}
use Rattle.quirks.proofs.Subset.{difference_empty}
use Rattle.quirks.proofs.Within.{bit_small}
use Rattle.sigrecord.specs.WellFormed.{quirks_good}
use Rattle.grammar.specs.Table.{Said, said}
use Rattle.grammar.proofs.Spelling.{Fits}
use Rattle.signature_line.specs.Meaning.{union_from}
use Rattle.signature_line.specs.Words.{quirk_word}
use Rattle.signature_line.proofs.FieldsGood.{Each, seventeen_small}
use Rattle.written_line.specs.Signature.{chosen}
use Rattle.written_line.specs.WrittenForm.{RisingIn}

-- ---- the word of a quirk

quirk_fits : (q : Quirk) → Fits quirk_word (said (bit_of q) 0)
unfolding quirk_word bit_of place_of
quirk_fits quirk.Df = refl
quirk_fits quirk.NonZeroID = refl
quirk_fits quirk.ZeroID = refl
quirk_fits quirk.Ecn = refl
quirk_fits quirk.MustBeZero = refl
quirk_fits quirk.FlowID = refl
quirk_fits quirk.SeqNumZero = refl
quirk_fits quirk.AckNumNonZero = refl
quirk_fits quirk.AckNumZero = refl
quirk_fits quirk.NonZeroURG = refl
quirk_fits quirk.Urg = refl
quirk_fits quirk.Push = refl
quirk_fits quirk.OwnTimestampZero = refl
quirk_fits quirk.PeerTimestampNonZero = refl
quirk_fits quirk.TrailinigNonZero = refl
quirk_fits quirk.ExcessiveWindowScaling = refl
quirk_fits quirk.OptBad = refl

-- ---- a number is its digits

digits_same : (w a b : ℕ) → a < 2 ^ w → b < 2 ^ w → ((k : ℕ) → k < w → digit a k ≡ digit b k) → a ≡ b
digits_same zero a b h l all = omega (arith, pow-zero 2)
digits_same (suc w) a b h l all =
    let low : a % 2 ≡ b % 2 = sym (digit_zero a) ∙ all zero (omega arith) ∙ digit_zero b in
    let half : a / 2 ≡ b / 2 =
    digits_same w (a / 2) (b / 2) (omega (arith, pow-succ' 2 w)) (omega (arith, pow-succ' 2 w))
    (λ k i. sym (digit_suc a k) ∙ all (suc k) (omega arith) ∙ digit_suc b k) in
    omega arith

-- ---- those of a row that are in a set

-- Of one quirk more behind it.
rising_later : (q : Quirk) (qs : List Quirk) (vs : List Said) → RisingIn qs vs → RisingIn (q ∷ qs) vs
rising_later q qs [] r = tt
rising_later q qs (v ∷ vs) r = inr r

module _ (set : QuirkSet) where
  abbrev bits : ℕ
  bits = bits_of set

  abbrev kept : Bool → Quirk → List Said → List Said
  kept t q rest = cond t (said (bit_of q) 0 ∷ rest) rest

  pub chosen_fits : (qs : List Quirk) → Each (Fits quirk_word) (chosen set qs)
  unfolding chosen
  chosen_fits [] = tt
  chosen_fits (q ∷ qs) = by (contains set q) (chosen_fits qs)
    where
      by : (t : Bool) → Each (Fits quirk_word) (chosen set qs) → Each (Fits quirk_word) (kept t q (chosen set qs))
      by true rest = (quirk_fits q, rest)
      by false rest = rest

  pub chosen_rising : (qs : List Quirk) → RisingIn qs (chosen set qs)
  unfolding chosen
  chosen_rising [] = tt
  chosen_rising (q ∷ qs) = by (contains set q) (chosen_rising qs)
    where
      by : (t : Bool) → RisingIn qs (chosen set qs) → RisingIn (q ∷ qs) (kept t q (chosen set qs))
      by true rest = inl (refl, rest)
      by false rest = rising_later q qs (chosen set qs) rest

  chosen_small : (qs : List Quirk) (n : ℕ) → n < 2 ^ 32 → union_from n (chosen set qs) < 2 ^ 32
  unfolding chosen union_from
  chosen_small [] n h = h
  chosen_small (q ∷ qs) n h =
      by (contains set q) (chosen_small qs n h) (chosen_small qs (bit_or n (bit_of q)) (or_lt 32 n (bit_of q) h (bit_small q)))
    where
      by
          : (t : Bool) → union_from n (chosen set qs) < 2 ^ 32 → union_from (bit_or n (bit_of q)) (chosen set qs) < 2 ^ 32
          → union_from n (kept t q (chosen set qs)) < 2 ^ 32
      by true without within = within
      by false without within = without

  -- At a place, a quirk's bit is 0, or 1 where the set is asked for the quirk.
  at_place
      : (q : Quirk) (k : ℕ) (t : Bool) → contains set q ≡ t
      → (digit (bit_of q) k ≡ 0) ⊎ ((digit (bit_of q) k ≡ 1) × (eqb (digit bits k) 1 ≡ t))
  unfolding contains holds bit_of
  at_place q k t e = by (ℕ_discrete (place_of q) k)
    where
      by : Dec (place_of q ≡ k) → (digit (2 ^ place_of q) k ≡ 0) ⊎ ((digit (2 ^ place_of q) k ≡ 1) × (eqb (digit bits k) 1 ≡ t))
      by (yes same) = inr (rw (← same) (digit_power_same (place_of q)), rw (← same) e)
      by (no other) = inl (digit_power_other (place_of q) k other)

  taken
      : (a b c d : ℕ) → a < 2 → b < 2 → d < 2 → (c ≡ 0) ⊎ ((c ≡ 1) × (eqb b 1 ≡ true))
      → max (max a c) (min b d) ≡ max a (min b (max d c))
  taken a b c d h i j (inl e) = omega arith
  taken a b c d h i j (inr e) = let one = eqb-true b 1 e.1 in omega (arith, e.0)

  left_out
      : (a b c d : ℕ) → b < 2 → (c ≡ 0) ⊎ ((c ≡ 1) × (eqb b 1 ≡ false))
      → max a (min b d) ≡ max a (min b (max d c))
  left_out a zero c d i h = omega arith
  left_out a (suc zero) c d i (inl e) = omega arith
  left_out a (suc zero) c d i (inr e) = absurd (eqb-false 1 1 e.1 refl)
  left_out a (suc (suc b)) c d i h = absurd (omega arith)

  chosen_digit
      : (qs : List Quirk) (n k : ℕ)
      → digit (union_from n (chosen set qs)) k ≡ max (digit n k) (min (digit bits k) (digit (bits_of (from_quirks qs)) k))
  unfolding chosen union_from from_quirks with
  chosen_digit [] n k = rw (digit_of_zero k) (omega arith)
  chosen_digit (q ∷ qs) n k =
      by (contains set q) refl (chosen_digit qs n k) (chosen_digit qs (bit_or n (bit_of q)) k)
    where
      Union : ℕ → ℕ
      Union m = max (digit m k) (min (digit bits k) (digit (bits_of (from_quirks qs)) k))

      by
          : (t : Bool) → contains set q ≡ t
          → digit (union_from n (chosen set qs)) k ≡ Union n
          → digit (union_from (bit_or n (bit_of q)) (chosen set qs)) k ≡ Union (bit_or n (bit_of q))
          → digit (union_from n (kept t q (chosen set qs))) k
          ≡ max (digit n k) (min (digit bits k) (digit (bit_or (bits_of (from_quirks qs)) (bit_of q)) k))
      by true e without within =
          rw (within, digit_or n (bit_of q) k, digit_or (bits_of (from_quirks qs)) (bit_of q) k)
          (taken (digit n k) (digit bits k) (digit (bit_of q) k) (digit (bits_of (from_quirks qs)) k) (digit_lt n k) (digit_lt bits k)
          (digit_lt (bits_of (from_quirks qs)) k) (at_place q k true e))
      by false e without within =
          rw (without, digit_or (bits_of (from_quirks qs)) (bit_of q) k)
          (left_out (digit n k) (digit bits k) (digit (bit_of q) k) (digit (bits_of (from_quirks qs)) k) (digit_lt bits k)
          (at_place q k false e))

  inside : (b s : ℕ) → b < 2 → (eqb b 1 ≡ true → eqb s 1 ≡ true) → max 0 (min b s) ≡ b
  inside zero s h f = omega arith
  inside (suc zero) s h f = let one = eqb-true s 1 (f refl) in omega arith
  inside (suc (suc b)) s h f = absurd (omega arith)

  -- Quirks of the seventeen, all of them named, are the set.
  pub chosen_all : bits < 2 ^ 32 → quirks_good bits ≡ true → union_from 0 (chosen set display_order) ≡ bits
  unfolding quirks_good SubsetByPlaces holds seventeen
  chosen_all h g =
      let among = (difference_empty set seventeen seventeen_small h).0 g in
      digits_same 32 (union_from 0 (chosen set display_order)) bits (chosen_small display_order 0 (lit< tt)) h
      (λ k low.
      chosen_digit display_order 0 k
      ∙ rw (digit_of_zero k) (inside (digit bits k) (digit (bits_of seventeen) k) (digit_lt bits k) (among k low)))
