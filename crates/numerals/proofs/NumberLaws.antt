-- Numbers: one turn of the loop over one, its ends, and a whole numeral.
use Prim.Native.Nat.{ℕ, suc, ◌+◌, ◌*◌, ◌-◌, ◌<◌, ◌≤◌}
use mathlib.Core.Path.{◌≡◌, refl, sym, ◌∙◌, ap}
use mathlib.Core.Bool.{Bool, true, false, cond}
use mathlib.Core.List.{List, [], ◌∷◌}
use native.Mathlib.Omega.{arith}
use native.Mathlib.Numerals.{add-one}
use lib.ListN.{length, take, drop, drop_of_length-le}
use lib.Seq.{drop-cons}
use Rattle.basis.specs.Bytes.{byte_at}
use Rattle.grammar.specs.Numeral.{any, decimal_value}
use Rattle.grammar.specs.Reading.{Read}
use Rattle.grammar.specs.States.{fits, span, Awaited, letters, digits, after, run, left, Done, done, states_read}
use Rattle.grammar.specs.Table.{numeral, Said, said}
use Rattle.grammar.proofs.Numerals.{fits_digit}
use Rattle.std.specs.Prelude.{Ok}
use Rattle.signature_line.specs.Answer.{bad_at}
use Rattle.numerals.specs.declared.Taken.{Taken}
use Rattle.numerals.specs.Pieces.{piece, made, state_at, number_from, numeral_at}

-- ---- the loop

abbrev taken : ℕ → ℕ → Taken
taken i n = record { at = i; value = n }

shifted : (i k v : ℕ) → taken (suc i + k) v ≡ taken (i + suc k) v
shifted i k v = ap (λ (x : ℕ). taken x v) (omega arith)

module _ (max n : ℕ) (s : List ℕ) (i : ℕ) where
  abbrev next : ℕ
  next = n * 10 + (byte_at s i - 48)

  pub turn : i < length s → fits max n (byte_at s i) ≡ true → number_from max next s (i + 1) ≡ number_from max n s i
  unfolding number_from span
  turn h e =
      rw (drop-cons s i 0 h, e, add-one)
      (shifted i (span max next (drop (suc i) s)) (decimal_value next (take (span max next (drop (suc i) s)) (drop (suc i) s))))

  pub stop : i < length s → fits max n (byte_at s i) ≡ false → taken i n ≡ number_from max n s i
  unfolding number_from span
  stop h e = rw (drop-cons s i 0 h, e) (ap (λ (k : ℕ). taken k n) (omega arith))

  pub finish : length s ≤ i → taken i n ≡ number_from max n s i
  unfolding number_from span
  finish h = rw (drop_of_length-le s h) (ap (λ (k : ℕ). taken k n) (omega arith))

-- The test of a digit as the code's branches have it.
module _ (r : Bool) (max n b : ℕ) (e : r ≡ fits max n b) where
  pub passed : r ≡ true → fits max n b ≡ true
  passed h = sym e ∙ h

  pub failed : r ≡ false → fits max n b ≡ false
  failed h = sym e ∙ h

  pub bounds : r ≡ true → (48 ≤ b) × (b < 58) × (n * 10 + (b - 48) ≤ max)
  bounds h = fits_digit max n b (passed h)

-- ---- a numeral

digits_run
    : (f max m : ℕ) (wanted : ℕ → Bool) (s : List ℕ)
    → (run (digits f max wanted m ∷ []) s ≡ span max m s)
    × (left (digits f max wanted m ∷ []) s ≡ digits f max wanted (decimal_value m (take (span max m s) s)) ∷ [])
unfolding run left span after
digits_run f max m wanted [] = (refl, refl)
digits_run f max m wanted (b ∷ s) = by (fits max m b) refl (digits_run f max (m * 10 + (b - 48)) wanted s)
  where
    by : (k : Bool) → fits max m b ≡ k
        → (let d = m * 10 + (b - 48) in
        (run (digits f max wanted d ∷ []) s ≡ span max d s)
        × (left (digits f max wanted d ∷ []) s ≡ digits f max wanted (decimal_value d (take (span max d s) s)) ∷ []))
        → (run (digits f max wanted m ∷ []) (b ∷ s) ≡ span max m (b ∷ s))
        × (left (digits f max wanted m ∷ []) (b ∷ s)
        ≡ digits f max wanted (decimal_value m (take (span max m (b ∷ s)) (b ∷ s))) ∷ [])
    by true e ih = (rw (e, ih.0), rw (e, ih.1))
    by false e ih = (rw e, rw e)

chosen
    : (k : Bool) (c f n : ℕ)
    → (let d : Done = cond k (record { good = true; value = said f n }) (done []) in
    ◌≡◌ {A = Read Said} (record { count = c; good = d.good; value = d.value })
    (record { count = c; good = k; value = cond k (said f n) (said 0 0) }))
unfolding done
chosen true c f n = refl
chosen false c f n = refl

module _ (f max : ℕ) (wanted : ℕ → Bool) where
  abbrev numerals : List Awaited
  numerals = letters [] f (numeral max wanted) ∷ []

  read_none : (s : List ℕ) → span max 0 s ≡ 0 → states_read numerals s ≡ record { count = 0; good = false; value = said 0 0 }
  unfolding states_read run left span after done
  read_none [] e = refl
  read_none (b ∷ s) e = by (fits max 0 b) refl
    where
      by : (k : Bool) → fits max 0 b ≡ k → states_read numerals (b ∷ s) ≡ record { count = 0; good = false; value = said 0 0 }
      by true h = absurd (omega (arith, rw h at e))
      by false h = rw h

  abbrev value : List ℕ → ℕ
  value s = decimal_value 0 (take (span max 0 s) s)

  read_Some
      : (s : List ℕ) → (span max 0 s ≡ 0 → ⊥) → (k : Bool) → wanted (value s) ≡ k
      → states_read numerals s ≡ record { count = span max 0 s; good = k; value = cond k (said f (value s)) (said 0 0) }
  unfolding states_read run left span after done
  read_Some [] e k q = absurd (e refl)
  read_Some (b ∷ s) e k q = by (fits max 0 b) refl
    where
      by : (x : Bool) → fits max 0 b ≡ x
          → states_read numerals (b ∷ s)
          ≡ record { count = span max 0 (b ∷ s); good = k; value = cond k (said f (value (b ∷ s))) (said 0 0) }
      by true h =
          let d = 0 * 10 + (b - 48) in
          let r = digits_run f max d wanted s in
          let w : wanted (decimal_value d (take (span max d s) s)) ≡ k = rw h at q in
          rw (h, r.0, r.1, w) (chosen k (suc (span max d s)) f (decimal_value d (take (span max d s) s)))
      by false h = absurd (e (rw h))

  module _ (s : List ℕ) (at : ℕ) where
    numeral_none : (number_from max 0 s at).at ≡ at → bad_at at ≡ numeral_at max wanted f s at
    unfolding state_at number_from made
    numeral_none e = rw (read_none (drop at s) (omega arith)) (ap bad_at (omega arith))

    numeral_unwanted
        : ((number_from max 0 s at).at ≡ at → ⊥) → wanted (number_from max 0 s at).value ≡ false
        → bad_at (number_from max 0 s at).at ≡ numeral_at max wanted f s at
    unfolding state_at number_from made
    numeral_unwanted e w = rw (read_Some (drop at s) (λ z. e (omega arith)) false w)

    numeral_wanted
        : ((number_from max 0 s at).at ≡ at → ⊥) → wanted (number_from max 0 s at).value ≡ true
        → Ok (piece (number_from max 0 s at).at f (number_from max 0 s at).value) ≡ numeral_at max wanted f s at
    unfolding state_at number_from made
    numeral_wanted e w = rw (read_Some (drop at s) (λ z. e (omega arith)) true w)

-- Over what the call gave that read the number.
module _ (f max : ℕ) (wanted : ℕ → Bool) (s : List ℕ) (at : ℕ) (t : Taken) (e : t ≡ number_from max 0 s at) where
  pub gave_none : t.at ≡ at → bad_at at ≡ numeral_at max wanted f s at
  gave_none h = numeral_none f max wanted s at (rw e at h)

  pub gave_unwanted : (t.at ≡ at → ⊥) → wanted t.value ≡ false → bad_at t.at ≡ numeral_at max wanted f s at
  gave_unwanted n w = rw e (numeral_unwanted f max wanted s at (λ z. n (rw e z)) (rw e at w))

  pub gave_wanted
      : (t.at ≡ at → ⊥) → wanted t.value ≡ true → Ok (piece t.at f t.value) ≡ numeral_at max wanted f s at
  gave_wanted n w = rw e (numeral_wanted f max wanted s at (λ z. n (rw e z)) (rw e at w))

pub all_wanted : (n : ℕ) → any n ≡ true
unfolding any
all_wanted n = refl
