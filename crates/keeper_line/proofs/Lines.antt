-- The lines of a file, one after the other by their places.
use Prim.Native.Nat.{ℕ, zero, suc, ◌+◌, ◌-◌, ◌<◌, ◌≤◌}
use mathlib.Core.Path.{◌≡◌, refl, sym, ◌∙◌, ap}
use mathlib.Core.Bool.{Bool, true, false, cond, ◌&&◌}
use mathlib.Core.List.{List, [], ◌∷◌}
use native.Mathlib.Omega.{arith}
use native.Mathlib.Nat.{suc-ne-zero}
use native.Mathlib.Decide.{dec_le}
use lib.Dec.{eqb, ltb}
use lib.ListN.{length, take, drop, length-drop, drop_of_length-le}
use lib.Seq.{drop-cons, drop-drop, get_or-drop}
use borrow.Author.Tests.{lt-ltb, le-ltb}
use Rattle.basis.specs.Bytes.{byte_at}
use Rattle.keeper_file.specs.Lines.{line_feed, carriage_return, into_first, lines_of}
use Rattle.keeper_line.specs.Places.{to_feed, feed_at, text_end, text_at}

-- ---- the first line of a string

-- Where its text ends, n bytes standing before its line feed.
abbrev ends : List ℕ → ℕ → ℕ
ends s n = cond (ltb n (length s) && ltb 0 n && eqb (byte_at s (n - 1)) carriage_return) (n - 1) n

abbrev first_text : List ℕ → List ℕ
first_text s = take (ends s (to_feed s)) s

abbrev after_first : List ℕ → List ℕ
after_first s = drop (suc (to_feed s)) s

at_feed : (b : ℕ) (s : List ℕ) → eqb b line_feed ≡ true → to_feed (b ∷ s) ≡ 0
unfolding to_feed
at_feed b s e = rw e

to_next : (b : ℕ) (s : List ℕ) → eqb b line_feed ≡ false → to_feed (b ∷ s) ≡ suc (to_feed s)
unfolding to_feed
to_next b s e = rw e

-- The end by cases: of an empty line, of one without a line feed, of one with a byte before it.
ends_empty : (s : List ℕ) → ends s 0 ≡ 0
ends_empty s = by (ltb 0 (length s))
  where
    by : (k : Bool) → ◌≡◌ {A = ℕ} (cond (k && false && eqb (byte_at s 0) carriage_return) 0 0) 0
    by true = refl
    by false = refl

ends_last : (s : List ℕ) (n : ℕ) → length s ≤ n → ends s n ≡ n
ends_last s n h = rw (le-ltb n (length s) h)

ends_fed : (s : List ℕ) (n : ℕ) → suc n < length s → ends s (suc n) ≡ cond (eqb (byte_at s n) carriage_return) n (suc n)
ends_fed s n h =
    let before : suc n - 1 ≡ n = omega arith in
    rw (lt-ltb (suc n) (length s) h, lt-ltb 0 (suc n) (omega arith), before)

-- A byte before a line is part of it, but for a carriage return before its line feed.
one_later
    : (b : ℕ) (s : List ℕ) (n : ℕ) → (n ≡ 0 → eqb b carriage_return ≡ false) → ends (b ∷ s) (suc n) ≡ suc (ends s n)
one_later b s zero h = by (dec_le 1 (length s))
  where
    by : Dec (1 ≤ length s) → ends (b ∷ s) 1 ≡ suc (ends s 0)
    by (yes k) = ends_fed (b ∷ s) 0 (omega arith) ∙ rw (h refl, ends_empty s)
    by (no k) = ends_last (b ∷ s) 1 (omega arith) ∙ rw (ends_empty s)
one_later b s (suc n) h = by (dec_le (suc (suc n)) (length s))
  where
    at_return : (k : Bool) → cond k (suc n) (suc (suc n)) ≡ suc (cond k n (suc n))
    at_return true = refl
    at_return false = refl

    by : Dec (suc (suc n) ≤ length s) → ends (b ∷ s) (suc (suc n)) ≡ suc (ends s (suc n))
    by (yes k) =
        ends_fed (b ∷ s) (suc n) (omega arith) ∙ at_return (eqb (byte_at s n) carriage_return) ∙ ap suc (sym (ends_fed s n (omega arith)))
    by (no k) = ends_last (b ∷ s) (suc (suc n)) (omega arith) ∙ ap suc (sym (ends_last s (suc n) (omega arith)))

joined
    : (b : ℕ) (s : List ℕ) (lines : List (List ℕ)) → eqb b line_feed ≡ false → (to_feed s ≡ 0 → eqb b carriage_return ≡ false)
    → lines ≡ first_text s ∷ lines_of (after_first s)
    → into_first b lines ≡ first_text (b ∷ s) ∷ lines_of (after_first (b ∷ s))
joined b s lines e h first = rw (first, to_next b s e, one_later b s (to_feed s) h)

begins_empty : (b : ℕ) (s : List ℕ) → eqb b line_feed ≡ true → lines_of (b ∷ s) ≡ first_text (b ∷ s) ∷ lines_of (after_first (b ∷ s))
unfolding lines_of
begins_empty b s e = rw (e, at_feed b s e, ends_empty (b ∷ s))

no_feed : (b : ℕ) → eqb b line_feed ≡ false → to_feed (b ∷ []) ≡ 1
unfolding to_feed
no_feed b e = rw e

one_byte : (b : ℕ) → eqb b line_feed ≡ false → lines_of (b ∷ []) ≡ first_text (b ∷ []) ∷ lines_of (after_first (b ∷ []))
unfolding lines_of
one_byte b e = rw (e, no_feed b e) (by (eqb b carriage_return))
  where
    by : (k : Bool) → cond (k && false) [] ((b ∷ []) ∷ []) ≡ (b ∷ []) ∷ []
    by true = refl
    by false = refl

module _ (b c : ℕ) (s : List ℕ) (e : eqb b line_feed ≡ false) where
  abbrev Split : List ℕ → Type 0
  Split t = lines_of t ≡ first_text t ∷ lines_of (after_first t)

  ends_here : eqb b carriage_return ≡ true → eqb c line_feed ≡ true → Split (b ∷ c ∷ s)
  unfolding lines_of
  ends_here r f = rw (e, r, f, to_next b (c ∷ s) e, at_feed c s f, ends_fed (b ∷ c ∷ s) 0 (omega arith), r)

  goes_on
      : Split (c ∷ s) → (eqb b carriage_return && eqb c line_feed) ≡ false → (to_feed (c ∷ s) ≡ 0 → eqb b carriage_return ≡ false)
      → Split (b ∷ c ∷ s)
  unfolding lines_of
  goes_on ih f h = rw (e, f) (joined b (c ∷ s) (lines_of (c ∷ s)) e h ih)

  more_bytes : Split (c ∷ s) → Split (b ∷ c ∷ s)
  more_bytes ih = by (eqb b carriage_return) refl (eqb c line_feed) refl
    where
      by : (j : Bool) → eqb b carriage_return ≡ j → (k : Bool) → eqb c line_feed ≡ k → Split (b ∷ c ∷ s)
      by true r true f = ends_here r f
      by true r false f = goes_on ih (rw (r, f)) (λ z. absurd (suc-ne-zero (to_feed s) (sym (to_next c s f) ∙ z)))
      by false r k f = goes_on ih (rw r) (λ z. r)

first_line : (b : ℕ) (s : List ℕ) → lines_of (b ∷ s) ≡ first_text (b ∷ s) ∷ lines_of (after_first (b ∷ s))
first_line b [] = by (eqb b line_feed) refl
  where
    by : (k : Bool) → eqb b line_feed ≡ k → lines_of (b ∷ []) ≡ first_text (b ∷ []) ∷ lines_of (after_first (b ∷ []))
    by true e = begins_empty b [] e
    by false e = one_byte b e
first_line b (c ∷ s) = by (eqb b line_feed) refl (first_line c s)
  where
    by : (k : Bool) → eqb b line_feed ≡ k → lines_of (c ∷ s) ≡ first_text (c ∷ s) ∷ lines_of (after_first (c ∷ s))
        → lines_of (b ∷ c ∷ s) ≡ first_text (b ∷ c ∷ s) ∷ lines_of (after_first (b ∷ c ∷ s))
    by true e ih = begins_empty b (c ∷ s) e
    by false e ih = more_bytes b c s e ih

-- ---- the same at a place of a file

module _ (s : List ℕ) (at : ℕ) where
  abbrev rest : List ℕ
  rest = drop at s

  same_end : (n : ℕ) → text_end s at (at + n) - at ≡ ends rest n
  unfolding text_end
  same_end zero =
      rw (le-ltb at (at + 0) (omega arith), ends_empty rest) (by (ltb (at + 0) (length s)))
    where
      by : (k : Bool) → cond (k && false && eqb (byte_at s (at + 0 - 1)) carriage_return) (at + 0 - 1) (at + 0) - at ≡ 0
      by true = omega arith
      by false = omega arith
  same_end (suc n) = by (dec_le (suc (suc n)) (length rest))
    where
      at_return : (k : Bool) → cond k (at + n) (at + suc n) - at ≡ cond k n (suc n)
      at_return true = omega arith
      at_return false = omega arith

      by : Dec (suc (suc n) ≤ length rest)
          → cond (ltb (at + suc n) (length s) && ltb at (at + suc n) && eqb (byte_at s (at + suc n - 1)) carriage_return) (at + suc n - 1)
          (at + suc n) - at
          ≡ ends rest (suc n)
      by (yes h) =
          let before : at + suc n - 1 ≡ at + n = omega arith in
          rw (
            lt-ltb (at + suc n) (length s) (omega (arith, length-drop at s)),
            lt-ltb at (at + suc n) (omega arith),
            before,
            ends_fed rest n h,
            get_or-drop at s n 0,
          )
          (at_return (eqb (byte_at s (at + n)) carriage_return))
      by (no h) =
          rw (le-ltb (at + suc n) (length s) (omega (arith, length-drop at s)), ends_last rest (suc n) (omega arith)) (omega arith)

  first_there : first_text rest ≡ text_at s at
  first_there = ap (λ (n : ℕ). take n rest) (sym (same_end (to_feed rest)))

  after_there : after_first rest ≡ drop (feed_at s at + 1) s
  after_there =
      drop-drop (suc (to_feed rest)) at s
      ∙ ap (λ (n : ℕ). drop n s) {x = at + suc (to_feed rest)} {y = feed_at s at + 1} (omega arith)

  -- The lines from a place on: the one that starts there, and those from behind its line feed on.
  pub line_step : at < length s → lines_of (drop at s) ≡ text_at s at ∷ lines_of (drop (feed_at s at + 1) s)
  line_step h = by rest (drop-cons s at 0 h) ∙ rw (first_there, after_there)
    where
      by : (t : List ℕ) {b : ℕ} {u : List ℕ} → t ≡ b ∷ u → lines_of t ≡ first_text t ∷ lines_of (after_first t)
      by t {b} {u} e = rw e (first_line b u)

  pub no_line : length s ≤ at → lines_of (drop at s) ≡ []
  unfolding lines_of
  no_line h = rw (drop_of_length-le s h)
