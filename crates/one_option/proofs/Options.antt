-- The options place by place: the option at a place, its own bytes, where it ends and what follows.
use mathlib.Core.Path.{◌≡◌, refl, sym, ◌∙◌, ap}
use mathlib.Core.Bool.{true, false, ◌&&◌, true≢false}
use mathlib.Core.List.{List, [], ◌∷◌}
use Prim.Native.Nat.{ℕ, zero, suc, ◌+◌, ◌-◌, ◌<◌, ◌≤◌, min, max}
use native.Mathlib.Omega.{arith}
use native.Mathlib.Nat.{add-zero, zero-min, suc-min-suc}
use native.Mathlib.Numerals.{add-one}
use native.Mathlib.Decide.{dec_le}
use lib.Dec.{leb, ltb}
use lib.ListN.{length, take, drop, length-take, length-drop, get_or-eq_default}
use lib.Seq.{drop-cons, drop-drop, drop-nil, take-nil, get_or-take, get_or-drop}
use borrow.Author.Tests.{ltb-true, leb-true, leb-false, lt-ltb, le-ltb, ne_eqb}
use Rattle.basis.specs.Bytes.{byte_at, part}
use Rattle.basis.proofs.Tests.{and_left, and_right, and_false}
use Rattle.one_option.specs.declared.OptionStep.{OptionStep}
use Rattle.one_option.specs.Options.{Opt, asked, runs_past, short_length, options_after, options_of, option_at, step_of}

-- ---- to skip or take more than there is is to skip or take what there is

pub skipped : (k : ℕ) (s : List ℕ) → options_after k s ≡ options_of (drop k s)
unfolding options_after
skipped zero s = refl
skipped (suc k) [] = refl
skipped (suc k) (b ∷ rest) = skipped k rest

drop_clipped : (k : ℕ) (s : List ℕ) → drop k s ≡ drop (min k (length s)) s
drop_clipped zero s = rw zero-min
drop_clipped (suc k) [] = sym (drop-nil (min (suc k) 0))
drop_clipped (suc k) (b ∷ s) = rw suc-min-suc (drop_clipped k s)

pub take_clipped : (k : ℕ) (s : List ℕ) → take k s ≡ take (min k (length s)) s
take_clipped zero s = rw zero-min
take_clipped (suc k) [] = sym (take-nil (min (suc k) 0))
take_clipped (suc k) (b ∷ s) = rw suc-min-suc (ap (◌∷◌ b) (take_clipped k s))

-- ---- what an option asks for, kind by kind

module _ (kind : ℕ) (rest : List ℕ) where
  pub asked_last : kind ≡ 0 → asked kind rest ≡ length rest
  unfolding asked
  asked_last e = rw e

  pub asked_nop : kind ≡ 1 → asked kind rest ≡ 0
  unfolding asked
  asked_nop e = rw e

  pub asked_sized : (kind ≡ 0 → ⊥) → (kind ≡ 1 → ⊥) → asked kind rest ≡ max (byte_at rest 0) 2 - 1
  unfolding asked
  asked_sized n0 n1 = rw (ne_eqb kind 0 n0, ne_eqb kind 1 n1)

-- An option whose length byte is 0 or 1 has all that it asks for.
pub never_both : (o : Opt) → short_length o ≡ true → runs_past o ≡ false
unfolding runs_past short_length
never_both o short =
    let kind = ltb-true 1 o.kind (and_left _ _ short) in
    let some = ltb-true 0 (length o.own) (and_left _ _ (and_right (ltb 1 o.kind) _ short)) in
    let small = ltb-true (byte_at o.own 0) 2 (and_right (ltb 0 (length o.own)) _ (and_right (ltb 1 o.kind) _ short)) in
    rw (asked_sized o.kind o.own (λ e. omega arith) (λ e. omega arith))
    (le-ltb (length o.own) (max (byte_at o.own 0) 2 - 1) (omega arith))

-- ---- one step

-- Past the end there are zeros.
pub inside_nonzero : (s : List ℕ) (at : ℕ) → (byte_at s at ≡ 0 → ⊥) → at < length s
inside_nonzero s at some =
    elim (dec_le (length s) at) [ yes h ↦ absurd (some (get_or-eq_default s 0 {n = at} h)) | no h ↦ omega arith ]

-- Its two tests in places of the string.
module _ (at all b : ℕ) where
  past_places : at < all → ltb (min (max b 2 - 1) (all - (at + 1))) (max b 2 - 1) ≡ ltb all (at + max b 2)
  past_places inside =
      elim (dec_le (at + max b 2) all) [
        | yes h ↦ rw (le-ltb (min (max b 2 - 1) (all - (at + 1))) (max b 2 - 1) (omega arith), le-ltb all (at + max b 2) h)
        | no h ↦ rw (lt-ltb (min (max b 2 - 1) (all - (at + 1))) (max b 2 - 1) (omega arith), lt-ltb all (at + max b 2) (omega arith))
      ]

  byte_places : ltb 0 (min (max b 2 - 1) (all - (at + 1))) ≡ ltb (at + 1) all
  byte_places =
      elim (dec_le all (at + 1)) [
        | yes h ↦ rw (le-ltb 0 (min (max b 2 - 1) (all - (at + 1))) (omega arith), le-ltb (at + 1) all h)
        | no h ↦ rw (lt-ltb 0 (min (max b 2 - 1) (all - (at + 1))) (omega arith), lt-ltb (at + 1) all (omega arith))
      ]

module _ (s : List ℕ) (at : ℕ) where
  pub step_kind : (step_of s at).kind ≡ (option_at s at).kind
  unfolding step_of
  step_kind = refl

  -- Its own bytes.
  pub own_part : part (at + 1) (step_of s at).end s ≡ (option_at s at).own
  unfolding step_of
  own_part =
      let n = asked (byte_at s at) (drop (at + 1) s) in
      let cut : min (at + 1 + n) (length s) - (at + 1) ≡ min n (length (drop (at + 1) s)) = rw length-drop (omega arith) in
      rw cut (sym (take_clipped n (drop (at + 1) s)))

  -- Kind 0 at a place, or the string's end before it.
  pub last_step
      : (kind : ℕ) → kind ≡ 0 → byte_at s at ≡ 0 → record { kind = kind; end = length s; past = false; short = false } ≡ step_of s at
  unfolding step_of runs_past short_length
  last_step kind k e =
      let own = take (asked 0 (drop (at + 1) s)) (drop (at + 1) s) in
      let ends : min (at + 1 + (length s - (at + 1))) (length s) ≡ length s = omega arith in
      rw (k, e, asked_last 0 own refl, le-ltb (length own) (length own) (omega arith))
      (rw (asked_last 0 (drop (at + 1) s) refl, length-drop, ends))

-- It ends behind its kind byte, and within the string.
pub step_lies
    : (s : List ℕ) (at : ℕ) {step : OptionStep} → step ≡ step_of s at → at < length s → (at < step.end) × (step.end ≤ length s)
unfolding step_of
step_lies s at is inside = rw is (omega arith, omega arith)

module _ (s : List ℕ) (at : ℕ) (inside : at < length s) where
  -- The option at a place, and those after it.
  pub options_from : options_of (drop at s) ≡ option_at s at ∷ options_of (drop (step_of s at).end s)
  unfolding step_of options_after
  options_from =
      let n = asked (byte_at s at) (drop (at + 1) s) in
      ap options_of (drop-cons s at 0 inside ∙ ap (λ (k : ℕ). byte_at s at ∷ drop k s) (sym (add-one at)))
      ∙ ap (◌∷◌ (option_at s at))
      (skipped n (drop (at + 1) s) ∙ ap options_of (drop-drop n (at + 1) s ∙ drop_clipped (at + 1 + n) s))

  pub nop_step : byte_at s at ≡ 1 → record { kind = byte_at s at; end = at + 1; past = false; short = false } ≡ step_of s at
  unfolding step_of runs_past short_length
  nop_step e =
      let own = take (asked 1 (drop (at + 1) s)) (drop (at + 1) s) in
      let ends : min (at + 1 + 0) (length s) ≡ at + 1 = omega arith in
      rw (e, asked_nop 1 own refl, le-ltb (length own) 0 (omega arith), asked_nop 1 (drop (at + 1) s) refl, ends)

  sized_step
      : (byte_at s at ≡ 0 → ⊥)
      → (byte_at s at ≡ 1 → ⊥)
      → record {
        kind = byte_at s at;
        end = min (at + max (byte_at s (at + 1)) 2) (length s);
        past = ltb (length s) (at + max (byte_at s (at + 1)) 2);
        short = ltb (at + 1) (length s) && ltb (byte_at s (at + 1)) 2;
      }
      ≡ step_of s at
  unfolding step_of runs_past short_length
  sized_step n0 n1 =
      let b = byte_at s (at + 1) in
      let m = max (byte_at s (at + 1)) 2 - 1 in
      let left = drop (at + 1) s in
      let next : byte_at left 0 ≡ b = get_or-drop (at + 1) s 0 0 ∙ ap (byte_at s) (add-zero (at + 1)) in
      let asks : asked (byte_at s at) left ≡ m = asked_sized (byte_at s at) left n0 n1 ∙ ap (λ (x : ℕ). max x 2 - 1) next in
      let length_byte_lem : byte_at (take m left) 0 ≡ b = get_or-take m left 0 0 (omega arith) ∙ next in
      let size : length (take m left) ≡ min m (length s - (at + 1)) = rw (length-take, length-drop) in
      let ends : at + 1 + m ≡ at + max b 2 = omega arith in
      rw (asks, asked_sized (byte_at s at) (take m left) n0 n1, length_byte_lem, size, ends)
      (rw (past_places at (length s) b inside, lt-ltb 1 (byte_at s at) (omega arith), byte_places at (length s) b))

  -- Case by case, as the code tests it. An absent length byte reads as 0.
  module _ (n0 : byte_at s at ≡ 0 → ⊥) (n1 : byte_at s at ≡ 1 → ⊥) where
    abbrev next : ℕ
    next = byte_at s (at + 1)

    pub sound_step
        : ltb 1 next && leb (at + next) (length s) ≡ true
        → record { kind = byte_at s at; end = at + next; past = false; short = false } ≡ step_of s at
    sound_step sound =
        let large = ltb-true 1 next (and_left _ _ sound) in
        let fits = leb-true (at + next) (length s) (and_right (ltb 1 next) _ sound) in
        let ends : min (at + max next 2) (length s) ≡ at + next = omega arith in
        rw (← sized_step n0 n1, le-ltb (length s) (at + max next 2) (omega arith), le-ltb next 2 large, ends)
        (rw (and_false (ltb (at + 1) (length s))))

    pub short_step
        : ltb (at + 1) (length s) && ltb next 2 ≡ true
        → record { kind = byte_at s at; end = at + 1 + 1; past = false; short = true } ≡ step_of s at
    short_step short =
        let whole = ltb-true (at + 1) (length s) (and_left _ _ short) in
        let small = ltb-true next 2 (and_right (ltb (at + 1) (length s)) _ short) in
        let ends : min (at + max next 2) (length s) ≡ at + 1 + 1 = omega arith in
        rw (
          ← sized_step n0 n1,
          le-ltb (length s) (at + max next 2) (omega arith),
          lt-ltb (at + 1) (length s) whole,
          lt-ltb next 2 small,
          ends,
        )

    cut_step : length s ≤ at + 1 → record { kind = byte_at s at; end = length s; past = true; short = false } ≡ step_of s at
    cut_step cut =
        let ends : min (at + max next 2) (length s) ≡ length s = omega arith in
        rw (← sized_step n0 n1, lt-ltb (length s) (at + max next 2) (omega arith), le-ltb (at + 1) (length s) cut, ends)

    long_step
        : 2 ≤ next
        → length s < at + next
        → record { kind = byte_at s at; end = length s; past = true; short = false } ≡ step_of s at
    long_step large past =
        let ends : min (at + max next 2) (length s) ≡ length s = omega arith in
        rw (← sized_step n0 n1, lt-ltb (length s) (at + max next 2) (omega arith), le-ltb next 2 large, ends)
        (rw (and_false (ltb (at + 1) (length s))))

    pub past_step
        : ltb 1 next && leb (at + next) (length s) ≡ false
        → ltb (at + 1) (length s) && ltb next 2 ≡ false
        → record { kind = byte_at s at; end = length s; past = true; short = false } ≡ step_of s at
    past_step no-sound no_short =
        elim (dec_le (length s) (at + 1)) [
          | yes cut ↦ cut_step cut
          | no whole ↦
              elim (dec_le 2 next) [
                | yes large ↦ long_step large (leb-false (at + next) (length s) (rw (lt-ltb 1 next large) at no-sound))
                | no small ↦
                    absurd (true≢false (rw (lt-ltb (at + 1) (length s) (omega arith), lt-ltb next 2 (omega arith)) at no_short))
              ]
        ]
