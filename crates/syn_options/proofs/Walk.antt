-- The walk place by place: one turn of the loop, where it stops and where it ends.
use Rattle.std.specs.Prelude.{Option, Some, None}
use mathlib.Core.Path.{◌≡◌, refl, sym, ◌∙◌, ap}
use mathlib.Core.Bool.{Bool, true, false, cond}
use mathlib.Core.List.{List, [], ◌∷◌}
use Prim.Native.Nat.{ℕ, zero, suc, ◌+◌, ◌-◌, ◌<◌, ◌≤◌, min}
use native.Mathlib.Omega.{arith}
use lib.ListN.{length, take, drop, set, drop_of_length-le}
use borrow.Author.Tests.{ne_eqb}
use Rattle.basis.specs.Bytes.{byte_at, part}
use Rattle.basis.proofs.Bytes.{part_length}
use Rattle.one_option.specs.declared.OptionStep.{OptionStep}
use Rattle.one_option.specs.declared.Seen.{Seen}
use Rattle.one_option.specs.Options.{options_after, options_of, option_at, step_of}
use Rattle.one_option.specs.See.{see_option}
use Rattle.one_option.proofs.Options.{take_clipped, own_part, step_kind, step_lies, options_from}
use Rattle.one_option.proofs.See.{opt}
use Rattle.syn_options.specs.declared.Places.{Places}
use Rattle.syn_options.specs.declared.StopBefore.{StopBefore}
use Rattle.syn_options.specs.Walk.{Walked, entry_byte, put_entry, put_option}
use Rattle.syn_options.specs.Places.{size_of}
use Rattle.syn_options.specs.Stops.{stops_before, stopped, walk_with, stops_at, first_known}
use Rattle.syn_options.proofs.Rows.{noted_if, noted, row_walk}

-- The state of the loop as what has been walked so far.
abbrev pub so_far : List ℕ → List ℕ → ℕ → Seen → Walked
so_far kinds bytes count seen =
    record { olayout = record { kinds = kinds; bytes = bytes; count = count }; seen = seen; malformed = false }

-- What is known of the places behind one option more.
abbrev pub noted_at : Places → OptionStep → ℕ → Places
noted_at p step at = record { past = noted_if step.past p.past at; short = noted_if step.short p.short at }

-- The code's two cases of it.
pub damaged_known : {damaged : Bool} (known : Option ℕ) (at : ℕ) → damaged ≡ true → first_known known at ≡ noted_if damaged known at
unfolding first_known noted_if
damaged_known None at e = rw e
damaged_known (Some n) at e = refl

pub sound_known : {damaged : Bool} (known : Option ℕ) (at : ℕ) → damaged ≡ false → known ≡ noted_if damaged known at
unfolding noted_if
sound_known None at e = rw e
sound_known (Some n) at e = refl

-- ---- the entry

-- A byte of 0 is there already.
set_zero : (l : List ℕ) (i : ℕ) → byte_at l i ≡ 0 → l ≡ set l i 0
set_zero [] i e = refl
set_zero (x ∷ l) zero e = ap (λ (b : ℕ). b ∷ l) e
set_zero (x ∷ l) (suc i) e = ap (◌∷◌ x) (set_zero l i e)

module _ (bytes : List ℕ) (count kind left : ℕ) where
  pub last_entry : kind ≡ 0 → set bytes count left ≡ set bytes count (entry_byte kind left)
  unfolding entry_byte
  last_entry e = rw e

  pub other_entry : (kind ≡ 0 → ⊥) → byte_at bytes count ≡ 0 → bytes ≡ set bytes count (entry_byte kind left)
  unfolding entry_byte
  other_entry some e = rw (ne_eqb kind 0 some) (set_zero bytes count e)

-- ---- the turn

module _
    (stop : StopBefore) (syn : Bool) (kinds bytes : List ℕ) (count : ℕ) (seen : Seen) (p : Places) (s : List ℕ) (at : ℕ)
    (inside : at < length s) (step : OptionStep) (is : step ≡ step_of s at)
  where
    size : length (option_at s at).own ≡ (step_of s at).end - (at + 1)
    size = ap length (sym (own_part s at)) ∙ part_length (at + 1) (step_of s at).end s (step_lies s at refl inside).1

    -- The next option begins where this one ends.
    ends : at + size_of (option_at s at) ≡ (step_of s at).end
    ends = let behind = (step_lies s at refl inside).0 in rw size (omega arith)

    here : row_walk stop syn (so_far kinds bytes count seen) p at (options_of (drop at s))
        ≡ cond (stops_at stop (step_of s at))
        (walk_with (stopped (so_far kinds bytes count seen)) (noted_at p (step_of s at) at))
        (row_walk stop syn (put_option syn (so_far kinds bytes count seen) (option_at s at)) (noted_at p (step_of s at) at)
        (step_of s at).end
        (options_of (drop (step_of s at).end s)))
    unfolding row_walk stops_before step_of
    here = rw (options_from s at inside, ends)

    pub turn_stops
        : {places : Places}
        → places ≡ noted_at p step at
        → stops_at stop step ≡ true
        → row_walk stop syn (so_far kinds bytes count seen) p at (options_of (drop at s))
        ≡ walk_with (stopped (so_far kinds bytes count seen)) places
    turn_stops noted e = rw (here, ← is, e, noted)

    pub turn_goes_on
        : {places : Places}
        → places ≡ noted_at p step at
        → stops_at stop step ≡ false
        → row_walk stop syn
        (so_far (set kinds count step.kind)
        (set bytes count (entry_byte step.kind (step.end - (at + 1))))
        (count + 1)
        (see_option syn seen (opt step.kind (part (at + 1) step.end s))))
        places
        step.end
        (options_of (drop step.end s))
        ≡ row_walk stop syn (so_far kinds bytes count seen) p at (options_of (drop at s))
    unfolding put_entry
    turn_goes_on noted e = rw (here, ← is, e, noted, is, own_part s at, ← size, step_kind s at)

pub walk_ends
    : (stop : StopBefore) (syn : Bool) (w : Walked) (p : Places) (s : List ℕ) (at : ℕ)
    → length s ≤ at
    → row_walk stop syn w p at (options_of (drop at s)) ≡ walk_with w p
unfolding row_walk options_after
walk_ends stop syn w p s at h = rw (drop_of_length-le s h)

-- The first forty bytes, as the code lends them.
pub forty : (s : List ℕ) (end : ℕ) → end ≡ min (length s) 40 → take (end - 0) (drop 0 s) ≡ take 40 s
forty s end e =
    let cut : end - 0 ≡ min 40 (length s) = omega arith in
    rw cut (sym (take_clipped 40 s))
