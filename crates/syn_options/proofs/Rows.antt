-- The walk option by option, as the loop makes it, is the walk of the bytes before the place where it stops.
use Rattle.std.specs.Prelude.{Option, Some, None}
use mathlib.Core.Path.{◌≡◌, refl, sym, ◌∙◌, ap}
use mathlib.Core.Bool.{Bool, true, false, cond}
use mathlib.Core.List.{List, [], ◌∷◌}
use Prim.Native.Nat.{ℕ, suc, ◌+◌, ◌-◌, ◌≤◌}
use native.Mathlib.Omega.{arith}
use native.Mathlib.Nat.{sub-zero}
use lib.ListN.{length, take, length-take}
use lib.Seq.{take_all}
use borrow.Author.Tests.{lt-ltb, le-ltb}
use Rattle.quirks.specs.declared.QuirkSet.{QuirkSet}
use Rattle.one_option.specs.Options.{Opt, runs_past, short_length, options_of}
use Rattle.one_option.proofs.Cut.{cut, options_cut}
use Rattle.syn_options.specs.declared.Places.{Places}
use Rattle.syn_options.specs.declared.StopBefore.{StopBefore}
use Rattle.syn_options.specs.declared.OptionWalk.{OptionWalk}
use Rattle.syn_options.specs.Walk.{Walked, put_option, walk_from, start_walk, walk_of}
use Rattle.syn_options.specs.Places.{size_of, first_from, no_places}
use Rattle.syn_options.specs.Stops.{stops_before, stopped, walk_up_to, walk_with, came_to, walk_to}

-- ---- the walk of a row

-- A place that is known stays; else an option with the damage gives it.
unfoldable pub noted_if : Bool → Option ℕ → ℕ → Option ℕ
noted_if damaged None at = cond damaged (Some at) None
noted_if damaged (Some n) at = Some n

-- What is known of the places after one option more, which begins at a place.
abbrev pub noted : Places → Opt → ℕ → Places
noted p o at = record { past = noted_if (runs_past o) p.past at; short = noted_if (short_length o) p.short at }

unfoldable pub row_walk : StopBefore → Bool → Walked → Places → ℕ → List Opt → OptionWalk
row_walk stop syn w p at [] = walk_with w p
row_walk stop syn w p at (o ∷ os) =
    cond (stops_before stop o)
    (walk_with (stopped w) (noted p o at))
    (row_walk stop syn (put_option syn w o) (noted p o at) (at + size_of o) os)

-- ---- what it says of the options

-- The options before the first that meets a test.
unfoldable pub before : (Opt → Bool) → List Opt → List Opt
before test [] = []
before test (o ∷ os) = cond (test o) [] (o ∷ before test os)

-- A walk that stops at this place, or at none.
abbrev stopped_at : Option ℕ → Walked → Walked
stopped_at None w = w
stopped_at (Some k) w = stopped w

-- ---- the options before a place are those of the bytes before it

-- A place that is not before another.
abbrev pub From : ℕ → Option ℕ → Type 0
From at None = Unit
From at (Some k) = at ≤ k

pub first_from_lem : (test : Opt → Bool) (at : ℕ) (os : List Opt) → From at (first_from test at os)
unfolding first_from
first_from_lem test at [] = tt
first_from_lem test at (o ∷ os) = by_test (test o) (first_from test (at + size_of o) os) (first_from_lem test (at + size_of o) os)
  where
    by_test : (t : Bool) (later : Option ℕ) → From (at + size_of o) later → From at (cond t (Some at) later)
    by_test true later h = omega arith
    by_test false None h = tt
    by_test false (Some k) h = omega arith

-- A row that begins at one place, cut at another.
abbrev cut_at : ℕ → Option ℕ → List Opt → List Opt
cut_at at None os = os
cut_at at (Some k) os = cut (k - at) os

row_cut : (test : Opt → Bool) (at : ℕ) (os : List Opt) → cut_at at (first_from test at os) os ≡ before test os
unfolding first_from before
row_cut test at [] = refl
row_cut test at (o ∷ os) =
    by_test (test o) (first_from test (at + size_of o) os) (first_from_lem test (at + size_of o) os) (row_cut test (at + size_of o) os)
  where
    goes_on
        : (later : Option ℕ)
        → From (at + size_of o) later
        → cut_at (at + size_of o) later os ≡ before test os
        → cut_at at later (o ∷ os) ≡ o ∷ before test os
    goes_on None h rest = ap (◌∷◌ o) rest
    goes_on (Some k) h rest =
        let steps : k - at ≡ suc (length o.own + (k - (at + size_of o))) = omega arith in
        let left : length o.own + (k - (at + size_of o)) - length o.own ≡ k - (at + size_of o) = omega arith in
        rw (steps, left, take_all (length o.own + (k - (at + size_of o))) o.own (omega arith), rest)

    by_test
        : (t : Bool) (later : Option ℕ)
        → From (at + size_of o) later
        → cut_at (at + size_of o) later os ≡ before test os
        → cut_at at (cond t (Some at) later) (o ∷ os) ≡ cond t [] (o ∷ before test os)
    by_test true later h rest = let none : at - at ≡ 0 = omega arith in rw none
    by_test false later h rest = goes_on later h rest

-- ---- what is known of the places

-- The first option that meets one test, of those up to the first that meets another.
unfoldable noted_from : (Opt → Bool) → (Opt → Bool) → Option ℕ → ℕ → List Opt → Option ℕ
noted_from stops test known at [] = known
noted_from stops test known at (o ∷ os) =
    cond (stops o) (noted_if (test o) known at) (noted_from stops test (noted_if (test o) known at) (at + size_of o) os)

row-walk_with
    : (stop : StopBefore) (syn : Bool) (w : Walked) (p : Places) (at : ℕ) (os : List Opt)
    → row_walk stop syn w p at os
    ≡ walk_with (stopped_at (first_from (stops_before stop) at os) (walk_from false syn w (before (stops_before stop) os)))
    (record {
      past = noted_from (stops_before stop) runs_past p.past at os;
      short = noted_from (stops_before stop) short_length p.short at os;
    })
unfolding row_walk first_from before noted_from walk_from
row-walk_with stop syn w p at [] = refl
row-walk_with stop syn w p at (o ∷ os) =
    by_test (stops_before stop o) _ _ _ _ _ (row-walk_with stop syn (put_option syn w o) (noted p o at) (at + size_of o) os)
  where
    by_test
        : (t : Bool) (rest : OptionWalk) (later : Option ℕ) (ahead : List Opt) (past short : Option ℕ)
        → rest ≡ walk_with (stopped_at later (walk_from false syn (put_option syn w o) ahead)) (record { past = past; short = short })
        → cond t (walk_with (stopped w) (noted p o at)) rest
        ≡ walk_with (stopped_at (cond t (Some at) later) (walk_from false syn w (cond t [] (o ∷ ahead))))
        (record { past = cond t (noted p o at).past past; short = cond t (noted p o at).short short })
    by_test true rest later ahead past short h = refl
    by_test false rest later ahead past short h = h

module _ (stops test : Opt → Bool) where
  known_stays : (n at : ℕ) (os : List Opt) → noted_from stops test (Some n) at os ≡ Some n
  unfolding noted_from noted_if
  known_stays n at [] = refl
  known_stays n at (o ∷ os) = by_test (stops o) (known_stays n (at + size_of o) os)
    where
      by_test
          : (t : Bool)
          → noted_from stops test (Some n) (at + size_of o) os ≡ Some n
          → cond t (Some n) (noted_from stops test (Some n) (at + size_of o) os) ≡ Some n
      by_test true h = refl
      by_test false h = h

  came_to_lem : (at : ℕ) (os : List Opt) → noted_from stops test None at os ≡ came_to (first_from stops at os) (first_from test at os)
  unfolding noted_from first_from noted_if came_to
  came_to_lem at [] = refl
  came_to_lem at (o ∷ os) =
      by_tests (stops o) (test o) (first_from stops (at + size_of o) os) (first_from test (at + size_of o) os)
      (first_from_lem stops (at + size_of o) os) (first_from_lem test (at + size_of o) os) (came_to_lem (at + size_of o) os)
    where
      -- What lies behind is not come to, and hides nothing that lies here.
      behind : (later : Option ℕ) → From (at + size_of o) later → came_to (Some at) later ≡ None
      behind None h = refl
      behind (Some k) h = rw (lt-ltb at k (omega arith))

      here : (later : Option ℕ) → From (at + size_of o) later → Some at ≡ came_to later (Some at)
      here None h = refl
      here (Some k) h = rw (le-ltb k at (omega arith))

      by_tests
          : (t u : Bool) (stop found : Option ℕ)
          → From (at + size_of o) stop
          → From (at + size_of o) found
          → noted_from stops test None (at + size_of o) os ≡ came_to stop found
          → cond t (cond u (Some at) None) (noted_from stops test (cond u (Some at) None) (at + size_of o) os)
          ≡ came_to (cond t (Some at) stop) (cond u (Some at) found)
      by_tests true true stop found h k rest = rw (le-ltb at at (omega arith))
      by_tests true false stop found h k rest = sym (behind found k)
      by_tests false true stop found h k rest = known_stays at (at + size_of o) os ∙ here stop h
      by_tests false false stop found h k rest = rest

-- ---- the two are one

-- A walk that stops at a place of at most forty bytes.
up_to_lem
    : (syn : Bool) (quirks : QuirkSet) (s : List ℕ)
    → length s ≤ 40
    → (stop : Option ℕ)
    → stopped_at stop (walk_from false syn (start_walk quirks) (cut_at 0 stop (options_of s))) ≡ walk_up_to stop syn quirks s
unfolding walk_up_to walk_of
up_to_lem syn quirks s h None = rw (take_all 40 s h)
up_to_lem syn quirks s h (Some k) =
    let few : length (take k s) ≤ 40 = rw length-take (omega arith) in
    rw (sub-zero, take_all 40 (take k s) few, options_cut 0 k s, sub-zero)

pub row_is_walk
    : (stop : StopBefore) (syn : Bool) (quirks : QuirkSet) (s : List ℕ)
    → length s ≤ 40
    → row_walk stop syn (start_walk quirks) no_places 0 (options_of s) ≡ walk_to stop syn quirks s
unfolding walk_to
row_is_walk stop syn quirks s h =
    let stops = stops_before stop in
    let os = options_of s in
    row-walk_with stop syn (start_walk quirks) no_places 0 os
    ∙ rw (
      ← row_cut stops 0 os,
      came_to_lem stops runs_past 0 os,
      came_to_lem stops short_length 0 os,
      up_to_lem syn quirks s h (first_from stops 0 os),
    )
