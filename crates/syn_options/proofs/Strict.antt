-- The strict entry's walk: where it stops, and what it shows.
use Rattle.std.specs.Prelude.{Option, Some, None}
use mathlib.Core.Path.{◌≡◌, refl, ◌∙◌, ap}
use mathlib.Core.Bool.{Bool, true, false, cond, ◌||◌}
use mathlib.Core.List.{List, [], ◌∷◌}
use Prim.Native.Nat.{ℕ, ◌+◌, min}
use native.Mathlib.Omega.{arith}
use lib.ListN.{take}
use lib.Seq.{take-take}
use Rattle.quirks.specs.declared.Quirk.TheVariants as quirk
use Rattle.quirks.specs.declared.QuirkSet.{QuirkSet}
use Rattle.quirks.specs.Quirks.{contains}
use Rattle.quirks.proofs.Laws.{contains_with_same}
use Rattle.one_option.specs.Options.{Opt, runs_past, short_length, options_of}
use Rattle.syn_options.specs.declared.Places.{Places}
use Rattle.syn_options.specs.Walk.{walk_of}
use Rattle.syn_options.specs.Places.{size_of, first_from, first_of, places_of, no_places, earlier}
use Rattle.syn_options.specs.Stops.{damage, stops_before, walk_up_to, walked_of, walk_to, walk_options}
use Rattle.syn_options.proofs.Rows.{From, first_from_lem}

-- ---- where it stops

-- The first option that meets either of two tests.
either_first
    : (p q : Opt → Bool) (at : ℕ) (os : List Opt)
    → first_from (λ (o : Opt). p o || q o) at os ≡ earlier (first_from p at os) (first_from q at os)
unfolding first_from earlier
either_first p q at [] = refl
either_first p q at (o ∷ os) =
    by_tests (p o) (q o) (first_from p (at + size_of o) os) (first_from q (at + size_of o) os)
    (first_from_lem p (at + size_of o) os) (first_from_lem q (at + size_of o) os) (either_first p q (at + size_of o) os)
  where
    left : (later : Option ℕ) → From (at + size_of o) later → Some at ≡ earlier (Some at) later
    left None h = refl
    left (Some k) h = let least : at ≡ min at k = omega arith in ap Some least

    right : (later : Option ℕ) → From (at + size_of o) later → Some at ≡ earlier later (Some at)
    right None h = refl
    right (Some k) h = let least : at ≡ min k at = omega arith in ap Some least

    by_tests
        : (t u : Bool) (first second : Option ℕ)
        → From (at + size_of o) first
        → From (at + size_of o) second
        → first_from (λ (o : Opt). p o || q o) (at + size_of o) os ≡ earlier first second
        → cond (t || u) (Some at) (first_from (λ (o : Opt). p o || q o) (at + size_of o) os)
        ≡ earlier (cond t (Some at) first) (cond u (Some at) second)
    by_tests true true first second h k rest = let least : at ≡ min at at = omega arith in ap Some least
    by_tests true false first second h k rest = left second k
    by_tests false true first second h k rest = right first h
    by_tests false false first second h k rest = rest

-- The strict walk stops at the earlier of the two places.
pub stop_place : (s : List ℕ) → first_of (stops_before damage) s ≡ earlier (places_of s).past (places_of s).short
unfolding stops_before
stop_place s = either_first runs_past short_length 0 (options_of s)

-- ---- sound options, and damaged ones

pub sound_walk
    : (syn : Bool) (quirks : QuirkSet) (s : List ℕ)
    → places_of (take 40 s) ≡ no_places
    → walked_of (walk_options damage syn quirks s) ≡ walk_of false syn quirks s
unfolding walk_options walk_to walk_up_to walk_of earlier
sound_walk syn quirks s sound =
    let none : first_of (stops_before damage) (take 40 s) ≡ None =
    stop_place (take 40 s) ∙ ap (λ (p : Places). earlier p.past p.short) sound in
    rw (none, take-take 40 40 s (omega arith))

module _ (syn : Bool) (quirks : QuirkSet) (s : List ℕ) where
  stopped_shows : (k : ℕ) → contains (walk_up_to (Some k) syn quirks s).seen.quirks quirk.OptBad ≡ true
  unfolding walk_up_to
  stopped_shows k = contains_with_same _ quirk.OptBad

  by_places
      : (past short : Option ℕ)
      → (◌≡◌ {A = Places} (record { past = past; short = short }) no_places → ⊥)
      → contains (walk_up_to (earlier past short) syn quirks s).seen.quirks quirk.OptBad ≡ true
  unfolding earlier
  by_places None None damaged = absurd (damaged refl)
  by_places None (Some n) damaged = stopped_shows n
  by_places (Some m) None damaged = stopped_shows m
  by_places (Some m) (Some n) damaged = stopped_shows (min m n)

pub damaged_walk
    : (syn : Bool) (quirks : QuirkSet) (s : List ℕ)
    → (places_of (take 40 s) ≡ no_places → ⊥)
    → contains (walk_options damage syn quirks s).seen.quirks quirk.OptBad ≡ true
unfolding walk_options walk_to
damaged_walk syn quirks s damaged =
    rw (stop_place (take 40 s)) (by_places syn quirks (take 40 s) (places_of (take 40 s)).past (places_of (take 40 s)).short damaged)
