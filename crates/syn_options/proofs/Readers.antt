-- The walks of the two readers of document 01 are the walk that stops before nothing, and the one that stops before what runs past the end.
use Rattle.std.specs.Prelude.{Option, Some, None, Result, Ok, Err}
use mathlib.Core.Path.{◌≡◌, refl, sym, ◌∙◌}
use mathlib.Core.Bool.{Bool, true, false, cond, ◌||◌}
use mathlib.Core.List.{List, [], ◌∷◌}
use Prim.Native.Nat.{ℕ, ◌+◌, ◌≤◌}
use native.Mathlib.Omega.{arith}
use lib.Dec.{ltb}
use lib.ListN.{length, take, length-take}
use lib.Seq.{take_all, take-take}
use Rattle.quirks.specs.declared.QuirkSet.{QuirkSet}
use Rattle.quirks.specs.Named.{empty}
use Rattle.one_option.specs.Options.{Opt, runs_past, options_of}
use Rattle.syn_options.specs.declared.Places.{Places}
use Rattle.syn_options.specs.declared.OptionWalk.{OptionWalk}
use Rattle.syn_options.specs.declared.ParsedTcpOptions.{ParsedTcpOptions}
use Rattle.refusals.specs.declared.OptionsTooLong.{OptionsTooLong}
use Rattle.syn_options.specs.Walk.{Walked, put_option, walk_from, start_walk, walk_of, parsed_of, too_long, parse_options_raw}
use Rattle.syn_options.specs.Places.{size_of, first_from, places_of, no_places}
use Rattle.syn_options.specs.Stops.{nothing, past_the_end, stops_before, stopped, walk_up_to, walk_with, walked_of, came_to}
use Rattle.syn_options.specs.Stops.{walk_to, walk_options, read_options}
use Rattle.syn_options.proofs.Rows.{noted, row_walk, row_is_walk}

-- ---- the packet reader's

never_stops : (at : ℕ) (os : List Opt) → first_from (stops_before nothing) at os ≡ None
unfolding first_from stops_before
never_stops at [] = refl
never_stops at (o ∷ os) = never_stops (at + size_of o) os

-- It comes to every place.
pub whole_walk
    : (syn : Bool) (quirks : QuirkSet) (s : List ℕ)
    → walk_options nothing syn quirks s ≡ walk_with (walk_of false syn quirks s) (places_of (take 40 s))
unfolding walk_options walk_to walk_up_to walk_of came_to
whole_walk syn quirks s = rw (never_stops 0 (options_of (take 40 s)), take-take 40 40 s (omega arith))

-- ---- the option-string reader's

string_row
    : (syn : Bool) (w : Walked) (p : Places) (at : ℕ) (os : List Opt)
    → parsed_of (walked_of (row_walk past_the_end syn w p at os)) ≡ parsed_of (walk_from true syn w os)
unfolding row_walk walk_from stops_before
string_row syn w p at [] = refl
string_row syn w p at (o ∷ os) =
    by_test (runs_past o) _ _ (string_row syn (put_option syn w o) (noted p o at) (at + size_of o) os)
  where
    by_test
        : (t : Bool) (rest : OptionWalk) (later : Walked)
        → parsed_of (walked_of rest) ≡ parsed_of later
        → parsed_of (walked_of (cond (t || false) (walk_with (stopped w) (noted p o at)) rest))
        ≡ parsed_of (cond t (record { olayout = w.olayout; seen = w.seen; malformed = true }) later)
    by_test true rest later h = refl
    by_test false rest later h = h

-- It shows `OptBad` where it stops, which `parse_options_raw` does not tell.
pub string_walk
    : (syn : Bool) (quirks : QuirkSet) (s : List ℕ)
    → parsed_of (walked_of (walk_options past_the_end syn quirks s)) ≡ parsed_of (walk_of true syn quirks s)
unfolding walk_options walk_of
string_walk syn quirks s =
    let few : length (take 40 s) ≤ 40 = rw length-take (omega arith) in
    rw (← row_is_walk past_the_end syn quirks (take 40 s) few) (string_row syn (start_walk quirks) no_places 0 (options_of (take 40 s)))

-- It stops at the first option past the end: so the answer is the walk of the bytes before it.
past_stops : (at : ℕ) (os : List Opt) → first_from (stops_before past_the_end) at os ≡ first_from runs_past at os
unfolding first_from stops_before
past_stops at [] = refl
past_stops at (o ∷ os) = by_test (runs_past o) _ _ (past_stops (at + size_of o) os)
  where
    by_test : (t : Bool) (a b : Option ℕ) → a ≡ b → cond (t || false) (Some at) a ≡ cond t (Some at) b
    by_test true a b h = refl
    by_test false a b h = h

pub string_up_to
    : (s : List ℕ) → length s ≤ 40 → parsed_of (walk_of true false empty s) ≡ parsed_of (walk_up_to (places_of s).past false empty s)
unfolding walk_options walk_to
string_up_to s few =
    sym (string_walk false empty s) ∙ rw (take_all 40 s few, past_stops 0 (options_of s))

-- What `parse_options_raw` draws from the walk of a string.
abbrev drawn : Result OptionWalk OptionsTooLong → Result ParsedTcpOptions OptionsTooLong
drawn (Ok walk) = Ok (parsed_of (walked_of walk))
drawn (Err why) = Err why

-- It is its answer, refusal 8 included.
pub parsed_of_walk : (s : List ℕ) → drawn (read_options past_the_end false empty s) ≡ parse_options_raw s
unfolding read_options parse_options_raw
parsed_of_walk s = by_length (ltb 40 (length s))
  where
    by_length
        : (t : Bool)
        → drawn (cond t (Err too_long) (Ok (walk_options past_the_end false empty s)))
        ≡ cond t (Err too_long) (Ok (parsed_of (walk_of true false empty s)))
    by_length true = refl
    by_length false = rw (← string_walk false empty s)
