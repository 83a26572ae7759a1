-- The walk that may stop (document 02, Wish 5): one walk, of which the packet reader, the option-string reader and the strict entry draw
-- their answers.
use Rattle.std.specs.Prelude.{ℕ, Bool, true, false, cond, ◌&&◌, ◌||◌, List, ltb, length, take, Option, Some, None, Result, Ok, Err}
use Rattle.quirks.specs.declared.Quirk.TheVariants as quirk
use Rattle.quirks.specs.declared.QuirkSet.{QuirkSet}
use Rattle.quirks.specs.Quirks.{with}
use Rattle.refusals.specs.declared.OptionsTooLong.{OptionsTooLong}
use Rattle.syn_options.specs.declared.StopBefore.{StopBefore}
use Rattle.syn_options.specs.declared.Places.{Places}
use Rattle.syn_options.specs.declared.OptionWalk.{OptionWalk}
use Rattle.one_option.specs.declared.OptionStep.{OptionStep}
use Rattle.one_option.specs.Options.{Opt, runs_past, short_length}
use Rattle.syn_options.specs.Walk.{Walked, walk_of, too_long}
use Rattle.syn_options.specs.Places.{first_of, places_of}

-- ---- which options a walk stops before

-- The packet reader's, the option-string reader's and the strict entry's.
abbrev pub nothing : StopBefore
nothing = record { past = false; short = false }

abbrev pub past_the_end : StopBefore
past_the_end = record { past = true; short = false }

abbrev pub damage : StopBefore
damage = record { past = true; short = true }

unfoldable pub stops_before : StopBefore → Opt → Bool
stops_before stop o = stop.past && runs_past o || stop.short && short_length o

-- ---- the walk

-- What a walk has when it stops: it "shows `OptBad` and goes on with what it has".
abbrev pub stopped : Walked → Walked
stopped w =
    record {
      olayout = w.olayout;
      seen = record { mss = w.seen.mss; wscale = w.seen.wscale; quirks = with w.seen.quirks quirk.OptBad };
      malformed = true;
    }

-- The walk that stops at a place is that of the bytes before it: no entry, no end-of-options, no quirk from there on.
unfoldable pub walk_up_to : Option ℕ → Bool → QuirkSet → List ℕ → Walked
walk_up_to None syn quirks s = walk_of false syn quirks s
walk_up_to (Some k) syn quirks s = stopped (walk_of false syn quirks (take k s))

-- What the walk says, and the places with it.
abbrev pub walk_with : Walked → Places → OptionWalk
walk_with w places = record { olayout = w.olayout; seen = w.seen; malformed = w.malformed; places = places }

abbrev pub walked_of : OptionWalk → Walked
walked_of walk = record { olayout = walk.olayout; seen = walk.seen; malformed = walk.malformed }

-- A place that the walk comes to: not behind the one where it stops.
unfoldable pub came_to : Option ℕ → Option ℕ → Option ℕ
came_to None found = found
came_to (Some k) None = None
came_to (Some k) (Some n) = cond (ltb k n) None (Some n)

-- The walk of a string, stopping at a place.
abbrev pub walk_stopping : Option ℕ → Bool → QuirkSet → List ℕ → OptionWalk
walk_stopping stop syn quirks s =
    walk_with (walk_up_to stop syn quirks s)
    (record { past = came_to stop (places_of s).past; short = came_to stop (places_of s).short })

-- The walk that stops before the first of these options.
unfoldable pub walk_to : StopBefore → Bool → QuirkSet → List ℕ → OptionWalk
walk_to stop syn quirks s = walk_stopping (first_of (stops_before stop) s) syn quirks s

-- The walk of a string, of which at most forty bytes are options: a data offset gives no more.
unfoldable pub walk_options : StopBefore → Bool → QuirkSet → List ℕ → OptionWalk
walk_options stop syn quirks s = walk_to stop syn quirks (take 40 s)

-- A string by itself. Over forty bytes it is refused by 8, as the option-string reader refuses it ("option string over 40 bytes", document
-- 01).
unfoldable pub read_options : StopBefore → Bool → QuirkSet → List ℕ → Result OptionWalk OptionsTooLong
read_options stop syn quirks s = cond (ltb 40 (length s)) (Err too_long) (Ok (walk_options stop syn quirks s))

-- ---- one option while the walk goes on

-- Whether it stops before the option.
abbrev pub stops_at : StopBefore → OptionStep → Bool
stops_at stop step = stop.past && step.past || stop.short && step.short

-- A place that is known stays.
unfoldable pub first_known : Option ℕ → ℕ → Option ℕ
first_known None at = Some at
first_known (Some n) at = Some n
