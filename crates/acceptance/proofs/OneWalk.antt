-- One walk, with the places of damage.
use Rattle.std.specs.Prelude.{Option, Some, None, Ok}
use mathlib.Core.Path.{◌≡◌, refl, sym, ◌∙◌}
use mathlib.Core.Bool.{false, ◌||◌, true≢false}
use mathlib.Core.List.{List}
use Prim.Native.Nat.{ℕ, ◌≤◌}
use lib.ListN.{length, take}
use borrow.Author.Tests.{lt-ltb, le-ltb}
use Rattle.quirks.specs.declared.Quirk.TheVariants as quirk
use Rattle.quirks.specs.Quirks.{place_of, bit_of, holds, contains, with}
use Rattle.quirks.specs.Named.{empty, fuzzy_deletable, fuzzy_addable, mask_when_obs_v4, mask_when_obs_v6, from_quirks}
use Rattle.basis.specs.Digits.{digit}
use Rattle.basis.specs.Bytes.{be16}
use Rattle.one_option.specs.Options.{Opt, asked, runs_past, short_length, options_after}
use Rattle.one_option.specs.See.{later_mss, later_scale, trailing_nonzero, excessive_scaling, own_timestamp_zero, peer_timestamp_nonzero}
use Rattle.one_option.specs.See.{later_quirks, see_option}
use Rattle.one_option.proofs.Options.{never_both}
use Rattle.one_option.proofs.Begins.{past_is_last, end_is_last, last_runs_past, last_not_short}
use Rattle.quirks.specs.Quirks.{add_if}
use Rattle.syn_options.specs.Walk.{entry_byte, put_entry, walk_from, walk_of, parsed_of, parse_options_raw}
use Rattle.syn_options.specs.Places.{first_from, places_of, earlier, TheFirst}
use Rattle.syn_options.specs.Stops.{nothing, damage, stops_before, walk_up_to, came_to, walk_to, walk_options, read_options}
use Rattle.syn_options.proofs.First.{the_first}
use Rattle.syn_options.proofs.Readers.{whole_walk, parsed_of_walk, string_up_to}
use Rattle.syn_options.proofs.Strict.{stop_place}
use Rattle.syn_options.proofs.Entries.{walk_refused_over_forty}
use Rattle.flow.specs.Reading.{read_packet, observation_read}
use Rattle.flow.proofs.Observed.{sound}
use Rattle.matching.specs.declared.SignatureFit.{SignatureFit}
use Rattle.matching.specs.declared.SignatureFit.TheVariants as fit
use Rattle.matching.specs.Fit.{features_of}
use Rattle.matching.proofs.Rigid.{Rigid, fits_agree}
use Rattle.acceptance.specs.OneWalk.{an_ethernet_mss, the_most_mss, mss_told, ThePlaces, TheReaders, BadFits, OneWalk}
use Rattle.acceptance.proofs.Outcome.{exact_none, fuzzy_none}

the_places : ThePlaces
the_places =
    record {
      past = the_first runs_past;
      short = the_first short_length;
      never_both = never_both;
      past_is_last = λ s j k. past_is_last s;
      no_length_byte = λ s k ends sized. (last_runs_past s k ends sized, last_not_short s k ends sized);
      end_is_last = λ s j k. end_is_last s;
    }

-- ---- the readers

-- The values, computed.
record Values : Type 0 where
  same_walk : walk_options nothing false empty an_ethernet_mss ≡ walk_options nothing false empty the_most_mss
  ethernet : mss_told (parse_options_raw an_ethernet_mss) ≡ Some 1460
  most : mss_told (parse_options_raw the_most_mss) ≡ Some 65535

values : Values
unfolding walk_options walk_to walk_up_to walk_of walk_from put_entry entry_byte see_option later_mss later_scale later_quirks
    trailing_nonzero excessive_scaling own_timestamp_zero peer_timestamp_nonzero add_if options_after asked runs_past short_length
    stops_before first_from came_to parse_options_raw empty from_quirks be16
values = record { same_walk = refl; ethernet = refl; most = refl }

-- The option-string reader by the place of the first option past the end.
string_by
    : (s : List ℕ) (k : Option ℕ)
    → length s ≤ 40
    → (places_of s).past ≡ k
    → parse_options_raw s ≡ Ok (parsed_of (walk_up_to k false empty s))
unfolding parse_options_raw
string_by s k few e = rw (le-ltb 40 (length s) few, string_up_to s few, e)

-- The strict walk stops before the first damaged option.
strict_first
    : (s : List ℕ) → TheFirst (λ (o : Opt). runs_past o || short_length o) s (earlier (places_of s).past (places_of s).short)
unfolding stops_before
strict_first s = rw (← stop_place s) (the_first (stops_before damage) s)

the_readers : TheReaders
unfolding walk_options walk_to walk_up_to read_options
the_readers =
    record {
      packet = whole_walk;
      string = parsed_of_walk;
      string_whole = λ s few none. string_by s None few none;
      string_before = λ s k few at-k. string_by s (Some k) few at-k;
      same_walk = values.same_walk;
      ethernet = values.ethernet;
      most = values.most;
      strict = λ syn q s. rw (stop_place (take 40 s));
      strict_stops = strict_first;
      refused = walk_refused_over_forty;
      gives_nothing = λ stop syn q s over. rw (lt-ltb 40 (length s) over);
    }

-- ---- the fit

-- `bad` is in none of the named sets.
bad_rigid : Rigid quirk.OptBad
unfolding contains holds fuzzy_deletable fuzzy_addable mask_when_obs_v4 mask_when_obs_v6 from_quirks with bit_of place_of digit
bad_rigid = record { not_deletable = refl; not_addable = refl; not_masked4 = refl; not_masked6 = refl }

bad_fits : BadFits
unfolding features_of
bad_fits =
    record {
      both = fits_agree quirk.OptBad bad_rigid;
      never_plainly = λ p peer kinds bytes s count entries small has.
          let clean = (sound p peer).quirks in
          is_none _ (λ other.
          true≢false
          (sym has
          ∙ sym
          (fits_agree quirk.OptBad bad_rigid (features_of (observation_read (read_packet p peer))) kinds bytes s count entries
          clean.small small
          other)
          ∙ clean.not_bad));
    }
  where
    is_none : (x : SignatureFit) → ((x ≡ fit.None → ⊥) → ⊥) → x ≡ fit.None
    is_none fit.None h = refl
    is_none fit.Exact h = absurd (h (exact_none refl))
    is_none (fit.Fuzzy r) h = absurd (h (fuzzy_none refl))

pub one_walk_lem : OneWalk
one_walk_lem = record { places = the_places; readers = the_readers; bad = bad_fits }
