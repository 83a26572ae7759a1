-- Alike option strings are walked alike, wherever the walk stops, and parsed alike.
use Rattle.std.specs.Prelude.{Option, Some, None}
use mathlib.Core.Path.{◌≡◌}
use mathlib.Core.Bool.{Bool, true, false}
use mathlib.Core.List.{List}
use Prim.Native.Nat.{ℕ}
use lib.ListN.{take}
use Rattle.quirks.specs.declared.QuirkSet.{QuirkSet}
use Rattle.quirks.specs.Named.{empty}
use Rattle.one_option.specs.Options.{options_of}
use Rattle.syn_options.specs.declared.StopBefore.{StopBefore}
use Rattle.syn_options.specs.Walk.{start_walk, walk_of, parse_options_raw}
use Rattle.syn_options.specs.Places.{first_of, places_of}
use Rattle.syn_options.specs.Stops.{stops_before, walk_up_to, walk_to, walk_options, read_options}
use Rattle.alike.specs.Options.{AlikeOptions}
use Rattle.alike.proofs.Options.{LikeRow, like_row, walk_like, past_place, short_place, stop_place}
use Rattle.alike.proofs.Cut.{first_like}
use Rattle.alike.proofs.OptionsDiffer.{options_length}

-- ---- what the walk looks at

module _ (s t : List ℕ) (r : LikeRow (options_of s) (options_of t)) (syn : Bool) (q : QuirkSet) where
  like_walked : (stop : Bool) → walk_of stop syn q s ≡ walk_of stop syn q t
  unfolding walk_of
  like_walked stop = walk_like stop syn (start_walk q) (first_like 40 s t r)

like_up_to
    : (s t : List ℕ)
    → LikeRow (options_of s) (options_of t)
    → (k : Option ℕ) (syn : Bool) (q : QuirkSet)
    → walk_up_to k syn q s ≡ walk_up_to k syn q t
unfolding walk_up_to
like_up_to s t r None syn q = like_walked s t r syn q false
like_up_to s t r (Some k) syn q = rw (like_walked (take k s) (take k t) (first_like k s t r) syn q false)

like_walk_to
    : (s t : List ℕ)
    → LikeRow (options_of s) (options_of t)
    → (stop : StopBefore) (syn : Bool) (q : QuirkSet)
    → walk_to stop syn q s ≡ walk_to stop syn q t
unfolding walk_to
like_walk_to s t r stop syn q =
    rw (past_place 0 r, short_place 0 r, stop_place 0 r stop, like_up_to s t r (first_of (stops_before stop) t) syn q)

-- ---- alike strings

module _ (s t : List ℕ) (a : AlikeOptions s t) where
  pub walk_alike : (stop syn : Bool) (q : QuirkSet) → walk_of stop syn q s ≡ walk_of stop syn q t
  walk_alike stop syn q = like_walked s t (like_row a) syn q stop

  pub places_alike : places_of s ≡ places_of t
  places_alike = rw (past_place 0 (like_row a), short_place 0 (like_row a))

  -- Places included.
  pub one_walk_alike : (stop : StopBefore) (syn : Bool) (q : QuirkSet) → walk_options stop syn q s ≡ walk_options stop syn q t
  unfolding walk_options
  one_walk_alike = like_walk_to (take 40 s) (take 40 t) (first_like 40 s t (like_row a))

  -- Refusal 8 included: alike option strings have one length.
  pub parse_alike : parse_options_raw s ≡ parse_options_raw t
  unfolding parse_options_raw
  parse_alike = rw (options_length s t a, walk_alike true false empty)

  pub read_options_alike : (stop : StopBefore) (syn : Bool) (q : QuirkSet) → read_options stop syn q s ≡ read_options stop syn q t
  unfolding read_options
  read_options_alike stop syn q = rw (options_length s t a, one_walk_alike stop syn q)
