-- Laws of a walk's layout: at most forty entries, and entries past the count are 0.
use Rattle.std.specs.Prelude.{Option, Some, None, Result, Ok, Err}
use mathlib.Core.Path.{◌≡◌, refl, ◌∙◌}
use mathlib.Core.Bool.{Bool, true, false, cond, ◌&&◌}
use mathlib.Core.List.{List, [], ◌∷◌}
use Prim.Native.Nat.{ℕ, zero, suc, ◌+◌, ◌≤◌}
use native.Mathlib.Omega.{arith}
use lib.Dec.{ltb}
use native.Mathlib.Decide.{dec_le}
use lib.ListN.{length, take, length-take, replicate, get_or-replicate, get_or-eq_default}
use lib.Seq.{get_or-set_other}
use Rattle.basis.specs.Bytes.{byte_at}
use Rattle.quirks.specs.declared.QuirkSet.{QuirkSet}
use Rattle.tcp.specs.declared.Layout.{Layout}
use Rattle.refusals.specs.declared.OptionsTooLong.{OptionsTooLong}
use Rattle.syn_options.specs.declared.StopBefore.{StopBefore}
use Rattle.syn_options.specs.Places.{first_of}
use Rattle.syn_options.specs.Stops.{stops_before, walk_up_to, walk_to, walk_options, read_options}
use Rattle.one_option.specs.Options.{Opt, asked, runs_past, options_after, options_of}
use Rattle.syn_options.specs.Walk.{Walked, put_entry, put_option, walk_from, start_walk, walk_of}
use Rattle.syn_options.specs.Walk.{parse_options_raw, too_long, options_refusal}

-- A string has no more options than bytes.
pub options_few : (skip : ℕ) (s : List ℕ) → length (options_after skip s) ≤ length s
unfolding options_after
options_few skip [] = omega arith
options_few (suc skip) (b ∷ rest) = let fewer = options_few skip rest in omega arith
options_few zero (b ∷ rest) = let fewer = options_few (asked b rest) rest in omega arith

-- Each option fills one entry.
pub walk_count
    : (stop syn : Bool) (w : Walked) (os : List Opt) → (walk_from stop syn w os).olayout.count ≤ w.olayout.count + length os
unfolding walk_from put_entry
walk_count stop syn w [] = omega arith
walk_count stop syn w (o ∷ os) = by_test (stop && runs_past o) (walk_count stop syn (put_option syn w o) os)
  where
    by_test
        : (t : Bool)
        → (walk_from stop syn (put_option syn w o) os).olayout.count ≤ w.olayout.count + 1 + length os
        → (cond {A = Walked} t (record { olayout = w.olayout; seen = w.seen; malformed = true })
        (walk_from stop syn (put_option syn w o) os)).olayout.count
        ≤ w.olayout.count + length (o ∷ os)
    by_test true h = omega arith
    by_test false h = omega arith

-- "A layout has at most 40 entries."
pub at_most_forty : (stop syn : Bool) (quirks : QuirkSet) (s : List ℕ) → (walk_of stop syn quirks s).olayout.count ≤ 40
unfolding walk_of
at_most_forty stop syn quirks s =
    let walked = walk_count stop syn (start_walk quirks) (options_of (take 40 s)) in
    let few = options_few 0 (take 40 s) in
    omega (arith, length-take 40 s)

-- ---- entries past the count

-- Every entry from the count on is 0.
pub record Tidy (l : Layout) : Type 0 where
  pub kinds : (i : ℕ) → l.count ≤ i → byte_at l.kinds i ≡ 0
  pub bytes : (i : ℕ) → l.count ≤ i → byte_at l.bytes i ≡ 0

put_tidy : (l : Layout) (o : Opt) → Tidy l → Tidy (put_entry l o)
unfolding put_entry
put_tidy l o tidy =
    record {
      kinds = λ i h. get_or-set_other l.kinds l.count i _ 0 (omega arith) ∙ tidy.kinds i (omega arith);
      bytes = λ i h. get_or-set_other l.bytes l.count i _ 0 (omega arith) ∙ tidy.bytes i (omega arith);
    }

walk_tidy : (stop syn : Bool) (w : Walked) (os : List Opt) → Tidy w.olayout → Tidy (walk_from stop syn w os).olayout
unfolding walk_from
walk_tidy stop syn w [] tidy = tidy
walk_tidy stop syn w (o ∷ os) tidy =
    by_test (stop && runs_past o) (walk_tidy stop syn (put_option syn w o) os (put_tidy w.olayout o tidy))
  where
    by_test
        : (t : Bool)
        → Tidy (walk_from stop syn (put_option syn w o) os).olayout
        → Tidy (cond {A = Walked} t (record { olayout = w.olayout; seen = w.seen; malformed = true })
        (walk_from stop syn (put_option syn w o) os)).olayout
    by_test true rest = tidy
    by_test false rest = rest

pub zero_row : (i : ℕ) → byte_at (replicate 40 0) i ≡ 0
zero_row i = elim (dec_le 40 i) [ yes h ↦ get_or-eq_default (replicate 40 0) 0 h | no h ↦ get_or-replicate 40 i 0 0 (omega arith) ]

-- "entries past it 0"
pub past_count : (stop syn : Bool) (quirks : QuirkSet) (s : List ℕ) → Tidy (walk_of stop syn quirks s).olayout
unfolding walk_of
past_count stop syn quirks s =
    walk_tidy stop syn (start_walk quirks) (options_of (take 40 s))
    (record { kinds = λ i h. zero_row i; bytes = λ i h. zero_row i })

-- The same of the walk, wherever it stops.
up_to_forty : (k : Option ℕ) (syn : Bool) (quirks : QuirkSet) (s : List ℕ) → (walk_up_to k syn quirks s).olayout.count ≤ 40
unfolding walk_up_to
up_to_forty None syn quirks s = at_most_forty false syn quirks s
up_to_forty (Some k) syn quirks s = at_most_forty false syn quirks _

up_to_tidy : (k : Option ℕ) (syn : Bool) (quirks : QuirkSet) (s : List ℕ) → Tidy (walk_up_to k syn quirks s).olayout
unfolding walk_up_to
up_to_tidy None syn quirks s = past_count false syn quirks s
up_to_tidy (Some k) syn quirks s = past_count false syn quirks _

module _ (stop : StopBefore) (syn : Bool) (quirks : QuirkSet) (s : List ℕ) where
  pub walk_at_most_forty : (walk_options stop syn quirks s).olayout.count ≤ 40
  unfolding walk_options walk_to
  walk_at_most_forty = up_to_forty (first_of (stops_before stop) (take 40 s)) syn quirks (take 40 s)

  pub walk_past_count : Tidy (walk_options stop syn quirks s).olayout
  unfolding walk_options walk_to
  walk_past_count = up_to_tidy (first_of (stops_before stop) (take 40 s)) syn quirks (take 40 s)

-- Refusal 8 is given exactly when the option string is over 40 bytes.
eight_or_none
    : {A : Type 0} (t : Bool) (a : A) → options_refusal (cond {A = Result A OptionsTooLong} t (Err too_long) (Ok a)) ≡ cond t 8 0
unfolding options_refusal
eight_or_none true a = refl
eight_or_none false a = refl

pub refused_over_forty : (s : List ℕ) → options_refusal (parse_options_raw s) ≡ cond (ltb 40 (length s)) 8 0
unfolding parse_options_raw
refused_over_forty s = eight_or_none (ltb 40 (length s)) _

-- So it is for the walk of a string.
pub walk_refused_over_forty
    : (stop : StopBefore) (syn : Bool) (quirks : QuirkSet) (s : List ℕ)
    → options_refusal (read_options stop syn quirks s) ≡ cond (ltb 40 (length s)) 8 0
unfolding read_options
walk_refused_over_forty stop syn quirks s = eight_or_none (ltb 40 (length s)) _
