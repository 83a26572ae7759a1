-- A line of a file over what the calls gave; and a turn of a loop over the lines of a file.
use Prim.Native.Nat.{ℕ, ◌+◌, ◌<◌, ◌≤◌}
use mathlib.Core.Path.{◌≡◌, refl, sym, ◌∙◌, ap}
use mathlib.Core.Bool.{Bool, true, false}
use mathlib.Core.List.{List, [], ◌∷◌}
use Rattle.std.specs.Prelude.{Option, None, Some, Result}
use native.Mathlib.Omega.{arith}
use lib.ListN.{length, drop}
use borrow.Author.Tests.{lt-ltb, le-ltb}
use Rattle.basis.specs.Bytes.{part}
use Rattle.signature_line.specs.declared.SignatureRead.{SignatureRead}
use Rattle.signature_line.specs.declared.BadLine.{BadLine}
use Rattle.keeper_file.specs.KeptReader.{read_kept}
use Rattle.keeper_file.specs.Lines.{lines_of, passed_over, Numbered, numbered_from}
use Rattle.keeper_line.specs.declared.KeptAt.{KeptAt}
use Rattle.keeper_line.specs.Places.{feed_at, text_end, text_at, read_unless, kept_at}
use Rattle.keeper_line.proofs.LineEnds.{feed_within, end_before, end_behind}
use Rattle.keeper_line.proofs.Lines.{line_step, no_line}

abbrev line_of : ℕ → Option (Result SignatureRead BadLine) → KeptAt
line_of next read = record { next = next; read = read }

-- ---- what the calls gave

pub nothing_at : (s : List ℕ) (at : ℕ) → length s ≤ at → line_of at None ≡ kept_at s at
unfolding kept_at
nothing_at s at h = rw (le-ltb at (length s) h)

kept_there
    : (s : List ℕ) (at : ℕ) → at < length s
    → kept_at s at ≡ line_of (feed_at s at + 1) (read_unless (passed_over (text_at s at)) (text_at s at))
unfolding kept_at
kept_there s at h = rw (lt-ltb at (length s) h)

module _
    (s : List ℕ) (at : ℕ) (h : at < length s) (feed end : ℕ) (feed-is : feed ≡ feed_at s at) (end_is : end ≡ text_end s at feed)
  where
    pub feed_inside : feed ≤ length s
    feed_inside = omega (arith, feed-is, feed_within s at (omega arith))

    pub starts_before : at ≤ end
    starts_before = omega (arith, end_is, end_behind s at feed (omega (arith, feed-is)))

    pub ends_within : end ≤ length s
    ends_within = omega (arith, end_is, end_before s at feed, feed_inside)

    text_is : part at end s ≡ text_at s at
    text_is = ap (λ (k : ℕ). part at k s) (end_is ∙ ap (text_end s at) feed-is)

    pub reads
        : (read : Option (Result SignatureRead BadLine)) → read ≡ read_unless (passed_over (part at end s)) (part at end s)
        → line_of (feed + 1) read ≡ kept_at s at
    reads read e = rw (feed-is, e, text_is) (sym (kept_there s at h))

-- ---- a turn

-- The signature lines from a place on, where a line with this number starts.
abbrev pub lines_from : List ℕ → ℕ → ℕ → List Numbered
lines_from s k at = numbered_from k (lines_of (drop at s))

pub lines_end : (s : List ℕ) (k at : ℕ) → length s ≤ at → lines_from s k at ≡ []
unfolding numbered_from
lines_end s k at h = rw (no_line s at h)

module _ (s : List ℕ) (at : ℕ) (h : at < length s) (l : KeptAt) (l-is : l ≡ kept_at s at) where
  abbrev text : List ℕ
  text = text_at s at

  there : l ≡ line_of (feed_at s at + 1) (read_unless (passed_over text) text)
  there = l-is ∙ kept_there s at h

  next_is : l.next ≡ feed_at s at + 1
  next_is = ap (λ (x : KeptAt). x.next) there

  pub goes_further : at < l.next
  goes_further = omega (arith, next_is)

  pub stays_within : l.next ≤ length s + 1
  stays_within = omega (arith, next_is, feed_within s at (omega arith))

  read_is : l.read ≡ read_unless (passed_over text) text
  read_is = ap (λ (x : KeptAt). x.read) there

  -- The line is passed over, or is the next signature line.
  is_passed : l.read ≡ None → passed_over text ≡ true
  is_passed e = by (passed_over text) refl (sym read_is ∙ e)
    where
      by : (k : Bool) → passed_over text ≡ k → read_unless k text ≡ None → passed_over text ≡ true
      by true t q = t
      by false t q = let z : ◌≡◌ {A = ℕ} 0 1 = cc in absurd (omega arith)

  was_read : {r : Result SignatureRead BadLine} → l.read ≡ Some r → (passed_over text ≡ false) × (r ≡ read_kept text)
  was_read {r} e = by (passed_over text) refl (sym read_is ∙ e)
    where
      by : (k : Bool) → passed_over text ≡ k → read_unless k text ≡ Some r → (passed_over text ≡ false) × (r ≡ read_kept text)
      by true t q = let z : ◌≡◌ {A = ℕ} 0 1 = cc in absurd (omega arith)
      by false t q = (t, cc)

  pub line_read : {r : Result SignatureRead BadLine} → l.read ≡ Some r → r ≡ read_kept text
  line_read e = (was_read e).1

  pub turn_passed : (k : ℕ) → l.read ≡ None → lines_from s k at ≡ lines_from s (k + 1) l.next
  unfolding numbered_from
  turn_passed k e = rw (line_step s at h, is_passed e, next_is)

  pub turn_kept
      : (k : ℕ) {r : Result SignatureRead BadLine} → l.read ≡ Some r
      → lines_from s k at ≡ record { number = k; text = text } ∷ lines_from s (k + 1) l.next
  unfolding numbered_from
  turn_kept k e = rw (line_step s at h, (was_read e).0, next_is)
