-- Laws of a field's reading at a place, in the expressions that the code makes.
use Prim.Native.Nat.{ℕ, suc, ◌+◌, ◌<◌, ◌≤◌}
use mathlib.Core.Path.{◌≡◌, refl, sym, ◌∙◌, ap}
use mathlib.Core.Bool.{Bool, true, false, cond}
use mathlib.Core.List.{List, [], ◌∷◌}
use native.Mathlib.Omega.{arith}
use native.Mathlib.Decide.{dec_le}
use native.Mathlib.Numerals.{add-one}
use lib.ListN.{length, drop, drop_of_length-le}
use lib.Seq.{drop-cons}
use Rattle.std.specs.Prelude.{Result, Ok}
use Rattle.basis.specs.Bytes.{byte_at}
use Rattle.grammar.specs.Reading.{Read, later}
use Rattle.grammar.specs.States.{Awaited, letters, after, is_nil, run, left, Done, done, states_read}
use Rattle.grammar.specs.Table.{nothing, Said}
use Rattle.signature_line.specs.declared.BadLine.{BadLine}
use Rattle.signature_line.specs.Answer.{bad_at}
use Rattle.numerals.specs.declared.Piece.{Piece}
use Rattle.numerals.specs.Pieces.{piece, piece_said, made, state_at}
use Rattle.one_field.specs.Places.{word_at}

-- ---- a reading, one byte at a time

read_takes
    : (states next : List Awaited) (b : ℕ) (s : List ℕ) → after b states ≡ next → is_nil next ≡ false
    → states_read states (b ∷ s) ≡ later (states_read next s)
unfolding states_read run left
read_takes states next b s a n = rw (a, n)

read_stays
    : (states : List Awaited) (b : ℕ) (s : List ℕ) → is_nil (after b states) ≡ true
    → states_read states (b ∷ s) ≡ record { count = 0; good = (done states).good; value = (done states).value }
unfolding states_read run left
read_stays states b s n = rw n

read_ends : (states : List Awaited) → states_read states [] ≡ record { count = 0; good = (done states).good; value = (done states).value }
unfolding states_read run left
read_ends states = refl

abbrev chosen : Bool → ℕ → List Awaited → List Awaited → Read Said
chosen k n states x = record { count = cond k 0 n; good = (done (cond k states x)).good; value = (done (cond k states x)).value }

chosen_same : (k : Bool) (n : ℕ) (states others x : List Awaited) → done states ≡ done others → chosen k n states x ≡ chosen k n others x
chosen_same true n states others x d = rw d
chosen_same false n states others x d = refl

read_narrow
    : (states others : List Awaited) (b : ℕ) (s : List ℕ) → after b states ≡ after b others → done states ≡ done others
    → states_read states (b ∷ s) ≡ states_read others (b ∷ s)
unfolding states_read run left
read_narrow states others b s a d =
    rw a (chosen_same (is_nil (after b others)) (suc (run (after b others) s)) states others (left (after b others) s) d)

-- ---- the same, at a place

-- What is done without a byte more.
abbrev pub done_piece : ℕ → Done → Result Piece BadLine
done_piece at d = cond d.good (Ok (piece_said at d.value)) (bad_at at)

later_piece : (at : ℕ) (x : Read Said) → made piece_said at (later x) ≡ made piece_said (at + 1) x
unfolding made
later_piece at x = ap (λ (k : ℕ). done_piece k (record { good = x.good; value = x.value })) (omega arith)

stopped : (at : ℕ) (d : Done) → made piece_said at (record { count = 0; good = d.good; value = d.value }) ≡ done_piece at d
unfolding made
stopped at d = ap (λ (k : ℕ). done_piece k d) (omega arith)

module _ (s : List ℕ) (at : ℕ) where
  -- A byte that rows go on with.
  pub takes
      : (states next : List Awaited) (b : ℕ) → at < length s → byte_at s at ≡ b → after b states ≡ next → is_nil next ≡ false
      → state_at states s at ≡ state_at next s (at + 1)
  unfolding state_at
  takes states next b h e a n =
      let q : after (byte_at s at) states ≡ next = rw e a in
      rw (drop-cons s at 0 h, read_takes states next (byte_at s at) (drop (suc at) s) q n, add-one)
      (later_piece at (states_read next (drop (suc at) s))
      ∙ ap (λ (k : ℕ). made piece_said k (states_read next (drop (suc at) s))) (add-one at))

  -- A byte that none goes on with, and the end.
  pub stays
      : (states : List Awaited) → at < length s → is_nil (after (byte_at s at) states) ≡ true
      → state_at states s at ≡ done_piece at (done states)
  unfolding state_at
  stays states h n = rw (drop-cons s at 0 h, read_stays states (byte_at s at) (drop (suc at) s) n) (stopped at (done states))

  pub ends : (states : List Awaited) → length s ≤ at → state_at states s at ≡ done_piece at (done states)
  unfolding state_at
  ends states h = rw (drop_of_length-le s h, read_ends states) (stopped at (done states))

  -- Others that go on with this byte in the same way.
  pub narrow_here
      : (states others : List Awaited) → at < length s → after (byte_at s at) states ≡ after (byte_at s at) others
      → done states ≡ done others
      → state_at states s at ≡ state_at others s at
  unfolding state_at
  narrow_here states others h a d =
      rw (drop-cons s at 0 h) (ap (made piece_said at) (read_narrow states others (byte_at s at) (drop (suc at) s) a d))

  -- What a call gave for the bytes behind this one is what is read here.
  pub goes_on
      : (states : List Awaited) {next : List Awaited} (b : ℕ) {r : Result Piece BadLine}
      → r ≡ state_at next s (at + 1)
      → at < length s
      → byte_at s at ≡ b
      → after b states ≡ next → is_nil next ≡ false → r ≡ state_at states s at
  goes_on states {next} b e h q a n = e ∙ sym (takes states next b h q a n)

  -- A word that is whole.
  pub whole_word : (form : ℕ) → word_at [] form s at ≡ Ok (piece at form 0)
  unfolding after done
  whole_word form = by (dec_le (suc at) (length s))
    where
      by : Dec (suc at ≤ length s) → word_at [] form s at ≡ Ok (piece at form 0)
      by (yes h) = stays (letters [] form nothing ∷ []) h refl
      by (no h) = ends (letters [] form nothing ∷ []) (omega arith)

-- A word of one byte.
pub one_byte
    : (s : List ℕ) (at : ℕ) (states : List Awaited) (b form : ℕ) → at < length s → byte_at s at ≡ b
    → after b states ≡ letters [] form nothing ∷ [] → Ok (piece (at + 1) form 0) ≡ state_at states s at
one_byte s at states b form h q a =
    sym (takes s at states (letters [] form nothing ∷ []) b h q a refl ∙ whole_word s (at + 1) form)
