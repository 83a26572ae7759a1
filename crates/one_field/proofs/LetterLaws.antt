-- A letter at a place: what is read if it stands there, and if it does not.
use Prim.Native.Nat.{ℕ, suc, ◌+◌, ◌<◌, ◌≤◌}
use mathlib.Core.Path.{◌≡◌, refl, sym, ◌∙◌}
use mathlib.Core.Bool.{Bool, true, false, cond, ◌&&◌}
use mathlib.Core.List.{List, [], ◌∷◌}
use native.Mathlib.Omega.{arith}
use native.Mathlib.Decide.{dec_le}
use lib.Dec.{eqb, ltb}
use native.Mathlib.Numerals.{add-one}
use lib.ListN.{length, drop, drop_of_length-le}
use lib.Seq.{drop-cons}
use borrow.Author.Tests.{ltb-true, eqb-true, lt-ltb, eq-eqb}
use Rattle.std.specs.Prelude.{Result, Ok, Err}
use Rattle.basis.specs.Bytes.{byte_at}
use Rattle.basis.proofs.Tests.{and_left, and_right}
use Rattle.grammar.specs.States.{Awaited, letters, after, is_nil, done}
use Rattle.grammar.specs.Table.{nothing}
use Rattle.signature_line.specs.declared.BadLine.{BadLine}
use Rattle.signature_line.specs.Answer.{bad_at}
use Rattle.numerals.specs.declared.Piece.{Piece}
use Rattle.numerals.specs.Pieces.{state_at}
use Rattle.one_field.specs.Places.{whole_piece, behind_at, word_at, either_at}
use Rattle.one_field.proofs.PlaceLaws.{ends, stays, narrow_here, goes_on, one_byte, whole_word}

none : (s : List ℕ) (at : ℕ) → state_at [] s at ≡ bad_at at
unfolding after done
none s at = by (dec_le (suc at) (length s))
  where
    by : Dec (suc at ≤ length s) → state_at [] s at ≡ bad_at at
    by (yes h) = stays s at [] h refl
    by (no h) = ends s at [] (omega arith)

-- Over what the call gave that asked for the letter.
module _ (s : List ℕ) (at a : ℕ) {k : Bool} (stands : k ≡ (ltb at (length s) && eqb (byte_at s at) a)) where
  pub within : k ≡ true → at < length s
  within t = ltb-true at (length s) (and_left (ltb at (length s)) (eqb (byte_at s at) a) (sym stands ∙ t))

  here : k ≡ true → byte_at s at ≡ a
  here t = eqb-true (byte_at s at) a (and_right (ltb at (length s)) (eqb (byte_at s at) a) (sym stands ∙ t))

  -- What a call gave for the bytes behind the letter is what is read here.
  pub letter_read
      : (states : List Awaited) {next : List Awaited} {r : Result Piece BadLine}
      → r ≡ state_at next s (at + 1)
      → k ≡ true
      → after a states ≡ next
      → is_nil next ≡ false → r ≡ state_at states s at
  letter_read states e t q n = goes_on s at states a e (within t) (here t) q n

  pub letter_last
      : (states : List Awaited) (form : ℕ) → k ≡ true → after a states ≡ letters [] form nothing ∷ []
      → Ok (whole_piece (at + 1) form) ≡ state_at states s at
  letter_last states form t q = one_byte s at states a form (within t) (here t) q

  -- Where the letter does not stand, rows that wait for it can be left out.
  pub letter_other
      : (states others : List Awaited) → k ≡ false → ((b : ℕ) → eqb b a ≡ false → after b others ≡ after b states)
      → done others ≡ done states → state_at others s at ≡ state_at states s at
  letter_other states others t same d = by (dec_le (suc at) (length s))
    where
      by : Dec (suc at ≤ length s) → state_at others s at ≡ state_at states s at
      by (yes h) =
          let f : eqb (byte_at s at) a ≡ false = rw (lt-ltb at (length s) h) at (sym stands ∙ t) in
          narrow_here s at others states h (same (byte_at s at) f) d
      by (no h) = ends s at others (omega arith) ∙ rw d (sym (ends s at states (omega arith)))

  pub letter_missing
      : (states : List Awaited) → k ≡ false → ((b : ℕ) → eqb b a ≡ false → [] ≡ after b states) → done [] ≡ done states
      → bad_at at ≡ state_at states s at
  unfolding after
  letter_missing states t same d = sym (none s at) ∙ letter_other states [] t same d

  -- One of two words, by the first letter of the one.
  module _ (one : List ℕ) (f b : ℕ) (other : List ℕ) (g : ℕ) {r : Result Piece BadLine} where
    pub either_one
        : eqb a b ≡ false → r ≡ word_at one f s (at + 1) → k ≡ true → r ≡ either_at (a ∷ one) f (b ∷ other) g s at
    unfolding after
    either_one n e t =
        letter_read (letters (a ∷ one) f nothing ∷ letters (b ∷ other) g nothing ∷ []) e t (rw (eq-eqb a a refl, n)) refl

    pub either_other : r ≡ word_at (b ∷ other) g s at → k ≡ false → r ≡ either_at (a ∷ one) f (b ∷ other) g s at
    unfolding after done
    either_other e t =
        e
        ∙ letter_other (letters (a ∷ one) f nothing ∷ letters (b ∷ other) g nothing ∷ []) (letters (b ∷ other) g nothing ∷ []) t
        (λ x q. rw q) refl

-- A word, by its first letter and what was read behind it.
module _ (s : List ℕ) (at a : ℕ) (word : List ℕ) (form : ℕ) where
  abbrev stands : Bool
  stands = ltb at (length s) && eqb (byte_at s at) a

  pub letter_on : (next : ℕ) → behind_at a s at ≡ Ok next → word_at word form s next ≡ word_at (a ∷ word) form s at
  unfolding behind_at after
  letter_on next e = by stands refl e
    where
      by : (k : Bool) → stands ≡ k → cond k (Ok (at + 1)) (bad_at at) ≡ Ok next → word_at word form s next ≡ word_at (a ∷ word) form s at
      by true t q =
          let n : next ≡ at + 1 = cc in
          rw n (letter_read s at a refl (letters (a ∷ word) form nothing ∷ []) refl t (rw (eq-eqb a a refl)) refl)
      by false t q = let z : ◌≡◌ {A = ℕ} 0 1 = cc in absurd (omega arith)

  pub letter_off : (bad : BadLine) → behind_at a s at ≡ Err bad → Err bad ≡ word_at (a ∷ word) form s at
  unfolding behind_at after done
  letter_off bad e = by stands refl e
    where
      by : (k : Bool) → stands ≡ k → cond k (Ok (at + 1)) (bad_at at) ≡ Err bad → Err bad ≡ word_at (a ∷ word) form s at
      by true t q = let z : ◌≡◌ {A = ℕ} 0 1 = cc in absurd (omega arith)
      by false t q =
          let there : bad ≡ record { offset = at } = cc in
          rw there (letter_missing s at a refl (letters (a ∷ word) form nothing ∷ []) t (λ b n. rw n) refl)

-- The letters of a word from an index on.
module _ (s : List ℕ) (at : ℕ) (word : List ℕ) (form i : ℕ) where
  module _ (h : i < length word) where
    pub word_on
        : (next : ℕ) → behind_at (byte_at word i) s at ≡ Ok next → word_at (drop (i + 1) word) form s next ≡ word_at (drop i word) form s at
    word_on next e = rw (drop-cons word i 0 h, add-one) (letter_on s at (byte_at word i) (drop (suc i) word) form next e)

    pub word_off : (bad : BadLine) → behind_at (byte_at word i) s at ≡ Err bad → Err bad ≡ word_at (drop i word) form s at
    word_off bad e = rw (drop-cons word i 0 h) (letter_off s at (byte_at word i) (drop (suc i) word) form bad e)

  pub word_end : length word ≤ i → Ok (whole_piece at form) ≡ word_at (drop i word) form s at
  word_end h = rw (drop_of_length-le word h) (sym (whole_word s at form))
