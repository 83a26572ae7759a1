-- A word, then what may stand behind it.
use Prim.Native.Nat.{ℕ, suc, ◌+◌}
use mathlib.Core.Path.{◌≡◌, refl, sym, ◌∙◌, ap}
use mathlib.Core.Bool.{Bool, true, false, cond, false≢true}
use mathlib.Core.List.{List, [], ◌∷◌}
use native.Mathlib.Omega.{arith}
use lib.Dec.{eqb}
use lib.ListN.{drop}
use lib.Seq.{drop-drop}
use Rattle.std.specs.Prelude.{Ok, Err}
use Rattle.signature_line.specs.declared.BadLine.{BadLine}
use Rattle.signature_line.specs.Answer.{bad_at}
use Rattle.grammar.specs.Reading.{Read, later}
use Rattle.grammar.specs.States.{Awaited, letters, after, run, left, done, states_read}
use Rattle.grammar.specs.Table.{Tail, nothing, Row, row, Said, said}
use Rattle.numerals.specs.declared.Piece.{Piece}
use Rattle.numerals.specs.Pieces.{piece_said, made, state_at}
use Rattle.numerals.proofs.Made.{made_Ok, made_Err}
use Rattle.one_field.specs.Places.{word_at, prefixed}

abbrev shift : ℕ → Read Said → Read Said
shift k x = record { count = k + x.count; good = x.good; value = x.value }

abbrev unread : Read Said
unread = record { count = 0; good = false; value = said 0 0 }

word_read : List ℕ → List ℕ → Read Said
word_read cs s = states_read (letters cs 0 nothing ∷ []) s

prefix_after : (c : ℕ) (cs : List ℕ) (rows : List Row) (b : ℕ) → eqb b c ≡ true → after b (prefixed (c ∷ cs) rows) ≡ prefixed cs rows
unfolding after
prefix_after c cs [] b e = refl
prefix_after c cs (row w f t ∷ rows) b e = rw (e, prefix_after c cs rows b e)

prefix_other : (c : ℕ) (cs : List ℕ) (rows : List Row) (b : ℕ) → eqb b c ≡ false → after b (prefixed (c ∷ cs) rows) ≡ []
unfolding after
prefix_other c cs [] b e = refl
prefix_other c cs (row w f t ∷ rows) b e = rw (e, prefix_other c cs rows b e)

prefix_done : (c : ℕ) (cs : List ℕ) (rows : List Row) → done (prefixed (c ∷ cs) rows) ≡ record { good = false; value = said 0 0 }
unfolding done
prefix_done c cs [] = refl
prefix_done c cs (row w f t ∷ rows) = prefix_done c cs rows

-- The same of the rows' readings; rows are at least one.
module _ (c : ℕ) (cs w : List ℕ) (f : ℕ) (t : Tail) (rows : List Row) where
  read_step
      : (b : ℕ) (s : List ℕ) → eqb b c ≡ true
      → states_read (prefixed (c ∷ cs) (row w f t ∷ rows)) (b ∷ s) ≡ later (states_read (prefixed cs (row w f t ∷ rows)) s)
  unfolding states_read run left
  read_step b s e = rw (prefix_after c cs (row w f t ∷ rows) b e)

  read_none : (b : ℕ) (s : List ℕ) → eqb b c ≡ false → states_read (prefixed (c ∷ cs) (row w f t ∷ rows)) (b ∷ s) ≡ unread
  unfolding states_read run left
  read_none b s e = rw (prefix_other c cs (row w f t ∷ rows) b e, prefix_done c cs (row w f t ∷ rows))

  read_past : states_read (prefixed (c ∷ cs) (row w f t ∷ rows)) [] ≡ unread
  unfolding states_read run left
  read_past = rw (prefix_done c cs (row w f t ∷ rows))

shift_none : (x : Read Said) → x ≡ shift 0 x
shift_none x = ap (λ (k : ℕ). record { count = k; good = x.good; value = x.value }) (omega arith)

shift_later : (k : ℕ) (x : Read Said) → later (shift k x) ≡ shift (suc k) x
shift_later k x = ap (λ (n : ℕ). record { count = n; good = x.good; value = x.value }) (omega arith)

word_nil : (s : List ℕ) → word_read [] s ≡ record { count = 0; good = true; value = said 0 0 }
unfolding word_read states_read run left after done
word_nil [] = refl
word_nil (b ∷ s) = refl

-- A word alone is one row.
word_step : (c : ℕ) (cs : List ℕ) (b : ℕ) (s : List ℕ) → eqb b c ≡ true → word_read (c ∷ cs) (b ∷ s) ≡ later (word_read cs s)
unfolding word_read states_read run left after
word_step c cs b s e = rw e

word_none : (c : ℕ) (cs : List ℕ) (b : ℕ) (s : List ℕ) → eqb b c ≡ false → word_read (c ∷ cs) (b ∷ s) ≡ unread
unfolding word_read states_read run left after done
word_none c cs b s e = rw e

word_past : (c : ℕ) (cs : List ℕ) → word_read (c ∷ cs) [] ≡ unread
unfolding word_read states_read run left done
word_past c cs = refl

module _ (w : List ℕ) (f : ℕ) (t : Tail) (rows : List Row) where
  abbrev behind : List ℕ → List Awaited
  behind cs = prefixed cs (row w f t ∷ rows)

  read_word
      : (cs s : List ℕ) → (word_read cs s).good ≡ true
      → states_read (behind cs) s ≡ shift (word_read cs s).count (states_read (behind []) (drop (word_read cs s).count s))
  read_word [] s g = rw (word_nil s) (shift_none (states_read (behind []) s))
  read_word (c ∷ cs) [] g = absurd (false≢true (sym (ap (λ (x : Read Said). x.good) (word_past c cs)) ∙ g))
  read_word (c ∷ cs) (b ∷ s) g = by (eqb b c) refl (read_word cs s)
    where
      by : (k : Bool) → eqb b c ≡ k
          → ((word_read cs s).good ≡ true
          → states_read (behind cs) s ≡ shift (word_read cs s).count (states_read (behind []) (drop (word_read cs s).count s)))
          → states_read (behind (c ∷ cs)) (b ∷ s)
          ≡ shift (word_read (c ∷ cs) (b ∷ s)).count (states_read (behind []) (drop (word_read (c ∷ cs) (b ∷ s)).count (b ∷ s)))
      by true e ih =
          let q = word_step c cs b s e in
          let i = ih (rw q at g) in
          rw (q, read_step c cs w f t rows b s e, i)
          (shift_later (word_read cs s).count (states_read (behind []) (drop (word_read cs s).count s)))
      by false e ih = absurd (false≢true (sym (ap (λ (x : Read Said). x.good) (word_none c cs b s e)) ∙ g))

  read_no_word
      : (cs s : List ℕ) → (word_read cs s).good ≡ false
      → states_read (behind cs) s ≡ record { count = (word_read cs s).count; good = false; value = said 0 0 }
  read_no_word [] s g = absurd (false≢true (sym g ∙ ap (λ (x : Read Said). x.good) (word_nil s)))
  read_no_word (c ∷ cs) [] g = rw (word_past c cs, read_past c cs w f t rows)
  read_no_word (c ∷ cs) (b ∷ s) g = by (eqb b c) refl (read_no_word cs s)
    where
      by : (k : Bool) → eqb b c ≡ k
          → ((word_read cs s).good ≡ false
          → states_read (behind cs) s ≡ record { count = (word_read cs s).count; good = false; value = said 0 0 })
          → states_read (behind (c ∷ cs)) (b ∷ s) ≡ record { count = (word_read (c ∷ cs) (b ∷ s)).count; good = false; value = said 0 0 }
      by true e ih =
          let q = word_step c cs b s e in
          rw (q, read_step c cs w f t rows b s e, ih (rw q at g))
      by false e ih = rw (word_none c cs b s e, read_none c cs w f t rows b s e)

shift_piece : (at k : ℕ) (x : Read Said) → made piece_said at (shift k x) ≡ made piece_said (at + k) x
unfolding made
shift_piece at k x = ap (λ (n : ℕ). cond x.good (Ok (piece_said n x.value)) (bad_at n)) (omega arith)

-- Over what the call gave that read the word.
module _ (s : List ℕ) (at : ℕ) (cs w : List ℕ) (f : ℕ) (t : Tail) (rows : List Row) where
  pub behind_word
      : (p : Piece) → word_at cs 0 s at ≡ Ok p
      → state_at (prefixed [] (row w f t ∷ rows)) s p.at ≡ state_at (prefixed cs (row w f t ∷ rows)) s at
  unfolding state_at word_read
  behind_word p e =
      let r = word_read cs (drop at s) in
      let g = made_Ok piece_said at r p e in
      rw (g.1, read_word w f t rows cs (drop at s) g.0, drop-drop r.count at s)
      (sym (shift_piece at r.count (states_read (prefixed [] (row w f t ∷ rows)) (drop (at + r.count) s))))

  pub no_word : (bad : BadLine) → word_at cs 0 s at ≡ Err bad → Err bad ≡ state_at (prefixed cs (row w f t ∷ rows)) s at
  unfolding state_at word_read made
  no_word bad e =
      let g = made_Err piece_said at (word_read cs (drop at s)) bad e in
      rw (read_no_word w f t rows cs (drop at s) g.0, g.1)
