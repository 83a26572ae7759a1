-- The names of a set's quirks: one more in the row, and how long they are.
use mathlib.Core.Path.{◌≡◌, refl, ◌∙◌, ap}
use mathlib.Core.Bool.{Bool, true, false, cond}
use mathlib.Core.List.{List, [], ◌∷◌}
use Prim.Native.Nat.{ℕ, ◌+◌, ◌-◌, ◌<◌, ◌≤◌}
use native.Mathlib.Decide.{dec_le}
use native.Mathlib.Omega.{arith}
use lib.Dec.{eqb}
use lib.ListN.{length, take, drop, get_or, length-append, length-take}
use lib.Seq.{take-nil}
use Rattle.std.specs.List.{sum_by}
use Rattle.std.proofs.lemmas.List.Sums.{sum_by-cons}
use Rattle.std.proofs.lemmas.List.{drop_more, drop_all, take_all}
use borrow.Author.Tests.{eq-eqb, ne_eqb}
use Rattle.quirks.specs.declared.Quirk.{Quirk}
use Rattle.quirks.specs.declared.Quirk.TheVariants as quirk
use Rattle.quirks.specs.declared.QuirkSet.{QuirkSet}
use Rattle.quirks.specs.Quirks.{bit_of, place_of, contains}
use Rattle.quirks.specs.declared.TheConstants.Quirk.{DISPLAY_ORDER}
use Rattle.quirks.specs.Named.{display_order}
use Rattle.quirks.proofs.Named.{in_order}
use Rattle.grammar.specs.Spelling.{spelt, more_text}
use Rattle.grammar.specs.Table.{said}
use Rattle.signature_line.specs.Line.{colon, comma}
use Rattle.signature_line.specs.Words.{quirk_word}
use Rattle.text.specs.Written.{room, Put}
use Rattle.text.proofs.Writing.{both, any_text}
use Rattle.written_line.specs.Signature.{chosen}
use Rattle.line_writer.specs.Rows.{name_of, between_at, name_at, quirks_row}
use Rattle.line_writer.proofs.RowTexts.{row_text, whole_row}

pub name_short : (q : Quirk) → length (name_of q) ≤ 6
unfolding spelt quirk_word bit_of place_of
name_short quirk.Df = omega arith
name_short quirk.NonZeroID = omega arith
name_short quirk.ZeroID = omega arith
name_short quirk.Ecn = omega arith
name_short quirk.MustBeZero = omega arith
name_short quirk.FlowID = omega arith
name_short quirk.SeqNumZero = omega arith
name_short quirk.AckNumNonZero = omega arith
name_short quirk.AckNumZero = omega arith
name_short quirk.NonZeroURG = omega arith
name_short quirk.Urg = omega arith
name_short quirk.Push = omega arith
name_short quirk.OwnTimestampZero = omega arith
name_short quirk.PeerTimestampNonZero = omega arith
name_short quirk.TrailinigNonZero = omega arith
name_short quirk.ExcessiveWindowScaling = omega arith
name_short quirk.OptBad = omega arith

-- At the row's start stands the colon.
at_start : (start : ℕ) → between_at start start ≡ colon
unfolding between_at
at_start start = rw (eq-eqb start start refl)

module _ (s : QuirkSet) where
  -- What is left of the row, from a quirk on.
  abbrev pub names_from : ℕ → List Quirk → List ℕ
  names_from between qs = row_text (spelt quirk_word) between (chosen s qs)

  -- What was put of a name that is there leaves a comma for the next one, or found no room.
  comma_next
      : (start at at' : ℕ) (b b' text : List ℕ)
      → start ≤ at
      → at < length b
      → Put b at (between_at start at ∷ text) at' b'
      → between_at start at' ≡ comma
  unfolding between_at room
  comma_next start at at' b b' text h inside put =
      let more : at < at' = omega (arith, put.0, length-take (length b - at) (between_at start at ∷ text)) in
      rw (ne_eqb at' start (λ (e : at' ≡ start). omega arith))

  pub one_name
      : (q : Quirk) (qs : List Quirk) (start at at' n : ℕ) (b b' b'' : List ℕ)
      → start ≤ at
      → Put b at (name_at start at s q) at' b'
      → Put b' at' (names_from (between_at start at') qs) n b''
      → Put b at (names_from (between_at start at) (q ∷ qs)) n b''
  unfolding chosen name_at room
  one_name q qs start at at' n b b' b'' h here rest = by (contains s q) refl
    where
      by
          : (t : Bool) → contains s q ≡ t
          → Put b at (row_text (spelt quirk_word) (between_at start at) (cond t (said (bit_of q) 0 ∷ chosen s qs) (chosen s qs))) n b''
      by true e =
          let first : Put b at (between_at start at ∷ name_of q) at' b' = rw e at here in
          elim (dec_le (length b) at) [
            | yes full ↦ any_text b b' b'' _ _ _ at at' n full first rest
            | no inside ↦
                both b b' b'' (between_at start at ∷ name_of q) (names_from comma qs) at at' n first
                (rw (comma_next start at at' b b' (name_of q) h (omega (arith, inside)) first) at rest)
          ]
      by false e =
          let none : Put b at [] at' b' = rw e at here in
          let still : at' ≡ at = none.0 ∙ rw (take-nil {A = ℕ} (length b - at)) (omega arith) in
          let same : between_at start at' ≡ between_at start at = ap (between_at start) still in
          both b b' b'' [] (names_from (between_at start at) qs) at at' n none (rw same at rest)

  -- The quirk at an index of a row, and behind it those from the next index on.
  pub name_turn
      : (qs : List Quirk) (i start at at' n : ℕ) (b b' b'' : List ℕ)
      → i < length qs
      → start ≤ at
      → Put b at (name_at start at s (get_or qs i quirk.Df)) at' b'
      → Put b' at' (names_from (between_at start at') (drop (i + 1) qs)) n b''
      → Put b at (names_from (between_at start at) (drop i qs)) n b''
  name_turn qs i start at at' n b b' b'' h = rw (drop_more qs i quirk.Df h) (one_name _ _ start at at' n b b' b'')

  -- Behind the last one.
  pub no_name
      : (qs : List Quirk) (i between at n : ℕ) (b b' : List ℕ)
      → length qs ≤ i
      → Put b at (cond (eqb between colon) (colon ∷ []) []) n b'
      → Put b at (names_from between (drop i qs)) n b'
  unfolding chosen
  no_name qs i between at n b b' h end = rw (drop_all i qs h) end

  -- From the row's start on.
  pub whole_names
      : (start n : ℕ) (b b' : List ℕ)
      → Put b start (names_from (between_at start start) DISPLAY_ORDER) n b'
      → Put b start (quirks_row s) n b'
  whole_names start n b b' put = rw (at_start start, whole_row (spelt quirk_word) (chosen s DISPLAY_ORDER), in_order) at put

  -- ---- lengths

  abbrev pub name_size : Quirk → ℕ
  name_size q = cond (contains s q) (1 + length (name_of q)) 0

  abbrev pub names_size : List Quirk → ℕ
  names_size qs = sum_by name_size qs

  names_size_lem : (qs : List Quirk) → names_size qs ≡ length (more_text (spelt quirk_word) comma (chosen s qs))
  unfolding chosen
  names_size_lem [] = refl
  names_size_lem (q ∷ qs) = sum_by-cons name_size q qs ∙ by (contains s q) (names_size_lem qs)
    where
      by
          : (t : Bool) → names_size qs ≡ length (more_text (spelt quirk_word) comma (chosen s qs))
          → cond t (1 + length (name_of q)) 0 + names_size qs
          ≡ length (more_text (spelt quirk_word) comma (cond t (said (bit_of q) 0 ∷ chosen s qs) (chosen s qs)))
      by true rest = simp length-append (omega (arith, rest))
      by false rest = omega (arith, rest)

  -- The names of all quirks, in display order.
  pub all_names
      : (i size : ℕ)
      → length DISPLAY_ORDER ≤ i
      → size ≡ names_size (take i DISPLAY_ORDER)
      → size ≡ length (more_text (spelt quirk_word) comma (chosen s display_order))
  all_names i size h e = e ∙ ap names_size (take_all i DISPLAY_ORDER h) ∙ rw (← in_order) (names_size_lem DISPLAY_ORDER)
