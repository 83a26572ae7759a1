-- The loop over the names of quirks: its turn, its ends; and quirks from their first name on.
use Prim.Native.Nat.{ℕ, zero, suc, ◌+◌, ◌-◌, ◌<◌, ◌≤◌}
use mathlib.Core.Path.{◌≡◌, refl, sym, ◌∙◌, ap}
use mathlib.Core.Bool.{Bool, true, false}
use mathlib.Core.List.{List, ◌∷◌}
use native.Mathlib.Omega.{arith}
use lib.Bits.{bit_or, or_zero_l}
use lib.Dec.{eqb}
use lib.ListN.{length, drop, length-drop}
use lib.Seq.{drop-drop}
use borrow.Author.Tests.{eq-eqb, ne_eqb}
use Rattle.std.specs.Prelude.{Result, Ok, Err}
use Rattle.grammar.specs.Reading.{Read, more_read}
use Rattle.grammar.specs.States.{table_read}
use Rattle.grammar.specs.Table.{Said}
use Rattle.signature_line.specs.declared.BadLine.{BadLine}
use Rattle.signature_line.specs.Answer.{bad_at}
use Rattle.signature_line.specs.Line.{comma}
use Rattle.signature_line.specs.LineReader.{quirks_read}
use Rattle.signature_line.specs.Meaning.{union_from}
use Rattle.signature_line.specs.Words.{quirk_word}
use Rattle.signature_line.proofs.Line.{quirk_field, quirk_empty}
use Rattle.numerals.specs.declared.Piece.{Piece}
use Rattle.numerals.specs.Pieces.{piece_said, made, state_at}
use Rattle.numerals.proofs.Made.{made_Ok, made_Err}
use Rattle.one_field.specs.Places.{behind_at, piece_at}
use Rattle.parse_tcp.specs.declared.quirk_set.QuirksPiece.{QuirksPiece}
use Rattle.parse_tcp.specs.RowPieces.{quirks_said, quirks_at, names_at, names_from}
use Rattle.parse_tcp.proofs.MoreLaws.{inside, one_on, more_ends, more_goes_on, more_bad}

abbrev read : List ℕ → ℕ → Read Said
read s at = table_read quirk_word (drop at s)

-- What was read at a place, of a name that was, and of one that was not.
read_Ok : (s : List ℕ) (at : ℕ) (e : Piece) → piece_at quirk_word s at ≡ Ok e
    → ((read s at).good ≡ true) × (e ≡ piece_said (at + (read s at).count) (read s at).value)
unfolding state_at
read_Ok s at e q = made_Ok piece_said at (read s at) e q

read_Err : (s : List ℕ) (at : ℕ) (bad : BadLine) → piece_at quirk_word s at ≡ Err bad
    → ((read s at).good ≡ false) × (bad ≡ record { offset = at + (read s at).count })
unfolding state_at
read_Err s at bad q = made_Err piece_said at (read s at) bad q

abbrev names : ℕ → List ℕ → ℕ → Read (List Said)
names fuel s at = more_read (table_read quirk_word) comma fuel (drop at s)

-- What is left to be read gives the whole, with turns enough for its bytes.
pub record NamesLeft (bits : ℕ) (s : List ℕ) (at : ℕ) (whole : Result QuirksPiece BadLine) : Type 0 where
  pub turns : ℕ
  pub enough : length s - at ≤ turns
  pub same : made (quirks_said bits) at (names turns s at) ≡ whole

pub names_begin : (bits : ℕ) (s : List ℕ) (at : ℕ) → NamesLeft bits s at (names_at bits s at)
unfolding names_at
names_begin bits s at = record { turns = length (drop at s); enough = omega (arith, length-drop at s); same = refl }

-- ---- one turn, and the ends

abbrev ended : ℕ → ℕ → Result QuirksPiece BadLine
ended bits at = Ok (record { at = at; bits = bits })

one_name
    : (bits at k c : ℕ) (v : Said) (g : Bool) (vs : List Said)
    → made (quirks_said bits) at (record { count = suc (k + c); good = g; value = v ∷ vs })
    ≡ made (quirks_said (bit_or bits v.form)) (at + 1 + k) (record { count = c; good = g; value = vs })
unfolding made union_from
one_name bits at k c v true vs = ap (ended (union_from (bit_or bits v.form) vs)) (omega arith)
one_name bits at k c v false vs = ap bad_at (omega arith)

module _ (bits : ℕ) (s : List ℕ) (at : ℕ) where
  ends : (turns : ℕ) {bad : BadLine} → behind_at comma s at ≡ Err bad → ended bits at ≡ made (quirks_said bits) at (names turns s at)
  unfolding made union_from
  ends zero q = ap (ended bits) (omega arith)
  ends (suc m) q = rw (more_ends (table_read quirk_word) comma s at m q) (ap (ended bits) (omega arith))

  module _ {p : ℕ} (q : behind_at comma s at ≡ Ok p) where
    stops
        : (turns : ℕ) → length s - at ≤ turns → (read s p).good ≡ false
        → bad_at (p + (read s p).count) ≡ made (quirks_said bits) at (names turns s at)
    unfolding made
    stops zero h g = absurd (omega (arith, inside comma s at q))
    stops (suc m) h g = rw (more_bad (table_read quirk_word) comma s at m q g, one_on comma s at q) (ap bad_at (omega arith))

    turns_on
        : (turns : ℕ) (whole : Result QuirksPiece BadLine) → length s - at ≤ turns → (read s p).good ≡ true
        → made (quirks_said bits) at (names turns s at) ≡ whole
        → NamesLeft (bit_or bits (read s p).value.form) s (p + (read s p).count) whole
    turns_on zero whole h g e = absurd (omega (arith, inside comma s at q))
    turns_on (suc m) whole h g e =
        let x = read s p in
        let y = names m s (p + x.count) in
        record {
          turns = m;
          enough = omega (arith, one_on comma s at q);
          same =
              sym
              (rw (more_goes_on (table_read quirk_word) comma s at m q g, drop-drop x.count p s)
              (one_name bits at x.count y.count x.value y.good y.value
              ∙ ap (λ (i : ℕ). made (quirks_said (bit_or bits x.value.form)) (i + x.count) y) (sym (one_on comma s at q))))
              ∙ e;
        }

  module _ (whole : Result QuirksPiece BadLine) (left : NamesLeft bits s at whole) where
    pub names_end : {bad : BadLine} → behind_at comma s at ≡ Err bad → ended bits at ≡ whole
    names_end q = ends left.turns q ∙ left.same

    module _ {p : ℕ} (q : behind_at comma s at ≡ Ok p) where
      pub names_bad : {bad : BadLine} → piece_at quirk_word s p ≡ Err bad → Err bad ≡ whole
      names_bad {bad} w =
          let r = read_Err s p bad w in
          rw r.1 (stops q left.turns left.enough r.0) ∙ left.same

      pub names_turn : {e : Piece} → piece_at quirk_word s p ≡ Ok e → NamesLeft (bit_or bits e.form) s e.at whole
      names_turn {e} w = let r = read_Ok s p e w in rw r.1 (turns_on q left.turns whole left.enough r.0 left.same)

      -- The line is a bounded one, and each turn takes of it.
      pub names_less : {e : Piece} → piece_at quirk_word s p ≡ Ok e → length s - e.at < length s - at
      names_less {e} w =
          let r = read_Ok s p e w in
          omega (arith, inside comma s at q, one_on comma s at q, ap (λ (x : Piece). x.at) r.1)

-- ---- quirks from their first name on

first_named
    : (at k c : ℕ) (v : Said) (h : Bool) (vs : List Said)
    → made (quirks_said 0) at (record { count = k + c; good = h; value = v ∷ vs })
    ≡ made (quirks_said v.form) (at + k) (record { count = c; good = h; value = vs })
unfolding made union_from
first_named at k c v true vs = rw (or_zero_l v.form) (ap (ended (union_from v.form vs)) (omega arith))
first_named at k c v false vs = ap bad_at (omega arith)

module _ (s : List ℕ) (at : ℕ) where
  abbrev others : Read (List Said)
  others =
      let r = drop (read s at).count (drop at s) in
      more_read (table_read quirk_word) comma (length r) r

  name_some : (read s at).good ≡ true → (read s at).count ≡ 0 → ⊥
  name_some g z = quirk_empty (read s at).value (rw z at ((quirk_field.reads (drop at s)).exact.yields g))

  quirks_read_lem
      : (read s at).good ≡ true
      → quirks_read (drop at s)
      ≡ record { count = (read s at).count + others.count; good = others.good; value = (read s at).value ∷ others.value }
  unfolding quirks_read
  quirks_read_lem g =
      let n = name_some g in
      rw (g, ne_eqb ((read s at).count + others.count) 0 (λ z. n (omega arith)))

  module _ {bad : BadLine} (e : piece_at quirk_word s at ≡ Err bad) where
    pub quirks_none : bad.offset ≡ at → ended 0 at ≡ quirks_at s at
    unfolding quirks_at quirks_read made union_from
    quirks_none h =
        let r = read_Err s at bad e in
        let z : eqb (read s at).count 0 ≡ true = eq-eqb (read s at).count 0 (omega (arith, ap (λ (b : BadLine). b.offset) r.1)) in
        let here : at + 0 ≡ at = omega arith in
        rw (r.0, z, here)

    pub quirks_bad : (bad.offset ≡ at → ⊥) → Err bad ≡ quirks_at s at
    unfolding quirks_at quirks_read made
    quirks_bad h =
        let r = read_Err s at bad e in
        let there = ap (λ (b : BadLine). b.offset) r.1 in
        let z : eqb (read s at).count 0 ≡ false = ne_eqb (read s at).count 0 (λ z. h (omega arith)) in
        rw (r.1, r.0, z)

  from_first
      : (read s at).good ≡ true → names_at (read s at).value.form s (at + (read s at).count) ≡ quirks_at s at
  unfolding names_at quirks_at
  from_first g =
      rw (← drop-drop (read s at).count at s, quirks_read_lem g)
      (sym (first_named at (read s at).count others.count (read s at).value others.good others.value))

  pub quirks_some : {first : Piece} → piece_at quirk_word s at ≡ Ok first → names_from s first ≡ quirks_at s at
  quirks_some {first} e = let r = read_Ok s at first e in rw r.1 (from_first r.0)
