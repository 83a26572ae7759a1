-- What stands before the line of Wish 1, over what the calls gave: a label, a blank, a mark.
use Prim.Native.Nat.{ℕ, ◌+◌, ◌-◌, ◌<◌, ◌≤◌}
use mathlib.Core.Path.{◌≡◌, refl, sym, ◌∙◌, ap}
use mathlib.Core.Bool.{Bool, true, false}
use mathlib.Core.List.{List}
use native.Mathlib.Omega.{arith}
use lib.Dec.{lit<}
use lib.ListN.{length, take, drop, length-drop}
use lib.Seq.{take_all}
use Rattle.std.specs.Prelude.{Result, Ok, Err}
use Rattle.grammar.specs.Numeral.{any}
use Rattle.grammar.specs.Reading.{Read}
use Rattle.grammar.specs.States.{table_read}
use Rattle.grammar.specs.Table.{Said, said, Choice}
use Rattle.grammar.proofs.Apart.{all_apart}
use Rattle.grammar.proofs.Numerals.{any_lives}
use Rattle.grammar.proofs.Reading.{Field}
use Rattle.grammar.proofs.Tables.{table_field, table_holds}
use Rattle.signature_line.specs.declared.BadLine.{BadLine}
use Rattle.signature_line.specs.declared.SignatureRead.{SignatureRead}
use Rattle.signature_line.specs.Answer.{refused_at, read_of}
use Rattle.signature_line.specs.Line.{LineRefused, too_long, goes_on_no_more}
use Rattle.signature_line.specs.LineReader.{read_line}
use Rattle.signature_line.proofs.Accepted.{refused_exactly}
use Rattle.numerals.specs.declared.Piece.{Piece}
use Rattle.numerals.specs.Pieces.{piece_said, made, state_at, numeral_at, and_then}
use Rattle.numerals.proofs.Made.{made_good, made_bad, made_Ok, made_map, then_same, err_then, ok_then}
use Rattle.one_field.specs.Places.{behind_at}
use Rattle.parse_tcp.proofs.Chain.{then_made}
use Rattle.parse_tcp.proofs.MoreLaws.{inside, one_on}
use Rattle.keeper_file.specs.KeptLine.{blank, label, mark, kind_and_label}
use Rattle.keeper_file.specs.KeptReader.{head_read, kept_behind, read_kept}
use Rattle.keeper_line.specs.Places.{mark_at}

-- ---- the two tables

label_field : Field (Choice label) (table_read label)
unfolding label all_apart
label_field = table_field label (any_lives 65535, tt) refl refl

mark_field : Field (Choice mark) (table_read mark)
unfolding mark all_apart
mark_field = table_field mark tt refl refl

label_small : (w : List ℕ) (v : Said) → Choice label w v → v.number < 65536
unfolding label
label_small = table_holds (λ f n. n < 65536) label (λ n h a. omega arith, tt)

mark_small : (w : List ℕ) (v : Said) → Choice mark w v → v.form < 256
unfolding mark
mark_small = table_holds (λ f n. f < 256) mark (lit< tt, (lit< tt, tt))

-- ---- a line, part by part

-- Where the line of Wish 1 starts, with the label and the mark before it.
abbrev Head : Type 0
Head = ℕ × (Said × Said)

abbrev head_said : ℕ → Said × Said → Head
head_said at v = (at, v)

abbrev said_by : Piece → Said
said_by p = said p.form p.number

unfoldable pub head_at : List ℕ → Result Head BadLine
head_at s =
    and_then (numeral_at 65535 any 0 s 0) (λ l. and_then (behind_at blank s l.at) (λ i. and_then (mark_at s i) (λ m.
    Ok (m.at, (said_by l, said_by m)))))

head_made : (s : List ℕ) → made head_said 0 (head_read s) ≡ head_at s
unfolding head_read head_at state_at label
head_made s =
    then_made (table_read label) piece_said head_said s 0 _ blank (table_read mark) (λ e l. then_same (behind_at blank s e) (λ e.
    made_map piece_said _ e (table_read mark (drop e s)) _ (λ n m. refl)))

-- What is read of the line behind its head.
abbrev rest_of : List ℕ → Head → Result SignatureRead BadLine
rest_of s h = kept_behind h.0 h.1.1.form h.1.0.number (read_line (drop h.0 s))

kept_made : (s : List ℕ) → and_then (head_at s) (rest_of s) ≡ read_kept s
unfolding read_kept and_then
kept_made s = ap (λ (r : Result Head BadLine). and_then r (rest_of s)) (sym (head_made s)) ∙ by (head_read s).good refl
  where
    x : Read (Said × Said)
    x = head_read s

    first : 0 + x.count ≡ x.count
    first = omega arith

    by : (k : Bool) → x.good ≡ k → and_then (made head_said 0 x) (rest_of s) ≡ read_kept s
    by true g = rw (made_good head_said 0 x g, g, first)
    by false g = rw (made_bad head_said 0 x g, g, first)

within_line : (s : List ℕ) (k : ℕ) → LineRefused s k → k ≤ length s
within_line s k (too_long h) = omega arith
within_line s k (goes_on_no_more h r) = r.within

-- ---- the same, over what the calls gave

module _ (s : List ℕ) where
  pub no_label : {bad : BadLine} → Err bad ≡ numeral_at 65535 any 0 s 0 → Err bad ≡ read_kept s
  unfolding head_at
  no_label e = err_then _ (err_then _ e) ∙ kept_made s

  module _ (l : Piece) (e : Ok l ≡ numeral_at 65535 any 0 s 0) where
    pub no_blank : {bad : BadLine} → Err bad ≡ behind_at blank s l.at → Err bad ≡ read_kept s
    unfolding head_at
    no_blank w = err_then _ (ok_then _ e (err_then _ w)) ∙ kept_made s

    pub label_fits : l.number < 65536
    unfolding state_at label
    label_fits =
        let r = made_Ok piece_said 0 (table_read label s) l (sym e) in
        rw r.1 (label_small _ (table_read label s).value ((label_field.reads s).exact.yields r.0))

    module _ (i : ℕ) (w : Ok i ≡ behind_at blank s l.at) where
      pub no_mark : {bad : BadLine} → Err bad ≡ mark_at s i → Err bad ≡ read_kept s
      unfolding head_at
      no_mark q = err_then _ (ok_then _ e (ok_then _ w (err_then _ q))) ∙ kept_made s

      module _ (m : Piece) (q : Ok m ≡ mark_at s i) where
        abbrev y : Read Said
        y = table_read mark (drop i s)

        mark_there : (y.good ≡ true) × (m ≡ piece_said (i + y.count) y.value)
        unfolding state_at
        mark_there = made_Ok piece_said i y m (sym q)

        pub mark_fits : m.form < 256
        mark_fits = rw mark_there.1 (mark_small _ y.value ((mark_field.reads (drop i s)).exact.yields mark_there.0))

        pub starts_within : m.at ≤ length s
        starts_within =
            omega (
              arith,
              ap (λ (p : Piece). p.at) mark_there.1,
              inside blank s l.at (sym w),
              one_on blank s l.at (sym w),
              length-drop i s,
              (mark_field.reads (drop i s)).within,
            )

        kept_from : kept_behind m.at m.form l.number (read_line (drop m.at s)) ≡ read_kept s
        unfolding head_at
        kept_from = ok_then _ (ok_then _ e (ok_then _ w (ok_then _ q refl))) refl ∙ kept_made s

        -- What was read of the rest of the line, which is lent as a part.
        abbrev lent : List ℕ
        lent = take (length s - m.at) (drop m.at s)

        rest_is : lent ≡ drop m.at s
        rest_is = take_all (length s - m.at) (drop m.at s) (omega (arith, length-drop m.at s))

        pub kept_read
            : (r : SignatureRead) → Ok r ≡ read_line lent → (raw : List ℕ) → raw ≡ kind_and_label m.form l.number r.raw
            → read_of (record { raw = raw; layout = r.layout }) ≡ read_kept s
        unfolding kept_behind
        kept_read r r-is raw raw-is =
            rw raw-is (ap (kept_behind m.at m.form l.number) (r-is ∙ ap read_line rest_is) ∙ kept_from)

        pub kept_refused : (bad : BadLine) → Err bad ≡ read_line lent → refused_at (m.at + bad.offset) ≡ read_kept s
        unfolding kept_behind
        kept_refused bad r-is = ap (kept_behind m.at m.form l.number) (r-is ∙ ap read_line rest_is) ∙ kept_from

        pub offset_within : (bad : BadLine) → Err bad ≡ read_line lent → m.at + bad.offset ≤ length s
        offset_within bad r-is =
            omega (
              arith,
              starts_within,
              length-drop m.at s,
              within_line (drop m.at s) bad.offset
                  ((refused_exactly (drop m.at s) bad.offset).0 (sym (r-is ∙ ap read_line rest_is))),
            )
