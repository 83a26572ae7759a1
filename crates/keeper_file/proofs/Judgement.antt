-- What is read of a signature line is the judgement on the whole of it, unless its line is over 512 bytes.
use Rattle.std.specs.Prelude.{Result}
use Prim.Native.Nat.{ℕ, ◌+◌, ◌-◌, ◌<◌, ◌≤◌}
use mathlib.Core.Path.{◌≡◌, refl, sym, ◌∙◌, ap}
use mathlib.Core.Logic.{◌⊎◌, inl, inr}
use mathlib.Core.Bool.{Bool, true, false, cond, ◌&&◌, false≢true}
use mathlib.Core.List.{List}
use native.Mathlib.Omega.{arith}
use native.Mathlib.Decide.{dec_le}
use lib.Dec.{eqb}
use lib.ListN.{length, drop, length-drop}
use borrow.Author.Tests.{eq-eqb, ne_eqb, eqb-true, eqb-false}
use Rattle.grammar.specs.Reading.{Read, Judgement, means, refused, judgement}
use Rattle.grammar.specs.States.{table_read}
use Rattle.grammar.specs.Table.{Said}
use Rattle.signature_line.specs.declared.BadLine.{BadLine}
use Rattle.signature_line.specs.declared.SignatureRead.{SignatureRead}
use Rattle.signature_line.specs.Answer.{refused_at, read_of}
use Rattle.signature_line.specs.Line.{longest}
use Rattle.signature_line.specs.LineReader.{fields_read, read_as, answered, read_line}
use Rattle.signature_line.specs.Meaning.{Fields}
use Rattle.signature_line.proofs.Accepted.{long, short}
use Rattle.keeper_file.specs.KeptLine.{blank, label, mark, kept_meaning, LineStarts}
use Rattle.keeper_file.specs.KeptReader.{head_read, kept_behind, read_kept}
use Rattle.keeper_file.proofs.HeadFirst.{Follows, then_follows}
use Rattle.keeper_file.proofs.KeptField.{head_field, kept_read}
use Rattle.keeper_file.proofs.LineStart.{starts_there, starts_only}

-- What a judgement on the whole line answers.
abbrev pub kept_answered : Judgement (Said × (Said × Fields)) → Result SignatureRead BadLine
kept_answered (means v) = read_of (kept_meaning v)
kept_answered (refused k) = refused_at k

-- ---- the judgement on a line, and on the line behind a head

judged_bad : {A : Type 0} (s : List ℕ) (x : Read A) → x.good ≡ false → judgement s x ≡ refused x.count
judged_bad s x e = rw e

same_end : (n c l : ℕ) → n ≤ l → eqb c (l - n) ≡ eqb (n + c) l
same_end n c l h = by (eqb c (l - n)) refl
  where
    by : (t : Bool) → eqb c (l - n) ≡ t → t ≡ eqb (n + c) l
    by true e = let z = eqb-true c (l - n) e in sym (eq-eqb (n + c) l (omega arith))
    by false e = sym (ne_eqb (n + c) l (λ (q : n + c ≡ l). eqb-false c (l - n) e (omega arith)))

module _ {A B C : Type 0} (pair : A → B → C) (s : List ℕ) (head : Read A) (rest : Read B) (whole : Read C) where
  judged_behind
      : Follows pair head rest whole → head.good ≡ true → head.count ≤ length s
      → judgement s whole
      ≡ cond (rest.good && eqb rest.count (length (drop head.count s))) (means (pair head.value rest.value))
      (refused (head.count + rest.count))
  judged_behind f e h =
      let counts : whole.count ≡ head.count + rest.count = rw e at f.counts in
      let goods : whole.good ≡ rest.good = rw e at f.goods in
      rw (goods, counts, f.values e, length-drop head.count s, same_end head.count rest.count (length s) h)

answered_behind
    : (t : Bool) (n : ℕ) (v : Said × Said) (f : Fields) (k : ℕ)
    → kept_behind n v.1.form v.0.number (answered (cond t (means f) (refused k)))
    ≡ kept_answered (cond t (means (v.0, (v.1, f))) (refused (n + k)))
unfolding kept_behind read_as
answered_behind true n v f k = refl
answered_behind false n v f k = refl

refused_behind : (n k kind number : ℕ) → kept_behind n kind number (refused_at k) ≡ refused_at (n + k)
unfolding kept_behind
refused_behind n k kind number = refl

-- ---- the reading

module _ (s : List ℕ) where
  abbrev n : ℕ
  n = (head_read s).count

  abbrev line : List ℕ
  line = drop n s

  follows : Follows (λ v f. (v.0, (v.1, f))) (head_read s) (fields_read line) (kept_read s)
  unfolding head_read
  follows = then_follows blank (table_read mark) fields_read (table_read label) s

  head_bad : (head_read s).good ≡ false → read_kept s ≡ kept_answered (judgement s (kept_read s))
  unfolding read_kept
  head_bad e =
      let counts : (kept_read s).count ≡ n = rw e at follows.counts in
      let goods : (kept_read s).good ≡ false = rw e at follows.goods in
      rw e (sym (ap kept_answered (judged_bad s (kept_read s) goods ∙ ap refused counts)))

  behind : (head_read s).good ≡ true → read_kept s ≡ kept_behind n (head_read s).value.1.form (head_read s).value.0.number (read_line line)
  unfolding read_kept
  behind e = rw e

  line_short : (head_read s).good ≡ true → length s - n ≤ longest → read_kept s ≡ kept_answered (judgement s (kept_read s))
  line_short e h =
      let few : length line ≤ longest = rw (length-drop n s) h in
      let whole = judged_behind _ s (head_read s) (fields_read line) (kept_read s) follows e (head_field.reads s).within in
      behind e ∙ ap (kept_behind n _ _) (short line few)
      ∙ answered_behind ((fields_read line).good && eqb (fields_read line).count (length line)) n (head_read s).value _ _
      ∙ sym (ap kept_answered whole)

  line_long : (head_read s).good ≡ true → longest < length s - n → read_kept s ≡ refused_at (n + longest)
  line_long e h =
      let many : longest < length line = rw (length-drop n s) h in
      behind e ∙ ap (kept_behind n _ _) (long line many) ∙ refused_behind n longest _ _

  -- No line that starts here is over 512 bytes.
  abbrev pub ShortEnough : Type 0
  ShortEnough = (start : ℕ) → LineStarts s start → length s - start ≤ longest

  pub record TooLong : Type 0 where
    pub at : ℕ
    pub starts : LineStarts s at
    pub many : longest < length s - at

  pub short_answer : ShortEnough → read_kept s ≡ kept_answered (judgement s (kept_read s))
  short_answer h = by (head_read s).good refl
    where
      by : (t : Bool) → (head_read s).good ≡ t → read_kept s ≡ kept_answered (judgement s (kept_read s))
      by true e = line_short e (h n (starts_there s e))
      by false e = head_bad e

  pub long_answer : (at : ℕ) → LineStarts s at → longest < length s - at → read_kept s ≡ refused_at (at + longest)
  long_answer at l h =
      let o = starts_only s at l in
      rw o.1 (line_long o.0 (rw o.1 at h))

  pub short_or_long : ShortEnough ⊎ TooLong
  short_or_long = by (head_read s).good refl (dec_le (length s - n) longest)
    where
      by : (t : Bool) → (head_read s).good ≡ t → Dec (length s - n ≤ longest) → ShortEnough ⊎ TooLong
      by true e (yes h) = inl (λ start l. rw (starts_only s start l).1 h)
      by true e (no h) = inr (record { at = n; starts = starts_there s e; many = omega arith })
      by false e d = inl (λ start l. absurd (false≢true (sym e ∙ (starts_only s start l).0)))
