-- What is read, and where a line is refused: exactly the grammar.
use Prim.Native.Nat.{ℕ, ◌+◌, ◌<◌, ◌≤◌}
use mathlib.Core.Path.{◌≡◌, refl, sym, ◌∙◌, ap, subst}
use mathlib.Core.Logic.{◌↔◌, inl, inr}
use mathlib.Core.List.{List}
use native.Mathlib.Omega.{arith}
use native.Mathlib.Decide.{dec_le}
use lib.ListN.{length, take}
use borrow.Author.Tests.{lt-ltb, le-ltb}
use Rattle.std.specs.Prelude.{◌⊎◌, Result, Ok, Err}
use Rattle.refusals.specs.declared.Refusal.TheVariants as refusal
use Rattle.refusals.specs.Refusals.{Verdict}
use Rattle.grammar.specs.Language.{GoesOn, Refused}
use Rattle.grammar.specs.Reading.{Judgement, means, refused, judgement}
use Rattle.grammar.proofs.Judged.{Holds, judged}
use Rattle.signature_line.specs.declared.BadLine.{BadLine}
use Rattle.signature_line.specs.declared.SignatureRead.{SignatureRead}
use Rattle.signature_line.specs.Line.{LineSays, SignatureLine, longest, LineRefused, too_long, goes_on_no_more}
use Rattle.signature_line.specs.Answer.{refused_at, read_of, line_verdict}
use Rattle.signature_line.specs.LineReader.{fields_read, read_as, answered, read_line}
use Rattle.signature_line.specs.Meaning.{Fields, LineMeaning, meaning_of}
use Rattle.signature_line.proofs.Line.{line_field}

-- The judgement on a string is exactly what holds of it, and a line says one thing.
pub line_judged : (s : List ℕ) (o : Judgement Fields) → (judgement s (fields_read s) ≡ o) ↔ Holds LineSays s o
line_judged s o = judged LineSays s (fields_read s) (line_field.reads s) o

pub one_saying : (s : List ℕ) (f g : Fields) → LineSays s f → LineSays s g → f ≡ g
one_saying s f g a b =
    let p = (line_judged s (means f)).1 a in
    let q = (line_judged s (means g)).1 b in
    cc

-- The two lengths, and what is answered.
pub long : (s : List ℕ) → longest < length s → read_line s ≡ refused_at longest
unfolding read_line
long s h = rw (lt-ltb longest (length s) h)

pub short : (s : List ℕ) → length s ≤ longest → read_line s ≡ answered (judgement s (fields_read s))
unfolding read_line
short s h = rw (le-ltb longest (length s) h)

read_as_lem : (f : Fields) → read_as f ≡ read_of (meaning_of f)
unfolding read_as
read_as_lem f = refl

-- What was read is not refused, and what was refused is not read.
read_not_refused : (m : LineMeaning) (k : ℕ) → refused_at k ≡ read_of m → ⊥
read_not_refused m k e = let z : ◌≡◌ {A = ℕ} 0 1 = cc in omega arith

abbrev said_by : Result SignatureRead BadLine → ℕ ⊎ LineMeaning
said_by (Ok read) = inr (record { raw = read.raw; layout = read.layout })
said_by (Err bad) = inl bad.offset

refused_so : (j k : ℕ) → refused_at j ≡ refused_at k → j ≡ k
refused_so j k e = let q : ◌≡◌ {A = ℕ ⊎ LineMeaning} (inl j) (inl k) = ap said_by e in cc

read_answer : (f : Fields) (k : ℕ) → read_as f ≡ refused_at k → ⊥
read_answer f k e = read_not_refused (meaning_of f) k (sym e ∙ read_as_lem f)

same_meaning : (m n : LineMeaning) → read_of m ≡ read_of n → m ≡ n
same_meaning m n e = let q : ◌≡◌ {A = ℕ ⊎ LineMeaning} (inr m) (inr n) = ap said_by e in cc

-- ---- accepted exactly

module _ (s : List ℕ) (m : LineMeaning) where
  judged_so : length s ≤ longest → read_line s ≡ read_of m → (o : Judgement Fields) → judgement s (fields_read s) ≡ o → SignatureLine s m
  unfolding SignatureLine
  judged_so h e (means f) q =
      let r : read_of (meaning_of f) ≡ read_of m = sym (read_as_lem f) ∙ sym (short s h ∙ ap answered q) ∙ e in
      (f, (line_judged s (means f)).0 q, sym (same_meaning (meaning_of f) m r))
  judged_so h e (refused k) q = absurd (read_not_refused m k (sym (short s h ∙ ap answered q) ∙ e))

  accepted_only : read_line s ≡ read_of m → (length s ≤ longest) × SignatureLine s m
  accepted_only e = by (dec_le (length s) longest)
    where
      by : Dec (length s ≤ longest) → (length s ≤ longest) × SignatureLine s m
      by (yes h) = (h, judged_so h e (judgement s (fields_read s)) refl)
      by (no h) = absurd (read_not_refused m longest (sym (long s (omega arith)) ∙ e))

  accepted_all : (length s ≤ longest) × SignatureLine s m → read_line s ≡ read_of m
  unfolding SignatureLine
  accepted_all h =
      let l = h.1 in
      short s h.0 ∙ ap answered ((line_judged s (means l.0)).1 l.1) ∙ read_as_lem l.0 ∙ ap read_of (sym l.2)

  pub accepted : (read_line s ≡ read_of m) ↔ ((length s ≤ longest) × SignatureLine s m)
  accepted = (accepted_only, accepted_all)

-- A line has one meaning.
pub one_meaning : (s : List ℕ) (m n : LineMeaning) → SignatureLine s m → SignatureLine s n → m ≡ n
unfolding SignatureLine
one_meaning s m n a b = a.2 ∙ ap meaning_of (one_saying s a.0 b.0 a.1 b.1) ∙ sym b.2

-- ---- refused exactly

goes_on : (p : List ℕ) → GoesOn LineSays p ↔ GoesOn SignatureLine p
unfolding SignatureLine
goes_on p = (
  λ g. record { tail = g.tail; meaning = meaning_of g.meaning; derives = (g.meaning, g.derives, refl) },
  λ g. record { tail = g.tail; meaning = g.derives.0; derives = g.derives.1 },
)

refused_alike : (s : List ℕ) (k : ℕ) → Refused LineSays s k ↔ Refused SignatureLine s k
unfolding SignatureLine
refused_alike s k = (
  λ r.
      record {
        within = r.within;
        none = λ m l. r.none l.0 l.1;
        before = λ i h. (goes_on (take i s)).0 (r.before i h);
        there = λ h g. r.there h ((goes_on (take (k + 1) s)).1 g);
      },
  λ r.
      record {
        within = r.within;
        none = λ f l. r.none (meaning_of f) (f, l, refl);
        before = λ i h. (goes_on (take i s)).1 (r.before i h);
        there = λ h g. r.there h ((goes_on (take (k + 1) s)).0 g);
      },
)

-- A refusal gives nothing but its offset.
refusal_gives : (s : List ℕ) (k : ℕ) → LineRefused s k → read_line s ≡ refused_at k
refusal_gives s k (too_long h) = long s h
refusal_gives s k (goes_on_no_more h r) = short s h ∙ ap answered ((line_judged s (refused k)).1 ((refused_alike s k).1 r))

module _ (s : List ℕ) (k : ℕ) where
  stopped_so : length s ≤ longest → read_line s ≡ refused_at k → (o : Judgement Fields) → judgement s (fields_read s) ≡ o → LineRefused s k
  stopped_so h e (means f) q = absurd (read_answer f k (sym (short s h ∙ ap answered q) ∙ e))
  stopped_so h e (refused j) q =
      let same : j ≡ k = refused_so j k (sym (short s h ∙ ap answered q) ∙ e) in
      goes_on_no_more h ((refused_alike s k).0 ((line_judged s (refused k)).0 (rw same at q)))

  refused_only : read_line s ≡ refused_at k → LineRefused s k
  refused_only e = by (dec_le (length s) longest)
    where
      by : Dec (length s ≤ longest) → LineRefused s k
      by (yes h) = stopped_so h e (judgement s (fields_read s)) refl
      by (no h) =
          let same : longest ≡ k = refused_so longest k (sym (long s (omega arith)) ∙ e) in
          subst (LineRefused s) same (too_long (omega arith))

  pub refused_exactly : (read_line s ≡ refused_at k) ↔ LineRefused s k
  refused_exactly = (refused_only, refusal_gives s k)

-- Beside refusal 13 nothing but its offset is given.
pub nothing_beside
    : (r : Result SignatureRead BadLine) (k : ℕ) → line_verdict r ≡ Verdict.refused (refusal.BadLine k) → r ≡ refused_at k
nothing_beside (Ok read) k e = let z : ◌≡◌ {A = ℕ} 0 1 = cc in absurd (omega arith)
nothing_beside (Err bad) k e = let q : bad.offset ≡ k = cc in ap refused_at q
