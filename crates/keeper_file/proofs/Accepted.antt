-- What is read of a signature line of the keeper's file, and where it is refused: exactly the grammar.
use Rattle.std.specs.Prelude.{Result, Ok}
use Prim.Native.Nat.{ℕ, ◌+◌}
use mathlib.Core.Path.{◌≡◌, refl, sym, ◌∙◌, ap, subst}
use mathlib.Core.Logic.{◌↔◌, ◌⊎◌, inl, inr}
use mathlib.Core.List.{List}
use lib.ListN.{take}
use Rattle.grammar.specs.Language.{GoesOn, Refused}
use Rattle.grammar.specs.Reading.{Judgement, means, refused, judgement}
use Rattle.grammar.specs.Table.{Said}
use Rattle.grammar.proofs.Judged.{Holds, judged}
use Rattle.signature_line.specs.declared.BadLine.{BadLine}
use Rattle.signature_line.specs.declared.SignatureRead.{SignatureRead}
use Rattle.signature_line.specs.Answer.{refused_at, read_of}
use Rattle.signature_line.specs.Line.{longest}
use Rattle.signature_line.specs.Meaning.{Fields, LineMeaning}
use Rattle.keeper_file.specs.KeptLine.{KeptSays, kept_meaning, KeptLine, KeptRefused, too_long, goes_on_no_more, KeptMeans}
use Rattle.keeper_file.specs.KeptReader.{meaning_read, read_kept}
use Rattle.keeper_file.proofs.Judgement.{kept_answered, ShortEnough, TooLong, short_answer, long_answer, short_or_long}
use Rattle.keeper_file.proofs.KeptField.{kept_read, kept_field}

-- The judgement on a string is exactly what holds of it.
kept_judged
    : (s : List ℕ) (o : Judgement (Said × (Said × Fields))) → (judgement s (kept_read s) ≡ o) ↔ Holds KeptSays s o
kept_judged s o = judged KeptSays s (kept_read s) (kept_field.reads s) o

-- ---- a signature line has one meaning

one_saying : (s : List ℕ) (v w : Said × (Said × Fields)) → KeptSays s v → KeptSays s w → v ≡ w
one_saying s v w a b =
    let p = (kept_judged s (means v)).1 a in
    let q = (kept_judged s (means w)).1 b in
    cc

pub kept_one_meaning : (s : List ℕ) (m n : LineMeaning) → KeptMeans s m → KeptMeans s n → m ≡ n
unfolding KeptLine
kept_one_meaning s m n a b =
    let l = a.says in
    let k = b.says in
    l.2 ∙ ap kept_meaning (one_saying s l.0 k.0 l.1 k.1) ∙ sym k.2

-- ---- what was read is not refused, and what was refused is not read

refused_not_read : (k : ℕ) (m : LineMeaning) → refused_at k ≡ read_of m → ⊥
refused_not_read k m e = cc

refused_so : (j k : ℕ) → refused_at j ≡ refused_at k → j ≡ k
refused_so j k e =
    let same : ◌≡◌ {A = BadLine} (record { offset = j }) (record { offset = k }) = cc in ap (λ (b : BadLine). b.offset) same

same_meaning : (m n : LineMeaning) → read_of m ≡ read_of n → m ≡ n
same_meaning m n e = ap meaning_read e

-- What was read is its meaning.
pub kept_read_lem : (s : List ℕ) (x : SignatureRead) → read_kept s ≡ Ok x → read_kept s ≡ read_of (meaning_read (read_kept s))
kept_read_lem s x e = e ∙ ap (λ (r : Result SignatureRead BadLine). read_of (meaning_read r)) (sym e)

-- ---- accepted exactly

module _ (s : List ℕ) (m : LineMeaning) where
  judged_so
      : ShortEnough s → read_kept s ≡ read_of m → (o : Judgement (Said × (Said × Fields))) → judgement s (kept_read s) ≡ o → KeptLine s m
  unfolding KeptLine
  judged_so h e (means v) q =
      let r : read_of (kept_meaning v) ≡ read_of m = sym (short_answer s h ∙ ap kept_answered q) ∙ e in
      (v, (kept_judged s (means v)).0 q, sym (same_meaning (kept_meaning v) m r))
  judged_so h e (refused k) q =
      absurd (refused_not_read k m (sym (short_answer s h ∙ ap kept_answered q) ∙ e))

  accepted_only : read_kept s ≡ read_of m → KeptMeans s m
  accepted_only e = by (short_or_long s)
    where
      by : ShortEnough s ⊎ TooLong s → KeptMeans s m
      by (inl h) = record { says = judged_so h e (judgement s (kept_read s)) refl; short = h }
      by (inr l) =
          let r = long_answer s l.at l.starts l.many in
          absurd (refused_not_read (l.at + longest) m (sym r ∙ e))

  accepted_all : KeptMeans s m → read_kept s ≡ read_of m
  unfolding KeptLine
  accepted_all k =
      let l = k.says in
      short_answer s k.short ∙ ap kept_answered ((kept_judged s (means l.0)).1 l.1) ∙ ap read_of (sym l.2)

pub kept_accepted : (s : List ℕ) (m : LineMeaning) → (read_kept s ≡ read_of m) ↔ KeptMeans s m
kept_accepted s m = (accepted_only s m, accepted_all s m)

-- ---- refused exactly

goes_on : (p : List ℕ) → GoesOn KeptSays p ↔ GoesOn KeptLine p
unfolding KeptLine
goes_on p = (
  λ g. record { tail = g.tail; meaning = kept_meaning g.meaning; derives = (g.meaning, g.derives, refl) },
  λ g. record { tail = g.tail; meaning = g.derives.0; derives = g.derives.1 },
)

refused_alike : (s : List ℕ) (k : ℕ) → Refused KeptSays s k ↔ Refused KeptLine s k
unfolding KeptLine
refused_alike s k = (
  λ r.
      record {
        within = r.within;
        none = λ m l. r.none l.0 l.1;
        before = λ i h. (goes_on (take i s)).0 (r.before i h);
        there = λ h g. r.there h ((goes_on (take (k + 1) s)).1 g);
      },
  λ r.
      record {
        within = r.within;
        none = λ v l. r.none (kept_meaning v) (v, l, refl);
        before = λ i h. (goes_on (take i s)).1 (r.before i h);
        there = λ h g. r.there h ((goes_on (take (k + 1) s)).0 g);
      },
)

-- A refusal gives nothing but its offset.
refusal_gives : (s : List ℕ) (k : ℕ) → KeptRefused s k → read_kept s ≡ refused_at k
refusal_gives s k (too_long {at} l h) = long_answer s at l h
refusal_gives s k (goes_on_no_more h r) =
    short_answer s h ∙ ap kept_answered ((kept_judged s (refused k)).1 ((refused_alike s k).1 r))

module _ (s : List ℕ) (k : ℕ) where
  stopped_so
      : ShortEnough s → read_kept s ≡ refused_at k → (o : Judgement (Said × (Said × Fields))) → judgement s (kept_read s) ≡ o
      → KeptRefused s k
  stopped_so h e (means v) q =
      absurd (refused_not_read k (kept_meaning v) (sym e ∙ short_answer s h ∙ ap kept_answered q))
  stopped_so h e (refused j) q =
      let same : j ≡ k = refused_so j k (sym (short_answer s h ∙ ap kept_answered q) ∙ e) in
      goes_on_no_more h ((refused_alike s k).0 ((kept_judged s (refused k)).0 (rw same at q)))

  refused_only : read_kept s ≡ refused_at k → KeptRefused s k
  refused_only e = by (short_or_long s)
    where
      by : ShortEnough s ⊎ TooLong s → KeptRefused s k
      by (inl h) = stopped_so h e (judgement s (kept_read s)) refl
      by (inr l) =
          let r = long_answer s l.at l.starts l.many in
          let same = refused_so (l.at + longest) k (sym r ∙ e) in
          subst (KeptRefused s) same (too_long l.starts l.many)

pub kept_refused : (s : List ℕ) (k : ℕ) → (read_kept s ≡ refused_at k) ↔ KeptRefused s k
kept_refused s k = (refused_only s k, refusal_gives s k)
