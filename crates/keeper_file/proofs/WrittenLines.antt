-- A text without line ends, and a line feed behind it, are the first line of what they begin; so the file of a list has a signature line
-- for each record, in order.
use Prim.Native.Nat.{ℕ, suc, ◌+◌}
use mathlib.Core.Path.{◌≡◌, refl}
use mathlib.Core.List.{List, [], ◌∷◌, ◌++◌, append_assoc}
use native.Mathlib.Omega.{arith}
use borrow.Author.Tests.{ne_eqb, leb-true}
use Rattle.text.specs.Decimal.{newline}
use Rattle.grammar.proofs.Join.{Within, nil, inside}
use Rattle.signature_line.specs.Meaning.{LineMeaning}
use Rattle.keeper_file.specs.CompileAnswers.{EachMeans}
use Rattle.keeper_file.specs.FileText.{kept_text, file_from}
use Rattle.keeper_file.specs.KeptLine.{KeptLine}
use Rattle.keeper_file.specs.Lines.{line_feed, carriage_return, lines_of, numbered_from}
use Rattle.keeper_file.proofs.KeptAgain.{KeptFrom}
use Rattle.keeper_file.proofs.WrittenBytes.{visible, kept_words, kept_not_passed}

pub line_first : (s rest : List ℕ) → Within visible s → lines_of (s ++ line_feed ∷ rest) ≡ s ∷ lines_of rest
unfolding lines_of
line_first [] rest nil = refl
line_first (b ∷ s) rest (inside high more) =
    let large = leb-true 32 b high in
    rw (
      ne_eqb b line_feed (λ (same : b ≡ line_feed). omega arith),
      ne_eqb b carriage_return (λ (same : b ≡ carriage_return). omega arith),
      line_first s rest more,
    )

-- A signature line is not passed over.
first_line
    : (k : ℕ) (s rest : List ℕ) (m : LineMeaning) → KeptLine s m
    → numbered_from k (lines_of (s ++ line_feed ∷ rest)) ≡ record { number = k; text = s } ∷ numbered_from (k + 1) (lines_of rest)
unfolding numbered_from KeptLine
first_line k s rest m line =
    rw (line_first s rest (kept_words s line.0 line.1), kept_not_passed s line.0 line.1)

-- ---- the file of a list

no_lines : (l : List ℕ) (i k : ℕ) → EachMeans (numbered_from k (lines_of (file_from l i 0))) []
unfolding file_from lines_of numbered_from
no_lines l i k = EachMeans.none

file_line : (l : List ℕ) (i n : ℕ) → file_from l i (suc n) ≡ kept_text l i ++ line_feed ∷ file_from l (i + 1) n
unfolding file_from
file_line l i n = append_assoc (kept_text l i) newline (file_from l (i + 1) n)

pub lines_mean
    : {l : List ℕ} {i n : ℕ} {ms : List LineMeaning} (k : ℕ) → KeptFrom l i n ms
    → EachMeans (numbered_from k (lines_of (file_from l i n))) ms
lines_mean {l = l} {i = i} k KeptFrom.none = no_lines l i k
lines_mean {l = l} k (KeptFrom.one_more {i = i} {n = n} {m = m} here rest) =
    rw (file_line l i n, first_line k (kept_text l i) (file_from l (i + 1) n) m here.means.says)
    (EachMeans.one_more here.means (lines_mean (k + 1) rest))
