-- The signature lines of a file, read one after the other: the first that is bad, and what they count.
use Rattle.std.specs.Prelude.{Result, Ok, Err}
use Prim.Native.Nat.{ℕ, suc, ◌+◌, ◌<◌, ◌≤◌}
use mathlib.Core.Path.{◌≡◌, refl, ap}
use mathlib.Core.Bool.{Bool, true, false, cond}
use mathlib.Core.List.{List, [], ◌∷◌, ◌++◌}
use native.Mathlib.Omega.{arith}
use lib.Dec.{ltb}
use lib.ListN.{length}
use borrow.Author.Tests.{ltb-true, ltb-false}
use Rattle.refusals.specs.declared.Refusal.TheVariants as refusal
use Rattle.signature_line.specs.declared.BadLine.{BadLine}
use Rattle.signature_line.specs.declared.SignatureRead.{SignatureRead}
use Rattle.signature_line.specs.Meaning.{LineMeaning}
use Rattle.signature_line.proofs.FieldsGood.{Each}
use Rattle.keeper_file.specs.declared.Counts.{Counts}
use Rattle.keeper_file.specs.declared.LineRefusal.{LineRefusal}
use Rattle.keeper_file.specs.CompileAnswers.{EachMeans}
use Rattle.keeper_file.specs.Compiling.{refused, bad_or, first_bad, most_signatures, most_entries, meanings, tallied_from}
use Rattle.keeper_file.specs.KeptLine.{KeptMeans, KeptRefused}
use Rattle.keeper_file.specs.KeptReader.{read_kept, meaning_read}
use Rattle.keeper_file.specs.Lines.{Numbered}
use Rattle.keeper_file.specs.ListText.{entry_total}
use Rattle.keeper_file.proofs.Accepted.{kept_accepted, kept_refused, kept_read_lem}

-- What is read of a line.
abbrev pub line_meaning : Numbered → LineMeaning
line_meaning line = meaning_read (read_kept line.text)

-- Each line means what is read of it.
abbrev pub EachRead : List Numbered → Type 0
EachRead = Each (λ (line : Numbered). KeptMeans line.text (line_meaning line))

pub each_means : (lines : List Numbered) → EachRead lines → EachMeans lines (meanings lines)
unfolding meanings
each_means [] all = EachMeans.none
each_means (line ∷ lines) all = EachMeans.one_more all.0 (each_means lines all.1)

pub meanings_length : (lines : List Numbered) → length (meanings lines) ≡ length lines
unfolding meanings
meanings_length [] = refl
meanings_length (line ∷ lines) = ap suc (meanings_length lines)

-- The lines before one, and it, as they are among all.
pub each_before
    : (lines earlier : List Numbered) (line : Numbered) (later : List Numbered) → lines ≡ earlier ++ line ∷ later → EachRead lines
    → EachRead earlier × KeptMeans line.text (line_meaning line)
each_before lines earlier line later splits all = by earlier (rw (← splits) all)
  where
    by : (some : List Numbered) → EachRead (some ++ line ∷ later) → EachRead some × KeptMeans line.text (line_meaning line)
    by [] rest = (tt, rest.0)
    by (one ∷ some) rest = let more = by some rest.1 in ((rest.0, more.0), more.1)

-- ---- the first bad line

pub data LinesChecked (lines : List Numbered) : Result (Unit {0}) LineRefusal → Type 0 where
  all_read : EachRead lines → LinesChecked lines (Ok tt)
  first_bad_lem
      : (earlier : List Numbered) (line : Numbered) (later : List Numbered) (at : ℕ) → lines ≡ earlier ++ line ∷ later
      → EachRead earlier
      → KeptRefused line.text at
      → LinesChecked lines (refused line.number (refusal.BadLine at))

pub lines_checked : (lines : List Numbered) → LinesChecked lines (first_bad lines)
unfolding first_bad
lines_checked [] = LinesChecked.all_read tt
lines_checked (line ∷ lines) = by_answer (read_kept line.text) refl (lines_checked lines)
  where
    later_ones
        : {c : Result (Unit {0}) LineRefusal} → KeptMeans line.text (line_meaning line) → LinesChecked lines c
        → LinesChecked (line ∷ lines) c
    later_ones here (LinesChecked.all_read all) = LinesChecked.all_read (here, all)
    later_ones here (LinesChecked.first_bad_lem earlier bad later at splits each bad_there) =
        LinesChecked.first_bad_lem (line ∷ earlier) bad later at (ap (λ (rest : List Numbered). line ∷ rest) splits) (here, each) bad_there

    by_answer
        : (a : Result SignatureRead BadLine) → read_kept line.text ≡ a → LinesChecked lines (first_bad lines)
        → LinesChecked (line ∷ lines) (bad_or a line.number (first_bad lines))
    by_answer (Ok x) e rest = later_ones ((kept_accepted line.text (line_meaning line)).0 (kept_read_lem line.text x e)) rest
    by_answer (Err bad) e rest =
        LinesChecked.first_bad_lem [] line lines bad.offset refl tt ((kept_refused line.text bad.offset).0 e)

-- ---- what they count

pub data Tallied (signatures entries : ℕ) (lines : List Numbered) : Result Counts LineRefusal → Type 0 where
  counted
      : (n total : ℕ) → n ≡ signatures + length lines → total ≡ entries + entry_total (meanings lines) → n ≤ most_signatures
      → total ≤ most_entries
      → Tallied signatures entries lines (Ok (record { signatures = n; entries = total }))
  many_signatures
      : (earlier : List Numbered) (line : Numbered) (later : List Numbered) → lines ≡ earlier ++ line ∷ later
      → signatures + length earlier ≡ most_signatures
      → entries + entry_total (meanings earlier) ≤ most_entries
      → Tallied signatures entries lines (refused line.number refusal.TooManySignatures)
  many_entries
      : (earlier : List Numbered) (line : Numbered) (later : List Numbered) → lines ≡ earlier ++ line ∷ later
      → signatures + length earlier < most_signatures
      → entries + entry_total (meanings earlier) ≤ most_entries
      → most_entries < entries + entry_total (meanings earlier) + (line_meaning line).layout.count
      → Tallied signatures entries lines (refused line.number refusal.TooManyEntries)

-- One line more in front of those that are counted.
one_line
    : {signatures entries : ℕ} {line : Numbered} {lines : List Numbered} {t : Result Counts LineRefusal}
    → Tallied (signatures + 1) (entries + (line_meaning line).layout.count) lines t
    → Tallied signatures entries (line ∷ lines) t
unfolding meanings entry_total
one_line (Tallied.counted n total a b few small) = Tallied.counted n total (omega arith) (omega arith) few small
one_line {line = line} (Tallied.many_signatures earlier many later splits full small) =
    Tallied.many_signatures (line ∷ earlier) many later (ap (λ (rest : List Numbered). line ∷ rest) splits) (omega arith) (omega arith)
one_line {line = line} (Tallied.many_entries earlier many later splits few small large) =
    Tallied.many_entries (line ∷ earlier) many later (ap (λ (rest : List Numbered). line ∷ rest) splits)
    (omega arith) (omega arith) (omega arith)

-- By the two tests, whatever is counted behind the line.
module _ (signatures entries : ℕ) (line : Numbered) (lines : List Numbered) (rest : Result Counts LineRefusal) where
  abbrev more : ℕ
  more = entries + (line_meaning line).layout.count

  abbrev Onward : Type 0
  Onward = signatures + 1 ≤ most_signatures → more ≤ most_entries → Tallied (signatures + 1) more lines rest

  by_entries
      : (t : Bool) → ltb most_entries more ≡ t → signatures + 1 ≤ most_signatures → entries ≤ most_entries → Onward
      → Tallied signatures entries (line ∷ lines) (cond t (refused line.number refusal.TooManyEntries) rest)
  unfolding meanings entry_total
  by_entries true e few small onward =
      Tallied.many_entries [] line lines refl (omega arith) (omega arith) (omega (arith, ltb-true most_entries more e))
  by_entries false e few small onward = one_line (onward few (ltb-false most_entries more e))

  by_signatures
      : (t : Bool) → ltb most_signatures (signatures + 1) ≡ t → signatures ≤ most_signatures → entries ≤ most_entries → Onward
      → Tallied signatures entries (line ∷ lines)
      (cond t (refused line.number refusal.TooManySignatures)
      (cond (ltb most_entries more) (refused line.number refusal.TooManyEntries) rest))
  unfolding meanings entry_total
  by_signatures true e few small onward =
      Tallied.many_signatures [] line lines refl (omega (arith, ltb-true most_signatures (signatures + 1) e)) (omega arith)
  by_signatures false e few small onward =
      by_entries (ltb most_entries more) refl (ltb-false most_signatures (signatures + 1) e) small onward

pub lines_tallied
    : (signatures entries : ℕ) (lines : List Numbered) → signatures ≤ most_signatures → entries ≤ most_entries
    → Tallied signatures entries lines (tallied_from signatures entries lines)
unfolding tallied_from meanings entry_total
lines_tallied signatures entries [] few small =
    Tallied.counted signatures entries (omega arith) (omega arith) few small
lines_tallied signatures entries (line ∷ lines) few small =
    let more = entries + (line_meaning line).layout.count in
    by_signatures signatures entries line lines (tallied_from (signatures + 1) more lines) (ltb most_signatures (signatures + 1)) refl
    few small (lines_tallied (signatures + 1) more lines)
