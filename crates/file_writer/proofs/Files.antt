-- The lines of a file, one behind the other: counted, put, and written whole.
use Rattle.std.specs.Prelude.{Result, Ok, Err}
use Prim.Native.Nat.{ℕ, suc, ◌+◌, ◌-◌, ◌<◌, ◌≤◌}
use mathlib.Core.Path.{◌≡◌, ◌∙◌, ap}
use mathlib.Core.List.{List, [], ◌++◌}
use native.Mathlib.Omega.{arith}
use lib.ListN.{length, length-append}
use Rattle.basis.specs.Bytes.{AllBytes}
use Rattle.text.specs.Written.{Put, Writes}
use Rattle.text.proofs.Writing.{put_none, both}
use Rattle.refusals.specs.declared.ListRefusal.{ListRefusal}
use Rattle.refusals.specs.declared.Refusal.TheVariants as refusal
use Rattle.siglist.specs.List.{check_list}
use Rattle.refusals.specs.declared.Refusal.{Refusal}
use Rattle.written_line.specs.Writing.{line_into}
use Rattle.line_writer.proofs.Writing.{refused_so}
use Rattle.keeper_file.specs.FileText.{file_from, file_text, write_file}
use Rattle.file_writer.specs.Shown.{shown_text, GoodList}
use Rattle.file_writer.proofs.Lines.{shown_good}

-- ---- one turn, and the end

-- What is left of a file behind the lines before record i.
abbrev pub lines_left : List ℕ → ℕ → ℕ → List ℕ
lines_left l count i = file_from l i (count - i)

pub file_turn
    : (l : List ℕ) (count i : ℕ) → AllBytes l → GoodList l count → i < count
    → lines_left l count i ≡ shown_text l i ++ lines_left l count (i + 1)
unfolding file_from
file_turn l count i all whole h =
    let more : count - i ≡ suc (count - (i + 1)) = omega arith in
    rw (more, shown_good l i whole.good (omega (arith, h, whole.counted)) all)

pub file_end : (l : List ℕ) (count i : ℕ) → count ≤ i → lines_left l count i ≡ []
unfolding file_from
file_end l count i h = let none : count - i ≡ 0 = omega arith in rw none

pub file_whole : (l : List ℕ) (count : ℕ) → GoodList l count → lines_left l count 0 ≡ file_text l
unfolding file_text
file_whole l count whole = let all : count - 0 ≡ count = omega arith in rw (all, whole.counted)

-- ---- counted

module _ (l : List ℕ) (count i size : ℕ) where
  pub length_turn
      : (n : ℕ) → AllBytes l → GoodList l count → i < count → n ≡ length (shown_text l i)
      → size + length (lines_left l count i) ≡ length (file_text l)
      → size + n + length (lines_left l count (i + 1)) ≡ length (file_text l)
  length_turn n all whole h e inv =
      let here = ap length (file_turn l count i all whole h) ∙ length-append (shown_text l i) (lines_left l count (i + 1)) in
      omega (arith, here, e, inv)

  pub length_end_lem : count ≤ i → size + length (lines_left l count i) ≡ length (file_text l) → size ≡ length (file_text l)
  length_end_lem h inv = let here = ap length (file_end l count i h) in omega (arith, here, inv)

-- ---- put

module _ (l : List ℕ) (count i : ℕ) (b b' : List ℕ) (next : ℕ) where
  pub put_turn
      : (b'' : List ℕ) (next' n : ℕ) → AllBytes l → GoodList l count → i < count → Put b next (shown_text l i) next' b'
      → Put b' next' (lines_left l count (i + 1)) n b''
      → Put b next (lines_left l count i) n b''
  put_turn b'' next' n all whole h line rest =
      rw (file_turn l count i all whole h) (both b b' b'' (shown_text l i) (lines_left l count (i + 1)) next next' n line rest)

pub put_end : (l : List ℕ) (count i : ℕ) (b : List ℕ) (next : ℕ) → count ≤ i → Put b next (lines_left l count i) next b
put_end l count i b next h = rw (file_end l count i h) (put_none b next)

-- ---- written

module _ (l b : List ℕ) where
  pub list_refused_lem : (r : ListRefusal) → check_list l ≡ Err r → Writes b (write_file l) (Err (refusal.List r)) b
  unfolding write_file
  list_refused_lem r e = rw e (refused_so b (refusal.List r))

  pub its_file : (r : Result ℕ Refusal) (b' : List ℕ) → check_list l ≡ Ok tt → Writes b (line_into (file_text l)) r b'
      → Writes b (write_file l) r b'
  unfolding write_file
  its_file r b' e w = rw e w
