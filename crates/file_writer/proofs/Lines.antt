-- A record of a list as a line of a file: what is put, how long it is at most, and that it is the keeper's line in a good list.
use Rattle.std.specs.Prelude.{Result, Ok, Err}
use Prim.Native.Nat.{ℕ, ◌<◌, ◌≤◌}
use mathlib.Core.Path.{◌≡◌, refl, sym, ◌∙◌, ap}
use mathlib.Core.Bool.{Bool, true, false, cond}
use mathlib.Core.List.{List, [], ◌∷◌, ◌++◌, append_assoc}
use native.Mathlib.Nat.{sub-zero}
use native.Mathlib.Omega.{arith}
use lib.Dec.{ltb}
use lib.ListN.{length, take, length-append}
use borrow.Author.Tests.{lt-ltb, le-ltb}
use Rattle.basis.specs.Ascii.{ascii}
use Rattle.basis.specs.Bytes.{AllBytes}
use Rattle.text.specs.Decimal.{newline, decimal}
use Rattle.text.specs.Written.{Put, Lined, Writes}
use Rattle.text.proofs.Decimal.{decimal_length}
use Rattle.text.proofs.Writing.{put_all, both}
use Rattle.refusals.specs.declared.Refusal.{Refusal}
use Rattle.sigrecord.specs.Record.{label_of, is_generic}
use Rattle.siglist.specs.declared.Areas.{Areas}
use Rattle.siglist.specs.List.{record_count, list_fits, size_of, AreasFit, record_at, record_of, check_list}
use Rattle.siglist.proofs.FirstBad.{good_fits, each_good}
use Rattle.siglist.proofs.List.{list_fits_lem, record_of_list}
use Rattle.written_line.specs.LineText.{record_text}
use Rattle.written_line.specs.Writing.{line_into, listed_line}
use Rattle.written_line.proofs.EveryRecord.{record_length_lem}
use Rattle.written_line.proofs.Listed.{listed_good}
use Rattle.written_line.proofs.OwnBuffer.{listed_sized, line_within, the_line, no_line}
use Rattle.keeper_file.specs.FileText.{head_text, kept_text}
use Rattle.keeper_file.specs.KeptLine.{blank}
use Rattle.file_writer.specs.Shown.{listed_text, shown_text}

-- ---- the head

module _ (b b₁ b₂ raw : List ℕ) (at n₁ n₂ label : ℕ) (named : label ≡ label_of raw) where
  pub head_plain : is_generic raw ≡ false → Put b at (decimal label) n₁ b₁ → Put b₁ n₁ (32 ∷ []) n₂ b₂ → Put b at (head_text raw) n₂ b₂
  unfolding head_text
  head_plain e number space = rw (e, ← named) (both b b₁ b₂ _ _ at n₁ n₂ number space)

  pub head_generic
      : (b₃ : List ℕ) (n₃ : ℕ) → is_generic raw ≡ true → Put b at (decimal label) n₁ b₁ → Put b₁ n₁ (32 ∷ []) n₂ b₂
      → Put b₂ n₂ (103 ∷ 32 ∷ []) n₃ b₃
      → Put b at (head_text raw) n₃ b₃
  unfolding head_text
  head_generic b₃ n₃ e number space mark =
      rw (e, ← named) (both b b₁ b₃ _ _ at n₁ n₃ number (both b₁ b₂ b₃ (32 ∷ []) _ n₁ n₂ n₃ space mark))

head_short : (raw : List ℕ) → length (head_text raw) ≤ 8
unfolding head_text
head_short raw = by (is_generic raw)
  where
    by : (t : Bool) → length (decimal (label_of raw) ++ blank ∷ cond t (ascii "g ") []) ≤ 8
    by true = simp length-append (omega (arith, decimal_length (label_of raw)))
    by false = simp length-append (omega (arith, decimal_length (label_of raw)))

-- ---- the record's line, in a buffer of its own

pub listed_short : (l : List ℕ) (i : ℕ) → length (listed_text l i) ≤ 434
unfolding listed_text
listed_short l i = (listed_sized l i 434).within

module _
    (l line line' : List ℕ) (i : ℕ) (r : Result ℕ Refusal) (whole : length line ≡ 434) (writes : Writes line (listed_line l i) r line')
  where
    pub listed_within : (n : ℕ) → r ≡ Ok n → n ≤ length line'
    listed_within = line_within (listed_line l i) 434 (listed_sized l i 434) line line' r whole writes

    pub listed_line_lem : (n : ℕ) → r ≡ Ok n → take n line' ≡ listed_text l i
    unfolding listed_text
    listed_line_lem n e =
        rw (sub-zero n) at (the_line (listed_line l i) 434 (listed_sized l i 434) line line' r whole writes n e)

    pub none_listed : (x : Refusal) → r ≡ Err x → listed_text l i ≡ []
    unfolding listed_text
    none_listed = no_line (listed_line l i) 434 (listed_sized l i 434) line line' r whole writes

-- ---- the whole line

module _ (l : List ℕ) (i : ℕ) where
  pub no_areas : list_fits l ≡ false → shown_text l i ≡ []
  unfolding shown_text
  no_areas e = rw (e, le-ltb i 0 (omega arith))

  pub past_the_last : record_count l ≤ i → shown_text l i ≡ []
  unfolding shown_text
  past_the_last h = rw (le-ltb i (size_of l) (by (list_fits l)))
    where
      by : (t : Bool) → cond t (record_count l) 0 ≤ i
      by true = h
      by false = omega arith

  shown_there
      : list_fits l ≡ true → i < record_count l → shown_text l i ≡ head_text (record_at l i) ++ (listed_text l i ++ newline)
  unfolding shown_text
  shown_there e h = rw (e, lt-ltb i (record_count l) h)

  pub shown_short : length (shown_text l i) ≤ 443
  unfolding shown_text
  shown_short = by (ltb i (size_of l))
    where
      by : (t : Bool) → length (cond t (head_text (record_at l i) ++ (listed_text l i ++ newline)) []) ≤ 443
      by true = simp length-append (omega (arith, head_short (record_at l i), listed_short l i))
      by false = omega arith

  -- In a good list it is the keeper's line.
  pub shown_good : check_list l ≡ Ok tt → i < record_count l → AllBytes l → shown_text l i ≡ kept_text l i ++ newline
  unfolding listed_text kept_text line_into
  shown_good e h all =
      let short = record_length_lem l i all (good_fits l e) (each_good l i e h) in
      let line : listed_text l i ≡ record_text l i =
      ap (λ (x : Lined (Result ℕ Refusal)). x.line) (listed_good l i 434 e h)
      ∙ rw (le-ltb 434 (length (record_text l i)) short) refl in
      shown_there (good_fits l e) h
      ∙ ap (λ (s : List ℕ). head_text (record_at l i) ++ (s ++ newline)) line
      ∙ sym (append_assoc (head_text (record_at l i)) (record_text l i) newline)

  -- By the numbers of the list's own header, one part behind the other.
  pub shown_put
      : (a : Areas) (raw b b₁ b₂ b₃ : List ℕ) (at n₁ n₂ n₃ : ℕ) → AreasFit l a → i < a.records → raw ≡ record_of l a i
      → Put b at (head_text raw) n₁ b₁
      → Put b₁ n₁ (listed_text l i) n₂ b₂
      → Put b₂ n₂ newline n₃ b₃
      → Put b at (shown_text l i) n₃ b₃
  shown_put a raw b b₁ b₂ b₃ at n₁ n₂ n₃ fits inside raw-is head line end =
      rw (
        shown_there (list_fits_lem l a fits) (omega (arith, inside, fits.records)),
        ← (raw-is ∙ record_of_list l a i fits inside),
      )
      (both b b₁ b₃ _ _ at n₁ n₃ head (both b₁ b₂ b₃ _ _ n₁ n₂ n₃ line end))

  -- A buffer that is long enough has all of it.
  pub shown_counted : (b b' : List ℕ) (n : ℕ) → length b ≡ 443 → Put b 0 (shown_text l i) n b' → n ≡ length (shown_text l i)
  shown_counted b b' n whole put = omega (arith, (put_all b b' (shown_text l i) 0 n (omega (arith, whole, shown_short)) put).0)
