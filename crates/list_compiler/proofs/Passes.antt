-- What a pass over the signature lines of a file has after one more of them; and what the passes give together, in the words of the file.
use Prim.Native.Nat.{ℕ, ◌+◌, ◌<◌, ◌≤◌}
use mathlib.Core.Path.{◌≡◌, refl, ap}
use mathlib.Core.List.{List, [], ◌∷◌}
use borrow.Author.Tests.{lt-ltb, le-ltb}
use Rattle.std.specs.Prelude.{Ok, Err, map}
use Rattle.text.specs.Written.{Put}
use Rattle.text.proofs.Writing.{both, put_none}
use Rattle.refusals.specs.declared.Refusal.TheVariants as refusal
use Rattle.signature_line.specs.declared.BadLine.{BadLine}
use Rattle.signature_line.specs.declared.SignatureRead.{SignatureRead}
use Rattle.signature_line.specs.Meaning.{layout_of}
use Rattle.signature_line.specs.OneRecord.{entries_in}
use Rattle.keeper_file.specs.Compiling.{refused, bad_or, first_bad, most_signatures, most_entries, meanings, tallied_from}
use Rattle.keeper_file.specs.KeptReader.{read_kept, meaning_read}
use Rattle.keeper_file.specs.Lines.{Numbered}
use Rattle.keeper_file.specs.ListText.{entry_total, entries_text, placed_at, records_text}
use Rattle.list_compiler.specs.declared.lines.Line.{Line}
use Rattle.list_compiler.specs.FileLines.{line_of}
use Rattle.list_compiler.specs.FileParts.{check_of, tally_of, meanings_of}

pub check_same : (lines : List Numbered) → check_of (map line_of lines) ≡ first_bad lines
unfolding check_of first_bad
check_same [] = refl
check_same (line ∷ lines) = ap (bad_or (read_kept line.text) line.number) (check_same lines)

pub tally_same
    : (signatures entries : ℕ) (lines : List Numbered)
    → tally_of signatures entries (map line_of lines) ≡ tallied_from signatures entries lines
unfolding tally_of tallied_from
tally_same signatures entries [] = refl
tally_same signatures entries (line ∷ lines) =
    rw (tally_same (signatures + 1) (entries + (meaning_read (read_kept line.text)).layout.count) lines)

pub meanings_same : (lines : List Numbered) → meanings_of (map line_of lines) ≡ meanings lines
unfolding meanings
meanings_same [] = refl
meanings_same (line ∷ lines) = rw (meanings_same lines)

-- ---- one more line, and no more

module _ {lines rest : List Line} {line : Line} (next : lines ≡ line ∷ rest) where
  pub check_bad : {bad : BadLine} → line.read ≡ Err bad → refused line.number (refusal.BadLine bad.offset) ≡ check_of lines
  unfolding check_of
  check_bad e = rw (next, e)

  module _ (signatures entries n : ℕ) (n-is : n ≡ (meaning_read line.read).layout.count) where
    pub too_many_signatures
        : most_signatures < signatures + 1 → refused line.number refusal.TooManySignatures ≡ tally_of signatures entries lines
    unfolding tally_of
    too_many_signatures h = rw (next, lt-ltb most_signatures (signatures + 1) h)

    pub too_many_entries
        : signatures + 1 ≤ most_signatures → most_entries < entries + n
        → refused line.number refusal.TooManyEntries ≡ tally_of signatures entries lines
    unfolding tally_of
    too_many_entries few h =
        rw (next, ← n-is, le-ltb most_signatures (signatures + 1) few, lt-ltb most_entries (entries + n) h)

    pub counts_on
        : signatures + 1 ≤ most_signatures → entries + n ≤ most_entries
        → tally_of (signatures + 1) (entries + n) rest ≡ tally_of signatures entries lines
    unfolding tally_of
    counts_on few small =
        rw (next, ← n-is, le-ltb most_signatures (signatures + 1) few, le-ltb most_entries (entries + n) small)

  -- A line that is refused has no entries.
  pub none_put
      : {bad : BadLine} (b b' : List ℕ) (at n : ℕ) → line.read ≡ Err bad → Put b at (entries_text (meanings_of rest)) n b'
      → Put b at (entries_text (meanings_of lines)) n b'
  unfolding entries_text entries_in layout_of
  none_put b b' at n e put = rw (next, e) put

  module _ {read : SignatureRead} (read_is : line.read ≡ Ok read) where
    pub check_good : check_of rest ≡ check_of lines
    unfolding check_of
    check_good = rw (next, read_is)

    pub total_on : entry_total (meanings_of lines) ≡ read.layout.count + entry_total (meanings_of rest)
    unfolding entry_total
    total_on = rw (next, read_is)

    module _ (b b' b'' : List ℕ) (at at' n : ℕ) where
      pub entries_put
          : Put b at (entries_in read.layout) at' b' → Put b' at' (entries_text (meanings_of rest)) n b''
          → Put b at (entries_text (meanings_of lines)) n b''
      unfolding entries_text
      entries_put first second = rw (next, read_is) (both b b' b'' _ _ at at' n first second)

      pub records_put
          : (k : ℕ) → Put b at (placed_at k read.raw) at' b'
          → Put b' at' (records_text (k + read.layout.count) (meanings_of rest)) n b''
          → Put b at (records_text k (meanings_of lines)) n b''
      unfolding records_text
      records_put k first second = rw (next, read_is) (both b b' b'' _ _ at at' n first second)

module _ {lines : List Line} (end : lines ≡ []) where
  pub all_good : Ok tt ≡ check_of lines
  unfolding check_of
  all_good = rw end

  pub all_counted
      : (signatures entries : ℕ)
      → Ok (record { signatures = signatures; entries = entries }) ≡ tally_of signatures entries lines
  unfolding tally_of
  all_counted signatures entries = rw end

  pub no_entries : (b : List ℕ) (at : ℕ) → Put b at (entries_text (meanings_of lines)) at b
  unfolding entries_text
  no_entries b at = rw end (put_none b at)

  pub no_records : (k : ℕ) (b : List ℕ) (at : ℕ) → Put b at (records_text k (meanings_of lines)) at b
  unfolding records_text
  no_records k b at = rw end (put_none b at)
