-- Demand 1, a line for each public function of file_writer.
-- tools/promises makes this file from the contracts, and the gate holds it to them.
use Rattle.std.specs.Borrow.{Bor, MutBor}
use Rattle.std.specs.Prelude.{ℕ, List}
use contract.Lifetimes.{Lfts}
use Rattle.text.specs.Written.{left_with}
use Rattle.keeper_file.specs.FileText.{write_file}
use Rattle.file_writer.specs.Shown.{listed_text, shown_text}
use Rattle.file_writer.specs.contracts.put_listed as put_listed'
use Rattle.file_writer.specs.contracts.put_shown as put_shown'
use Rattle.file_writer.specs.contracts.write_file as write_file'
use Rattle.file_writer.proofs.put_listed.Reads as put_listed_reads
use Rattle.file_writer.proofs.put_shown.Reads as put_shown_reads
use Rattle.file_writer.proofs.write_file.Reads as write_file_reads
use Rattle.acceptance.specs.Promised.{BufferAnswers, LineAnswers}

pub record Promises : Type 0 where
  pub put_listed_one
      : (κs : Lfts 2) (buffer : MutBor (List ℕ)) (at : ℕ) (list : Bor (List ℕ)) (index : ℕ)
      → BufferAnswers put_listed'.signature κs (put_listed_reads.Pre κs) (put_listed_reads.Post κs)
      (buffer, (at, (list, (index, tt)))) (λ bytes. (left_with buffer bytes, (at, (list, (index, tt))))) buffer.now at
      (listed_text list.now index)
  pub put_shown_one
      : (κs : Lfts 2) (buffer : MutBor (List ℕ)) (at : ℕ) (list : Bor (List ℕ)) (index : ℕ)
      → BufferAnswers put_shown'.signature κs (put_shown_reads.Pre κs) (put_shown_reads.Post κs)
      (buffer, (at, (list, (index, tt)))) (λ bytes. (left_with buffer bytes, (at, (list, (index, tt))))) buffer.now at
      (shown_text list.now index)
  pub write_file_one
      : (κs : Lfts 2) (buffer : MutBor (List ℕ)) (list : Bor (List ℕ))
      → LineAnswers write_file'.signature κs (write_file_reads.Pre κs) (write_file_reads.Post κs)
      (buffer, (list, tt)) (λ bytes. (left_with buffer bytes, (list, tt))) buffer.now (write_file list.now)
