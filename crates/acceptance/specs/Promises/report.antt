-- Demand 1, a line for each public function of report.
-- tools/promises makes this file from the contracts, and the gate holds it to them.
use Rattle.std.specs.Borrow.{Bor, MutBor}
use Rattle.std.specs.Prelude.{ℕ, Bool, List, Result, ◌++◌}
use contract.Lifetimes.{Lfts}
use Rattle.refusals.specs.declared.PacketRefusal.{PacketRefusal}
use Rattle.text.specs.Decimal.{decimal, newline}
use Rattle.text.specs.Written.{left_with}
use Rattle.flow.specs.declared.Mode.{Mode}
use Rattle.packet_answer.specs.declared.PacketAnswer.{PacketAnswer}
use Rattle.report.specs.declared.Progress.{Progress}
use Rattle.report.specs.Pages.{first_page, first_page_in, page_after, page_after_in}
use Rattle.report.specs.Text.{answer_text}
use Rattle.report.specs.contracts.first_page as first_page'
use Rattle.report.specs.contracts.first_page_in as first_page_in'
use Rattle.report.specs.contracts.lines.put_answer as put_answer'
use Rattle.report.specs.contracts.lines.put_numbered as put_numbered'
use Rattle.report.specs.contracts.next_page as next_page'
use Rattle.report.specs.contracts.next_page_in as next_page_in'
use Rattle.report.proofs.first_page.Reads as first_page_reads
use Rattle.report.proofs.first_page_in.Reads as first_page_in_reads
use Rattle.report.proofs.lines.put_answer.Reads as put_answer_reads
use Rattle.report.proofs.lines.put_numbered.Reads as put_numbered_reads
use Rattle.report.proofs.next_page.Reads as next_page_reads
use Rattle.report.proofs.next_page_in.Reads as next_page_in_reads
use Rattle.acceptance.specs.Promised.{BufferAnswers, PageAnswers}

pub record Promises : Type 0 where
  pub first_page_in_one
      : (κs : Lfts 2) (bundle : Bor (List ℕ)) (longer : Bool) (page : MutBor (List ℕ)) (mode : Mode)
      → PageAnswers first_page_in'.signature κs (first_page_in_reads.Pre κs) (first_page_in_reads.Post κs)
      (bundle, (longer, (page, (mode, tt)))) (λ bytes. (bundle, (longer, (left_with page bytes, (mode, tt))))) page.now
      (first_page_in mode bundle.now longer)
  pub next_page_in_one
      : (κs : Lfts 2) (bundle : Bor (List ℕ)) (progress : Progress) (page : MutBor (List ℕ)) (mode : Mode)
      → PageAnswers next_page_in'.signature κs (next_page_in_reads.Pre κs) (next_page_in_reads.Post κs)
      (bundle, (progress, (page, (mode, tt)))) (λ bytes. (bundle, (progress, (left_with page bytes, (mode, tt))))) page.now
      (page_after_in mode bundle.now progress)
  pub first_page_one
      : (κs : Lfts 2) (bundle : Bor (List ℕ)) (longer : Bool) (page : MutBor (List ℕ))
      → PageAnswers first_page'.signature κs (first_page_reads.Pre κs) (first_page_reads.Post κs)
      (bundle, (longer, (page, tt))) (λ bytes. (bundle, (longer, (left_with page bytes, tt)))) page.now (first_page bundle.now longer)
  pub next_page_one
      : (κs : Lfts 2) (bundle : Bor (List ℕ)) (progress : Progress) (page : MutBor (List ℕ))
      → PageAnswers next_page'.signature κs (next_page_reads.Pre κs) (next_page_reads.Post κs)
      (bundle, (progress, (page, tt))) (λ bytes. (bundle, (progress, (left_with page bytes, tt)))) page.now (page_after bundle.now progress)
  pub put_numbered_one
      : (κs : Lfts 2) (page : MutBor (List ℕ)) (at : ℕ) (word : Bor (List ℕ)) (n : ℕ)
      → BufferAnswers put_numbered'.signature κs (put_numbered_reads.Pre κs) (put_numbered_reads.Post κs)
      (page, (at, (word, (n, tt)))) (λ bytes. (left_with page bytes, (at, (word, (n, tt))))) page.now at (word.now ++ decimal n ++ newline)
  pub put_answer_one
      : (κs : Lfts 1) (page : MutBor (List ℕ)) (at : ℕ) (answer : Result PacketAnswer PacketRefusal)
      → BufferAnswers put_answer'.signature κs (put_answer_reads.Pre κs) (put_answer_reads.Post κs)
      (page, (at, (answer, tt))) (λ bytes. (left_with page bytes, (at, (answer, tt)))) page.now at (answer_text answer)
