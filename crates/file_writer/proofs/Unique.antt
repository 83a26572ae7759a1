-- Exactly one result meets each public function's own contract.
-- tools/promises makes this file from the contracts, and the gate holds it to them.
use Rattle.std.specs.Borrow.{Bor, MutBor}
use Rattle.std.specs.Prelude.{ℕ, List, Result}
use contract.Lifetimes.{Lfts}
use Rattle.basis.specs.Unique.{ExactlyOne}
use Rattle.basis.proofs.Unique.{both}
use Rattle.refusals.specs.declared.Refusal.{Refusal}
use Rattle.text.specs.Written.{left_with}
use Rattle.file_writer.proofs.put_listed.Reads as put_listed'
use Rattle.file_writer.proofs.put_shown.Reads as put_shown'
use Rattle.file_writer.proofs.write_file.Reads as write_file'

pub put_listed_one
    : (κs : Lfts 2) (buffer : MutBor (List ℕ)) (at : ℕ) (list : Bor (List ℕ)) (index : ℕ)
    → ExactlyOne (ℕ × List ℕ)
    (λ (r : ℕ × List ℕ). put_listed'.Post κs (buffer, (at, (list, (index, tt)))) r.0 (left_with buffer r.1, (at, (list, (index, tt)))))
put_listed_one κs buffer at list index = both _ _

pub put_shown_one
    : (κs : Lfts 2) (buffer : MutBor (List ℕ)) (at : ℕ) (list : Bor (List ℕ)) (index : ℕ)
    → ExactlyOne (ℕ × List ℕ)
    (λ (r : ℕ × List ℕ). put_shown'.Post κs (buffer, (at, (list, (index, tt)))) r.0 (left_with buffer r.1, (at, (list, (index, tt)))))
put_shown_one κs buffer at list index = both _ _

pub write_file_one
    : (κs : Lfts 2) (buffer : MutBor (List ℕ)) (list : Bor (List ℕ))
    → ExactlyOne ((Result ℕ Refusal) × List ℕ)
    (λ (r : (Result ℕ Refusal) × List ℕ). write_file'.Post κs (buffer, (list, tt)) r.0 (left_with buffer r.1, (list, tt)))
write_file_one κs buffer list = both _ _
