-- Exactly one result meets each public function's own contract.
-- tools/promises makes this file from the contracts, and the gate holds it to them.
use Rattle.std.specs.Borrow.{Bor, MutBor}
use Rattle.std.specs.Prelude.{ℕ, Bool, List, Result}
use contract.Lifetimes.{Lfts}
use Rattle.basis.specs.Unique.{ExactlyOne}
use Rattle.basis.proofs.Unique.{both}
use Rattle.refusals.specs.declared.PacketRefusal.{PacketRefusal}
use Rattle.text.specs.Written.{left_with}
use Rattle.flow.specs.declared.Mode.{Mode}
use Rattle.packet_answer.specs.declared.PacketAnswer.{PacketAnswer}
use Rattle.report.specs.declared.Progress.{Progress}
use Rattle.report.proofs.first_page.Reads as first_page'
use Rattle.report.proofs.first_page_in.Reads as first_page_in'
use Rattle.report.proofs.lines.put_answer.Reads as put_answer'
use Rattle.report.proofs.lines.put_numbered.Reads as put_numbered'
use Rattle.report.proofs.next_page.Reads as next_page'
use Rattle.report.proofs.next_page_in.Reads as next_page_in'

pub first_page_in_one
    : (κs : Lfts 2) (bundle : Bor (List ℕ)) (longer : Bool) (page : MutBor (List ℕ)) (mode : Mode)
    → ExactlyOne (Progress × List ℕ)
    (λ (r : Progress × List ℕ). first_page_in'.Post κs (bundle, (longer, (page, (mode, tt)))) r.0
    (bundle, (longer, (left_with page r.1, (mode, tt)))))
first_page_in_one κs bundle longer page mode = both _ _

pub next_page_in_one
    : (κs : Lfts 2) (bundle : Bor (List ℕ)) (progress : Progress) (page : MutBor (List ℕ)) (mode : Mode)
    → ExactlyOne (Progress × List ℕ)
    (λ (r : Progress × List ℕ). next_page_in'.Post κs (bundle, (progress, (page, (mode, tt)))) r.0
    (bundle, (progress, (left_with page r.1, (mode, tt)))))
next_page_in_one κs bundle progress page mode = both _ _

pub first_page_one
    : (κs : Lfts 2) (bundle : Bor (List ℕ)) (longer : Bool) (page : MutBor (List ℕ))
    → ExactlyOne (Progress × List ℕ)
    (λ (r : Progress × List ℕ). first_page'.Post κs (bundle, (longer, (page, tt))) r.0 (bundle, (longer, (left_with page r.1, tt))))
first_page_one κs bundle longer page = both _ _

pub next_page_one
    : (κs : Lfts 2) (bundle : Bor (List ℕ)) (progress : Progress) (page : MutBor (List ℕ))
    → ExactlyOne (Progress × List ℕ)
    (λ (r : Progress × List ℕ). next_page'.Post κs (bundle, (progress, (page, tt))) r.0 (bundle, (progress, (left_with page r.1, tt))))
next_page_one κs bundle progress page = both _ _

pub put_numbered_one
    : (κs : Lfts 2) (page : MutBor (List ℕ)) (at : ℕ) (word : Bor (List ℕ)) (n : ℕ)
    → ExactlyOne (ℕ × List ℕ)
    (λ (r : ℕ × List ℕ). put_numbered'.Post κs (page, (at, (word, (n, tt)))) r.0 (left_with page r.1, (at, (word, (n, tt)))))
put_numbered_one κs page at word n = both _ _

pub put_answer_one
    : (κs : Lfts 1) (page : MutBor (List ℕ)) (at : ℕ) (answer : Result PacketAnswer PacketRefusal)
    → ExactlyOne (ℕ × List ℕ)
    (λ (r : ℕ × List ℕ). put_answer'.Post κs (page, (at, (answer, tt))) r.0 (left_with page r.1, (at, (answer, tt))))
put_answer_one κs page at answer = both _ _
