-- What a line of demand 1 says of a function.
use Rattle.std.specs.Prelude.{◌≡◌, List, [], ◌∷◌, ℕ, ◌+◌, length}
use contract.Lifetimes.{Lfts}
use Rattle.std.specs.Borrow.{Bor}
use denote.Signature as kit
use Rattle.basis.specs.Unique.{ExactlyOne}
use Rattle.text.specs.Written.{written, room, Lined}
use Rattle.report.specs.declared.Progress.{Progress}
use Rattle.report.specs.Pages.{Page, progress_of}
use Rattle.acceptance.specs.Lent.{writable}

-- On these arguments nothing is asked of the caller, exactly one result meets the promise (`post`, of the arguments at entry, the result
-- and the arguments at exit), and it is this one. "All inputs are read only": by the function's signature, which the kit holds to its
-- code, no parameter can be written through.
pub record Answers
    {A R : Type 0} (signature : kit.Signature) (κs : Lfts signature.lifetimes)
    (pre : A → Type 0) (post : A → R → A → Type 0) (arguments : A) (result : R)
    : Type 0
  where
    pub asks_nothing : pre arguments
    pub one : ExactlyOne R (λ (r : R). post arguments r arguments)
    pub is : one.the ≡ result
    pub only_reads : writable signature κs ≡ []

-- A function that gives back a part of what it is lent: exactly one row of bytes, lent from wherever, meets its contract, and whatever
-- meets it is a part of these bytes.
pub record PartAnswers
    {A : Type 0} (signature : kit.Signature) (κs : Lfts signature.lifetimes)
    (pre : A → Type 0) (post : A → Bor (List ℕ) → A → Type 0) (arguments : A) (result : List ℕ)
    : Type 0
  where
    pub asks_nothing : pre arguments
    pub one : ExactlyOne (List ℕ) (λ (v : List ℕ). (r : Bor (List ℕ)) → r.now ≡ v → post arguments r arguments)
    pub is : one.the ≡ result
    pub no_other : (r : Bor (List ℕ)) → post arguments r arguments → r.now ≡ result
    pub only_reads : writable signature κs ≡ []

-- A function that fills a page of the caller's, its parameter 2, counted from 0, and no other: exactly one result and one content of the
-- page meet its contract. Of the page, what is not the text is as it was.
pub record PageAnswers
    {A E : Type 0} (signature : kit.Signature) (κs : Lfts signature.lifetimes)
    (pre : A → Type 0) (post : A → Progress → E → Type 0) (arguments : A) (exit : List ℕ → E) (page : List ℕ) (p : Page)
    : Type 0
  where
    pub asks_nothing : pre arguments
    pub one : ExactlyOne (Progress × List ℕ) (λ (r : Progress × List ℕ). post arguments r.0 (exit r.1))
    pub is : one.the ≡ (progress_of p, written page 0 p.text)
    pub writes_the_page : writable signature κs ≡ 2 ∷ []

-- A function that puts a text into a buffer of the caller's, its parameter 0, and writes to no other: exactly one place and one content of
-- the buffer meet its contract. Of the buffer, what is not the text, as much of it as finds room, is as it was.
pub record BufferAnswers
    {A E : Type 0} (signature : kit.Signature) (κs : Lfts signature.lifetimes)
    (pre : A → Type 0) (post : A → ℕ → E → Type 0) (arguments : A) (exit : List ℕ → E) (buffer : List ℕ) (at : ℕ) (text : List ℕ)
    : Type 0
  where
    pub asks_nothing : pre arguments
    pub one : ExactlyOne (ℕ × List ℕ) (λ (r : ℕ × List ℕ). post arguments r.0 (exit r.1))
    pub is : one.the ≡ (at + length (room buffer at text), written buffer at (room buffer at text))
    pub writes_the_buffer : writable signature κs ≡ 0 ∷ []

-- A function that writes a line from the start of a buffer of the caller's, its parameter 0, and writes to no other: exactly one answer and
-- one content of the buffer meet its contract. Past the line the buffer is as it was; beside a refusal, all of it.
pub record LineAnswers
    {A E R : Type 0} (signature : kit.Signature) (κs : Lfts signature.lifetimes)
    (pre : A → Type 0) (post : A → R → E → Type 0) (arguments : A) (exit : List ℕ → E) (buffer : List ℕ) (writing : ℕ → Lined R)
    : Type 0
  where
    pub asks_nothing : pre arguments
    pub one : ExactlyOne (R × List ℕ) (λ (r : R × List ℕ). post arguments r.0 (exit r.1))
    pub is : one.the ≡ ((writing (length buffer)).answer, written buffer 0 (writing (length buffer)).line)
    pub writes_the_buffer : writable signature κs ≡ 0 ∷ []
