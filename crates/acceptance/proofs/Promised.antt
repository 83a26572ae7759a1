-- A line of demand 1, from its parts: nothing is asked, the uniqueness theorem, whose promise says which result it is, and what can be
-- written.
use mathlib.Core.Path.{◌≡◌, refl, ap₂}
use mathlib.Core.List.{List, [], ◌∷◌}
use Prim.Native.Nat.{ℕ, ◌+◌}
use lib.ListN.{length}
use contract.Lifetimes.{Lfts}
use denote.Ref.{Bor}
use denote.Signature as kit
use Rattle.basis.specs.Unique.{ExactlyOne}
use Rattle.text.specs.Written.{written, room, Lined}
use Rattle.report.specs.declared.Progress.{Progress}
use Rattle.report.specs.Pages.{Page, progress_of}
use Rattle.acceptance.specs.Lent.{writable}
use Rattle.acceptance.specs.Promised.{Answers, PartAnswers, PageAnswers, BufferAnswers, LineAnswers}

-- A result and the bytes that a page or a buffer is left with.
paired : {R : Type 0} {r r' : R} {t t' : List ℕ} → (r ≡ r') × (t ≡ t') → ◌≡◌ {A = R × List ℕ} (r, t) (r', t')
paired {R = R} e = ap₂ (λ (r : R) (t : List ℕ). (r, t)) e.0 e.1

module _ {A : Type 0} {signature : kit.Signature} {κs : Lfts signature.lifetimes} {pre : A → Type 0} {a : A} where
  pub answered
      : {R : Type 0} {post : A → R → A → Type 0} {d : R}
      → pre a
      → (u : ExactlyOne R (λ (r : R). post a r a))
      → (post a u.the a → u.the ≡ d)
      → writable signature κs ≡ []
      → Answers signature κs pre post a d
  answered asked u says lent = record { asks_nothing = asked; one = u; is = says u.meets; only_reads = lent }

  -- Of some part of the bytes that are the one answer it is said that they are.
  pub part_answered
      : {post : A → Bor (List ℕ) → A → Type 0} {d : List ℕ}
      → pre a
      → (u : ExactlyOne (List ℕ) (λ (v : List ℕ). (r : Bor (List ℕ)) → r.now ≡ v → post a r a))
      → (lent : Bor (List ℕ))
      → ((r : Bor (List ℕ)) → post a r a → r.now ≡ d)
      → writable signature κs ≡ []
      → PartAnswers signature κs pre post a d
  part_answered asked u lent says reads =
      let r : Bor (List ℕ) = record { ref_ptr = lent.ref_ptr; now = u.the } in
      record { asks_nothing = asked; one = u; is = says r (u.meets r refl); no_other = says; only_reads = reads }

  pub page_answered
      : {E : Type 0} {post : A → Progress → E → Type 0} {exit : List ℕ → E} {page : List ℕ} {p : Page}
      → pre a
      → (u : ExactlyOne (Progress × List ℕ) (λ (r : Progress × List ℕ). post a r.0 (exit r.1)))
      → (post a u.the.0 (exit u.the.1) → (u.the.0 ≡ progress_of p) × (u.the.1 ≡ written page 0 p.text))
      → writable signature κs ≡ 2 ∷ []
      → PageAnswers signature κs pre post a exit page p
  page_answered asked u says lent = record { asks_nothing = asked; one = u; is = paired (says u.meets); writes_the_page = lent }

  pub buffer_answered
      : {E : Type 0} {post : A → ℕ → E → Type 0} {exit : List ℕ → E} {buffer : List ℕ} {at : ℕ} {text : List ℕ}
      → pre a
      → (u : ExactlyOne (ℕ × List ℕ) (λ (r : ℕ × List ℕ). post a r.0 (exit r.1)))
      → (post a u.the.0 (exit u.the.1)
      → (u.the.0 ≡ at + length (room buffer at text)) × (u.the.1 ≡ written buffer at (room buffer at text)))
      → writable signature κs ≡ 0 ∷ []
      → BufferAnswers signature κs pre post a exit buffer at text
  buffer_answered asked u says lent = record { asks_nothing = asked; one = u; is = paired (says u.meets); writes_the_buffer = lent }

  pub line_answered
      : {E R : Type 0} {post : A → R → E → Type 0} {exit : List ℕ → E} {buffer : List ℕ} {writing : ℕ → Lined R}
      → pre a
      → (u : ExactlyOne (R × List ℕ) (λ (r : R × List ℕ). post a r.0 (exit r.1)))
      → (post a u.the.0 (exit u.the.1)
      → (u.the.0 ≡ (writing (length buffer)).answer) × (u.the.1 ≡ written buffer 0 (writing (length buffer)).line))
      → writable signature κs ≡ 0 ∷ []
      → LineAnswers signature κs pre post a exit buffer writing
  line_answered asked u says lent = record { asks_nothing = asked; one = u; is = paired (says u.meets); writes_the_buffer = lent }
