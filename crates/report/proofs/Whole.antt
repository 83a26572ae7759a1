-- The pages, one after the other, are the whole output.
use Rattle.std.specs.Prelude.{Result, Ok, Err}
use mathlib.Core.Path.{◌≡◌, refl, ◌∙◌, ap}
use mathlib.Core.Bool.{Bool, true, false}
use mathlib.Core.List.{List, ◌++◌, append_assoc, append-nil}
use Prim.Native.Nat.{ℕ, zero, suc, ◌+◌, ◌≤◌}
use native.Mathlib.Omega.{arith}
use lib.Dec.{leb}
use lib.ListN.{length, length-append}
use borrow.Author.Tests.{leb-true}
use Rattle.refusals.specs.declared.Refusal.TheVariants as refusal
use Rattle.refusals.specs.Refusals.{number}
use Rattle.bundle.specs.declared.BundleRefusal.{BundleRefusal}
use Rattle.bundle.specs.declared.BundleRefusal.TheVariants as check
use Rattle.bundle.specs.Bundle.{packet_count, packets_offset, packet_end, as_refusal, check_bundle}
use Rattle.flow.specs.declared.Mode.{Mode}
use Rattle.bundle.specs.Answers.{answer_at, packet_lies, answers_from, after_bundle_check, bundle_answer}
use Rattle.report.specs.Text.{packets_word, refused_word, line_of, head_line, refused_line}
use Rattle.report.specs.declared.Progress.{Progress}
use Rattle.text.proofs.Writing.{written_length}
use Rattle.report.proofs.Writing.{line_length, numbered_length}
use Rattle.report.specs.Pages.{Page, Paged, page_size, page_from, first_of, first_page_in, next_page_in, later_pages, all_pages}
use Rattle.report.specs.Pages.{lines_of, text_of, output_in, output_of_input_in}

-- The lines of the packets that a page leaves.
abbrev rest : Mode → List ℕ → Page → List ℕ
rest mode b p = lines_of (answers_from mode b p.at p.left)

-- A page's text, and the lines of what it leaves, are the lines of what it was given.
pub page_and_rest
    : (mode : Mode) (b : List ℕ) (filled at n : ℕ)
    → (page_from mode b filled at n).text ++ rest mode b (page_from mode b filled at n) ≡ lines_of (answers_from mode b at n)
unfolding page_from answers_from lines_of
page_and_rest mode b filled at zero = refl
page_and_rest mode b filled at (suc n) =
    by_tests (leb (filled + 19) page_size) refl (packet_lies b at) refl
    (page_and_rest mode b (filled + length (line_of (answer_at mode b at))) (packet_end b at) n)
  where
    next : Page
    next = page_from mode b (filled + length (line_of (answer_at mode b at))) (packet_end b at) n

    by_tests
        : (t : Bool)
        → leb (filled + 19) page_size ≡ t
        → (u : Bool)
        → packet_lies b at ≡ u
        → next.text ++ rest mode b next ≡ lines_of (answers_from mode b (packet_end b at) n)
        → (page_from mode b filled at (suc n)).text ++ rest mode b (page_from mode b filled at (suc n))
        ≡ lines_of (answers_from mode b at (suc n))
    by_tests false e u f ih = rw e
    by_tests true e false f ih = rw (e, f)
    by_tests true e true f ih =
        rw (e, f)
        (append_assoc (line_of (answer_at mode b at)) next.text (rest mode b next)
        ∙ ap (λ (t : List ℕ). line_of (answer_at mode b at) ++ t) ih)

-- A page leaves no more packets than it was given, and fewer if a line finds room.
left_at_most : (mode : Mode) (b : List ℕ) (filled at n : ℕ) → (page_from mode b filled at n).left ≤ n
unfolding page_from
left_at_most mode b filled at zero = omega arith
left_at_most mode b filled at (suc n) =
    by_tests (leb (filled + 19) page_size) refl (packet_lies b at) refl
    (left_at_most mode b (filled + length (line_of (answer_at mode b at))) (packet_end b at) n)
  where
    by_tests
        : (t : Bool)
        → leb (filled + 19) page_size ≡ t
        → (u : Bool)
        → packet_lies b at ≡ u
        → (page_from mode b (filled + length (line_of (answer_at mode b at))) (packet_end b at) n).left ≤ n
        → (page_from mode b filled at (suc n)).left ≤ suc n
    by_tests false e u f ih = rw e (omega arith)
    by_tests true e false f ih = rw (e, f) (omega arith)
    by_tests true e true f ih = rw (e, f) (omega arith)

left_fewer : (mode : Mode) (b : List ℕ) (at n : ℕ) → (page_from mode b 0 at (suc n)).left ≤ n
unfolding page_from
left_fewer mode b at n = by_test (packet_lies b at) refl
  where
    by_test : (u : Bool) → packet_lies b at ≡ u → (page_from mode b 0 at (suc n)).left ≤ n
    by_test false f = rw f (omega arith)
    by_test true f =
        rw f
        (left_at_most mode b (0 + length (line_of (answer_at mode b at))) (packet_end b at) n)

-- As many pages as packets are left, or more, hold all their lines.
pub later_pages_lem
    : (mode : Mode) (b : List ℕ) (pages left at : ℕ)
    → left ≤ pages
    → later_pages mode b pages left at ≡ lines_of (answers_from mode b at left)
unfolding later_pages answers_from lines_of
later_pages_lem mode b zero zero at h = refl
later_pages_lem mode b zero (suc left) at h = absurd (omega arith)
later_pages_lem mode b (suc pages) zero at h =
    let p = page_from mode b 0 at 0 in
    ap (λ (t : List ℕ). p.text ++ t) (later_pages_lem mode b pages p.left p.at (omega (arith, left_at_most mode b 0 at 0)))
    ∙ page_and_rest mode b 0 at 0
later_pages_lem mode b (suc pages) (suc left) at h =
    let p = page_from mode b 0 at (suc left) in
    ap (λ (t : List ℕ). p.text ++ t) (later_pages_lem mode b pages p.left p.at (omega (arith, left_fewer mode b at left)))
    ∙ page_and_rest mode b 0 at (suc left)

-- The first page, and the lines of what it leaves.
first_and_rest
    : (mode : Mode) (b : List ℕ) (longer : Bool)
    → (first_page_in mode b longer).text ++ rest mode b (first_page_in mode b longer) ≡ output_of_input_in mode b longer
unfolding first_page_in output_of_input_in output_in bundle_answer answers_from lines_of
first_and_rest mode b true = append-nil (refused_line (number refusal.BundleDoesNotFit))
first_and_rest mode b false = by_check (check_bundle b)
  where
    by_check
        : (c : Result (Unit {0}) BundleRefusal)
        → (first_of mode c b).text ++ rest mode b (first_of mode c b)
        ≡ text_of (after_bundle_check mode c b).check (packet_count b) (after_bundle_check mode c b).answers
    by_check (Ok tt) =
        let n = packet_count b in
        append_assoc (head_line n) _ _
        ∙ ap (λ (t : List ℕ). head_line n ++ t) (page_and_rest mode b (length (head_line n)) (packets_offset b) n)
    by_check (Err r) = append-nil (refused_line (number (as_refusal r)))

-- What a program writes that follows the pages is the output: nothing is lost, doubled or moved.
pub all_pages_lem : (mode : Mode) (b : List ℕ) (longer : Bool) → all_pages mode b longer ≡ output_of_input_in mode b longer
unfolding all_pages
all_pages_lem mode b longer =
    let p = first_page_in mode b longer in
    ap (λ (t : List ℕ). p.text ++ t) (later_pages_lem mode b p.left p.left p.at (omega arith))
    ∙ first_and_rest mode b longer

-- ---- a page's text fits the page

within : (mode : Mode) (b : List ℕ) (filled at n : ℕ) → filled ≤ page_size → filled + length (page_from mode b filled at n).text ≤ page_size
unfolding page_from
within mode b filled at zero h = omega arith
within mode b filled at (suc n) h =
    by_tests (leb (filled + 19) page_size) refl (packet_lies b at) refl
    (within mode b (filled + length (line_of (answer_at mode b at))) (packet_end b at) n)
  where
    next : Page
    next = page_from mode b (filled + length (line_of (answer_at mode b at))) (packet_end b at) n

    behind_line : ℕ
    behind_line = filled + length (line_of (answer_at mode b at))

    by_tests
        : (t : Bool)
        → leb (filled + 19) page_size ≡ t
        → (u : Bool)
        → packet_lies b at ≡ u
        → (behind_line ≤ page_size → behind_line + length next.text ≤ page_size)
        → filled + length (page_from mode b filled at (suc n)).text ≤ page_size
    by_tests false e u f ih = rw e (omega arith)
    by_tests true e false f ih = rw (e, f) (omega arith)
    by_tests true e true f ih =
        let room = leb-true (filled + 19) page_size e in
        let line = line_length (answer_at mode b at) in
        let rest-within = ih (omega (arith, room, line)) in
        rw (e, f) (omega (arith, rest-within, length-append (line_of (answer_at mode b at)) next.text))

pub next_page_within : (mode : Mode) (b : List ℕ) (left at : ℕ) → length (next_page_in mode b left at).text ≤ page_size
next_page_within mode b left at = omega (arith, within mode b 0 at left (omega arith))

refused_length : (n : ℕ) → length (refused_line n) ≤ 14
unfolding refused_line
refused_length n = numbered_length refused_word n

head_length : (n : ℕ) → length (head_line n) ≤ 14
unfolding head_line
head_length n = numbered_length packets_word n

pub first_page_within : (mode : Mode) (b : List ℕ) (longer : Bool) → length (first_page_in mode b longer).text ≤ page_size
unfolding first_page_in
first_page_within mode b true = omega (arith, refused_length (number refusal.BundleDoesNotFit))
first_page_within mode b false = by_check (check_bundle b)
  where
    by_check : (c : Result (Unit {0}) BundleRefusal) → length (first_of mode c b).text ≤ page_size
    by_check (Ok tt) =
        let n = packet_count b in
        let lines-behind = (page_from mode b (length (head_line n)) (packets_offset b) n).text in
        let fits = within mode b (length (head_line n)) (packets_offset b) n (omega (arith, head_length n)) in
        omega (arith, length-append (head_line n) lines-behind, fits)
    by_check (Err check.DoesNotFit) = omega (arith, refused_length (number refusal.BundleDoesNotFit))
    by_check (Err (check.List r)) = omega (arith, refused_length (number (refusal.List r)))

-- ---- a page that was filled is a page

kept
    : (page page' : List ℕ) (p : Page) (r : Progress)
    → length page ≡ page_size
    → length p.text ≤ page_size
    → Paged page p r page'
    → length page' ≡ page_size
kept page page' p r whole fits paged = ap length paged.1 ∙ written_length page p.text 0 (omega arith) ∙ whole

pub first_page_kept
    : (mode : Mode) (b page page' : List ℕ) (longer : Bool) (r : Progress)
    → length page ≡ page_size
    → Paged page (first_page_in mode b longer) r page'
    → length page' ≡ page_size
first_page_kept mode b page page' longer r whole paged =
    kept page page' (first_page_in mode b longer) r whole (first_page_within mode b longer) paged

pub next_page_kept
    : (mode : Mode) (b page page' : List ℕ) (left at : ℕ) (r : Progress)
    → length page ≡ page_size
    → Paged page (next_page_in mode b left at) r page'
    → length page' ≡ page_size
next_page_kept mode b page page' left at r whole paged =
    kept page page' (next_page_in mode b left at) r whole (next_page_within mode b left at) paged
