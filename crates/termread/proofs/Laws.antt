-- What of an output is still to be taken, piece by piece and page by page.
use mathlib.Core.Path.{◌≡◌, sym, ◌∙◌, ap, subst}
use mathlib.Core.Bool.{Bool}
use mathlib.Core.List.{List, ◌++◌}
use Prim.Native.Nat.{ℕ, ◌+◌, ◌-◌, ◌≤◌}
use native.Mathlib.Omega.{arith}
use native.Mathlib.Nat.{sub-zero}
use lib.ListN.{length, take, drop, take-append-drop, length-drop, length-append}
use lib.Seq.{length-take-le, take_all, take-append_seam, drop-append_seam, drop-append-le, drop-drop}
use Rattle.flow.specs.Modes.{plain_mode}
use Rattle.bundle.specs.Answers.{answers_from}
use Rattle.text.specs.Written.{written}
use Rattle.report.specs.Pages.{Paged, page_size, lines_of, first_page, next_page, all_pages, output_of_input}
use Rattle.report.specs.declared.Progress.{Progress}
use Rattle.report.proofs.Whole.{page_and_rest, later_pages_lem, all_pages_lem, first_page_within, next_page_within}
use Rattle.termread.specs.Reached.{Reached}
use Rattle.termread.specs.Sending.{Follows}

-- ---- any output

-- What is left of a text that follows, follows where the taken part ends.
pub part_follows : (output text : List ℕ) (taken from : ℕ) → from ≤ length text → Follows output taken text
    → Follows output (taken + from) (take (length text - from) (drop from text))
part_follows output text taken from within follows =
    let d = drop taken output in
    let z = drop (length text) d in
    let whole : text ++ z ≡ d = ap (λ (t : List ℕ). t ++ z) follows ∙ take-append-drop (length text) d in
    let later : drop from text ++ z ≡ drop (taken + from) output =
    sym (drop-append-le from text z within) ∙ (ap (λ (t : List ℕ). drop from t) whole ∙ drop-drop from taken output) in
    rw (take_all (length text - from) (drop from text) (omega (arith, length-drop from text)))
    (sym (take-append_seam (drop from text) z) ∙ ap (λ (t : List ℕ). take (length (drop from text)) t) later)

-- Of an output so many bytes were taken, and this is still to come.
abbrev pub ToCome : List ℕ → ℕ → List ℕ → Type 0
ToCome output taken rest = (taken ≤ length output) × (drop taken output ≡ rest)

come_follows : (output : List ℕ) (taken : ℕ) (text rest : List ℕ) → ToCome output taken (text ++ rest) → Follows output taken text
come_follows output taken text rest h =
    sym (take-append_seam text rest) ∙ ap (λ (t : List ℕ). take (length text) t) (sym h.1)

come_length : (output : List ℕ) (taken : ℕ) (text rest : List ℕ) → ToCome output taken (text ++ rest)
    → length output ≡ taken + (length text + length rest)
come_length output taken text rest h =
    let sizes : length output - taken ≡ length text + length rest =
    sym (length-drop taken output) ∙ (ap (λ (t : List ℕ). length t) h.1 ∙ length-append text rest) in
    omega (arith, sizes, h.0)

come_next : (output : List ℕ) (taken : ℕ) (text rest : List ℕ) → ToCome output taken (text ++ rest)
    → ToCome output (taken + length text) rest
come_next output taken text rest h = (
  omega (arith, come_length output taken text rest h),
  sym (drop-drop (length text) taken output)
      ∙ (ap (λ (t : List ℕ). drop (length text) t) h.1 ∙ drop-append_seam text rest),
)

-- ---- the output of a bundle, by pages

-- Still to come are the bytes that fill a page, and the lines of the packets that are left.
abbrev pub Left : List ℕ → Bool → ℕ → List ℕ → Progress → Type 0
Left b longer taken page p =
    ToCome (output_of_input b longer) taken (take p.filled page ++ lines_of (answers_from plain_mode b p.at p.left))

-- The part of a page that is lent to be written.
pub part_length : (page : List ℕ) (filled : ℕ) → filled ≤ length page → length (take (filled - 0) (drop 0 page)) ≡ filled
part_length page filled h = rw (sub-zero filled) (length-take-le filled page h)

pub page_reached : (taken : ℕ) (page : List ℕ) (filled : ℕ) → filled ≤ length page
    → Reached (taken + length (take (filled - 0) (drop 0 page))) → Reached (taken + filled)
page_reached taken page filled fits reached = subst (λ (n : ℕ). Reached (taken + n)) (part_length page filled fits) reached

pub page_follows : (b : List ℕ) (longer : Bool) (taken : ℕ) (page : List ℕ) (p : Progress) → Left b longer taken page p
    → Follows (output_of_input b longer) taken (take (p.filled - 0) (drop 0 page))
page_follows b longer taken page p h =
    rw (sub-zero p.filled)
    (come_follows (output_of_input b longer) taken (take p.filled page) (lines_of (answers_from plain_mode b p.at p.left)) h)

-- A text that was put at the start of a page is what the page begins with.
begins : (page text : List ℕ) → take (length text) (written page 0 text) ≡ text
unfolding written
begins page text = take-append_seam text (drop (0 + length text) page)

pub begun : (b : List ℕ) (longer : Bool) (page page' : List ℕ) (r : Progress) → Paged page (first_page b longer) r page'
    → Left b longer 0 page' r
unfolding all_pages
begun b longer page page' r paged =
    let p = first_page b longer in
    let all =
    sym (all_pages_lem plain_mode b longer)
    ∙ ap (λ (t : List ℕ). p.text ++ t) (later_pages_lem plain_mode b p.left p.left p.at (omega arith)) in
    (omega arith, rw (paged.0, paged.1, begins page p.text) all)

pub begun_fits : (b : List ℕ) (longer : Bool) (page page' : List ℕ) (r : Progress) → Paged page (first_page b longer) r page'
    → r.filled ≤ page_size
begun_fits b longer page page' r paged = rw paged.0 (first_page_within plain_mode b longer)

-- The next page, when all of a page was taken.
pub turned : (b : List ℕ) (longer : Bool) (taken : ℕ) (page page' : List ℕ) (p r : Progress) → p.filled ≤ length page
    → Left b longer taken page p → Paged page (next_page b p.left p.at) r page' → Left b longer (taken + p.filled) page' r
turned b longer taken page page' p r fits h paged =
    let next = next_page b p.left p.at in
    let output = output_of_input b longer in
    let rest = lines_of (answers_from plain_mode b p.at p.left) in
    let after =
    subst (λ (n : ℕ). ToCome output (taken + n) rest) (length-take-le p.filled page fits)
    (come_next output taken (take p.filled page) rest h) in
    (after.0, after.1 ∙ rw (paged.0, paged.1, begins page next.text) (sym (page_and_rest plain_mode b 0 p.at p.left)))

pub turned_fits : (b : List ℕ) (page page' : List ℕ) (p r : Progress) → Paged page (next_page b p.left p.at) r page'
    → r.filled ≤ page_size
turned_fits b page page' p r paged = rw paged.0 (next_page_within plain_mode b p.left p.at)

-- Where no packet is left, the output ends with the page.
pub ended : (b : List ℕ) (longer : Bool) (taken : ℕ) (page : List ℕ) (p : Progress) → p.filled ≤ length page → p.left ≡ 0
    → Left b longer taken page p → taken + p.filled ≡ length (output_of_input b longer)
unfolding answers_from lines_of
ended b longer taken page p fits none h =
    let rest = lines_of (answers_from plain_mode b p.at p.left) in
    let nothing : length rest ≡ 0 = rw none in
    omega (arith, nothing, length-take-le p.filled page fits, come_length (output_of_input b longer) taken (take p.filled page) rest h)
