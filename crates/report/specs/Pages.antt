-- The output of a bundle, and how it is cut into pages of one size.
use Rattle.std.specs.Prelude.{◌≡◌, ℕ, zero, suc, ◌+◌, Bool, cond, List, [], ◌∷◌, ◌++◌, leb, length, Result, Ok, Err}
use Rattle.text.specs.Written.{written, PutAll}
use Rattle.refusals.specs.declared.PacketRefusal.{PacketRefusal}
use Rattle.refusals.specs.declared.Refusal.{Refusal}
use Rattle.refusals.specs.declared.Refusal.TheVariants as refusal
use Rattle.refusals.specs.Refusals.{number}
use Rattle.flow.specs.declared.Mode.{Mode}
use Rattle.flow.specs.Modes.{plain_mode}
use Rattle.bundle.specs.declared.BundleRefusal.{BundleRefusal}
use Rattle.packet_answer.specs.declared.PacketAnswer.{PacketAnswer}
use Rattle.report.specs.declared.Progress.{Progress}
use Rattle.bundle.specs.Bundle.{packet_count, packets_offset, packet_end, as_refusal, check_bundle}
use Rattle.bundle.specs.Answers.{answer_at, packet_lies, bundle_answer}
use Rattle.report.specs.Text.{line_of, head_line, refused_line}

-- ---- the whole output

unfoldable pub lines_of : List (Result PacketAnswer PacketRefusal) → List ℕ
lines_of [] = []
lines_of (a ∷ rest) = line_of a ++ lines_of rest

-- "Output: `packets N`, then a line each. A refused bundle or list prints only `refused N`."
abbrev pub text_of : Result (Unit {0}) BundleRefusal → ℕ → List (Result PacketAnswer PacketRefusal) → List ℕ
text_of (Ok tt) n answers = head_line n ++ lines_of answers
text_of (Err r) n answers = refused_line (number (as_refusal r))

unfoldable pub output_in : Mode → List ℕ → List ℕ
output_in mode b = text_of (bundle_answer mode b).check (packet_count b) (bundle_answer mode b).answers

-- Input that goes on past the buffer is over 65,535 bytes: refusal 12.
unfoldable pub output_of_input_in : Mode → List ℕ → Bool → List ℕ
output_of_input_in mode b longer = cond longer (refused_line (number refusal.BundleDoesNotFit)) (output_in mode b)

-- ---- pages

-- The bytes of a page: `PAGE`.
abbrev pub page_size : ℕ
page_size = 4096

-- What a page takes: its text, and the packets that are left, by their number and the place of the first.
pub record Page : Type 0 where
  pub text : List ℕ
  pub left : ℕ
  pub at : ℕ

abbrev pub behind : List ℕ → Page → Page
behind line p = record { text = line ++ p.text; left = p.left; at = p.at }

abbrev pub full_page : ℕ → ℕ → Page
full_page left at = record { text = []; left = left; at = at }

-- The lines of so many packets from a place on, as long as the longest line, of 19 bytes, finds room behind what fills the page.
unfoldable pub page_from : Mode → List ℕ → ℕ → ℕ → ℕ → Page
page_from mode b filled at zero = full_page 0 at
page_from mode b filled at (suc n) =
    cond (leb (filled + 19) page_size)
    (cond (packet_lies b at)
    (behind (line_of (answer_at mode b at)) (page_from mode b (filled + length (line_of (answer_at mode b at))) (packet_end b at) n))
    (full_page 0 at))
    (full_page (suc n) at)

-- A page of the packets that are left.
abbrev pub next_page_in : Mode → List ℕ → ℕ → ℕ → Page
next_page_in mode b left at = page_from mode b 0 at left

-- The page that follows a progress.
abbrev pub page_after_in : Mode → List ℕ → Progress → Page
page_after_in mode b progress = next_page_in mode b progress.left progress.at

abbrev pub refused_page : Refusal → Page
refused_page r = record { text = refused_line (number r); left = 0; at = 0 }

-- The first page: the line that comes first, and as many of the packets' as find room.
abbrev pub head_page : Mode → List ℕ → Page
head_page mode b =
    behind (head_line (packet_count b)) (page_from mode b (length (head_line (packet_count b))) (packets_offset b) (packet_count b))

abbrev pub first_of : Mode → Result (Unit {0}) BundleRefusal → List ℕ → Page
first_of mode (Ok tt) b = head_page mode b
first_of mode (Err r) b = refused_page (as_refusal r)

unfoldable pub first_page_in : Mode → List ℕ → Bool → Page
first_page_in mode b longer = cond longer (refused_page refusal.BundleDoesNotFit) (first_of mode (check_bundle b) b)

-- What a function hands back of a page: how many bytes it has, and what is left.
abbrev pub progress_of : Page → Progress
progress_of p = record { filled = length p.text; left = p.left; at = p.at }

-- A page's text was put behind what filled the page before.
abbrev pub Filled : List ℕ → ℕ → Page → Progress → List ℕ → Type 0
Filled page filled p r page' = PutAll page filled p.text r.filled page' × (r.left ≡ p.left) × (r.at ≡ p.at)

-- The lines that find room behind a progress were put into its page.
abbrev pub FilledAfter : Mode → List ℕ → List ℕ → Progress → Progress → List ℕ → Type 0
FilledAfter mode page b progress r page' =
    Filled page progress.filled (page_from mode b progress.filled progress.at progress.left) r page'

-- A page's text was put at the start of the page, and the progress is the page's.
abbrev pub Paged : List ℕ → Page → Progress → List ℕ → Type 0
Paged page p r page' = (r ≡ progress_of p) × (page' ≡ written page 0 p.text)

-- ---- the pages of a whole output

-- The text of so many pages after the first, each with what the one before it left.
unfoldable pub later_pages : Mode → List ℕ → ℕ → ℕ → ℕ → List ℕ
later_pages mode b zero left at = []
later_pages mode b (suc pages) left at =
    let next = next_page_in mode b left at in
    next.text ++ later_pages mode b pages next.left next.at

-- The pages that a program writes which asks for as many later ones as the first leaves packets.
unfoldable pub all_pages : Mode → List ℕ → Bool → List ℕ
all_pages mode b longer =
    let first = first_page_in mode b longer in
    first.text ++ later_pages mode b first.left first.left first.at

-- ---- the plain mode, in which the program asks

abbrev pub output_of : List ℕ → List ℕ
output_of b = output_in plain_mode b

abbrev pub output_of_input : List ℕ → Bool → List ℕ
output_of_input b longer = output_of_input_in plain_mode b longer

abbrev pub first_page : List ℕ → Bool → Page
first_page b longer = first_page_in plain_mode b longer

abbrev pub next_page : List ℕ → ℕ → ℕ → Page
next_page b left at = next_page_in plain_mode b left at

abbrev pub page_after : List ℕ → Progress → Page
page_after b progress = page_after_in plain_mode b progress
