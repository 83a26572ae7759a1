-- Laws of a page: one line more, and its end.
use mathlib.Core.Path.{◌≡◌, refl, sym, ◌∙◌, ap}
use mathlib.Core.Bool.{true, false}
use mathlib.Core.List.{List, ◌++◌}
use Prim.Native.Nat.{ℕ, suc, ◌+◌, ◌-◌, ◌<◌, ◌≤◌}
use native.Mathlib.Omega.{arith}
use native.Mathlib.Nat.{zero-add}
use lib.ListN.{length}
use borrow.Author.Tests.{le-leb, lt-leb}
use Rattle.report.specs.declared.Progress.{Progress}
use Rattle.bundle.specs.Bundle.{packet_count, packets_offset, packet_end}
use Rattle.flow.specs.declared.Mode.{Mode}
use Rattle.bundle.specs.Answers.{answer_at, packet_lies}
use Rattle.text.specs.Decimal.{decimal, newline}
use Rattle.text.specs.Written.{written, PutAll}
use Rattle.text.proofs.Writing.{nothing_written, all_both}
use Rattle.report.specs.Text.{packets_word, line_of, head_line}
use Rattle.report.specs.Pages.{Filled, Paged, Page, page_size, page_from, full_page, behind, head_page}
use Rattle.report.proofs.Writing.{line_length, numbered_length}

-- Nothing more is put.
pub filled_full
    : (page : List ℕ) (filled left at : ℕ)
    → Filled page filled (full_page left at) (record { filled = filled; left = left; at = at }) page
filled_full page filled left at = ((omega arith, sym (nothing_written page filled)), refl, refl)

module _ (mode : Mode) (b : List ℕ) (filled at m : ℕ) where
  full_here : page_size - filled < 19 → page_from mode b filled at (suc m) ≡ full_page (suc m) at
  unfolding page_from
  full_here h = rw (lt-leb (filled + 19) page_size (omega arith))

  ended_here : 19 ≤ page_size - filled → packet_lies b at ≡ false → page_from mode b filled at (suc m) ≡ full_page 0 at
  unfolding page_from
  ended_here h e = rw (le-leb (filled + 19) page_size (omega arith), e)

  line_here
      : 19 ≤ page_size - filled
      → packet_lies b at ≡ true
      → page_from mode b filled at (suc m)
      ≡ behind (line_of (answer_at mode b at)) (page_from mode b (filled + length (line_of (answer_at mode b at))) (packet_end b at) m)
  unfolding page_from
  line_here h e = rw (le-leb (filled + 19) page_size (omega arith), e)

-- One of so many packets, some of whose lines are done.
module _ (mode : Mode) (b page : List ℕ) (filled at n done : ℕ) (inside : done < n) where
  more : n - done ≡ suc (n - (done + 1))
  more = omega arith

  pub no_room : page_size - filled < 19 → page_from mode b filled at (n - done) ≡ full_page (n - done) at
  no_room h =
      ap (page_from mode b filled at) more
      ∙ full_here mode b filled at (n - (done + 1)) h
      ∙ ap (λ (k : ℕ). full_page k at) (sym more)

  pub no_packet : 19 ≤ page_size - filled → packet_lies b at ≡ false → page_from mode b filled at (n - done) ≡ full_page 0 at
  no_packet h e = ap (page_from mode b filled at) more ∙ ended_here mode b filled at (n - (done + 1)) h e

  pub one_line
      : 19 ≤ page_size - filled
      → packet_lies b at ≡ true
      → length page ≡ page_size
      → (page' page'' : List ℕ) (next : ℕ) (r : Progress)
      → PutAll page filled (line_of (answer_at mode b at)) next page'
      → Filled page' next (page_from mode b next (packet_end b at) (n - (done + 1))) r page''
      → Filled page filled (page_from mode b filled at (n - done)) r page''
  one_line h e whole page' page'' next r line rest =
      rw (ap (page_from mode b filled at) more ∙ line_here mode b filled at (n - (done + 1)) h e, sym line.0) (
        all_both page page' page'' _ _ filled next r.filled (omega (arith, whole, line_length (answer_at mode b at))) line rest.0,
        rest.1,
        rest.2,
      )

pub no_more : (mode : Mode) (b : List ℕ) (filled at n done : ℕ) → n ≤ done → page_from mode b filled at (n - done) ≡ full_page 0 at
unfolding page_from
no_more mode b filled at n done h = let none : n - done ≡ 0 = omega arith in rw none

-- ---- from a page's numbers to its progress

pub paged : (page page' : List ℕ) (p : Page) (r : Progress) → Filled page 0 p r page' → Paged page p r page'
paged page page' p r h = (
  ap (λ (n : ℕ). record { filled = n; left = r.left; at = r.at }) (h.0.0 ∙ zero-add (length p.text))
      ∙ ap (λ (n : ℕ). record { filled = length p.text; left = n; at = r.at }) h.1
      ∙ ap (λ (n : ℕ). record { filled = length p.text; left = p.left; at = n }) h.2,
  h.0.1,
)

-- The first line, and the packets' lines behind it.
module _ (mode : Mode) (b page page' page'' : List ℕ) (n offset filled : ℕ) (r : Progress) where
  pub head_paged
      : 14 ≤ length page
      → n ≡ packet_count b
      → offset ≡ packets_offset b
      → filled ≡ length (packets_word ++ decimal n ++ newline)
      → page' ≡ written page 0 (packets_word ++ decimal n ++ newline)
      → Filled page' filled (page_from mode b filled offset n) r page''
      → Paged page (head_page mode b) r page''
  unfolding head_line
  head_paged inside count at f w rest =
      rw (sym count, sym at, sym f)
      (paged page page'' (behind (packets_word ++ decimal n ++ newline) (page_from mode b filled offset n)) r (
        all_both page page' page'' _ _ 0 filled r.filled (omega (arith, numbered_length packets_word n))
            (f ∙ sym (zero-add _), w) rest.0,
        rest.1,
        rest.2,
      ))
