-- Every number of a gateway's answer fits its field, so no two different answers of a gateway share a struct.
use Rattle.std.specs.Prelude.{Option, Result, Ok, Err}
use mathlib.Core.Path.{◌≡◌, refl}
use mathlib.Core.Bool.{Bool, true, false, cond, ◌&&◌}
use mathlib.Core.List.{List}
use Prim.Native.Nat.{ℕ, ◌+◌, ◌<◌}
use native.Mathlib.Omega.{arith}
use lib.Dec.{ltb}
use borrow.Author.Tests.{ltb-true}
use Rattle.basis.specs.Bytes.{AllBytes}
use Rattle.basis.proofs.Tests.{and_left, and_right}
use Rattle.observable.specs.declared.TcpObservation.{TcpObservation}
use Rattle.flow.specs.declared.Reading.{Reading}
use Rattle.flow.specs.declared.Reading.TheVariants as reading
use Rattle.flow.specs.declared.Mode.{Mode}
use Rattle.flow.specs.Modes.{read_in}
use Rattle.matching.specs.declared.Features.{Features}
use Rattle.matching.specs.declared.SignatureFit.{SignatureFit}
use Rattle.matching.specs.declared.SignatureFit.TheVariants as fit
use Rattle.matching.specs.Fit.{features_of, fit_of}
use Rattle.refusals.specs.Refusals.{list_value}
use Rattle.refusals.specs.declared.PacketRefusal.{PacketRefusal}
use Rattle.refusals.specs.declared.ListRefusal.{ListRefusal}
use Rattle.sigrecord.specs.Record.{signature_of, entry_count}
use Rattle.siglist.specs.List.{record_count, size_of, list_fits, record_start, record_at, entries_of, record_good, check_list}
use Rattle.siglist.proofs.FirstBad.{Checked, does_not_fit, first_bad_named}
use Rattle.found.specs.declared.Hit.{Hit}
use Rattle.found.specs.Least.{Place, nowhere, at}
use Rattle.found.specs.Rank.{found_of}
use Rattle.search.specs.Search.{fit_at, hit_at, candidate_at, found_at, search_row, search_over, search_all, searched}
use Rattle.search.proofs.Examined.{within}
use Rattle.packet_answer.specs.declared.PacketAnswer.{PacketAnswer}
use Rattle.packet_answer.specs.Packet.{peer_of, after_reading, answer_in}
use Rattle.gateway.specs.Parts.{parts_of, after_list, gateway_in}
use Rattle.gateway.proofs.Room.{HitFits, FoundFits, SearchedFits, PacketFits, AnswerFits}
use Rattle.gateway.proofs.ReadBack.{injective}
use Rattle.gateway.proofs.Given.{part_bytes, two_bytes, RefusedFits, reading_fits}
use Rattle.gateway.proofs.Tolerated.{FitSmall, fit_small}

-- ---- the search

-- What is found in one record fits, if only a record of the list is found.
found_one
    : (t : Bool) (hit : Hit) (x : SignatureFit)
    → (t ≡ true → HitFits hit)
    → FitSmall x
    → FoundFits (found_of hit (cond t x fit.None))
unfolding found_of
found_one true hit fit.None hh hx = tt
found_one true hit fit.Exact hh hx = hh refl
found_one true hit (fit.Fuzzy r) hh hx = (hh refl, hx)
found_one false hit x hh hx = tt

module _ (l : List ℕ) (lent : AllBytes l) where
  -- A record of a byte string is one.
  record_bytes_lem : (i : ℕ) → AllBytes (record_at l i)
  record_bytes_lem i = part_bytes (record_start l i) (record_start l i + 24) l lent

  -- A label is two bytes, and so is the count of records, which every number is below.
  hit_fits : (i : ℕ) → (list_fits l && ltb i (record_count l) && record_good l i) ≡ true → HitFits (hit_at l i)
  hit_fits i e =
      let within = and_left (list_fits l && ltb i (record_count l)) (record_good l i) e in
      let below = ltb-true i (record_count l) (and_right (list_fits l) (ltb i (record_count l)) within) in
      let count = two_bytes l 0 lent in
      (two_bytes (record_at l i) 22 (record_bytes_lem i), omega arith)

  -- What is read at any place fits, and so what the plain search finds.
  read_fits : (f : Features) (kinds bytes : List ℕ) (p : Place) → FoundFits (found_at f kinds bytes l p)
  unfolding found_at candidate_at fit_at
  read_fits f kinds bytes nowhere = tt
  read_fits f kinds bytes (at i) =
      found_one (list_fits l && ltb i (record_count l) && record_good l i) (hit_at l i)
      (fit_of f kinds bytes (signature_of (record_at l i)) (entry_count (record_at l i)) (entries_of l (record_at l i)))
      (hit_fits i)
      (fit_small f kinds bytes (record_at l i) (entry_count (record_at l i)) (entries_of l (record_at l i)) (record_bytes_lem i))

  found_fits : (o : TcpObservation) → FoundFits (searched o l).found
  unfolding searched search_all search_over search_row
  found_fits o = read_fits (features_of o) o.olayout.kinds o.olayout.bytes _

  -- The size is of two bytes, or 0, and no more records are examined.
  size_fits : size_of l < 65536
  size_fits = by_test (list_fits l)
    where
      by_test : (t : Bool) → cond t (record_count l) 0 < 65536
      by_test true = two_bytes l 0 lent
      by_test false = omega arith

  searched_fits : (o : TcpObservation) → SearchedFits (searched o l)
  searched_fits o = (found_fits o, omega (arith, within o l, size_fits))

-- ---- the answer

-- Each kind of answer, where its refusal fits.
after_fits : (r : Result Reading PacketRefusal) (l : List ℕ) → AllBytes l → RefusedFits r → PacketFits (after_reading r l)
after_fits (Ok (reading.Opening k o)) l h fits = searched_fits l h o
after_fits (Ok reading.Nothing) l h fits = tt
after_fits (Err x) l h fits = fits

-- The answer of a packet against a list, checked or not, in any mode.
pub packet_fits_lem
    : (mode : Mode) (p : List ℕ) (peer : Option ℕ) (l : List ℕ) → AllBytes p → AllBytes l → PacketFits (answer_in mode p peer l)
unfolding answer_in
packet_fits_lem mode p peer l hp hl =
    after_fits (read_in mode p peer) l hl (reading_fits mode p peer hp)

-- The index of a bad record fits two bytes.
abbrev ListFits : Result (Unit {0}) ListRefusal → Type 0
ListFits (Ok tt) = Unit {0}
ListFits (Err r) = list_value r < 65536

-- The first bad record is one of the list's, and these are counted by two bytes.
checked_fits : {a : Result (Unit {0}) ListRefusal} (l : List ℕ) (n : ℕ) → n < 65536 → Checked l 0 n a → ListFits a
checked_fits l n h (Checked.all_good good) = tt
checked_fits l n h (Checked.first_bad_lem i from below bad before) = omega arith

-- What a list is refused by fits.
list_fits_lem : (l : List ℕ) → AllBytes l → ListFits (check_list l)
list_fits_lem l h = by_test (list_fits l) refl
  where
    by_test : (t : Bool) → list_fits l ≡ t → ListFits (check_list l)
    by_test true e = checked_fits l (record_count l) (two_bytes l 0 h) (first_bad_named l e)
    by_test false e = rw (does_not_fit l e) (omega arith)

-- The answer after the list is checked.
after_list_lem
    : (c : Result (Unit {0}) ListRefusal) (a : Result PacketAnswer PacketRefusal)
    → ListFits c
    → PacketFits a
    → AnswerFits (after_list c a)
after_list_lem (Ok tt) a hc ha = ha
after_list_lem (Err r) a hc ha = hc

-- ---- the laws

-- Every answer of a gateway to byte strings fits, in any mode.
pub answers_fit
    : (mode : Mode) (p : List ℕ) (peer : ℕ) (l : List ℕ) → AllBytes p → AllBytes l → AnswerFits (gateway_in mode p peer l)
unfolding gateway_in
answers_fit mode p peer l hp hl =
    after_list_lem (check_list l) (answer_in mode p (peer_of peer) l) (list_fits_lem l hl) (packet_fits_lem mode p (peer_of peer) l hp hl)

-- No two different answers of a gateway share a struct, whatever the modes.
pub structs_differ
    : (a b : Mode) (p q : List ℕ) (m n : ℕ) (l k : List ℕ)
    → AllBytes p
    → AllBytes q
    → AllBytes l
    → AllBytes k
    → parts_of (gateway_in a p m l) ≡ parts_of (gateway_in b q n k)
    → gateway_in a p m l ≡ gateway_in b q n k
structs_differ a b p q m n l k hp hq hl hk e =
    injective (gateway_in a p m l) (gateway_in b q n k) (answers_fit a p m l hp hl) (answers_fit b q n k hq hk) e
