-- The search (document 02, Wish 3): "first specific exact, else first generic exact, else first fuzzy of either kind", else none
-- (document 01, "The signature list"), as the first record of least rank. It goes over a row of record numbers; the plain search takes
-- 0, 1, .. to the last, and also answers how many records it examined (Wish 6).
use Rattle.std.specs.Prelude.{ℕ, cond, ◌&&◌, List, ltb, Result, Ok, Err}
use Rattle.observable.specs.declared.TcpObservation.{TcpObservation}
use Rattle.matching.specs.declared.Features.{Features}
use Rattle.matching.specs.declared.SignatureFit.{SignatureFit}
use Rattle.matching.specs.declared.SignatureFit.TheVariants as fit
use Rattle.matching.specs.Fit.{features_of, fit_of}
use Rattle.found.specs.declared.Hit.{Hit}
use Rattle.found.specs.declared.Found.{Found}
use Rattle.found.specs.declared.Found.TheVariants as found
use Rattle.found.specs.declared.Searched.{Searched}
use Rattle.found.specs.Examined.{searched_in}
use Rattle.found.specs.Least.{Place, nowhere, at, first_least, numbers_from}
use Rattle.found.specs.Rank.{found_of, rank_of}
use Rattle.refusals.specs.declared.Refusal.{Refusal}
use Rattle.refusals.specs.declared.Refusal.TheVariants as refusal
use Rattle.refusals.specs.Refusals.{Verdict, list_refused, number_of}
use Rattle.refusals.specs.declared.ListRefusal.{ListRefusal}
use Rattle.search.specs.declared.SearchRefusal.{SearchRefusal}
use Rattle.search.specs.declared.SearchRefusal.TheVariants as answer
use Rattle.sigrecord.specs.Record.{signature_of, entry_count, label_of, is_generic}
use Rattle.siglist.specs.List.{record_count, size_of, list_fits, record_at, entries_of, record_good, check_list}

-- How record i fits: what is not a well-formed record of the list does not fit.
unfoldable pub fit_at : Features → List ℕ → List ℕ → List ℕ → ℕ → SignatureFit
fit_at f kinds bytes l i =
    cond (list_fits l && ltb i (record_count l) && record_good l i)
    (fit_of f kinds bytes (signature_of (record_at l i)) (entry_count (record_at l i)) (entries_of l (record_at l i)))
    fit.None

-- Record i as a search names it: by its label, by its number in the list, and by its kind.
abbrev pub hit_at : List ℕ → ℕ → Hit
hit_at l i = record { label = label_of (record_at l i); number = i; generic = is_generic (record_at l i) }

-- What is found in record i alone, and the record's rank.
unfoldable pub candidate_at : Features → List ℕ → List ℕ → List ℕ → ℕ → Found
candidate_at f kinds bytes l i = found_of (hit_at l i) (fit_at f kinds bytes l i)

unfoldable pub rank_at : Features → List ℕ → List ℕ → List ℕ → ℕ → ℕ
rank_at f kinds bytes l i = rank_of (candidate_at f kinds bytes l i)

-- What is read at a place: its record, fitness and reason.
unfoldable pub found_at : Features → List ℕ → List ℕ → List ℕ → Place → Found
found_at f kinds bytes l nowhere = found.None
found_at f kinds bytes l (at i) = candidate_at f kinds bytes l i

-- The search of a row of record numbers: what is read at the first number of least rank.
unfoldable pub search_row : Features → List ℕ → List ℕ → List ℕ → List ℕ → Found
search_row f kinds bytes l is = found_at f kinds bytes l (first_least (rank_at f kinds bytes l) is)

-- The search of all records, in list order.
abbrev pub search_records : Features → List ℕ → List ℕ → List ℕ → Found
search_records f kinds bytes l = search_row f kinds bytes l (numbers_from 0 (record_count l))

-- The search of a row of record numbers for an observation, and the plain search: of all records in list order.
unfoldable pub search_over : List ℕ → TcpObservation → List ℕ → Found
search_over is o l = search_row (features_of o) o.olayout.kinds o.olayout.bytes l is

unfoldable pub search_all : TcpObservation → List ℕ → Found
search_all o l = search_over (numbers_from 0 (record_count l)) o l

-- What the plain search answers: what it finds, and how many records it examined. By features, of a list that fits: its size is then what
-- the header counts.
abbrev pub searched_records : Features → List ℕ → List ℕ → List ℕ → Searched
searched_records f kinds bytes l = searched_in (record_count l) (search_records f kinds bytes l)

unfoldable pub searched : TcpObservation → List ℕ → Searched
searched o l = searched_in (size_of l) (search_all o l)

-- "a search [meets] 11, then 9, then 10"; 11: "observation's layout count over 40"
abbrev pub after_list_check : Result (Unit {0}) ListRefusal → TcpObservation → List ℕ → Result Searched SearchRefusal
after_list_check (Err r) o l = Err (answer.List r)
after_list_check (Ok tt) o l = Ok (searched o l)

unfoldable pub search_list : TcpObservation → List ℕ → Result Searched SearchRefusal
search_list o l = cond (ltb 40 o.olayout.count) (Err answer.LayoutTooLong) (after_list_check (check_list l) o l)

-- Which refusal of all that is.
abbrev pub as_refusal : SearchRefusal → Refusal
as_refusal answer.LayoutTooLong = refusal.LayoutTooLong
as_refusal (answer.List r) = refusal.List r

-- Which refusal of the table the answer is, if any, and its number; 0 if it is none.
abbrev pub search_verdict : Result Searched SearchRefusal → Verdict
search_verdict (Ok s) = Verdict.accepted
search_verdict (Err answer.LayoutTooLong) = Verdict.refused refusal.LayoutTooLong
search_verdict (Err (answer.List r)) = list_refused r

unfoldable pub search_refusal : Result Searched SearchRefusal → ℕ
search_refusal a = number_of (search_verdict a)
