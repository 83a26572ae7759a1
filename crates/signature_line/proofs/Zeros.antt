-- A TTL of leading zeros alone goes on, however many they are: refused at the line's length (`*:000..`).
use Prim.Native.Nat.{ℕ, zero, suc, ◌+◌, ◌≤◌}
use mathlib.Core.Path.{◌≡◌, refl, ◌∙◌, ap}
use mathlib.Core.Bool.{true, false}
use mathlib.Core.List.{List, [], ◌∷◌, ◌++◌}
use native.Mathlib.Omega.{arith}
use lib.Dec.{eqb}
use lib.ListN.{length, drop, replicate, length-replicate, length-append, drop_of_length-le}
use borrow.Author.Tests.{eq-eqb}
use Rattle.basis.specs.Ascii.{ascii}
use Rattle.grammar.specs.Numeral.{any}
use Rattle.grammar.specs.Reading.{Read, then_read, refused, judgement}
use Rattle.grammar.specs.States.{fits, digits, after, done, run, left, states_read, table_read}
use Rattle.grammar.specs.Table.{Said, said}
use Rattle.signature_line.specs.Line.{colon, longest}
use Rattle.signature_line.specs.LineValues.{zeros_line, zero_record}
use Rattle.signature_line.specs.Meaning.{layout_of, union_from, raw_of}
use Rattle.signature_line.specs.Answer.{read_of, refused_at}
use Rattle.signature_line.specs.LineReader.{ttl_read, layout_read, quirks_read, after_olen_read, parts_read, fields_read}
use Rattle.signature_line.specs.LineReader.{read_as, answered, read_line}
use Rattle.signature_line.specs.Words.{version, bare_byte, ttl_form, mss, window, scale, entry, quirk_word, payload}
use Rattle.signature_line.proofs.Accepted.{short}

-- Zeros stay zero: all of them are read.
all_run : (n : ℕ) → run (digits 0 255 any 0 ∷ []) (replicate n 48) ≡ n
unfolding run after fits
all_run zero = refl
all_run (suc n) = ap suc (all_run n)

all_left : (n : ℕ) → left (digits 0 255 any 0 ∷ []) (replicate n 48) ≡ digits 0 255 any 0 ∷ []
unfolding left after fits
all_left zero = refl
all_left (suc n) = all_left n

number_read : (n : ℕ) → table_read bare_byte (replicate (suc n) 48) ≡ record { count = suc n; good = true; value = said 0 0 }
unfolding bare_byte states_read run left after fits done any
number_read n = rw (all_run n, all_left n)

nothing_left : (n k : ℕ) → n ≤ k → drop {A = ℕ} k (replicate n 48) ≡ []
nothing_left n k h =
    let out : length {A = ℕ} (replicate n 48) ≤ k = rw (length-replicate {A = ℕ} n 48) h in
    drop_of_length-le {A = ℕ} (replicate n 48) out

form_read : table_read ttl_form [] ≡ record { count = 0; good = true; value = said 0 0 }
unfolding ttl_form states_read run left done
form_read = refl

-- The TTL is read, and no colon stands behind it.
module _ (n : ℕ) where
  abbrev zeros : List ℕ
  zeros = replicate (suc n) 48

  ttl_read_lem : ttl_read zeros ≡ record { count = suc n + 0; good = true; value = (said 0 0, said 0 0) }
  unfolding ttl_read
  ttl_read_lem = rw (number_read n, nothing_left (suc n) (suc n) (omega arith), form_read)

  abbrev after_version : List ℕ → Read ((Said × Said) × (Said × (Said × (Said × (Said × (List Said × (List Said × Said)))))))
  after_version = then_read ttl_read colon (then_read (table_read bare_byte) colon after_olen_read)

  bad : (after_version zeros).good ≡ false
  bad = rw (ttl_read_lem, nothing_left (suc n) (suc n + 0) (omega arith))

  counted : (after_version zeros).count ≡ suc n + 0 + 0
  counted = rw (ttl_read_lem, nothing_left (suc n) (suc n + 0) (omega arith))

  judged_so : judgement (ascii "*:" ++ zeros) (fields_read (ascii "*:" ++ zeros)) ≡ refused (n + 3)
  unfolding fields_read parts_read version states_read run left after done
  judged_so = rw (bad, counted) (ap refused (omega arith))

  pub zeros_refused : suc n + 2 ≤ longest → read_line (ascii "*:" ++ zeros) ≡ refused_at (n + 3)
  zeros_refused h =
      let few : length (ascii "*:" ++ zeros) ≤ longest = rw (length-replicate {A = ℕ} n 48) (omega arith) in
      short (ascii "*:" ++ zeros) few ∙ ap answered judged_so

-- ---- the same with the rest of a line behind it

module _ (r : List ℕ) where
  abbrev zeros_then : ℕ → List ℕ
  zeros_then n = replicate n 48 ++ colon ∷ r

  run_to_colon : (n : ℕ) → run (digits 0 255 any 0 ∷ []) (zeros_then n) ≡ n
  unfolding run after fits
  run_to_colon zero = refl
  run_to_colon (suc n) = ap suc (run_to_colon n)

  left_at_colon : (n : ℕ) → left (digits 0 255 any 0 ∷ []) (zeros_then n) ≡ digits 0 255 any 0 ∷ []
  unfolding left after fits
  left_at_colon zero = refl
  left_at_colon (suc n) = left_at_colon n

  behind_zeros : (n k : ℕ) → k ≡ n → drop k (zeros_then n) ≡ colon ∷ r
  behind_zeros n k e = rw e (by n)
    where
      by : (m : ℕ) → drop m (zeros_then m) ≡ colon ∷ r
      by zero = refl
      by (suc m) = by m

  number_then : (n : ℕ) → table_read bare_byte (zeros_then (suc n)) ≡ record { count = suc n; good = true; value = said 0 0 }
  unfolding bare_byte states_read run left after fits done any
  number_then n = rw (run_to_colon n, left_at_colon n)

  form_then : table_read ttl_form (colon ∷ r) ≡ record { count = 0; good = true; value = said 0 0 }
  unfolding ttl_form states_read run left after done
  form_then = refl

  ttl_then : (n : ℕ) → ttl_read (zeros_then (suc n)) ≡ record { count = suc n + 0; good = true; value = (said 0 0, said 0 0) }
  unfolding ttl_read
  ttl_then n = rw (number_then n, behind_zeros (suc n) (suc n) refl, form_then)

abbrev rest : List ℕ
rest = ascii "0:*:*,*:::0"

abbrev after_ttl : List ℕ → Read (Said × (Said × (Said × (Said × (List Said × (List Said × Said))))))
after_ttl = then_read (table_read bare_byte) colon after_olen_read

abbrev rest_says : Said × (Said × (Said × (Said × (List Said × (List Said × Said)))))
rest_says = (said 0 0, (said 0 0, (said 0 0, (said 0 0, ([], ([], said 0 0))))))

rest_read : after_ttl rest ≡ record { count = 11; good = true; value = rest_says }
unfolding bare_byte mss window scale layout_read quirks_read entry quirk_word payload states_read run left after fits done any
rest_read = refl

module _ (n : ℕ) where
  abbrev line : List ℕ
  line = zeros_line (suc n)

  after_version_lem
      : then_read ttl_read colon after_ttl (zeros_then rest (suc n))
      ≡ record { count = suc n + 0 + suc 11; good = true; value = ((said 0 0, said 0 0), rest_says) }
  after_version_lem = rw (ttl_then rest n, behind_zeros rest (suc n) (suc n + 0) (omega arith), rest_read)

  parts_read_lem
      : parts_read line
      ≡ record { count = 1 + suc (suc n + 0 + suc 11); good = true; value = (said 0 0, ((said 0 0, said 0 0), rest_says)) }
  unfolding parts_read version states_read run left after done
  parts_read_lem = rw after_version_lem

  long_as : length line ≡ suc n + 14
  long_as = rw (length-append {A = ℕ} (replicate n 48) (ascii ":0:*:*,*:::0"), length-replicate {A = ℕ} n 48) (omega arith)

  pub zeros_read : suc n + 14 ≤ longest → read_line line ≡ read_of zero_record
  unfolding fields_read read_as raw_of layout_of union_from
  zeros_read h =
      let few : length line ≤ longest = rw long_as h in
      let end : 1 + suc (suc n + 0 + suc 11) ≡ length line = omega (arith, long_as) in
      let all : eqb (1 + suc (suc n + 0 + suc 11)) (length line) ≡ true = eq-eqb (1 + suc (suc n + 0 + suc 11)) (length line) end in
      short line few ∙ rw (parts_read_lem, all)
