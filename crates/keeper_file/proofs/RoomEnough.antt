-- The list of a file has at most twice the file's bytes, and 8: a record has 24 bytes and its line at least 17, an entry has 2 and its line
-- at least one for it.
use Rattle.std.specs.Prelude.{Result}
use Prim.Native.Nat.{ℕ, zero, suc, ◌+◌, ◌*◌, ◌≤◌}
use mathlib.Core.Path.{◌≡◌, refl, ap}
use mathlib.Core.Logic.{inl, inr}
use mathlib.Core.Bool.{Bool, true, false, cond, ◌&&◌}
use mathlib.Core.List.{List, [], ◌∷◌}
use native.Mathlib.Omega.{arith}
use lib.Dec.{eqb}
use lib.ListN.{length, length-append}
use Rattle.text.specs.Written.{Lined}
use Rattle.refusals.specs.Refusals.{number_of}
use Rattle.grammar.specs.Language.{Join, Behind, Then, More}
use Rattle.grammar.specs.States.{start, done}
use Rattle.grammar.specs.Table.{Row, Choice}
use Rattle.grammar.proofs.Tables.{table_empty}
use Rattle.signature_line.specs.Line.{colon, comma, TtlText, LayoutText, QuirksText, AfterScale, AfterOlen, LineSays}
use Rattle.signature_line.specs.Meaning.{LineMeaning, layout_of}
use Rattle.signature_line.specs.Words.{version, bare_byte, ttl_form, mss, window, scale, entry, payload}
use Rattle.keeper_file.specs.declared.LineRefusal.{LineRefusal}
use Rattle.keeper_file.specs.CompileAnswers.{EachMeans, list_size, CompileAnswer}
use Rattle.keeper_file.specs.Compiling.{refusing_line, compile_file, compiled_verdict}
use Rattle.keeper_file.specs.KeptLine.{blank, label, mark, KeptLine}
use Rattle.keeper_file.specs.Lines.{line_feed, carriage_return, begins_with, into_first, lines_of, passed_over}
use Rattle.keeper_file.specs.Lines.{Numbered, keep_unless, numbered_from, signature_lines}
use Rattle.keeper_file.specs.ListText.{entry_total}
use Rattle.keeper_file.proofs.CompileAnswers.{compile_answer}

-- ---- how long a word is at least, by its meaning

abbrev Least : {A : Type 0} → (List ℕ → A → Type 0) → (A → ℕ) → Type 0
Least {A} L n = (w : List ℕ) (v : A) → L w v → n v ≤ length w

any_least : {A : Type 0} (L : List ℕ → A → Type 0) → Least L (λ v. 0)
any_least L w v l = omega arith

join_least
    : {A B : Type 0} (F : List ℕ → A → Type 0) (G : List ℕ → B → Type 0) (f : A → ℕ) (g : B → ℕ) → Least F f → Least G g
    → Least (Join F G) (λ v. f v.0 + g v.1)
join_least F G f g first second w v j =
    omega (
      arith,
      ap (λ (s : List ℕ). length s) j.splits,
      length-append j.left j.right,
      first j.left v.0 j.first,
      second j.right v.1 j.second,
    )

behind_least : {A : Type 0} (c : ℕ) (G : List ℕ → A → Type 0) (g : A → ℕ) → Least G g → Least (Behind c G) (λ v. suc (g v))
behind_least c G g least [] v b = absurd b
behind_least c G g least (a ∷ w) v b = omega (arith, least w v b.1)

table_least : (rows : List Row) → (done (start rows)).good ≡ false → Least (Choice rows) (λ v. 1)
table_least rows e [] v c = absurd (table_empty rows e v c)
table_least rows e (b ∷ w) v c = omega arith

-- A row of at most so many more has a byte for each.
more_least : {A : Type 0} (F : List ℕ → A → Type 0) (c n : ℕ) → Least (More F c n) (λ vs. length vs)
more_least F c zero w vs m = rw m.1 (omega arith)
more_least F c (suc n) w vs (inl e) = rw e.1 (omega arith)
more_least F c (suc n) [] vs (inr b) = absurd b
more_least F c (suc n) (a ∷ w) vs (inr b) =
    let rest = join_least F (More F c n) (λ v. 0) (λ us. length us) (any_least F) (more_least F c n) w b.1.0 b.1.1 in
    rw b.1.2 (omega (arith, rest))

-- ---- the fields of a line

label_least : Least (Choice label) (λ v. 1)
unfolding label done
label_least = table_least label refl

version_least : Least (Choice version) (λ v. 1)
unfolding version done
version_least = table_least version refl

byte_least : Least (Choice bare_byte) (λ v. 1)
unfolding bare_byte done
byte_least = table_least bare_byte refl

mss_least : Least (Choice mss) (λ v. 1)
unfolding mss done
mss_least = table_least mss refl

window_least : Least (Choice window) (λ v. 1)
unfolding window done
window_least = table_least window refl

scale_least : Least (Choice scale) (λ v. 1)
unfolding scale done
scale_least = table_least scale refl

payload_least : Least (Choice payload) (λ v. 1)
unfolding payload done
payload_least = table_least payload refl

entry_least : Least (Choice entry) (λ v. 1)
unfolding entry done
entry_least = table_least entry refl

ttl_least : Least TtlText (λ v. 1)
ttl_least w v t = omega (arith, join_least (Choice bare_byte) (Choice ttl_form) (λ u. 1) (λ u. 0) byte_least (any_least _) w v t)

layout_least : Least LayoutText (λ vs. length vs)
layout_least w vs (inl e) = rw e.1 (omega arith)
layout_least w vs (inr l) =
    let row = join_least (Choice entry) (More (Choice entry) comma 39) (λ v. 1) (λ us. length us) entry_least (more_least _ comma 39) in
    rw l.2 (omega (arith, row w l.0 l.1))

-- ---- the line

-- A field that is not empty, the byte behind it, and the rest.
field_least
    : {A B : Type 0} (F : List ℕ → A → Type 0) (c : ℕ) (G : List ℕ → B → Type 0) (g : B → ℕ) → Least F (λ v. 1) → Least G g
    → Least (Then F c G) (λ v. 2 + g v.1)
field_least F c G g first second w v t =
    omega (arith, join_least F (Behind c G) (λ u. 1) (λ u. suc (g u)) first (behind_least c G g second) w v t)

after_scale_least : Least AfterScale (λ v. 3 + length v.0)
after_scale_least w v a =
    let behind = join_least QuirksText (Behind colon (Choice payload)) (λ u. 0) (λ u. 2) (any_least QuirksText)
    (behind_least colon (Choice payload) (λ u. 1) payload_least) in
    omega (arith, join_least LayoutText _ (λ vs. length vs) _ layout_least (behind_least colon _ (λ u. 2) behind) w v a)

after_olen_least : Least AfterOlen (λ v. 2 + (2 + (2 + (3 + length v.1.1.1.0))))
after_olen_least =
    field_least (Choice mss) colon _ _ mss_least
    (field_least (Choice window) comma _ _ window_least
    (field_least (Choice scale) colon AfterScale _ scale_least after_scale_least))

line_least : Least LineSays (λ f. 15 + length f.layout)
unfolding LineSays
line_least w f l =
    let parts =
    field_least (Choice version) colon _ _ version_least
    (field_least TtlText colon _ _ ttl_least (field_least (Choice bare_byte) colon AfterOlen _ byte_least after_olen_least)) in
    rw l.2 (omega (arith, parts w l.0 l.1))

-- A signature line has at least 17 bytes, and one more for each entry.
kept_least : Least KeptLine (λ m. 17 + m.layout.count)
unfolding KeptLine layout_of
kept_least w m k =
    let behind = join_least (Choice mark) LineSays (λ u. 0) (λ f. 15 + length f.layout) (any_least (Choice mark)) line_least in
    rw k.2 (omega (arith, field_least (Choice label) blank (Join (Choice mark) LineSays) _ label_least behind w k.0 k.1))

-- ---- the lines of a file

abbrev bytes_of : List (List ℕ) → ℕ
bytes_of [] = 0
bytes_of (s ∷ lines) = length s + bytes_of lines

abbrev text_of : List Numbered → ℕ
text_of [] = 0
text_of (line ∷ lines) = length line.text + text_of lines

into_first_lem : (b : ℕ) (lines : List (List ℕ)) → bytes_of (into_first b lines) ≡ suc (bytes_of lines)
into_first_lem b [] = refl
into_first_lem b (s ∷ lines) = omega arith

-- They have together at most its bytes.
lines_within : (s : List ℕ) → bytes_of (lines_of s) ≤ length s
unfolding lines_of
lines_within [] = omega arith
lines_within (b ∷ s) =
    by (eqb b line_feed) (eqb b carriage_return && begins_with line_feed s) (lines_of s) (lines_within s)
  where
    by
        : (feed return : Bool) (lines : List (List ℕ)) → bytes_of lines ≤ length s
        → bytes_of (cond feed ([] ∷ lines) (cond return lines (into_first b lines))) ≤ suc (length s)
    by true return lines h = omega arith
    by false true lines h = omega arith
    by false false lines h = omega (arith, into_first_lem b lines)

-- Some of them are signature lines.
kept_within : (k : ℕ) (lines : List (List ℕ)) → text_of (numbered_from k lines) ≤ bytes_of lines
unfolding numbered_from
kept_within k [] = omega arith
kept_within k (s ∷ lines) = by (passed_over s) (numbered_from (k + 1) lines) (kept_within (k + 1) lines)
  where
    by
        : (passed : Bool) (rest : List Numbered) → text_of rest ≤ bytes_of lines
        → text_of (keep_unless passed (record { number = k; text = s }) rest) ≤ length s + bytes_of lines
    by true rest h = omega arith
    by false rest h = omega arith

-- ---- the list

each_within
    : (lines : List Numbered) (ms : List LineMeaning) → EachMeans lines ms → 2 * entry_total ms + 24 * length ms ≤ 2 * text_of lines
unfolding entry_total
each_within lines ms EachMeans.none = omega arith
each_within lines ms (EachMeans.one_more {line = line} {lines = others} {m = m} {ms = rest} means each) =
    omega (arith, kept_least line.text m means.says, each_within others rest each)

-- A file's list has at most twice the file's bytes, and 8.
pub twice_enough
    : (file : List ℕ) (ms : List LineMeaning) → EachMeans (signature_lines file) ms → list_size ms ≤ 8 + 2 * length file
unfolding signature_lines
twice_enough file ms each =
    omega (
      arith,
      each_within (signature_lines file) ms each,
      kept_within 1 (lines_of file),
      lines_within file,
    )

-- Hence a buffer of so many bytes never meets 15.
pub never_short
    : (file : List ℕ) (room : ℕ) → 8 + 2 * length file ≤ room → number_of (compiled_verdict (compile_file file room).answer) ≡ 15 → ⊥
unfolding refusing_line
never_short file room enough = by (compile_file file room) (compile_answer file room)
  where
    by : (x : Lined (Result ℕ LineRefusal)) → CompileAnswer file room x → number_of (compiled_verdict x.answer) ≡ 15 → ⊥
    by x (CompileAnswer.bad_line line at before refused) e = let no : ◌≡◌ {A = ℕ} 13 15 = e in omega arith
    by x (CompileAnswer.too_many_signatures all line before full few) e = let no : ◌≡◌ {A = ℕ} 24 15 = e in omega arith
    by x (CompileAnswer.too_many_entries all line before m means few small large) e = let no : ◌≡◌ {A = ℕ} 25 15 = e in omega arith
    by x (CompileAnswer.no_room all few small short) e = omega (arith, twice_enough file all.means all.each)
    by x (CompileAnswer.compiled_list list' says fits) e = let no : ◌≡◌ {A = ℕ} 0 15 = e in omega arith
