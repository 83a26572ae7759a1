-- The fields of a line whose quirks rise are those that are written of its record and its layout.
use Prim.Native.Nat.{ℕ, zero, suc, ◌+◌, ◌*◌, ◌/◌, ◌%◌, ◌≤◌}
use mathlib.Core.Path.{◌≡◌, refl}
use mathlib.Core.Logic.{inl, inr}
use mathlib.Core.Bool.{true, false≢true}
use mathlib.Core.List.{List, [], ◌∷◌}
use native.Mathlib.Omega.{arith}
use native.Mathlib.Nat.{suc-ne-zero}
use borrow.Author.Tests.{ne_eqb}
use Rattle.basis.specs.Bytes.{be16, be32}
use Rattle.quirks.specs.Named.{display_order}
use Rattle.ttl.specs.Ttl.{byte_of}
use Rattle.sigrecord.specs.Record.{version_of, ttl_of, mss_of, scale_of, window_of, payload_of, signature_of}
use Rattle.grammar.specs.Language.{Join, Behind, Then}
use Rattle.grammar.specs.Table.{Said, said, Choice}
use Rattle.grammar.proofs.Tables.{table_holds}
use Rattle.signature_line.specs.Line.{colon, comma, LayoutText, QuirksText, Parts, fields, LineSays}
use Rattle.signature_line.specs.Meaning.{Fields, kind_said, byte_said, union_from, layout_of, raw_of}
use Rattle.signature_line.specs.OneRecord.{entries_in}
use Rattle.signature_line.specs.Words.{version, bare_byte, ttl_form, mss, window, scale, unnamed, entry, quirk_word, payload}
use Rattle.signature_line.proofs.Arrays.{in_turn, entries_in_lem}
use Rattle.signature_line.proofs.FieldsGood.{◌then◌, Each, more_each}
use Rattle.written_line.specs.Signature.{version_said, form_said, mss_said, scale_said, window_said, payload_said, entry_said, entries_said}
use Rattle.written_line.specs.Signature.{fields_of}
use Rattle.written_line.specs.WrittenForm.{RisingIn}
use Rattle.written_line.proofs.QuirksBack.{Bare, quirks_back}

-- ---- one field

-- What every word of a language says.
abbrev Says : {A : Type 0} → (List ℕ → A → Type 0) → (A → Type 0) → Type 0
Says {A} L P = (w : List ℕ) (v : A) → L w v → P v

abbrev VersionBack : Said → Type 0
VersionBack v = version_said (version_of v.form) ≡ v

version_back : Says (Choice version) VersionBack
unfolding version version_of
version_back = table_holds (λ f n. VersionBack (said f n)) version (refl then refl then refl then tt)

abbrev ByteBack : Said → Type 0
ByteBack v = v.form ≡ 0

byte_back : Says (Choice bare_byte) ByteBack
unfolding bare_byte
byte_back = table_holds (λ f n. f ≡ 0) bare_byte (λ n h a. refl, tt)

-- The form and the distance, and the number before them, whatever it is.
abbrev FormBack : Said → Type 0
FormBack v = (t : ℕ) → (form_said (ttl_of v.form t v.number) ≡ v) × (byte_of (ttl_of v.form t v.number) ≡ t)

form_back : Says (Choice ttl_form) FormBack
unfolding ttl_form ttl_of
form_back =
    table_holds (λ f n. FormBack (said f n)) ttl_form
    ((λ t. (refl, refl)) then (λ n h a t. (refl, refl)) then (λ t. (refl, refl)) then (λ t. (refl, refl)) then tt)

abbrev MssBack : Said → Type 0
MssBack v = mss_said (mss_of v.form v.number) ≡ v

mss_back : Says (Choice mss) MssBack
unfolding mss mss_of
mss_back = table_holds (λ f n. MssBack (said f n)) mss (refl then (λ n h a. refl) then tt)

abbrev ScaleBack : Said → Type 0
ScaleBack v = scale_said (scale_of v.form v.number) ≡ v

scale_back : Says (Choice scale) ScaleBack
unfolding scale scale_of
scale_back = table_holds (λ f n. ScaleBack (said f n)) scale (refl then (λ n h a. refl) then tt)

-- A multiple is one byte.
small : (f n : ℕ) → n ≤ 255 → said f (n % 256) ≡ said f n
small f n h = let same : n % 256 ≡ n = omega arith in rw same

abbrev WindowBack : Said → Type 0
WindowBack v = window_said (window_of v.form v.number) ≡ v

window_back : Says (Choice window) WindowBack
unfolding window window_of
window_back =
    table_holds (λ f n. WindowBack (said f n)) window
    (refl then (λ n h a. refl) then (λ n h a. refl) then (λ n h a. small 3 n h) then (λ n h a. small 4 n h) then tt)

abbrev PayloadBack : Said → Type 0
PayloadBack v = payload_said (payload_of v.form) ≡ v

payload_back : Says (Choice payload) PayloadBack
unfolding payload payload_of
payload_back = table_holds (λ f n. PayloadBack (said f n)) payload (refl then refl then refl then tt)

-- ---- rows

abbrev EntryBack : Said → Type 0
EntryBack e = entry_said (kind_said e) (byte_said e) ≡ e

-- A kind without a name is not 0.
not_end : (n : ℕ) → unnamed n ≡ true → entry_said n 0 ≡ said 6 n
unfolding entry_said unnamed
not_end zero u = absurd (false≢true u)
not_end (suc n) u = rw (ne_eqb (suc n) 0 (suc-ne-zero n), u)

entry_back : Says (Choice entry) EntryBack
unfolding entry kind_said byte_said entry_said unnamed
entry_back =
    table_holds (λ f n. EntryBack (said f n)) entry
    ((λ n h a. refl) then refl then refl then refl then refl then refl then refl then (λ n h a. not_end n a) then tt)

word_back : Says (Choice quirk_word) (λ (v : Said). v.number ≡ 0)
unfolding quirk_word
word_back =
    table_holds (λ f n. n ≡ 0) quirk_word
    (refl
    then refl
    then refl
    then refl
    then refl
    then refl
    then refl
    then refl
    then refl
    then refl
    then refl
    then refl
    then refl
    then refl
    then refl
    then refl
    then refl
    then tt)

layout_back : Says LayoutText (Each EntryBack)
layout_back w vs (inl l) = rw l.1 tt
layout_back w vs (inr l) =
    let rest = more_each (Choice entry) comma EntryBack entry_back 39 l.1.right l.0.1 l.1.second in
    rw l.2 (entry_back l.1.left l.0.0 l.1.first, rest.0)

words_back : Says QuirksText Bare
words_back w vs (inl l) = rw l.1 tt
words_back w vs (inr l) =
    let m = l.1.second in
    let rest = more_each (Choice quirk_word) comma (λ v. v.number ≡ 0) word_back m.0 l.1.right l.0.1 m.1 in
    rw l.2 (word_back l.1.left l.0.0 l.1.first, rest.0)

entries_back : (es : List Said) → Each EntryBack es → entries_said (in_turn es) ≡ es
unfolding entries_said
entries_back [] all = refl
entries_back (e ∷ es) all = rw (all.0, entries_back es all.1)

-- ---- the whole line

join_says : {A B : Type 0} {F : List ℕ → A → Type 0} {G : List ℕ → B → Type 0} {P : A → Type 0} {Q : B → Type 0}
    → Says F P → Says G Q → Says (Join F G) (λ m. P m.0 × Q m.1)
join_says f g w m j = (f j.left m.0 j.first, g j.right m.1 j.second)

behind_says : {A : Type 0} {L : List ℕ → A → Type 0} {P : A → Type 0} (c : ℕ) → Says L P → Says (Behind c L) P
behind_says c l [] v h = absurd h
behind_says c l (b ∷ w) v h = l w v h.1

then_says : {A B : Type 0} {F : List ℕ → A → Type 0} {G : List ℕ → B → Type 0} {P : A → Type 0} {Q : B → Type 0} (c : ℕ)
    → Says F P → Says G Q → Says (Then F c G) (λ m. P m.0 × Q m.1)
then_says c f g = join_says f (behind_says c g)

two : (n : ℕ) → n / 256 * 256 + n % 256 ≡ n
two n = omega arith

four : (n : ℕ) → (n / 16777216 * 256 + n / 65536 % 256) * 65536 + (n / 256 % 256 * 256 + n % 256) ≡ n
four n = omega arith

bare_number : (v : Said) → ByteBack v → said 0 v.number ≡ v
bare_number v e = rw e

abbrev PartsBack : Parts → Type 0
PartsBack p =
    VersionBack p.0
    × ((ByteBack p.1.0.0 × FormBack p.1.0.1)
    × (ByteBack p.1.1.0
    × (MssBack p.1.1.1.0
    × (WindowBack p.1.1.1.1.0
    × (ScaleBack p.1.1.1.1.1.0
    × (Each EntryBack p.1.1.1.1.1.1.0 × (Bare p.1.1.1.1.1.1.1.0 × PayloadBack p.1.1.1.1.1.1.1.1)))))))

parts_back : (p : Parts) → PartsBack p → RisingIn display_order (fields p).quirks
    → fields_of (signature_of (raw_of (fields p))) (entries_in (layout_of (fields p).layout)) ≡ fields p
unfolding fields_of signature_of raw_of be16 be32
parts_back p (ver, ((ttl, form), (olen, (mss, (wsize, (scale, (olayout, (words, pclass)))))))) rising =
    let f = fields p in
    rw (
      two f.mss.number,
      two f.window.number,
      four (union_from 0 f.quirks),
      entries_in_lem f.layout,
      ver,
      (form f.ttl.number).0,
      (form f.ttl.number).1,
      bare_number f.ttl ttl,
      bare_number f.olen olen,
      mss,
      wsize,
      scale,
      entries_back f.layout olayout,
      quirks_back f.quirks words rising,
      pclass,
    )

pub fields_back : (s : List ℕ) (f : Fields) → LineSays s f → RisingIn display_order f.quirks
    → fields_of (signature_of (raw_of f)) (entries_in (layout_of f.layout)) ≡ f
unfolding LineSays
fields_back s f l rising =
    let whole : PartsBack l.0 =
    then_says colon version_back
    (then_says colon (join_says byte_back form_back)
    (then_says colon byte_back
    (then_says colon mss_back
    (then_says comma window_back
    (then_says colon scale_back (then_says colon layout_back (then_says colon words_back payload_back)))))))
    s l.0 l.1 in
    rw l.2 (parts_back l.0 whole (rw l.2 at rising))
