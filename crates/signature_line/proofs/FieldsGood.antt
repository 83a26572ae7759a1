-- What every line's fields hold: each number within its bound, each code one of its field's, a number 0 where the form has none, the
-- quirks among the seventeen.
use Prim.Native.Nat.{ℕ, zero, suc, ◌^◌, ◌<◌, ◌≤◌}
use mathlib.Core.Path.{◌≡◌, refl}
use mathlib.Core.Logic.{inl, inr}
use mathlib.Core.Bool.{Bool, true, false, cond, ◌||◌}
use mathlib.Core.List.{List, [], ◌∷◌}
use native.Mathlib.Omega.{arith}
use lib.Bits.{bit_or, or_lt}
use lib.Dec.{eqb, lit<}
use lib.ListN.{length}
use borrow.Author.Tests.{le-leb}
use Rattle.quirks.specs.declared.Quirk.{Quirk}
use Rattle.quirks.specs.declared.Quirk.TheVariants as quirk
use Rattle.quirks.specs.Quirks.{bit_of, bits_of, set_of, with}
use Rattle.quirks.specs.Named.{empty, from_quirks, seventeen}
use Rattle.quirks.proofs.Named.{seventeen_bits}
use Rattle.quirks.proofs.Subset.{difference_empty}
use Rattle.quirks.proofs.Within.{Within, bit_small, within_empty, within_with}
use Rattle.sigrecord.specs.Layout.{entry_good}
use Rattle.sigrecord.specs.WellFormed.{version_good, ttl_good, presence_good, window_good, payload_good, quirks_good}
use Rattle.grammar.specs.Language.{Behind, Then, More}
use Rattle.grammar.specs.Table.{Said, said, Choice}
use Rattle.grammar.proofs.Tables.{table_holds}
use Rattle.signature_line.specs.Line.{colon, comma, TtlText, LayoutText, QuirksText, AfterScale, AfterOlen, LineSays}
use Rattle.signature_line.specs.Meaning.{Fields, kind_said, byte_said, union_from}
use Rattle.signature_line.specs.Words.{version, bare_byte, ttl_form, mss, window, scale, entry, quirk_word, payload}

-- What holds of each of a row, one after the other.
infixr 2 ◌then◌
abbrev pub ◌then◌ : {A B : Type 0} → A → B → A × B
a then b = (a, b)

-- ---- one field

version_good_lem : (w : List ℕ) (v : Said) → Choice version w v → (version_good v.form ≡ true) × (v.form < 256)
unfolding version version_good
version_good_lem =
    table_holds (λ f n. (version_good f ≡ true) × (f < 256)) version
    ((refl, lit< tt) then (refl, lit< tt) then (refl, lit< tt) then tt)

byte_good : (w : List ℕ) (v : Said) → Choice bare_byte w v → v.number < 256
unfolding bare_byte
byte_good = table_holds (λ f n. n < 256) bare_byte (λ n h a. omega arith, tt)

-- A code of the field, with a number that it may have.
pub record Coded (good : ℕ → ℕ → Bool) (max code n : ℕ) : Type 0 where
  pub listed : good code n ≡ true
  pub small : code < 256
  pub within : n ≤ max

alone : (good : ℕ → ℕ → Bool) (max code : ℕ) → good code 0 ≡ true → code < 256 → Coded good max code 0
alone good max code g h = record { listed = g; small = h; within = omega arith }

ttl_good_lem : (w : List ℕ) (v : Said) → Choice ttl_form w v → Coded ttl_good 255 v.form v.number
unfolding ttl_form ttl_good
ttl_good_lem =
    let form = alone ttl_good 255 in
    table_holds (Coded ttl_good 255) ttl_form
    (form 0 refl (lit< tt)
    then (λ n h a. record { listed = refl; small = lit< tt; within = h })
    then form 2 refl (lit< tt)
    then form 3 refl (lit< tt)
    then tt)

mss_good : (w : List ℕ) (v : Said) → Choice mss w v → Coded presence_good 65535 v.form v.number
unfolding mss presence_good
mss_good =
    table_holds (Coded presence_good 65535) mss
    (alone presence_good 65535 0 refl (lit< tt)
    then (λ n h a. record { listed = refl; small = lit< tt; within = h })
    then tt)

scale_good : (w : List ℕ) (v : Said) → Choice scale w v → Coded presence_good 255 v.form v.number
unfolding scale presence_good
scale_good =
    table_holds (Coded presence_good 255) scale
    (alone presence_good 255 0 refl (lit< tt)
    then (λ n h a. record { listed = refl; small = lit< tt; within = h })
    then tt)

window_good_lem : (w : List ℕ) (v : Said) → Choice window w v → Coded window_good 65535 v.form v.number
unfolding window window_good
window_good_lem =
    table_holds (Coded window_good 65535) window
    (alone window_good 65535 0 refl (lit< tt)
    then (λ n h a. record { listed = refl; small = lit< tt; within = h })
    then (λ n h a. record { listed = refl; small = lit< tt; within = h })
    then (λ n h a. record { listed = le-leb n 255 h; small = lit< tt; within = omega arith })
    then (λ n h a. record { listed = le-leb n 255 h; small = lit< tt; within = omega arith })
    then tt)

payload_good_lem : (w : List ℕ) (v : Said) → Choice payload w v → (payload_good v.form ≡ true) × (v.form < 256)
unfolding payload payload_good
payload_good_lem =
    table_holds (λ f n. (payload_good f ≡ true) × (f < 256)) payload
    ((refl, lit< tt) then (refl, lit< tt) then (refl, lit< tt) then tt)

-- ---- rows

-- Every one of a row.
abbrev pub Each : {A : Type 0} → (A → Type 0) → List A → Type 0
Each P [] = Unit
Each P (v ∷ vs) = P v × Each P vs

module _ {A : Type 0} (F : List ℕ → A → Type 0) (c : ℕ) (P : A → Type 0) (holds : (w : List ℕ) (v : A) → F w v → P v) where
  pub more_each : (n : ℕ) (w : List ℕ) (vs : List A) → More F c n w vs → Each P vs × (length vs ≤ n)
  more_each zero w vs m = rw m.1 (tt, omega arith)
  more_each (suc n) w vs (inl m) = rw m.1 (tt, omega arith)
  more_each (suc n) [] vs (inr m) = absurd m
  more_each (suc n) (b ∷ w) vs (inr m) =
      let l = m.1 in
      let rest = more_each n l.1.right l.0.1 l.1.second in
      rw l.2 ((holds l.1.left l.0.0 l.1.first, rest.0), omega (arith, rest.1))

-- ---- entries

-- A kind and a byte, which is 0 unless the kind is.
pub record EntryGood (e : Said) : Type 0 where
  pub good : entry_good (kind_said e) (byte_said e) ≡ true
  pub kind : kind_said e < 256
  pub byte : byte_said e < 256

or_right : (a : Bool) → a || true ≡ true
or_right true = refl
or_right false = refl

named : (kind : ℕ) → eqb kind 6 ≡ false → kind < 256 → EntryGood (said kind 0)
unfolding kind_said byte_said entry_good
named kind other small =
    let same : kind_said (said kind 0) ≡ kind = rw other in
    let none : byte_said (said kind 0) ≡ 0 = by (eqb kind 0) in
    record { good = rw none; kind = rw same small; byte = rw none (lit< tt) }
  where
    by : (t : Bool) → cond {A = ℕ} t 0 0 ≡ 0
    by true = refl
    by false = refl

pub entry_good_lem : (w : List ℕ) (v : Said) → Choice entry w v → EntryGood v
unfolding entry kind_said byte_said entry_good
entry_good_lem =
    table_holds (λ f n. EntryGood (said f n)) entry
    ((λ n h a. record { good = or_right (eqb n 0); kind = lit< tt; byte = omega arith })
    then named 1 refl (lit< tt)
    then named 2 refl (lit< tt)
    then named 3 refl (lit< tt)
    then named 4 refl (lit< tt)
    then named 5 refl (lit< tt)
    then named 8 refl (lit< tt)
    then (λ n h a. record { good = refl; kind = omega arith; byte = lit< tt })
    then tt)

pub layout_good : (w : List ℕ) (vs : List Said) → LayoutText w vs → Each EntryGood vs × (length vs ≤ 40)
layout_good w vs (inl l) = rw l.1 (tt, omega arith)
layout_good w vs (inr l) =
    let rest = more_each (Choice entry) comma EntryGood entry_good_lem 39 l.1.right l.0.1 l.1.second in
    rw l.2 ((entry_good_lem l.1.left l.0.0 l.1.first, rest.0), omega (arith, rest.1))

-- ---- quirks

-- Each is the bit of a quirk.
abbrev IsQuirk : Said → Type 0
IsQuirk v = (q : Quirk) × (v.form ≡ bit_of q)

quirk_good : (w : List ℕ) (v : Said) → Choice quirk_word w v → IsQuirk v
unfolding quirk_word
quirk_good =
    table_holds (λ f n. (q : Quirk) × (f ≡ bit_of q)) quirk_word
    (the quirk.Df
    then the quirk.NonZeroID
    then the quirk.ZeroID
    then the quirk.Ecn
    then the quirk.MustBeZero
    then the quirk.FlowID
    then the quirk.SeqNumZero
    then the quirk.AckNumNonZero
    then the quirk.AckNumZero
    then the quirk.NonZeroURG
    then the quirk.Urg
    then the quirk.Push
    then the quirk.OwnTimestampZero
    then the quirk.PeerTimestampNonZero
    then the quirk.TrailinigNonZero
    then the quirk.ExcessiveWindowScaling
    then the quirk.OptBad
    then tt)
  where
    the : (q : Quirk) → (p : Quirk) × (bit_of q ≡ bit_of p)
    the q = (q, refl)

quirks_named : (w : List ℕ) (vs : List Said) → QuirksText w vs → Each IsQuirk vs
quirks_named w vs (inl l) = rw l.1 tt
quirks_named w vs (inr l) =
    let m = l.1.second in
    let rest = more_each (Choice quirk_word) comma IsQuirk quirk_good m.0 l.1.right l.0.1 m.1 in
    rw l.2 (quirk_good l.1.left l.0.0 l.1.first, rest.0)

-- Bits of a 32-bit number, all of them quirks'.
record Among (bits : ℕ) : Type 0 where
  within : Within (set_of bits)
  small : bits < 2 ^ 32

one_more : (bits : ℕ) (q : Quirk) → Among bits → Among (bit_or bits (bit_of q))
unfolding with
one_more bits q a =
    record { within = within_with (set_of bits) q a.within; small = or_lt 32 bits (bit_of q) a.small (bit_small q) }

union_among : (bits : ℕ) (vs : List Said) → Each IsQuirk vs → Among bits → Among (union_from bits vs)
unfolding union_from
union_among bits [] each a = a
union_among bits (v ∷ vs) each a = union_among (bit_or bits v.form) vs each.1 (rw each.0.1 (one_more bits each.0.0 a))

none_among : Among 0
unfolding empty from_quirks
none_among = record { within = within_empty; small = lit< tt }

pub seventeen_small : bits_of seventeen < 2 ^ 32
seventeen_small = rw seventeen_bits (lit< tt)

among_good : (bits : ℕ) → Among bits → quirks_good bits ≡ true
unfolding quirks_good Within
among_good bits a = (difference_empty (set_of bits) seventeen seventeen_small a.small).1 a.within

-- ---- the whole line

pub record FieldsGood (f : Fields) : Type 0 where
  pub version : version_good f.version.form ≡ true
  pub version_small : f.version.form < 256
  pub ttl : f.ttl.number < 256
  pub ttl_form : Coded ttl_good 255 f.ttl_form.form f.ttl_form.number
  pub olen : f.olen.number < 256
  pub mss : Coded presence_good 65535 f.mss.form f.mss.number
  pub window : Coded window_good 65535 f.window.form f.window.number
  pub scale : Coded presence_good 255 f.scale.form f.scale.number
  pub layout : Each EntryGood f.layout
  pub layout_count : length f.layout ≤ 40
  pub quirks : quirks_good (union_from 0 f.quirks) ≡ true
  pub quirks_small : union_from 0 f.quirks < 2 ^ 32
  pub payload : payload_good f.payload.form ≡ true
  pub payload_small : f.payload.form < 256

pub fields_good : (s : List ℕ) (f : Fields) → LineSays s f → FieldsGood f
unfolding LineSays
fields_good s f l =
    let ver = l.1 in
    let p = l.0.1 in
    let q = p.1.1.1 in
    let ttl = (inner colon (Then TtlText colon (Then (Choice bare_byte) colon AfterOlen)) p ver.right ver.second).1 in
    let olen = (inner colon (Then (Choice bare_byte) colon AfterOlen) p.1 ttl.right ttl.second).1 in
    let mss = (inner colon AfterOlen p.1.1 olen.right olen.second).1 in
    let wsize = (inner colon (Then (Choice window) comma (Then (Choice scale) colon AfterScale)) q mss.right mss.second).1 in
    let scale = (inner comma (Then (Choice scale) colon AfterScale) q.1 wsize.right wsize.second).1 in
    let olayout = (inner colon AfterScale q.1.1 scale.right scale.second).1 in
    let quirks = (inner colon (Then QuirksText colon (Choice payload)) q.1.1.1 olayout.right olayout.second).1 in
    let pclass = inner colon (Choice payload) q.1.1.1.1 quirks.right quirks.second in
    let among = union_among 0 _ (quirks_named quirks.left _ quirks.first) none_among in
    rw l.2
    (record {
      version = (version_good_lem ver.left _ ver.first).0;
      version_small = (version_good_lem ver.left _ ver.first).1;
      ttl = byte_good ttl.first.left _ ttl.first.first;
      ttl_form = ttl_good_lem ttl.first.right _ ttl.first.second;
      olen = byte_good olen.left _ olen.first;
      mss = mss_good mss.left _ mss.first;
      window = window_good_lem wsize.left _ wsize.first;
      scale = scale_good scale.left _ scale.first;
      layout = (layout_good olayout.left _ olayout.first).0;
      layout_count = (layout_good olayout.left _ olayout.first).1;
      quirks = among_good _ among;
      quirks_small = among.small;
      payload = (payload_good_lem pclass.0 _ pclass.1).0;
      payload_small = (payload_good_lem pclass.0 _ pclass.1).1;
    })
  where
    inner : {A : Type 0} (c : ℕ) (L : List ℕ → A → Type 0) (v : A) (w : List ℕ) → Behind c L w v → (x : List ℕ) × L x v
    inner c L v [] h = absurd h
    inner c L v (b ∷ w) h = (w, h.1)
