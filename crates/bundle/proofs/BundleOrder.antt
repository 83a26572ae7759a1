-- Laws of refusal 12: a bundle does not fit by one of four reasons, and one that fits has none of them; all packets of one that passes
-- its check are answered.
use Rattle.std.specs.Prelude.{Result, Ok, Err}
use mathlib.Core.Path.{◌≡◌, refl, sym, ◌∙◌, ap}
use mathlib.Core.Bool.{Bool, true, false, cond, ◌&&◌, false≢true}
use mathlib.Core.List.{List, ◌∷◌}
use Prim.Native.Nat.{ℕ, zero, suc, ◌+◌, ◌<◌, ◌≤◌}
use native.Mathlib.Omega.{arith}
use native.Mathlib.Decide.{ℕ_discrete}
use lib.Dec.{leb}
use lib.ListN.{length}
use borrow.Author.Tests.{leb-true, leb-false, le-leb}
use Rattle.basis.proofs.Tests.{and_left, and_right}
use Rattle.refusals.specs.declared.Refusal.TheVariants as refusal
use Rattle.refusals.specs.Refusals.{number}
use Rattle.siglist.specs.List.{check_list, list_refusal}
use Rattle.refusals.specs.declared.ListRefusal.{ListRefusal}
use Rattle.bundle.specs.declared.BundleRefusal.TheVariants as check
use Rattle.bundle.specs.Bundle.{packet_count, packets_offset, list_length, list_offset, list_of, packet_end, packet_fits, packets_fit}
use Rattle.bundle.specs.Bundle.{list_lies, bundle_fits, of_list, check_bundle, bundle_refusal}
use Rattle.flow.specs.declared.Mode.{Mode}
use Rattle.bundle.specs.Answers.{answer_at, packet_lies, start_of, answers_from}
use Rattle.bundle.proofs.Packets.{head_within, end_within, head_before_end, start_first}
use Rattle.bundle.proofs.Packets.{packets_within, list_within, at_most, fits_lies}

fits_by : (b : List ℕ) (at : ℕ) → packet_end b at ≤ length b → packet_fits b at ≡ true
unfolding packet_fits
fits_by b at h =
    rw (le-leb (at + 4) (length b) (omega (arith, head_before_end b at)), le-leb (packet_end b at) (length b) h)

-- A packet that does not fit goes past the end.
packet_past : (b : List ℕ) (at : ℕ) → packet_fits b at ≡ false → length b < packet_end b at
packet_past b at fails = by_end (leb (packet_end b at) (length b)) refl
  where
    by_end : (t : Bool) → leb (packet_end b at) (length b) ≡ t → length b < packet_end b at
    by_end false e = leb-false (packet_end b at) (length b) e
    by_end true e = absurd (false≢true (sym fails ∙ fits_by b at (leb-true (packet_end b at) (length b) e)))

-- Of packets that do not all fit, one goes past the end.
pub record Past (b : List ℕ) (n : ℕ) : Type 0 where
  pub packet : ℕ
  pub counted : packet < n
  pub past : length b < packet_end b (start_of b packet)

abbrev wider : {b : List ℕ} {m n : ℕ} → m ≤ n → Past b m → Past b n
wider h p = record { packet = p.packet; counted = omega (arith, h, p.counted); past = p.past }

past_of : (b : List ℕ) (n i : ℕ) → start_of b i ≤ length b → packets_fit b (start_of b i) n ≡ false → Past b (i + n)
unfolding packets_fit start_of
past_of b zero i inside fails = absurd (false≢true (sym fails ∙ le-leb (start_of b i) (length b) inside))
past_of b (suc n) i inside fails = by_first (packet_fits b (start_of b i)) refl (past_of b n (suc i))
  where
    by_first
        : (t : Bool)
        → packet_fits b (start_of b i) ≡ t
        → (start_of b (suc i) ≤ length b → packets_fit b (start_of b (suc i)) n ≡ false → Past b (suc i + n))
        → Past b (i + suc n)
    by_first false e later = record { packet = i; counted = omega arith; past = packet_past b (start_of b i) e }
    by_first true e later =
        let first = ap (λ (t : Bool). t && packets_fit b (packet_end b (start_of b i)) n) e in
        wider (omega arith) (later (end_within b (start_of b i) e) (sym first ∙ fails))

-- Each of the packets that all fit ends within the bundle.
pub each_within : (b : List ℕ) (n i j : ℕ) → packets_fit b (start_of b i) n ≡ true → i ≤ j → j < i + n → packet_fits b (start_of b j) ≡ true
unfolding packets_fit start_of
each_within b zero i j fit low high = absurd (omega arith)
each_within b (suc n) i j fit low high = by_place (ℕ_discrete i j) (each_within b n (suc i) j)
  where
    by_place
        : Dec (i ≡ j)
        → (packets_fit b (start_of b (suc i)) n ≡ true → suc i ≤ j → j < suc i + n → packet_fits b (start_of b j) ≡ true)
        → packet_fits b (start_of b j) ≡ true
    by_place (yes same) later =
        ap (λ (k : ℕ). packet_fits b (start_of b k)) (sym same) ∙ and_left (packet_fits b (start_of b i)) _ fit
    by_place (no other) later =
        later (and_right (packet_fits b (start_of b i)) _ fit) (omega arith) (omega arith)

start_within : (b : List ℕ) (at n : ℕ) → packets_fit b at n ≡ true → at ≤ length b
unfolding packets_fit
start_within b at zero fit = leb-true at (length b) fit
start_within b at (suc n) fit = omega (arith, head_within b at (and_left (packet_fits b at) _ fit))

-- ---- refusal 12

-- "bundle over 65,535 bytes, or its header, list area or a packet does not fit"
pub data Unfit (b : List ℕ) : Type 0 where
  over : 65535 < length b → Unfit b
  header : length b < 8 → Unfit b
  list_area : length b < list_offset b + list_length b → Unfit b
  offset : length b < packets_offset b → Unfit b
  a_packet : Past b (packet_count b) → Unfit b

packets_unfit
    : (b : List ℕ)
    → bundle_fits b ≡ false
    → leb (length b) 65535 ≡ true
    → leb 8 (length b) ≡ true
    → leb (list_offset b + list_length b) (length b) ≡ true
    → packets_fit b (start_of b 0) (packet_count b) ≡ false
unfolding bundle_fits list_lies start_of
packets_unfit b fails p q r =
    let areas : (leb (length b) 65535 && (leb 8 (length b) && leb (list_offset b + list_length b) (length b))) ≡ true = rw (p, q, r) in
    sym (ap (λ (t : Bool). t && packets_fit b (packets_offset b) (packet_count b)) areas) ∙ fails

pub unfit : (b : List ℕ) → bundle_fits b ≡ false → Unfit b
unfit b fails =
    by_tests
    (leb (length b) 65535) refl
    (leb 8 (length b)) refl
    (leb (list_offset b + list_length b) (length b)) refl
    (leb (packets_offset b) (length b)) refl
  where
    by_tests
        : (p : Bool) → leb (length b) 65535 ≡ p
        → (q : Bool) → leb 8 (length b) ≡ q
        → (r : Bool) → leb (list_offset b + list_length b) (length b) ≡ r
        → (s : Bool) → leb (packets_offset b) (length b) ≡ s
        → Unfit b
    by_tests false e q f r g s h = Unfit.over (leb-false (length b) 65535 e)
    by_tests true e false f r g s h = Unfit.header (leb-false 8 (length b) f)
    by_tests true e true f false g s h = Unfit.list_area (leb-false (list_offset b + list_length b) (length b) g)
    by_tests true e true f true g false h = Unfit.offset (leb-false (packets_offset b) (length b) h)
    by_tests true e true f true g true h =
        let inside : start_of b 0 ≤ length b = rw (start_first b) (leb-true (packets_offset b) (length b) h) in
        Unfit.a_packet (wider (omega arith) (past_of b (packet_count b) 0 inside (packets_unfit b fails e f g)))

pub fit_not_unfit : (b : List ℕ) → bundle_fits b ≡ true → Unfit b → ⊥
fit_not_unfit b fits (Unfit.over h) = omega (arith, at_most b fits)
fit_not_unfit b fits (Unfit.header h) = omega (arith, (list_within b fits).0)
fit_not_unfit b fits (Unfit.list_area h) = omega (arith, (list_within b fits).1)
fit_not_unfit b fits (Unfit.offset h) = omega (arith, start_within b (packets_offset b) (packet_count b) (packets_within b fits))
fit_not_unfit b fits (Unfit.a_packet p) =
    let all : packets_fit b (start_of b 0) (packet_count b) ≡ true = rw (start_first b) (packets_within b fits) in
    let this = each_within b (packet_count b) 0 p.packet all (omega arith) (omega (arith, p.counted)) in
    omega (arith, p.past, end_within b (start_of b p.packet) this)

refusal_of_list : (a : Result (Unit {0}) ListRefusal) → bundle_refusal (of_list a) ≡ list_refusal a
unfolding bundle_refusal list_refusal
refusal_of_list (Ok tt) = refl
refusal_of_list (Err r) = refl

-- "A bundle meets 12, then 9, then 10".
pub bundle_order
    : (b : List ℕ)
    → bundle_refusal (check_bundle b) ≡ cond (bundle_fits b) (list_refusal (check_list (list_of b))) (number refusal.BundleDoesNotFit)
unfolding check_bundle bundle_refusal
bundle_order b = by_fit (bundle_fits b)
  where
    by_fit
        : (t : Bool)
        → bundle_refusal (cond t (of_list (check_list (list_of b))) (Err check.DoesNotFit))
        ≡ cond t (list_refusal (check_list (list_of b))) (number refusal.BundleDoesNotFit)
    by_fit true = refusal_of_list (check_list (list_of b))
    by_fit false = refl

-- ---- all packets of a bundle that fits are answered

-- The answers of the packets from the i-th on begin with the i-th's.
pub answers_from_lem
    : (mode : Mode) (b : List ℕ)
    → bundle_fits b ≡ true
    → (n i : ℕ)
    → packets_fit b (start_of b i) (suc n) ≡ true
    → answers_from mode b (start_of b i) (suc n) ≡ answer_at mode b (start_of b i) ∷ answers_from mode b (start_of b (suc i)) n
unfolding answers_from packets_fit packet_lies start_of
answers_from_lem mode b fits n i fit = rw (fits_lies b fits, and_left (packet_fits b (start_of b i)) _ fit)

-- A bundle that fits has as many answers as packets.
answers_length
    : (mode : Mode) (b : List ℕ)
    → bundle_fits b ≡ true
    → (n i : ℕ)
    → packets_fit b (start_of b i) n ≡ true
    → length (answers_from mode b (start_of b i) n) ≡ n
unfolding answers_from packets_fit packet_lies start_of
answers_length mode b fits zero i fit = refl
answers_length mode b fits (suc n) i fit =
    rw (fits_lies b fits, and_left (packet_fits b (start_of b i)) _ fit)
    (ap suc (answers_length mode b fits n (suc i) (and_right (packet_fits b (start_of b i)) _ fit)))

pub all_answered
    : (mode : Mode) (b : List ℕ)
    → bundle_fits b ≡ true
    → length (answers_from mode b (packets_offset b) (packet_count b)) ≡ packet_count b
all_answered mode b fits =
    ap (λ (at : ℕ). length (answers_from mode b at (packet_count b))) (sym (start_first b))
    ∙ answers_length mode b fits (packet_count b) 0 (rw (start_first b) (packets_within b fits))
