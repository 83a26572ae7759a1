-- What a fit tolerates is small: its quirks are among the low eight, and its hops below 256.
use Rattle.std.specs.Prelude.{Option, Some, None}
use mathlib.Core.Path.{◌≡◌, refl, sym, ◌∙◌, ap}
use mathlib.Core.Bool.{Bool, true, false, cond, ◌&&◌}
use mathlib.Core.List.{List}
use Prim.Native.Nat.{ℕ, ◌-◌, ◌/◌, ◌%◌, ◌^◌, ◌<◌}
use native.Mathlib.Omega.{arith}
use lib.Dec.{eqb, ltb}
use lib.Bits.{bit_and, and_le_r, and_shr, and_mask}
use borrow.Author.Tests.{eqb-true}
use Rattle.basis.specs.Bytes.{byte_at, AllBytes}
use Rattle.quirks.specs.declared.QuirkSet.{QuirkSet}
use Rattle.quirks.specs.Quirks.{bits_of, is_empty, difference}
use Rattle.quirks.specs.Named.{fuzzy_deletable, fuzzy_addable}
use Rattle.quirks.proofs.Named.{fuzzy_deletable_bits, fuzzy_addable_bits}
use Rattle.ttl.specs.declared.Ttl.{Ttl}
use Rattle.ttl.specs.declared.Ttl.TheVariants as ttl
use Rattle.distances.specs.declared.TtlFit.{TtlFit}
use Rattle.distances.specs.declared.TtlFit.TheVariants as ttlfit
use Rattle.distances.specs.Distances.{initial_ttl, is_bad, out_of_range, ttl_fit}
use Rattle.matching.specs.declared.Features.{Features}
use Rattle.matching.specs.declared.SignatureFit.{SignatureFit}
use Rattle.matching.specs.declared.SignatureFit.TheVariants as fit
use Rattle.matching.specs.declared.Tolerated.{Tolerated}
use Rattle.matching.specs.Gates.{layout_matches}
use Rattle.matching.specs.Tolerance.{masked_quirks, quirks_fit, judge_in_range, judge}
use Rattle.matching.specs.Fit.{scalar_gates, tolerance_of, fit_of}
use Rattle.sigrecord.specs.Record.{ttl_of, signature_of}
use Rattle.gateway.proofs.Room.{ReasonFits}

-- ---- the quirks

-- A number of 32 bits all of whose bits are among the low eight is below 256.
small : (x m : ℕ) → x < 2 ^ 32 → m < 256 → bit_and x (2 ^ 32 - 1 - m) ≡ 0 → x < 256
small x m hx hm e =
    let gone : bit_and (x / 2 ^ 8) ((2 ^ 32 - 1 - m) / 2 ^ 8) ≡ 0 =
    sym (and_shr x (2 ^ 32 - 1 - m) 8) ∙ ap (λ (n : ℕ). n / 2 ^ 8) e in
    let mask : 2 ^ 24 - 1 ≡ (2 ^ 32 - 1 - m) / 2 ^ 8 = omega arith in
    let high : x / 2 ^ 8 % 2 ^ 24 ≡ 0 = sym (and_mask (x / 2 ^ 8) 24) ∙ ap (bit_and (x / 2 ^ 8)) mask ∙ gone in
    omega arith

-- A difference of two sets that leaves nothing outside a small set is small.
difference_small
    : (a b m : QuirkSet) → bits_of m < 256 → is_empty (difference (difference a b) m) ≡ true → bits_of (difference a b) < 256
unfolding difference is_empty
difference_small a b m hm e =
    small (bit_and (bits_of a) (2 ^ 32 - 1 - bits_of b)) (bits_of m)
    (omega (arith, and_le_r (bits_of a) (2 ^ 32 - 1 - bits_of b)))
    hm
    (eqb-true _ 0 e)

-- Both sets of tolerated quirks are small.
deletable_small : bits_of fuzzy_deletable < 256
deletable_small = rw fuzzy_deletable_bits (omega arith)

addable_small : bits_of fuzzy_addable < 256
addable_small = rw fuzzy_addable_bits (omega arith)

-- The quirks added and missing, if tolerated, are small.
abbrev QuirksSmall : Option Tolerated → Type 0
QuirksSmall None = Unit {0}
QuirksSmall (Some q) = (bits_of q.added < 256) × (bits_of q.missing < 256)

-- Tolerated quirks are small where both tests say so.
tests_small
    : (t u : Bool) (q : Tolerated)
    → (t ≡ true → bits_of q.missing < 256)
    → (u ≡ true → bits_of q.added < 256)
    → QuirksSmall (cond (t && u) (Some q) None)
tests_small true true q m a = (a refl, m refl)
tests_small true false q m a = tt
tests_small false u q m a = tt

-- All that is added or missing lies in the sets of tolerated quirks, which are small.
quirks_small_lem : (observed signature : QuirkSet) → QuirksSmall (quirks_fit observed signature)
unfolding quirks_fit
quirks_small_lem observed signature =
    tests_small
    (is_empty (difference (difference signature observed) fuzzy_deletable))
    (is_empty (difference (difference observed signature) fuzzy_addable))
    (record { added = difference observed signature; missing = difference signature observed })
    (difference_small signature observed fuzzy_deletable deletable_small)
    (difference_small observed signature fuzzy_addable addable_small)

-- ---- the hops

-- The hop distance, if out of range, is small.
abbrev TtlSmall : Option TtlFit → Type 0
TtlSmall None = Unit {0}
TtlSmall (Some (ttlfit.InRange d)) = Unit {0}
TtlSmall (Some (ttlfit.OutOfRange d)) = d < 256

-- However the three tests come out, the distance is the only number of a TTL's fit.
distance_small
    : (bad above far : Bool) (d : ℕ)
    → d < 256
    → TtlSmall (cond bad (cond above None (Some (ttlfit.InRange d))) (cond far (Some (ttlfit.OutOfRange d)) (Some (ttlfit.InRange d))))
distance_small true true far d h = tt
distance_small true false far d h = tt
distance_small false above true d h = h
distance_small false above false d h = tt

-- The distance is at most the initial TTL.
ttl_small : (observed : ℕ) (signature : Ttl) → initial_ttl signature < 256 → TtlSmall (ttl_fit observed signature)
unfolding ttl_fit
ttl_small observed signature h =
    distance_small (is_bad signature) (ltb (initial_ttl signature) observed) (out_of_range observed (initial_ttl signature))
    (initial_ttl signature - observed)
    (omega arith)

-- The initial TTL of a record, whatever its form, is a byte.
form_small
    : (value distance guess : Bool) (t d : ℕ)
    → t < 256
    → initial_ttl (cond value (ttl.Value t) (cond distance (ttl.Distance t d) (cond guess (ttl.Guess t) (ttl.Bad t)))) < 256
form_small true distance guess t d h = h
form_small false true guess t d h = omega arith
form_small false false true t d h = h
form_small false false false t d h = h

-- So it is for the codes of a record.
initial_small : (form t d : ℕ) → t < 256 → initial_ttl (ttl_of form t d) < 256
unfolding ttl_of
initial_small form t d h = form_small (eqb form 0) (eqb form 1) (eqb form 2) t d h

-- ---- the fit of a record

-- The reason of a fuzzy fit has small numbers.
abbrev pub FitSmall : SignatureFit → Type 0
FitSmall fit.None = Unit {0}
FitSmall fit.Exact = Unit {0}
FitSmall (fit.Fuzzy r) = ReasonFits r

-- With the TTL in range, the reason is the quirks.
in_range_small
    : (t : Bool) (q : Tolerated)
    → (bits_of q.added < 256) × (bits_of q.missing < 256)
    → FitSmall (cond t fit.Exact (fit.Fuzzy (record { hops = None; added = q.added; missing = q.missing })))
in_range_small true q h = tt
in_range_small false q h = (h.0, h.1, tt)

-- The TTL and the quirks, judged together.
judge_small : (t : Option TtlFit) (q : Option Tolerated) → TtlSmall t → QuirksSmall q → FitSmall (judge t q)
unfolding judge judge_in_range
judge_small None q ht hq = tt
judge_small (Some (ttlfit.InRange d)) None ht hq = tt
judge_small (Some (ttlfit.InRange d)) (Some q) ht hq = in_range_small (is_empty q.added && is_empty q.missing) q hq
judge_small (Some (ttlfit.OutOfRange d)) None ht hq = tt
judge_small (Some (ttlfit.OutOfRange d)) (Some q) ht hq = (hq.0, hq.1, ht)

-- A fit that a test may turn to nothing.
or_none : (t : Bool) (x : SignatureFit) → FitSmall x → FitSmall (cond t x fit.None)
or_none true x h = h
or_none false x h = tt

-- The fit of a record whose bytes are bytes.
pub fit_small
    : (f : Features) (kinds bytes r : List ℕ) (count : ℕ) (entries : List ℕ)
    → AllBytes r
    → FitSmall (fit_of f kinds bytes (signature_of r) count entries)
unfolding fit_of tolerance_of signature_of
fit_small f kinds bytes r count entries h =
    or_none
    (scalar_gates f (signature_of r) && layout_matches f.count kinds bytes count entries)
    (tolerance_of f (signature_of r))
    (judge_small _ _
    (ttl_small f.ttl (ttl_of (byte_at r 1) (byte_at r 2) (byte_at r 3)) (initial_small (byte_at r 1) (byte_at r 2) (byte_at r 3) (h 2)))
    (quirks_small_lem f.quirks (masked_quirks (signature_of r).quirks (signature_of r).version f.version)))
