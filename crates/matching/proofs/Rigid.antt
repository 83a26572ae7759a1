-- A quirk that is neither tolerated nor masked: an observation and a signature that fit both have it, or neither has.
use Rattle.std.specs.Prelude.{Option, Some, None}
use mathlib.Core.Path.{◌≡◌, refl, sym, ◌∙◌, ap}
use mathlib.Core.Bool.{Bool, true, false, cond, not, ◌&&◌, true≢false}
use mathlib.Core.List.{List}
use Prim.Native.Nat.{ℕ, ◌-◌, ◌^◌, ◌<◌}
use native.Mathlib.Omega.{arith}
use lib.Bits.{and_le_l}
use lib.Dec.{eqb, lit<}
use borrow.Author.Tests.{eqb-true}
use Rattle.basis.specs.Digits.{digit}
use Rattle.basis.proofs.Digits.{digit_of_zero}
use Rattle.basis.proofs.Tests.{and_left, and_right}
use Rattle.quirks.specs.declared.Quirk.{Quirk}
use Rattle.quirks.specs.declared.QuirkSet.{QuirkSet}
use Rattle.quirks.specs.Quirks.{place_of, bits_of, holds, contains, is_empty, difference}
use Rattle.quirks.specs.Named.{fuzzy_deletable, fuzzy_addable, mask_when_obs_v4, mask_when_obs_v6}
use Rattle.quirks.proofs.Laws.{contains_difference}
use Rattle.quirks.proofs.Named.{fuzzy_deletable_bits, fuzzy_addable_bits, mask_when_obs_v4_bits, mask_when_obs_v6_bits}
use Rattle.tcp.specs.declared.IpVersion.{IpVersion}
use Rattle.tcp.specs.declared.IpVersion.TheVariants as version
use Rattle.sigrecord.specs.declared.Signature.{Signature}
use Rattle.sigrecord.specs.declared.SigVersion.{SigVersion}
use Rattle.sigrecord.specs.declared.SigVersion.TheVariants as sigversion
use Rattle.distances.specs.Distances.{ttl_fit}
use Rattle.distances.specs.declared.TtlFit.{TtlFit}
use Rattle.distances.specs.declared.TtlFit.TheVariants as ttlfit
use Rattle.matching.specs.declared.Features.{Features}
use Rattle.matching.specs.declared.Tolerated.{Tolerated}
use Rattle.matching.specs.declared.SignatureFit.{SignatureFit}
use Rattle.matching.specs.declared.SignatureFit.TheVariants as answer
use Rattle.matching.specs.Gates.{layout_matches}
use Rattle.matching.specs.Tolerance.{masked_quirks, quirks_fit, judge}
use Rattle.matching.specs.Fit.{scalar_gates, tolerance_of, fit_of}

-- Neither may be added or missing, nor is it dropped from a record of any version.
pub record Rigid (q : Quirk) : Type 0 where
  pub not_deletable : contains fuzzy_deletable q ≡ false
  pub not_addable : contains fuzzy_addable q ≡ false
  pub not_masked4 : contains mask_when_obs_v4 q ≡ false
  pub not_masked6 : contains mask_when_obs_v6 q ≡ false

empty_has_none : (s : QuirkSet) (q : Quirk) → is_empty s ≡ true → contains s q ≡ false
unfolding is_empty contains holds
empty_has_none s q none =
    ap (λ (n : ℕ). eqb (digit n (place_of q)) 1) (eqb-true (bits_of s) 0 none) ∙ ap (λ (n : ℕ). eqb n 1) (digit_of_zero (place_of q))

module _ (q : Quirk) (rigid : Rigid q) where
  -- What is left of a set of differences when nothing but tolerated quirks is in it.
  left_none
      : (a b m : QuirkSet)
      → bits_of b < 2 ^ 32
      → bits_of m < 2 ^ 32
      → contains m q ≡ false
      → is_empty (difference (difference a b) m) ≡ true
      → contains a q && not (contains b q) ≡ false
  left_none a b m small fine other none =
      sym (contains_difference a b q small)
      ∙ same (contains (difference a b) q)
      (sym (ap (λ (t : Bool). contains (difference a b) q && not t) other)
      ∙ sym (contains_difference (difference a b) m q fine)
      ∙ empty_has_none _ q none)
    where
      same : (t : Bool) → t && true ≡ false → t ≡ false
      same true e = absurd (true≢false e)
      same false e = refl

  agree : (a b : Bool) → a && not b ≡ false → b && not a ≡ false → b ≡ a
  agree true true e f = refl
  agree true false e f = absurd (true≢false e)
  agree false true e f = absurd (true≢false f)
  agree false false e f = refl

  quirks_agree
      : (o s : QuirkSet)
      → bits_of o < 2 ^ 32
      → bits_of s < 2 ^ 32
      → (quirks_fit o s ≡ None → ⊥)
      → contains o q ≡ contains s q
  unfolding quirks_fit
  quirks_agree o s small fine kept = by_test _ refl kept
    where
      by_test
          : (t : Bool)
          → is_empty (difference (difference s o) fuzzy_deletable) && is_empty (difference (difference o s) fuzzy_addable) ≡ t
          → (cond {A = Option Tolerated} t (Some (record { added = difference o s; missing = difference s o })) None ≡ None → ⊥)
          → contains o q ≡ contains s q
      by_test true e kept =
          agree (contains s q) (contains o q)
          (left_none s o fuzzy_deletable small (rw fuzzy_deletable_bits (lit< tt)) rigid.not_deletable (and_left _ _ e))
          (left_none o s fuzzy_addable fine (rw fuzzy_addable_bits (lit< tt)) rigid.not_addable
          (and_right (is_empty (difference (difference s o) fuzzy_deletable)) _ e))
      by_test false e kept = absurd (kept refl)

  -- The mask leaves it.
  dropped : (s m : QuirkSet) → bits_of m < 2 ^ 32 → contains m q ≡ false → contains (difference s m) q ≡ contains s q
  dropped s m fine other =
      contains_difference s m q fine ∙ ap (λ (t : Bool). contains s q && not t) other ∙ and_true (contains s q)
    where
      and_true : (t : Bool) → t && true ≡ t
      and_true true = refl
      and_true false = refl

  masked_same : (s : QuirkSet) (declared : SigVersion) (seen : IpVersion) → contains (masked_quirks s declared seen) q ≡ contains s q
  unfolding masked_quirks
  masked_same s sigversion.Any version.V4 = dropped s mask_when_obs_v4 (rw mask_when_obs_v4_bits (lit< tt)) rigid.not_masked4
  masked_same s sigversion.Any version.V6 = dropped s mask_when_obs_v6 (rw mask_when_obs_v6_bits (lit< tt)) rigid.not_masked6
  masked_same s sigversion.V4 seen = refl
  masked_same s sigversion.V6 seen = refl

  masked_small
      : (s : QuirkSet) (declared : SigVersion) (seen : IpVersion)
      → bits_of s < 2 ^ 32
      → bits_of (masked_quirks s declared seen) < 2 ^ 32
  unfolding masked_quirks difference
  masked_small s sigversion.Any version.V4 small = omega (arith, and_le_l (bits_of s) (2 ^ 32 - 1 - bits_of mask_when_obs_v4))
  masked_small s sigversion.Any version.V6 small = omega (arith, and_le_l (bits_of s) (2 ^ 32 - 1 - bits_of mask_when_obs_v6))
  masked_small s sigversion.V4 seen small = small
  masked_small s sigversion.V6 seen small = small

  -- Rejected quirks fit nothing.
  rejected : (t : Option TtlFit) (x : Option Tolerated) → x ≡ None → judge t x ≡ answer.None
  unfolding judge
  rejected None x e = refl
  rejected (Some (ttlfit.InRange d)) x e = rw e
  rejected (Some (ttlfit.OutOfRange d)) x e = rw e

  pub fits_agree
      : (f : Features) (kinds bytes : List ℕ) (s : Signature) (count : ℕ) (entries : List ℕ)
      → bits_of f.quirks < 2 ^ 32
      → bits_of s.quirks < 2 ^ 32
      → (fit_of f kinds bytes s count entries ≡ answer.None → ⊥)
      → contains f.quirks q ≡ contains s.quirks q
  unfolding fit_of tolerance_of
  fits_agree f kinds bytes s count entries small fine fits =
      let masked = masked_quirks s.quirks s.version f.version in
      quirks_agree f.quirks masked small (masked_small s.quirks s.version f.version fine)
      (λ e. fits (either (scalar_gates f s && layout_matches f.count kinds bytes count entries)
      (rejected (ttl_fit f.ttl s.ittl) (quirks_fit f.quirks masked) e)))
      ∙ masked_same s.quirks s.version f.version
    where
      either : (t : Bool) {x : SignatureFit} → x ≡ answer.None → cond t x answer.None ≡ answer.None
      either true e = e
      either false e = refl
