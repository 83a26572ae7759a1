-- Sets within the seventeen: the empty one, and any with a quirk more.
use mathlib.Core.Path.{◌≡◌, refl, sym, ◌∙◌, ap, subst}
use mathlib.Core.Bool.{Bool, true, false, not, false≢true}
use Prim.Native.Nat.{ℕ, ◌^◌, ◌<◌, max}
use native.Mathlib.Omega.{arith}
use native.Mathlib.Decide.{ℕ_discrete}
use lib.Bits.{or_lt}
use lib.Dec.{eqb, lit<}
use lib.Pow.{pow-lt}
use Rattle.basis.specs.Digits.{digit}
use Rattle.basis.proofs.Digits.{digit_or, digit_of_zero, digit_power_other}
use Rattle.quirks.specs.declared.Quirk.{Quirk}
use Rattle.quirks.specs.declared.Quirk.TheVariants as quirk
use Rattle.quirks.specs.declared.QuirkSet.{QuirkSet}
use Rattle.quirks.specs.Quirks.{place_of, bit_of, bits_of, holds, contains, with, add_if, SubsetByPlaces}
use Rattle.quirks.specs.Named.{from_quirks, display_order, empty, seventeen}
use Rattle.quirks.proofs.Laws.{contains_with_other}
use Rattle.quirks.proofs.Places.{place_lt}

unfoldable pub Within : QuirkSet → Type 0
Within s = SubsetByPlaces s seventeen

pub bit_small : (q : Quirk) → bit_of q < 2 ^ 32
unfolding bit_of
bit_small q = pow-lt (place_lt q)

-- Within the seventeen, and without OptBad; of 32 bits.
pub record Clean (s : QuirkSet) : Type 0 where
  pub within : Within s
  pub small : bits_of s < 2 ^ 32
  pub not_bad : contains s quirk.OptBad ≡ false

-- Any quirk but OptBad.
abbrev pub not_opt_bad : Quirk → Bool
not_opt_bad q = not (eqb (place_of q) 28)

-- Each of the seventeen is one of them.
has_place_lem : (q : Quirk) → holds seventeen (place_of q) ≡ true
unfolding holds seventeen from_quirks display_order with bit_of place_of digit
has_place_lem quirk.Ecn = refl
has_place_lem quirk.Df = refl
has_place_lem quirk.NonZeroID = refl
has_place_lem quirk.ZeroID = refl
has_place_lem quirk.MustBeZero = refl
has_place_lem quirk.FlowID = refl
has_place_lem quirk.SeqNumZero = refl
has_place_lem quirk.AckNumNonZero = refl
has_place_lem quirk.AckNumZero = refl
has_place_lem quirk.NonZeroURG = refl
has_place_lem quirk.Urg = refl
has_place_lem quirk.Push = refl
has_place_lem quirk.OwnTimestampZero = refl
has_place_lem quirk.PeerTimestampNonZero = refl
has_place_lem quirk.TrailinigNonZero = refl
has_place_lem quirk.ExcessiveWindowScaling = refl
has_place_lem quirk.OptBad = refl

pub within_empty : Within empty
unfolding Within SubsetByPlaces holds empty from_quirks
within_empty k low has = absurd (false≢true (ap (λ (n : ℕ). eqb n 1) (sym (digit_of_zero k)) ∙ has))

-- At another place than the quirk's, the set is as before.
other_place : (s : QuirkSet) (q : Quirk) (k : ℕ) → (place_of q ≡ k → ⊥) → holds (with s q) k ≡ holds s k
unfolding holds with bit_of
other_place s q k differs =
    ap (λ (n : ℕ). eqb n 1)
    (digit_or (bits_of s) (2 ^ place_of q) k
    ∙ ap (max (digit (bits_of s) k)) (digit_power_other (place_of q) k differs)
    ∙ plain (digit (bits_of s) k))
  where
    plain : (d : ℕ) → max d 0 ≡ d
    plain d = omega arith

pub within_with : (s : QuirkSet) (q : Quirk) → Within s → Within (with s q)
unfolding Within SubsetByPlaces
within_with s q inside k low has = elim (ℕ_discrete (place_of q) k) [ yes e ↦ here e | no d ↦ there d ]
  where
    here : place_of q ≡ k → holds seventeen k ≡ true
    here e = subst (λ (n : ℕ). holds seventeen n ≡ true) e (has_place_lem q)

    there : (place_of q ≡ k → ⊥) → holds seventeen k ≡ true
    there d = inside k low (sym (other_place s q k d) ∙ has)

pub within_add_if : (t : Bool) (q : Quirk) (s : QuirkSet) → Within s → Within (add_if t q s)
unfolding add_if
within_add_if true q s inside = within_with s q inside
within_add_if false q s inside = inside

with_small : (s : QuirkSet) (q : Quirk) → bits_of s < 2 ^ 32 → bits_of (with s q) < 2 ^ 32
unfolding with
with_small s q small = or_lt 32 (bits_of s) (bit_of q) small (bit_small q)

clean_with : (s : QuirkSet) (q : Quirk) → (q ≡ quirk.OptBad → ⊥) → Clean s → Clean (with s q)
clean_with s q other clean =
    record {
      within = within_with s q clean.within;
      small = with_small s q clean.small;
      not_bad = contains_with_other s q quirk.OptBad other ∙ clean.not_bad;
    }

pub clean_empty : Clean empty
unfolding contains holds empty from_quirks place_of
clean_empty = record { within = within_empty; small = lit< tt; not_bad = ap (λ (n : ℕ). eqb n 1) (digit_of_zero 28) }

-- A quirk other than OptBad, where a test holds.
pub clean_add_if : (t : Bool) (q : Quirk) (s : QuirkSet) → not_opt_bad q ≡ true → Clean s → Clean (add_if t q s)
unfolding add_if place_of
clean_add_if true q s other clean =
    clean_with s q (λ e. false≢true (sym (ap not_opt_bad e) ∙ other)) clean
clean_add_if false q s other clean = clean
