-- The seventeen places: each below 32, no two alike.
use mathlib.Core.Path.{◌≡◌, refl, sym, ◌∙◌, ap}
use mathlib.Core.Bool.{cond}
use Prim.Native.Nat.{ℕ, ◌<◌}
use lib.Dec.{eqb, lit<}
use Rattle.quirks.specs.declared.Quirk.{Quirk}
use Rattle.quirks.specs.declared.Quirk.TheVariants as quirk
use Rattle.quirks.specs.Quirks.{place_of}

pub place_lt : (q : Quirk) → place_of q < 32
unfolding place_of
place_lt quirk.Ecn = lit< tt
place_lt quirk.Df = lit< tt
place_lt quirk.NonZeroID = lit< tt
place_lt quirk.ZeroID = lit< tt
place_lt quirk.MustBeZero = lit< tt
place_lt quirk.FlowID = lit< tt
place_lt quirk.SeqNumZero = lit< tt
place_lt quirk.AckNumNonZero = lit< tt
place_lt quirk.AckNumZero = lit< tt
place_lt quirk.NonZeroURG = lit< tt
place_lt quirk.Urg = lit< tt
place_lt quirk.Push = lit< tt
place_lt quirk.OwnTimestampZero = lit< tt
place_lt quirk.PeerTimestampNonZero = lit< tt
place_lt quirk.TrailinigNonZero = lit< tt
place_lt quirk.ExcessiveWindowScaling = lit< tt
place_lt quirk.OptBad = lit< tt

-- The quirk at a place; OptBad at any other.
unfoldable pub quirk_at : ℕ → Quirk
quirk_at k =
    cond (eqb k 0) quirk.Ecn
    (cond (eqb k 1) quirk.Df
    (cond (eqb k 2) quirk.NonZeroID
    (cond (eqb k 3) quirk.ZeroID
    (cond (eqb k 4) quirk.MustBeZero
    (cond (eqb k 5) quirk.FlowID
    (cond (eqb k 12) quirk.SeqNumZero
    (cond (eqb k 13) quirk.AckNumNonZero
    (cond (eqb k 14) quirk.AckNumZero
    (cond (eqb k 15) quirk.NonZeroURG
    (cond (eqb k 16) quirk.Urg
    (cond (eqb k 17) quirk.Push
    (cond (eqb k 24) quirk.OwnTimestampZero
    (cond (eqb k 25) quirk.PeerTimestampNonZero
    (cond (eqb k 26) quirk.TrailinigNonZero
    (cond (eqb k 27) quirk.ExcessiveWindowScaling
    (quirk.OptBad))))))))))))))))

quirk_at_place : (q : Quirk) → quirk_at (place_of q) ≡ q
unfolding place_of quirk_at
quirk_at_place quirk.Ecn = refl
quirk_at_place quirk.Df = refl
quirk_at_place quirk.NonZeroID = refl
quirk_at_place quirk.ZeroID = refl
quirk_at_place quirk.MustBeZero = refl
quirk_at_place quirk.FlowID = refl
quirk_at_place quirk.SeqNumZero = refl
quirk_at_place quirk.AckNumNonZero = refl
quirk_at_place quirk.AckNumZero = refl
quirk_at_place quirk.NonZeroURG = refl
quirk_at_place quirk.Urg = refl
quirk_at_place quirk.Push = refl
quirk_at_place quirk.OwnTimestampZero = refl
quirk_at_place quirk.PeerTimestampNonZero = refl
quirk_at_place quirk.TrailinigNonZero = refl
quirk_at_place quirk.ExcessiveWindowScaling = refl
quirk_at_place quirk.OptBad = refl

pub place_injective : (q p : Quirk) → place_of q ≡ place_of p → q ≡ p
place_injective q p e = sym (quirk_at_place q) ∙ ap quirk_at e ∙ quirk_at_place p
