-- An observation fits a signature that says what it has: the gates hold, and nothing is tolerated.
use Rattle.std.specs.Prelude.{Option, Some, None}
use mathlib.Core.Path.{◌≡◌, refl}
use mathlib.Core.Bool.{true}
use mathlib.Core.List.{List, [], ◌∷◌}
use Prim.Native.Nat.{ℕ, zero, suc, ◌+◌, ◌*◌, ◌-◌, ◌^◌, ◌<◌, ◌≤◌, min}
use native.Mathlib.Numerals.{add-one}
use native.Mathlib.Omega.{arith}
use lib.Bits.{bit_and, and_le_l}
use lib.ListN.{length, take}
use borrow.Author.Tests.{eqb-true, eq-eqb, le-leb, le-ltb}
use Rattle.basis.specs.Bytes.{byte_at}
use Rattle.quirks.specs.declared.QuirkSet.{QuirkSet}
use Rattle.quirks.specs.Named.{fuzzy_deletable, fuzzy_addable}
use Rattle.quirks.specs.Quirks.{bits_of, is_empty, difference, SubsetByPlaces}
use Rattle.quirks.proofs.Subset.{difference_empty}
use Rattle.tcp.specs.declared.IpVersion.{IpVersion}
use Rattle.tcp.specs.declared.IpVersion.TheVariants as version
use Rattle.tcp.specs.declared.PayloadSize.{PayloadSize}
use Rattle.tcp.specs.declared.PayloadSize.TheVariants as payload
use Rattle.ttl.specs.declared.Ttl.{Ttl}
use Rattle.ttl.specs.declared.Ttl.TheVariants as ttl
use Rattle.ttl.specs.Ttl.{byte_of}
use Rattle.window_size.specs.declared.WindowMultiplier.{WindowMultiplier}
use Rattle.observable.specs.declared.TcpObservation.{TcpObservation}
use Rattle.sigrecord.specs.declared.WindowSize.TheVariants as window
use Rattle.distances.specs.declared.TtlFit.TheVariants as ttlfit
use Rattle.distances.specs.DistanceGates.{version_matches, window_matches, payload_matches}
use Rattle.distances.specs.Distances.{ttl_fit}
use Rattle.matching.specs.Fit.{features_of, scalar_gates}
use Rattle.matching.specs.Gates.{olen_matches, mss_matches, scale_matches, entries_match, layout_matches}
use Rattle.matching.specs.Tolerance.{masked_quirks, quirks_fit}
use Rattle.matching.proofs.Entries.{no_entry, entry_matches}
use Rattle.signature_line.specs.OneRecord.{alternating, entries_in}
use Rattle.written_line.specs.Numbers.{TtlHeld}
use Rattle.written_line.specs.Signature.{version_seen, payload_seen, signature_seen}
use Rattle.acceptance.specs.Honesty.{NothingTolerated, FitsExactly}
use Rattle.observed.specs.Observed.{NearEnough, Observed}

-- ---- kinds and bytes in turn

pub turn_length
    : (n : ℕ) (kinds bytes : List ℕ)
    → n ≤ length kinds
    → n ≤ length bytes
    → length (alternating (take n kinds) (take n bytes)) ≡ 2 * n
turn_length zero kinds bytes a b = refl
turn_length (suc n) [] bytes a b = absurd (omega arith)
turn_length (suc n) (k ∷ kinds) [] a b = absurd (omega arith)
turn_length (suc n) (k ∷ kinds) (x ∷ bytes) a b = let rest = turn_length n kinds bytes (omega arith) (omega arith) in omega arith

turn_kind
    : (n : ℕ) (kinds bytes : List ℕ) (i : ℕ)
    → i < n
    → n ≤ length kinds
    → n ≤ length bytes
    → byte_at kinds i ≡ byte_at (alternating (take n kinds) (take n bytes)) (2 * i)
turn_kind zero kinds bytes i h a b = absurd (omega arith)
turn_kind (suc n) [] bytes i h a b = absurd (omega arith)
turn_kind (suc n) (k ∷ kinds) [] i h a b = absurd (omega arith)
turn_kind (suc n) (k ∷ kinds) (x ∷ bytes) zero h a b = refl
turn_kind (suc n) (k ∷ kinds) (x ∷ bytes) (suc i) h a b =
    let at : 2 * suc i ≡ suc (suc (2 * i)) = omega arith in
    rw at (turn_kind n kinds bytes i (omega arith) (omega arith) (omega arith))

turn_byte
    : (n : ℕ) (kinds bytes : List ℕ) (i : ℕ)
    → i < n
    → n ≤ length kinds
    → n ≤ length bytes
    → byte_at bytes i ≡ byte_at (alternating (take n kinds) (take n bytes)) (2 * i + 1)
turn_byte zero kinds bytes i h a b = absurd (omega arith)
turn_byte (suc n) [] bytes i h a b = absurd (omega arith)
turn_byte (suc n) (k ∷ kinds) [] i h a b = absurd (omega arith)
turn_byte (suc n) (k ∷ kinds) (x ∷ bytes) zero h a b = refl
turn_byte (suc n) (k ∷ kinds) (x ∷ bytes) (suc i) h a b =
    let at : 2 * suc i + 1 ≡ suc (suc (2 * i + 1)) = omega arith in
    rw at (turn_byte n kinds bytes i (omega arith) (omega arith) (omega arith))

-- ---- the gates

same_version : (v : IpVersion) → version_matches v (version_seen v) ≡ true
unfolding version_matches
same_version version.V4 = refl
same_version version.V6 = refl

same_mss : (m : Option ℕ) → mss_matches m m ≡ true
unfolding mss_matches
same_mss None = refl
same_mss (Some n) = eq-eqb n n refl

same_scale : (w : Option ℕ) → scale_matches w w ≡ true
unfolding scale_matches
same_scale None = refl
same_scale (Some n) = eq-eqb n n refl

same_payload : (c : PayloadSize) → payload_matches c (payload_seen c) ≡ true
unfolding payload_matches
same_payload payload.Zero = refl
same_payload payload.NonZero = refl

same_olen : (n : ℕ) → olen_matches n n ≡ true
unfolding olen_matches
same_olen n = eq-eqb n n refl

same_window : (n : ℕ) (m : Option WindowMultiplier) → window_matches n (window.Value n) m ≡ true
unfolding window_matches
same_window n m = eq-eqb n n refl

-- ---- TTL and quirks

in_range : (t : Ttl) → TtlHeld t → NearEnough t → (d : ℕ) × (ttl_fit (byte_of t) t ≡ Some (ttlfit.InRange d))
unfolding ttl_fit
in_range (ttl.Value t) held near = (t - t, rw (le-ltb t t (omega arith), le-ltb 35 (t - t) (omega arith)))
in_range (ttl.Distance t d) held near =
    let byte = held.0 in
    (min (t + d) 255 - t, rw (le-ltb (min (t + d) 255) t (omega arith), le-ltb 35 (min (t + d) 255 - t) (omega arith)))
in_range (ttl.Guess t) held near = (t - t, rw (le-ltb t t (omega arith), le-ltb 35 (t - t) (omega arith)))
in_range (ttl.Bad t) held near = (t - t, rw (le-ltb t t (omega arith)))

none_of : (a b : QuirkSet) → is_empty a ≡ true → is_empty (difference a b) ≡ true
unfolding is_empty difference
none_of a b none =
    let rest : ℕ = 2 ^ 32 - 1 - bits_of b in
    let zero = eqb-true (bits_of a) 0 none in
    eq-eqb (bit_and (bits_of a) rest) 0 (omega (arith, and_le_l (bits_of a) rest))

none_differs : (a : QuirkSet) → bits_of a < 2 ^ 32 → is_empty (difference a a) ≡ true
unfolding SubsetByPlaces
none_differs a small = (difference_empty a a small small).1 (λ k low has. has)

unmasked : (q : QuirkSet) (v : IpVersion) → masked_quirks q (version_seen v) v ≡ q
unfolding masked_quirks
unmasked q version.V4 = refl
unmasked q version.V6 = refl

same_quirks
    : (q : QuirkSet)
    → bits_of q < 2 ^ 32
    → quirks_fit q q ≡ Some (record { added = difference q q; missing = difference q q })
unfolding quirks_fit
same_quirks q small =
    let none = none_differs q small in
    rw (none_of (difference q q) fuzzy_deletable none, none_of (difference q q) fuzzy_addable none)

-- ---- the fit

module _ (o : TcpObservation) (seen : Observed o) where
  gates_hold : scalar_gates (features_of o) (signature_seen o) ≡ true
  unfolding scalar_gates features_of signature_seen
  gates_hold =
      rw (
        same_version o.version,
        same_olen o.olen,
        same_mss o.mss,
        same_window o.wsize (features_of o).multiplier,
        same_scale o.wscale,
        same_payload o.pclass,
      )

  abbrev n : ℕ
  n = o.olayout.count

  pub kinds_enough : n ≤ length o.olayout.kinds
  kinds_enough = omega (arith, seen.few, seen.held.kinds_whole)

  pub bytes_enough : n ≤ length o.olayout.bytes
  bytes_enough = omega (arith, seen.few, seen.held.bytes_whole)

  entries_match_lem : (k : ℕ) → k ≤ n → entries_match o.olayout.kinds o.olayout.bytes (entries_in o.olayout) k ≡ true
  unfolding entries_in
  entries_match_lem zero h = no_entry o.olayout.kinds o.olayout.bytes (entries_in o.olayout)
  entries_match_lem (suc k) h =
      rw (← add-one k)
      (entry_matches o.olayout.kinds o.olayout.bytes (entries_in o.olayout) k
      (turn_kind n o.olayout.kinds o.olayout.bytes k (omega arith) kinds_enough bytes_enough)
      (turn_byte n o.olayout.kinds o.olayout.bytes k (omega arith) kinds_enough bytes_enough)
      (entries_match_lem k (omega arith)))

  layout_matches_lem : layout_matches n o.olayout.kinds o.olayout.bytes n (entries_in o.olayout) ≡ true
  unfolding layout_matches entries_in
  layout_matches_lem =
      rw (
        eq-eqb n n refl,
        le-leb n (length o.olayout.kinds) kinds_enough,
        le-leb n (length o.olayout.bytes) bytes_enough,
        le-leb (2 * n) (length (entries_in o.olayout))
            (let whole = turn_length n o.olayout.kinds o.olayout.bytes kinds_enough bytes_enough in omega arith),
      )
      (entries_match_lem n (omega arith))

  pub fits_exactly : FitsExactly (features_of o) o.olayout.kinds o.olayout.bytes (signature_seen o) n (entries_in o.olayout)
  unfolding features_of signature_seen
  fits_exactly =
      let near = in_range o.ittl seen.held.signature.ittl seen.near in
      let none = none_differs o.quirks seen.quirks_small in
      record {
        gates = gates_hold;
        layout = layout_matches_lem;
        untolerated =
            rw (near.1, unmasked o.quirks o.version, same_quirks o.quirks seen.quirks_small)
            (NothingTolerated.nothing_tolerated none none);
      }
