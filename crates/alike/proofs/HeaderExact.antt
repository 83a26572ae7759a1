-- IPv4 and IPv6 headers are alike exactly if every place in them where the packets differ lies in a free item.
use mathlib.Core.Path.{◌≡◌, ap}
use mathlib.Core.List.{List}
use Prim.Native.Nat.{ℕ, ◌/◌, ◌<◌, ◌≤◌}
use native.Mathlib.Omega.{arith}
use native.Mathlib.Decide.{ℕ_discrete}
use lib.ListN.{length}
use Rattle.basis.specs.Bytes.{byte_at, be16}
use Rattle.rfc.specs.Rfc791 as v4
use Rattle.rfc.specs.Rfc8200 as v6
use Rattle.alike.specs.Ip.{AlikeIpv4, AlikeIpv6}
use Rattle.alike.specs.Free.{ZeroAlike, header_end4, Within, FreeIpv4, FreeIpv6}
use Rattle.alike.specs.Packets.{ExactHeader, ipv4, ipv6}
use Rattle.alike.proofs.Places.{up_to, agrees_at, be16_agree, zero_alike}

-- ---- version 4

module _ (p q : List ℕ) where
  fields4
      : length p ≡ length q
      → ((i : ℕ) → i < header_end4 p → (byte_at p i ≡ byte_at q i → ⊥) → Within (FreeIpv4 p q) i)
      → AlikeIpv4 p q
  fields4 same free =
      record {
        same_length = same;
        first = λ i l u. low i (omega arith) (λ z a b. omega arith);
        identification = zero_alike (v4.identification p) (v4.identification q) (λ other.
            be16_agree 4 p q (λ i l u. low i (omega arith) (λ z a b. other z)));
        second = λ i l u. low i (omega arith) (λ z a b. omega arith);
      }
    where
      clash : (i : ℕ) → i < 10 → (ZeroAlike (v4.identification p) (v4.identification q) → 4 ≤ i → i < 6 → ⊥) → Within (FreeIpv4 p q) i → ⊥
      clash i h id (Within.lies (FreeIpv4.identification z) a b) = id z a b
      clash i h id (Within.lies FreeIpv4.checksum a b) = omega arith
      clash i h id (Within.lies FreeIpv4.addresses a b) = omega arith
      clash i h id (Within.lies FreeIpv4.options a b) = omega arith

      -- A byte before the checksum.
      low
          : (i : ℕ)
          → i < 10
          → (ZeroAlike (v4.identification p) (v4.identification q) → 4 ≤ i → i < 6 → ⊥)
          → byte_at p i ≡ byte_at q i
      low i h id = agrees_at p q i (λ differ. clash i h id (free i (omega arith) differ))

  places4 : AlikeIpv4 p q → (i : ℕ) → i < header_end4 p → (byte_at p i ≡ byte_at q i → ⊥) → Within (FreeIpv4 p q) i
  places4 a i inside differ =
      up_to 4 i (λ h. absurd (differ (a.first i (omega arith) (omega arith)))) (λ after.
      up_to 6 i (λ h. Within.lies (FreeIpv4.identification a.identification) (omega arith) (omega arith)) (λ after.
      up_to 10 i (λ h. absurd (differ (a.second i (omega arith) (omega arith)))) (λ after.
      up_to 12 i (λ h. Within.lies FreeIpv4.checksum (omega arith) (omega arith)) (λ after.
      up_to 20 i (λ h. Within.lies FreeIpv4.addresses (omega arith) (omega arith)) (λ after.
      Within.lies FreeIpv4.options (omega arith) (omega arith))))))

  within4 : {from to : ℕ} → FreeIpv4 p q from to → to ≤ header_end4 p
  within4 (FreeIpv4.identification z) = omega arith
  within4 FreeIpv4.checksum = omega arith
  within4 FreeIpv4.addresses = omega arith
  within4 FreeIpv4.options = omega arith

pub exact4 : ExactHeader ipv4
exact4 = record { within = within4; exactly = λ p q same. (places4 p q, fields4 p q same) }

-- ---- version 6

module _ (p q : List ℕ) where
  -- A byte before the addresses is that of the other packet, unless the flow label may change.
  low6
      : ((i : ℕ) → i < 40 → (byte_at p i ≡ byte_at q i → ⊥) → Within (FreeIpv6 p q) i)
      → (i : ℕ)
      → i < 8
      → (byte_at p 1 / 16 ≡ byte_at q 1 / 16 → ZeroAlike (v6.flow_label p) (v6.flow_label q) → 1 ≤ i → i < 4 → ⊥)
      → byte_at p i ≡ byte_at q i
  low6 free i h label = agrees_at p q i (λ differ. clash (free i (omega arith) differ))
    where
      clash : Within (FreeIpv6 p q) i → ⊥
      clash (Within.lies (FreeIpv6.flow_label c z) a b) = label c z a b
      clash (Within.lies FreeIpv6.addresses a b) = omega arith

  fields6
      : length p ≡ length q
      → ((i : ℕ) → i < 40 → (byte_at p i ≡ byte_at q i → ⊥) → Within (FreeIpv6 p q) i)
      → AlikeIpv6 p q
  fields6 same free =
      record {
        same_length = same;
        first = low6 free 0 (omega arith) (λ c z a b. omega arith);
        second = elim (ℕ_discrete (byte_at p 1 / 16) (byte_at q 1 / 16)) [
          | yes e ↦ e
          | no other ↦ ap (λ (b : ℕ). b / 16) (low6 free 1 (omega arith) (λ c z a b. other c))
        ];
        flow_label = zero_alike (v6.flow_label p) (v6.flow_label q) same_label;
        third = λ i l u. low6 free i (omega arith) (λ c z a b. omega arith);
      }
    where
      same_label : (ZeroAlike (v6.flow_label p) (v6.flow_label q) → ⊥) → v6.flow_label p ≡ v6.flow_label q
      same_label other =
          let one : byte_at p 1 ≡ byte_at q 1 = low6 free 1 (omega arith) (λ c z a b. other z) in
          let two : be16 p 2 ≡ be16 q 2 = be16_agree 2 p q (λ i l u. low6 free i (omega arith) (λ c z a b. other z)) in
          rw (one, two)

  places6 : AlikeIpv6 p q → (i : ℕ) → i < 40 → (byte_at p i ≡ byte_at q i → ⊥) → Within (FreeIpv6 p q) i
  places6 a i inside differ =
      up_to 1 i (λ h. let e : i ≡ 0 = omega arith in absurd (differ (rw e a.first))) (λ after.
      up_to 4 i (λ h. Within.lies (FreeIpv6.flow_label a.second a.flow_label) (omega arith) (omega arith)) (λ after.
      up_to 8 i (λ h. absurd (differ (a.third i (omega arith) (omega arith)))) (λ after.
      Within.lies FreeIpv6.addresses (omega arith) (omega arith))))

  within6 : {from to : ℕ} → FreeIpv6 p q from to → to ≤ 40
  within6 (FreeIpv6.flow_label c z) = omega arith
  within6 FreeIpv6.addresses = omega arith

pub exact6 : ExactHeader ipv6
exact6 = record { within = within6; exactly = λ p q same. (places6 p q, fields6 p q same) }
