-- What lies between two places of a packet is alike exactly if it differs only in free items of a TCP part.
use mathlib.Core.Path.{◌≡◌}
use mathlib.Core.List.{List}
use Prim.Native.Nat.{ℕ, ◌+◌, ◌-◌, ◌<◌, ◌≤◌}
use native.Mathlib.Omega.{arith}
use native.Mathlib.Decide.{dec_le}
use lib.ListN.{length}
use Rattle.basis.specs.Bytes.{byte_at, part}
use Rattle.alike.specs.Options.{Agree}
use Rattle.alike.specs.Packets.{AlikeBody}
use Rattle.alike.specs.Free.{Within, DifferOnly, FreeTcp}
use Rattle.alike.proofs.Places.{agrees_at, part_alike, part_byte, part_within, part_differ}
use Rattle.alike.proofs.TcpExact.{tcp_alike_by, tcp_differ}

-- A free place of a TCP part, as a place of the packet.
pub data Inner (p q : List ℕ) (h l i : ℕ) : Type 0 where
  inner
      : {from to : ℕ}
      → 20 ≤ length (part h l p)
      → FreeTcp (part h l p) (part h l q) from to
      → h + from ≤ i
      → i < h + to
      → Inner p q h l i

-- ---- from places to fields

module _ (p q : List ℕ) (h l : ℕ) (same : length p ≡ length q)
    (free : (i : ℕ) → h ≤ i → i < l → (byte_at p i ≡ byte_at q i → ⊥) → Inner p q h l i) where
  parts_differ : DifferOnly (FreeTcp (part h l p) (part h l q)) (part h l p) (part h l q)
  parts_differ =
      record {
        same_length = part_alike h l p q same;
        free = λ i differ.
            let inside = part_within h l p q same i differ in
            in_part i (free (h + i) (omega arith) (omega arith) (part_differ h l p q same i differ));
      }
    where
      in_part : (i : ℕ) → Inner p q h l (h + i) → Within (FreeTcp (part h l p) (part h l q)) i
      in_part i (Inner.inner long x after before) = Within.lies x (omega arith) (omega arith)

  bodies_agree : (20 ≤ length (part h l p) → ⊥) → Agree h l p q
  bodies_agree short i after before = agrees_at p q i (λ differ. none (free i after before differ))
    where
      none : Inner p q h l i → ⊥
      none (Inner.inner long x a b) = short long

  pub body_alike_by : AlikeBody p q h l
  body_alike_by =
      elim (dec_le 20 (length (part h l p))) [
        | yes long ↦ AlikeBody.tcp (omega arith) (tcp_alike_by (part h l p) (part h l q) parts_differ)
        | no short ↦ AlikeBody.no_tcp (omega arith) (λ i after before. bodies_agree short i (omega arith) (omega arith))
      ]

-- ---- from fields to places

pub body_differ
    : (p q : List ℕ) (h l : ℕ)
    → AlikeBody p q h l
    → (i : ℕ)
    → h ≤ i
    → i < l
    → (byte_at p i ≡ byte_at q i → ⊥)
    → Inner p q h l i
body_differ p q h l (AlikeBody.no_tcp short agree) i after before differ = absurd (differ (agree i (omega arith) (omega arith)))
body_differ p q h l (AlikeBody.tcp long a) i after before differ =
    by ((tcp_differ (part h l p) (part h l q) a).free (i - h) apart)
  where
    apart : byte_at (part h l p) (i - h) ≡ byte_at (part h l q) (i - h) → ⊥
    apart e =
        let place : h + (i - h) ≡ i = omega arith in
        differ (rw (part_byte h l (i - h) p (omega arith), part_byte h l (i - h) q (omega arith), place) at e)

    by : Within (FreeTcp (part h l p) (part h l q)) (i - h) → Inner p q h l i
    by (Within.lies x lo hi) = Inner.inner (omega arith) x (omega arith) (omega arith)
