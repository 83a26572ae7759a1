-- Packets are alike exactly if they have one length and every place where they differ lies in a free item: of any IP level whose headers
-- are so, and so of document 01's.
use mathlib.Core.Path.{◌≡◌, sym}
use mathlib.Core.List.{List}
use mathlib.Core.Logic.{◌↔◌}
use Prim.Native.Nat.{ℕ, ◌<◌, ◌≤◌}
use native.Mathlib.Omega.{arith}
use native.Mathlib.Decide.{ℕ_discrete}
use borrow.Author.Tests.{ne_eqb}
use lib.ListN.{length, set, length-set}
use lib.Seq.{ext_get_or, get_or-set_other}
use Rattle.basis.specs.Bytes.{byte_at}
use Rattle.rfc.specs.Rfc791.{version}
use Rattle.alike.specs.Free.{Within, DifferOnly, ItemBy, FreePacket, end_by, Free}
use Rattle.alike.specs.Packets.{IpLevel, AlikeBy, FreeBy, ExactHeader, HeaderBy, level_by, ipv4, ipv6, document01, Alike}
use Rattle.alike.proofs.Places.{up_to, agrees_at, past_both}
use Rattle.alike.proofs.BodyExact.{Inner, body_alike_by, body_differ}
use Rattle.alike.proofs.HeaderExact.{exact4, exact6}

-- ---- of any level

module _ (level : IpLevel) (header : ExactHeader level) (p q : List ℕ) where
  differ_only : AlikeBy level p q → DifferOnly (FreeBy level p q) p q
  differ_only a = record { same_length = a.same_length; free = place }
    where
      in_header : {i : ℕ} → Within (level.Item p q) i → Within (FreeBy level p q) i
      in_header (Within.lies x after before) = Within.lies (FreePacket.header x) after before

      in_part : {i : ℕ} → Inner p q (level.header_end p) (level.length_end p) i → Within (FreeBy level p q) i
      in_part (Inner.inner long x after before) = Within.lies (FreePacket.in_tcp (omega arith) x) after before

      place : (i : ℕ) → (byte_at p i ≡ byte_at q i → ⊥) → Within (FreeBy level p q) i
      place i differ =
          up_to (level.header_end p) i (λ inside.
          in_header ((header.exactly p q a.same_length).0 a.header i inside differ)) (λ after.
          up_to (level.length_end p) i (λ before.
          in_part (body_differ p q (level.header_end p) (level.length_end p) a.body i after before differ)) (λ past.
          up_to (length p) i (λ within. Within.lies FreePacket.past (omega arith) (omega arith)) (λ outside.
          absurd (differ (past_both i p q a.same_length outside)))))

  alike_by : DifferOnly (FreeBy level p q) p q → AlikeBy level p q
  alike_by d =
      record {
        same_length = d.same_length;
        header = (header.exactly p q d.same_length).1 (λ i inside differ. in_header i inside (d.free i differ));
        body = body_alike_by p q (level.header_end p) (level.length_end p) d.same_length (λ i after before differ.
            in_part i after before (d.free i differ));
      }
    where
      in_header : (i : ℕ) → i < level.header_end p → Within (FreeBy level p q) i → Within (level.Item p q) i
      in_header i inside (Within.lies (FreePacket.header x) a b) = Within.lies x a b
      in_header i inside (Within.lies FreePacket.past a b) = absurd (omega arith)
      in_header i inside (Within.lies (FreePacket.in_tcp long x) a b) = absurd (omega arith)

      in_part
          : (i : ℕ)
          → level.header_end p ≤ i
          → i < level.length_end p
          → Within (FreeBy level p q) i
          → Inner p q (level.header_end p) (level.length_end p) i
      in_part i after before (Within.lies (FreePacket.header x) a b) = let in-it = header.within p q x in absurd (omega arith)
      in_part i after before (Within.lies FreePacket.past a b) = absurd (omega arith)
      in_part i after before (Within.lies (FreePacket.in_tcp long x) a b) = Inner.inner (omega arith) x a b

  pub exact_by : AlikeBy level p q ↔ DifferOnly (FreeBy level p q) p q
  exact_by = (differ_only, alike_by)

-- ---- of two levels, by the version

module _ (level4 level6 : IpLevel) (header4 : ExactHeader level4) (header6 : ExactHeader level6) where
  -- Where a header ends, by the version.
  module _ (p : List ℕ) where
    end4 : version p ≡ 4 → (level_by level4 level6).header_end p ≡ level4.header_end p
    unfolding end_by
    end4 v = rw v

    end6 : version p ≡ 6 → (level_by level4 level6).header_end p ≡ level6.header_end p
    unfolding end_by
    end6 v = rw v

    end0 : (version p ≡ 4 → ⊥) → (version p ≡ 6 → ⊥) → (level_by level4 level6).header_end p ≡ length p
    unfolding end_by
    end0 not4 not6 = rw (ne_eqb (version p) 4 not4, ne_eqb (version p) 6 not6)

  module _ (p q : List ℕ) where
    abbrev Items : ℕ → ℕ → Type 0
    Items = (level_by level4 level6).Item p q

    within_by : {from to : ℕ} → Items from to → to ≤ (level_by level4 level6).header_end p
    within_by (ItemBy.four v x) = rw (end4 p v) (header4.within p q x)
    within_by (ItemBy.six v x) = rw (end6 p v) (header6.within p q x)

    lift4 : {i : ℕ} → version p ≡ 4 → Within (level4.Item p q) i → Within Items i
    lift4 v (Within.lies x a b) = Within.lies (ItemBy.four v x) a b

    lift6 : {i : ℕ} → version p ≡ 6 → Within (level6.Item p q) i → Within Items i
    lift6 v (Within.lies x a b) = Within.lies (ItemBy.six v x) a b

    only4 : {i : ℕ} → version p ≡ 4 → Within Items i → Within (level4.Item p q) i
    only4 v (Within.lies (ItemBy.four w x) a b) = Within.lies x a b
    only4 v (Within.lies (ItemBy.six w x) a b) = absurd (omega arith)

    only6 : {i : ℕ} → version p ≡ 6 → Within Items i → Within (level6.Item p q) i
    only6 v (Within.lies (ItemBy.four w x) a b) = absurd (omega arith)
    only6 v (Within.lies (ItemBy.six w x) a b) = Within.lies x a b

    none : {i : ℕ} → (version p ≡ 4 → ⊥) → (version p ≡ 6 → ⊥) → Within Items i → ⊥
    none not4 not6 (Within.lies (ItemBy.four v x) a b) = not4 v
    none not4 not6 (Within.lies (ItemBy.six v x) a b) = not6 v

    abbrev Places : Type 0
    Places = (i : ℕ) → i < (level_by level4 level6).header_end p → (byte_at p i ≡ byte_at q i → ⊥) → Within Items i

    places : length p ≡ length q → (level_by level4 level6).Header p q → Places
    places same (HeaderBy.same e) i inside differ = absurd (differ (rw e))
    places same (HeaderBy.four v a) i inside differ = lift4 v ((header4.exactly p q same).0 a i (rw (end4 p v) at inside) differ)
    places same (HeaderBy.six v a) i inside differ = lift6 v ((header6.exactly p q same).0 a i (rw (end6 p v) at inside) differ)

    fields : length p ≡ length q → Places → (level_by level4 level6).Header p q
    fields same free =
        elim (ℕ_discrete (version p) 4) [
          | yes v ↦ HeaderBy.four v ((header4.exactly p q same).1 (λ i inside differ. only4 v (free i (rw (end4 p v) inside) differ)))
          | no not4 ↦ elim (ℕ_discrete (version p) 6) [
            | yes v ↦ HeaderBy.six v ((header6.exactly p q same).1 (λ i inside differ. only6 v (free i (rw (end6 p v) inside) differ)))
            | no not6 ↦ HeaderBy.same (ext_get_or 0 p q same (λ i inside.
                agrees_at p q i (λ differ. none not4 not6 (free i (rw (end0 p not4 not6) inside) differ))))
          ]
        ]

  exact_by_version : ExactHeader (level_by level4 level6)
  exact_by_version = record { within = within_by; exactly = λ p q same. (places p q same, fields p q same) }

-- ---- of document 01

pub exact_header : ExactHeader document01
exact_header = exact_by_version ipv4 ipv6 exact4 exact6

pub exact : (p q : List ℕ) → Alike p q ↔ DifferOnly (Free p q) p q
exact = exact_by document01 exact_header

-- One byte of a free item changed.
pub free_byte : (p : List ℕ) (i v : ℕ) {from to : ℕ} → Free p (set p i v) from to → from ≤ i → i < to → Alike p (set p i v)
free_byte p i v {from} {to} x after before =
    alike_by document01 exact_header p (set p i v) (record { same_length = sym (length-set p i v); free = only })
  where
    only : (j : ℕ) → (byte_at p j ≡ byte_at (set p i v) j → ⊥) → Within (Free p (set p i v)) j
    only j differ =
        elim (ℕ_discrete i j) [
          | yes e ↦ Within.lies x (omega arith) (omega arith)
          | no other ↦ absurd (differ (sym (get_or-set_other p i j v 0 (λ e. other (omega arith)))))
        ]
