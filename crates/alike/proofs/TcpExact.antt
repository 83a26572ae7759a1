-- TCP parts are alike exactly if they differ only in free bytes.
use mathlib.Core.Path.{◌≡◌, sym, ◌∙◌, ap}
use mathlib.Core.List.{List}
use mathlib.Core.Logic.{◌↔◌}
use Prim.Native.Nat.{ℕ, ◌+◌, ◌*◌, ◌-◌, ◌/◌, ◌<◌, ◌≤◌}
use native.Mathlib.Omega.{arith}
use native.Mathlib.Decide.{ℕ_discrete}
use lib.ListN.{length}
use Rattle.basis.specs.Bytes.{byte_at, part}
use Rattle.rfc.specs.Rfc9293.{sequence, acknowledgment, data_offset, urgent_pointer, options_end, options}
use Rattle.alike.specs.Options.{AlikeOptions}
use Rattle.alike.specs.Tcp.{AlikeTcp}
use Rattle.alike.specs.Free.{ZeroAlike, Within, DifferOnly, FreeStamp, FreeTcp}
use Rattle.alike.proofs.Places.{up_to, agrees, past_both, be16_agree, be32_agree, zero_alike}
use Rattle.alike.proofs.Places.{part_alike, part_byte, part_within, part_differ}
use Rattle.alike.proofs.OptionsAlike.{options_alike_by}
use Rattle.alike.proofs.OptionsDiffer.{options_differ}

-- ---- from places to fields

module _ (t u : List ℕ) (d : DifferOnly (FreeTcp t u) t u) where
  -- A byte of the header after the ports, unless it lies in an item that may change.
  field
      : (i : ℕ)
      → 4 ≤ i
      → i < 20
      → (ZeroAlike (sequence t) (sequence u) → i < 8 → ⊥)
      → (ZeroAlike (acknowledgment t) (acknowledgment u) → 8 ≤ i → i < 12 → ⊥)
      → (data_offset t ≡ data_offset u → i ≡ 12 → ⊥)
      → (16 ≤ i → i < 18 → ⊥)
      → (ZeroAlike (urgent_pointer t) (urgent_pointer u) → 18 ≤ i → ⊥)
      → byte_at t i ≡ byte_at u i
  field i low high seq ackn offset checksum urgent = agrees d i clash
    where
      clash : Within (FreeTcp t u) i → ⊥
      clash (Within.lies FreeTcp.ports after before) = omega arith
      clash (Within.lies (FreeTcp.sequence z) after before) = seq z (omega arith)
      clash (Within.lies (FreeTcp.acknowledgment z) after before) = ackn z (omega arith) (omega arith)
      clash (Within.lies (FreeTcp.below_offset e) after before) = offset e (omega arith)
      clash (Within.lies FreeTcp.checksum after before) = checksum (omega arith) (omega arith)
      clash (Within.lies (FreeTcp.urgent_pointer z) after before) = urgent z (omega arith)
      clash (Within.lies (FreeTcp.stamp x) after before) = omega arith
      clash (Within.lies FreeTcp.payload after before) = omega arith

  -- The control bits and the window.
  plain : (i : ℕ) → 13 ≤ i → i < 16 → byte_at t i ≡ byte_at u i
  plain i l h =
      field i (omega arith) (omega arith) (λ z a. omega arith) (λ z a b. omega arith) (λ e a. omega arith) (λ a b. omega arith)
      (λ z a. omega arith)

  same_offset : data_offset t ≡ data_offset u
  same_offset = elim (ℕ_discrete (data_offset t) (data_offset u)) [ yes e ↦ e | no other ↦ by other ]
    where
      by : (data_offset t ≡ data_offset u → ⊥) → data_offset t ≡ data_offset u
      by other =
          ap (λ (b : ℕ). b / 16)
          (field 12 (omega arith) (omega arith) (λ z a. omega arith) (λ z a b. omega arith) (λ e a. other e) (λ a b. omega arith)
          (λ z a. omega arith))

  -- A free item at a place of the options is a half of a timestamps option.
  among_options
      : (i : ℕ) → 20 + i < options_end t → Within (FreeTcp t u) (20 + i) → Within (FreeStamp (options t) (options u)) i
  among_options i h (Within.lies FreeTcp.ports after before) = absurd (omega arith)
  among_options i h (Within.lies (FreeTcp.sequence z) after before) = absurd (omega arith)
  among_options i h (Within.lies (FreeTcp.acknowledgment z) after before) = absurd (omega arith)
  among_options i h (Within.lies (FreeTcp.below_offset e) after before) = absurd (omega arith)
  among_options i h (Within.lies FreeTcp.checksum after before) = absurd (omega arith)
  among_options i h (Within.lies (FreeTcp.urgent_pointer z) after before) = absurd (omega arith)
  among_options i h (Within.lies (FreeTcp.stamp x) after before) = Within.lies x (omega arith) (omega arith)
  among_options i h (Within.lies FreeTcp.payload after before) = absurd (omega arith)

  same_options : AlikeOptions (options t) (options u)
  same_options = options_alike_by (options t) (options u) only
    where
      end : options_end u ≡ options_end t
      end = rw (same_offset, d.same_length)

      only : DifferOnly (FreeStamp (options t) (options u)) (options t) (options u)
      only =
          record {
            same_length = rw end (part_alike 20 (options_end t) t u d.same_length);
            free = λ i differ.
                let differ' : byte_at (part 20 (options_end t) t) i ≡ byte_at (part 20 (options_end t) u) i → ⊥ = rw end at differ in
                among_options i (part_within 20 (options_end t) t u d.same_length i differ')
                (d.free (20 + i) (part_differ 20 (options_end t) t u d.same_length i differ'));
          }

  pub tcp_alike_by : AlikeTcp t u
  tcp_alike_by =
      record {
        same_length = d.same_length;
        sequence = zero_alike (sequence t) (sequence u) (λ other. be32_agree 4 t u (λ i l h.
            field i (omega arith) (omega arith) (λ z a. other z) (λ z a b. omega arith) (λ e a. omega arith) (λ a b. omega arith)
            (λ z a. omega arith)));
        acknowledgment = zero_alike (acknowledgment t) (acknowledgment u) (λ other. be32_agree 8 t u (λ i l h.
            field i (omega arith) (omega arith) (λ z a. omega arith) (λ z a b. other z) (λ e a. omega arith) (λ a b. omega arith)
            (λ z a. omega arith)));
        data_offset = same_offset;
        control = λ i l h. plain i (omega arith) (omega arith);
        window = λ i l h. plain i (omega arith) (omega arith);
        urgent_pointer = zero_alike (urgent_pointer t) (urgent_pointer u) (λ other. be16_agree 18 t u (λ i l h.
            field i (omega arith) (omega arith) (λ z a. omega arith) (λ z a b. omega arith) (λ e a. omega arith) (λ a b. omega arith)
            (λ z a. other z)));
        options = same_options;
      }

-- ---- from fields to places

module _ (t u : List ℕ) (a : AlikeTcp t u) where
  -- A place of the options.
  option_place
      : (i : ℕ) → 20 + i < options_end t → (byte_at t (20 + i) ≡ byte_at u (20 + i) → ⊥) → Within (FreeTcp t u) (20 + i)
  option_place i h differ = by ((options_differ (options t) (options u) a.options).free i apart)
    where
      end : options_end u ≡ options_end t
      end = rw (a.data_offset, a.same_length)

      apart : byte_at (options t) i ≡ byte_at (options u) i → ⊥
      apart e = differ (sym (part_byte 20 (options_end t) i t h) ∙ e ∙ part_byte 20 (options_end u) i u (rw end h))

      by : Within (FreeStamp (options t) (options u)) i → Within (FreeTcp t u) (20 + i)
      by (Within.lies x after before) = Within.lies (FreeTcp.stamp x) (omega arith) (omega arith)

  late_place : (i : ℕ) → 20 ≤ i → (byte_at t i ≡ byte_at u i → ⊥) → Within (FreeTcp t u) i
  late_place i late differ =
      up_to (length t) i (λ inside.
      up_to (4 * data_offset t) i (λ within.
      let e : 20 + (i - 20) ≡ i = omega arith in rw e at (option_place (i - 20) (omega arith) (rw e differ))) (λ after.
      Within.lies FreeTcp.payload (omega arith) (omega arith))) (λ past.
      absurd (differ (past_both i t u a.same_length past)))

  place : (i : ℕ) → (byte_at t i ≡ byte_at u i → ⊥) → Within (FreeTcp t u) i
  place i differ =
      up_to 4 i (λ h. Within.lies FreeTcp.ports (omega arith) (omega arith)) (λ after.
      up_to 8 i (λ h. Within.lies (FreeTcp.sequence a.sequence) (omega arith) (omega arith)) (λ after.
      up_to 12 i (λ h. Within.lies (FreeTcp.acknowledgment a.acknowledgment) (omega arith) (omega arith)) (λ after.
      up_to 13 i (λ h. Within.lies (FreeTcp.below_offset a.data_offset) (omega arith) (omega arith)) (λ after.
      up_to 14 i (λ h. absurd (differ (a.control i (omega arith) (omega arith)))) (λ after.
      up_to 16 i (λ h. absurd (differ (a.window i (omega arith) (omega arith)))) (λ after.
      up_to 18 i (λ h. Within.lies FreeTcp.checksum (omega arith) (omega arith)) (λ after.
      up_to 20 i (λ h. Within.lies (FreeTcp.urgent_pointer a.urgent_pointer) (omega arith) (omega arith)) (λ after.
      late_place i after differ))))))))

  pub tcp_differ : DifferOnly (FreeTcp t u) t u
  tcp_differ = record { same_length = a.same_length; free = place }

pub exact_tcp : (t u : List ℕ) → AlikeTcp t u ↔ DifferOnly (FreeTcp t u) t u
exact_tcp t u = (tcp_differ t u, tcp_alike_by t u)
