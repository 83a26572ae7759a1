-- The answers beside lines: `value` is the length of the line, and nothing is written beside another answer.
use Rattle.std.specs.Prelude.{Result, Ok, Err}
use mathlib.Core.Path.{◌≡◌, refl}
use mathlib.Core.Bool.{Bool, true, false}
use mathlib.Core.List.{List}
use Prim.Native.Nat.{ℕ, ◌<◌, ◌≤◌}
use native.Mathlib.Nat.{mod-eq_of_lt}
use native.Mathlib.Omega.{arith}
use lib.Dec.{ltb}
use lib.ListN.{length}
use borrow.Author.Tests.{ltb-true, ltb-false, le-ltb}
use Rattle.basis.specs.Bytes.{AllBytes}
use Rattle.refusals.specs.declared.ListRefusal.{ListRefusal}
use Rattle.refusals.specs.declared.ListRefusal.TheVariants as bad
use Rattle.refusals.specs.declared.PacketRefusal.{PacketRefusal}
use Rattle.refusals.specs.declared.PacketRefusal.TheVariants as why
use Rattle.refusals.specs.Refusals.{packet_number, packet_value, list_number}
use Rattle.observable.specs.declared.TcpObservation.{TcpObservation}
use Rattle.flow.specs.declared.Reading.{Reading}
use Rattle.flow.specs.declared.Reading.TheVariants as reading
use Rattle.flow.specs.Reading.{observation_read}
use Rattle.flow.specs.declared.Mode.{Mode}
use Rattle.flow.specs.Modes.{read_in}
use Rattle.flow.proofs.Observed.{sound_in}
use Rattle.siglist.specs.List.{record_count, check_list}
use Rattle.siglist.proofs.FirstBad.{each_good, good_fits}
use Rattle.packet_answer.specs.Packet.{peer_of}
use Rattle.written_line.specs.LineText.{record_text, observation_text}
use Rattle.written_line.specs.Numbers.{ObservationHeld}
use Rattle.written_line.specs.Writing.{refusing, line_into, observation_line, record_line_of, record_line}
use Rattle.written_line.proofs.EveryRecord.{record_length_lem}
use Rattle.written_line.proofs.Observed.{observation_length_lem}
use Rattle.gateway.specs.Lines.{line_parts, refusal_parts, wrote_parts, lined_parts, unwritten}
use Rattle.gateway.specs.Lines.{seen_line, line_of_reading, packet_line_in, record_parts}
use Rattle.gateway.specs.LineTold.{LineZeros, LineTold}
use Rattle.gateway.specs.Parts.{refused, kind_number, refused_list}
use Rattle.gateway.proofs.Zeros.{packet_alone, list_alone}

-- ---- a line that was read off or written

refused_zeros
    : (number value : ℕ) → ((number ≡ 7 → ⊥) → (number ≡ 10 → ⊥) → value ≡ 0) → LineZeros (refused number value)
refused_zeros number value alone =
    record {
      kind = λ h. refl;
      refusal = λ h. absurd (h refl);
      value = λ h. alone;
      search = (refl, refl, refl, refl);
      reason = (refl, refl, refl, refl);
    }

line_zeros : (kind size : ℕ) → LineZeros (line_parts kind size)
line_zeros kind size =
    record {
      kind = λ h. absurd (h refl);
      refusal = λ h. refl;
      value = λ h. absurd (h refl);
      search = (refl, refl, refl, refl);
      reason = (refl, refl, refl, refl);
    }

-- A refusal, which is not 15.
refused_told
    : (most room number value : ℕ)
    → (number ≡ 15 → ⊥)
    → ((number ≡ 7 → ⊥) → (number ≡ 10 → ⊥) → value ≡ 0)
    → LineTold most room (unwritten (refused number value))
refused_told most room number value other alone =
    record {
      told = λ h. absurd (omega arith);
      short = omega arith;
      inside = omega arith;
      none = λ h. refl;
      enough = λ h. other;
      zeros = refused_zeros number value alone;
    }

-- A line that is written whole, or does not find room.
into_told
    : (kind most room : ℕ) (s : List ℕ)
    → length s ≤ most
    → most < 65536
    → LineTold most room (lined_parts kind (line_into s room))
unfolding line_into refusing wrote_parts refusal_parts
into_told kind most room s short small = by (ltb room (length s)) refl
  where
    by
        : (t : Bool)
        → ltb room (length s) ≡ t
        → LineTold most room (lined_parts kind (line_into s room))
    by true e =
        let longer = ltb-true room (length s) e in
        rw e
        (record {
          told = λ h. absurd (omega arith);
          short = omega arith;
          inside = omega arith;
          none = λ h. refl;
          enough = λ h i. omega arith;
          zeros = refused_zeros 15 0 (λ h i. refl);
        })
    by false e =
        rw e
        (record {
          told = λ h. mod-eq_of_lt (omega arith);
          short = short;
          inside = ltb-false room (length s) e;
          none = λ h. absurd (h refl);
          enough = λ h i. omega arith;
          zeros = line_zeros kind (length s);
        })

-- ---- a packet

-- Its refusals are 1 to 7 and 14.
not_fifteen : (r : PacketRefusal) → packet_number r ≡ 15 → ⊥
not_fifteen why.Version h = omega arith
not_fifteen why.TooShort h = omega arith
not_fifteen why.HeaderLength h = omega arith
not_fifteen why.UnsupportedProtocol h = omega arith
not_fifteen why.Fragment h = omega arith
not_fifteen why.TcpTooShort h = omega arith
not_fifteen (why.InvalidTcpFlags byte) h = omega arith
not_fifteen why.DataOffset h = omega arith
not_fifteen why.ExtensionHeaders h = omega arith

module _ (o : TcpObservation) (held : ObservationHeld o) (few : o.olayout.count ≤ 40) (room : ℕ) where
  seen_told : (kind : ℕ) → LineTold 432 room (seen_line kind o room)
  unfolding observation_line
  seen_told kind =
      rw (le-ltb 40 o.olayout.count few)
      (into_told kind 432 room (observation_text o) (observation_length_lem o held few) (omega arith))

reading_told
    : (r : Result Reading PacketRefusal)
    → ObservationHeld (observation_read r)
    → (observation_read r).olayout.count ≤ 40
    → (room : ℕ)
    → LineTold 432 room (line_of_reading r room)
reading_told (Ok (reading.Opening k o)) held few room = seen_told o held few room (kind_number k)
reading_told (Ok reading.Nothing) held few room =
    record {
      told = λ h. absurd (omega arith);
      short = omega arith;
      inside = omega arith;
      none = λ h. refl;
      enough = λ h i. omega arith;
      zeros =
          record {
            kind = λ h. refl;
            refusal = λ h. refl;
            value = λ h i j. refl;
            search = (refl, refl, refl, refl);
            reason = (refl, refl, refl, refl);
          };
    }
reading_told (Err r) held few room =
    refused_told 432 room (packet_number r) (packet_value r) (not_fifteen r) (λ h i. packet_alone r h)

-- In every mode, of a packet whose numbers are such as their types hold (those of every packet of bytes are).
pub packet_line_told
    : (mode : Mode) (p : List ℕ) (peer room : ℕ)
    → ObservationHeld (observation_read (read_in mode p (peer_of peer)))
    → LineTold 432 room (packet_line_in mode p peer room)
unfolding packet_line_in
packet_line_told mode p peer room held =
    reading_told (read_in mode p (peer_of peer)) held (sound_in mode p (peer_of peer)).few room

-- ---- a record

list_not_fifteen : (r : ListRefusal) → list_number r ≡ 15 → ⊥
list_not_fifteen bad.DoesNotFit h = omega arith
list_not_fifteen (bad.BadRecord i) h = omega arith

module _ (l : List ℕ) (all : AllBytes l) (i room : ℕ) where
  good_told
      : (t : Bool)
      → ltb i (record_count l) ≡ t
      → check_list l ≡ (Ok tt)
      → LineTold 434 room (lined_parts 0 (record_line_of (Ok tt) l i room))
  unfolding refusing wrote_parts refusal_parts
  good_told true e good =
      rw e
      (into_told 0 434 room (record_text l i)
      (record_length_lem l i all (good_fits l good) (each_good l i good (ltb-true i (record_count l) e))) (omega arith))
  good_told false e good = rw e (refused_told 434 room 23 0 (λ h. omega arith) (λ h j. refl))

  list_told : (a : Result (Unit {0}) ListRefusal) → check_list l ≡ a → LineTold 434 room (lined_parts 0 (record_line_of a l i room))
  unfolding refusing wrote_parts refusal_parts refused_list
  list_told (Ok tt) e = good_told (ltb i (record_count l)) refl e
  list_told (Err r) e =
      refused_told 434 room (list_number r) _ (list_not_fifteen r) (λ h j. list_alone r j)

  -- Of every record of every list of bytes.
  pub record_line_told : LineTold 434 room (record_parts l i room)
  unfolding record_parts record_line
  record_line_told = list_told (check_list l) refl
