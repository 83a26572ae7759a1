-- What an answer does not have is 0 in its struct, and so is what later requests fill.
use Rattle.std.specs.Prelude.{None, Result, Ok, Err}
use mathlib.Core.Path.{◌≡◌, refl}
use mathlib.Core.Bool.{Bool, false}
use Prim.Native.Nat.{ℕ, ◌%◌}
use native.Mathlib.Omega.{arith}
use Rattle.refusals.specs.declared.PacketRefusal.{PacketRefusal}
use Rattle.refusals.specs.declared.PacketRefusal.TheVariants as why
use Rattle.refusals.specs.declared.ListRefusal.{ListRefusal}
use Rattle.refusals.specs.declared.ListRefusal.TheVariants as bad
use Rattle.refusals.specs.Refusals.{packet_number, list_number, packet_value, list_value}
use Rattle.matching.specs.declared.FuzzyReason.{FuzzyReason}
use Rattle.found.specs.declared.Hit.{Hit}
use Rattle.found.specs.declared.Found.{Found}
use Rattle.found.specs.declared.Found.TheVariants as found
use Rattle.packet_answer.specs.declared.PacketAnswer.TheVariants as packet
use Rattle.gateway.specs.Parts.{GatewayAnswer, kind_number, plain, refused, generic_mark, fuzzy}
use Rattle.gateway.specs.Parts.{found_parts, searched_parts, packet_parts, refused_list, parts_of, list_parts}
use Rattle.gateway.specs.Zeros.{Zeros}
use Rattle.gateway.proofs.Marks.{bits_0_and_2, no_distance, not_far}

plain_zeros
    : (outcome kind label number examined : ℕ) (generic : Bool)
    → ((outcome ≡ 1 → ⊥) → (outcome ≡ 2 → ⊥) → (outcome ≡ 3 → ⊥) → (kind ≡ 0) × (examined ≡ 0))
    → ((outcome ≡ 1 → ⊥) → (outcome ≡ 2 → ⊥) → (label ≡ 0) × (number ≡ 0) × (generic_mark generic ≡ 0))
    → Zeros (plain outcome kind label number examined (generic_mark generic))
plain_zeros outcome kind label number examined generic searches records =
    record {
      tolerated = refl;
      other_marks = bits_0_and_2 None generic;
      searched = searches;
      record_found = records;
      reason = λ h. (refl, refl, refl, not_far generic);
      in_range = λ h. refl;
      refusal = λ h. refl;
      value = λ h i. refl;
    }

refused_zeros
    : (refusal value : ℕ) → ((refusal ≡ 7 → ⊥) → (refusal ≡ 10 → ⊥) → value ≡ 0) → Zeros (refused refusal value)
refused_zeros refusal value values =
    record {
      tolerated = refl;
      other_marks = (refl, omega arith);
      searched = λ h i j. (refl, refl);
      record_found = λ h i. (refl, refl, refl);
      reason = λ h. (refl, refl, refl, refl);
      in_range = λ h. refl;
      refusal = λ h. absurd (h refl);
      value = values;
    }

fuzzy_zeros : (kind : ℕ) (hit : Hit) (r : FuzzyReason) (examined : ℕ) → Zeros (fuzzy kind hit r examined)
fuzzy_zeros kind hit r examined =
    record {
      tolerated = refl;
      other_marks = bits_0_and_2 r.hops hit.generic;
      searched = λ h i j. absurd (i refl);
      record_found = λ h i. absurd (i refl);
      reason = λ h. absurd (h refl);
      in_range = no_distance r.hops hit.generic;
      refusal = λ h. refl;
      value = λ h i. refl;
    }

found_zeros : (kind : ℕ) (f : Found) (examined : ℕ) → Zeros (found_parts kind f examined)
found_zeros kind found.None examined =
    plain_zeros 3 kind 0 0 examined false (λ h i j. absurd (j refl)) (λ h i. (refl, refl, refl))
found_zeros kind (found.Exact hit) examined =
    plain_zeros 1 kind hit.label hit.number examined hit.generic (λ h i j. absurd (h refl)) (λ h i. absurd (h refl))
found_zeros kind (found.Fuzzy hit reason) examined = fuzzy_zeros kind hit reason examined

-- Only refusals 7 and 10 return anything.
pub packet_alone : (r : PacketRefusal) → (packet_number r ≡ 7 → ⊥) → packet_value r ≡ 0
packet_alone why.Version h = refl
packet_alone why.TooShort h = refl
packet_alone why.HeaderLength h = refl
packet_alone why.UnsupportedProtocol h = refl
packet_alone why.Fragment h = refl
packet_alone why.TcpTooShort h = refl
packet_alone (why.InvalidTcpFlags byte) h = absurd (h refl)
packet_alone why.DataOffset h = refl
packet_alone why.ExtensionHeaders h = refl

pub list_alone : (r : ListRefusal) → (list_number r ≡ 10 → ⊥) → list_value r % 65536 ≡ 0
list_alone bad.DoesNotFit h = refl
list_alone (bad.BadRecord i) h = absurd (h refl)

-- Of every answer.
pub zeros : (a : GatewayAnswer) → Zeros (parts_of a)
unfolding packet_parts searched_parts refused_list
zeros (GatewayAnswer.answered (Ok (packet.Opening k s))) = found_zeros (kind_number k) s.found s.examined
zeros (GatewayAnswer.answered (Ok packet.Nothing)) = plain_zeros 4 0 0 0 0 false (λ h i j. (refl, refl)) (λ h i. (refl, refl, refl))
zeros (GatewayAnswer.answered (Err r)) = refused_zeros (packet_number r) (packet_value r) (λ h i. packet_alone r h)
zeros (GatewayAnswer.list_refused_lem r) = refused_zeros (list_number r) (list_value r % 65536) (λ h i. list_alone r i)

-- Of what is said of a list.
pub list_zeros : (a : Result (Unit {0}) ListRefusal) → Zeros (list_parts a)
unfolding list_parts
list_zeros (Ok tt) = plain_zeros 0 0 0 0 0 false (λ h i j. (refl, refl)) (λ h i. (refl, refl, refl))
list_zeros (Err r) = zeros (GatewayAnswer.list_refused_lem r)
