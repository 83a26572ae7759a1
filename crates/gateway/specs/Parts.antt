-- An answer for C: a struct, whose field `outcome` alone tells exact, fuzzy and none apart. No two of its fields share a meaning, and a
-- field that an answer does not have is 0; so are, of every answer, `tolerated` and the bits of `marks` but two.
use Rattle.std.specs.Prelude.{ℕ, ◌+◌, ◌%◌, Bool, cond, List, Option, Some, None, Result, Ok, Err}
use Rattle.quirks.specs.Quirks.{bits_of}
use Rattle.refusals.specs.declared.ListRefusal.{ListRefusal}
use Rattle.refusals.specs.declared.PacketRefusal.{PacketRefusal}
use Rattle.refusals.specs.Refusals.{packet_number, list_number, packet_value, list_value, Verdict, list_refused}
use Rattle.matching.specs.declared.FuzzyReason.{FuzzyReason}
use Rattle.flow.specs.declared.Kind.{Kind}
use Rattle.flow.specs.declared.Kind.TheVariants as kind
use Rattle.flow.specs.declared.Mode.{Mode}
use Rattle.siglist.specs.List.{check_list}
use Rattle.found.specs.declared.Hit.{Hit}
use Rattle.found.specs.declared.Found.{Found}
use Rattle.found.specs.declared.Found.TheVariants as found
use Rattle.found.specs.declared.Searched.{Searched}
use Rattle.packet_answer.specs.declared.PacketAnswer.{PacketAnswer}
use Rattle.packet_answer.specs.declared.PacketAnswer.TheVariants as packet
use Rattle.packet_answer.specs.Packet.{peer_of, answer_of, answer_in, packet_verdict}
use Rattle.gateway.specs.declared.TermreadResult.{TermreadResult}

-- ---- the fields

-- `outcome`: 1 exact, 2 fuzzy, 3 none, 4 nothing (neither SYN nor SYN+ACK), 5 refused; of a list 0, it is good. `kind`, of exact, fuzzy
-- and none: 1 SYN, 2 SYN+ACK. `label` and `number`, of exact and fuzzy: those of the record, which are counted from 0. `examined`, of
-- exact, fuzzy and none: how many records the search examined (document 02, Wish 6).
abbrev pub plain : ℕ → ℕ → ℕ → ℕ → ℕ → ℕ → TermreadResult
plain outcome kind label number examined marks =
    record {
      outcome = outcome;
      kind = kind;
      refusal = 0;
      tolerated = 0;
      label = label;
      number = number;
      examined = examined;
      value = 0;
      added = 0;
      missing = 0;
      hops = 0;
      marks = marks;
    }

abbrev pub valued : ℕ → ℕ → ℕ → ℕ → TermreadResult
valued outcome kind refusal value =
    record {
      outcome = outcome;
      kind = kind;
      refusal = refusal;
      tolerated = 0;
      label = 0;
      number = 0;
      examined = 0;
      value = value;
      added = 0;
      missing = 0;
      hops = 0;
      marks = 0;
    }

-- `refusal`: its number in documents 01 and 02. `value`, what it returns beside it: of 7 the flags byte, of 10 the index of the first bad
-- record.
abbrev pub refused : ℕ → ℕ → TermreadResult
refused refusal value = valued 5 0 refusal value

-- The reason of a fuzzy answer, "the hop distance if out of range, the added and the missing quirks" (document 01, module 7): `added`
-- and `missing`, a bit for each quirk; `hops`; and bit 0 of `marks`, which says that the TTL is out of range.
abbrev pub hops_of : Option ℕ → ℕ
hops_of None = 0
hops_of (Some d) = d

-- Bit 2 of `marks`, of exact and fuzzy: the record is generic (document 02, Wish 3). Bit 1 is kept for Wish 8.
abbrev pub generic_mark : Bool → ℕ
generic_mark generic = cond generic 4 0

abbrev pub marks_of : Option ℕ → Bool → ℕ
marks_of None generic = generic_mark generic
marks_of (Some d) generic = generic_mark generic + 1

abbrev pub fuzzy : ℕ → Hit → FuzzyReason → ℕ → TermreadResult
fuzzy kind hit reason examined =
    record {
      outcome = 2;
      kind = kind;
      refusal = 0;
      tolerated = 0;
      label = hit.label;
      number = hit.number;
      examined = examined;
      value = 0;
      added = bits_of reason.added % 256;
      missing = bits_of reason.missing % 256;
      hops = hops_of reason.hops;
      marks = marks_of reason.hops hit.generic;
    }

-- ---- the struct of an answer

-- What a search found, and how many records it examined.
abbrev pub found_parts : ℕ → Found → ℕ → TermreadResult
found_parts kind found.None examined = plain 3 kind 0 0 examined 0
found_parts kind (found.Exact hit) examined = plain 1 kind hit.label hit.number examined (generic_mark hit.generic)
found_parts kind (found.Fuzzy hit reason) examined = fuzzy kind hit reason examined

unfoldable pub searched_parts : ℕ → Searched → TermreadResult
searched_parts kind s = found_parts kind s.found s.examined

abbrev pub kind_number : Kind → ℕ
kind_number kind.Syn = 1
kind_number kind.SynAck = 2

unfoldable pub packet_parts : Result PacketAnswer PacketRefusal → TermreadResult
packet_parts (Ok (packet.Opening k s)) = searched_parts (kind_number k) s
packet_parts (Ok packet.Nothing) = plain 4 0 0 0 0 0
packet_parts (Err r) = refused (packet_number r) (packet_value r)

unfoldable pub refused_list : ListRefusal → TermreadResult
refused_list r = refused (list_number r) (list_value r % 65536)

-- The answer of a packet, or why its list is refused.
pub data GatewayAnswer : Type 0 where
  answered : Result PacketAnswer PacketRefusal → GatewayAnswer
  list_refused_lem : ListRefusal → GatewayAnswer

abbrev pub parts_of : GatewayAnswer → TermreadResult
parts_of (GatewayAnswer.answered a) = packet_parts a
parts_of (GatewayAnswer.list_refused_lem r) = refused_list r

-- ---- what the exported functions answer

-- A list that is not checked yet is refused before its packet is read, as a bundle's is.
abbrev pub after_list : Result (Unit {0}) ListRefusal → Result PacketAnswer PacketRefusal → GatewayAnswer
after_list (Ok tt) a = GatewayAnswer.answered a
after_list (Err r) a = GatewayAnswer.list_refused_lem r

unfoldable pub gateway_answer : List ℕ → ℕ → List ℕ → GatewayAnswer
gateway_answer p peer l = after_list (check_list l) (answer_of p (peer_of peer) l)

-- The same in any mode.
unfoldable pub gateway_in : Mode → List ℕ → ℕ → List ℕ → GatewayAnswer
gateway_in mode p peer l = after_list (check_list l) (answer_in mode p (peer_of peer) l)

-- Of a list: all 0 if it is well formed, or its refusal.
unfoldable pub list_parts : Result (Unit {0}) ListRefusal → TermreadResult
list_parts (Ok tt) = plain 0 0 0 0 0 0
list_parts (Err r) = refused_list r

-- Which refusal of the table the answer is, if any.
abbrev pub gateway_verdict : GatewayAnswer → Verdict
gateway_verdict (GatewayAnswer.answered a) = packet_verdict a
gateway_verdict (GatewayAnswer.list_refused_lem r) = list_refused r
