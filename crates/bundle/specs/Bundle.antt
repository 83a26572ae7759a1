-- The bundle (document 01, "The bundle program"): its header, its list and its packets, and when it is refused.
use Rattle.std.specs.Prelude.{ℕ, zero, suc, ◌+◌, ◌≤◌, Bool, cond, ◌&&◌, List, leb, length, Option, Result, Ok, Err}
use Rattle.basis.specs.Bytes.{be16, part}
use Rattle.packet_answer.specs.Packet.{peer_of}
use Rattle.refusals.specs.declared.Refusal.{Refusal}
use Rattle.refusals.specs.declared.Refusal.TheVariants as refusal
use Rattle.refusals.specs.Refusals.{Verdict, number_of}
use Rattle.refusals.specs.declared.ListRefusal.{ListRefusal}
use Rattle.siglist.specs.List.{area_fits, check_list}
use Rattle.bundle.specs.declared.BundleRefusal.{BundleRefusal}
use Rattle.bundle.specs.declared.BundleRefusal.TheVariants as check

-- ---- the header

-- "Header of 8 bytes, big-endian: packet count, offset of packets, list length, list offset."
abbrev pub packet_count : List ℕ → ℕ
packet_count b = be16 b 0

abbrev pub packets_offset : List ℕ → ℕ
packets_offset b = be16 b 2

abbrev pub list_length : List ℕ → ℕ
list_length b = be16 b 4

abbrev pub list_offset : List ℕ → ℕ
list_offset b = be16 b 6

-- The list's bytes.
abbrev pub list_of : List ℕ → List ℕ
list_of b = part (list_offset b) (list_offset b + list_length b) b

-- ---- a packet, by the place where it starts

-- "A packet is peer MSS (two bytes, 0 absent), length (two), bytes."
unfoldable pub packet_end : List ℕ → ℕ → ℕ
packet_end b at = at + 4 + be16 b (at + 2)

abbrev pub packet_bytes : List ℕ → ℕ → List ℕ
packet_bytes b at = part (at + 4) (packet_end b at) b

abbrev pub packet_peer : List ℕ → ℕ → Option ℕ
packet_peer b at = peer_of (be16 b at)

-- A packet fits if its four bytes and then its own lie within the bundle.
unfoldable pub packet_fits : List ℕ → ℕ → Bool
packet_fits b at = leb (at + 4) (length b) && leb (packet_end b at) (length b)

-- So many packets, each where the one before it ends. The offset of packets is within the bundle "also at count 0".
unfoldable pub packets_fit : List ℕ → ℕ → ℕ → Bool
packets_fit b at zero = leb at (length b)
packets_fit b at (suc n) = packet_fits b at && packets_fit b (packet_end b at) n

-- The header and the list's area fit; the area may lie over the header.
unfoldable pub list_lies : List ℕ → Bool
list_lies b = leb 8 (length b) && area_fits (list_offset b) (list_length b) b

-- The same as a fact.
abbrev pub ListWithin : List ℕ → Type 0
ListWithin b = (8 ≤ length b) × (list_offset b + list_length b ≤ length b)

-- ---- refusals

-- Refusal 12: "bundle over 65,535 bytes, or its header, list area or a packet does not fit".
unfoldable pub bundle_fits : List ℕ → Bool
bundle_fits b = leb (length b) 65535 && list_lies b && packets_fit b (packets_offset b) (packet_count b)

abbrev pub of_list : Result (Unit {0}) ListRefusal → Result (Unit {0}) BundleRefusal
of_list (Ok tt) = Ok tt
of_list (Err r) = Err (check.List r)

-- "A bundle meets 12, then 9, then 10, before any packet."
unfoldable pub check_bundle : List ℕ → Result (Unit {0}) BundleRefusal
check_bundle b = cond (bundle_fits b) (of_list (check_list (list_of b))) (Err check.DoesNotFit)

-- Which refusal of the table it is.
abbrev pub as_refusal : BundleRefusal → Refusal
as_refusal check.DoesNotFit = refusal.BundleDoesNotFit
as_refusal (check.List r) = refusal.List r

-- Which one an answer is, if any, and its number; 0 if it is none.
abbrev pub bundle_verdict : Result (Unit {0}) BundleRefusal → Verdict
bundle_verdict (Ok tt) = Verdict.accepted
bundle_verdict (Err r) = Verdict.refused (as_refusal r)

unfoldable pub bundle_refusal : Result (Unit {0}) BundleRefusal → ℕ
bundle_refusal c = number_of (bundle_verdict c)
