-- The answer of a bundle's packet, and of the whole bundle as the list of its answers, in any mode; the program asks in the plain one.
use Rattle.std.specs.Prelude.{ℕ, zero, suc, Bool, cond, ◌&&◌, List, [], ◌∷◌, Option, Some, None, Result, Ok, Err}
use Rattle.flow.specs.declared.Mode.{Mode}
use Rattle.flow.specs.Modes.{plain_mode}
use Rattle.refusals.specs.declared.PacketRefusal.{PacketRefusal}
use Rattle.packet_answer.specs.declared.PacketAnswer.{PacketAnswer}
use Rattle.packet_answer.specs.Packet.{answer_in}
use Rattle.bundle.specs.declared.BundleRefusal.{BundleRefusal}
use Rattle.bundle.specs.declared.PacketAt.{PacketAt}
use Rattle.bundle.specs.Bundle.{packet_count, packets_offset, list_of, list_lies, check_bundle}
use Rattle.bundle.specs.Bundle.{packet_bytes, packet_peer, packet_end, packet_fits}

-- The answer of the packet that starts at a place.
unfoldable pub answer_at : Mode → List ℕ → ℕ → Result PacketAnswer PacketRefusal
answer_at mode b at = answer_in mode (packet_bytes b at) (packet_peer b at) (list_of b)

-- There is a packet at a place: it fits, and so does the list.
unfoldable pub packet_lies : List ℕ → ℕ → Bool
packet_lies b at = list_lies b && packet_fits b at

-- What is at a place: no packet, or the answer of the one that starts there, and where it ends.
unfoldable pub packet_at_in : Mode → List ℕ → ℕ → Option PacketAt
packet_at_in mode b at = cond (packet_lies b at) (Some (record { answer = answer_at mode b at; end = packet_end b at })) None

-- Where packet i starts.
unfoldable pub start_of : List ℕ → ℕ → ℕ
start_of b zero = packets_offset b
start_of b (suc i) = packet_end b (start_of b i)

-- The answers of so many packets from a place on. A place without a packet ends the row; no bundle that passes its check has one.
unfoldable pub answers_from : Mode → List ℕ → ℕ → ℕ → List (Result PacketAnswer PacketRefusal)
answers_from mode b at zero = []
answers_from mode b at (suc n) =
    cond (packet_lies b at) (answer_at mode b at ∷ answers_from mode b (packet_end b at) n) []

-- The answer of a whole bundle: how its check ends, and the answers of its packets; none beside a refusal.
pub record BundleAnswer : Type 0 where
  pub check : Result (Unit {0}) BundleRefusal
  pub answers : List (Result PacketAnswer PacketRefusal)

abbrev pub after_bundle_check : Mode → Result (Unit {0}) BundleRefusal → List ℕ → BundleAnswer
after_bundle_check mode (Ok tt) b =
    record { check = Ok tt; answers = answers_from mode b (packets_offset b) (packet_count b) }
after_bundle_check mode (Err r) b = record { check = Err r; answers = [] }

unfoldable pub bundle_answer : Mode → List ℕ → BundleAnswer
bundle_answer mode b = after_bundle_check mode (check_bundle b) b

-- ---- the plain mode

abbrev pub packet_at : List ℕ → ℕ → Option PacketAt
packet_at b at = packet_at_in plain_mode b at
