-- What is counted: the reading of a packet, and what the search of a checked list answers for it.
use Rattle.std.specs.Prelude.{ℕ, ◌+◌, ◌*◌, List, None}
use Rattle.flow.specs.declared.Mode.{Mode}
use Rattle.flow.specs.Modes.{plain_mode, read_in}
use Rattle.flow.specs.Reading.{observation_read}
use Rattle.found.specs.declared.Found.{Found}
use Rattle.found.specs.declared.Found.TheVariants as found
use Rattle.found.specs.declared.Searched.{Searched}
use Rattle.search.specs.Search.{searched}
use Rattle.packet_answer.specs.Packet.{peer_of}
use Rattle.witness.specs.declared.PlainPacket.{PlainPacket}
use Rattle.witness.specs.Written.{answer_number, plain_packet}

unfoldable pub counted_reading_in : Mode → List ℕ → ℕ → PlainPacket
counted_reading_in mode p peer = plain_packet (read_in mode p (peer_of peer)) None

abbrev pub counted_reading : List ℕ → ℕ → PlainPacket
counted_reading p peer = counted_reading_in plain_mode p peer

-- Of a reading, which answer it is.
unfoldable pub counted_kind : List ℕ → ℕ → ℕ
counted_kind p peer = answer_number (read_in plain_mode p (peer_of peer))

-- None, or exact or fuzzy with the record's label.
abbrev pub found_code : Found → ℕ
found_code found.None = 65536
found_code (found.Exact hit) = 131072 + hit.label
found_code (found.Fuzzy hit reason) = 196608 + hit.label

-- And how many records were examined.
abbrev pub searched_code : Searched → ℕ
searched_code s = 262144 * s.examined + found_code s.found

unfoldable pub counted_answer : List ℕ → ℕ → List ℕ → ℕ
counted_answer p peer l = searched_code (searched (observation_read (read_in plain_mode p (peer_of peer))) l)
