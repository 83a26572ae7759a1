-- Why demand 3 asks of two bundles that their lists be the same: "areas may overlap", so that a free byte of a packet may be the list's.
use Rattle.std.specs.Prelude.{◌≡◌, List, [], ◌∷◌, ℕ, set}
use Rattle.alike.specs.Packets.{Alike}
use Rattle.bundle.specs.Bundle.{packet_bytes}
use Rattle.report.specs.Pages.{output_of}
use Rattle.acceptance.specs.Values.{packet_a}

-- One packet, A, whose addresses are the list: eight zero bytes, a list of no record.
abbrev pub list_in_addresses : List ℕ
list_in_addresses = 0 ∷ 1 ∷ 0 ∷ 8 ∷ 0 ∷ 8 ∷ 0 ∷ 24 ∷ 0 ∷ 0 ∷ 0 ∷ 44 ∷ packet_a

-- The same with another source address: its first byte is the high byte of the list's record count.
abbrev pub other_address : List ℕ
other_address = set list_in_addresses 24 1

-- "packets 1", "syn none"
abbrev pub syn_none : List ℕ
syn_none =
    112 ∷ 97 ∷ 99 ∷ 107 ∷ 101 ∷ 116 ∷ 115 ∷ 32 ∷ 49 ∷ 10 ∷ 115 ∷ 121 ∷ 110 ∷ 32 ∷ 110 ∷ 111 ∷ 110 ∷ 101 ∷ 10 ∷ []

-- "refused 9"
abbrev pub refused_nine : List ℕ
refused_nine = 114 ∷ 101 ∷ 102 ∷ 117 ∷ 115 ∷ 101 ∷ 100 ∷ 32 ∷ 57 ∷ 10 ∷ []

pub record Overlap : Type 0 where
  pub alike : Alike (packet_bytes list_in_addresses 8) (packet_bytes other_address 8)
  pub one : output_of list_in_addresses ≡ syn_none
  pub other : output_of other_address ≡ refused_nine
