-- Corners of demand 3, each by its smallest input: what document 01's list of free bytes says where a reader may expect something else
-- (docs/DECISIONS.md, 12). `Corners` is the statement.
use Rattle.std.specs.Prelude.{◌≡◌, List, [], ◌∷◌, ℕ, replicate, set, Err}
use Rattle.ip_options.specs.IpOptions.{ipv6_extension_length}
use Rattle.refusals.specs.declared.PacketRefusal.TheVariants as refusal
use Rattle.ip.specs.Ip.{read_ip}
use Rattle.alike.specs.Packets.{Alike}

-- ---- a function that is no packet reader

-- Twenty bytes after an IPv6 header whose next header is not TCP. Byte 41 is a port's, and an extension header's length.
abbrev pub extension_header : List ℕ
extension_header = 0x60 ∷ 0 ∷ 0 ∷ 0 ∷ 0 ∷ 20 ∷ replicate 54 0

-- ---- a header length under 5, and fields that the slice cuts off

-- Header length 0, and a total length of twenty bytes; and of forty, so that twenty follow the twenty of the header.
abbrev pub no_header : List ℕ
no_header = 0x40 ∷ 0 ∷ 0 ∷ 20 ∷ replicate 16 0

abbrev pub no_header_and_part : List ℕ
no_header_and_part = 0x40 ∷ 0 ∷ 0 ∷ 40 ∷ replicate 36 0

-- A packet that ends within the identification, and one that ends within the flow label.
abbrev pub cut_identification : List ℕ
cut_identification = 0x45 ∷ 0 ∷ 0 ∷ 0 ∷ 1 ∷ []

abbrev pub cut_flow_label : List ℕ
cut_flow_label = 0x60 ∷ 1 ∷ []

pub record Corners : Type 0 where
  -- `calculate_ipv6_length` may differ on alike packets that are refused
  pub leaf : Alike extension_header (set extension_header 41 1)
  pub leaf_refused : read_ip extension_header ≡ Err refusal.UnsupportedProtocol
  pub leaf_one : ipv6_extension_length extension_header ≡ 8
  pub leaf_other : ipv6_extension_length (set extension_header 41 1) ≡ 16
  -- Header length 0: a port at byte 0 would free the version, and with it the refusal's number. The part is counted from 20.
  pub header_0 : read_ip no_header ≡ Err refusal.HeaderLength
  pub header_0_version : read_ip (set no_header 0 0) ≡ Err refusal.Version
  pub header_0_port : Alike no_header_and_part (set no_header_and_part 20 1)
  -- A field that the slice cuts off is what is there of it, and stays zero or stays nonzero like a whole one.
  pub cut_identification_lem : Alike cut_identification (set cut_identification 4 2)
  pub cut_identification_zero : Alike cut_identification (set cut_identification 4 0) → ⊥
  pub cut_flow_label_lem : Alike cut_flow_label (set cut_flow_label 1 2)
  pub cut_flow_label_zero : Alike cut_flow_label (set cut_flow_label 1 0) → ⊥
