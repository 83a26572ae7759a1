-- The corners, computed.
use mathlib.Core.Path.{◌≡◌, refl, sym, ap}
use mathlib.Core.Bool.{true≢false}
use mathlib.Core.List.{List}
use Prim.Native.Nat.{ℕ}
use native.Mathlib.Omega.{arith}
use lib.ListN.{set}
use Rattle.basis.specs.Bytes.{byte_at, be16, be32}
use Rattle.ip_options.specs.IpOptions.{ipv6_extension_length}
use Rattle.ip.specs.Ip.{read_ipv4, read_ipv6, read_ip}
use Rattle.alike.specs.Packets.{HeaderBy, document01, Alike}
use Rattle.alike.specs.Free.{FreeTcp, FreeIpv4, FreeIpv6, ItemBy, FreePacket, end_by}
use Rattle.alike.proofs.Exact.{free_byte}
use Rattle.acceptance.specs.Corners.{extension_header, no_header_and_part, cut_identification, cut_flow_label, Corners}

cut_identification_zero : Alike cut_identification (set cut_identification 4 0) → ⊥
unfolding be16
cut_identification_zero a = none a.header
  where
    none : document01.Header cut_identification (set cut_identification 4 0) → ⊥
    none (HeaderBy.same e) = let z : ◌≡◌ {A = ℕ} 1 0 = ap (λ (s : List ℕ). byte_at s 4) e in omega arith
    none (HeaderBy.four v h) = true≢false (sym h.identification)
    none (HeaderBy.six v h) = omega arith

cut_flow_label_zero : Alike cut_flow_label (set cut_flow_label 1 0) → ⊥
unfolding be16
cut_flow_label_zero a = none a.header
  where
    none : document01.Header cut_flow_label (set cut_flow_label 1 0) → ⊥
    none (HeaderBy.same e) = let z : ◌≡◌ {A = ℕ} 1 0 = ap (λ (s : List ℕ). byte_at s 1) e in omega arith
    none (HeaderBy.four v h) = omega arith
    none (HeaderBy.six v h) = true≢false (sym h.flow_label)

pub corners : Corners
unfolding read_ip read_ipv4 read_ipv6 ipv6_extension_length end_by be16 be32
corners =
    record {
      leaf =
          free_byte extension_header 41 1 (FreePacket.in_tcp (omega arith) FreeTcp.ports) (omega arith) (omega arith);
      leaf_refused = refl;
      leaf_one = refl;
      leaf_other = refl;
      header_0 = refl;
      header_0_version = refl;
      header_0_port =
          free_byte no_header_and_part 20 1 (FreePacket.in_tcp (omega arith) FreeTcp.ports) (omega arith) (omega arith);
      cut_identification_lem =
          free_byte cut_identification 4 2 (FreePacket.header (ItemBy.four refl (FreeIpv4.identification refl))) (omega arith)
          (omega arith);
      cut_identification_zero = cut_identification_zero;
      cut_flow_label_lem =
          free_byte cut_flow_label 1 2 (FreePacket.header (ItemBy.six refl (FreeIpv6.flow_label refl refl))) (omega arith) (omega arith);
      cut_flow_label_zero = cut_flow_label_zero;
    }
