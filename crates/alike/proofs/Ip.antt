-- Alike IP headers are read alike: the same refusal, or the same facts.
use Rattle.std.specs.Prelude.{Result, Ok, Err}
use mathlib.Core.Path.{◌≡◌, refl, ◌∙◌, ap}
use mathlib.Core.Bool.{Bool, true, false, cond, not}
use mathlib.Core.List.{List}
use Prim.Native.Nat.{ℕ, min}
use native.Mathlib.Omega.{arith}
use lib.Dec.{eqb, ltb}
use lib.ListN.{length}
use borrow.Author.Tests.{eqb-true}
use Rattle.basis.specs.Bytes.{byte_at}
use Rattle.rfc.specs.Rfc791 as v4
use Rattle.rfc.specs.Rfc8200 as v6
use Rattle.ip_options.specs.IpOptions.{ipv4_option_length}
use Rattle.ip_options.proofs.Laws.{v6_tcp}
use Rattle.ip.specs.declared.IpFacts.{IpFacts}
use Rattle.refusals.specs.declared.PacketRefusal.{PacketRefusal}
use Rattle.refusals.specs.declared.PacketRefusal.TheVariants as refusal
use Rattle.ip.specs.Ip.{ipv4_quirks, ipv4_facts, read_ipv4, ipv6_quirks, ipv6_facts, read_ipv6, IpStage, by_version, read_ip}
use Rattle.ip.proofs.Ip.{Given, given4, given6}
use Rattle.alike.specs.Free.{header_end4, length_end4, header_end6, length_end6, end_by}
use Rattle.alike.specs.Packets.{IpLevel, HeaderBy, ipv4, ipv6, level_by, document01}
use Rattle.alike.specs.Stages.{KeepsLevel}
use Rattle.alike.specs.Ip.{AlikeIpv4, AlikeIpv6}
use Rattle.alike.proofs.Places.{be16_alike, part_alike}

module _ (p q : List ℕ) (a : AlikeIpv4 p q) where
  pub byte0 : byte_at p 0 ≡ byte_at q 0
  byte0 = a.first 0 (omega arith) (omega arith)

  pub total_length_alike : v4.total_length p ≡ v4.total_length q
  total_length_alike = be16_alike 2 p q (a.first 2 (omega arith) (omega arith)) (a.first 3 (omega arith) (omega arith))

  facts4_alike : (start end : ℕ) → ipv4_facts p start end ≡ ipv4_facts q start end
  unfolding ipv4_facts ipv4_quirks ipv4_option_length
  facts4_alike start end =
      rw (
        byte0,
        a.first 1 (omega arith) (omega arith),
        a.identification,
        a.second 6 (omega arith) (omega arith),
        a.second 8 (omega arith) (omega arith),
      )

  read4_alike : read_ipv4 p ≡ read_ipv4 q
  unfolding read_ipv4
  read4_alike =
      rw (
        facts4_alike (v4.data_start p) (v4.data_end p),
        part_alike (v4.data_start p) (v4.data_end p) p q a.same_length,
        byte0,
        total_length_alike,
        a.same_length,
        a.second 6 (omega arith) (omega arith),
        a.second 7 (omega arith) (omega arith),
        a.second 9 (omega arith) (omega arith),
      )

module _ (p q : List ℕ) (a : AlikeIpv6 p q) where
  pub payload_length_alike : v6.payload_length p ≡ v6.payload_length q
  payload_length_alike = be16_alike 4 p q (a.third 4 (omega arith) (omega arith)) (a.third 5 (omega arith) (omega arith))

  -- Before TCP there is no extension header on either side.
  facts6_alike : v6.next_header q ≡ 6 → (end : ℕ) → ipv6_facts p end ≡ ipv6_facts q end
  unfolding ipv6_facts ipv6_quirks
  facts6_alike tcp end =
      rw (
        v6_tcp p (a.third 6 (omega arith) (omega arith) ∙ tcp),
        v6_tcp q tcp,
        a.first,
        a.second,
        a.flow_label,
        a.third 7 (omega arith) (omega arith),
      )

  read6_alike : read_ipv6 p ≡ read_ipv6 q
  unfolding read_ipv6
  read6_alike =
      rw (
        part_alike 40 (v6.payload_end p) p q a.same_length,
        payload_length_alike,
        a.same_length,
        a.third 6 (omega arith) (omega arith),
      )
      (ap (λ (r : Result IpFacts PacketRefusal). cond (ltb (length q) 40) (Err refusal.TooShort) r)
      (by_next (eqb (v6.next_header q) 6) refl (ltb (length (v6.payload q)) 20)))
    where
      by_next
          : (t : Bool)
          → eqb (v6.next_header q) 6 ≡ t
          → (short : Bool)
          → cond (not t) (Err refusal.UnsupportedProtocol)
          (cond short (Err refusal.TcpTooShort) (Ok (ipv6_facts p (v6.payload_end q))))
          ≡ cond (not t) (Err refusal.UnsupportedProtocol)
          (cond short (Err refusal.TcpTooShort) (Ok (ipv6_facts q (v6.payload_end q))))
      by_next true e short = rw (facts6_alike (eqb-true (v6.next_header q) 6 e) (v6.payload_end q))
      by_next false e short = refl

-- ---- each stage keeps to its level

-- The TCP part of a packet lies at these ends.
abbrev At : List ℕ → IpFacts → ℕ → ℕ → Type 0
At p f header_end length_end = (f.start ≡ header_end) × (f.end ≡ min length_end (length p))

at4 : (p : List ℕ) {f : IpFacts} → Given p 4 (Ok f) → At p f (header_end4 p) (length_end4 p)
unfolding ipv4_facts
at4 p (Given.four long words) = (omega arith, refl)

at6 : (p : List ℕ) {f : IpFacts} → Given p 6 (Ok f) → At p f (header_end6 p) (length_end6 p)
unfolding ipv6_facts
at6 p (Given.six long) = (refl, refl)

keeps4 : KeepsLevel ipv4 read_ipv4
keeps4 = record { alike = λ p q same a. read4_alike p q a; part = λ p f e. at4 p (rw e at (given4 p)) }

keeps6 : KeepsLevel ipv6 read_ipv6
keeps6 = record { alike = λ p q same a. read6_alike p q a; part = λ p f e. at6 p (rw e at (given6 p)) }

-- ---- and so does the stage that chooses by the version

module _ (level4 level6 : IpLevel) (stage4 stage6 : IpStage) (keep4 : KeepsLevel level4 stage4) (keep6 : KeepsLevel level6 stage6)
    (first4 : (p q : List ℕ) → level4.Header p q → byte_at p 0 ≡ byte_at q 0)
    (first6 : (p q : List ℕ) → level6.Header p q → byte_at p 0 ≡ byte_at q 0) where
  chosen_alike
      : (p q : List ℕ)
      → length p ≡ length q
      → (level_by level4 level6).Header p q
      → by_version stage4 stage6 p ≡ by_version stage4 stage6 q
  chosen_alike p q same (HeaderBy.same e) = rw e
  chosen_alike p q same (HeaderBy.four v a) = rw (← first4 p q a, v, same, keep4.alike p q same a)
  chosen_alike p q same (HeaderBy.six v a) = rw (← first6 p q a, v, same, keep6.alike p q same a)

  chosen_part
      : (p : List ℕ) (f : IpFacts)
      → by_version stage4 stage6 p ≡ Ok f
      → At p f ((level_by level4 level6).header_end p) ((level_by level4 level6).length_end p)
  unfolding end_by
  chosen_part p f e = by_tests (eqb (length p) 0) (eqb (v4.version p) 4) (eqb (v4.version p) 6) e
    where
      by_tests
          : (none is4 is6 : Bool)
          → cond none (Err refusal.Version) (cond is4 (stage4 p) (cond is6 (stage6 p) (Err refusal.Version))) ≡ Ok f
          → At p f (cond is4 (level4.header_end p) (cond is6 (level6.header_end p) (length p)))
          (cond is4 (level4.length_end p) (cond is6 (level6.length_end p) (length p)))
      by_tests true is4 is6 h = let clash : ◌≡◌ {A = ℕ} 0 1 = cc in absurd (omega arith)
      by_tests false true is6 h = keep4.part p f h
      by_tests false false true h = keep6.part p f h
      by_tests false false false h = let clash : ◌≡◌ {A = ℕ} 0 1 = cc in absurd (omega arith)

  chosen_keeps : KeepsLevel (level_by level4 level6) (by_version stage4 stage6)
  chosen_keeps = record { alike = chosen_alike; part = chosen_part }

pub keeps_level : KeepsLevel document01 read_ip
unfolding read_ip
keeps_level = chosen_keeps ipv4 ipv6 read_ipv4 read_ipv6 keeps4 keeps6 byte0 (λ p q a. a.first)
