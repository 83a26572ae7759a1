-- To be alike is an equivalence, layer by layer: options, TCP parts, IP headers, packets.
use mathlib.Core.Path.{◌≡◌, refl, sym, ◌∙◌, ap}
use mathlib.Core.List.{List, [], ◌∷◌}
use Prim.Native.Nat.{ℕ, ◌/◌}
use native.Mathlib.Omega.{arith}
use native.Mathlib.Decide.{dec_le}
use lib.ListN.{length}
use Rattle.basis.specs.Bytes.{byte_at, part}
use Rattle.rfc.specs.Rfc791.{version}
use Rattle.rfc.specs.Rfc9293.{options}
use Rattle.one_option.specs.Options.{Opt, options_of}
use Rattle.alike.specs.Free.{end_by}
use Rattle.alike.specs.Options.{AlikeStamps, AlikeOption, AlikeRow}
use Rattle.alike.specs.Tcp.{AlikeTcp}
use Rattle.alike.specs.Ip.{AlikeIpv4, AlikeIpv6}
use Rattle.alike.specs.Packets.{AlikeBody, IpLevel, AlikeBy, HeaderBy, document01, Alike}
use Rattle.alike.proofs.Places.{part_alike}
use Rattle.alike.proofs.Ip.{byte0, total_length_alike, payload_length_alike}

-- ---- options

pub stamps_sym : {s t : List ℕ} → AlikeStamps s t → AlikeStamps t s
stamps_sym a =
    let size = a.same_length in
    record {
      same_length = sym a.same_length;
      length_byte = λ i l u. sym (a.length_byte i l u);
      own_stamp = λ h. sym (a.own_stamp (omega arith));
      own_cut = λ h i l u. sym (a.own_cut (omega arith) i l u);
      peer_stamp = λ h. sym (a.peer_stamp (omega arith));
      peer_cut = λ h i l u. sym (a.peer_cut (omega arith) i l u);
      beyond = λ i l u. sym (a.beyond i l (omega arith));
    }

pub stamps_trans : {s t u : List ℕ} → AlikeStamps s t → AlikeStamps t u → AlikeStamps s u
stamps_trans a b =
    let size = a.same_length in
    record {
      same_length = a.same_length ∙ b.same_length;
      length_byte = λ i l u. a.length_byte i l u ∙ b.length_byte i l u;
      own_stamp = λ h. a.own_stamp h ∙ b.own_stamp (omega arith);
      own_cut = λ h i l u. a.own_cut h i l u ∙ b.own_cut (omega arith) i l u;
      peer_stamp = λ h. a.peer_stamp h ∙ b.peer_stamp (omega arith);
      peer_cut = λ h i l u. a.peer_cut h i l u ∙ b.peer_cut (omega arith) i l u;
      beyond = λ i l u. a.beyond i l u ∙ b.beyond i l (omega arith);
    }

pub option_sym : {o p : Opt} → AlikeOption o p → AlikeOption p o
option_sym AlikeOption.same = AlikeOption.same
option_sym (AlikeOption.stamps a) = AlikeOption.stamps (stamps_sym a)

pub option_trans : {o p q : Opt} → AlikeOption o p → AlikeOption p q → AlikeOption o q
option_trans AlikeOption.same b = b
option_trans (AlikeOption.stamps a) AlikeOption.same = AlikeOption.stamps a
option_trans (AlikeOption.stamps a) (AlikeOption.stamps b) = AlikeOption.stamps (stamps_trans a b)

pub row_refl : (os : List Opt) → AlikeRow os os
row_refl [] = AlikeRow.none
row_refl (o ∷ os) = AlikeRow.more AlikeOption.same (row_refl os)

pub row_sym : {os ps : List Opt} → AlikeRow os ps → AlikeRow ps os
row_sym AlikeRow.none = AlikeRow.none
row_sym (AlikeRow.more a r) = AlikeRow.more (option_sym a) (row_sym r)

pub row_trans : {os ps qs : List Opt} → AlikeRow os ps → AlikeRow ps qs → AlikeRow os qs
row_trans AlikeRow.none AlikeRow.none = AlikeRow.none
row_trans (AlikeRow.more a r) (AlikeRow.more b s) = AlikeRow.more (option_trans a b) (row_trans r s)

-- ---- TCP parts

pub tcp_refl : (t : List ℕ) → AlikeTcp t t
tcp_refl t =
    record {
      same_length = refl;
      sequence = refl;
      acknowledgment = refl;
      data_offset = refl;
      control = λ i l h. refl;
      window = λ i l h. refl;
      urgent_pointer = refl;
      options = row_refl (options_of (options t));
    }

pub tcp_sym : {t u : List ℕ} → AlikeTcp t u → AlikeTcp u t
tcp_sym a =
    record {
      same_length = sym a.same_length;
      sequence = sym a.sequence;
      acknowledgment = sym a.acknowledgment;
      data_offset = sym a.data_offset;
      control = λ i l h. sym (a.control i l h);
      window = λ i l h. sym (a.window i l h);
      urgent_pointer = sym a.urgent_pointer;
      options = row_sym a.options;
    }

pub tcp_trans : {t u v : List ℕ} → AlikeTcp t u → AlikeTcp u v → AlikeTcp t v
tcp_trans a b =
    record {
      same_length = a.same_length ∙ b.same_length;
      sequence = a.sequence ∙ b.sequence;
      acknowledgment = a.acknowledgment ∙ b.acknowledgment;
      data_offset = a.data_offset ∙ b.data_offset;
      control = λ i l h. a.control i l h ∙ b.control i l h;
      window = λ i l h. a.window i l h ∙ b.window i l h;
      urgent_pointer = a.urgent_pointer ∙ b.urgent_pointer;
      options = row_trans a.options b.options;
    }

-- ---- IP headers

pub ipv4_sym : {p q : List ℕ} → AlikeIpv4 p q → AlikeIpv4 q p
ipv4_sym {p} {q} a =
    record {
      same_length = sym a.same_length;
      first = λ i l u. sym (a.first i l u);
      identification = sym a.identification;
      second = λ i l u. sym (a.second i l u);
    }

pub ipv4_trans : {p q r : List ℕ} → AlikeIpv4 p q → AlikeIpv4 q r → AlikeIpv4 p r
ipv4_trans {p} {q} {r} a b =
    record {
      same_length = a.same_length ∙ b.same_length;
      first = λ i l u. a.first i l u ∙ b.first i l u;
      identification = a.identification ∙ b.identification;
      second = λ i l u. a.second i l u ∙ b.second i l u;
    }

pub ipv6_sym : {p q : List ℕ} → AlikeIpv6 p q → AlikeIpv6 q p
ipv6_sym {p} {q} a =
    record {
      same_length = sym a.same_length;
      first = sym a.first;
      second = sym a.second;
      flow_label = sym a.flow_label;
      third = λ i l u. sym (a.third i l u);
    }

pub ipv6_trans : {p q r : List ℕ} → AlikeIpv6 p q → AlikeIpv6 q r → AlikeIpv6 p r
ipv6_trans {p} {q} {r} a b =
    record {
      same_length = a.same_length ∙ b.same_length;
      first = a.first ∙ b.first;
      second = a.second ∙ b.second;
      flow_label = a.flow_label ∙ b.flow_label;
      third = λ i l u. a.third i l u ∙ b.third i l u;
    }

-- ---- packets

pub body_refl : (p : List ℕ) (from to : ℕ) → AlikeBody p p from to
body_refl p from to =
    elim (dec_le 20 (length (part from to p))) [
      | yes long ↦ AlikeBody.tcp long (tcp_refl (part from to p))
      | no short ↦ AlikeBody.no_tcp (omega arith) (λ i l u. refl)
    ]

body_sym : (p q : List ℕ) (from to : ℕ) → length p ≡ length q → AlikeBody p q from to → AlikeBody q p from to
body_sym p q from to same (AlikeBody.no_tcp short a) =
    let size = part_alike from to p q same in
    AlikeBody.no_tcp (omega arith) (λ i l u. sym (a i l u))
body_sym p q from to same (AlikeBody.tcp long a) = let size = a.same_length in AlikeBody.tcp (omega arith) (tcp_sym a)

body_trans
    : (p q r : List ℕ) (from to : ℕ)
    → length p ≡ length q
    → AlikeBody p q from to
    → AlikeBody q r from to
    → AlikeBody p r from to
body_trans p q r from to same (AlikeBody.no_tcp short a) (AlikeBody.no_tcp short' b) =
    AlikeBody.no_tcp short (λ i l u. a i l u ∙ b i l u)
body_trans p q r from to same (AlikeBody.no_tcp short a) (AlikeBody.tcp long b) =
    let size = part_alike from to p q same in
    absurd (omega arith)
body_trans p q r from to same (AlikeBody.tcp long a) (AlikeBody.no_tcp short b) =
    let size = part_alike from to p q same in
    absurd (omega arith)
body_trans p q r from to same (AlikeBody.tcp long a) (AlikeBody.tcp long' b) = AlikeBody.tcp long (tcp_trans a b)

-- Of any level whose alike headers have the same ends.
module _ (level : IpLevel) (same_header_end : (p q : List ℕ) → level.Header p q → level.header_end p ≡ level.header_end q)
    (same_length_end : (p q : List ℕ) → level.Header p q → level.length_end p ≡ level.length_end q) where
  -- The body of one packet has the ends of an alike one.
  moved
      : (p q x y : List ℕ)
      → level.Header p q
      → AlikeBody x y (level.header_end q) (level.length_end q)
      → AlikeBody x y (level.header_end p) (level.length_end p)
  moved p q x y a body = rw (same_header_end p q a, same_length_end p q a) body

  by_sym : ((p q : List ℕ) → level.Header p q → level.Header q p) → (p q : List ℕ) → AlikeBy level p q → AlikeBy level q p
  by_sym header_sym p q a =
      let back = header_sym p q a.header in
      record {
        same_length = sym a.same_length;
        header = back;
        body = moved q p q p back (body_sym p q _ _ a.same_length a.body);
      }

  by_trans
      : ((p q r : List ℕ) → level.Header p q → level.Header q r → level.Header p r)
      → (p q r : List ℕ)
      → AlikeBy level p q
      → AlikeBy level q r
      → AlikeBy level p r
  by_trans header_trans p q r a b =
      record {
        same_length = a.same_length ∙ b.same_length;
        header = header_trans p q r a.header b.header;
        body = body_trans p q r _ _ a.same_length a.body (moved p q q r a.header b.body);
      }

version_alike : (p q : List ℕ) (n : ℕ) → byte_at p 0 ≡ byte_at q 0 → version p ≡ n → version q ≡ n
version_alike p q n e v = ap (λ (b : ℕ). b / 16) (sym e) ∙ v

header_sym : (p q : List ℕ) → document01.Header p q → document01.Header q p
header_sym p q (HeaderBy.same e) = HeaderBy.same (sym e)
header_sym p q (HeaderBy.four v a) = HeaderBy.four (version_alike p q 4 (byte0 p q a) v) (ipv4_sym a)
header_sym p q (HeaderBy.six v a) = HeaderBy.six (version_alike p q 6 a.first v) (ipv6_sym a)

header_trans : (p q r : List ℕ) → document01.Header p q → document01.Header q r → document01.Header p r
header_trans p q r (HeaderBy.same e) b = rw e b
header_trans p q r (HeaderBy.four v a) (HeaderBy.same e) = rw (← e) (HeaderBy.four v a)
header_trans p q r (HeaderBy.four v a) (HeaderBy.four w b) = HeaderBy.four v (ipv4_trans a b)
header_trans p q r (HeaderBy.four v a) (HeaderBy.six w b) = let v' = version_alike p q 4 (byte0 p q a) v in absurd (omega arith)
header_trans p q r (HeaderBy.six v a) (HeaderBy.same e) = rw (← e) (HeaderBy.six v a)
header_trans p q r (HeaderBy.six v a) (HeaderBy.six w b) = HeaderBy.six v (ipv6_trans a b)
header_trans p q r (HeaderBy.six v a) (HeaderBy.four w b) = let v' = version_alike p q 6 a.first v in absurd (omega arith)

same_header_end : (p q : List ℕ) → document01.Header p q → document01.header_end p ≡ document01.header_end q
unfolding end_by
same_header_end p q (HeaderBy.same e) = rw e
same_header_end p q (HeaderBy.four v a) = rw (← byte0 p q a, v)
same_header_end p q (HeaderBy.six v a) = rw (← a.first, v)

same_length_end : (p q : List ℕ) → document01.Header p q → document01.length_end p ≡ document01.length_end q
unfolding end_by
same_length_end p q (HeaderBy.same e) = rw e
same_length_end p q (HeaderBy.four v a) = rw (← byte0 p q a, v, total_length_alike p q a)
same_length_end p q (HeaderBy.six v a) = rw (← a.first, v, payload_length_alike p q a)

pub alike_refl : (p : List ℕ) → Alike p p
alike_refl p = record { same_length = refl; header = HeaderBy.same refl; body = body_refl p _ _ }

pub alike_sym : (p q : List ℕ) → Alike p q → Alike q p
alike_sym = by_sym document01 same_header_end same_length_end header_sym

pub alike_trans : (p q r : List ℕ) → Alike p q → Alike q r → Alike p r
alike_trans = by_trans document01 same_header_end same_length_end header_trans
