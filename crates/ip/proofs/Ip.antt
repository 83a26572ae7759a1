-- Laws of the IP stage: its last two answers, and all that it gives.
use Rattle.std.specs.Prelude.{Result, Ok, Err}
use mathlib.Core.Path.{◌≡◌, refl}
use mathlib.Core.Bool.{Bool, true, false, cond, not, ◌||◌}
use mathlib.Core.List.{List}
use Prim.Native.Nat.{ℕ, ◌+◌, ◌-◌, ◌<◌, ◌≤◌}
use native.Mathlib.Omega.{arith}
use lib.Dec.{eqb, ltb}
use lib.ListN.{length}
use borrow.Author.Tests.{lt-ltb, le-ltb, eq-eqb, ltb-false, eqb-true}
use Rattle.basis.specs.Bytes.{part}
use Rattle.basis.proofs.Bytes.{part_length}
use Rattle.rfc.specs.Rfc791 as v4
use Rattle.rfc.specs.Rfc8200 as v6
use Rattle.ip.specs.declared.IpFacts.{IpFacts}
use Rattle.refusals.specs.declared.PacketRefusal.{PacketRefusal}
use Rattle.refusals.specs.declared.PacketRefusal.TheVariants as refusal
use Rattle.refusals.specs.Refusals.{packet_number}
use Rattle.ip.specs.Ip.{ipv4_facts, read_ipv4, ipv6_facts, read_ipv6, read_ip}

module _ (p : List ℕ) (long : 20 ≤ length p) (words : 5 ≤ v4.ihl p) (tcp : v4.protocol p ≡ 6)
    (whole : ltb 0 (v4.fragment_offset p) || eqb (v4.more_fragments p) 1 ≡ false) where
  before_tcp
      : read_ipv4 p
      ≡ cond (ltb (v4.data_end p - v4.data_start p) 20)
      (Err refusal.TcpTooShort)
      (Ok (ipv4_facts p (v4.data_start p) (v4.data_end p)))
  unfolding read_ipv4
  before_tcp =
      simp (
        le-ltb (length p) 20 long,
        le-ltb (v4.ihl p) 5 words,
        eq-eqb (v4.protocol p) 6 tcp,
        whole,
        part_length (v4.data_start p) (v4.data_end p) p (omega arith),
      )

  pub v4_short : v4.data_end p < v4.data_start p + 20 → read_ipv4 p ≡ Err refusal.TcpTooShort
  v4_short h = rw (before_tcp, lt-ltb (v4.data_end p - v4.data_start p) 20 (omega arith))

  pub v4_facts : v4.data_start p + 20 ≤ v4.data_end p → read_ipv4 p ≡ Ok (ipv4_facts p (v4.data_start p) (v4.data_end p))
  v4_facts h = rw (before_tcp, le-ltb (v4.data_end p - v4.data_start p) 20 (omega arith))

module _ (p : List ℕ) (long : 40 ≤ length p) (tcp : v6.next_header p ≡ 6) where
  before_tcp_v6
      : read_ipv6 p ≡ cond (ltb (v6.payload_end p - 40) 20) (Err refusal.TcpTooShort) (Ok (ipv6_facts p (v6.payload_end p)))
  unfolding read_ipv6
  before_tcp_v6 =
      simp (le-ltb (length p) 40 long, eq-eqb (v6.next_header p) 6 tcp, part_length 40 (v6.payload_end p) p (omega arith))

  pub v6_short : v6.payload_end p < 60 → read_ipv6 p ≡ Err refusal.TcpTooShort
  v6_short h = rw (before_tcp_v6, lt-ltb (v6.payload_end p - 40) 20 (omega arith))

  pub v6_facts : 60 ≤ v6.payload_end p → read_ipv6 p ≡ Ok (ipv6_facts p (v6.payload_end p))
  v6_facts h = rw (before_tcp_v6, le-ltb (v6.payload_end p - 40) 20 (omega arith))

-- ---- what the stage gives

-- Of a packet of this version: a refusal under 7; or the facts of its header, with a TCP part of at least twenty bytes within the packet.
pub data Given (p : List ℕ) : ℕ → Result IpFacts PacketRefusal → Type 0 where
  refused : {version : ℕ} {r : PacketRefusal} → packet_number r < 7 → Given p version (Err r)
  four
      : v4.data_start p + 20 ≤ v4.data_end p
      → 5 ≤ v4.ihl p
      → Given p 4 (Ok (ipv4_facts p (v4.data_start p) (v4.data_end p)))
  six : 60 ≤ v6.payload_end p → Given p 6 (Ok (ipv6_facts p (v6.payload_end p)))

module _ (p : List ℕ) where
  either
      : (t : Bool) {n : ℕ} {a b : Result IpFacts PacketRefusal}
      → (t ≡ true → Given p n a)
      → (t ≡ false → Given p n b)
      → Given p n (cond t a b)
  either true x y = x refl
  either false x y = y refl

  no : {version : ℕ} (r : PacketRefusal) → packet_number r < 7 → Given p version (Err r)
  no r h = refused h

  -- The last test of both versions: a part under twenty bytes is refused.
  long : (start end : ℕ) → end ≤ length p → ltb (length (part start end p)) 20 ≡ false → start + 20 ≤ end
  long start end inside e =
      let size = part_length start end p inside in
      let twenty = ltb-false (length (part start end p)) 20 e in
      omega arith

  pub given4 : Given p 4 (read_ipv4 p)
  unfolding read_ipv4
  given4 =
      either (ltb (length p) 20) (λ e. no refusal.TooShort (omega arith)) (λ e.
      either (ltb (v4.ihl p) 5) (λ e. no refusal.HeaderLength (omega arith)) (λ words.
      either (not (eqb (v4.protocol p) 6)) (λ e. no refusal.UnsupportedProtocol (omega arith)) (λ e.
      either (ltb 0 (v4.fragment_offset p) || eqb (v4.more_fragments p) 1) (λ e. no refusal.Fragment (omega arith)) (λ e.
      either (ltb (length (part (v4.data_start p) (v4.data_end p) p)) 20) (λ e. no refusal.TcpTooShort (omega arith)) (λ e.
      four (long (v4.data_start p) (v4.data_end p) (omega arith) e) (ltb-false (v4.ihl p) 5 words))))))

  pub given6 : Given p 6 (read_ipv6 p)
  unfolding read_ipv6
  given6 =
      either (ltb (length p) 40) (λ e. no refusal.TooShort (omega arith)) (λ e.
      either (not (eqb (v6.next_header p) 6)) (λ e. no refusal.UnsupportedProtocol (omega arith)) (λ e.
      either (ltb (length (v6.payload p)) 20) (λ e. no refusal.TcpTooShort (omega arith)) (λ e.
      six (long 40 (v6.payload_end p) (omega arith) e))))

  pub given : Given p (v4.version p) (read_ip p)
  unfolding read_ip
  given =
      either (eqb (length p) 0) (λ e. no refusal.Version (omega arith)) (λ e.
      either (eqb (v4.version p) 4) (λ e. rw (eqb-true (v4.version p) 4 e) given4) (λ e.
      either (eqb (v4.version p) 6) (λ e. rw (eqb-true (v4.version p) 6 e) given6) (λ e.
      no refusal.Version (omega arith))))

  part_lies : {n : ℕ} {f : IpFacts} → Given p n (Ok f) → (f.start + 20 ≤ f.end) × (f.end ≤ length p)
  unfolding ipv4_facts ipv6_facts
  part_lies (four h words) = (h, omega arith)
  part_lies (six h) = (h, omega arith)

  -- Of facts that the code holds.
  pub tcp_part_lies : (f : IpFacts) → read_ip p ≡ Ok f → (f.start + 20 ≤ f.end) × (f.end ≤ length p)
  tcp_part_lies f e = part_lies (rw e at given)
