-- Demand 3, stage by stage: if each stage answers alike what is alike for it, the reader of both answers alike packets alike.
use Rattle.std.specs.Prelude.{Option, Result, Ok, Err}
use mathlib.Core.Path.{◌≡◌, refl}
use mathlib.Core.List.{List}
use Prim.Native.Nat.{ℕ, min}
use native.Mathlib.Omega.{arith}
use lib.ListN.{length}
use Rattle.basis.specs.Bytes.{part}
use Rattle.ip.specs.declared.IpFacts.{IpFacts}
use Rattle.refusals.specs.declared.PacketRefusal.{PacketRefusal}
use Rattle.ip.specs.Ip.{IpStage, read_ip}
use Rattle.flow.specs.declared.Mode.{Mode}
use Rattle.flow.specs.Modes.{tcp_stage, read_in}
use Rattle.flow.specs.Reading.{TcpStage, tcp_part, after_ip, read_by}
use Rattle.alike.specs.Tcp.{AlikeTcp}
use Rattle.alike.specs.Packets.{AlikeBody, IpLevel, AlikeBy, Alike, document01}
use Rattle.alike.specs.Stages.{KeepsLevel, KeepsTcp}
use Rattle.alike.proofs.Places.{part_same, clipped}
use Rattle.alike.proofs.Equivalence.{tcp_refl}
use Rattle.alike.proofs.Tcp.{tcp_alike}
use Rattle.alike.proofs.Ip.{keeps_level}

-- The TCP parts that are read of alike bodies are alike.
parts_alike
    : (p q : List ℕ) (f : IpFacts) {from to : ℕ}
    → length p ≡ length q
    → f.start ≡ from
    → f.end ≡ min to (length p)
    → AlikeBody p q from to
    → AlikeTcp (tcp_part f p) (tcp_part f q)
parts_alike p q f same start end (AlikeBody.no_tcp short agree) =
    rw (part_same f.start f.end p q same (λ i after before. agree i (omega arith) (omega arith))) (tcp_refl (tcp_part f q))
parts_alike p q f {from} {to} same start end (AlikeBody.tcp long a) =
    let of-p : tcp_part f p ≡ part from to p = rw (start, end) (clipped from to p) in
    let of-q : tcp_part f q ≡ part from to q = rw (start, end, same) (clipped from to q) in
    rw (of-p, of-q) a

-- Alike packets get the same facts of an IP stage that keeps to the level, and alike TCP parts.
pub stage_alike
    : (level : IpLevel) (stage : IpStage) → KeepsLevel level stage → (p q : List ℕ) → AlikeBy level p q → stage p ≡ stage q
stage_alike level stage keeps p q a = keeps.alike p q a.same_length a.header

pub part_alike
    : (level : IpLevel) (stage : IpStage)
    → KeepsLevel level stage
    → (p q : List ℕ)
    → AlikeBy level p q
    → (f : IpFacts)
    → stage p ≡ Ok f
    → AlikeTcp (tcp_part f p) (tcp_part f q)
part_alike level stage keeps p q a f e =
    let lies = keeps.part p f e in
    parts_alike p q f a.same_length lies.0 lies.1 a.body

-- For any level, any IP stage that keeps to it, and any TCP stage.
pub by_stages
    : (level : IpLevel) (stage : IpStage) (tcp : TcpStage)
    → KeepsLevel level stage
    → KeepsTcp tcp
    → (p q : List ℕ) (peer : Option ℕ)
    → AlikeBy level p q
    → read_by stage tcp p peer ≡ read_by stage tcp q peer
by_stages level stage tcp keeps keeps-tcp p q peer a =
    rw (← stage_alike level stage keeps p q a) (after (stage p) refl)
  where
    after : (x : Result IpFacts PacketRefusal) → stage p ≡ x → after_ip tcp x p peer ≡ after_ip tcp x q peer
    after (Err r) e = refl
    after (Ok f) e = keeps-tcp f (tcp_part f p) (tcp_part f q) peer (part_alike level stage keeps p q a f e)

-- Two packets of equal length that differ only in the free bytes get the same answer, in every mode.
pub read_alike : (mode : Mode) (p q : List ℕ) (peer : Option ℕ) → Alike p q → read_in mode p peer ≡ read_in mode q peer
unfolding read_in
read_alike mode = by_stages document01 read_ip (tcp_stage mode) keeps_level (tcp_alike mode)
