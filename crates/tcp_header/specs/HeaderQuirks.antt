-- The quirks that the fields of a TCP header show.
use Rattle.std.specs.Prelude.{ℕ, not, ◌&&◌, ◌||◌, eqb}
use Rattle.quirks.specs.declared.Quirk.TheVariants as quirk
use Rattle.quirks.specs.declared.QuirkSet.{QuirkSet}
use Rattle.quirks.specs.Quirks.{add_if}
use Rattle.rfc.specs.Rfc9293 as tcp
use Rattle.tcp_header.specs.Flags.{is_set}

-- The quirks of a TCP header (document 01, module 6; flow.rs), added to those of the IP header. By its flags, sequence and acknowledgment
-- number: ecn (ECE or CWR); seq- (sequence number 0); ack- (ACK with number 0) and ack+ (a number without ACK or RST).
abbrev pub number_quirks : ℕ → ℕ → ℕ → QuirkSet → QuirkSet
number_quirks flags sequence acknowledgment q =
    add_if (not (is_set (tcp.ack flags)) && not (eqb acknowledgment 0) && not (is_set (tcp.rst flags))) quirk.AckNumNonZero
    (add_if (is_set (tcp.ack flags) && eqb acknowledgment 0) quirk.AckNumZero
    (add_if (eqb sequence 0) quirk.SeqNumZero
    (add_if (is_set (tcp.ece flags) || is_set (tcp.cwr flags)) quirk.Ecn
    q)))

-- By its flags and urgent pointer: urgf+ (URG) and uptr+ (a pointer without URG); pushf+ (PSH).
abbrev pub urgent_quirks : ℕ → ℕ → QuirkSet → QuirkSet
urgent_quirks flags urgent q =
    add_if (is_set (tcp.psh flags)) quirk.Push
    (add_if (not (is_set (tcp.urg flags)) && not (eqb urgent 0)) quirk.NonZeroURG
    (add_if (is_set (tcp.urg flags)) quirk.Urg q))

unfoldable pub header_quirks : ℕ → ℕ → ℕ → ℕ → QuirkSet → QuirkSet
header_quirks flags sequence acknowledgment urgent q = urgent_quirks flags urgent (number_quirks flags sequence acknowledgment q)
