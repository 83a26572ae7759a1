-- Exactly one result meets each public function's own contract.
-- tools/promises makes this file from the contracts, and the gate holds it to them.
use Rattle.std.specs.Prelude.{ℕ, Bool, not}
use Rattle.basis.specs.Unique.{ExactlyOne}
use Rattle.basis.proofs.Unique.{equation}
use Rattle.quirks.specs.declared.QuirkSet.{QuirkSet}
use Rattle.tcp_header.specs.Flags.{flags_invalid, masked_type}
use Rattle.tcp_header.specs.HeaderQuirks.{number_quirks, urgent_quirks}
use Rattle.tcp_header.proofs.is_valid.Reads as is_valid'
use Rattle.tcp_header.proofs.number_quirks.Reads as number_quirks'
use Rattle.tcp_header.proofs.tcp_type.Reads as tcp_type'
use Rattle.tcp_header.proofs.urgent_quirks.Reads as urgent_quirks'

pub tcp_type_one : (flags : ℕ) → ExactlyOne ℕ (λ (r : ℕ). tcp_type'.Post tt (flags, tt) r (flags, tt))
tcp_type_one flags = equation (masked_type flags)

pub is_valid_one : (flags : ℕ) → ExactlyOne Bool (λ (r : Bool). is_valid'.Post tt (flags, tt) r (flags, tt))
is_valid_one flags = equation (not (flags_invalid flags))

pub number_quirks_one
    : (flags sequence acknowledgment : ℕ) (quirks : QuirkSet)
    → ExactlyOne QuirkSet
    (λ (r : QuirkSet). number_quirks'.Post tt (flags, (sequence, (acknowledgment, (quirks, tt)))) r
    (flags, (sequence, (acknowledgment, (quirks, tt)))))
number_quirks_one flags sequence acknowledgment quirks = equation (number_quirks flags sequence acknowledgment quirks)

pub urgent_quirks_one
    : (flags urgent : ℕ) (quirks : QuirkSet)
    → ExactlyOne QuirkSet (λ (r : QuirkSet). urgent_quirks'.Post tt (flags, (urgent, (quirks, tt))) r (flags, (urgent, (quirks, tt))))
urgent_quirks_one flags urgent quirks = equation (urgent_quirks flags urgent quirks)
