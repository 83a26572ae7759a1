-- Demand 1, a line for each public function of tcp_header.
-- tools/promises makes this file from the contracts, and the gate holds it to them.
use Rattle.std.specs.Prelude.{ℕ, not}
use Rattle.quirks.specs.declared.QuirkSet.{QuirkSet}
use Rattle.tcp_header.specs.Flags.{flags_invalid, masked_type}
use Rattle.tcp_header.specs.HeaderQuirks.{number_quirks, urgent_quirks}
use Rattle.tcp_header.specs.contracts.is_valid as is_valid'
use Rattle.tcp_header.specs.contracts.number_quirks as number_quirks'
use Rattle.tcp_header.specs.contracts.tcp_type as tcp_type'
use Rattle.tcp_header.specs.contracts.urgent_quirks as urgent_quirks'
use Rattle.tcp_header.proofs.is_valid.Reads as is_valid_reads
use Rattle.tcp_header.proofs.number_quirks.Reads as number_quirks_reads
use Rattle.tcp_header.proofs.tcp_type.Reads as tcp_type_reads
use Rattle.tcp_header.proofs.urgent_quirks.Reads as urgent_quirks_reads
use Rattle.acceptance.specs.Promised.{Answers}

pub record Promises : Type 0 where
  pub tcp_type_one
      : (flags : ℕ)
      → Answers tcp_type'.signature tt (tcp_type_reads.Pre tt) (tcp_type_reads.Post tt) (flags, tt) (masked_type flags)
  pub is_valid_one
      : (flags : ℕ)
      → Answers is_valid'.signature tt (is_valid_reads.Pre tt) (is_valid_reads.Post tt) (flags, tt) (not (flags_invalid flags))
  pub number_quirks_one
      : (flags sequence acknowledgment : ℕ) (quirks : QuirkSet)
      → Answers number_quirks'.signature tt (number_quirks_reads.Pre tt) (number_quirks_reads.Post tt)
      (flags, (sequence, (acknowledgment, (quirks, tt)))) (number_quirks flags sequence acknowledgment quirks)
  pub urgent_quirks_one
      : (flags urgent : ℕ) (quirks : QuirkSet)
      → Answers urgent_quirks'.signature tt (urgent_quirks_reads.Pre tt) (urgent_quirks_reads.Post tt)
      (flags, (urgent, (quirks, tt))) (urgent_quirks flags urgent quirks)
