-- Demand 1, a line for each public function of numbers.
-- tools/promises makes this file from the contracts, and the gate holds it to them.
use Rattle.std.specs.Borrow.{Bor}
use Rattle.std.specs.Prelude.{ℕ, List, min, ◌*◌, ◌+◌, ◌-◌}
use contract.Lifetimes.{Lfts}
use Rattle.basis.specs.Bytes as bytes
use Rattle.numbers.specs.contracts.be16 as be16'
use Rattle.numbers.specs.contracts.be16_at as be16_at'
use Rattle.numbers.specs.contracts.be32 as be32'
use Rattle.numbers.specs.contracts.byte_at as byte_at'
use Rattle.numbers.specs.contracts.least as least'
use Rattle.numbers.specs.contracts.saturating_add as saturating_add'
use Rattle.numbers.specs.contracts.saturating_sub as saturating_sub'
use Rattle.numbers.specs.contracts.wide as wide'
use Rattle.numbers.proofs.be16.Reads as be16_reads
use Rattle.numbers.proofs.be16_at.Reads as be16_at_reads
use Rattle.numbers.proofs.be32.Reads as be32_reads
use Rattle.numbers.proofs.byte_at.Reads as byte_at_reads
use Rattle.numbers.proofs.least.Reads as least_reads
use Rattle.numbers.proofs.saturating_add.Reads as saturating_add_reads
use Rattle.numbers.proofs.saturating_sub.Reads as saturating_sub_reads
use Rattle.numbers.proofs.wide.Reads as wide_reads
use Rattle.acceptance.specs.Promised.{Answers}

pub record Promises : Type 0 where
  pub wide_one : (x : ℕ) → Answers wide'.signature tt (wide_reads.Pre tt) (wide_reads.Post tt) (x, tt) x
  pub be16_one : (high low : ℕ) → Answers be16'.signature tt (be16_reads.Pre tt) (be16_reads.Post tt) (high, (low, tt)) (high * 256 + low)
  pub be32_one : (high low : ℕ) → Answers be32'.signature tt (be32_reads.Pre tt) (be32_reads.Post tt) (high, (low, tt)) (high * 65536 + low)
  pub byte_at_one
      : (κs : Lfts 1) (s : Bor (List ℕ)) (i : ℕ)
      → Answers byte_at'.signature κs (byte_at_reads.Pre κs) (byte_at_reads.Post κs) (s, (i, tt)) (bytes.byte_at s.now i)
  pub be16_at_one
      : (κs : Lfts 1) (s : Bor (List ℕ)) (i : ℕ)
      → Answers be16_at'.signature κs (be16_at_reads.Pre κs) (be16_at_reads.Post κs) (s, (i, tt)) (bytes.be16 s.now i)
  pub least_one : (a b : ℕ) → Answers least'.signature tt (least_reads.Pre tt) (least_reads.Post tt) (a, (b, tt)) (min a b)
  pub saturating_sub_one
      : (a b : ℕ)
      → Answers saturating_sub'.signature tt (saturating_sub_reads.Pre tt) (saturating_sub_reads.Post tt) (a, (b, tt)) (a - b)
  pub saturating_add_one
      : (a b : ℕ)
      → Answers saturating_add'.signature tt (saturating_add_reads.Pre tt) (saturating_add_reads.Post tt) (a, (b, tt)) (min (a + b) 65535)
