-- Exactly one result meets each public function's own contract.
-- tools/promises makes this file from the contracts, and the gate holds it to them.
use Rattle.std.specs.Borrow.{Bor}
use Rattle.std.specs.Prelude.{ℕ, List, min, ◌*◌, ◌+◌, ◌-◌}
use contract.Lifetimes.{Lfts}
use Rattle.basis.specs.Bytes as bytes
use Rattle.basis.specs.Unique.{ExactlyOne}
use Rattle.basis.proofs.Unique.{equation}
use Rattle.numbers.proofs.be16.Reads as be16'
use Rattle.numbers.proofs.be16_at.Reads as be16_at'
use Rattle.numbers.proofs.be32.Reads as be32'
use Rattle.numbers.proofs.byte_at.Reads as byte_at'
use Rattle.numbers.proofs.least.Reads as least'
use Rattle.numbers.proofs.saturating_add.Reads as saturating_add'
use Rattle.numbers.proofs.saturating_sub.Reads as saturating_sub'
use Rattle.numbers.proofs.wide.Reads as wide'

pub wide_one : (x : ℕ) → ExactlyOne ℕ (λ (r : ℕ). wide'.Post tt (x, tt) r (x, tt))
wide_one x = equation x

pub be16_one : (high low : ℕ) → ExactlyOne ℕ (λ (r : ℕ). be16'.Post tt (high, (low, tt)) r (high, (low, tt)))
be16_one high low = equation (high * 256 + low)

pub be32_one : (high low : ℕ) → ExactlyOne ℕ (λ (r : ℕ). be32'.Post tt (high, (low, tt)) r (high, (low, tt)))
be32_one high low = equation (high * 65536 + low)

pub byte_at_one : (κs : Lfts 1) (s : Bor (List ℕ)) (i : ℕ) → ExactlyOne ℕ (λ (r : ℕ). byte_at'.Post κs (s, (i, tt)) r (s, (i, tt)))
byte_at_one κs s i = equation (bytes.byte_at s.now i)

pub be16_at_one : (κs : Lfts 1) (s : Bor (List ℕ)) (i : ℕ) → ExactlyOne ℕ (λ (r : ℕ). be16_at'.Post κs (s, (i, tt)) r (s, (i, tt)))
be16_at_one κs s i = equation (bytes.be16 s.now i)

pub least_one : (a b : ℕ) → ExactlyOne ℕ (λ (r : ℕ). least'.Post tt (a, (b, tt)) r (a, (b, tt)))
least_one a b = equation (min a b)

pub saturating_sub_one : (a b : ℕ) → ExactlyOne ℕ (λ (r : ℕ). saturating_sub'.Post tt (a, (b, tt)) r (a, (b, tt)))
saturating_sub_one a b = equation (a - b)

pub saturating_add_one : (a b : ℕ) → ExactlyOne ℕ (λ (r : ℕ). saturating_add'.Post tt (a, (b, tt)) r (a, (b, tt)))
saturating_add_one a b = equation (min (a + b) 65535)
