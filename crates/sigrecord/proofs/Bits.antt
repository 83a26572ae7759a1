-- The bits of the seventeen quirks.
use Rattle.quirks.proofs.Named.{seventeen_bits}

pub ruleset known = (seventeen_bits)
