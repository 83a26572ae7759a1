-- Demand 1, a line for each public function of quirks.
-- tools/promises makes this file from the contracts, and the gate holds it to them.
use Rattle.std.specs.Prelude.{ℕ, Bool}
use Rattle.quirks.specs.declared.Quirk.{Quirk}
use Rattle.quirks.specs.declared.QuirkSet.{QuirkSet}
use Rattle.quirks.specs.Named.{display_order, named_sets}
use Rattle.quirks.specs.Quirks.{add_if, bit_of, bits_of, contains, difference, is_empty, set_of, with}
use Rattle.quirks.specs.contracts.Quirk.bit as bit'
use Rattle.quirks.specs.contracts.QuirkSet.add_if as add_if'
use Rattle.quirks.specs.contracts.QuirkSet.bits as bits'
use Rattle.quirks.specs.contracts.QuirkSet.contains as contains'
use Rattle.quirks.specs.contracts.QuirkSet.difference as difference'
use Rattle.quirks.specs.contracts.QuirkSet.from_bits as from_bits'
use Rattle.quirks.specs.contracts.QuirkSet.insert as insert'
use Rattle.quirks.specs.contracts.QuirkSet.is_empty as is_empty'
use Rattle.quirks.specs.contracts.display_order as display_order'
use Rattle.quirks.specs.contracts.named_sets as named_sets'
use Rattle.quirks.proofs.Quirk.bit.Reads as bit_reads
use Rattle.quirks.proofs.QuirkSet.add_if.Reads as add_if_reads
use Rattle.quirks.proofs.QuirkSet.bits.Reads as bits_reads
use Rattle.quirks.proofs.QuirkSet.contains.Reads as contains_reads
use Rattle.quirks.proofs.QuirkSet.difference.Reads as difference_reads
use Rattle.quirks.proofs.QuirkSet.from_bits.Reads as from_bits_reads
use Rattle.quirks.proofs.QuirkSet.insert.Reads as insert_reads
use Rattle.quirks.proofs.QuirkSet.is_empty.Reads as is_empty_reads
use Rattle.quirks.proofs.display_order.Reads as display_order_reads
use Rattle.quirks.proofs.named_sets.Reads as named_sets_reads
use Rattle.acceptance.specs.Promised.{Answers}

pub record Promises : Type 0 where
  pub bit_one : (self : Quirk) → Answers bit'.signature tt (bit_reads.Pre tt) (bit_reads.Post tt) (self, tt) (bit_of self)
  pub from_bits_one
      : (bits : ℕ)
      → Answers from_bits'.signature tt (from_bits_reads.Pre tt) (from_bits_reads.Post tt) (bits, tt) (set_of bits)
  pub bits_one : (self : QuirkSet) → Answers bits'.signature tt (bits_reads.Pre tt) (bits_reads.Post tt) (self, tt) (bits_of self)
  pub is_empty_one
      : (self : QuirkSet)
      → Answers is_empty'.signature tt (is_empty_reads.Pre tt) (is_empty_reads.Post tt) (self, tt) (is_empty self)
  pub contains_one
      : (self : QuirkSet) (quirk : Quirk)
      → Answers contains'.signature tt (contains_reads.Pre tt) (contains_reads.Post tt) (self, (quirk, tt)) (contains self quirk)
  pub insert_one
      : (self : QuirkSet) (quirk : Quirk)
      → Answers insert'.signature tt (insert_reads.Pre tt) (insert_reads.Post tt) (self, (quirk, tt)) (with self quirk)
  pub add_if_one
      : (self : QuirkSet) (test : Bool) (quirk : Quirk)
      → Answers add_if'.signature tt (add_if_reads.Pre tt) (add_if_reads.Post tt) (self, (test, (quirk, tt))) (add_if test quirk self)
  pub difference_one
      : (self other : QuirkSet)
      → Answers difference'.signature tt (difference_reads.Pre tt) (difference_reads.Post tt) (self, (other, tt)) (difference self other)
  pub named_sets_one : Answers named_sets'.signature tt (named_sets_reads.Pre tt) (named_sets_reads.Post tt) tt named_sets
  pub display_order_one : Answers display_order'.signature tt (display_order_reads.Pre tt) (display_order_reads.Post tt) tt display_order
