-- Exactly one result meets each public function's own contract.
-- tools/promises makes this file from the contracts, and the gate holds it to them.
use Rattle.std.specs.Prelude.{ℕ, Bool, List}
use Rattle.basis.specs.Unique.{ExactlyOne}
use Rattle.basis.proofs.Unique.{equation}
use Rattle.quirks.specs.declared.NamedSets.{NamedSets}
use Rattle.quirks.specs.declared.Quirk.{Quirk}
use Rattle.quirks.specs.declared.QuirkSet.{QuirkSet}
use Rattle.quirks.specs.Named.{display_order, named_sets}
use Rattle.quirks.specs.Quirks.{add_if, bit_of, bits_of, contains, difference, is_empty, set_of, with}
use Rattle.quirks.proofs.Quirk.bit.Reads as bit'
use Rattle.quirks.proofs.QuirkSet.add_if.Reads as add_if'
use Rattle.quirks.proofs.QuirkSet.bits.Reads as bits'
use Rattle.quirks.proofs.QuirkSet.contains.Reads as contains'
use Rattle.quirks.proofs.QuirkSet.difference.Reads as difference'
use Rattle.quirks.proofs.QuirkSet.from_bits.Reads as from_bits'
use Rattle.quirks.proofs.QuirkSet.insert.Reads as insert'
use Rattle.quirks.proofs.QuirkSet.is_empty.Reads as is_empty'
use Rattle.quirks.proofs.display_order.Reads as display_order'
use Rattle.quirks.proofs.named_sets.Reads as named_sets'

pub bit_one : (self : Quirk) → ExactlyOne ℕ (λ (r : ℕ). bit'.Post tt (self, tt) r (self, tt))
bit_one self = equation (bit_of self)

pub from_bits_one : (bits : ℕ) → ExactlyOne QuirkSet (λ (r : QuirkSet). from_bits'.Post tt (bits, tt) r (bits, tt))
from_bits_one bits = equation (set_of bits)

pub bits_one : (self : QuirkSet) → ExactlyOne ℕ (λ (r : ℕ). bits'.Post tt (self, tt) r (self, tt))
bits_one self = equation (bits_of self)

pub is_empty_one : (self : QuirkSet) → ExactlyOne Bool (λ (r : Bool). is_empty'.Post tt (self, tt) r (self, tt))
is_empty_one self = equation (is_empty self)

pub contains_one
    : (self : QuirkSet) (quirk : Quirk)
    → ExactlyOne Bool (λ (r : Bool). contains'.Post tt (self, (quirk, tt)) r (self, (quirk, tt)))
contains_one self quirk = equation (contains self quirk)

pub insert_one
    : (self : QuirkSet) (quirk : Quirk)
    → ExactlyOne QuirkSet (λ (r : QuirkSet). insert'.Post tt (self, (quirk, tt)) r (self, (quirk, tt)))
insert_one self quirk = equation (with self quirk)

pub add_if_one
    : (self : QuirkSet) (test : Bool) (quirk : Quirk)
    → ExactlyOne QuirkSet (λ (r : QuirkSet). add_if'.Post tt (self, (test, (quirk, tt))) r (self, (test, (quirk, tt))))
add_if_one self test quirk = equation (add_if test quirk self)

pub difference_one
    : (self other : QuirkSet)
    → ExactlyOne QuirkSet (λ (r : QuirkSet). difference'.Post tt (self, (other, tt)) r (self, (other, tt)))
difference_one self other = equation (difference self other)

pub named_sets_one : ExactlyOne NamedSets (λ (r : NamedSets). named_sets'.Post tt tt r tt)
named_sets_one = equation named_sets

pub display_order_one : ExactlyOne (List Quirk) (λ (r : List Quirk). display_order'.Post tt tt r tt)
display_order_one = equation display_order
