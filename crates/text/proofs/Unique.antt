-- Exactly one result meets each public function's own contract.
-- tools/promises makes this file from the contracts, and the gate holds it to them.
use Rattle.std.specs.Borrow.{Bor, MutBor}
use Rattle.std.specs.Prelude.{ℕ, List, length}
use contract.Lifetimes.{Lfts}
use Rattle.basis.specs.Unique.{ExactlyOne}
use Rattle.basis.proofs.Unique.{both, equation}
use Rattle.text.specs.Decimal.{decimal}
use Rattle.text.specs.Written.{left_with}
use Rattle.text.proofs.decimal_length.Reads as decimal_length'
use Rattle.text.proofs.put_byte.Reads as put_byte'
use Rattle.text.proofs.put_decimal.Reads as put_decimal'
use Rattle.text.proofs.put_word.Reads as put_word'

pub put_byte_one
    : (κs : Lfts 1) (buffer : MutBor (List ℕ)) (at byte : ℕ)
    → ExactlyOne (ℕ × List ℕ)
    (λ (r : ℕ × List ℕ). put_byte'.Post κs (buffer, (at, (byte, tt))) r.0 (left_with buffer r.1, (at, (byte, tt))))
put_byte_one κs buffer at byte = both _ _

pub put_word_one
    : (κs : Lfts 2) (buffer : MutBor (List ℕ)) (at : ℕ) (word : Bor (List ℕ))
    → ExactlyOne (ℕ × List ℕ)
    (λ (r : ℕ × List ℕ). put_word'.Post κs (buffer, (at, (word, tt))) r.0 (left_with buffer r.1, (at, (word, tt))))
put_word_one κs buffer at word = both _ _

pub put_decimal_one
    : (κs : Lfts 1) (buffer : MutBor (List ℕ)) (at n : ℕ)
    → ExactlyOne (ℕ × List ℕ) (λ (r : ℕ × List ℕ). put_decimal'.Post κs (buffer, (at, (n, tt))) r.0 (left_with buffer r.1, (at, (n, tt))))
put_decimal_one κs buffer at n = both _ _

pub decimal_length_one : (n : ℕ) → ExactlyOne ℕ (λ (r : ℕ). decimal_length'.Post tt (n, tt) r (n, tt))
decimal_length_one n = equation (length (decimal n))
