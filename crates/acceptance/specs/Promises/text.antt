-- Demand 1, a line for each public function of text.
-- tools/promises makes this file from the contracts, and the gate holds it to them.
use Rattle.std.specs.Borrow.{Bor, MutBor}
use Rattle.std.specs.Prelude.{ℕ, List, [], length, ◌∷◌}
use contract.Lifetimes.{Lfts}
use Rattle.text.specs.Decimal.{decimal}
use Rattle.text.specs.Written.{left_with}
use Rattle.text.specs.contracts.decimal_length as decimal_length'
use Rattle.text.specs.contracts.put_byte as put_byte'
use Rattle.text.specs.contracts.put_decimal as put_decimal'
use Rattle.text.specs.contracts.put_word as put_word'
use Rattle.text.proofs.decimal_length.Reads as decimal_length_reads
use Rattle.text.proofs.put_byte.Reads as put_byte_reads
use Rattle.text.proofs.put_decimal.Reads as put_decimal_reads
use Rattle.text.proofs.put_word.Reads as put_word_reads
use Rattle.acceptance.specs.Promised.{Answers, BufferAnswers}

pub record Promises : Type 0 where
  pub put_byte_one
      : (κs : Lfts 1) (buffer : MutBor (List ℕ)) (at byte : ℕ)
      → BufferAnswers put_byte'.signature κs (put_byte_reads.Pre κs) (put_byte_reads.Post κs)
      (buffer, (at, (byte, tt))) (λ bytes. (left_with buffer bytes, (at, (byte, tt)))) buffer.now at (byte ∷ [])
  pub put_word_one
      : (κs : Lfts 2) (buffer : MutBor (List ℕ)) (at : ℕ) (word : Bor (List ℕ))
      → BufferAnswers put_word'.signature κs (put_word_reads.Pre κs) (put_word_reads.Post κs)
      (buffer, (at, (word, tt))) (λ bytes. (left_with buffer bytes, (at, (word, tt)))) buffer.now at word.now
  pub put_decimal_one
      : (κs : Lfts 1) (buffer : MutBor (List ℕ)) (at n : ℕ)
      → BufferAnswers put_decimal'.signature κs (put_decimal_reads.Pre κs) (put_decimal_reads.Post κs)
      (buffer, (at, (n, tt))) (λ bytes. (left_with buffer bytes, (at, (n, tt)))) buffer.now at (decimal n)
  pub decimal_length_one
      : (n : ℕ)
      → Answers decimal_length'.signature tt (decimal_length_reads.Pre tt) (decimal_length_reads.Post tt) (n, tt) (length (decimal n))
