-- Demand 1, a line for each public function of numerals.
-- tools/promises makes this file from the contracts, and the gate holds it to them.
use Rattle.std.specs.Borrow.{Bor}
use Rattle.std.specs.Prelude.{ℕ, List}
use contract.Lifetimes.{Lfts}
use Rattle.grammar.specs.Numeral.{any}
use Rattle.signature_line.specs.Words.{unnamed}
use Rattle.numerals.specs.Pieces.{no_piece, numeral_at}
use Rattle.numerals.specs.contracts.no_piece as no_piece'
use Rattle.numerals.specs.contracts.read_numeral as read_numeral'
use Rattle.numerals.specs.contracts.read_unnamed as read_unnamed'
use Rattle.numerals.proofs.no_piece.Reads as no_piece_reads
use Rattle.numerals.proofs.read_numeral.Reads as read_numeral_reads
use Rattle.numerals.proofs.read_unnamed.Reads as read_unnamed_reads
use Rattle.acceptance.specs.Promised.{Answers}

pub record Promises : Type 0 where
  pub no_piece_one : (at : ℕ) → Answers no_piece'.signature tt (no_piece_reads.Pre tt) (no_piece_reads.Post tt) (at, tt) (no_piece at)
  pub read_numeral_one
      : (κs : Lfts 1) (s : Bor (List ℕ)) (from max form : ℕ)
      → Answers read_numeral'.signature κs (read_numeral_reads.Pre κs) (read_numeral_reads.Post κs)
      (s, (from, (max, (form, tt)))) (numeral_at max any form s.now from)
  pub read_unnamed_one
      : (κs : Lfts 1) (s : Bor (List ℕ)) (from : ℕ)
      → Answers read_unnamed'.signature κs (read_unnamed_reads.Pre κs) (read_unnamed_reads.Post κs)
      (s, (from, tt)) (numeral_at 255 unnamed 6 s.now from)
