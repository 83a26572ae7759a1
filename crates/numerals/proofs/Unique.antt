-- Exactly one result meets each public function's own contract.
-- tools/promises makes this file from the contracts, and the gate holds it to them.
use Rattle.std.specs.Borrow.{Bor}
use Rattle.std.specs.Prelude.{ℕ, List, Result}
use contract.Lifetimes.{Lfts}
use Rattle.basis.specs.Unique.{ExactlyOne}
use Rattle.basis.proofs.Unique.{equation}
use Rattle.grammar.specs.Numeral.{any}
use Rattle.signature_line.specs.declared.BadLine.{BadLine}
use Rattle.signature_line.specs.Words.{unnamed}
use Rattle.numerals.specs.declared.Piece.{Piece}
use Rattle.numerals.specs.Pieces.{no_piece, numeral_at}
use Rattle.numerals.proofs.no_piece.Reads as no_piece'
use Rattle.numerals.proofs.read_numeral.Reads as read_numeral'
use Rattle.numerals.proofs.read_unnamed.Reads as read_unnamed'

pub no_piece_one : (at : ℕ) → ExactlyOne (Result Piece BadLine) (λ (r : Result Piece BadLine). no_piece'.Post tt (at, tt) r (at, tt))
no_piece_one at = equation (no_piece at)

pub read_numeral_one
    : (κs : Lfts 1) (s : Bor (List ℕ)) (from max form : ℕ)
    → ExactlyOne (Result Piece BadLine)
    (λ (r : Result Piece BadLine). read_numeral'.Post κs (s, (from, (max, (form, tt)))) r (s, (from, (max, (form, tt)))))
read_numeral_one κs s from max form = equation (numeral_at max any form s.now from)

pub read_unnamed_one
    : (κs : Lfts 1) (s : Bor (List ℕ)) (from : ℕ)
    → ExactlyOne (Result Piece BadLine) (λ (r : Result Piece BadLine). read_unnamed'.Post κs (s, (from, tt)) r (s, (from, tt)))
read_unnamed_one κs s from = equation (numeral_at 255 unnamed 6 s.now from)
