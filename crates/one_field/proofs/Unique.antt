-- Exactly one result meets each public function's own contract.
-- tools/promises makes this file from the contracts, and the gate holds it to them.
use Rattle.std.specs.Borrow.{Bor}
use Rattle.std.specs.Prelude.{ℕ, List, Result}
use contract.Lifetimes.{Lfts}
use Rattle.basis.specs.Unique.{ExactlyOne}
use Rattle.basis.proofs.Unique.{equation}
use Rattle.signature_line.specs.declared.BadLine.{BadLine}
use Rattle.signature_line.specs.Words.{bare_byte, entry, mss, payload, quirk_word, scale, version, window}
use Rattle.numerals.specs.declared.Piece.{Piece}
use Rattle.one_field.specs.declared.TtlPiece.{TtlPiece}
use Rattle.one_field.specs.Places.{field_at, next_at, piece_at, ttl_field_at}
use Rattle.one_field.proofs.behind.Reads as behind'
use Rattle.one_field.proofs.parse_ip_version.Reads as parse_ip_version'
use Rattle.one_field.proofs.parse_mss.Reads as parse_mss'
use Rattle.one_field.proofs.parse_olen.Reads as parse_olen'
use Rattle.one_field.proofs.parse_payload_size.Reads as parse_payload_size'
use Rattle.one_field.proofs.parse_quirk.Reads as parse_quirk'
use Rattle.one_field.proofs.parse_tcp_option.Reads as parse_tcp_option'
use Rattle.one_field.proofs.parse_ttl.Reads as parse_ttl'
use Rattle.one_field.proofs.parse_window_size.Reads as parse_window_size'
use Rattle.one_field.proofs.parse_wscale.Reads as parse_wscale'

pub behind_one
    : (κs : Lfts 1) (s : Bor (List ℕ)) (from : Result ℕ BadLine) (byte : ℕ)
    → ExactlyOne (Result ℕ BadLine) (λ (r : Result ℕ BadLine). behind'.Post κs (s, (from, (byte, tt))) r (s, (from, (byte, tt))))
behind_one κs s from byte = equation (next_at byte s.now from)

pub parse_ip_version_one
    : (κs : Lfts 1) (s : Bor (List ℕ)) (from : Result ℕ BadLine)
    → ExactlyOne (Result Piece BadLine) (λ (r : Result Piece BadLine). parse_ip_version'.Post κs (s, (from, tt)) r (s, (from, tt)))
parse_ip_version_one κs s from = equation (field_at version s.now from)

pub parse_olen_one
    : (κs : Lfts 1) (s : Bor (List ℕ)) (from : Result ℕ BadLine)
    → ExactlyOne (Result Piece BadLine) (λ (r : Result Piece BadLine). parse_olen'.Post κs (s, (from, tt)) r (s, (from, tt)))
parse_olen_one κs s from = equation (field_at bare_byte s.now from)

pub parse_ttl_one
    : (κs : Lfts 1) (s : Bor (List ℕ)) (from : Result ℕ BadLine)
    → ExactlyOne (Result TtlPiece BadLine) (λ (r : Result TtlPiece BadLine). parse_ttl'.Post κs (s, (from, tt)) r (s, (from, tt)))
parse_ttl_one κs s from = equation (ttl_field_at s.now from)

pub parse_mss_one
    : (κs : Lfts 1) (s : Bor (List ℕ)) (from : Result ℕ BadLine)
    → ExactlyOne (Result Piece BadLine) (λ (r : Result Piece BadLine). parse_mss'.Post κs (s, (from, tt)) r (s, (from, tt)))
parse_mss_one κs s from = equation (field_at mss s.now from)

pub parse_wscale_one
    : (κs : Lfts 1) (s : Bor (List ℕ)) (from : Result ℕ BadLine)
    → ExactlyOne (Result Piece BadLine) (λ (r : Result Piece BadLine). parse_wscale'.Post κs (s, (from, tt)) r (s, (from, tt)))
parse_wscale_one κs s from = equation (field_at scale s.now from)

pub parse_window_size_one
    : (κs : Lfts 1) (s : Bor (List ℕ)) (from : Result ℕ BadLine)
    → ExactlyOne (Result Piece BadLine) (λ (r : Result Piece BadLine). parse_window_size'.Post κs (s, (from, tt)) r (s, (from, tt)))
parse_window_size_one κs s from = equation (field_at window s.now from)

pub parse_tcp_option_one
    : (κs : Lfts 1) (s : Bor (List ℕ)) (from : ℕ)
    → ExactlyOne (Result Piece BadLine) (λ (r : Result Piece BadLine). parse_tcp_option'.Post κs (s, (from, tt)) r (s, (from, tt)))
parse_tcp_option_one κs s from = equation (piece_at entry s.now from)

pub parse_quirk_one
    : (κs : Lfts 1) (s : Bor (List ℕ)) (from : ℕ)
    → ExactlyOne (Result Piece BadLine) (λ (r : Result Piece BadLine). parse_quirk'.Post κs (s, (from, tt)) r (s, (from, tt)))
parse_quirk_one κs s from = equation (piece_at quirk_word s.now from)

pub parse_payload_size_one
    : (κs : Lfts 1) (s : Bor (List ℕ)) (from : Result ℕ BadLine)
    → ExactlyOne (Result Piece BadLine) (λ (r : Result Piece BadLine). parse_payload_size'.Post κs (s, (from, tt)) r (s, (from, tt)))
parse_payload_size_one κs s from = equation (field_at payload s.now from)
