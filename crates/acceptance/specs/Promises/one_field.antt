-- Demand 1, a line for each public function of one_field.
-- tools/promises makes this file from the contracts, and the gate holds it to them.
use Rattle.std.specs.Borrow.{Bor}
use Rattle.std.specs.Prelude.{ℕ, List, Result}
use contract.Lifetimes.{Lfts}
use Rattle.signature_line.specs.declared.BadLine.{BadLine}
use Rattle.signature_line.specs.Words.{bare_byte, entry, mss, payload, quirk_word, scale, version, window}
use Rattle.one_field.specs.Places.{field_at, next_at, piece_at, ttl_field_at}
use Rattle.one_field.specs.contracts.behind as behind'
use Rattle.one_field.specs.contracts.parse_ip_version as parse_ip_version'
use Rattle.one_field.specs.contracts.parse_mss as parse_mss'
use Rattle.one_field.specs.contracts.parse_olen as parse_olen'
use Rattle.one_field.specs.contracts.parse_payload_size as parse_payload_size'
use Rattle.one_field.specs.contracts.parse_quirk as parse_quirk'
use Rattle.one_field.specs.contracts.parse_tcp_option as parse_tcp_option'
use Rattle.one_field.specs.contracts.parse_ttl as parse_ttl'
use Rattle.one_field.specs.contracts.parse_window_size as parse_window_size'
use Rattle.one_field.specs.contracts.parse_wscale as parse_wscale'
use Rattle.one_field.proofs.behind.Reads as behind_reads
use Rattle.one_field.proofs.parse_ip_version.Reads as parse_ip_version_reads
use Rattle.one_field.proofs.parse_mss.Reads as parse_mss_reads
use Rattle.one_field.proofs.parse_olen.Reads as parse_olen_reads
use Rattle.one_field.proofs.parse_payload_size.Reads as parse_payload_size_reads
use Rattle.one_field.proofs.parse_quirk.Reads as parse_quirk_reads
use Rattle.one_field.proofs.parse_tcp_option.Reads as parse_tcp_option_reads
use Rattle.one_field.proofs.parse_ttl.Reads as parse_ttl_reads
use Rattle.one_field.proofs.parse_window_size.Reads as parse_window_size_reads
use Rattle.one_field.proofs.parse_wscale.Reads as parse_wscale_reads
use Rattle.acceptance.specs.Promised.{Answers}

pub record Promises : Type 0 where
  pub behind_one
      : (κs : Lfts 1) (s : Bor (List ℕ)) (from : Result ℕ BadLine) (byte : ℕ)
      → Answers behind'.signature κs (behind_reads.Pre κs) (behind_reads.Post κs) (s, (from, (byte, tt))) (next_at byte s.now from)
  pub parse_ip_version_one
      : (κs : Lfts 1) (s : Bor (List ℕ)) (from : Result ℕ BadLine)
      → Answers parse_ip_version'.signature κs (parse_ip_version_reads.Pre κs) (parse_ip_version_reads.Post κs)
      (s, (from, tt)) (field_at version s.now from)
  pub parse_olen_one
      : (κs : Lfts 1) (s : Bor (List ℕ)) (from : Result ℕ BadLine)
      → Answers parse_olen'.signature κs (parse_olen_reads.Pre κs) (parse_olen_reads.Post κs)
      (s, (from, tt)) (field_at bare_byte s.now from)
  pub parse_ttl_one
      : (κs : Lfts 1) (s : Bor (List ℕ)) (from : Result ℕ BadLine)
      → Answers parse_ttl'.signature κs (parse_ttl_reads.Pre κs) (parse_ttl_reads.Post κs) (s, (from, tt)) (ttl_field_at s.now from)
  pub parse_mss_one
      : (κs : Lfts 1) (s : Bor (List ℕ)) (from : Result ℕ BadLine)
      → Answers parse_mss'.signature κs (parse_mss_reads.Pre κs) (parse_mss_reads.Post κs) (s, (from, tt)) (field_at mss s.now from)
  pub parse_wscale_one
      : (κs : Lfts 1) (s : Bor (List ℕ)) (from : Result ℕ BadLine)
      → Answers parse_wscale'.signature κs (parse_wscale_reads.Pre κs) (parse_wscale_reads.Post κs)
      (s, (from, tt)) (field_at scale s.now from)
  pub parse_window_size_one
      : (κs : Lfts 1) (s : Bor (List ℕ)) (from : Result ℕ BadLine)
      → Answers parse_window_size'.signature κs (parse_window_size_reads.Pre κs) (parse_window_size_reads.Post κs)
      (s, (from, tt)) (field_at window s.now from)
  pub parse_tcp_option_one
      : (κs : Lfts 1) (s : Bor (List ℕ)) (from : ℕ)
      → Answers parse_tcp_option'.signature κs (parse_tcp_option_reads.Pre κs) (parse_tcp_option_reads.Post κs)
      (s, (from, tt)) (piece_at entry s.now from)
  pub parse_quirk_one
      : (κs : Lfts 1) (s : Bor (List ℕ)) (from : ℕ)
      → Answers parse_quirk'.signature κs (parse_quirk_reads.Pre κs) (parse_quirk_reads.Post κs)
      (s, (from, tt)) (piece_at quirk_word s.now from)
  pub parse_payload_size_one
      : (κs : Lfts 1) (s : Bor (List ℕ)) (from : Result ℕ BadLine)
      → Answers parse_payload_size'.signature κs (parse_payload_size_reads.Pre κs) (parse_payload_size_reads.Post κs)
      (s, (from, tt)) (field_at payload s.now from)
