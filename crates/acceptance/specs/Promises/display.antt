-- Demand 1, a line for each public function of display.
-- tools/promises makes this file from the contracts, and the gate holds it to them.
use Rattle.std.specs.Borrow.{MutBor}
use Rattle.std.specs.Prelude.{ℕ, List, Option, length}
use contract.Lifetimes.{Lfts}
use Rattle.text.specs.Written.{left_with}
use Rattle.quirks.specs.declared.Quirk.{Quirk}
use Rattle.quirks.specs.Quirks.{bit_of}
use Rattle.ttl.specs.declared.Ttl.{Ttl}
use Rattle.ttl.specs.Ttl.{byte_of}
use Rattle.sigrecord.specs.declared.SigPayload.{SigPayload}
use Rattle.sigrecord.specs.declared.SigVersion.{SigVersion}
use Rattle.sigrecord.specs.declared.WindowSize.{WindowSize}
use Rattle.grammar.specs.Spelling.{spelt}
use Rattle.grammar.specs.Table.{said}
use Rattle.signature_line.specs.Words as words
use Rattle.written_line.specs.LineText.{ttl_text}
use Rattle.written_line.specs.Signature.{entry_said, form_said, mss_said, payload_said, scale_said, version_said, window_said}
use Rattle.display.specs.contracts.lengths.mss_length as mss_length'
use Rattle.display.specs.contracts.lengths.option_length as option_length'
use Rattle.display.specs.contracts.lengths.quirk_length as quirk_length'
use Rattle.display.specs.contracts.lengths.ttl_length as ttl_length'
use Rattle.display.specs.contracts.lengths.window_length as window_length'
use Rattle.display.specs.contracts.lengths.wscale_length as wscale_length'
use Rattle.display.specs.contracts.put_mss as put_mss'
use Rattle.display.specs.contracts.put_option as put_option'
use Rattle.display.specs.contracts.put_payload as put_payload'
use Rattle.display.specs.contracts.put_quirk as put_quirk'
use Rattle.display.specs.contracts.put_ttl as put_ttl'
use Rattle.display.specs.contracts.put_version as put_version'
use Rattle.display.specs.contracts.put_window as put_window'
use Rattle.display.specs.contracts.put_wscale as put_wscale'
use Rattle.display.proofs.lengths.mss_length.Reads as mss_length_reads
use Rattle.display.proofs.lengths.option_length.Reads as option_length_reads
use Rattle.display.proofs.lengths.quirk_length.Reads as quirk_length_reads
use Rattle.display.proofs.lengths.ttl_length.Reads as ttl_length_reads
use Rattle.display.proofs.lengths.window_length.Reads as window_length_reads
use Rattle.display.proofs.lengths.wscale_length.Reads as wscale_length_reads
use Rattle.display.proofs.put_mss.Reads as put_mss_reads
use Rattle.display.proofs.put_option.Reads as put_option_reads
use Rattle.display.proofs.put_payload.Reads as put_payload_reads
use Rattle.display.proofs.put_quirk.Reads as put_quirk_reads
use Rattle.display.proofs.put_ttl.Reads as put_ttl_reads
use Rattle.display.proofs.put_version.Reads as put_version_reads
use Rattle.display.proofs.put_window.Reads as put_window_reads
use Rattle.display.proofs.put_wscale.Reads as put_wscale_reads
use Rattle.acceptance.specs.Promised.{Answers, BufferAnswers}

pub record Promises : Type 0 where
  pub ttl_length_one
      : (ttl : Ttl)
      → Answers ttl_length'.signature tt (ttl_length_reads.Pre tt) (ttl_length_reads.Post tt)
      (ttl, tt) (length (ttl_text (said 0 (byte_of ttl)) (form_said ttl)))
  pub mss_length_one
      : (mss : Option ℕ)
      → Answers mss_length'.signature tt (mss_length_reads.Pre tt) (mss_length_reads.Post tt)
      (mss, tt) (length (spelt words.mss (mss_said mss)))
  pub wscale_length_one
      : (wscale : Option ℕ)
      → Answers wscale_length'.signature tt (wscale_length_reads.Pre tt) (wscale_length_reads.Post tt)
      (wscale, tt) (length (spelt words.scale (scale_said wscale)))
  pub window_length_one
      : (wsize : WindowSize)
      → Answers window_length'.signature tt (window_length_reads.Pre tt) (window_length_reads.Post tt)
      (wsize, tt) (length (spelt words.window (window_said wsize)))
  pub option_length_one
      : (kind byte : ℕ)
      → Answers option_length'.signature tt (option_length_reads.Pre tt) (option_length_reads.Post tt)
      (kind, (byte, tt)) (length (spelt words.entry (entry_said kind byte)))
  pub quirk_length_one
      : (quirk : Quirk)
      → Answers quirk_length'.signature tt (quirk_length_reads.Pre tt) (quirk_length_reads.Post tt)
      (quirk, tt) (length (spelt words.quirk_word (said (bit_of quirk) 0)))
  pub put_version_one
      : (κs : Lfts 1) (buffer : MutBor (List ℕ)) (at : ℕ) (version : SigVersion)
      → BufferAnswers put_version'.signature κs (put_version_reads.Pre κs) (put_version_reads.Post κs)
      (buffer, (at, (version, tt))) (λ bytes. (left_with buffer bytes, (at, (version, tt)))) buffer.now at
      (spelt words.version (version_said version))
  pub put_ttl_one
      : (κs : Lfts 1) (buffer : MutBor (List ℕ)) (at : ℕ) (ttl : Ttl)
      → BufferAnswers put_ttl'.signature κs (put_ttl_reads.Pre κs) (put_ttl_reads.Post κs)
      (buffer, (at, (ttl, tt))) (λ bytes. (left_with buffer bytes, (at, (ttl, tt)))) buffer.now at
      (ttl_text (said 0 (byte_of ttl)) (form_said ttl))
  pub put_mss_one
      : (κs : Lfts 1) (buffer : MutBor (List ℕ)) (at : ℕ) (mss : Option ℕ)
      → BufferAnswers put_mss'.signature κs (put_mss_reads.Pre κs) (put_mss_reads.Post κs)
      (buffer, (at, (mss, tt))) (λ bytes. (left_with buffer bytes, (at, (mss, tt)))) buffer.now at (spelt words.mss (mss_said mss))
  pub put_wscale_one
      : (κs : Lfts 1) (buffer : MutBor (List ℕ)) (at : ℕ) (wscale : Option ℕ)
      → BufferAnswers put_wscale'.signature κs (put_wscale_reads.Pre κs) (put_wscale_reads.Post κs)
      (buffer, (at, (wscale, tt))) (λ bytes. (left_with buffer bytes, (at, (wscale, tt)))) buffer.now at
      (spelt words.scale (scale_said wscale))
  pub put_window_one
      : (κs : Lfts 1) (buffer : MutBor (List ℕ)) (at : ℕ) (wsize : WindowSize)
      → BufferAnswers put_window'.signature κs (put_window_reads.Pre κs) (put_window_reads.Post κs)
      (buffer, (at, (wsize, tt))) (λ bytes. (left_with buffer bytes, (at, (wsize, tt)))) buffer.now at
      (spelt words.window (window_said wsize))
  pub put_option_one
      : (κs : Lfts 1) (buffer : MutBor (List ℕ)) (at kind byte : ℕ)
      → BufferAnswers put_option'.signature κs (put_option_reads.Pre κs) (put_option_reads.Post κs)
      (buffer, (at, (kind, (byte, tt)))) (λ bytes. (left_with buffer bytes, (at, (kind, (byte, tt))))) buffer.now at
      (spelt words.entry (entry_said kind byte))
  pub put_quirk_one
      : (κs : Lfts 1) (buffer : MutBor (List ℕ)) (at : ℕ) (quirk : Quirk)
      → BufferAnswers put_quirk'.signature κs (put_quirk_reads.Pre κs) (put_quirk_reads.Post κs)
      (buffer, (at, (quirk, tt))) (λ bytes. (left_with buffer bytes, (at, (quirk, tt)))) buffer.now at
      (spelt words.quirk_word (said (bit_of quirk) 0))
  pub put_payload_one
      : (κs : Lfts 1) (buffer : MutBor (List ℕ)) (at : ℕ) (payload : SigPayload)
      → BufferAnswers put_payload'.signature κs (put_payload_reads.Pre κs) (put_payload_reads.Post κs)
      (buffer, (at, (payload, tt))) (λ bytes. (left_with buffer bytes, (at, (payload, tt)))) buffer.now at
      (spelt words.payload (payload_said payload))
