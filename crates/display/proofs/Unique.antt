-- Exactly one result meets each public function's own contract.
-- tools/promises makes this file from the contracts, and the gate holds it to them.
use Rattle.std.specs.Borrow.{MutBor}
use Rattle.std.specs.Prelude.{ℕ, List, Option, length}
use contract.Lifetimes.{Lfts}
use Rattle.basis.specs.Unique.{ExactlyOne}
use Rattle.basis.proofs.Unique.{both, equation}
use Rattle.text.specs.Written.{left_with}
use Rattle.quirks.specs.declared.Quirk.{Quirk}
use Rattle.quirks.specs.Quirks.{bit_of}
use Rattle.ttl.specs.declared.Ttl.{Ttl}
use Rattle.ttl.specs.Ttl.{byte_of}
use Rattle.sigrecord.specs.declared.SigPayload.{SigPayload}
use Rattle.sigrecord.specs.declared.SigVersion.{SigVersion}
use Rattle.sigrecord.specs.declared.WindowSize.{WindowSize}
use Rattle.grammar.specs.Spelling.{spelt}
use Rattle.grammar.specs.Table.{said}
use Rattle.signature_line.specs.Words as words
use Rattle.written_line.specs.LineText.{ttl_text}
use Rattle.written_line.specs.Signature.{entry_said, form_said, mss_said, scale_said, window_said}
use Rattle.display.proofs.lengths.mss_length.Reads as mss_length'
use Rattle.display.proofs.lengths.option_length.Reads as option_length'
use Rattle.display.proofs.lengths.quirk_length.Reads as quirk_length'
use Rattle.display.proofs.lengths.ttl_length.Reads as ttl_length'
use Rattle.display.proofs.lengths.window_length.Reads as window_length'
use Rattle.display.proofs.lengths.wscale_length.Reads as wscale_length'
use Rattle.display.proofs.put_mss.Reads as put_mss'
use Rattle.display.proofs.put_option.Reads as put_option'
use Rattle.display.proofs.put_payload.Reads as put_payload'
use Rattle.display.proofs.put_quirk.Reads as put_quirk'
use Rattle.display.proofs.put_ttl.Reads as put_ttl'
use Rattle.display.proofs.put_version.Reads as put_version'
use Rattle.display.proofs.put_window.Reads as put_window'
use Rattle.display.proofs.put_wscale.Reads as put_wscale'

pub ttl_length_one : (ttl : Ttl) → ExactlyOne ℕ (λ (r : ℕ). ttl_length'.Post tt (ttl, tt) r (ttl, tt))
ttl_length_one ttl = equation (length (ttl_text (said 0 (byte_of ttl)) (form_said ttl)))

pub mss_length_one : (mss : Option ℕ) → ExactlyOne ℕ (λ (r : ℕ). mss_length'.Post tt (mss, tt) r (mss, tt))
mss_length_one mss = equation (length (spelt words.mss (mss_said mss)))

pub wscale_length_one : (wscale : Option ℕ) → ExactlyOne ℕ (λ (r : ℕ). wscale_length'.Post tt (wscale, tt) r (wscale, tt))
wscale_length_one wscale = equation (length (spelt words.scale (scale_said wscale)))

pub window_length_one : (wsize : WindowSize) → ExactlyOne ℕ (λ (r : ℕ). window_length'.Post tt (wsize, tt) r (wsize, tt))
window_length_one wsize = equation (length (spelt words.window (window_said wsize)))

pub option_length_one : (kind byte : ℕ) → ExactlyOne ℕ (λ (r : ℕ). option_length'.Post tt (kind, (byte, tt)) r (kind, (byte, tt)))
option_length_one kind byte = equation (length (spelt words.entry (entry_said kind byte)))

pub quirk_length_one : (quirk : Quirk) → ExactlyOne ℕ (λ (r : ℕ). quirk_length'.Post tt (quirk, tt) r (quirk, tt))
quirk_length_one quirk = equation (length (spelt words.quirk_word (said (bit_of quirk) 0)))

pub put_version_one
    : (κs : Lfts 1) (buffer : MutBor (List ℕ)) (at : ℕ) (version : SigVersion)
    → ExactlyOne (ℕ × List ℕ)
    (λ (r : ℕ × List ℕ). put_version'.Post κs (buffer, (at, (version, tt))) r.0 (left_with buffer r.1, (at, (version, tt))))
put_version_one κs buffer at version = both _ _

pub put_ttl_one
    : (κs : Lfts 1) (buffer : MutBor (List ℕ)) (at : ℕ) (ttl : Ttl)
    → ExactlyOne (ℕ × List ℕ) (λ (r : ℕ × List ℕ). put_ttl'.Post κs (buffer, (at, (ttl, tt))) r.0 (left_with buffer r.1, (at, (ttl, tt))))
put_ttl_one κs buffer at ttl = both _ _

pub put_mss_one
    : (κs : Lfts 1) (buffer : MutBor (List ℕ)) (at : ℕ) (mss : Option ℕ)
    → ExactlyOne (ℕ × List ℕ) (λ (r : ℕ × List ℕ). put_mss'.Post κs (buffer, (at, (mss, tt))) r.0 (left_with buffer r.1, (at, (mss, tt))))
put_mss_one κs buffer at mss = both _ _

pub put_wscale_one
    : (κs : Lfts 1) (buffer : MutBor (List ℕ)) (at : ℕ) (wscale : Option ℕ)
    → ExactlyOne (ℕ × List ℕ)
    (λ (r : ℕ × List ℕ). put_wscale'.Post κs (buffer, (at, (wscale, tt))) r.0 (left_with buffer r.1, (at, (wscale, tt))))
put_wscale_one κs buffer at wscale = both _ _

pub put_window_one
    : (κs : Lfts 1) (buffer : MutBor (List ℕ)) (at : ℕ) (wsize : WindowSize)
    → ExactlyOne (ℕ × List ℕ)
    (λ (r : ℕ × List ℕ). put_window'.Post κs (buffer, (at, (wsize, tt))) r.0 (left_with buffer r.1, (at, (wsize, tt))))
put_window_one κs buffer at wsize = both _ _

pub put_option_one
    : (κs : Lfts 1) (buffer : MutBor (List ℕ)) (at kind byte : ℕ)
    → ExactlyOne (ℕ × List ℕ)
    (λ (r : ℕ × List ℕ). put_option'.Post κs (buffer, (at, (kind, (byte, tt)))) r.0 (left_with buffer r.1, (at, (kind, (byte, tt)))))
put_option_one κs buffer at kind byte = both _ _

pub put_quirk_one
    : (κs : Lfts 1) (buffer : MutBor (List ℕ)) (at : ℕ) (quirk : Quirk)
    → ExactlyOne (ℕ × List ℕ)
    (λ (r : ℕ × List ℕ). put_quirk'.Post κs (buffer, (at, (quirk, tt))) r.0 (left_with buffer r.1, (at, (quirk, tt))))
put_quirk_one κs buffer at quirk = both _ _

pub put_payload_one
    : (κs : Lfts 1) (buffer : MutBor (List ℕ)) (at : ℕ) (payload : SigPayload)
    → ExactlyOne (ℕ × List ℕ)
    (λ (r : ℕ × List ℕ). put_payload'.Post κs (buffer, (at, (payload, tt))) r.0 (left_with buffer r.1, (at, (payload, tt))))
put_payload_one κs buffer at payload = both _ _
