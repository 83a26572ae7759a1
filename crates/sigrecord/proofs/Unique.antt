-- Exactly one result meets each public function's own contract.
-- tools/promises makes this file from the contracts, and the gate holds it to them.
use Rattle.std.specs.Borrow.{Bor}
use Rattle.std.specs.Prelude.{ℕ, Bool, List, Option, length, ◌/◌}
use contract.Lifetimes.{Lfts}
use Rattle.basis.specs.Bytes.{be32}
use Rattle.basis.specs.Unique.{ExactlyOne}
use Rattle.basis.proofs.Unique.{equation}
use Rattle.quirks.specs.declared.QuirkSet.{QuirkSet}
use Rattle.ttl.specs.declared.Ttl.{Ttl}
use Rattle.sigrecord.specs.declared.SigVersion.{SigVersion}
use Rattle.sigrecord.specs.declared.Signature.{Signature}
use Rattle.sigrecord.specs.declared.WindowSize.{WindowSize}
use Rattle.sigrecord.specs.Layout.{entries_good, entry_good}
use Rattle.sigrecord.specs.Record.{entry_count, first_entry, is_generic, label_of, signature_of}
use Rattle.sigrecord.specs.WellFormed.{forms_well_formed, quirks_good, scalars_well_formed}
use Rattle.sigrecord.proofs.entries_good.Reads as entries_good'
use Rattle.sigrecord.proofs.entry_count.Reads as entry_count'
use Rattle.sigrecord.proofs.entry_good.Reads as entry_good'
use Rattle.sigrecord.proofs.first_entry.Reads as first_entry'
use Rattle.sigrecord.proofs.forms_well_formed.Reads as forms_well_formed'
use Rattle.sigrecord.proofs.is_generic.Reads as is_generic'
use Rattle.sigrecord.proofs.label_of.Reads as label_of'
use Rattle.sigrecord.proofs.mss_of.Reads as mss_of'
use Rattle.sigrecord.proofs.quirks_good.Reads as quirks_good'
use Rattle.sigrecord.proofs.quirks_of.Reads as quirks_of'
use Rattle.sigrecord.proofs.scalars_well_formed.Reads as scalars_well_formed'
use Rattle.sigrecord.proofs.scale_of.Reads as scale_of'
use Rattle.sigrecord.proofs.signature_of.Reads as signature_of'
use Rattle.sigrecord.proofs.ttl_of.Reads as ttl_of'
use Rattle.sigrecord.proofs.version_of.Reads as version_of'
use Rattle.sigrecord.proofs.window_of.Reads as window_of'

pub version_of_one
    : (κs : Lfts 1) (raw : Bor (List ℕ))
    → ExactlyOne SigVersion (λ (r : SigVersion). version_of'.Post κs (raw, tt) r (raw, tt))
version_of_one κs raw = equation ((signature_of raw.now).version)

pub ttl_of_one : (κs : Lfts 1) (raw : Bor (List ℕ)) → ExactlyOne Ttl (λ (r : Ttl). ttl_of'.Post κs (raw, tt) r (raw, tt))
ttl_of_one κs raw = equation ((signature_of raw.now).ittl)

pub mss_of_one : (κs : Lfts 1) (raw : Bor (List ℕ)) → ExactlyOne (Option ℕ) (λ (r : Option ℕ). mss_of'.Post κs (raw, tt) r (raw, tt))
mss_of_one κs raw = equation ((signature_of raw.now).mss)

pub window_of_one
    : (κs : Lfts 1) (raw : Bor (List ℕ))
    → ExactlyOne WindowSize (λ (r : WindowSize). window_of'.Post κs (raw, tt) r (raw, tt))
window_of_one κs raw = equation ((signature_of raw.now).wsize)

pub scale_of_one : (κs : Lfts 1) (raw : Bor (List ℕ)) → ExactlyOne (Option ℕ) (λ (r : Option ℕ). scale_of'.Post κs (raw, tt) r (raw, tt))
scale_of_one κs raw = equation ((signature_of raw.now).wscale)

pub quirks_of_one : (κs : Lfts 1) (raw : Bor (List ℕ)) → ExactlyOne QuirkSet (λ (r : QuirkSet). quirks_of'.Post κs (raw, tt) r (raw, tt))
quirks_of_one κs raw = equation ((signature_of raw.now).quirks)

pub signature_of_one
    : (κs : Lfts 1) (raw : Bor (List ℕ))
    → ExactlyOne Signature (λ (r : Signature). signature_of'.Post κs (raw, tt) r (raw, tt))
signature_of_one κs raw = equation (signature_of raw.now)

pub first_entry_one : (κs : Lfts 1) (raw : Bor (List ℕ)) → ExactlyOne ℕ (λ (r : ℕ). first_entry'.Post κs (raw, tt) r (raw, tt))
first_entry_one κs raw = equation (first_entry raw.now)

pub entry_count_one : (κs : Lfts 1) (raw : Bor (List ℕ)) → ExactlyOne ℕ (λ (r : ℕ). entry_count'.Post κs (raw, tt) r (raw, tt))
entry_count_one κs raw = equation (entry_count raw.now)

pub label_of_one : (κs : Lfts 1) (raw : Bor (List ℕ)) → ExactlyOne ℕ (λ (r : ℕ). label_of'.Post κs (raw, tt) r (raw, tt))
label_of_one κs raw = equation (label_of raw.now)

pub is_generic_one : (κs : Lfts 1) (raw : Bor (List ℕ)) → ExactlyOne Bool (λ (r : Bool). is_generic'.Post κs (raw, tt) r (raw, tt))
is_generic_one κs raw = equation (is_generic raw.now)

pub scalars_well_formed_one
    : (κs : Lfts 1) (raw : Bor (List ℕ))
    → ExactlyOne Bool (λ (r : Bool). scalars_well_formed'.Post κs (raw, tt) r (raw, tt))
scalars_well_formed_one κs raw = equation (scalars_well_formed raw.now)

pub forms_well_formed_one
    : (κs : Lfts 1) (raw : Bor (List ℕ))
    → ExactlyOne Bool (λ (r : Bool). forms_well_formed'.Post κs (raw, tt) r (raw, tt))
forms_well_formed_one κs raw = equation (forms_well_formed raw.now)

pub quirks_good_one : (κs : Lfts 1) (raw : Bor (List ℕ)) → ExactlyOne Bool (λ (r : Bool). quirks_good'.Post κs (raw, tt) r (raw, tt))
quirks_good_one κs raw = equation (quirks_good (be32 raw.now 14))

pub entry_good_one : (kind byte : ℕ) → ExactlyOne Bool (λ (r : Bool). entry_good'.Post tt (kind, (byte, tt)) r (kind, (byte, tt)))
entry_good_one kind byte = equation (entry_good kind byte)

pub entries_good_one
    : (κs : Lfts 1) (entries : Bor (List ℕ))
    → ExactlyOne Bool (λ (r : Bool). entries_good'.Post κs (entries, tt) r (entries, tt))
entries_good_one κs entries = equation (entries_good entries.now (length entries.now / 2))
