-- Demand 1, a line for each public function of sigrecord.
-- tools/promises makes this file from the contracts, and the gate holds it to them.
use Rattle.std.specs.Borrow.{Bor}
use Rattle.std.specs.Prelude.{ℕ, List, length, ◌/◌}
use contract.Lifetimes.{Lfts}
use Rattle.basis.specs.Bytes.{be32}
use Rattle.sigrecord.specs.Layout.{entries_good, entry_good}
use Rattle.sigrecord.specs.Record.{entry_count, first_entry, is_generic, label_of, signature_of}
use Rattle.sigrecord.specs.WellFormed.{forms_well_formed, quirks_good, scalars_well_formed}
use Rattle.sigrecord.specs.contracts.entries_good as entries_good'
use Rattle.sigrecord.specs.contracts.entry_count as entry_count'
use Rattle.sigrecord.specs.contracts.entry_good as entry_good'
use Rattle.sigrecord.specs.contracts.first_entry as first_entry'
use Rattle.sigrecord.specs.contracts.forms_well_formed as forms_well_formed'
use Rattle.sigrecord.specs.contracts.is_generic as is_generic'
use Rattle.sigrecord.specs.contracts.label_of as label_of'
use Rattle.sigrecord.specs.contracts.mss_of as mss_of'
use Rattle.sigrecord.specs.contracts.quirks_good as quirks_good'
use Rattle.sigrecord.specs.contracts.quirks_of as quirks_of'
use Rattle.sigrecord.specs.contracts.scalars_well_formed as scalars_well_formed'
use Rattle.sigrecord.specs.contracts.scale_of as scale_of'
use Rattle.sigrecord.specs.contracts.signature_of as signature_of'
use Rattle.sigrecord.specs.contracts.ttl_of as ttl_of'
use Rattle.sigrecord.specs.contracts.version_of as version_of'
use Rattle.sigrecord.specs.contracts.window_of as window_of'
use Rattle.sigrecord.proofs.entries_good.Reads as entries_good_reads
use Rattle.sigrecord.proofs.entry_count.Reads as entry_count_reads
use Rattle.sigrecord.proofs.entry_good.Reads as entry_good_reads
use Rattle.sigrecord.proofs.first_entry.Reads as first_entry_reads
use Rattle.sigrecord.proofs.forms_well_formed.Reads as forms_well_formed_reads
use Rattle.sigrecord.proofs.is_generic.Reads as is_generic_reads
use Rattle.sigrecord.proofs.label_of.Reads as label_of_reads
use Rattle.sigrecord.proofs.mss_of.Reads as mss_of_reads
use Rattle.sigrecord.proofs.quirks_good.Reads as quirks_good_reads
use Rattle.sigrecord.proofs.quirks_of.Reads as quirks_of_reads
use Rattle.sigrecord.proofs.scalars_well_formed.Reads as scalars_well_formed_reads
use Rattle.sigrecord.proofs.scale_of.Reads as scale_of_reads
use Rattle.sigrecord.proofs.signature_of.Reads as signature_of_reads
use Rattle.sigrecord.proofs.ttl_of.Reads as ttl_of_reads
use Rattle.sigrecord.proofs.version_of.Reads as version_of_reads
use Rattle.sigrecord.proofs.window_of.Reads as window_of_reads
use Rattle.acceptance.specs.Promised.{Answers}

pub record Promises : Type 0 where
  pub version_of_one
      : (κs : Lfts 1) (raw : Bor (List ℕ))
      → Answers version_of'.signature κs (version_of_reads.Pre κs) (version_of_reads.Post κs) (raw, tt) ((signature_of raw.now).version)
  pub ttl_of_one
      : (κs : Lfts 1) (raw : Bor (List ℕ))
      → Answers ttl_of'.signature κs (ttl_of_reads.Pre κs) (ttl_of_reads.Post κs) (raw, tt) ((signature_of raw.now).ittl)
  pub mss_of_one
      : (κs : Lfts 1) (raw : Bor (List ℕ))
      → Answers mss_of'.signature κs (mss_of_reads.Pre κs) (mss_of_reads.Post κs) (raw, tt) ((signature_of raw.now).mss)
  pub window_of_one
      : (κs : Lfts 1) (raw : Bor (List ℕ))
      → Answers window_of'.signature κs (window_of_reads.Pre κs) (window_of_reads.Post κs) (raw, tt) ((signature_of raw.now).wsize)
  pub scale_of_one
      : (κs : Lfts 1) (raw : Bor (List ℕ))
      → Answers scale_of'.signature κs (scale_of_reads.Pre κs) (scale_of_reads.Post κs) (raw, tt) ((signature_of raw.now).wscale)
  pub quirks_of_one
      : (κs : Lfts 1) (raw : Bor (List ℕ))
      → Answers quirks_of'.signature κs (quirks_of_reads.Pre κs) (quirks_of_reads.Post κs) (raw, tt) ((signature_of raw.now).quirks)
  pub signature_of_one
      : (κs : Lfts 1) (raw : Bor (List ℕ))
      → Answers signature_of'.signature κs (signature_of_reads.Pre κs) (signature_of_reads.Post κs) (raw, tt) (signature_of raw.now)
  pub first_entry_one
      : (κs : Lfts 1) (raw : Bor (List ℕ))
      → Answers first_entry'.signature κs (first_entry_reads.Pre κs) (first_entry_reads.Post κs) (raw, tt) (first_entry raw.now)
  pub entry_count_one
      : (κs : Lfts 1) (raw : Bor (List ℕ))
      → Answers entry_count'.signature κs (entry_count_reads.Pre κs) (entry_count_reads.Post κs) (raw, tt) (entry_count raw.now)
  pub label_of_one
      : (κs : Lfts 1) (raw : Bor (List ℕ))
      → Answers label_of'.signature κs (label_of_reads.Pre κs) (label_of_reads.Post κs) (raw, tt) (label_of raw.now)
  pub is_generic_one
      : (κs : Lfts 1) (raw : Bor (List ℕ))
      → Answers is_generic'.signature κs (is_generic_reads.Pre κs) (is_generic_reads.Post κs) (raw, tt) (is_generic raw.now)
  pub scalars_well_formed_one
      : (κs : Lfts 1) (raw : Bor (List ℕ))
      → Answers scalars_well_formed'.signature κs (scalars_well_formed_reads.Pre κs) (scalars_well_formed_reads.Post κs)
      (raw, tt) (scalars_well_formed raw.now)
  pub forms_well_formed_one
      : (κs : Lfts 1) (raw : Bor (List ℕ))
      → Answers forms_well_formed'.signature κs (forms_well_formed_reads.Pre κs) (forms_well_formed_reads.Post κs)
      (raw, tt) (forms_well_formed raw.now)
  pub quirks_good_one
      : (κs : Lfts 1) (raw : Bor (List ℕ))
      → Answers quirks_good'.signature κs (quirks_good_reads.Pre κs) (quirks_good_reads.Post κs) (raw, tt) (quirks_good (be32 raw.now 14))
  pub entry_good_one
      : (kind byte : ℕ)
      → Answers entry_good'.signature tt (entry_good_reads.Pre tt) (entry_good_reads.Post tt) (kind, (byte, tt)) (entry_good kind byte)
  pub entries_good_one
      : (κs : Lfts 1) (entries : Bor (List ℕ))
      → Answers entries_good'.signature κs (entries_good_reads.Pre κs) (entries_good_reads.Post κs)
      (entries, tt) (entries_good entries.now (length entries.now / 2))
