-- Demand 1, a line for each public function of matching.
-- tools/promises makes this file from the contracts, and the gate holds it to them.
use Rattle.std.specs.Borrow.{Bor}
use Rattle.std.specs.Prelude.{ℕ, List, Option}
use contract.Lifetimes.{Lfts}
use Rattle.tcp.specs.declared.IpVersion.{IpVersion}
use Rattle.quirks.specs.declared.QuirkSet.{QuirkSet}
use Rattle.observable.specs.declared.TcpObservation.{TcpObservation}
use Rattle.sigrecord.specs.declared.SigVersion.{SigVersion}
use Rattle.sigrecord.specs.Record.{signature_of}
use Rattle.matching.specs.declared.Features.{Features}
use Rattle.matching.specs.Asked.{count_and_scale_match, other_gates_match}
use Rattle.matching.specs.Fit.{features_of, passes, tolerance_of}
use Rattle.matching.specs.Gates.{good_layout_fits, mss_matches, olen_matches, scale_matches}
use Rattle.matching.specs.Tolerance.{masked_quirks, quirks_fit}
use Rattle.matching.specs.contracts.count_and_scale_match as count_and_scale_match'
use Rattle.matching.specs.contracts.features_of as features_of'
use Rattle.matching.specs.contracts.mask_signature_quirks as mask_signature_quirks'
use Rattle.matching.specs.contracts.mss_matches as mss_matches'
use Rattle.matching.specs.contracts.olayout_matches as olayout_matches'
use Rattle.matching.specs.contracts.olen_matches as olen_matches'
use Rattle.matching.specs.contracts.other_gates_match as other_gates_match'
use Rattle.matching.specs.contracts.passes_gates as passes_gates'
use Rattle.matching.specs.contracts.quirks_fit as quirks_fit'
use Rattle.matching.specs.contracts.tolerance as tolerance'
use Rattle.matching.specs.contracts.wscale_matches as wscale_matches'
use Rattle.matching.proofs.count_and_scale_match.Reads as count_and_scale_match_reads
use Rattle.matching.proofs.features_of.Reads as features_of_reads
use Rattle.matching.proofs.mask_signature_quirks.Reads as mask_signature_quirks_reads
use Rattle.matching.proofs.mss_matches.Reads as mss_matches_reads
use Rattle.matching.proofs.olayout_matches.Reads as olayout_matches_reads
use Rattle.matching.proofs.olen_matches.Reads as olen_matches_reads
use Rattle.matching.proofs.other_gates_match.Reads as other_gates_match_reads
use Rattle.matching.proofs.passes_gates.Reads as passes_gates_reads
use Rattle.matching.proofs.quirks_fit.Reads as quirks_fit_reads
use Rattle.matching.proofs.tolerance.Reads as tolerance_reads
use Rattle.matching.proofs.wscale_matches.Reads as wscale_matches_reads
use Rattle.acceptance.specs.Promised.{Answers}

pub record Promises : Type 0 where
  pub olen_matches_one
      : (observed signature : ℕ)
      → Answers olen_matches'.signature tt (olen_matches_reads.Pre tt) (olen_matches_reads.Post tt)
      (observed, (signature, tt)) (olen_matches observed signature)
  pub mss_matches_one
      : (observed signature : Option ℕ)
      → Answers mss_matches'.signature tt (mss_matches_reads.Pre tt) (mss_matches_reads.Post tt)
      (observed, (signature, tt)) (mss_matches observed signature)
  pub wscale_matches_one
      : (observed signature : Option ℕ)
      → Answers wscale_matches'.signature tt (wscale_matches_reads.Pre tt) (wscale_matches_reads.Post tt)
      (observed, (signature, tt)) (scale_matches observed signature)
  pub olayout_matches_one
      : (κs : Lfts 3) (kinds bytes : Bor (List ℕ)) (count : ℕ) (entries : Bor (List ℕ)) (declared : ℕ)
      → Answers olayout_matches'.signature κs (olayout_matches_reads.Pre κs) (olayout_matches_reads.Post κs)
      (kinds, (bytes, (count, (entries, (declared, tt))))) (good_layout_fits count kinds.now bytes.now declared entries.now)
  pub count_and_scale_match_one
      : (κs : Lfts 1) (count : ℕ) (wscale : Option ℕ) (raw : Bor (List ℕ))
      → Answers count_and_scale_match'.signature κs (count_and_scale_match_reads.Pre κs) (count_and_scale_match_reads.Post κs)
      (count, (wscale, (raw, tt))) (count_and_scale_match count wscale raw.now)
  pub other_gates_match_one
      : (κs : Lfts 1) (observed : Features) (raw : Bor (List ℕ))
      → Answers other_gates_match'.signature κs (other_gates_match_reads.Pre κs) (other_gates_match_reads.Post κs)
      (observed, (raw, tt)) (other_gates_match observed raw.now)
  pub passes_gates_one
      : (κs : Lfts 1) (observed : Features) (raw : Bor (List ℕ))
      → Answers passes_gates'.signature κs (passes_gates_reads.Pre κs) (passes_gates_reads.Post κs)
      (observed, (raw, tt)) (passes observed raw.now)
  pub mask_signature_quirks_one
      : (quirks : QuirkSet) (signature : SigVersion) (observed : IpVersion)
      → Answers mask_signature_quirks'.signature tt (mask_signature_quirks_reads.Pre tt) (mask_signature_quirks_reads.Post tt)
      (quirks, (signature, (observed, tt))) (masked_quirks quirks signature observed)
  pub quirks_fit_one
      : (observed signature : QuirkSet)
      → Answers quirks_fit'.signature tt (quirks_fit_reads.Pre tt) (quirks_fit_reads.Post tt)
      (observed, (signature, tt)) (quirks_fit observed signature)
  pub features_of_one
      : (observed : TcpObservation)
      → Answers features_of'.signature tt (features_of_reads.Pre tt) (features_of_reads.Post tt) (observed, tt) (features_of observed)
  pub tolerance_one
      : (κs : Lfts 1) (observed : Features) (raw : Bor (List ℕ))
      → Answers tolerance'.signature κs (tolerance_reads.Pre κs) (tolerance_reads.Post κs)
      (observed, (raw, tt)) (tolerance_of observed (signature_of raw.now))
