-- Exactly one result meets each public function's own contract.
-- tools/promises makes this file from the contracts, and the gate holds it to them.
use Rattle.std.specs.Borrow.{Bor}
use Rattle.std.specs.Prelude.{ℕ, Bool, List, Option}
use contract.Lifetimes.{Lfts}
use Rattle.basis.specs.Unique.{ExactlyOne}
use Rattle.basis.proofs.Unique.{equation}
use Rattle.tcp.specs.declared.IpVersion.{IpVersion}
use Rattle.quirks.specs.declared.QuirkSet.{QuirkSet}
use Rattle.observable.specs.declared.TcpObservation.{TcpObservation}
use Rattle.sigrecord.specs.declared.SigVersion.{SigVersion}
use Rattle.sigrecord.specs.Record.{signature_of}
use Rattle.matching.specs.declared.Features.{Features}
use Rattle.matching.specs.declared.SignatureFit.{SignatureFit}
use Rattle.matching.specs.declared.Tolerated.{Tolerated}
use Rattle.matching.specs.Asked.{count_and_scale_match, other_gates_match}
use Rattle.matching.specs.Fit.{features_of, passes, tolerance_of}
use Rattle.matching.specs.Gates.{good_layout_fits, mss_matches, olen_matches, scale_matches}
use Rattle.matching.specs.Tolerance.{masked_quirks, quirks_fit}
use Rattle.matching.proofs.count_and_scale_match.Reads as count_and_scale_match'
use Rattle.matching.proofs.features_of.Reads as features_of'
use Rattle.matching.proofs.mask_signature_quirks.Reads as mask_signature_quirks'
use Rattle.matching.proofs.mss_matches.Reads as mss_matches'
use Rattle.matching.proofs.olayout_matches.Reads as olayout_matches'
use Rattle.matching.proofs.olen_matches.Reads as olen_matches'
use Rattle.matching.proofs.other_gates_match.Reads as other_gates_match'
use Rattle.matching.proofs.passes_gates.Reads as passes_gates'
use Rattle.matching.proofs.quirks_fit.Reads as quirks_fit'
use Rattle.matching.proofs.tolerance.Reads as tolerance'
use Rattle.matching.proofs.wscale_matches.Reads as wscale_matches'

pub olen_matches_one
    : (observed signature : ℕ)
    → ExactlyOne Bool (λ (r : Bool). olen_matches'.Post tt (observed, (signature, tt)) r (observed, (signature, tt)))
olen_matches_one observed signature = equation (olen_matches observed signature)

pub mss_matches_one
    : (observed signature : Option ℕ)
    → ExactlyOne Bool (λ (r : Bool). mss_matches'.Post tt (observed, (signature, tt)) r (observed, (signature, tt)))
mss_matches_one observed signature = equation (mss_matches observed signature)

pub wscale_matches_one
    : (observed signature : Option ℕ)
    → ExactlyOne Bool (λ (r : Bool). wscale_matches'.Post tt (observed, (signature, tt)) r (observed, (signature, tt)))
wscale_matches_one observed signature = equation (scale_matches observed signature)

pub olayout_matches_one
    : (κs : Lfts 3) (kinds bytes : Bor (List ℕ)) (count : ℕ) (entries : Bor (List ℕ)) (declared : ℕ)
    → ExactlyOne Bool
    (λ (r : Bool). olayout_matches'.Post κs (kinds, (bytes, (count, (entries, (declared, tt))))) r
    (kinds, (bytes, (count, (entries, (declared, tt))))))
olayout_matches_one κs kinds bytes count entries declared = equation (good_layout_fits count kinds.now bytes.now declared entries.now)

pub count_and_scale_match_one
    : (κs : Lfts 1) (count : ℕ) (wscale : Option ℕ) (raw : Bor (List ℕ))
    → ExactlyOne Bool (λ (r : Bool). count_and_scale_match'.Post κs (count, (wscale, (raw, tt))) r (count, (wscale, (raw, tt))))
count_and_scale_match_one κs count wscale raw = equation (count_and_scale_match count wscale raw.now)

pub other_gates_match_one
    : (κs : Lfts 1) (observed : Features) (raw : Bor (List ℕ))
    → ExactlyOne Bool (λ (r : Bool). other_gates_match'.Post κs (observed, (raw, tt)) r (observed, (raw, tt)))
other_gates_match_one κs observed raw = equation (other_gates_match observed raw.now)

pub passes_gates_one
    : (κs : Lfts 1) (observed : Features) (raw : Bor (List ℕ))
    → ExactlyOne Bool (λ (r : Bool). passes_gates'.Post κs (observed, (raw, tt)) r (observed, (raw, tt)))
passes_gates_one κs observed raw = equation (passes observed raw.now)

pub mask_signature_quirks_one
    : (quirks : QuirkSet) (signature : SigVersion) (observed : IpVersion)
    → ExactlyOne QuirkSet
    (λ (r : QuirkSet). mask_signature_quirks'.Post tt (quirks, (signature, (observed, tt))) r (quirks, (signature, (observed, tt))))
mask_signature_quirks_one quirks signature observed = equation (masked_quirks quirks signature observed)

pub quirks_fit_one
    : (observed signature : QuirkSet)
    → ExactlyOne (Option Tolerated)
    (λ (r : Option Tolerated). quirks_fit'.Post tt (observed, (signature, tt)) r (observed, (signature, tt)))
quirks_fit_one observed signature = equation (quirks_fit observed signature)

pub features_of_one
    : (observed : TcpObservation)
    → ExactlyOne Features (λ (r : Features). features_of'.Post tt (observed, tt) r (observed, tt))
features_of_one observed = equation (features_of observed)

pub tolerance_one
    : (κs : Lfts 1) (observed : Features) (raw : Bor (List ℕ))
    → ExactlyOne SignatureFit (λ (r : SignatureFit). tolerance'.Post κs (observed, (raw, tt)) r (observed, (raw, tt)))
tolerance_one κs observed raw = equation (tolerance_of observed (signature_of raw.now))
