-- Exactly one result meets each public function's own contract.
-- tools/promises makes this file from the contracts, and the gate holds it to them.
use Rattle.std.specs.Prelude.{ℕ, Bool, Option}
use Rattle.basis.specs.Unique.{ExactlyOne}
use Rattle.basis.proofs.Unique.{equation}
use Rattle.tcp.specs.declared.IpVersion.{IpVersion}
use Rattle.window_size.specs.declared.WindowMultiplier.{WindowMultiplier}
use Rattle.window_size.specs.Multiplier.{multiplier_of}
use Rattle.window_size.specs.Stamp.{stamp_may_decide}
use Rattle.window_size.proofs.detect_win_multi.Reads as detect_win_multi'
use Rattle.window_size.proofs.stamp_may_decide.Reads as stamp_may_decide'

pub stamp_may_decide_one
    : (wsize : ℕ) (mss : Option ℕ)
    → ExactlyOne Bool (λ (r : Bool). stamp_may_decide'.Post tt (wsize, (mss, tt)) r (wsize, (mss, tt)))
stamp_may_decide_one wsize mss = equation (stamp_may_decide wsize mss)

pub detect_win_multi_one
    : (wsize : ℕ) (mss : Option ℕ) (tot_hdr : ℕ) (own_timestamp_is_nonzero : Bool) (version : IpVersion) (peer_mss : Option ℕ)
    → ExactlyOne (Option WindowMultiplier)
    (λ (r : Option WindowMultiplier). detect_win_multi'.Post tt
    (wsize, (mss, (tot_hdr, (own_timestamp_is_nonzero, (version, (peer_mss, tt)))))) r
    (wsize, (mss, (tot_hdr, (own_timestamp_is_nonzero, (version, (peer_mss, tt)))))))
detect_win_multi_one wsize mss tot_hdr own_timestamp_is_nonzero version peer_mss =
    equation (multiplier_of wsize mss tot_hdr own_timestamp_is_nonzero version peer_mss)
