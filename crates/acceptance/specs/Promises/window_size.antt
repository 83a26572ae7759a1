-- Demand 1, a line for each public function of window_size.
-- tools/promises makes this file from the contracts, and the gate holds it to them.
use Rattle.std.specs.Prelude.{ℕ, Bool, Option}
use Rattle.tcp.specs.declared.IpVersion.{IpVersion}
use Rattle.window_size.specs.Multiplier.{multiplier_of}
use Rattle.window_size.specs.Stamp.{stamp_may_decide}
use Rattle.window_size.specs.contracts.detect_win_multi as detect_win_multi'
use Rattle.window_size.specs.contracts.stamp_may_decide as stamp_may_decide'
use Rattle.window_size.proofs.detect_win_multi.Reads as detect_win_multi_reads
use Rattle.window_size.proofs.stamp_may_decide.Reads as stamp_may_decide_reads
use Rattle.acceptance.specs.Promised.{Answers}

pub record Promises : Type 0 where
  pub stamp_may_decide_one
      : (wsize : ℕ) (mss : Option ℕ)
      → Answers stamp_may_decide'.signature tt (stamp_may_decide_reads.Pre tt) (stamp_may_decide_reads.Post tt)
      (wsize, (mss, tt)) (stamp_may_decide wsize mss)
  pub detect_win_multi_one
      : (wsize : ℕ) (mss : Option ℕ) (tot_hdr : ℕ) (own_timestamp_is_nonzero : Bool) (version : IpVersion) (peer_mss : Option ℕ)
      → Answers detect_win_multi'.signature tt (detect_win_multi_reads.Pre tt) (detect_win_multi_reads.Post tt)
      (wsize, (mss, (tot_hdr, (own_timestamp_is_nonzero, (version, (peer_mss, tt))))))
      (multiplier_of wsize mss tot_hdr own_timestamp_is_nonzero version peer_mss)
