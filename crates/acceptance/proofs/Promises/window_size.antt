-- The lines of window_size, by its uniqueness theorems.
-- tools/promises makes this file from the contracts, and the gate holds it to them.
use Rattle.std.specs.Prelude.{refl}
use Rattle.window_size.proofs.Unique as unique
use Rattle.acceptance.specs.Promises.window_size.{Promises}
use Rattle.acceptance.proofs.Promised.{answered}

pub promises : Promises
promises =
    record {
      stamp_may_decide_one = λ wsize mss. answered tt (unique.stamp_may_decide_one wsize mss) (λ m. m) refl;
      detect_win_multi_one =
          λ wsize mss tot_hdr own_timestamp_is_nonzero version peer_mss. answered tt
          (unique.detect_win_multi_one wsize mss tot_hdr own_timestamp_is_nonzero version peer_mss) (λ m. m) refl;
    }
