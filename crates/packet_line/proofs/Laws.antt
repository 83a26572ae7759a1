-- What stands in the buffer of a raw line.
use Rattle.std.specs.Prelude.{Result, Ok, Err}
use Prim.Native.Nat.{ℕ, ◌-◌, ◌≤◌}
use mathlib.Core.Path.{◌≡◌}
use mathlib.Core.List.{List, []}
use lib.ListN.{length, take}
use Rattle.text.specs.Written.{Writes}
use Rattle.refusals.specs.declared.Refusal.{Refusal}
use Rattle.observable.specs.declared.TcpObservation.{TcpObservation}
use Rattle.written_line.specs.Writing.{observation_line}
use Rattle.written_line.proofs.OwnBuffer.{observation_sized, line_within, the_line, no_line}
use Rattle.packet_line.specs.PacketLine.{seen_text}

module _
    (o : TcpObservation) (b b' : List ℕ) (r : Result ℕ Refusal) (whole : length b ≡ 432) (writes : Writes b (observation_line o) r b')
  where
    pub seen_within : (n : ℕ) → r ≡ Ok n → n ≤ length b'
    seen_within = line_within (observation_line o) 432 (observation_sized o 432) b b' r whole writes

    pub seen_line_lem : (n : ℕ) → r ≡ Ok n → take (n - 0) b' ≡ seen_text o
    unfolding seen_text
    seen_line_lem = the_line (observation_line o) 432 (observation_sized o 432) b b' r whole writes

    pub none_seen : (x : Refusal) → r ≡ Err x → seen_text o ≡ []
    unfolding seen_text
    none_seen = no_line (observation_line o) 432 (observation_sized o 432) b b' r whole writes
