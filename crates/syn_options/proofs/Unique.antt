-- Exactly one result meets each public function's own contract.
-- tools/promises makes this file from the contracts, and the gate holds it to them.
use Rattle.std.specs.Borrow.{Bor}
use Rattle.std.specs.Prelude.{ℕ, Bool, List, Result}
use contract.Lifetimes.{Lfts}
use Rattle.basis.specs.Unique.{ExactlyOne}
use Rattle.basis.proofs.Unique.{equation}
use Rattle.refusals.specs.declared.OptionsTooLong.{OptionsTooLong}
use Rattle.quirks.specs.declared.QuirkSet.{QuirkSet}
use Rattle.syn_options.specs.declared.OptionWalk.{OptionWalk}
use Rattle.syn_options.specs.declared.ParsedTcpOptions.{ParsedTcpOptions}
use Rattle.syn_options.specs.declared.StopBefore.{StopBefore}
use Rattle.syn_options.specs.Stops.{read_options, walk_options}
use Rattle.syn_options.specs.Walk.{parse_options_raw}
use Rattle.syn_options.proofs.parse_options_raw.Reads as parse_options_raw'
use Rattle.syn_options.proofs.read_options.Reads as read_options'
use Rattle.syn_options.proofs.walk_options.Reads as walk_options'

pub walk_options_one
    : (κs : Lfts 1) (options : Bor (List ℕ)) (stop : StopBefore) (syn : Bool) (quirks : QuirkSet)
    → ExactlyOne OptionWalk
    (λ (r : OptionWalk). walk_options'.Post κs (options, (stop, (syn, (quirks, tt)))) r (options, (stop, (syn, (quirks, tt)))))
walk_options_one κs options stop syn quirks = equation (walk_options stop syn quirks options.now)

pub read_options_one
    : (κs : Lfts 1) (buf : Bor (List ℕ)) (stop : StopBefore) (syn : Bool) (quirks : QuirkSet)
    → ExactlyOne (Result OptionWalk OptionsTooLong)
    (λ (r : Result OptionWalk OptionsTooLong). read_options'.Post κs (buf, (stop, (syn, (quirks, tt)))) r
    (buf, (stop, (syn, (quirks, tt)))))
read_options_one κs buf stop syn quirks = equation (read_options stop syn quirks buf.now)

pub parse_options_raw_one
    : (κs : Lfts 1) (buf : Bor (List ℕ))
    → ExactlyOne (Result ParsedTcpOptions OptionsTooLong)
    (λ (r : Result ParsedTcpOptions OptionsTooLong). parse_options_raw'.Post κs (buf, tt) r (buf, tt))
parse_options_raw_one κs buf = equation (parse_options_raw buf.now)
