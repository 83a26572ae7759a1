-- `ttl::ttl_guesses` meets its contract: one test of all 256 entries, which is computed.
use mathlib.Core.Path.{refl}
use Rattle.ttl.specs.Table.{in_turn, row_of, each_byte}
use Rattle.ttl.specs.Ttl.{initial_of, guess_of}
use Rattle.ttl.proofs.ttl_guesses.Goals as goal

pub returns : goal.returns
unfolding each_byte row_of in_turn guess_of initial_of
returns c = refl
