-- Demand 1, a line for each public function of syn_options.
-- tools/promises makes this file from the contracts, and the gate holds it to them.
use Rattle.std.specs.Borrow.{Bor}
use Rattle.std.specs.Prelude.{ℕ, Bool, List}
use contract.Lifetimes.{Lfts}
use Rattle.quirks.specs.declared.QuirkSet.{QuirkSet}
use Rattle.syn_options.specs.declared.StopBefore.{StopBefore}
use Rattle.syn_options.specs.Stops.{read_options, walk_options}
use Rattle.syn_options.specs.Walk.{parse_options_raw}
use Rattle.syn_options.specs.contracts.parse_options_raw as parse_options_raw'
use Rattle.syn_options.specs.contracts.read_options as read_options'
use Rattle.syn_options.specs.contracts.walk_options as walk_options'
use Rattle.syn_options.proofs.parse_options_raw.Reads as parse_options_raw_reads
use Rattle.syn_options.proofs.read_options.Reads as read_options_reads
use Rattle.syn_options.proofs.walk_options.Reads as walk_options_reads
use Rattle.acceptance.specs.Promised.{Answers}

pub record Promises : Type 0 where
  pub walk_options_one
      : (κs : Lfts 1) (options : Bor (List ℕ)) (stop : StopBefore) (syn : Bool) (quirks : QuirkSet)
      → Answers walk_options'.signature κs (walk_options_reads.Pre κs) (walk_options_reads.Post κs)
      (options, (stop, (syn, (quirks, tt)))) (walk_options stop syn quirks options.now)
  pub read_options_one
      : (κs : Lfts 1) (buf : Bor (List ℕ)) (stop : StopBefore) (syn : Bool) (quirks : QuirkSet)
      → Answers read_options'.signature κs (read_options_reads.Pre κs) (read_options_reads.Post κs)
      (buf, (stop, (syn, (quirks, tt)))) (read_options stop syn quirks buf.now)
  pub parse_options_raw_one
      : (κs : Lfts 1) (buf : Bor (List ℕ))
      → Answers parse_options_raw'.signature κs (parse_options_raw_reads.Pre κs) (parse_options_raw_reads.Post κs)
      (buf, tt) (parse_options_raw buf.now)
