-- Demand 1, a line for each public function of one_option.
-- tools/promises makes this file from the contracts, and the gate holds it to them.
use Rattle.std.specs.Borrow.{Bor}
use Rattle.std.specs.Prelude.{ℕ, Bool, List, Option}
use contract.Lifetimes.{Lfts}
use Rattle.quirks.specs.declared.QuirkSet.{QuirkSet}
use Rattle.one_option.specs.Options.{step_of}
use Rattle.one_option.specs.See.{later_mss, later_quirks, later_scale}
use Rattle.one_option.specs.contracts.later_mss as later_mss'
use Rattle.one_option.specs.contracts.later_quirks as later_quirks'
use Rattle.one_option.specs.contracts.later_scale as later_scale'
use Rattle.one_option.specs.contracts.option_step as option_step'
use Rattle.one_option.proofs.later_mss.Reads as later_mss_reads
use Rattle.one_option.proofs.later_quirks.Reads as later_quirks_reads
use Rattle.one_option.proofs.later_scale.Reads as later_scale_reads
use Rattle.one_option.proofs.option_step.Reads as option_step_reads
use Rattle.acceptance.specs.Promised.{Answers}

pub record Promises : Type 0 where
  pub option_step_one
      : (κs : Lfts 1) (options : Bor (List ℕ)) (at : ℕ)
      → Answers option_step'.signature κs (option_step_reads.Pre κs) (option_step_reads.Post κs)
      (options, (at, tt)) (step_of options.now at)
  pub later_mss_one
      : (κs : Lfts 1) (kind : ℕ) (own : Bor (List ℕ)) (mss : Option ℕ)
      → Answers later_mss'.signature κs (later_mss_reads.Pre κs) (later_mss_reads.Post κs)
      (kind, (own, (mss, tt))) (later_mss mss (record { kind = kind; own = own.now }))
  pub later_scale_one
      : (κs : Lfts 1) (kind : ℕ) (own : Bor (List ℕ)) (wscale : Option ℕ)
      → Answers later_scale'.signature κs (later_scale_reads.Pre κs) (later_scale_reads.Post κs)
      (kind, (own, (wscale, tt))) (later_scale wscale (record { kind = kind; own = own.now }))
  pub later_quirks_one
      : (κs : Lfts 1) (kind : ℕ) (own : Bor (List ℕ)) (syn : Bool) (quirks : QuirkSet)
      → Answers later_quirks'.signature κs (later_quirks_reads.Pre κs) (later_quirks_reads.Post κs)
      (kind, (own, (syn, (quirks, tt)))) (later_quirks syn quirks (record { kind = kind; own = own.now }))
