-- Exactly one result meets each public function's own contract.
-- tools/promises makes this file from the contracts, and the gate holds it to them.
use Rattle.std.specs.Borrow.{Bor}
use Rattle.std.specs.Prelude.{ℕ, Bool, List, Option}
use contract.Lifetimes.{Lfts}
use Rattle.basis.specs.Unique.{ExactlyOne}
use Rattle.basis.proofs.Unique.{equation}
use Rattle.quirks.specs.declared.QuirkSet.{QuirkSet}
use Rattle.one_option.specs.declared.OptionStep.{OptionStep}
use Rattle.one_option.specs.Options.{step_of}
use Rattle.one_option.specs.See.{later_mss, later_quirks, later_scale}
use Rattle.one_option.proofs.later_mss.Reads as later_mss'
use Rattle.one_option.proofs.later_quirks.Reads as later_quirks'
use Rattle.one_option.proofs.later_scale.Reads as later_scale'
use Rattle.one_option.proofs.option_step.Reads as option_step'

pub option_step_one
    : (κs : Lfts 1) (options : Bor (List ℕ)) (at : ℕ)
    → ExactlyOne OptionStep (λ (r : OptionStep). option_step'.Post κs (options, (at, tt)) r (options, (at, tt)))
option_step_one κs options at = equation (step_of options.now at)

pub later_mss_one
    : (κs : Lfts 1) (kind : ℕ) (own : Bor (List ℕ)) (mss : Option ℕ)
    → ExactlyOne (Option ℕ) (λ (r : Option ℕ). later_mss'.Post κs (kind, (own, (mss, tt))) r (kind, (own, (mss, tt))))
later_mss_one κs kind own mss = equation (later_mss mss (record { kind = kind; own = own.now }))

pub later_scale_one
    : (κs : Lfts 1) (kind : ℕ) (own : Bor (List ℕ)) (wscale : Option ℕ)
    → ExactlyOne (Option ℕ) (λ (r : Option ℕ). later_scale'.Post κs (kind, (own, (wscale, tt))) r (kind, (own, (wscale, tt))))
later_scale_one κs kind own wscale = equation (later_scale wscale (record { kind = kind; own = own.now }))

pub later_quirks_one
    : (κs : Lfts 1) (kind : ℕ) (own : Bor (List ℕ)) (syn : Bool) (quirks : QuirkSet)
    → ExactlyOne QuirkSet (λ (r : QuirkSet). later_quirks'.Post κs (kind, (own, (syn, (quirks, tt)))) r (kind, (own, (syn, (quirks, tt)))))
later_quirks_one κs kind own syn quirks = equation (later_quirks syn quirks (record { kind = kind; own = own.now }))
