-- `one_option::option_step` meets its contract.
use mathlib.Core.Path.{◌≡◌, sym, ◌∙◌}
use Rattle.basis.specs.Bytes.{byte_at}
use Rattle.one_option.proofs.Options.{inside_nonzero, last_step, nop_step, sound_step, short_step, past_step}
use Rattle.one_option.proofs.option_step.Goals as goal

pub returns-then-kind-eq-EOL : goal.returns-then-kind-eq-EOL
returns-then-kind-eq-EOL c =
    let a = c.args in
    let kind = c.byte_at-kind in
    c.sound_step.ensures
    ∙ last_step a.options.now a.at kind.result c.if-kind-eq-EOL.true (sym kind.ensures ∙ c.if-kind-eq-EOL.true)

pub returns-then-kind-eq-NOP : goal.returns-then-kind-eq-NOP
returns-then-kind-eq-NOP c =
    let a = c.args in
    let kind = c.byte_at-kind in
    let some : byte_at a.options.now a.at ≡ 0 → ⊥ = λ e. c.if-kind-eq-EOL.false (kind.ensures ∙ e) in
    rw (c.sound_step-then-kind-eq-NOP.ensures, kind.ensures)
    (nop_step a.options.now a.at (inside_nonzero a.options.now a.at some)
    (sym kind.ensures ∙ c.if-kind-eq-NOP.true))

pub returns-then-length-end : goal.returns-then-length-end
returns-then-length-end c =
    let a = c.args in
    let kind = c.byte_at-kind in
    let some : byte_at a.options.now a.at ≡ 0 → ⊥ = λ e. c.if-kind-eq-EOL.false (kind.ensures ∙ e) in
    let other : byte_at a.options.now a.at ≡ 1 → ⊥ = λ e. c.if-kind-eq-NOP.false (kind.ensures ∙ e) in
    rw (c.sound_step-then-length-end.ensures, kind.ensures, c.byte_at-length.ensures)
    (sound_step a.options.now a.at (inside_nonzero a.options.now a.at some) some other
    (rw (← c.byte_at-length.ensures) c.if-length-end.true))

pub returns-then-start-all : goal.returns-then-start-all
returns-then-start-all c =
    let a = c.args in
    let kind = c.byte_at-kind in
    let some : byte_at a.options.now a.at ≡ 0 → ⊥ = λ e. c.if-kind-eq-EOL.false (kind.ensures ∙ e) in
    let other : byte_at a.options.now a.at ≡ 1 → ⊥ = λ e. c.if-kind-eq-NOP.false (kind.ensures ∙ e) in
    rw kind.ensures
    (short_step a.options.now a.at (inside_nonzero a.options.now a.at some) some other
    (rw (← c.byte_at-length.ensures) c.if-start-all.true))

pub returns : goal.returns
returns c =
    let a = c.args in
    let kind = c.byte_at-kind in
    let some : byte_at a.options.now a.at ≡ 0 → ⊥ = λ e. c.if-kind-eq-EOL.false (kind.ensures ∙ e) in
    let other : byte_at a.options.now a.at ≡ 1 → ⊥ = λ e. c.if-kind-eq-NOP.false (kind.ensures ∙ e) in
    rw (c.past_step.ensures, kind.ensures)
    (past_step a.options.now a.at (inside_nonzero a.options.now a.at some) some other
    (rw (← c.byte_at-length.ensures) c.if-length-end.false) (rw (← c.byte_at-length.ensures) c.if-start-all.false))
