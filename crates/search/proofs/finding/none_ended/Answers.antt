-- `search::none_ended` meets its contract.
use Rattle.found.proofs.Examined.{all_examined, unranked_none, answers}
use native.Mathlib.Omega.{arith}
use mathlib.Core.Path.{refl, sym, ◌∙◌}
use Rattle.search.proofs.finding.none_ended.Goals as goal

pub returns-then-best-eq-UNRANKED : goal.returns-then-best-eq-UNRANKED
returns-then-best-eq-UNRANKED c = c.none_of.ensures ∙ answers _ _ _ _ (unranked_none _ (sym c.requires.0 ∙ c.if-best-eq-UNRANKED.true)) refl

pub returns : goal.returns
returns c =
    let a = c.args in
    answers _ _ _ _ refl (sym (all_examined a.size a.held (omega (arith, c.requires.0, c.requires.1))))
