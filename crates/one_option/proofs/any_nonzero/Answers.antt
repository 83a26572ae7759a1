-- `one_option::any_nonzero` meets its contract.
use Rattle.std.proofs.Common.{refl, not, ◌||◌, ◌∙◌, rules, tests}
use Rattle.std.proofs.lemmas.Iterator.{YieldsList-from_slice}
use Rattle.std.proofs.lemmas.Iterator.Search.{any_from_yields_List}
use Rattle.std.proofs.lemmas.List.Recursion.{same_from_clauses}
use lib.Dec.{eqb}
use Rattle.std.specs.List.{list_any}
use Rattle.basis.specs.Bytes.{any_nonzero}
use Rattle.one_option.proofs.any_nonzero.Goals as goal

pub returns : goal.returns
unfolding any_nonzero
returns c =
    let s = c.args.s.now in
    any_from_yields_List (λ b. not (eqb b 0)) _ _ _ c.any.ensures.ran (YieldsList-from_slice s cc)
    (λ x b q k. search (rules, tests))
    ∙ same_from_clauses (list_any (λ b. not (eqb b 0))) any_nonzero (λ b rest. not (eqb b 0) || rest) refl (λ _ _. refl) (λ _ _. refl) s
