-- Exactly one value meets a promise (document 01, "What acceptance reads").
use Rattle.std.specs.Prelude.{◌≡◌}

pub record ExactlyOne (A : Type 0) (P : A → Type 0) : Type 0 where
  pub the : A
  pub meets : P the
  pub only : (a : A) → P a → a ≡ the
