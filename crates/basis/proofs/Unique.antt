-- A promise that is one equation is met by exactly one value; and so is one of two equations, by one pair, and one of what a part holds.
use mathlib.Core.Path.{◌≡◌, refl, ap₂}
use mathlib.Core.List.{List}
use Prim.Native.Nat.{ℕ}
use denote.Ref.{Bor}
use Rattle.basis.specs.Unique.{ExactlyOne}

pub equation : {A : Type 0} (d : A) → ExactlyOne A (λ (r : A). r ≡ d)
equation d = record { the = d; meets = refl; only = λ a p. p }

-- A result, and the bytes that a lent buffer is left with.
pub both : {A B : Type 0} (d : A) (e : B) → ExactlyOne (A × B) (λ (r : A × B). (r.0 ≡ d) × (r.1 ≡ e))
both {A = A} {B = B} d e =
    record { the = (d, e); meets = (refl, refl); only = λ r h. ap₂ (λ (a : A) (b : B). (a, b)) h.0 h.1 }

-- Of a part of what is lent its bytes are said: exactly one row of bytes, lent from wherever, meets that. Some part there must be.
pub part
    : (lent : Bor (List ℕ)) (d : List ℕ) → ExactlyOne (List ℕ) (λ (v : List ℕ). (r : Bor (List ℕ)) → r.now ≡ v → r.now ≡ d)
part lent d =
    record {
      the = d;
      meets = λ r e. e;
      only = λ v meets. meets (record { ref_ptr = lent.ref_ptr; now = v }) refl;
    }
