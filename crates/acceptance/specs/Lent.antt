-- "Lent input is never written": which of a function's parameters something can be written through, read off the signature that the
-- kit generates for the function and holds to its code. That what is lent by `&` is not written is what the kit means by it.
use Rattle.std.specs.Prelude.{Bool, true, false, ◌&&◌, cond, List, [], ◌∷◌, ℕ, suc}
use contract.Lifetimes.{Lfts}
use Rattle.std.specs.Borrow.{RattleType}
use denote.Signature.{Signature, types_at}
use mir.Syntax.{Ty, Tys, Tyss, ty_int, ty_bool, ty_float, ty_ptr, ty_ref, ty_array, ty_unit, ty_struct, ty_enum}
use mir.Syntax.{ty_param, ty_const, ty_array_p, ty_named, tnil, tcons, ttnil, ttcons}
use mir.Syntax.{imm, mut}

-- Nothing can be written through a value of the type: it holds no `&mut`, and no pointer of which nothing is said.
abbrev mutual
  pub read_only : Ty → Bool
  read_only (ty_int w) = true
  read_only ty_bool = true
  read_only (ty_float f) = true
  read_only ty_ptr = false
  read_only (ty_ref l imm t) = read_only t
  read_only (ty_ref l mut t) = false
  read_only (ty_array t n) = read_only t
  read_only ty_unit = true
  read_only (ty_struct s ts) = all_read_only ts
  read_only (ty_enum s tss) = every_read_only tss
  read_only (ty_param n) = false
  read_only (ty_const n) = false
  read_only (ty_array_p t n) = false
  read_only (ty_named h ts) = false

  pub all_read_only : Tys → Bool
  all_read_only tnil = true
  all_read_only (tcons t ts) = read_only t && all_read_only ts

  pub every_read_only : Tyss → Bool
  every_read_only ttnil = true
  every_read_only (ttcons ts tss) = all_read_only ts && every_read_only tss

abbrev pub row_read_only : List Ty → Bool
row_read_only [] = true
row_read_only (t ∷ ts) = read_only t && row_read_only ts

abbrev pub writable_from : ℕ → List RattleType → List ℕ
writable_from i [] = []
writable_from i (p ∷ ps) = cond (row_read_only p.mir) (writable_from (suc i) ps) (i ∷ writable_from (suc i) ps)

-- The parameters, counted from 0, through which something can be written.
abbrev pub writable : (s : Signature) → Lfts s.lifetimes → List ℕ
writable s κs = writable_from 0 (types_at s.params κs)
