-- The TTL rule on one page.
use mathlib.Core.Path.{◌≡◌, refl, ◌∙◌, ap}
use mathlib.Core.List.{[]}
use Prim.Native.Nat.{ℕ, ◌<◌}
use lib.ListN.{get_or, length}
use Rattle.ttl.specs.Table.{class_of, each_byte}
use Rattle.ttl.specs.Ttl.{guess_of, reading_of}
use Rattle.ttl.proofs.TableLaws as laws
use Rattle.sigrecord.specs.Record.{ttl_of}
use Rattle.acceptance.specs.TtlTable.{TtlTable}

row : (rule : ℕ → ℕ) (k : ℕ) → k < 32 → length (get_or (each_byte rule) k []) ≡ 8
row rule k h = ap length (laws.row rule k h) ∙ laws.eight rule k

read_off : (t : ℕ) → ttl_of (class_of t) t (guess_of t) ≡ reading_of t
unfolding ttl_of
read_off = laws.by_class ttl_of (λ t guess. refl) (λ t guess. refl) (λ t guess. refl)

pub ttl_table_lem : TtlTable
ttl_table_lem = record { entry = laws.entry; rows = laws.thirty_two; row = row; read_off = read_off }
