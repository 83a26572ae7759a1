-- The fields of a good record's line mean its bytes.
use Prim.Native.Nat.{ℕ, zero, suc, ◌+◌, ◌^◌, ◌<◌}
use mathlib.Core.Path.{◌≡◌, refl}
use mathlib.Core.Bool.{Bool, true, ◌&&◌}
use mathlib.Core.List.{List}
use native.Mathlib.Omega.{arith}
use Rattle.basis.specs.Bytes.{byte_at, AllBytes, be16, be32}
use Rattle.basis.proofs.Tests.{and_left, and_right}
use Rattle.quirks.specs.Named.{display_order}
use Rattle.quirks.specs.Quirks.{set_of}
use Rattle.sigrecord.specs.Record.{signature_of}
use Rattle.sigrecord.specs.WellFormed.{version_good, ttl_good, presence_good, window_good, payload_good, quirks_good, scalars_good}
use Rattle.grammar.specs.Table.{Said, said}
use Rattle.signature_line.specs.Meaning.{Fields, union_from, raw_of}
use Rattle.signature_line.proofs.FieldsGood.{◌then◌}
use Rattle.written_line.specs.Numbers.{SignatureHeld}
use Rattle.written_line.specs.Signature.{entries_said, chosen, fields_of}
use Rattle.written_line.proofs.QuirkRow.{chosen_all}
use Rattle.written_line.proofs.RecordSaid.{version_said_lem, form_said_lem, byte_said_lem, mss_said_lem, window_said_lem, scale_said_lem}
use Rattle.written_line.proofs.RecordSaid.{payload_said_lem}
use Rattle.written_line.proofs.RecordSaid.{ttl_held, mss_held, window_held, scale_held}

-- What holds at every place below a bound, place by place.
abbrev EachBelow : (ℕ → Type 0) → ℕ → Type 0
EachBelow P zero = Unit
EachBelow P (suc n) = P zero × EachBelow (λ (k : ℕ). P (suc k)) n

at_each : (P : ℕ → Type 0) (n : ℕ) → EachBelow P n → (k : ℕ) → k < n → P k
at_each P zero all k h = absurd (omega arith)
at_each P (suc n) all zero h = all.0
at_each P (suc n) all (suc k) h = at_each (λ (j : ℕ). P (suc j)) n all.1 k (omega arith)

-- ---- what a good record holds

pub record Scalars (r : List ℕ) : Type 0 where
  pub version : version_good (byte_at r 0) ≡ true
  pub ttl : ttl_good (byte_at r 1) (byte_at r 3) ≡ true
  pub mss : presence_good (byte_at r 5) (be16 r 6) ≡ true
  pub window : window_good (byte_at r 8) (be16 r 9) ≡ true
  pub scale : presence_good (byte_at r 11) (byte_at r 12) ≡ true
  pub payload : payload_good (byte_at r 13) ≡ true
  pub quirks : quirks_good (be32 r 14) ≡ true

pub both : (a b : Bool) → a && b ≡ true → (a ≡ true) × (b ≡ true)
both a b e = (and_left a b e, and_right a b e)

pub scalars_of : (r : List ℕ) → scalars_good r ≡ true → Scalars r
unfolding scalars_good
scalars_of r g =
    let quirks = both _ _ (and_left _ _ g) in
    let payload = both _ _ quirks.0 in
    let scale = both _ _ payload.0 in
    let window = both _ _ scale.0 in
    let mss = both _ _ window.0 in
    let ttl = both _ _ mss.0 in
    record {
      version = ttl.0;
      ttl = ttl.1;
      mss = mss.1;
      window = window.1;
      scale = scale.1;
      payload = payload.1;
      quirks = quirks.1;
    }

-- ---- a record and its entries, given

two_small : (r : List ℕ) → AllBytes r → (k : ℕ) → be16 r k < 65536
unfolding be16
two_small r all k = omega (arith, all k, all (k + 1))

four_small : (r : List ℕ) → AllBytes r → (k : ℕ) → be32 r k < 2 ^ 32
unfolding be32
four_small r all k = omega (arith, two_small r all k, two_small r all (k + 2))

pub record_held : (r : List ℕ) → AllBytes r → SignatureHeld (signature_of r)
unfolding signature_of
record_held r all =
    record {
      ittl = ttl_held (byte_at r 1) (byte_at r 2) (byte_at r 3) (all 2) (all 3);
      olen = all 4;
      mss = mss_held (byte_at r 5) (be16 r 6) (two_small r all 6);
      wsize = window_held (byte_at r 8) (be16 r 9) (two_small r all 9);
      wscale = scale_held (byte_at r 11) (byte_at r 12) (all 12);
    }

module _ (r e : List ℕ) (all : AllBytes r) (s : Scalars r) where
  -- Its codes and numbers as they stand.
  abbrev named : List Said
  named = chosen (set_of (be32 r 14)) display_order

  codes : Fields
  codes =
      record {
        version = said (byte_at r 0) 0;
        ttl = said 0 (byte_at r 2);
        ttl_form = said (byte_at r 1) (byte_at r 3);
        olen = said 0 (byte_at r 4);
        mss = said (byte_at r 5) (be16 r 6);
        window = said (byte_at r 8) (be16 r 9);
        scale = said (byte_at r 11) (byte_at r 12);
        layout = entries_said e;
        quirks = named;
        payload = said (byte_at r 13) 0;
      }

  same_fields : fields_of (signature_of r) e ≡ codes
  unfolding fields_of signature_of codes
  same_fields =
      rw (
        version_said_lem (byte_at r 0) s.version,
        form_said_lem (byte_at r 1) (byte_at r 2) (byte_at r 3) s.ttl,
        byte_said_lem (byte_at r 1) (byte_at r 2) (byte_at r 3),
        mss_said_lem (byte_at r 5) (be16 r 6) s.mss,
        window_said_lem (byte_at r 8) (be16 r 9) s.window,
        scale_said_lem (byte_at r 11) (byte_at r 12) s.scale,
        payload_said_lem (byte_at r 13) s.payload,
      )

  all_quirks : union_from 0 named ≡ be32 r 14
  all_quirks = chosen_all (set_of (be32 r 14)) (four_small r all 14) s.quirks

  code_bytes : EachBelow (λ (k : ℕ). byte_at (raw_of codes) k ≡ byte_at r k) 18
  unfolding raw_of codes be16 be32
  code_bytes =
      refl
      then refl
      then refl
      then refl
      then refl
      then refl
      then omega (arith, all 7)
      then omega (arith, all 7)
      then refl
      then omega (arith, all 10)
      then omega (arith, all 10)
      then refl
      then refl
      then refl
      then omega (arith, all_quirks, all 15, all 16, all 17)
      then omega (arith, all_quirks, all 15, all 16, all 17)
      then omega (arith, all_quirks, all 15, all 16, all 17)
      then omega (arith, all_quirks, all 15, all 16, all 17)
      then tt

  -- Bytes 0 to 17 are the record's.
  pub same_bytes : (k : ℕ) → k < 18 → byte_at (raw_of (fields_of (signature_of r) e)) k ≡ byte_at r k
  same_bytes k h = rw same_fields (at_each (λ (j : ℕ). byte_at (raw_of codes) j ≡ byte_at r j) 18 code_bytes k h)
