-- The fields of a line one after the other, each where the one before it ended and its separator stands.
use Rattle.std.specs.Prelude.{ℕ, ◌/◌, ◌%◌, List, [], ◌∷◌, Result, Ok}
use Rattle.signature_line.specs.declared.BadLine.{BadLine}
use Rattle.signature_line.specs.Line.{colon, comma}
use Rattle.signature_line.specs.Words.{version, bare_byte, mss, window, scale, payload}
use Rattle.numerals.specs.declared.Piece.{Piece}
use Rattle.numerals.specs.Pieces.{and_then}
use Rattle.one_field.specs.declared.TtlPiece.{TtlPiece}
use Rattle.one_field.specs.Places.{next_at, field_at, ttl_field_at}
use Rattle.parse_tcp.specs.declared.layout.LayoutPiece.{LayoutPiece}
use Rattle.parse_tcp.specs.declared.quirk_set.QuirksPiece.{QuirksPiece}
use Rattle.parse_tcp.specs.declared.LineFields.{LineFields}
use Rattle.parse_tcp.specs.RowPieces.{layout_at, quirks_at}

-- Where the last field ended, and what each says.
abbrev pub fields_by
    : Piece → TtlPiece → Piece → Piece → Piece → Piece → LayoutPiece → QuirksPiece → Piece → LineFields
fields_by version ttl olen mss window scale layout quirks payload =
    record {
      at = payload.at;
      version = version.form;
      ttl_form = ttl.form;
      ttl = ttl.ttl;
      distance = ttl.distance;
      olen = olen.number;
      mss_form = mss.form;
      mss = mss.number;
      wsize_form = window.form;
      wsize = window.number;
      wscale_form = scale.form;
      wscale = scale.number;
      pclass = payload.form;
      quirks = quirks.bits;
      layout = layout.layout;
    }

unfoldable pub line_fields : List ℕ → Result LineFields BadLine
line_fields s =
    and_then (field_at version s (Ok 0)) (λ v.
    and_then (ttl_field_at s (next_at colon s (Ok v.at))) (λ t.
    and_then (field_at bare_byte s (next_at colon s (Ok t.at))) (λ o.
    and_then (field_at mss s (next_at colon s (Ok o.at))) (λ m.
    and_then (field_at window s (next_at colon s (Ok m.at))) (λ w.
    and_then (field_at scale s (next_at comma s (Ok w.at))) (λ k.
    and_then (next_at colon s (Ok k.at)) (λ i. and_then (layout_at s i) (λ l.
    and_then (next_at colon s (Ok l.at)) (λ i. and_then (quirks_at s i) (λ q.
    and_then (field_at payload s (next_at colon s (Ok q.at))) (λ p.
    Ok (fields_by v t o m w k l q p))))))))))))

-- The record, each number in the bytes that it has there.
unfoldable pub record_bytes : LineFields → List ℕ
record_bytes f =
    f.version % 256
    ∷ f.ttl_form % 256
    ∷ f.ttl % 256
    ∷ f.distance % 256
    ∷ f.olen % 256
    ∷ f.mss_form % 256
    ∷ f.mss / 256 % 256
    ∷ f.mss % 256
    ∷ f.wsize_form % 256
    ∷ f.wsize / 256 % 256
    ∷ f.wsize % 256
    ∷ f.wscale_form % 256
    ∷ f.wscale % 256
    ∷ f.pclass % 256
    ∷ f.quirks / 16777216 % 256
    ∷ f.quirks / 65536 % 256
    ∷ f.quirks / 256 % 256
    ∷ f.quirks % 256
    ∷ 0
    ∷ 0
    ∷ f.layout.count % 256
    ∷ 0
    ∷ 0
    ∷ 0
    ∷ []
