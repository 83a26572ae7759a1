-- The whole line: what is read field by field is what is made of the reading of the line, and the answer is read off it.
use Prim.Native.Nat.{ℕ, ◌+◌, ◌/◌, ◌<◌, ◌≤◌}
use mathlib.Core.Path.{◌≡◌, refl, sym, ◌∙◌, ap}
use mathlib.Core.Bool.{true}
use mathlib.Core.List.{List}
use native.Mathlib.Omega.{arith}
use lib.ListN.{length, drop}
use borrow.Author.Tests.{eq-eqb, ne_eqb}
use Rattle.std.specs.Prelude.{Result, Ok, Err}
use Rattle.basis.specs.Bytes.{byte_at}
use Rattle.grammar.specs.Reading.{Read, then_read}
use Rattle.grammar.specs.States.{table_read}
use Rattle.grammar.specs.Table.{Said, Row}
use Rattle.signature_line.specs.declared.BadLine.{BadLine}
use Rattle.signature_line.specs.Line.{colon, comma, Parts, fields, longest}
use Rattle.signature_line.specs.Answer.{read_of, bad_at}
use Rattle.signature_line.specs.LineReader.{ttl_read, layout_read, quirks_read, after_scale_read, after_olen_read}
use Rattle.signature_line.specs.LineReader.{parts_read, fields_read, read_as, read_line}
use Rattle.signature_line.specs.Meaning.{Fields, raw_of, layout_of, union_from, meaning_of}
use Rattle.signature_line.specs.Words.{version, bare_byte, ttl_form, mss, window, scale, payload}
use Rattle.signature_line.proofs.Accepted.{accepted, short}
use Rattle.signature_line.proofs.WellFormed.{well_formed}
use Rattle.numerals.specs.Pieces.{piece_said, made, and_then, state_at}
use Rattle.numerals.specs.declared.Piece.{Piece}
use Rattle.numerals.proofs.Made.{made_Ok, made_Err, made_map, then_same}
use Rattle.one_field.specs.declared.TtlPiece.{TtlPiece}
use Rattle.one_field.specs.Places.{behind_at, piece_at, field_at, ttl_at, ttl_field_at}
use Rattle.parse_tcp.specs.declared.LineFields.{LineFields}
use Rattle.parse_tcp.specs.LineParts.{fields_by, line_fields, record_bytes}
use Rattle.parse_tcp.specs.RowPieces.{layout_said, layout_at, quirks_said, quirks_at}
use Rattle.parse_tcp.proofs.Chain.{join_made, then_made}
use Rattle.parse_tcp.proofs.LayoutLaws.{small}

-- ---- field by field

abbrev ttl_said : ℕ → Said × Said → TtlPiece
ttl_said at v = record { at = at; ttl = v.0.number; form = v.1.form; distance = v.1.number }

ttl_made : (s : List ℕ) (at : ℕ) → made ttl_said at (ttl_read (drop at s)) ≡ ttl_at s at
unfolding ttl_read ttl_at state_at
ttl_made s at =
    join_made (table_read bare_byte) piece_said ttl_said s at _ (table_read ttl_form)
    (λ i v. made_map piece_said _ i (table_read ttl_form (drop i s)) _ (λ n u. refl))

abbrev line_said : ℕ → Parts → LineFields
line_said at p =
    let f = fields p in
    fields_by (piece_said at f.version) (ttl_said at (f.ttl, f.ttl_form)) (piece_said at f.olen) (piece_said at f.mss)
    (piece_said at f.window) (piece_said at f.scale) (layout_said at f.layout) (quirks_said 0 at f.quirks) (piece_said at f.payload)

-- What is read behind the version, the TTL, the MSS, the window and the layout.
abbrev After2 : Type 0
After2 = Said × (Said × (Said × (Said × (List Said × (List Said × Said)))))

abbrev after_ttl_read : List ℕ → Read After2
after_ttl_read = then_read (table_read bare_byte) colon after_olen_read

abbrev after_version_read : List ℕ → Read ((Said × Said) × After2)
after_version_read = then_read ttl_read colon after_ttl_read

abbrev after_window_read : List ℕ → Read (Said × (List Said × (List Said × Said)))
after_window_read = then_read (table_read scale) colon after_scale_read

abbrev after_mss_read : List ℕ → Read (Said × (Said × (List Said × (List Said × Said))))
after_mss_read = then_read (table_read window) comma after_window_read

abbrev after_layout_read : List ℕ → Read (List Said × Said)
after_layout_read = then_read quirks_read colon (table_read payload)

-- The fields with each place and what is read there apart.
abbrev fields_apart : List ℕ → Result LineFields BadLine
fields_apart s =
    and_then (piece_at version s 0) (λ v.
    and_then (behind_at colon s v.at) (λ i. and_then (ttl_at s i) (λ t.
    and_then (behind_at colon s t.at) (λ i. and_then (piece_at bare_byte s i) (λ o.
    and_then (behind_at colon s o.at) (λ i. and_then (piece_at mss s i) (λ m.
    and_then (behind_at colon s m.at) (λ i. and_then (piece_at window s i) (λ w.
    and_then (behind_at comma s w.at) (λ i. and_then (piece_at scale s i) (λ k.
    and_then (behind_at colon s k.at) (λ i. and_then (layout_at s i) (λ l.
    and_then (behind_at colon s l.at) (λ i. and_then (quirks_at s i) (λ q.
    and_then (behind_at colon s q.at) (λ i. and_then (piece_at payload s i) (λ p.
    Ok (fields_by v t o m w k l q p))))))))))))))))))

-- A field from a place that is given is the place, then what is read there.
field_apart
    : {B : Type 0} (rows : List Row) (s : List ℕ) (from : Result ℕ BadLine) {f g : Piece → Result B BadLine}
    → ((p : Piece) → f p ≡ g p)
    → and_then from (λ i. and_then (piece_at rows s i) f) ≡ and_then (field_at rows s from) g
unfolding and_then
field_apart rows s (Ok i) h = then_same (piece_at rows s i) h
field_apart rows s (Err bad) h = refl

ttl_apart
    : {B : Type 0} (s : List ℕ) (from : Result ℕ BadLine) {f g : TtlPiece → Result B BadLine}
    → ((p : TtlPiece) → f p ≡ g p)
    → and_then from (λ i. and_then (ttl_at s i) f) ≡ and_then (ttl_field_at s from) g
unfolding and_then
ttl_apart s (Ok i) h = then_same (ttl_at s i) h
ttl_apart s (Err bad) h = refl

fields_together : (s : List ℕ) → fields_apart s ≡ line_fields s
unfolding line_fields
fields_together s =
    then_same (piece_at version s 0) (λ v.
    ttl_apart s (behind_at colon s v.at) (λ t.
    field_apart bare_byte s (behind_at colon s t.at) (λ o.
    field_apart mss s (behind_at colon s o.at) (λ m.
    field_apart window s (behind_at colon s m.at) (λ w.
    field_apart scale s (behind_at comma s w.at) (λ k.
    then_same (behind_at colon s k.at) (λ i. then_same (layout_at s i) (λ l.
    then_same (behind_at colon s l.at) (λ i. then_same (quirks_at s i) (λ q.
    field_apart payload s (behind_at colon s q.at) (λ p. refl)))))))))))

line_apart : (s : List ℕ) → made line_said 0 (parts_read s) ≡ fields_apart s
unfolding parts_read layout_at quirks_at state_at
line_apart s =
    then_made (table_read version) piece_said _ s 0 _ colon after_version_read (λ e v. then_same (behind_at colon s e) (λ e.
    rw (← ttl_made s e)
    (then_made ttl_read ttl_said _ s e _ colon after_ttl_read (λ e t. then_same (behind_at colon s e) (λ e.
    then_made (table_read bare_byte) piece_said _ s e _ colon after_olen_read (λ e o. then_same (behind_at colon s e) (λ e.
    then_made (table_read mss) piece_said _ s e _ colon after_mss_read (λ e m. then_same (behind_at colon s e) (λ e.
    then_made (table_read window) piece_said _ s e _ comma after_window_read (λ e w. then_same (behind_at comma s e) (λ e.
    then_made (table_read scale) piece_said _ s e _ colon after_scale_read (λ e k. then_same (behind_at colon s e) (λ e.
    then_made layout_read layout_said _ s e _ colon after_layout_read (λ e l. then_same (behind_at colon s e) (λ e.
    then_made quirks_read (quirks_said 0) _ s e _ colon (table_read payload) (λ e q. then_same (behind_at colon s e) (λ e.
    made_map piece_said _ e (table_read payload (drop e s)) _ (λ n p. refl))))))))))))))))))

line_made : (s : List ℕ) → made line_said 0 (parts_read s) ≡ line_fields s
line_made s = line_apart s ∙ fields_together s

-- ---- the answer, over what the fields gave

module _ (s : List ℕ) (h : length s ≤ longest) where
  abbrev parts : Read Parts
  parts = parts_read s

  pub gave_bad : (bad : BadLine) → Err bad ≡ line_fields s → Err bad ≡ read_line s
  unfolding fields_read
  gave_bad bad e =
      let r = made_Err line_said 0 parts bad (line_made s ∙ sym e) in
      let there : 0 + parts.count ≡ parts.count = omega arith in
      rw (r.1, short s h, r.0, there)

  module _ (f : LineFields) (e : Ok f ≡ line_fields s) where
    good : parts.good ≡ true
    good = (made_Ok line_said 0 parts f (line_made s ∙ sym e)).0

    same : f ≡ line_said parts.count parts.value
    same =
        let there : 0 + parts.count ≡ parts.count = omega arith in
        (made_Ok line_said 0 parts f (line_made s ∙ sym e)).1 ∙ ap (λ (n : ℕ). line_said n parts.value) there

    pub gave_early : (f.at ≡ length s → ⊥) → bad_at f.at ≡ read_line s
    unfolding fields_read
    gave_early d =
        let at : f.at ≡ parts.count = ap (λ (x : LineFields). x.at) same in
        rw (short s h, good, ne_eqb parts.count (length s) (λ z. d (at ∙ z)), at)

    module _ (d : f.at ≡ length s) where
      abbrev said : Fields
      said = fields parts.value

      read_whole : read_line s ≡ read_of (meaning_of said)
      unfolding fields_read read_as
      read_whole =
          let at : f.at ≡ parts.count = ap (λ (x : LineFields). x.at) same in
          rw (short s h, good, eq-eqb parts.count (length s) (sym at ∙ d))

      raw_bytes_lem : (i : ℕ) → byte_at (raw_of said) i < 256
      raw_bytes_lem = (well_formed s (meaning_of said) ((accepted s (meaning_of said)).0 read_whole).1).raw_bytes

      bytes_are : record_bytes (line_said parts.count parts.value) ≡ raw_of said
      unfolding record_bytes raw_of layout_of
      bytes_are =
          let raw = raw_bytes_lem in
          rw (
            small said.version.form (raw 0),
            small said.ttl_form.form (raw 1),
            small said.ttl.number (raw 2),
            small said.ttl_form.number (raw 3),
            small said.olen.number (raw 4),
            small said.mss.form (raw 5),
            small (said.mss.number / 256) (raw 6),
            small said.window.form (raw 8),
            small (said.window.number / 256) (raw 9),
            small said.scale.form (raw 11),
            small said.scale.number (raw 12),
            small said.payload.form (raw 13),
            small (union_from 0 said.quirks / 16777216) (raw 14),
            small (length said.layout) (raw 20),
          )

      pub gave_whole : (raw : List ℕ) → raw ≡ record_bytes f → read_of (record { raw = raw; layout = f.layout }) ≡ read_line s
      gave_whole raw r = rw (r, same, bytes_are, read_whole)
