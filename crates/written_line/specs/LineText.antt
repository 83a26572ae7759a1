-- The text of a line: of its fields, of a signature with its layout, of a record, of an observation (document 02, Wish 7).
use Rattle.std.specs.Prelude.{ℕ, List, ◌∷◌, ◌++◌}
use Rattle.observable.specs.declared.TcpObservation.{TcpObservation}
use Rattle.sigrecord.specs.declared.Signature.{Signature}
use Rattle.sigrecord.specs.Record.{signature_of}
use Rattle.siglist.specs.List.{record_at, entries_of}
use Rattle.grammar.specs.Spelling.{spelt, listed_text}
use Rattle.grammar.specs.Table.{Said}
use Rattle.signature_line.specs.Line.{colon, comma}
use Rattle.signature_line.specs.Meaning.{Fields}
use Rattle.signature_line.specs.OneRecord.{entries_in}
use Rattle.signature_line.specs.Words.{version, bare_byte, ttl_form, mss, window, scale, entry, quirk_word, payload}
use Rattle.written_line.specs.Signature.{fields_of, signature_seen}

abbrev pub ttl_text : Said → Said → List ℕ
ttl_text t form = spelt bare_byte t ++ spelt ttl_form form

abbrev pub layout_text : List Said → List ℕ
layout_text = listed_text (spelt entry) comma

abbrev pub quirks_text : List Said → List ℕ
quirks_text = listed_text (spelt quirk_word) comma

-- olayout ":" quirks ":" pclass
unfoldable pub text_after_scale : Fields → List ℕ
text_after_scale f = layout_text f.layout ++ colon ∷ (quirks_text f.quirks ++ colon ∷ spelt payload f.payload)

-- mss ":" wsize "," scale ":" ..
unfoldable pub text_after_olen : Fields → List ℕ
text_after_olen f =
    spelt mss f.mss ++ colon ∷ (spelt window f.window ++ comma ∷ (spelt scale f.scale ++ colon ∷ text_after_scale f))

-- ver ":" ttl ":" olen ":" .., without a line end
unfoldable pub line_text : Fields → List ℕ
line_text f =
    spelt version f.version
    ++ colon ∷ (ttl_text f.ttl f.ttl_form ++ colon ∷ (spelt bare_byte f.olen ++ colon ∷ text_after_olen f))

-- A signature with the entries of its layout, kind and byte in turn.
unfoldable pub signature_text : Signature → List ℕ → List ℕ
signature_text s entries = line_text (fields_of s entries)

-- "a record as its signature line": record i of a list.
unfoldable pub record_text : List ℕ → ℕ → List ℕ
record_text l i = signature_text (signature_of (record_at l i)) (entries_of l (record_at l i))

-- "an observation as p0f's raw line"
unfoldable pub observation_text : TcpObservation → List ℕ
observation_text o = signature_text (signature_seen o) (entries_in o.olayout)
