use Rattle.grammar.specs.Spelling.{spelt}
use Rattle.signature_line.specs.Words.{bare_byte}
use Rattle.text.proofs.Writing.{both}
use Rattle.written_line.specs.LineText.{text_after_scale, text_after_olen, line_text, signature_text}
use Rattle.written_line.specs.Signature.{fields_of}
use Rattle.line_writer.proofs.Line.put.Goals as goal

pub returns : goal.returns
unfolding signature_text line_text text_after_olen text_after_scale fields_of spelt bare_byte
returns c =
    rw (← c.from.ensures) (
    both _ _ _ _ _ _ _ _ c.put_version-behind_version.ensures (
    both _ _ _ _ _ _ _ _ c.put_byte-at_ttl.ensures (
    both _ _ _ _ _ _ _ _ c.put_ttl-behind_ttl.ensures (
    both _ _ _ _ _ _ _ _ c.put_byte-at_olen.ensures (
    both _ _ _ _ _ _ _ _ c.put_decimal-behind_olen.ensures (
    both _ _ _ _ _ _ _ _ c.put_byte-at_mss.ensures (
    both _ _ _ _ _ _ _ _ c.put_mss-behind_mss.ensures (
    both _ _ _ _ _ _ _ _ c.put_byte-at_window.ensures (
    both _ _ _ _ _ _ _ _ c.put_window-behind_window.ensures (
    both _ _ _ _ _ _ _ _ c.put_byte-at_scale.ensures (
    both _ _ _ _ _ _ _ _ c.put_wscale-behind_scale.ensures (
    both _ _ _ _ _ _ _ _ c.put_layout-behind_layout.ensures (
    both _ _ _ _ _ _ _ _ c.put_quirks-behind_quirks.ensures (
    both _ _ _ _ _ _ _ _ c.put_byte-at_payload.ensures (
    c.put_payload.ensures)))))))))))))))
