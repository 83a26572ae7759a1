-- `flow::part::TcpPart::shown_quirks` meets its contract.
use Rattle.flow.specs.Tcp.{quirks_of_headers}
use Rattle.tcp_header.specs.HeaderQuirks.{header_quirks}
use Rattle.basis.specs.Bytes.{be16}
use Rattle.flow.proofs.part.TcpPart.shown_quirks.Goals as goal

pub returns : goal.returns
unfolding quirks_of_headers header_quirks be16
returns c =
    rw (
      c.urgent_quirks.ensures,
      c.be16.ensures,
      c.number_quirks-numbered.ensures,
      c.word-2.ensures,
      c.word.ensures,
    )
