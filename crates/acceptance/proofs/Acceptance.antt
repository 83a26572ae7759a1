-- The one theorem.
use Rattle.acceptance.specs.Acceptance.{Acceptance}
use Rattle.acceptance.proofs.Demand1.{demand1}
use Rattle.acceptance.proofs.Demand2.{demand2}
use Rattle.acceptance.proofs.Demand3.{demand3}
use Rattle.acceptance.proofs.GatewayLines.{gateway_lines_lem}
use Rattle.acceptance.proofs.GenericLast.{generic_last_lem}
use Rattle.acceptance.proofs.Honesty.{honesty}
use Rattle.acceptance.proofs.HowLong.{how_long_lem}
use Rattle.acceptance.proofs.KeepersFile.{keepers_file_lem}
use Rattle.acceptance.proofs.Lines.{lines}
use Rattle.acceptance.proofs.Modes.{modes}
use Rattle.acceptance.proofs.OnPaper.{on_paper_lem}
use Rattle.acceptance.proofs.OneWalk.{one_walk_lem}
use Rattle.acceptance.proofs.Refusals.{refusals}
use Rattle.acceptance.proofs.Stages.{stages}
use Rattle.acceptance.proofs.TextLines.{text_lines_lem}
use Rattle.acceptance.proofs.TtlTable.{ttl_table_lem}
use Rattle.acceptance.proofs.Unchecked.{unchecked}
use Rattle.acceptance.proofs.WrittenLines.{written_lines_lem}

pub acceptance : Acceptance
acceptance =
    record {
      honesty = honesty;
      lines = lines;
      demand1 = demand1;
      refusals = refusals;
      on_paper = on_paper_lem;
      unchecked = unchecked;
      demand2 = demand2;
      demand3 = demand3;
      stages = stages;
      text_lines = text_lines_lem;
      modes = modes;
      generic_last = generic_last_lem;
      ttl_table = ttl_table_lem;
      one_walk = one_walk_lem;
      how_long = how_long_lem;
      written_lines = written_lines_lem;
      gateway_lines = gateway_lines_lem;
      keepers_file = keepers_file_lem;
    }
