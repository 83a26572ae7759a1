-- What the product is accepted by, in one statement: the customer's conditions B and C, each with its file. docs/ACCEPTANCE.md walks
-- from every sentence of the conditions to its place here.
use Rattle.acceptance.specs.Demand1.{Demand1}
use Rattle.acceptance.specs.Demand2.{Demand2}
use Rattle.acceptance.specs.Demand3.{Demand3}
use Rattle.acceptance.specs.GatewayLines.{GatewayLines}
use Rattle.acceptance.specs.GenericLast.{GenericLast}
use Rattle.acceptance.specs.Honesty.{Honesty}
use Rattle.acceptance.specs.HowLong.{HowLong}
use Rattle.acceptance.specs.KeepersFile.{KeepersFile}
use Rattle.acceptance.specs.Lines.{Lines}
use Rattle.acceptance.specs.Modes.{Modes}
use Rattle.acceptance.specs.OnPaper.{OnPaper}
use Rattle.acceptance.specs.OneWalk.{OneWalk}
use Rattle.acceptance.specs.Refusals.{Refusals}
use Rattle.acceptance.specs.Stages.{Stages}
use Rattle.acceptance.specs.TextLines.{TextLines}
use Rattle.acceptance.specs.TtlTable.{TtlTable}
use Rattle.acceptance.specs.Unchecked.{Unchecked}
use Rattle.acceptance.specs.WrittenLines.{WrittenLines}

pub record Acceptance : Type 1 where
  -- B: "Exact, fuzzy and none stay three answers."
  pub honesty : Honesty
  pub lines : Lines
  -- C1: every input gets exactly one answer; "Bad input is refused by the number and in the order of document 01".
  pub demand1 : Demand1
  pub refusals : Refusals
  pub on_paper : OnPaper
  -- and where a function does not refuse, what binds it to the one that does
  pub unchecked : Unchecked
  -- C2: the definitions' values, the multiplier, the single fit.
  pub demand2 : Demand2
  -- C3: packets that differ only in free bytes get the same answer.
  pub demand3 : Demand3
  -- and so does every reader of two stages that each keep to it
  pub stages : Stages
  -- D1: signatures read from p0f's text form (document 02, Wish 1).
  pub text_lines : TextLines
  -- D1: the strict mode beside the plain one (document 02, Wishes 2 and 5).
  pub modes : Modes
  -- D1: specific and generic records (document 02, Wish 3).
  pub generic_last : GenericLast
  -- D1: the table of all TTL bytes (document 02, Wish 4).
  pub ttl_table : TtlTable
  -- D1: one option walk, with the places of damage (document 02, Wish 5).
  pub one_walk : OneWalk
  -- D1: how many records a search examined (document 02, Wish 6).
  pub how_long : HowLong
  -- D1: the text form written (document 02, Wish 7).
  pub written_lines : WrittenLines
  -- and as a gateway in C or Rust gets it.
  pub gateway_lines : GatewayLines
  -- D1: a keeper's file of such lines compiled into a list, and the way back.
  pub keepers_file : KeepersFile
