-- The lines of demand 1, crate by crate.
-- tools/promises makes this file from the contracts, and the gate holds it to them.
use Rattle.acceptance.specs.Promises.{EachCrate}
use Rattle.acceptance.proofs.Promises.refusals as refusals'
use Rattle.acceptance.proofs.Promises.numbers as numbers'
use Rattle.acceptance.proofs.Promises.text as text'
use Rattle.acceptance.proofs.Promises.quirks as quirks'
use Rattle.acceptance.proofs.Promises.ttl as ttl'
use Rattle.acceptance.proofs.Promises.window_size as window_size'
use Rattle.acceptance.proofs.Promises.ip_options as ip_options'
use Rattle.acceptance.proofs.Promises.observable as observable'
use Rattle.acceptance.proofs.Promises.tcp_header as tcp_header'
use Rattle.acceptance.proofs.Promises.one_option as one_option'
use Rattle.acceptance.proofs.Promises.syn_options as syn_options'
use Rattle.acceptance.proofs.Promises.ip as ip'
use Rattle.acceptance.proofs.Promises.flow as flow'
use Rattle.acceptance.proofs.Promises.sigrecord as sigrecord'
use Rattle.acceptance.proofs.Promises.distances as distances'
use Rattle.acceptance.proofs.Promises.matching as matching'
use Rattle.acceptance.proofs.Promises.siglist as siglist'
use Rattle.acceptance.proofs.Promises.found as found'
use Rattle.acceptance.proofs.Promises.search as search'
use Rattle.acceptance.proofs.Promises.numerals as numerals'
use Rattle.acceptance.proofs.Promises.one_field as one_field'
use Rattle.acceptance.proofs.Promises.parse_tcp as parse_tcp'
use Rattle.acceptance.proofs.Promises.display as display'
use Rattle.acceptance.proofs.Promises.line_writer as line_writer'
use Rattle.acceptance.proofs.Promises.keeper_line as keeper_line'
use Rattle.acceptance.proofs.Promises.list_compiler as list_compiler'
use Rattle.acceptance.proofs.Promises.file_writer as file_writer'
use Rattle.acceptance.proofs.Promises.packet_answer as packet_answer'
use Rattle.acceptance.proofs.Promises.bundle as bundle'
use Rattle.acceptance.proofs.Promises.report as report'
use Rattle.acceptance.proofs.Promises.packet_line as packet_line'
use Rattle.acceptance.proofs.Promises.gateway as gateway'
pub mod refusals
pub mod numbers
pub mod text
pub mod quirks
pub mod ttl
pub mod window_size
pub mod ip_options
pub mod observable
pub mod tcp_header
pub mod one_option
pub mod syn_options
pub mod ip
pub mod flow
pub mod sigrecord
pub mod distances
pub mod matching
pub mod siglist
pub mod found
pub mod search
pub mod numerals
pub mod one_field
pub mod parse_tcp
pub mod display
pub mod line_writer
pub mod keeper_line
pub mod list_compiler
pub mod file_writer
pub mod packet_answer
pub mod bundle
pub mod report
pub mod packet_line
pub mod gateway

pub each_crate : EachCrate
each_crate =
    record {
      refusals = refusals'.promises;
      numbers = numbers'.promises;
      text = text'.promises;
      quirks = quirks'.promises;
      ttl = ttl'.promises;
      window_size = window_size'.promises;
      ip_options = ip_options'.promises;
      observable = observable'.promises;
      tcp_header = tcp_header'.promises;
      one_option = one_option'.promises;
      syn_options = syn_options'.promises;
      ip = ip'.promises;
      flow = flow'.promises;
      sigrecord = sigrecord'.promises;
      distances = distances'.promises;
      matching = matching'.promises;
      siglist = siglist'.promises;
      found = found'.promises;
      search = search'.promises;
      numerals = numerals'.promises;
      one_field = one_field'.promises;
      parse_tcp = parse_tcp'.promises;
      display = display'.promises;
      line_writer = line_writer'.promises;
      keeper_line = keeper_line'.promises;
      list_compiler = list_compiler'.promises;
      file_writer = file_writer'.promises;
      packet_answer = packet_answer'.promises;
      bundle = bundle'.promises;
      report = report'.promises;
      packet_line = packet_line'.promises;
      gateway = gateway'.promises;
    }
