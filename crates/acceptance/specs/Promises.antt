-- Demand 1, crate by crate, in the order of crates.txt.
-- tools/promises makes this file from the contracts, and the gate holds it to them.
use Rattle.acceptance.specs.Promises.refusals as refusals'
use Rattle.acceptance.specs.Promises.numbers as numbers'
use Rattle.acceptance.specs.Promises.text as text'
use Rattle.acceptance.specs.Promises.quirks as quirks'
use Rattle.acceptance.specs.Promises.ttl as ttl'
use Rattle.acceptance.specs.Promises.window_size as window_size'
use Rattle.acceptance.specs.Promises.ip_options as ip_options'
use Rattle.acceptance.specs.Promises.observable as observable'
use Rattle.acceptance.specs.Promises.tcp_header as tcp_header'
use Rattle.acceptance.specs.Promises.one_option as one_option'
use Rattle.acceptance.specs.Promises.syn_options as syn_options'
use Rattle.acceptance.specs.Promises.ip as ip'
use Rattle.acceptance.specs.Promises.flow as flow'
use Rattle.acceptance.specs.Promises.sigrecord as sigrecord'
use Rattle.acceptance.specs.Promises.distances as distances'
use Rattle.acceptance.specs.Promises.matching as matching'
use Rattle.acceptance.specs.Promises.siglist as siglist'
use Rattle.acceptance.specs.Promises.found as found'
use Rattle.acceptance.specs.Promises.search as search'
use Rattle.acceptance.specs.Promises.numerals as numerals'
use Rattle.acceptance.specs.Promises.one_field as one_field'
use Rattle.acceptance.specs.Promises.parse_tcp as parse_tcp'
use Rattle.acceptance.specs.Promises.display as display'
use Rattle.acceptance.specs.Promises.line_writer as line_writer'
use Rattle.acceptance.specs.Promises.keeper_line as keeper_line'
use Rattle.acceptance.specs.Promises.list_compiler as list_compiler'
use Rattle.acceptance.specs.Promises.file_writer as file_writer'
use Rattle.acceptance.specs.Promises.packet_answer as packet_answer'
use Rattle.acceptance.specs.Promises.bundle as bundle'
use Rattle.acceptance.specs.Promises.report as report'
use Rattle.acceptance.specs.Promises.packet_line as packet_line'
use Rattle.acceptance.specs.Promises.gateway as gateway'
pub mod refusals
pub mod numbers
pub mod text
pub mod quirks
pub mod ttl
pub mod window_size
pub mod ip_options
pub mod observable
pub mod tcp_header
pub mod one_option
pub mod syn_options
pub mod ip
pub mod flow
pub mod sigrecord
pub mod distances
pub mod matching
pub mod siglist
pub mod found
pub mod search
pub mod numerals
pub mod one_field
pub mod parse_tcp
pub mod display
pub mod line_writer
pub mod keeper_line
pub mod list_compiler
pub mod file_writer
pub mod packet_answer
pub mod bundle
pub mod report
pub mod packet_line
pub mod gateway

pub record EachCrate : Type 0 where
  pub refusals : refusals'.Promises
  pub numbers : numbers'.Promises
  pub text : text'.Promises
  pub quirks : quirks'.Promises
  pub ttl : ttl'.Promises
  pub window_size : window_size'.Promises
  pub ip_options : ip_options'.Promises
  pub observable : observable'.Promises
  pub tcp_header : tcp_header'.Promises
  pub one_option : one_option'.Promises
  pub syn_options : syn_options'.Promises
  pub ip : ip'.Promises
  pub flow : flow'.Promises
  pub sigrecord : sigrecord'.Promises
  pub distances : distances'.Promises
  pub matching : matching'.Promises
  pub siglist : siglist'.Promises
  pub found : found'.Promises
  pub search : search'.Promises
  pub numerals : numerals'.Promises
  pub one_field : one_field'.Promises
  pub parse_tcp : parse_tcp'.Promises
  pub display : display'.Promises
  pub line_writer : line_writer'.Promises
  pub keeper_line : keeper_line'.Promises
  pub list_compiler : list_compiler'.Promises
  pub file_writer : file_writer'.Promises
  pub packet_answer : packet_answer'.Promises
  pub bundle : bundle'.Promises
  pub report : report'.Promises
  pub packet_line : packet_line'.Promises
  pub gateway : gateway'.Promises
