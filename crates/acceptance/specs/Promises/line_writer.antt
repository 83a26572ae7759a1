-- Demand 1, a line for each public function of line_writer.
-- tools/promises makes this file from the contracts, and the gate holds it to them.
use Rattle.std.specs.Borrow.{Bor, MutBor}
use Rattle.std.specs.Prelude.{ℕ, List}
use contract.Lifetimes.{Lfts}
use Rattle.text.specs.Written.{left_with}
use Rattle.observable.specs.declared.TcpObservation.{TcpObservation}
use Rattle.written_line.specs.Writing.{listed_line, observation_line, record_line}
use Rattle.line_writer.specs.contracts.write_listed as write_listed'
use Rattle.line_writer.specs.contracts.write_observation as write_observation'
use Rattle.line_writer.specs.contracts.write_record as write_record'
use Rattle.line_writer.proofs.write_listed.Reads as write_listed_reads
use Rattle.line_writer.proofs.write_observation.Reads as write_observation_reads
use Rattle.line_writer.proofs.write_record.Reads as write_record_reads
use Rattle.acceptance.specs.Promised.{LineAnswers}

pub record Promises : Type 0 where
  pub write_observation_one
      : (κs : Lfts 1) (buffer : MutBor (List ℕ)) (o : TcpObservation)
      → LineAnswers write_observation'.signature κs (write_observation_reads.Pre κs) (write_observation_reads.Post κs)
      (buffer, (o, tt)) (λ bytes. (left_with buffer bytes, (o, tt))) buffer.now (observation_line o)
  pub write_listed_one
      : (κs : Lfts 2) (buffer : MutBor (List ℕ)) (list : Bor (List ℕ)) (index : ℕ)
      → LineAnswers write_listed'.signature κs (write_listed_reads.Pre κs) (write_listed_reads.Post κs)
      (buffer, (list, (index, tt))) (λ bytes. (left_with buffer bytes, (list, (index, tt)))) buffer.now (listed_line list.now index)
  pub write_record_one
      : (κs : Lfts 2) (buffer : MutBor (List ℕ)) (list : Bor (List ℕ)) (index : ℕ)
      → LineAnswers write_record'.signature κs (write_record_reads.Pre κs) (write_record_reads.Post κs)
      (buffer, (list, (index, tt))) (λ bytes. (left_with buffer bytes, (list, (index, tt)))) buffer.now (record_line list.now index)
