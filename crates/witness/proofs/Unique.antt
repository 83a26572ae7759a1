-- Exactly one result meets each public function's own contract.
-- tools/promises makes this file from the contracts, and the gate holds it to them.
use Rattle.std.specs.Borrow.{Bor, MutBor}
use Rattle.std.specs.Prelude.{ℕ, Bool, List, Option, Result}
use contract.Lifetimes.{Lfts}
use Rattle.basis.specs.Unique.{ExactlyOne}
use Rattle.basis.proofs.Unique.{both, equation}
use Rattle.refusals.specs.declared.PacketRefusal.{PacketRefusal}
use Rattle.text.specs.Written.{left_with}
use Rattle.window_size.specs.declared.WindowMultiplier.{WindowMultiplier}
use Rattle.observable.specs.declared.TcpObservation.{TcpObservation}
use Rattle.flow.specs.declared.Reading.{Reading}
use Rattle.flow.specs.Reading.{observation_read}
use Rattle.witness.specs.declared.PlainLine.{PlainLine}
use Rattle.witness.specs.declared.PlainObservation.{PlainObservation}
use Rattle.witness.specs.declared.PlainOptions.{PlainOptions}
use Rattle.witness.specs.declared.PlainPacket.{PlainPacket}
use Rattle.witness.specs.declared.PlainProgress.{PlainProgress}
use Rattle.witness.specs.declared.PlainSearch.{PlainSearch}
use Rattle.witness.specs.declared.PlainTtl.{PlainTtl}
use Rattle.witness.specs.declared.PlainWalk.{PlainWalk}
use Rattle.witness.specs.declared.PlainWrote.{PlainWrote}
use Rattle.witness.specs.Lined.{line_read}
use Rattle.witness.specs.Taken.{hops_read, search_read}
use Rattle.witness.specs.Walked.{walk_read}
use Rattle.witness.specs.Written.{answer_number, options_read, packet_read, plain_packet, ttl_read}
use Rattle.witness.proofs.witness_first_page.Reads as witness_first_page'
use Rattle.witness.proofs.witness_hops.Reads as witness_hops'
use Rattle.witness.proofs.witness_line.Reads as witness_line'
use Rattle.witness.proofs.witness_next_page.Reads as witness_next_page'
use Rattle.witness.proofs.witness_options.Reads as witness_options'
use Rattle.witness.proofs.witness_packet.Reads as witness_packet'
use Rattle.witness.proofs.witness_raw.Reads as witness_raw'
use Rattle.witness.proofs.witness_record.Reads as witness_record'
use Rattle.witness.proofs.witness_search.Reads as witness_search'
use Rattle.witness.proofs.witness_ttl.Reads as witness_ttl'
use Rattle.witness.proofs.witness_walk.Reads as witness_walk'
use Rattle.witness.proofs.written.answer_number.Reads as answer_number'
use Rattle.witness.proofs.written.observation_read.Reads as observation_read'
use Rattle.witness.proofs.written.plain_packet.Reads as plain_packet'

pub witness_packet_one
    : (κs : Lfts 1) (packet : Bor (List ℕ)) (peer bits : ℕ)
    → ExactlyOne PlainPacket (λ (r : PlainPacket). witness_packet'.Post κs (packet, (peer, (bits, tt))) r (packet, (peer, (bits, tt))))
witness_packet_one κs packet peer bits = equation (packet_read bits packet.now peer)

pub witness_options_one
    : (κs : Lfts 1) (options : Bor (List ℕ))
    → ExactlyOne PlainOptions (λ (r : PlainOptions). witness_options'.Post κs (options, tt) r (options, tt))
witness_options_one κs options = equation (options_read options.now)

pub witness_walk_one
    : (κs : Lfts 1) (options : Bor (List ℕ)) (stop : ℕ) (syn : Bool)
    → ExactlyOne PlainWalk (λ (r : PlainWalk). witness_walk'.Post κs (options, (stop, (syn, tt))) r (options, (stop, (syn, tt))))
witness_walk_one κs options stop syn = equation (walk_read stop syn options.now)

pub witness_line_one
    : (κs : Lfts 1) (line : Bor (List ℕ))
    → ExactlyOne PlainLine (λ (r : PlainLine). witness_line'.Post κs (line, tt) r (line, tt))
witness_line_one κs line = equation (line_read line.now)

pub witness_raw_one
    : (κs : Lfts 1) (buffer : MutBor (List ℕ)) (observation : PlainObservation)
    → ExactlyOne (PlainWrote × List ℕ)
    (λ (r : PlainWrote × List ℕ). witness_raw'.Post κs (buffer, (observation, tt)) r.0 (left_with buffer r.1, (observation, tt)))
witness_raw_one κs buffer observation = both _ _

pub witness_record_one
    : (κs : Lfts 2) (buffer : MutBor (List ℕ)) (list : Bor (List ℕ)) (index : ℕ)
    → ExactlyOne (PlainWrote × List ℕ)
    (λ (r : PlainWrote × List ℕ). witness_record'.Post κs (buffer, (list, (index, tt))) r.0 (left_with buffer r.1, (list, (index, tt))))
witness_record_one κs buffer list index = both _ _

pub witness_search_one
    : (κs : Lfts 1) (observation : PlainObservation) (list : Bor (List ℕ))
    → ExactlyOne PlainSearch (λ (r : PlainSearch). witness_search'.Post κs (observation, (list, tt)) r (observation, (list, tt)))
witness_search_one κs observation list = equation (search_read observation list.now)

pub witness_ttl_one : (ttl : ℕ) → ExactlyOne PlainTtl (λ (r : PlainTtl). witness_ttl'.Post tt (ttl, tt) r (ttl, tt))
witness_ttl_one ttl = equation (ttl_read ttl)

pub witness_hops_one : (κs : Lfts 1) (ttls : Bor (List ℕ)) → ExactlyOne ℕ (λ (r : ℕ). witness_hops'.Post κs (ttls, tt) r (ttls, tt))
witness_hops_one κs ttls = equation (hops_read ttls.now)

pub witness_first_page_one
    : (κs : Lfts 2) (bundle : Bor (List ℕ)) (page : MutBor (List ℕ)) (bits : ℕ)
    → ExactlyOne (PlainProgress × List ℕ)
    (λ (r : PlainProgress × List ℕ). witness_first_page'.Post κs (bundle, (page, (bits, tt))) r.0
    (bundle, (left_with page r.1, (bits, tt))))
witness_first_page_one κs bundle page bits = both _ _

pub witness_next_page_one
    : (κs : Lfts 2) (bundle : Bor (List ℕ)) (progress : PlainProgress) (page : MutBor (List ℕ)) (bits : ℕ)
    → ExactlyOne (PlainProgress × List ℕ)
    (λ (r : PlainProgress × List ℕ). witness_next_page'.Post κs (bundle, (progress, (page, (bits, tt)))) r.0
    (bundle, (progress, (left_with page r.1, (bits, tt)))))
witness_next_page_one κs bundle progress page bits = both _ _

pub answer_number_one
    : (reading : Result Reading PacketRefusal)
    → ExactlyOne ℕ (λ (r : ℕ). answer_number'.Post tt (reading, tt) r (reading, tt))
answer_number_one reading = equation (answer_number reading)

pub observation_read_one
    : (reading : Result Reading PacketRefusal)
    → ExactlyOne TcpObservation (λ (r : TcpObservation). observation_read'.Post tt (reading, tt) r (reading, tt))
observation_read_one reading = equation (observation_read reading)

pub plain_packet_one
    : (reading : Result Reading PacketRefusal) (multiplier : Option WindowMultiplier)
    → ExactlyOne PlainPacket (λ (r : PlainPacket). plain_packet'.Post tt (reading, (multiplier, tt)) r (reading, (multiplier, tt)))
plain_packet_one reading multiplier = equation (plain_packet reading multiplier)
