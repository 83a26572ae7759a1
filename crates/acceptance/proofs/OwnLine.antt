-- An observation is fitted exactly by the record that is read of its own line.
use Rattle.std.specs.Prelude.{Ok}
use mathlib.Core.Path.{◌≡◌, refl, sym, ◌∙◌, ap}
use mathlib.Core.Bool.{Bool, true, false}
use mathlib.Core.List.{List}
use mathlib.Core.Logic.{inl}
use Prim.Native.Nat.{ℕ, ◌+◌, ◌*◌, ◌-◌}
use native.Mathlib.Omega.{arith}
use lib.ListN.{length}
use lib.Seq.{take_at, take_all, drop_at}
use borrow.Author.Tests.{le-ltb}
use Rattle.basis.specs.Bytes.{be16}
use Rattle.observable.specs.declared.TcpObservation.{TcpObservation}
use Rattle.sigrecord.specs.Record.{first_entry, entry_count, label_of, is_generic}
use Rattle.matching.specs.declared.SignatureFit.TheVariants as fit
use Rattle.matching.specs.Fit.{features_of}
use Rattle.siglist.specs.List.{record_count, size_of, list_fits, record_at, entries_from, record_good, records_from, check_list}
use Rattle.found.specs.declared.Hit.{Hit}
use Rattle.found.specs.declared.Found.{Found}
use Rattle.found.specs.declared.Found.TheVariants as found
use Rattle.found.specs.Examined.{searched_in}
use Rattle.search.specs.Search.{fit_at, searched, search_list}
use Rattle.signature_line.specs.Meaning.{LineMeaning}
use Rattle.signature_line.specs.OneRecord.{entries_in, list_of_one, WellFormedLine}
use Rattle.signature_line.proofs.Accepted.{accepted}
use Rattle.signature_line.proofs.WellFormed.{well_formed}
use Rattle.written_line.specs.LineText.{observation_text}
use Rattle.written_line.specs.Signature.{signature_seen}
use Rattle.acceptance.specs.Outcome.{fit_of_record, FirstSpecific}
use Rattle.written_line.specs.RoundTrip.{ObservationRead}
use Rattle.written_line.proofs.Observed.{observation_read}
use Rattle.observed.specs.Observed.{Observed}
use Rattle.acceptance.specs.OwnLine.{FitsItself, OwnLine}
use Rattle.acceptance.proofs.Fit.{exact_from}
use Rattle.observed.proofs.Observed.{observed}
use Rattle.acceptance.proofs.Outcome.{answered}
use Rattle.acceptance.proofs.OwnFit.{turn_length, kinds_enough, bytes_enough, fits_exactly}

-- ---- the list of the one record

module _ (m : LineMeaning) (formed : WellFormedLine m) where
  abbrev l : List ℕ
  l = list_of_one m

  one_record : record_count l ≡ 1
  unfolding list_of_one be16
  one_record = refl

  record_there : record_at l 0 ≡ m.raw
  unfolding list_of_one be16
  record_there = take_at m.raw (entries_in m.layout) 24 formed.whole

  label_zero : label_of m.raw ≡ 0
  unfolding be16
  label_zero = omega (arith, formed.label_high, formed.label_low)

  first_zero : first_entry m.raw ≡ 0
  unfolding be16
  first_zero = omega (arith, formed.first_entry_high, formed.first_entry_low)

  specific : is_generic m.raw ≡ false
  specific = rw formed.zero

  entries_there : (k : ℕ) → length (entries_in m.layout) ≡ 2 * k → entries_from l 0 k ≡ entries_in m.layout
  unfolding list_of_one be16
  entries_there k whole =
      rw (drop_at m.raw (entries_in m.layout) 24 formed.whole)
      (take_all (32 + 2 * 0 + 2 * k - (32 + 2 * 0)) (entries_in m.layout) (omega arith))

  -- Its list is good: it fits, and so does its record.
  both_good : (list_fits l ≡ true) × (record_good l 0 ≡ true)
  unfolding check_list records_from
  both_good = by (list_fits l) (record_good l 0) refl refl formed.good
    where
      by
          : (t u : Bool)
          → list_fits l ≡ t
          → record_good l 0 ≡ u
          → check_list l ≡ (Ok tt)
          → (list_fits l ≡ true) × (record_good l 0 ≡ true)
      by true true a b e = (a, b)
      by true false a b e = let bad = rw (a, one_record, b) at e in let z : ◌≡◌ {A = ℕ} 0 1 = cc in absurd (omega arith)
      by false u a b e = let bad = rw a at e in let z : ◌≡◌ {A = ℕ} 0 1 = cc in absurd (omega arith)

-- ---- the search

abbrev the_hit : Hit
the_hit = record { label = 0; number = 0; generic = false }

module _ (o : TcpObservation) (seen : Observed o) where
  own : ObservationRead o
  own = observation_read o seen.held seen.few seen.quirks seen.quirks_small seen.entries

  abbrev m : LineMeaning
  m = own.meaning

  formed : WellFormedLine m
  formed = well_formed (observation_text o) m ((accepted (observation_text o) m).0 own.reads).1

  counted : entry_count m.raw ≡ o.olayout.count
  counted = formed.counted ∙ own.counted

  -- The entries of its layout are the observation's.
  whole : length (entries_in o.olayout) ≡ 2 * o.olayout.count
  unfolding entries_in
  whole = turn_length o.olayout.count o.olayout.kinds o.olayout.bytes (kinds_enough o seen) (bytes_enough o seen)

  entries_own : entries_from (list_of_one m) 0 o.olayout.count ≡ entries_in o.olayout
  entries_own = entries_there m formed o.olayout.count (ap length own.entries ∙ whole) ∙ own.entries

  record_fits : fit_of_record o (list_of_one m) 0 ≡ fit.Exact
  unfolding fit_at
  record_fits =
      let good = both_good m formed in
      rw (
        good.0,
        one_record m formed,
        good.1,
        record_there m formed,
        first_zero m formed,
        counted,
        own.signature,
        entries_own,
      )
      (exact_from (features_of o) o.olayout.kinds o.olayout.bytes (signature_seen o) o.olayout.count (entries_in o.olayout)
      (fits_exactly o seen))

  first : FirstSpecific o (list_of_one m) the_hit
  first =
      record {
        named =
            record {
              in_list = omega (arith, one_record m formed);
              own_label = rw (record_there m formed) (sym (label_zero m formed));
              own_kind = rw (record_there m formed) (sym (specific m formed));
            };
        specific = refl;
        exact = record_fits;
        first = λ j less x. absurd (omega arith);
      }

  found_so : (searched o (list_of_one m)).found ≡ found.Exact the_hit
  found_so = (answered o (list_of_one m) (found.Exact the_hit)).1 (inl first)

  pub fits_itself : FitsItself o
  unfolding search_list searched
  fits_itself =
      record {
        meaning = m;
        reads = own.reads;
        exact =
            rw (le-ltb 40 o.olayout.count seen.few, formed.good)
            (ap (λ (x : Found). Ok (searched_in (size_of (list_of_one m)) x)) found_so);
      }

-- ---- of every packet

pub own_line : OwnLine
own_line =
    record {
      observed = observed;
      fits = λ mode p peer all. fits_itself _ (observed mode p peer all);
    }
