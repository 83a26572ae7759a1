-- `siglist::SigList::record_good` meets its contract.
use mathlib.Core.Path.{sym, ◌∙◌}
use Rattle.siglist.proofs.List.{record_by_tests}
use Rattle.siglist.proofs.Entries.{lies_if_there}
use Rattle.siglist.proofs.SigList.record_good.Goals as goal

pub returns-then-not-forms_well_formed : goal.returns-then-not-forms_well_formed
returns-then-not-forms_well_formed c =
    let forms = c.forms_well_formed in
    let raw = c.record_at-raw in
    let a = c.args in
    rw (
      record_by_tests a.self.bytes.now a.self.areas a.i raw.result.now raw.ensures a.self.fits c.requires.0,
      ← forms.ensures,
      c.if-not-forms_well_formed.true,
    )

pub returns-then-not-quirks_good : goal.returns-then-not-quirks_good
returns-then-not-quirks_good c =
    let quirks = c.quirks_good in
    let forms = c.forms_well_formed in
    let raw = c.record_at-raw in
    let a = c.args in
    rw (
      record_by_tests a.self.bytes.now a.self.areas a.i raw.result.now raw.ensures a.self.fits c.requires.0,
      ← forms.ensures,
      c.if-not-forms_well_formed.false,
      ← quirks.ensures,
      c.if-not-quirks_good.true,
    )

pub returns-then-all_good : goal.returns-then-all_good
returns-then-all_good c =
    let quirks = c.quirks_good in
    let forms = c.forms_well_formed in
    let raw = c.record_at-raw in
    let a = c.args in
    rw (
      record_by_tests a.self.bytes.now a.self.areas a.i raw.result.now raw.ensures a.self.fits c.requires.0,
      ← forms.ensures,
      c.if-not-forms_well_formed.false,
      ← quirks.ensures,
      c.if-not-quirks_good.false,
      ← c.first_entry.ensures,
      ← c.entry_count.ensures,
      lies_if_there a.self.bytes.now c.first_entry.result c.entry_count.result
          (sym c.requires.1 ∙ c.if-all_good.true),
      ← a.self.fits.entries,
      ← c.entries_lie.ensures,
    )

pub returns : goal.returns
returns c =
    let quirks = c.quirks_good in
    let forms = c.forms_well_formed in
    let raw = c.record_at-raw in
    let a = c.args in
    rw (
      record_by_tests a.self.bytes.now a.self.areas a.i raw.result.now raw.ensures a.self.fits c.requires.0,
      ← forms.ensures,
      c.if-not-forms_well_formed.false,
      ← quirks.ensures,
      c.if-not-quirks_good.false,
      ← c.first_entry-2.ensures,
      ← c.entry_count-2.ensures,
      ← c.layout_good.ensures,
    )
