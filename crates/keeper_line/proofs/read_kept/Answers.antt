-- `keeper_line::read_kept` meets its contract.
use mathlib.Core.Path.{◌∙◌}
use Prim.Native.Nat.{◌^◌, ◌<◌}
use native.Mathlib.Omega.{arith}
use lib.ListN.{length}
use Rattle.numerals.proofs.Made.{exit}
use Rattle.keeper_line.proofs.Heads.{no_label, no_blank, label_fits, no_mark, mark_fits, starts_within, kept_read, kept_refused}
use Rattle.keeper_line.proofs.Heads.{offset_within}
use borrow.Author.Rules.{rules}
use Rattle.keeper_line.proofs.read_kept.Goals as goal

pub returns-in_err-label : goal.returns-in_err-label
returns-in_err-label c = let said = c.from_residual.ensures in exit said.1 ∙ no_label c.args.line.now c.in_err-label.ensures

pub returns-in_err-behind : goal.returns-in_err-behind
returns-in_err-behind c =
    let l = c.in_ok-label in
    let said = c.from_residual-in_err-behind.ensures in exit said.1 ∙ no_blank c.args.line.now l.label l.ensures c.in_err-behind.ensures

pub returns-in_err-mark : goal.returns-in_err-mark
returns-in_err-mark c =
    let l = c.in_ok-label in
    let i = c.in_ok-behind in
    let said = c.from_residual-in_err-mark.ensures in exit said.1
    ∙ no_mark c.args.line.now l.label l.ensures i.field-0 i.ensures c.in_err-mark.ensures

pub slice_bounds-parse_tcp_signature-count : goal.slice_bounds-parse_tcp_signature-count
slice_bounds-parse_tcp_signature-count c =
    let l = c.in_ok-label in
    let i = c.in_ok-behind in
    let m = c.in_ok-mark in
    starts_within c.args.line.now l.label l.ensures i.field-0 i.ensures m.mark m.ensures

pub slice_bounds-parse_tcp_signature-start : goal.slice_bounds-parse_tcp_signature-start
slice_bounds-parse_tcp_signature-start c =
    let l = c.in_ok-label in
    let i = c.in_ok-behind in
    let m = c.in_ok-mark in
    starts_within c.args.line.now l.label l.ensures i.field-0 i.ensures m.mark m.ensures

pub with_label-requires-clause-kind_bound : goal.with_label-requires-clause-kind_bound
with_label-requires-clause-kind_bound c =
    let l = c.in_ok-label in
    let i = c.in_ok-behind in
    let m = c.in_ok-mark in
    mark_fits c.args.line.now l.label l.ensures i.field-0 i.ensures m.mark m.ensures

pub with_label-requires-clause-label_bound : goal.with_label-requires-clause-label_bound
with_label-requires-clause-label_bound c = let l = c.in_ok-label in label_fits c.args.line.now l.label l.ensures

pub overflow_add-result : goal.overflow_add-result
overflow_add-result c =
    let a = c.args in
    let l = c.in_ok-label in
    let i = c.in_ok-behind in
    let m = c.in_ok-mark in
    let e = c.in-Err in
    let h = offset_within a.line.now l.label l.ensures i.field-0 i.ensures m.mark m.ensures e.bad e.ensures in
    let small : length a.line.now < 2 ^ 63 = search (rules, c.well_formed) in
    record { fits = omega (arith, h, small) }

pub returns-in-Ok : goal.returns-in-Ok
returns-in-Ok c =
    let l = c.in_ok-label in
    let i = c.in_ok-behind in
    let m = c.in_ok-mark in
    let r = c.in-Ok in
    kept_read c.args.line.now l.label l.ensures i.field-0 i.ensures m.mark m.ensures r.read r.ensures
    c.with_label.result c.with_label.ensures

pub returns-in-Err : goal.returns-in-Err
returns-in-Err c =
    let l = c.in_ok-label in
    let i = c.in_ok-behind in
    let m = c.in_ok-mark in
    let e = c.in-Err in
    kept_refused c.args.line.now l.label l.ensures i.field-0 i.ensures m.mark m.ensures e.bad e.ensures
