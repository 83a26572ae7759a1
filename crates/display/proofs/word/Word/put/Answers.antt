use mathlib.Core.List.{append-nil}
use Rattle.std.proofs.lemmas.List.{take_more, take_all}
use Rattle.text.proofs.Writing.{put_none, both}
use Rattle.display.proofs.word.Word.put.Goals as goal

pub loop-letter-init : goal.loop-letter-init
loop-letter-init c = put_none c.args.buffer.now c.args.at

pub loop-letter-preserved : goal.loop-letter-preserved
loop-letter-preserved c =
    let l = c.loop-letter in
    rw (take_more c.args.self.letters.now l.letter-index 0 c.loop-letter-test.true)
    (both _ _ _ _ _ _ _ _ l.invariant c.put_byte-behind.ensures)

pub returns-in-None : goal.returns-in-None
returns-in-None c =
    let l = c.loop-letter in
    let whole = rw (take_all l.letter-index c.args.self.letters.now c.loop-letter-test.false) at l.invariant in
    rw (c.in-None.is, append-nil c.args.self.letters.now) whole

pub returns-in-Some : goal.returns-in-Some
returns-in-Some c =
    let l = c.loop-letter in
    let whole = rw (take_all l.letter-index c.args.self.letters.now c.loop-letter-test.false) at l.invariant in
    rw c.in-Some.is (both _ _ _ _ _ _ _ _ whole c.put_decimal.ensures)
