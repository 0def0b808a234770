use Rattle.std.proofs.Common.{◌∙◌, sym, arith, append_assoc, ◌+◌}
use Rattle.pf_eval.proofs.Words.{word_grows, word_ends, word_begins}
use Rattle.pf_eval.proofs.word.words.Goals as goal

-- the word goes on
pub loop-i-preserved-then-not-is_blank : goal.loop-i-preserved-then-not-is_blank
loop-i-preserved-then-not-is_blank c =
    let e = word_grows c.args.text.now c.loop-i.start c.loop-i.i c.loop-i.invariant.1 (omega arith) (sym c.is_blank.ensures ∙ c.if-not-is_blank.true) in
    (rw (← e) c.loop-i.invariant.0, omega arith)

-- the word ends, and is put behind the others
pub loop-i-preserved : goal.loop-i-preserved
loop-i-preserved c =
    let e = word_ends c.args.text.now c.loop-i.start c.loop-i.i c.loop-i.invariant.1 (omega arith) (sym c.is_blank.ensures ∙ c.if-not-is_blank.false) in
    let b = word_begins c.args.text.now (c.loop-i.i + 1) in
    (rw (c.in_ok-put_word.ensures, append_assoc, ← b, ← e) c.loop-i.invariant.0, omega arith)
