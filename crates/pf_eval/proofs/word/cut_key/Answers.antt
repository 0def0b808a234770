use Rattle.std.proofs.Common.{◌≡◌, ◌∙◌, sym, length, take, arith}
use Rattle.std.proofs.lemmas.Slice.Eq.{bytes_eq-Decides}
use Rattle.pf_eval.proofs.Words.{key_ends, key_goes_on}
use Rattle.pf_eval.proofs.word.cut_key.Goals as goal

-- src/word.rt:72:9
pub returns-then-text-len-2 : goal.returns-then-text-len-2
returns-then-text-len-2 c =
    let front : take (length c.args.key.now) c.args.text.now ≡ c.args.key.now = grind (arith, c.is_same_word.ensures, c.if-not-is_same_word.false, (bytes_eq-Decides (take (length c.args.key.now) c.args.text.now) c.args.key.now).0) in
    key_ends c.args.text.now c.args.key.now c.requires.some c.requires.plain front (omega (arith, c.if-text-len-2.true))

-- src/word.rt:61:1
pub returns-then-is_blank : goal.returns-then-is_blank
returns-then-is_blank c =
    let front : take (length c.args.key.now) c.args.text.now ≡ c.args.key.now = grind (arith, c.is_same_word.ensures, c.if-not-is_same_word.false, (bytes_eq-Decides (take (length c.args.key.now) c.args.text.now) c.args.key.now).0) in
    key_goes_on c.args.text.now c.args.key.now c.requires.some c.requires.plain front (omega (arith, c.if-text-len.false, c.if-text-len-2.false)) (sym c.is_blank.ensures ∙ c.if-is_blank.true)
