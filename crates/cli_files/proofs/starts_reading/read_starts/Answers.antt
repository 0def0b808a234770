-- of a string of some members each line is read
use Rattle.std.proofs.Common.{arith, ap, sym, ◌∙◌, ◌≡◌, ◌+◌, ◌<◌, ◌++◌, ◌∷◌, [], length, drop, true, rules}
use Rattle.std.proofs.lemmas.List.{length_push, take_all}
use Rattle.std.proofs.lemmas.Slice.Eq.{bytes_eq-Decides}
use Rattle.cli_files.specs.StartsTexts.{starts_text}
use Rattle.cli_files.proofs.StartsLines.{behind, count_is, digits_of, one_more, member_of}
use Rattle.cli_files.proofs.starts_reading.read_starts.Goals as goal

pub returns-then-count-gt-MEMBERS_MAX-clause-damaged :
    goal.returns-then-count-gt-MEMBERS_MAX-clause-damaged
returns-then-count-gt-MEMBERS_MAX-clause-damaged c same ms fits few e =
    let cut : c.in_ok-lines.lines.now ≡ drop 13 c.args.text.now = search rules in
    omega (arith, count_is ms _ (behind ms _ _ cut e), few, c.if-count-gt-MEMBERS_MAX.true)

pub returns-in_err-member-clause-damaged : goal.returns-in_err-member-clause-damaged
returns-in_err-member-clause-damaged c same ms fits few e =
    let cut : c.in_ok-lines.lines.now ≡ drop 13 c.args.text.now = search rules in
    let lines = behind ms _ _ cut e in
    let i = c.loop-i.i in
    let d = member_of 0 0 0 in
    let inside : i < length ms = omega (arith, count_is ms _ lines, c.loop-i-test.true) in
    let some = c.member_in.ensures _ (fits i d inside) (digits_of ms _ i d lines inside) in
    let none = rw some at c.in_err-member.ensures.value in
    cc

pub loop-i-preserved : goal.loop-i-preserved
loop-i-preserved c =
    let cut : c.in_ok-lines.lines.now ≡ drop 13 c.args.text.now = search rules in
    let more : c.push.new.self.items ≡ c.loop-i.members.items ++ c.in_ok-member.member ∷ [] = search rules in
    record {
      count = ap length more ∙ length_push c.loop-i.members.items c.in_ok-member.member
          ∙ ap (λ n. n + 1) c.loop-i.invariant.count;
      first = λ ms fits e.
          let lines = behind ms _ _ cut e in
          let i = c.loop-i.i in
          let d = member_of 0 0 0 in
          let inside : i < length ms = omega (arith, count_is ms _ lines, c.loop-i-test.true) in
          let some = c.member_in.ensures _ (fits i d inside) (digits_of ms _ i d lines inside) in
          let ok = rw some at c.in_ok-member.ensures.value in
          one_more ms c.loop-i.members.items c.push.new.self.items i c.in_ok-member.member d inside
          (c.loop-i.invariant.first ms fits e) more cc;
    }

pub returns-clause-damaged : goal.returns-clause-damaged
returns-clause-damaged c same ms fits few e =
    let cut : c.in_ok-lines.lines.now ≡ drop 13 c.args.text.now = search rules in
    let text = c.args.text.now in
    let all : c.loop-i.members.items ≡ ms =
    c.loop-i.invariant.first ms fits e
    ∙ take_all c.loop-i.i ms (omega (arith, count_is ms _ (behind ms _ _ cut e), c.loop-i-test.false)) in
    let again : c.as_slice-2.result.now ≡ text =
    c.as_slice-2.ensures.value ∙ c.in_ok-again.ensures ∙ ap starts_text (c.as_slice.ensures.value ∙ all) ∙ sym e in
    let yes : c.eq.result ≡ true = c.eq.ensures ∙ (bytes_eq-Decides c.as_slice-2.result.now text).1 again in
    let none = rw (c.ok_or-2.ensures.value, c.then_some.ensures, yes) at same in
    cc
