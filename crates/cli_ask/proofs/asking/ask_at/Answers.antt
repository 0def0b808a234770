use Rattle.std.proofs.Common.{◌≡◌, ◌∙◌, ◌==◌, ℕ, Bool, false, List, Some, None, Ok, option_map, ap, refl, subst, sym, rules, tests}
use Rattle.cli_ask.specs.Calls.{call_value}
use Rattle.cli_ask.specs.Replies.{reply_value}
use Rattle.cli_ask.specs.Asking.{AskedOn, answer_value, limit_of, number_after}
use Rattle.cli_ask.proofs.Series.{AskedAs, at_last, at_verdicts, by_nothing, by_no_memory, by_outcome, number_once}
use Rattle.cli_ask.proofs.asking.ask_at.Goals as goal

pub returns-in-Test : goal.returns-in-Test
returns-in-Test g c =
    let e : c.new-deadline.result.seconds ≡ limit_of c.args.seconds = search (rules, tests) in
    subst (λ (n : ℕ). AskedAs (g.C.Control.exchanged c.args.control.now) (g.C.Control.exchanged c.verdicts.new.control) (call_value c.args.call.now) (c.args.seconds == 0) n (answer_value c.verdicts.result)) e
    (at_verdicts (g.C.Control.exchanged c.args.control.now) (g.C.Control.exchanged c.verdicts.new.control)
    (call_value c.args.call.now) (c.args.seconds == 0) c.new-deadline.result.seconds (answer_value c.verdicts.result) c.in-Test.is c.verdicts.ensures)

pub returns-in_err-first : goal.returns-in_err-first
returns-in_err-first g c =
    let e : c.new-deadline.result.seconds ≡ limit_of c.args.seconds = search (rules, tests) in
    subst (λ (n : ℕ). AskedAs (g.C.Control.exchanged c.args.control.now) (g.C.Control.exchanged c.ask_on.new.control) (call_value c.args.call.now) (c.args.seconds == 0) n
    (answer_value c.from_residual.result)) e (search (rules, tests))

-- no command was accepted
pub returns-in_default-number_after : goal.returns-in_default-number_after
returns-in_default-number_after g c =
    let e : c.new-deadline.result.seconds ≡ limit_of c.args.seconds = search (rules, tests) in
    let k = c.args.call.now.kind in
    let x = g.C.Control.exchanged c.args.control.now in
    let y = g.C.Control.exchanged c.ask_on.new.control in
    let first = reply_value c.in_ok-first.first in
    let none : number_after k (c.args.seconds == 0) c.in_ok-first.first.body.items ≡ None =
    sym (c.number_after.ensures ∙ ap (λ (b : List ℕ). number_after k (c.args.seconds == 0) b) c.as_slice.ensures.value) ∙ ap (λ o. option_map (λ n. n.now) o) c.in_default-number_after.is in
    subst (λ (n : ℕ). AskedAs x y (call_value c.args.call.now) (c.args.seconds == 0) n (Ok first)) e
    (at_last x y y (call_value c.args.call.now) (c.args.seconds == 0) c.new-deadline.result.seconds first (Ok first) c.in_default.not-Test c.in_ok-first.ensures
    (by_nothing y _ k c.new-deadline.result.seconds first (Ok first) none refl))

pub returns-in_err-outcome_call : goal.returns-in_err-outcome_call
returns-in_err-outcome_call g c =
    let e : c.new-deadline.result.seconds ≡ limit_of c.args.seconds = search (rules, tests) in
    let k = c.args.call.now.kind in
    let x = g.C.Control.exchanged c.args.control.now in
    let y = g.C.Control.exchanged c.ask_on.new.control in
    let first = reply_value c.in_ok-first.first in
    let named : number_after k (c.args.seconds == 0) c.in_ok-first.first.body.items ≡ Some c.in-Some.number.now =
    sym (c.number_after.ensures ∙ ap (λ (b : List ℕ). number_after k (c.args.seconds == 0) b) c.as_slice.ensures.value) ∙ ap (λ o. option_map (λ n. n.now) o) c.in-Some.is in
    let answer = answer_value c.from_residual-in_err-outcome_call.result in
    subst (λ (n : ℕ). AskedAs x y (call_value c.args.call.now) (c.args.seconds == 0) n answer) e
    (at_last x y y (call_value c.args.call.now) (c.args.seconds == 0) c.new-deadline.result.seconds first answer c.in_default.not-Test c.in_ok-first.ensures
    (by_no_memory y _ c.in-Some.number.now k c.new-deadline.result.seconds first answer named (search rules)))

-- it is asked what became of it
pub returns : goal.returns
returns g c =
    let e : c.new-deadline.result.seconds ≡ limit_of c.args.seconds = search (rules, tests) in
    let k = c.args.call.now.kind in
    let x = g.C.Control.exchanged c.args.control.now in
    let y = g.C.Control.exchanged c.ask_on.new.control in
    let first = reply_value c.in_ok-first.first in
    let named : number_after k (c.args.seconds == 0) c.in_ok-first.first.body.items ≡ Some c.in-Some.number.now =
    sym (c.number_after.ensures ∙ ap (λ (b : List ℕ). number_after k (c.args.seconds == 0) b) c.as_slice.ensures.value) ∙ ap (λ o. option_map (λ n. n.now) o) c.in-Some.is in
    let z = g.C.Control.exchanged c.ask_on-second.new.control in
    let call = call_value c.in_ok-outcome_call.field-0 in
    let limit = c.new-deadline.result.seconds in
    let once : (c.args.seconds == 0) ≡ false = number_once k (c.args.seconds == 0) c.in_ok-first.first.body.items c.in-Some.number.now named in
    let asked : AskedOn y z call false limit (answer_value c.ask_on-second.result) =
    subst (λ (b : Bool). AskedOn y z call b limit (answer_value c.ask_on-second.result)) once c.ask_on-second.ensures in
    subst (λ (n : ℕ). AskedAs x z (call_value c.args.call.now) (c.args.seconds == 0) n (answer_value c.outcome_of.result)) e
    (at_last x y z (call_value c.args.call.now) (c.args.seconds == 0) limit first (answer_value c.outcome_of.result) c.in_default.not-Test c.in_ok-first.ensures
    (by_outcome y z _ c.in-Some.number.now k limit first call (answer_value c.ask_on-second.result) (answer_value c.outcome_of.result) named c.in_ok-outcome_call.ensures asked
    c.outcome_of.ensures))
