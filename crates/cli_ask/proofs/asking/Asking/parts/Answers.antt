use Rattle.std.proofs.Common.{◌≡◌, ◌∙◌, ℕ, ◌+◌, ◌++◌, true, false, List, Option, Some, Err, ap, subst, sym, arith, rules, tests}
use Rattle.cli_ask.specs.Calls.{call_value}
use Rattle.cli_ask.specs.Replies.{reply_value}
use Rattle.cli_ask.specs.Asking.{Answered, BegunParts, is_whole, parts_value, with_more}
use Rattle.cli_ask.specs.declared.exchange.AskFault.TheVariants as fault
use Rattle.cli_ask.proofs.Parts.{rest_of, first_part, first_fault, parts_memory, parts_whole, parts_spent, parts_fault, parts_other, parts_more}
use Rattle.cli_ask.proofs.asking.Asking.parts.Goals as goal

pub returns-in_err-so_far : goal.returns-in_err-so_far
returns-in_err-so_far g c =
    let e : parts_value c.from_residual.result ≡ Some (Err c.in_err-so_far.field-0.0) = search rules in
    subst (λ (v : Option Answered). BegunParts (g.C.Control.exchanged c.args.control.now) (g.C.Control.exchanged c.ask_on.new.control) (call_value c.args.call.now) c.args.self.now.is_once c.args.self.now.deadline.seconds v) (sym e)
    (first_fault (g.C.Control.exchanged c.args.control.now) (g.C.Control.exchanged c.ask_on.new.control) (call_value c.args.call.now) c.args.self.now.is_once c.args.self.now.deadline.seconds
    c.in_err-so_far.field-0.0 c.in_err-so_far.ensures)

pub loop-part-init : goal.loop-part-init
loop-part-init g c =
    first_part (g.C.Control.exchanged c.args.control.now) (g.C.Control.exchanged c.ask_on.new.control) (call_value c.args.call.now) c.args.self.now.is_once c.args.self.now.deadline.seconds
    (reply_value c.in_ok-so_far.so_far) c.in_ok-so_far.ensures

pub returns-then-so_far-ne200 : goal.returns-then-so_far-ne200
returns-then-so_far-ne200 g c =
    let whole : is_whole (Some (reply_value c.loop-part.so_far)) (call_value c.args.call.now).body ≡ true = search (rules, tests) in
    parts_whole (g.C.Control.exchanged c.args.control.now) (g.C.Control.exchanged c.loop-part.control) (call_value c.args.call.now) c.args.self.now.is_once c.args.self.now.deadline.seconds
    c.loop-part._part (reply_value c.loop-part.so_far) c.loop-part.invariant whole

pub returns-in_err-others : goal.returns-in_err-others
returns-in_err-others g c =
    let e : parts_value c.from_residual-in_err-others.result ≡ Some (Err fault.Memory) = search rules in
    subst (λ (v : Option Answered). BegunParts (g.C.Control.exchanged c.args.control.now) (g.C.Control.exchanged c.loop-part.control) (call_value c.args.call.now) c.args.self.now.is_once c.args.self.now.deadline.seconds v) (sym e)
    (parts_memory (g.C.Control.exchanged c.args.control.now) (g.C.Control.exchanged c.loop-part.control) (call_value c.args.call.now) c.args.self.now.is_once c.args.self.now.deadline.seconds
    c.loop-part._part (reply_value c.loop-part.so_far) c.loop-part.invariant)

pub returns-in_err-next : goal.returns-in_err-next
returns-in_err-next g c =
    let whole : is_whole (Some (reply_value c.loop-part.so_far)) (call_value c.args.call.now).body ≡ false = search (rules, tests) in
    let same : call_value c.in_ok-others.others ≡ rest_of (call_value c.args.call.now) (reply_value c.loop-part.so_far) =
    c.in_ok-others.ensures ∙ ap (λ (b : List ℕ). record (call_value c.args.call.now) { body = b }) c.left_by-left.ensures in
    let e : parts_value c.from_residual-in_err-next.result ≡ Some (Err c.in_err-next.field-0.0) = search rules in
    subst (λ (v : Option Answered). BegunParts (g.C.Control.exchanged c.args.control.now) (g.C.Control.exchanged c.ask_on-in-loop-part.new.control) (call_value c.args.call.now) c.args.self.now.is_once c.args.self.now.deadline.seconds v) (sym e)
    (parts_fault (g.C.Control.exchanged c.args.control.now) (g.C.Control.exchanged c.loop-part.control) (g.C.Control.exchanged c.ask_on-in-loop-part.new.control)
    (call_value c.args.call.now) (call_value c.in_ok-others.others) c.args.self.now.is_once c.args.self.now.deadline.seconds
    c.loop-part._part (reply_value c.loop-part.so_far) c.in_err-next.field-0.0 c.loop-part.invariant whole same c.in_err-next.ensures)

pub returns-then-ne : goal.returns-then-ne
returns-then-ne g c =
    let whole : is_whole (Some (reply_value c.loop-part.so_far)) (call_value c.args.call.now).body ≡ false = search (rules, tests) in
    let other : c.in_ok-next.next.applied ≡ c.loop-part.so_far.applied → ⊥ = search (rules, tests) in
    let same : call_value c.in_ok-others.others ≡ rest_of (call_value c.args.call.now) (reply_value c.loop-part.so_far) =
    c.in_ok-others.ensures ∙ ap (λ (b : List ℕ). record (call_value c.args.call.now) { body = b }) c.left_by-left.ensures in
    parts_other (g.C.Control.exchanged c.args.control.now) (g.C.Control.exchanged c.loop-part.control) (g.C.Control.exchanged c.ask_on-in-loop-part.new.control)
    (call_value c.args.call.now) (call_value c.in_ok-others.others) c.args.self.now.is_once c.args.self.now.deadline.seconds
    c.loop-part._part (reply_value c.loop-part.so_far) (reply_value c.in_ok-next.next) c.loop-part.invariant whole same c.in_ok-next.ensures
    other

pub returns-in_err-extend_from_slice : goal.returns-in_err-extend_from_slice
returns-in_err-extend_from_slice g c =
    let whole : is_whole (Some (reply_value c.loop-part.so_far)) (call_value c.args.call.now).body ≡ false = search (rules, tests) in
    let one : c.in_ok-next.next.applied ≡ c.loop-part.so_far.applied = search (rules, tests) in
    let same : call_value c.in_ok-others.others ≡ rest_of (call_value c.args.call.now) (reply_value c.loop-part.so_far) =
    c.in_ok-others.ensures ∙ ap (λ (b : List ℕ). record (call_value c.args.call.now) { body = b }) c.left_by-left.ensures in
    let so = parts_more (g.C.Control.exchanged c.args.control.now) (g.C.Control.exchanged c.loop-part.control) (g.C.Control.exchanged c.ask_on-in-loop-part.new.control)
    (call_value c.args.call.now) (call_value c.in_ok-others.others) c.args.self.now.is_once c.args.self.now.deadline.seconds
    c.loop-part._part (reply_value c.loop-part.so_far) (reply_value c.in_ok-next.next) c.loop-part.invariant whole same c.in_ok-next.ensures
    one in
    let e : parts_value c.from_residual-in_err-extend_from_slice.result ≡ Some (Err fault.Memory) = search rules in
    subst (λ (v : Option Answered). BegunParts (g.C.Control.exchanged c.args.control.now) (g.C.Control.exchanged c.ask_on-in-loop-part.new.control) (call_value c.args.call.now) c.args.self.now.is_once c.args.self.now.deadline.seconds v) (sym e)
    (parts_memory (g.C.Control.exchanged c.args.control.now) (g.C.Control.exchanged c.ask_on-in-loop-part.new.control) (call_value c.args.call.now) c.args.self.now.is_once c.args.self.now.deadline.seconds
    (c.loop-part._part + 1) (with_more (Some (reply_value c.loop-part.so_far)) (reply_value c.in_ok-next.next)) so)

pub loop-part-preserved : goal.loop-part-preserved
loop-part-preserved g c =
    let whole : is_whole (Some (reply_value c.loop-part.so_far)) (call_value c.args.call.now).body ≡ false = search (rules, tests) in
    let one : c.in_ok-next.next.applied ≡ c.loop-part.so_far.applied = search (rules, tests) in
    let same : call_value c.in_ok-others.others ≡ rest_of (call_value c.args.call.now) (reply_value c.loop-part.so_far) =
    c.in_ok-others.ensures ∙ ap (λ (b : List ℕ). record (call_value c.args.call.now) { body = b }) c.left_by-left.ensures in
    let so = parts_more (g.C.Control.exchanged c.args.control.now) (g.C.Control.exchanged c.loop-part.control) (g.C.Control.exchanged c.ask_on-in-loop-part.new.control)
    (call_value c.args.call.now) (call_value c.in_ok-others.others) c.args.self.now.is_once c.args.self.now.deadline.seconds
    c.loop-part._part (reply_value c.loop-part.so_far) (reply_value c.in_ok-next.next) c.loop-part.invariant whole same c.in_ok-next.ensures
    one in
    let more : c.extend_from_slice.new.self.items ≡ c.loop-part.so_far.body.items ++ c.in_ok-next.next.body.items =
    c.in_ok-extend_from_slice.ensures.items ∙ ap (λ (l : List ℕ). c.loop-part.so_far.body.items ++ l) c.as_slice.ensures.value in
    rw more so

pub returns : goal.returns
returns g c =
    parts_spent (g.C.Control.exchanged c.args.control.now) (g.C.Control.exchanged c.loop-part.control) (call_value c.args.call.now) c.args.self.now.is_once c.args.self.now.deadline.seconds
    c.loop-part._part (reply_value c.loop-part.so_far) c.loop-part.invariant (omega arith)
