use Rattle.std.proofs.Common.{None, codes, subst, sym}
use Rattle.cli_ask.specs.Scripts.{change_value, items_in, items_left}
use Rattle.cli_ask.specs.Scripting.{Ended, end_text}
use Rattle.cli_ask.proofs.Scripts.{all_begin, all_done, all_bad, all_out, all_ended, all_made, all_skip, is_before, isnt_before, AllSo}
use Rattle.cli_ask.specs.declared.checking.Refused.{Refused}
use Rattle.cli_io.proofs.Given.{ran_out}
use Rattle.cli_ask.proofs.scripting.ScriptRequest.ask.Goals as goal
use Rattle.cli_ask.proofs.scripting.ScriptRequest.ask.Goals.{then-change-self+in_default, else-change-self}

pub loop-change-init : goal.loop-change-init
loop-change-init g c =
    all_begin (g.C.Control.exchanged c.args.control.now) c.args.self.now.from c.args.self.now.seconds (items_in c.args.self.now.script.now) (g.W.Write.contents c.args.writer.now)

pub returns-in-Ok-None : goal.returns-in-Ok-None
returns-in-Ok-None g c =
    all_done (g.C.Control.exchanged c.args.control.now) (g.C.Control.exchanged c.loop-change.control) c.args.self.now.from c.args.self.now.seconds (items_in c.args.self.now.script.now)
    (items_left c.loop-change.left None) (g.W.Write.contents c.args.writer.now) (g.W.Write.contents c.loop-change.writer) c.loop-change.invariant
    (rw c.in-Ok-None.field-0-is at c.in-Ok-None.ensures.found)

pub returns-in-Err-Refused : goal.returns-in-Err-Refused
returns-in-Err-Refused g c =
    all_bad (g.C.Control.exchanged c.args.control.now) (g.C.Control.exchanged c.loop-change.control) c.args.self.now.from c.args.self.now.seconds c.in-Err-Refused.bad.line (items_in c.args.self.now.script.now)
    (items_left c.loop-change.left None) c.write_end.result (g.W.Write.contents c.args.writer.now) (g.W.Write.contents c.loop-change.writer) (g.W.Write.contents c.write_end.new.writer) c.loop-change.invariant
    (rw c.in-Err-Refused.field-0-is at c.in-Err-Refused.ensures.bad).1
    (subst (λ (r : Refused). Ended (end_text (codes "refused 40\n") r.line) c.write_end.result (g.W.Write.contents c.loop-change.writer) (g.W.Write.contents c.write_end.new.writer)) c.in-Err-Refused.bad-is c.write_end.ensures)

pub returns-in-Err : goal.returns-in-Err
returns-in-Err g c =
    all_out (g.C.Control.exchanged c.args.control.now) (g.C.Control.exchanged c.loop-change.control) c.args.self.now.from c.args.self.now.seconds (items_in c.args.self.now.script.now)
    (items_left c.loop-change.left None) c.out_of_memory.result (g.W.Write.contents c.args.writer.now) (g.W.Write.contents c.loop-change.writer) (g.W.Write.contents c.out_of_memory.new.writer) c.loop-change.invariant
    (ran_out c.out_of_memory.result _ _ c.out_of_memory.ensures.ends c.out_of_memory.ensures.failed)

pub returns-in-Some : goal.returns-in-Some
returns-in-Some g c =
    all_ended (g.C.Control.exchanged c.args.control.now) (g.C.Control.exchanged c.loop-change.control) (g.C.Control.exchanged c.ask_one.new.control) c.args.self.now.from c.args.self.now.seconds
    (items_in c.args.self.now.script.now) (items_left c.loop-change.left None) (items_left c.next_change.new.left None) (change_value c.in-Ok-Some.change) c.in-Some.status
    (g.W.Write.contents c.args.writer.now) (g.W.Write.contents c.loop-change.writer) (g.W.Write.contents c.ask_one.new.writer) c.loop-change.invariant
    (rw c.in-Ok-Some.field-0-is at c.in-Ok-Some.ensures.found) (isnt_before _ _ c.if-change-self.true) c.in-Some.ensures

pub loop-change-preserved : goal.loop-change-preserved
loop-change-preserved g c =
    let all = items_in c.args.self.now.script.now in
    let x = g.C.Control.exchanged c.args.control.now in
    let old = g.W.Write.contents c.args.writer.now in
    elim c.if-change-self.branch [
      | then-change-self+in_default w ↦
          subst (λ k. AllSo x (g.C.Control.exchanged k) c.args.self.now.from c.args.self.now.seconds all (items_left c.next_change.new.left None) old (g.W.Write.contents c.if-change-self.writer)) (sym w.control-is)
          (subst (λ k. AllSo x (g.C.Control.exchanged w.ask_one.new.control) c.args.self.now.from c.args.self.now.seconds all (items_left c.next_change.new.left None) old (g.W.Write.contents k)) (sym w.writer-is)
          (all_made x (g.C.Control.exchanged c.loop-change.control) (g.C.Control.exchanged w.ask_one.new.control) c.args.self.now.from c.args.self.now.seconds
          all (items_left c.loop-change.left None) (items_left c.next_change.new.left None) (change_value c.in-Ok-Some.change)
          old (g.W.Write.contents c.loop-change.writer) (g.W.Write.contents w.ask_one.new.writer) c.loop-change.invariant
          (rw c.in-Ok-Some.field-0-is at c.in-Ok-Some.ensures.found) (isnt_before _ _ w.if-change-self.true) (rw w.in_default.is at w.ask_one.ensures)))
      | else-change-self w ↦
          subst (λ k. AllSo x (g.C.Control.exchanged k) c.args.self.now.from c.args.self.now.seconds all (items_left c.next_change.new.left None) old (g.W.Write.contents c.if-change-self.writer)) (sym w.control-is)
          (subst (λ k. AllSo x (g.C.Control.exchanged c.loop-change.control) c.args.self.now.from c.args.self.now.seconds all (items_left c.next_change.new.left None) old (g.W.Write.contents k)) (sym w.writer-is)
          (all_skip x (g.C.Control.exchanged c.loop-change.control) c.args.self.now.from c.args.self.now.seconds
          all (items_left c.loop-change.left None) (items_left c.next_change.new.left None) (change_value c.in-Ok-Some.change)
          old (g.W.Write.contents c.loop-change.writer) c.loop-change.invariant
          (rw c.in-Ok-Some.field-0-is at c.in-Ok-Some.ensures.found) (is_before _ _ w.if-change-self.false)))
    ]
