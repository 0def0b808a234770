use Rattle.std.proofs.Common.{◌∙◌, ◌+◌, ap}
use Rattle.cli_follow.specs.inner.Seen.{follower_of, wanted_of, due_in}
use Rattle.cli_follow.proofs.Runs.{entries_lead, entries_fail, status_leads, status_fails}
use Rattle.cli_follow.proofs.running.ask.Goals as goal

pub returns-in_err-due-clause-failed : goal.returns-in_err-due-clause-failed
returns-in_err-due-clause-failed g c =
    entries_fail c.from_residual.result (g.C.Control.exchanged c.args.control.now) (g.C.Control.exchanged c.entries-answer.new.self)
    (wanted_of c.args.follower.now) (follower_of c.args.asks c.args.follower.now) c.entries-answer.result c.entries-answer.ensures

pub returns-in-Status-clause-due : goal.returns-in-Status-clause-due
returns-in-Status-clause-due g c =
    let w = wanted_of c.entered.new.self in
    let f = follower_of (c.args.asks + 1) c.entered.new.self in
    status_leads c.informed.result (g.C.Control.exchanged c.args.control.now) (g.C.Control.exchanged c.entries-answer.new.self) (g.C.Control.exchanged c.status-answer.new.self)
    (wanted_of c.args.follower.now) w (wanted_of c.informed.new.self) (follower_of c.args.asks c.args.follower.now) (c.args.asks + 1)
    (λ k. follower_of k c.entered.new.self) (λ k. follower_of k c.informed.new.self) c.entries-answer.result c.status-answer.result
    c.entries-answer.ensures c.status-answer.ensures c.entered.ensures.wanted c.informed.ensures.wanted
    (c.in_ok-due.ensures.due ∙ ap (λ d. due_in w f d) c.in-Status.is) c.informed.ensures.due

pub returns-in-Status-clause-failed : goal.returns-in-Status-clause-failed
returns-in-Status-clause-failed g c =
    let w = wanted_of c.entered.new.self in
    let f = follower_of (c.args.asks + 1) c.entered.new.self in
    status_fails c.informed.result (g.C.Control.exchanged c.args.control.now) (g.C.Control.exchanged c.entries-answer.new.self) (g.C.Control.exchanged c.status-answer.new.self)
    (wanted_of c.args.follower.now) (follower_of c.args.asks c.args.follower.now) f c.entries-answer.result c.status-answer.result
    c.entries-answer.ensures c.status-answer.ensures (c.in_ok-due.ensures.due ∙ ap (λ d. due_in w f d) c.in-Status.is)

pub returns-in_default : goal.returns-in_default
returns-in_default g c = record {
  due = entries_lead (g.C.Control.exchanged c.args.control.now) (g.C.Control.exchanged c.entries-answer.new.self)
      (wanted_of c.args.follower.now) (wanted_of c.entered.new.self) (follower_of c.args.asks c.args.follower.now) (follower_of (c.args.asks + 1) c.entered.new.self)
      c.entries-answer.result c.in_ok-due.due c.entries-answer.ensures c.entered.ensures.wanted c.in_ok-due.ensures.due;
  failed = tt;
  status = c.in_default.not-Status;
  wanted = c.entered.ensures.wanted;
}
