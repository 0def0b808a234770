use Rattle.std.proofs.Common.{◌∙◌, ap, sym}
use Rattle.node_requests.specs.Routing.{routed_value}
use Rattle.node_control.proofs.Routing.{passed_over, unserved, served_over}
use Rattle.node_control.proofs.service.HttpService.handle.Goals as goal

pub returns-then-not-is_served-clause-handled : goal.returns-then-not-is_served-clause-handled
returns-then-not-is_served-clause-handled g c =
    unserved c.refuse.result _ _ c.args.request.now _ (sym c.is_served.ensures ∙ c.if-not-is_served.true) c.refuse.ensures.away

pub returns-in-Asked-clause-handled : goal.returns-in-Asked-clause-handled
returns-in-Asked-clause-handled g c =
    served_over c.pass_on.result _ _ c.args.request.now _ _ (sym c.is_served.ensures ∙ c.if-not-is_served.false)
    c.in_ok-routed.ensures (passed_over c.pass_on.result c.args.self.now c.pass_on.new.self c.in-Asked.asked _
    (routed_value c.in_ok-routed.routed) (ap routed_value c.in-Asked.is) c.pass_on.ensures.passed)
