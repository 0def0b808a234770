-- the datagram comes as the message that it spells
use Rattle.std.proofs.Common.{rules, ◌∙◌, ◌≤◌, ap, sym, subst, refl, List, ℕ, length}
use Rattle.std.proofs.lemmas.Option.{slice_get_read}
use Rattle.px_model.specs.Node.Input.{Comes}
use Rattle.px_model.specs.World.{comes_to, delivered}
use Rattle.px_wire.specs.Message.{DatagramBytes}
use Rattle.px_wire.specs.Members.{as_sent}
use Rattle.pf_lab.specs.Coming.{action_of}
use Rattle.pf_lab.specs.declared.event.LabAction.{LabAction}
use Rattle.px_replica.proofs.Messages.{comes_spelled, unsent}
use Rattle.pf_lab.proofs.coming.what_comes.Goals as goal

pub returns-in-Some-clause-came : goal.returns-in-Some-clause-came
returns-in-Some-clause-came c g w are =
    let sent = c.args.sent.now in
    let d = c.in-Some.datagram.now in
    let at = slice_get_read sent (length sent) c.in-Deliver.k d refl c.in-Some.ensures.lookup.3.0 c.in-Some.ensures.lookup.1 in
    let f = comes_spelled g w sent c.in-Deliver.k d are at in
    let bytes = subst (λ (b : List ℕ). DatagramBytes g f.sender d.to (as_sent f.message) b) (sym c.as_slice.ensures.value) f.bytes in
    record {
      input = Comes f.sender f.message;
      comes = ap (λ (a : LabAction). comes_to w (action_of a)) c.in-Deliver.is ∙ f.comes;
      is_spelled = (f.sender, f.message, (f.passes, (bytes, refl)));
    }

pub returns-in-None-clause-none : goal.returns-in-None-clause-none
returns-in-None-clause-none c g w are none =
    let sent = c.args.sent.now in
    let over : length sent ≤ c.in-Deliver.k = search (rules, c.in-None.ensures.lookup) in
    ap (λ (a : LabAction). comes_to w (action_of a)) c.in-Deliver.is ∙ ap delivered (unsent g w.sent sent c.in-Deliver.k are over)
