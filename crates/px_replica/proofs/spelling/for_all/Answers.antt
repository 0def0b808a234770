-- one more is spelled
use Rattle.std.proofs.Common.{ℕ, suc, add-one, List, refl, sym, subst}
use Rattle.px_model.specs.Step.{to_all}
use Rattle.px_model.specs.Seen.{message_of}
use Rattle.px_wire.specs.Message.{group}
use Rattle.px_replica.specs.Spelled.{AreSpelled}
use Rattle.px_replica.specs.inner.Spelled.{envelope}
use Rattle.px_replica.specs.declared.datagram.Datagram.{Datagram}
use Rattle.px_replica.proofs.Groups.{some_members}
use Rattle.px_replica.proofs.Sending.{all_pass, are_more}
use Rattle.px_replica.proofs.spelling.for_all.Goals as goal

pub encode_sent-requires-clause-fits : goal.encode_sent-requires-clause-fits
encode_sent-requires-clause-fits c =
    let m = c.args.m.now in
    all_pass m.members m.me 0 (message_of c.args.message.now) c.requires.fits (some_members m)

pub loop-to-preserved : goal.loop-to-preserved
loop-to-preserved c =
    let m = c.args.m.now in
    let x = message_of c.args.message.now in
    let k = c.loop-to.to in
    let more = are_more (group m) (to_all k m.me x) c.loop-to.all.items (envelope m.me k x) c.in_ok-datagram.datagram c.loop-to.invariant c.in_ok-datagram.ensures in
    subst (λ (j : ℕ). AreSpelled (group m) (to_all j m.me x) c.push.new.self.items) (sym (add-one k))
    (subst (λ (ds : List Datagram). AreSpelled (group m) (to_all (suc k) m.me x) ds) (sym c.in_ok-push.ensures.items) more)

pub addressed-requires-clause-first : goal.addressed-requires-clause-first
addressed-requires-clause-first c =
    let m = c.args.m.now in
    record {
      passes = all_pass m.members m.me 0 (message_of c.args.message.now) c.requires.fits (some_members m);
      addressee = refl;
      bytes = c.in_ok-bytes.ensures;
    }
