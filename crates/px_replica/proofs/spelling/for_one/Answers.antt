-- what is sent to one can be spelled
use Rattle.std.proofs.Common.{rules, ◌≡◌, List, [], ◌∷◌, refl, sym, subst}
use Rattle.px_wire.specs.Message.{group}
use Rattle.px_replica.specs.Spelled.{IsSpelled, AreSpelled}
use Rattle.px_replica.specs.inner.Spelled.{envelope}
use Rattle.px_replica.specs.declared.datagram.Datagram.{Datagram}
use Rattle.px_model.specs.Seen.{message_of}
use Rattle.px_replica.proofs.Sending.{one_passes}
use Rattle.px_replica.proofs.spelling.for_one.Goals as goal

pub encode_sent-requires-clause-fits : goal.encode_sent-requires-clause-fits
encode_sent-requires-clause-fits c =
    let m = c.args.m.now in
    one_passes m.members m.me c.args.to (message_of c.args.message.now) c.requires.fits

pub returns : goal.returns
returns c =
    let m = c.args.m.now in
    let x = message_of c.args.message.now in
    let d : Datagram = record { to = c.args.to; bytes = c.in_ok-bytes.bytes } in
    let one : IsSpelled (group m) (envelope m.me c.args.to x) d =
    record { passes = one_passes m.members m.me c.args.to x c.requires.fits; addressee = refl; bytes = c.in_ok-bytes.ensures } in
    let items : c.push.new.self.items ≡ d ∷ [] = search (rules, c.in_ok-push.ensures.items, c.in_ok-all.ensures.items) in
    subst (λ (ds : List Datagram). AreSpelled (group m) (envelope m.me c.args.to x ∷ []) ds) (sym items) (one, tt)
