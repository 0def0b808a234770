use Rattle.std.proofs.Common.{subst}
use Rattle.std.specs.Prelude.{IfOk}
use Rattle.px_model.specs.Seen.{message_of as sent_of}
use Rattle.px_wire.specs.Message.{group, Message, DatagramBytes}
use Rattle.px_wire.proofs.Members.{member_has, member_is_sent}
use Rattle.px_wire.proofs.encoding.encode_sent.Goals as goal

pub encode-requires : goal.encode-requires
encode-requires c = member_has c.args.m.now c.args.to c.view-view.result (sent_of c.args.message.now) c.requires.member c.requires.fits c.view-view.ensures

pub returns : goal.returns
returns c = subst (λ (w : Message). IfOk c.encode.result (λ v. DatagramBytes (group c.args.m.now) c.args.m.now.me c.args.to w v.items)) (member_is_sent c.args.m.now c.args.to c.view-view.result (sent_of c.args.message.now) c.requires.member c.requires.fits c.view-view.ensures) c.encode.ensures
