use Rattle.std.proofs.Common.{subst}
use Rattle.px_wire.specs.Message.{Group, DatagramBytes}
use Rattle.px_wire.specs.Seen.{message_of}
use Rattle.px_wire.proofs.laws.what_one_encodes_the_other_decodes.Goals as goal

pub returns : goal.returns
returns c = c.decode.ensures.only c.args.sender.now.me (message_of c.args.message.now) (subst (λ (g : Group). DatagramBytes g c.args.sender.now.me c.args.reader.now.me (message_of c.args.message.now) c.args.bytes.now) c.requires.same c.requires.encoded)
