use Rattle.std.specs.Int.{w64, to_be_bytes}
use Rattle.px_wire.specs.Seen.{lent_of}
use Rattle.px_wire.specs.Message.{sized}
use Rattle.px_wire.proofs.Joined.{joined}
use Rattle.px_wire.proofs.encoding.put_accepted.Goals as goal

pub returns : goal.returns
returns c = joined c.args.out.now.items c.put_u64.new.out.items c.put_sized.new.out.items (to_be_bytes w64 c.args.ballot) (sized (lent_of c.args.entry.now)) c.in_ok-put_u64.ensures c.in_ok-put_sized.ensures
