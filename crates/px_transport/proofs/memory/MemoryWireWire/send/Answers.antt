-- it is kept, or is so no longer
use Rattle.std.proofs.Common.{rules, refl}
use Rattle.px_transport.proofs.Following.{went_handed, went_lost}
use Rattle.px_transport.proofs.memory.MemoryWireWire.send.Goals as goal

pub returns-then-is_ok-clause-handed : goal.returns-then-is_ok-clause-handed
returns-then-is_ok-clause-handed c =
    went_handed c.args.self.now c.keep.new.self _ _ c.keep.ensures.given c.keep.ensures.whole (search rules)

pub returns-clause-handed : goal.returns-clause-handed
returns-clause-handed c = went_lost c.args.self.now _ _ _ c.keep.ensures.given refl
