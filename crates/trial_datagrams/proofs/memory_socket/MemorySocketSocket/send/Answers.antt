-- it is kept, or is so no longer
use Rattle.std.proofs.Common.{false, refl}
use Rattle.trial_datagrams.proofs.Coming.{went_kept, went_lost}
use Rattle.trial_datagrams.proofs.memory_socket.MemorySocketSocket.send.Goals as goal

pub returns-in-Ok : goal.returns-in-Ok
returns-in-Ok c = record {
  went = went_kept c.args.self.now c.keep.new.self c.args.to c.args.bytes.now c.keep.ensures.came c.keep.ensures.whole c.in-Ok.ensures.kept;
}

pub returns-in-Err : goal.returns-in-Err
returns-in-Err c = record {
  went = went_lost c.args.self.now (record c.keep.new.self { is_whole = false }) c.args.to c.args.bytes.now c.keep.ensures.came refl;
}
