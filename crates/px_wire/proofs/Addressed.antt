-- One byte has a datagram's addressee.
use Rattle.std.proofs.Common.{ℕ, List, ap}
use Rattle.std.specs.Prelude.{slice_set}
use Rattle.px_wire.specs.Message.{Group, Message, HasSpelling, DatagramBytes}

pub addressed : (g : Group) (from before to : ℕ) (message : Message) (bytes : List ℕ) → DatagramBytes g from before message bytes → HasSpelling g from to message → DatagramBytes g from to message (slice_set bytes 11 to)
addressed g from before to message bytes d h = record { fits = h; spelled = ap (λ (b : List ℕ). slice_set b 11 to) d.spelled }
