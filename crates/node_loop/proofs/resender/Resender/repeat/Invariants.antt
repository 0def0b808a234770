-- of the last proposal the first ones were handed over again
use Rattle.std.proofs.Common.{◌≡◌}
use Rattle.px_transport.specs.Wires.{IsQuiet}
use Rattle.node_loop.specs.Again.{HandsFirst}
use Rattle.node_loop.specs.Resends.{latest_of, kept_of, me_of, members_of, requests_of, time_of}
use Rattle.node_loop.proofs.resender.Resender.repeat.Given as goal

abbrev pub invariant-loop-i : goal.invariant-loop-i
invariant-loop-i g l = record {
  first : HandsFirst l.i (latest_of l.fn.self) (g.W.Wire.traffic l.fn.wire) (g.W.Wire.traffic l.wire);
  none : l.i ≡ 0 → IsQuiet (g.W.Wire.traffic l.fn.wire) (g.W.Wire.traffic l.wire);
  latest : latest_of l.self ≡ latest_of l.fn.self;
  kept : kept_of l.self ≡ kept_of l.fn.self;
  requests : requests_of l.self ≡ requests_of l.fn.self;
  me : me_of l.self ≡ me_of l.fn.self;
  members : members_of l.self ≡ members_of l.fn.self;
  time : time_of l.self ≡ time_of l.fn.self;
  same : g.W.Wire.identity l.wire ≡ g.W.Wire.identity l.fn.wire;
}
