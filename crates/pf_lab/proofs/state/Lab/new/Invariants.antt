-- the members so far are those of the beginning
use Rattle.std.proofs.Common.{◌≡◌, length}
use Rattle.pf_lab.proofs.Taking.{AreBegun}
use Rattle.pf_lab.proofs.state.Lab.new.Given as goal

abbrev pub invariant-loop-m : goal.invariant-loop-m
invariant-loop-m l = record {
  begun : AreBegun l.members l.hosts.items;
  count : length l.hosts.items ≡ l.m;
}
