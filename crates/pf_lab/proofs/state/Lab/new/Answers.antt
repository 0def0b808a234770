-- one more begins
use Rattle.std.proofs.Common.{rules, ◌≡◌, ◌++◌, ◌∷◌, [], ◌+◌, List, length, sym, ap, subst, arith}
use Rattle.std.proofs.lemmas.List.{length-append}
use Rattle.pf_lab.specs.declared.host.Host.{Host}
use Rattle.pf_lab.proofs.Taking.{AreBegun, pushed_begun}
use Rattle.pf_lab.proofs.state.Lab.new.Goals as goal

pub loop-m-preserved : goal.loop-m-preserved
loop-m-preserved c =
    let hosts = c.loop-m.hosts.items in
    let s = c.in_ok-host.host in
    let items : c.push.new.self.items ≡ hosts ++ s ∷ [] = search (rules, c.push.ensures.items) in
    let more : length (hosts ++ s ∷ []) ≡ length hosts + 1 = length-append hosts (s ∷ []) in
    let long : length c.push.new.self.items ≡ length (hosts ++ s ∷ []) = ap length items in
    record {
      begun = subst (λ (xs : List Host). AreBegun c.args.members xs) (sym items) (pushed_begun c.args.members c.loop-m.m hosts s c.loop-m.invariant.begun c.loop-m.invariant.count c.in_ok-host.ensures.host);
      count = omega (arith, long, more, c.loop-m.invariant.count);
    }
