-- the ruleset ends with the script
use Rattle.std.proofs.Common.{ℕ, List, map, ap}
use Rattle.std.specs.Borrow.{Bor}
use Rattle.pf_lab.proofs.Lines.{ended}
use Rattle.pf_lab.proofs.bench.Bench.finish.Goals as goal

pub returns-in-Some : goal.returns-in-Some
returns-in-Some c v is =
    ended v c.run_words.result c.args.waiting c.in-Some.waiting (map (λ (x : Bor (List ℕ)). x.now) c.deref.result.now)
    c.deref-in-Some.result.now c.run_words.new.self _ _ c.in-Some.is
    (ap (map (λ (x : Bor (List ℕ)). x.now)) c.deref.ensures.value) c.deref-in-Some.ensures.value (c.run_words.ensures v is)
