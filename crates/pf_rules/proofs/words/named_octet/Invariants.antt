use Rattle.std.proofs.Common.{◌≡◌, drop, map}
use Rattle.pf_rules.specs.Words.{named}
use Rattle.pf_rules.proofs.words.named_octet.Given as goal

-- the name is looked for in the rows that are left
abbrev pub invariant-loop-name : goal.invariant-loop-name
invariant-loop-name l = named (map (λ r. (r.0.now, r.1)) (drop l.name-index l.table)) l.text ≡ named (map (λ r. (r.0.now, r.1)) l.table) l.text
