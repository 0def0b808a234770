use Rattle.std.proofs.Common.{◌≡◌, ◌++◌, List, map, drop, option_map}
use Rattle.nft_rules.specs.declared.guard.Member.{Member}
use Rattle.cli_nft.specs.Options.{members_at}
use Rattle.cli_nft.proofs.members.members_in.Given as goal

abbrev pub invariant-loop-text : goal.invariant-loop-text
invariant-loop-text l =
    option_map (λ (more : List Member). l.members.items ++ more) (members_at (map (λ t. t.now) (drop l.text-index l.texts)))
    ≡ members_at (map (λ t. t.now) l.fn.texts)
