use Rattle.std.proofs.Common.{◌≡◌, ◌++◌, map, drop}
use Rattle.std.specs.List.{list_all}
use Rattle.pf_rules.specs.Words.{is_interface_text}
use Rattle.cli_nft.proofs.machines.names_of.Given as goal

abbrev pub invariant-loop-word : goal.invariant-loop-word
invariant-loop-word l = (l.names.items ++ map (λ w. w.now) (drop l.word-index l.words) ≡ map (λ w. w.now) l.fn.words)
    × (list_all is_interface_text (map (λ w. w.now) (drop l.word-index l.words)) ≡ list_all is_interface_text (map (λ w. w.now) l.fn.words))
