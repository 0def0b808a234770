use Rattle.std.proofs.Common.{◌≡◌, ◌++◌, drop, filter}
use Rattle.nft_rules.specs.Evaluation.{turned}
use Rattle.nft_rules.specs.Rendering.{names_in, known, is_skipped}
use Rattle.nft_rules.specs.Seen.{machine_of}
use Rattle.nft_rules.proofs.machine.interfaces_named.Given as goal

abbrev pub invariant-loop-interface : goal.invariant-loop-interface
invariant-loop-interface l =
    let kept = filter (λ n. turned l.fn.negated (is_skipped l.fn.wanted (names_in (machine_of l.fn.machine) n))) in
    l.names.items ++ kept (known (machine_of (drop l.interface-index l.machine))) ≡ kept (known (machine_of l.fn.machine))
