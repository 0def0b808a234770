use Rattle.std.proofs.Common.{◌≡◌, ◌++◌, map, drop}
use Rattle.nft_rules.specs.inner.Rendering.{chain_in}
use Rattle.nft_rules.specs.Seen.{chain_of, machine_of}
use Rattle.nft_rules.proofs.rendering.push_chains.Given as goal

abbrev pub invariant-loop-path : goal.invariant-loop-path
invariant-loop-path l =
    let each = chain_in l.fn.pass l.fn.place.config.now (machine_of l.fn.place.machine.now) l.fn.place.direction in
    map chain_of l.chains.items ++ map each (map (λ p. p.now) (drop l.path-index l.paths))
    ≡ map chain_of l.fn.chains.items ++ map each (map (λ p. p.now) l.fn.paths)
