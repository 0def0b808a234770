use Rattle.std.proofs.Common.{◌≡◌, ◌++◌, drop, string_bytes}
use Rattle.std.specs.List.{flat_map}
use Rattle.nft_text.specs.Texts.{quoted}
use Rattle.nft_text.proofs.matching.push_quoted.Given as goal

-- the text so far, and what is left
abbrev pub invariant-loop-name : goal.invariant-loop-name
invariant-loop-name l =
    string_bytes l.out ++ flat_map quoted (drop l.name-index l.fn.names)
    ≡ string_bytes l.fn.out ++ flat_map quoted l.fn.names
