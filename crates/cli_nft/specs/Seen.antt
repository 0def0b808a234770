-- What an output of the code stands for.
use Rattle.std.specs.Prelude.{string_bytes}
use Rattle.cli_nft.specs.declared.outputs.Written as code
use Rattle.cli_nft.specs.Outputs.{Written}

-- what an output of the code stands for: its bytes, and whether they are a refusal
abbrev pub written : code.Written → Written
written w = record { text = string_bytes w.text; refused = w.refused }
