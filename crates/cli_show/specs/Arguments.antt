-- The arguments of `show`, as `clap` has them.
use Rattle.std.specs.Prelude.{List, [], ◌∷◌, Option, codes}
use Rattle.clap.specs.Words.{App, Row, Text, new_app}
use Rattle.pf_arguments.specs.Options.{with_pfctl}
use Rattle.cli_io.specs.Given.{program_of, given_with}
use Rattle.cli_io.specs.Options.{flag_rule, needed_rule, number_rule, value_rule, with_rules}

-- show --store FILE [--nft --interfaces FILE] [--pf] [--script] [--from P] [--count N], with pfctl's options
abbrev pub show_app : App
show_app = with_pfctl (with_rules (new_app (codes "show")) (needed_rule (codes "store")
    ∷ flag_rule (codes "nft") ∷ value_rule (codes "interfaces") ∷ flag_rule (codes "pf") ∷ flag_rule (codes "script")
    ∷ number_rule (codes "from") 0 1000000 ∷ number_rule (codes "count") 0 1000000 ∷ []))

-- the program with this subcommand, which has to be given
abbrev pub pfx_app : App
pfx_app = program_of show_app

-- what is given with `show`, the program's name first; none where the arguments aren't understood
-- Example: of `pfx show --pf` none, since `--store` is missing.
abbrev pub given_of : (arguments : List Text) → Option (List Row)
given_of arguments = given_with pfx_app (codes "show") arguments
