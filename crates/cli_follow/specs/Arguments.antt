-- The arguments of `follow`, as `clap` has them.
use Rattle.std.specs.Prelude.{List, [], ◌∷◌, Option, codes}
use Rattle.clap.specs.Words.{App, Row, Text, new_app}
use Rattle.cli_io.specs.Given.{program_of, given_with}
use Rattle.cli_io.specs.Options.{flag_rule, needed_rule, number_rule, value_rule, with_rules}

-- follow --control PATH [--nft] [--interfaces FILE] [--no-member-guard] [--pf DIR] [--turns T], T of 64 bits
abbrev pub follow_app : App
follow_app = with_rules (new_app (codes "follow")) (needed_rule (codes "control") ∷ flag_rule (codes "nft")
    ∷ value_rule (codes "interfaces") ∷ flag_rule (codes "no-member-guard") ∷ value_rule (codes "pf")
    ∷ number_rule (codes "turns") 0 18446744073709551615 ∷ [])

-- the program with this subcommand, which has to be given
abbrev pub pfx_app : App
pfx_app = program_of follow_app

-- what is given with `follow`, the program's name first; none where the arguments aren't understood
-- Example: of `pfx follow --nft` none, since `--control` is missing.
abbrev pub given_of : (arguments : List Text) → Option (List Row)
given_of arguments = given_with pfx_app (codes "follow") arguments
