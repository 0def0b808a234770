-- The arguments of `ask` with `--control`, as `clap` has them.
use Rattle.std.specs.Prelude.{List, [], ◌∷◌, Option, codes}
use Rattle.clap.specs.Words.{App, Row, Text, new_app}
use Rattle.pf_arguments.specs.Options.{with_pfctl}
use Rattle.cli_io.specs.Given.{program_of, given_with}
use Rattle.cli_io.specs.Options.{flag_rule, needed_rule, number_rule, value_rule, with_rules}

-- ask --control PATH [--wait S] [--at A] [--unchecked] [--script FILE [--from LINE]], with pfctl's options
abbrev pub ask_app : App
ask_app = with_pfctl (with_rules (new_app (codes "ask")) (needed_rule (codes "control")
    ∷ number_rule (codes "wait") 0 3600 ∷ number_rule (codes "at") 0 1000000 ∷ flag_rule (codes "unchecked")
    ∷ value_rule (codes "script") ∷ number_rule (codes "from") 1 4294967295 ∷ []))

-- the program with this subcommand, which has to be given
abbrev pub pfx_app : App
pfx_app = program_of ask_app

-- what is given with `ask`, the program's name first; none where the arguments aren't understood
-- Example: of `pfx ask --control` none, since the option has no value.
abbrev pub given_of : (arguments : List Text) → Option (List Row)
given_of arguments = given_with pfx_app (codes "ask") arguments
