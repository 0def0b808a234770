-- The arguments of `node`, `ask` and `key`, as `clap` has them.
use Rattle.std.specs.Prelude.{Bool, true, not, ◌==◌, ◌||◌, List, [], ◌∷◌, Option, bytes_eq, codes}
use Rattle.std.specs.List.{list_any, starts_with}
use Rattle.clap.specs.Words.{App, Row, Text, new_app, with_rule, with_subcommand}
use Rattle.pf_arguments.specs.Options.{with_pfctl}
use Rattle.cli_io.specs.Given.{subcommand_given}
use Rattle.cli_io.specs.Options.{flag_rule, needed_if, needed_rule, number_rule, several_rule, single_rule}
use Rattle.cli_io.specs.Options.{u32_rule, u8_rule, value_rule, with_rules}

-- ---- node

-- node [--config FILE] --me N --cluster C --store FILE [--turns T] [--control PATH] [--metrics ADDR] [--key FILE]
-- [--other-key FILE] [--new-starts] [--unsealed] [--new] [--check] [--quiet] ADDR..
-- A file of settings may have --me, --cluster and --store too.
abbrev pub node_app : (is_needed : Bool) → App
node_app is_needed = with_rules (new_app (codes "node")) (value_rule (codes "config")
    ∷ needed_if is_needed (u8_rule (codes "me"))
    ∷ needed_if is_needed (u32_rule (codes "cluster"))
    ∷ needed_if is_needed (value_rule (codes "store"))
    ∷ u32_rule (codes "turns")
    ∷ value_rule (codes "control") ∷ value_rule (codes "metrics")
    ∷ value_rule (codes "key") ∷ value_rule (codes "other-key")
    ∷ flag_rule (codes "new-starts") ∷ flag_rule (codes "unsealed")
    ∷ flag_rule (codes "new") ∷ flag_rule (codes "check") ∷ flag_rule (codes "quiet")
    ∷ several_rule (codes "member") ∷ [])

-- ---- ask and key

-- ask --to ADDR --cluster C --members N --node N [--wait S], with pfctl's options
abbrev pub ask_app : App
ask_app = with_pfctl (with_rules (new_app (codes "ask")) (needed_rule (codes "to")
    ∷ needed_if true (u32_rule (codes "cluster")) ∷ needed_if true (u8_rule (codes "members"))
    ∷ needed_if true (u8_rule (codes "node")) ∷ number_rule (codes "wait") 0 3600 ∷ []))

-- key [FILE]
abbrev pub key_app : App
key_app = with_rule (new_app (codes "key")) (single_rule (codes "file"))

-- ---- the program

-- the program with these subcommands, of which one has to be given
abbrev pub with_all : (is_needed : Bool) → App
with_all is_needed =
    let node = with_subcommand (new_app (codes "pfx")) (node_app is_needed).top in
    with_subcommand (with_subcommand node ask_app.top) key_app.top

abbrev pub net_app : (is_needed : Bool) → App
net_app is_needed =
    let app = with_all is_needed in record app { top = record app.top { subcommand_required = true } }

-- a file of settings is named
abbrev pub is_config : Text → Bool
is_config argument =
    bytes_eq argument (codes "--config") || starts_with (λ a b. a == b) argument (codes "--config=")

abbrev pub names_config : (arguments : List Text) → Bool
names_config arguments = list_any is_config arguments

-- The subcommand that is named and what is given with it, the program's name first; none where the arguments aren't
-- understood. What a file of settings may have has to be given where none is named.
-- Example: of `pfx node --me 0` none, since no store is named.
abbrev pub given_of : (arguments : List Text) → Option (Text × List Row)
given_of arguments = subcommand_given (net_app (not (names_config arguments))) arguments
