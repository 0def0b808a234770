-- The arguments with which the program makes its run, of those that it is given; the program's name is the first.
use Rattle.std.specs.Prelude.{ℕ, Bool, true, false, cond, not, ◌&&◌, ◌||◌, ◌==◌, List, [], ◌∷◌, Option, None, Some}
use Rattle.std.specs.Prelude.{bytes_eq, codes, if◌then◌else◌}
use Rattle.std.specs.List.{list_any, starts_with}
use Rattle.cli_nft.specs.Running.{asks_nft}
use Rattle.pfx.specs.declared.kind.Kind.{Kind}
use Rattle.pfx.specs.declared.kind.Kind.TheVariants as kind

-- the first argument behind the program's name, empty where there is none
abbrev pub subcommand_of : (arguments : List (List ℕ)) → List ℕ
subcommand_of [] = []
subcommand_of (name ∷ []) = []
subcommand_of (name ∷ subcommand ∷ rest) = subcommand

-- the command lines of a batch are asked for
abbrev pub is_batch : (arguments : List (List ℕ)) → Bool
is_batch arguments = bytes_eq (subcommand_of arguments) (codes "batch")

-- ---- help

-- a crate of its own prints the help of this subcommand
abbrev pub has_help : (subcommand : List ℕ) → Bool
has_help subcommand = bytes_eq subcommand (codes "node") || bytes_eq subcommand (codes "ask")
    || bytes_eq subcommand (codes "key") || bytes_eq subcommand (codes "show")
    || bytes_eq subcommand (codes "follow") || bytes_eq subcommand (codes "batch")

-- the subcommand whose help `help SUBCOMMAND` asks for, where a crate of its own prints it
abbrev pub helped : (arguments : List (List ℕ)) → Option (List ℕ)
helped (name ∷ first ∷ subcommand ∷ []) =
    cond (bytes_eq first (codes "help") && has_help subcommand) (Some subcommand) None
helped _ = None

-- an argument that asks for help
abbrev pub is_help : (argument : List ℕ) → Bool
is_help argument = bytes_eq argument (codes "--help") || bytes_eq argument (codes "-h")

-- ---- the control socket

-- an argument is `--control` or `--to`, with its value or without
-- Example: --control=run/pfx.
abbrev pub names_control : (argument : List ℕ) → Bool
names_control argument = starts_with (λ a b. a == b) argument (codes "--control")

abbrev pub names_node : (argument : List ℕ) → Bool
names_node argument = starts_with (λ a b. a == b) argument (codes "--to")

-- with this argument the environment names no control socket: it names one, or a node's address, or asks for help
abbrev pub excludes_control : (argument : List ℕ) → Bool
excludes_control argument = names_control argument || names_node argument || is_help argument

-- ask or follow, without such an argument
abbrev pub lacks_control : (arguments : List (List ℕ)) → Bool
lacks_control arguments = (bytes_eq (subcommand_of arguments) (codes "ask")
    || bytes_eq (subcommand_of arguments) (codes "follow")) && not (list_any excludes_control arguments)

-- the arguments with `--control PATH` behind the subcommand
abbrev pub with_control : (arguments : List (List ℕ)) → (path : List ℕ) → List (List ℕ)
with_control [] path = []
with_control (name ∷ []) path = name ∷ []
with_control (name ∷ subcommand ∷ rest) path = name ∷ subcommand ∷ codes "--control" ∷ path ∷ rest

-- the arguments, at the control socket that the environment names where they lack one
abbrev pub at_control : (arguments : List (List ℕ)) → (control : Option (List ℕ)) → List (List ℕ)
at_control arguments None = arguments
at_control arguments (Some path) = cond (lacks_control arguments) (with_control arguments path) arguments

-- ---- what a command line is

-- a control socket is named
abbrev pub has_control : (arguments : List (List ℕ)) → Bool
has_control arguments = list_any names_control arguments

-- help is asked for, and no node is named
abbrev pub asks_help : (arguments : List (List ℕ)) → Bool
asks_help arguments = list_any is_help arguments && not (list_any names_node arguments)

-- `ask` at a control socket where one is named, else its help or the one over UDP
abbrev pub ask_kind : (arguments : List (List ℕ)) → Kind
ask_kind arguments = if has_control arguments then kind.Socket else
    if asks_help arguments then kind.AskHelp else kind.Net

-- Example: of `pfx ask --control=run/pfx list` it is Socket, of `pfx key` Net, of `pfx check --nft` Nft.
abbrev pub kind_by : (subcommand : List ℕ) → (arguments : List (List ℕ)) → Kind
kind_by subcommand arguments =
    if bytes_eq subcommand (codes "--version") || bytes_eq subcommand (codes "-V") then kind.Version else
    if bytes_eq subcommand (codes "ask") then ask_kind arguments else
    if bytes_eq subcommand (codes "node") || bytes_eq subcommand (codes "key") then kind.Net else
    if bytes_eq subcommand (codes "show") then kind.Show else
    if bytes_eq subcommand (codes "follow") then kind.Follow else
    if asks_nft arguments then kind.Nft else kind.Tool

abbrev pub kind_of : (arguments : List (List ℕ)) → Kind
kind_of arguments = kind_by (subcommand_of arguments) arguments

-- asks at a control socket
abbrev pub is_asking : Kind → Bool
is_asking kind.Socket = true
is_asking kind.AskHelp = true
is_asking k = false

-- runs a node, asks one over UDP, or makes a key
abbrev pub is_netting : Kind → Bool
is_netting kind.Net = true
is_netting kind.AskHelp = true
is_netting k = false

-- ---- the run

-- The arguments of the run, of those that are given and the control socket that the environment names.
-- Example: of `pfx ask list`, where the environment names run/pfx, they are `pfx ask --control run/pfx list`.
abbrev pub program_arguments : (given : List (List ℕ)) → (control : Option (List ℕ)) → List (List ℕ)
program_arguments given control = elim (helped given) [
  | Some subcommand ↦ codes "pfx" ∷ subcommand ∷ codes "--help" ∷ []
  | None ↦ at_control given control
]
