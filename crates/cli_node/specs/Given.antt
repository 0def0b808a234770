-- What the arguments and a file of settings give.
use Rattle.std.specs.Prelude.{◌≡◌, ◌≢◌, ℕ, ⊤, Bool, ◌||◌, nat_le, List, if◌then◌else◌}
use Rattle.std.specs.Prelude.{Option, Some, None, option_and_then}
use Rattle.std.specs.Net.Addr.{MatchIp, IsLoopbackV4, IsLoopbackV6}
use Rattle.std.specs.Net.Grammar.{IsSocketText}
use Rattle.std.specs.Net.Socket.{socket_ip, socket_port}
use Rattle.std.specs.declared.net.socket_addr.SocketAddr.{SocketAddr}
use Rattle.clap.specs.Words.{Row, Text, first_of}
use Rattle.toml.specs.Data.{as_str, get_member}
use Rattle.cli_files.specs.Files.{settings_of}
use Rattle.cli_files.specs.Settings.{flag_at, number_of}
use Rattle.cli_files.specs.declared.settings.NodeFile.{NodeFile}
use Rattle.cli_io.specs.Given.{is_given}
use Rattle.cli_io.specs.Numbers.{number_at}
use Rattle.cli_node.specs.Places.{chosen}

-- the text of an option, that of the file where it isn't given
abbrev pub text_for : List Row → NodeFile → (name : Text) → Option (List ℕ)
text_for rows file name = chosen (first_of name rows) (option_and_then as_str (get_member name (settings_of file)))

-- a number that has 32 bits
abbrev pub of_32_bits : ℕ → Option ℕ
of_32_bits n = if nat_le n 4294967295 then Some n else None

-- the number of an option, that of the file where it isn't given
-- Example: of --cluster 3 and cluster = 4: 3.
abbrev pub number_for : List Row → NodeFile → (name : Text) → Option ℕ
number_for rows file name = chosen (number_at rows name)
    (option_and_then of_32_bits (option_and_then number_of (get_member name (settings_of file))))

-- whether an option without a value is given, or so in the file
abbrev pub is_set : List Row → NodeFile → (name : Text) → Bool
is_set rows file name = is_given (first_of name rows) || flag_at (get_member name (settings_of file))

-- ---- where operators ask

-- figures are served where that is named: at an address of this machine alone, with a port
abbrev pub AreFigures : (named : Option (List ℕ)) → Option SocketAddr → Type 0
AreFigures None None = ⊤
AreFigures None (Some at) = ⊥
AreFigures (Some text) None = ⊥
AreFigures (Some text) (Some at) =
    IsSocketText text at × MatchIp (socket_ip at) IsLoopbackV4 IsLoopbackV6 × (socket_port at ≢ 0)

-- a control socket is where the arguments name one, and this holds of its figures and of the members that it shows
abbrev pub IsPlaced : {P A : Type 0} → (path_of : P → List ℕ) → (figures_of : P → A) → (members_of : P → List ℕ) →
    (control : Option (List ℕ)) → (are_figures : A → Type 0) → (are_members : List ℕ → Type 0) → Option P → Type 0
IsPlaced path_of figures_of members_of control are_figures are_members None = control ≡ None
IsPlaced path_of figures_of members_of control are_figures are_members (Some place) =
    (control ≡ Some (path_of place)) × are_figures (figures_of place) × are_members (members_of place)
