-- What a node's file of settings may have, of a TOML table as the data of its keys.
use Rattle.std.specs.Prelude.{◌≡◌, ℕ, ℤ, pos, negsuc, List, [], ◌∷◌, Bool, true, false}
use Rattle.std.specs.Prelude.{if◌then◌else◌, Option, Some, None, is_some, option_and_then, IsUtf8, bytes_eq, codes}
use Rattle.std.specs.Prelude.{nat_le}
use Rattle.toml.specs.Data.{Data, string, Items, no_items, item, Members, no_members, member}
use Rattle.toml.specs.Data.{as_str, as_bool, as_integer, as_array}
use Rattle.toml.specs.Parse.{parse_document}
use Rattle.cli_files.specs.declared.kinds.Kind.{Kind}
use Rattle.cli_files.specs.declared.kinds.Kind.TheVariants.{Text, Number, Flag, Texts}
use Rattle.cli_files.specs.declared.settings_fault.FileFault.{FileFault}
use Rattle.cli_files.specs.declared.settings_fault.FileFault.TheVariants as fault

-- the settings, and what the value of each may be
abbrev pub kind_of : List ℕ → Option Kind
kind_of key =
    if bytes_eq key (codes "me") then Some (Number 255)
    else if bytes_eq key (codes "cluster") then Some (Number 4294967295)
    else if bytes_eq key (codes "members") then Some Texts
    else if bytes_eq key (codes "store") then Some Text
    else if bytes_eq key (codes "key") then Some Text
    else if bytes_eq key (codes "other-key") then Some Text
    else if bytes_eq key (codes "control") then Some Text
    else if bytes_eq key (codes "metrics") then Some Text
    else if bytes_eq key (codes "unsealed") then Some Flag
    else if bytes_eq key (codes "quiet") then Some Flag
    else None

-- the number that a value is, from 0 on
abbrev pub natural : ℤ → Option ℕ
natural (pos n) = Some n
natural (negsuc n) = None

-- a value as a whole number from 0 on, none where it isn't one
-- Source: TOML 1.1, Integer. Example: -1 is none.
abbrev pub number_of : Data → Option ℕ
number_of value = option_and_then natural (as_integer value)

-- a whole number from 0 to the most
abbrev pub at_most : ℕ → Option ℕ → Bool
at_most most None = false
at_most most (Some n) = nat_le n most

-- the value is a whole number from 0 to the most
-- Example: me = 256 isn't.
abbrev pub is_number : Data → ℕ → Bool
is_number value most = at_most most (number_of value)

-- each item is a string
abbrev pub are_texts : Items → Bool
are_texts no_items = true
are_texts (item (string text) values) = are_texts values
are_texts (item _ values) = false

-- there is a list, and each of its items is a string
-- Source: TOML 1.1, Array.
abbrev pub are_texts_of : Option Items → Bool
are_texts_of None = false
are_texts_of (Some values) = are_texts values

-- a value of a kind
abbrev pub fits : Kind → Data → Bool
fits Text value = is_some (as_str value)
fits (Number most) value = is_number value most
fits Flag value = is_some (as_bool value)
fits Texts value = are_texts_of (as_array value)

-- the value is one for this kind of setting; for none none is
-- Example: members = ["a", 1] isn't.
abbrev pub fits_if : Option Kind → Data → Bool
fits_if None value = false
fits_if (Some kind) value = fits kind value

-- a key that names a setting, with a value that the setting takes
abbrev pub is_setting : List ℕ → Data → Bool
is_setting key value = fits_if (kind_of key) value

-- the first key, in the order of the keys' bytes, that names no setting or has a value that it doesn't take
abbrev pub first_wrong : Members → Option (List ℕ)
first_wrong no_members = None
first_wrong (member key value rest) = if is_setting key value then first_wrong rest else Some key

-- a value that is true
abbrev pub is_true : Option Bool → Bool
is_true None = false
is_true (Some flag) = flag

-- the value is there, and is true
-- Source: TOML 1.1, Boolean. Example: without quiet it isn't.
abbrev pub flag_at : Option Data → Bool
flag_at None = false
flag_at (Some value) = is_true (as_bool value)

-- the strings among some items
abbrev pub texts_of : Items → List (List ℕ)
texts_of no_items = []
texts_of (item (string text) values) = text ∷ texts_of values
texts_of (item _ values) = texts_of values

-- the strings of a list, none where there is no list
abbrev pub texts_if : Option Items → List (List ℕ)
texts_if None = []
texts_if (Some values) = texts_of values

-- the strings of a value that is a list, none where it isn't one or isn't there
abbrev pub texts_at : Option Data → List (List ℕ)
texts_at value = texts_if (option_and_then as_array value)

-- ---- refusals

-- the line of a refusal, if it has one
-- Example: unknown setting in line 16.
abbrev pub line_of_fault : FileFault → Option ℕ
line_of_fault fault.Memory = None
line_of_fault (fault.Syntax line) = Some line
line_of_fault (fault.Unknown line) = line
line_of_fault (fault.Value line) = line

-- the text is a TOML table, whose first wrong key, by its bytes, is such
abbrev pub HasWrong : (Option Kind → Bool) → List ℕ → Type 0
HasWrong such text = (ms : Members) × (key : List ℕ) × (parse_document text ≡ Some ms)
    × (first_wrong ms ≡ Some key) × (such (kind_of key) ≡ true)

-- the key names no setting
-- Example: controls = "/run/x" names none.
abbrev pub is_unknown : Option Kind → Bool
is_unknown None = true
is_unknown (Some kind) = false

-- why a string is refused; out of memory isn't specified
abbrev pub IsRefused : FileFault → List ℕ → Type 0
IsRefused fault.Memory text = Unit {0}
IsRefused (fault.Syntax line) text = IsUtf8 text → parse_document text ≡ None
IsRefused (fault.Unknown line) text = HasWrong is_unknown text
IsRefused (fault.Value line) text = HasWrong is_some text
