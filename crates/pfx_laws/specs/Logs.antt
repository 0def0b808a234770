-- Logs of commands at paths that commands may have.
use Rattle.std.specs.Prelude.{Bool, List}
use Rattle.std.specs.List.{list_all}
use Rattle.pf_entry.specs.Entry.{Entry, path_of, are_names}

-- the command's path has at most 8 names, none of which is an unnamed block's: so has every entry that has a spelling
abbrev pub has_path : Entry → Bool
has_path e = are_names (path_of e.command)

-- the commands of all these entries are at paths that commands may have
abbrev pub have_paths : List Entry → Bool
have_paths entries = list_all has_path entries
