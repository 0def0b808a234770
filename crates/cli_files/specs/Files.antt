-- A node's file of settings as a TOML table.
use Rattle.toml.specs.Data.{Members}
use Rattle.toml.specs.View.{table_view}
use Rattle.cli_files.specs.declared.settings.NodeFile.{NodeFile}

-- the file's value at each key
abbrev pub settings_of : NodeFile → Members
settings_of f = table_view f.table
