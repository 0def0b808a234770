-- What the core's list of learned entries stands for.
use Rattle.std.specs.Prelude.{List, Option, None, option_map, slice_index_or}
use Rattle.px_model.specs.Node as node
use Rattle.px_model.specs.Spelling.{Bytes}
use Rattle.px_model.specs.Entries.{entry_of}
use Rattle.px_model.specs.declared.entry.Entry.{Entry}

-- what a list of learned entries has at a position; behind its end nothing is learned
unfoldable pub learned_in : List (Option Entry) → node.Log Bytes
learned_in items p = option_map entry_of (slice_index_or items p None)
