-- What the code's entries stand for.
use Rattle.px_model.specs.Node as node
use Rattle.px_model.specs.Spelling.{Bytes, command_in}
use Rattle.px_model.specs.declared.entry.Entry.{Entry}
use Rattle.px_model.specs.declared.entry.EntryView.{EntryView}

-- the entry that an entry in code stands for
unfoldable pub entry_of : Entry → node.Entry Bytes
entry_of e = record { origin = e.origin; number = e.number; command = command_in e.bytes.value.items }

-- the entry that a view of its bytes stands for
unfoldable pub view_of : EntryView → node.Entry Bytes
view_of e = record { origin = e.origin; number = e.number; command = command_in e.bytes.now }
