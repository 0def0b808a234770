-- The record that maps keep.
use Rattle.std.specs.Prelude.{ℕ, Option, Some, None, option_map}
use Rattle.std.specs.BTreeMap.{BTreeMap, get}
use Rattle.std.specs.Ordering.{nat_cmp}
use Rattle.px_model.specs.Node as node
use Rattle.px_model.specs.Node.{Record}
use Rattle.px_model.specs.Spelling.{Bytes}
use Rattle.px_model.specs.Entries.{entry_of}
use Rattle.px_model.specs.Seen.{slot_of, meta_of}
use Rattle.px_model.specs.declared.entry.Entry.{Entry}
use Rattle.px_model.specs.declared.record.Slot.{Slot}
use Rattle.px_model.specs.declared.record.Meta.{Meta}

-- a position that isn't in the map has an empty slot
abbrev pub slot_seen : Option Slot → node.Slot Bytes
slot_seen None = record { promised = 0; accepted = None }
slot_seen (Some s) = slot_of s

-- the slots of all positions
abbrev pub slots_in : BTreeMap ℕ Slot → ℕ → node.Slot Bytes
slots_in m p = slot_seen (get nat_cmp m p)

-- the entries learned at all positions
abbrev pub learned_in : BTreeMap ℕ Entry → node.Log Bytes
learned_in m p = option_map entry_of (get nat_cmp m p)

-- the record of the numbers and the two maps
abbrev pub record_of : Meta → BTreeMap ℕ Slot → BTreeMap ℕ Entry → Record Bytes
record_of meta slots learned = record { meta = meta_of meta; slots = slots_in slots; learned = learned_in learned }
