use Rattle.std.proofs.Common.{◌≡◌, ◌++◌, length, take, drop}
use Rattle.std.specs.List.{flat_map, list_all}
use Rattle.std.specs.Int.{w16, to_be_bytes}
use Rattle.pf_entry.specs.Entry.{address, is_address}
use Rattle.pf_entry.specs.Owned.{addresses_value}
use Rattle.pf_entry.proofs.writing.put_addresses.Given as goal

abbrev pub invariant-loop-a : goal.invariant-loop-a
invariant-loop-a l = (l.out.items ≡ l.fn.out.items ++ to_be_bytes w16 (length l.list) ++ flat_map address (addresses_value (take l.a-index l.list))) × (list_all is_address (addresses_value (drop l.a-index l.list)) ≡ list_all is_address (addresses_value l.list))
