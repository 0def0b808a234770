use Rattle.std.proofs.Common.{drop, ◌≡◌, ◌++◌, string_bytes}
use Rattle.pf_dump.specs.Written.{addresses_text}
use Rattle.pf_dump.specs.declared.script.TheConstants.{ADDRESSES}
use Rattle.pf_dump.proofs.script.push_addresses.Given as goal

abbrev pub invariant-loop-entry : goal.invariant-loop-entry
invariant-loop-entry l = string_bytes l.out ++ addresses_text l.path l.name l.room (drop l.entry-index l.entries) ≡ string_bytes l.fn.out ++ addresses_text l.path l.name ADDRESSES l.entries
