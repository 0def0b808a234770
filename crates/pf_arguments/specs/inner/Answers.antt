-- What only code and proofs use beside `Answers`.
use Rattle.std.specs.Prelude.{◌≡◌, List, map, Option, Some, None, Result, Ok, Err}
use Rattle.std.specs.Option.{option_copied}
use Rattle.pf_addr.specs.declared.fault.AddrFault.{AddrFault}
use Rattle.pf_rules.specs.declared.ruleset.TableEntry as rust
use Rattle.pf_rules.specs.Names.{Name}
use Rattle.pf_entry.specs.Entry.{Address}
use Rattle.pf_entry.specs.Seen.{address_of}
use Rattle.pf_entry.specs.Owned.{addresses_value}
use Rattle.pf_arguments.specs.declared.given.Given.{Given}
use Rattle.pf_arguments.specs.declared.fault.CommandFault.{CommandFault}
use Rattle.pf_arguments.specs.declared.fault.CommandFault.TheVariants.{Memory, Usage, BadPath, BadAddress, TooLong}
use Rattle.pf_arguments.specs.Answers.{FailsToRead}
use Rattle.pf_arguments.specs.Asked.{GivenArguments, lower}

abbrev pub given_of : Given → GivenArguments
given_of given = record {
  path = option_copied given.path;
  file = option_copied given.file;
  check = given.check;
  flush = option_copied given.flush;
  table = option_copied given.table;
  change = option_copied given.change;
  show = option_copied given.show;
  addresses = map (λ w. w.now) given.addresses.now;
}

-- ---- addresses

abbrev pub entry_read : Result rust.TableEntry AddrFault → Result Address AddrFault
entry_read (Ok entry) = Ok (address_of entry)
entry_read (Err fault) = Err fault

abbrev pub lowest_of : Option AddrFault → AddrFault → AddrFault
lowest_of None fault = fault
lowest_of (Some first) fault = lower first fault

abbrev pub ReadsEntries : Result (List rust.TableEntry) CommandFault → Result (List Address) AddrFault → Type 0
ReadsEntries (Ok list) read = read ≡ Ok (addresses_value list)
ReadsEntries (Err fault) read = FailsToRead fault read

-- ---- paths

abbrev pub NoPathGiven : CommandFault → Option (List Name) → Type 0
NoPathGiven Memory path = Unit {0}
NoPathGiven Usage path = ⊥
NoPathGiven BadPath path = path ≡ None
NoPathGiven (BadAddress fault) path = ⊥
NoPathGiven TooLong path = ⊥

abbrev pub PathGiven : Result (List Name) CommandFault → Option (List Name) → Type 0
PathGiven (Ok p) path = path ≡ Some p
PathGiven (Err fault) path = NoPathGiven fault path
