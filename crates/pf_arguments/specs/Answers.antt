-- What the code's values stand for, and what its calls return.
use Rattle.std.specs.Prelude.{◌≡◌, ℕ, false, List, Option, Some, None, Result, Ok, Err, Vec}
use Rattle.pf_addr.specs.Faults.{fault_code}
use Rattle.pf_addr.specs.declared.addr.Addr.{Addr}
use Rattle.pf_addr.specs.declared.fault.AddrFault.{AddrFault}
use Rattle.pf_entry.specs.Owned.{command_value}
use Rattle.pf_arguments.specs.declared.action.Action.{Action}
use Rattle.pf_arguments.specs.declared.action.Action.TheVariants as action
use Rattle.pf_arguments.specs.declared.fault.CommandFault.{CommandFault}
use Rattle.pf_arguments.specs.declared.fault.CommandFault.TheVariants.{Memory, Usage, BadPath, BadAddress, TooLong}
use Rattle.pf_arguments.specs.Asked.{Asked, ActionValue, Change, CheckOnly, ShowRules, ShowTables}
use Rattle.pf_arguments.specs.Asked.{ShowAnchors, TableShow, TableTest, is_too_long}

-- none when out of memory
abbrev pub command_fault_code : CommandFault → Option ℕ
command_fault_code Memory = None
command_fault_code Usage = Some 40
command_fault_code BadPath = Some 24
command_fault_code (BadAddress fault) = Some (fault_code fault)
command_fault_code TooLong = Some 41

-- what an action of the code stands for
abbrev pub action_value : Action → ActionValue
action_value (action.Change command) = Change (command_value command)
action_value (action.CheckOnly path) = CheckOnly path
action_value (action.ShowRules path) = ShowRules path
action_value (action.ShowTables path) = ShowTables path
action_value action.ShowAnchors = ShowAnchors
action_value (action.TableShow path table) = TableShow path table
action_value (action.TableTest path table list) = TableTest path table list.items

-- ---- addresses

abbrev pub vec_read : {X A : Type 0} → Result (Vec X A) CommandFault → Result (List X) CommandFault
vec_read (Ok v) = Ok v.items
vec_read (Err fault) = Err fault

-- of the faults of arguments that spell no values this is the lowest; out of memory isn't specified
abbrev pub FailsToRead : {X : Type 0} → CommandFault → Result (List X) AddrFault → Type 0
FailsToRead Memory read = Unit {0}
FailsToRead Usage read = ⊥
FailsToRead BadPath read = ⊥
FailsToRead (BadAddress fault) read = read ≡ Err fault
FailsToRead TooLong read = ⊥

-- the addresses that arguments spell, or the lowest fault
-- Example: 10.0.0.1 and x: the fault of x.
abbrev pub Reads : Result (List Addr) CommandFault → Result (List Addr) AddrFault → Type 0
Reads (Ok list) read = read ≡ Ok list
Reads (Err fault) read = FailsToRead fault read

-- ---- actions

-- the fault is the one that is defined; out of memory isn't specified
abbrev pub FailsAs : CommandFault → Asked → Type 0
FailsAs Memory asked = Unit {0}
FailsAs Usage asked = asked ≡ Err Usage
FailsAs BadPath asked = asked ≡ Err BadPath
FailsAs (BadAddress fault) asked = asked ≡ Err (BadAddress fault)
FailsAs TooLong asked = asked ≡ Err TooLong

-- the action that is asked for, or the first fault
abbrev pub Answers : Result Action CommandFault → Asked → Type 0
Answers (Ok action) asked = asked ≡ Ok (action_value action)
Answers (Err fault) asked = FailsAs fault asked

-- a change that is answered has an entry
abbrev pub IsShort : Action → Type 0
IsShort (action.Change command) = is_too_long (command_value command) ≡ false
IsShort (action.CheckOnly path) = Unit {0}
IsShort (action.ShowRules path) = Unit {0}
IsShort (action.ShowTables path) = Unit {0}
IsShort action.ShowAnchors = Unit {0}
IsShort (action.TableShow path table) = Unit {0}
IsShort (action.TableTest path table list) = Unit {0}
