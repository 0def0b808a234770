-- What the code's values stand for.
use Rattle.std.specs.Prelude.{◌≡◌, map, Result, Ok, Err}
use Rattle.pf_entry.specs.Owned.{command_value}
use Rattle.pf_lab.specs.declared.event.LabAction.{LabAction}
use Rattle.pf_lab.specs.declared.event.LabAction.TheVariants as action
use Rattle.pf_lab.specs.declared.event.LabEvent.{LabEvent}
use Rattle.pf_lab.specs.declared.event.LabEvent.TheVariants as event
use Rattle.pf_lab.specs.declared.fault.LineFault.{LineFault}
use Rattle.pf_lab.specs.declared.fault.LineFault.TheVariants.{Memory, Refused}
use Rattle.pf_lab.specs.declared.reading.LabLine.{LabLine}
use Rattle.pf_lab.specs.declared.reading.LabLine.TheVariants as line
use Rattle.pf_lab.specs.LabLines.{ActionValue, Ask, Tick, Deliver, EventValue, Runs, StopBefore}
use Rattle.pf_lab.specs.LabLines.{StopAfter}
use Rattle.pf_lab.specs.LabLines.{Restart, LineValue, Happens, Run, Test, State, Log, Sent, Asked}

abbrev pub action_value : LabAction → ActionValue
action_value (action.Ask m command) = Ask m (command_value command)
action_value (action.Tick m) = Tick m
action_value (action.Deliver k) = Deliver k

abbrev pub event_value : LabEvent → EventValue
event_value (event.Runs a) = Runs (action_value a)
event_value (event.StopBefore a) = StopBefore (action_value a)
event_value (event.StopAfter a) = StopAfter (action_value a)
event_value (event.Restart m) = Restart m

abbrev pub line_value : LabLine → LineValue
line_value (line.Happens e) = Happens (event_value e)
line_value line.Run = Run
line_value (line.Test m packet) = Test m (map (λ w. w.now) packet.now)
line_value line.State = State
line_value (line.Log m) = Log m
line_value line.Sent = Sent

-- the value is returned, or its refusal; out of memory isn't specified
abbrev pub Reads : {X Y : Type 0} → (X → Y) → Result X LineFault → Asked Y → Type 0
Reads view (Ok x) value = value ≡ Ok (view x)
Reads view (Err Memory) value = Unit {0}
Reads view (Err (Refused code)) value = value ≡ Err code
