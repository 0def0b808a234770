-- What a member of a lab receives, and what that is in the world.
use Rattle.std.specs.Prelude.{Bool, false, List, [], ◌∷◌, if◌then◌else◌}
use Rattle.px_model.specs.World as world
use Rattle.px_model.specs.World.{Action, Event}
use Rattle.px_model.specs.Spelling.{Bytes}
use Rattle.pf_entry.specs.Owned.{is_over}
use Rattle.pf_node.specs.Asked.{unnamed, bytes_of}
use Rattle.pf_lab.specs.declared.event.LabAction.{LabAction}
use Rattle.pf_lab.specs.declared.event.LabAction.TheVariants as lab
use Rattle.pf_lab.specs.declared.event.LabEvent.{LabEvent}
use Rattle.pf_lab.specs.declared.event.LabEvent.TheVariants as event

-- the action in the world
abbrev pub action_of : LabAction → Action Bytes
action_of (lab.Ask m c) = world.Action.Ask m (bytes_of c)
action_of (lab.Tick m) = world.Action.Tick m
action_of (lab.Deliver k) = world.Action.Deliver k

-- no entry of its command has a spelling
abbrev pub is_too_long : LabAction → Bool
is_too_long (lab.Ask m c) = is_over (unnamed c)
is_too_long (lab.Tick m) = false
is_too_long (lab.Deliver k) = false

-- the event in the world
abbrev pub event_of : LabEvent → Event Bytes
event_of (event.Runs a) = world.Event.Runs (action_of a)
event_of (event.StopBefore a) = world.Event.StopBefore (action_of a)
event_of (event.StopAfter a) = world.Event.StopAfter (action_of a)
event_of (event.Restart m) = world.Event.Restart m

-- the event asks for a command that is too long for an entry
abbrev pub is_long : LabEvent → Bool
is_long (event.Runs a) = is_too_long a
is_long (event.StopBefore a) = is_too_long a
is_long (event.StopAfter a) = is_too_long a
is_long (event.Restart m) = false

-- what happens in the world: a command that is too long is refused before it is an event
abbrev pub model_events : LabEvent → List (Event Bytes)
model_events e = if is_long e then [] else event_of e ∷ []
