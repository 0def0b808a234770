-- What becomes of an event.
use Rattle.std.specs.Prelude.{◌≡◌, ℕ, Bool, true, false, List, [], ◌∷◌, Option, Some, None, Result, Ok, Err}
use Rattle.std.specs.Prelude.{nat_le, if◌then◌else◌}
use Rattle.px_model.specs.Node.{Meta, Input, Answer}
use Rattle.px_model.specs.Node.Input.{Asks, Ticks, Comes}
use Rattle.px_model.specs.Node.Answer.{Refused, Planned}
use Rattle.px_model.specs.World.{World, Event, comes_to, step_in, run}
use Rattle.px_model.specs.World.Event.{Runs, StopBefore, StopAfter, Restart}
use Rattle.px_model.specs.Spelling.{Bytes}
use Rattle.px_replica.specs.Made.{same}
use Rattle.pf_lab.specs.declared.event.LabEvent.{LabEvent}
use Rattle.pf_lab.specs.declared.event.LabFault.{LabFault}
use Rattle.pf_lab.specs.declared.event.LabFault.TheVariants as fault
use Rattle.pf_lab.specs.declared.event.Outcome.{Outcome}
use Rattle.pf_lab.specs.declared.event.Outcome.TheVariants as outcome
use Rattle.pf_lab.specs.Coming.{event_of, is_long, model_events}

-- nobody of n members is addressed
abbrev pub is_nobodys : (n : ℕ) → Option (ℕ × Input Bytes) → Bool
is_nobodys n None = true
is_nobodys n (Some t) = nat_le n t.0

-- of n members the event names none, or it names no message that was sent
abbrev pub is_unknown : (n : ℕ) → World Bytes → Event Bytes → Bool
is_unknown n w (Runs a) = is_nobodys n (comes_to w a)
is_unknown n w (StopBefore a) = is_nobodys n (comes_to w a)
is_unknown n w (StopAfter a) = is_nobodys n (comes_to w a)
is_unknown n w (Restart m) = nat_le n m

-- What a member that runs answers with these numbers of its record: a command's number, or what is refused.
abbrev pub outcome_of : Meta → Input Bytes → Answer Bytes → Outcome
outcome_of meta (Asks c) (Refused code) = outcome.Refused code
outcome_of meta (Asks c) (Planned plan) = outcome.Asked meta.number
outcome_of meta Ticks (Refused code) = outcome.Refused code
outcome_of meta Ticks (Planned plan) = outcome.Nothing
outcome_of meta (Comes from x) a = outcome.Nothing

-- what a member that is stopped receives does nothing
abbrev pub outcome_at : World Bytes → Option (ℕ × Input Bytes) → (ℕ → Input Bytes → Outcome) → Outcome
outcome_at w None does = outcome.Nothing
outcome_at w (Some t) does = if (w.nodes t.0).is_up then does t.0 t.1 else outcome.Stopped

-- what becomes of an event that names a member and a message
unfoldable pub outcome_in : (n : ℕ) → World Bytes → Event Bytes → Outcome
outcome_in n w (Runs a) =
    outcome_at w (comes_to w a) (λ m x. outcome_of (w.nodes m).stored.meta x (step_in same n w m x))
outcome_in n w (StopBefore a) = outcome_at w (comes_to w a) (λ m x. outcome.Nothing)
outcome_in n w (StopAfter a) = outcome_at w (comes_to w a) (λ m x. outcome.Nothing)
outcome_in n w (Restart m) = outcome.Nothing

-- a command that is too long is refused before it is an event
abbrev pub becomes : (n : ℕ) → World Bytes → LabEvent → Outcome
becomes n w e = if is_long e then outcome.Refused 41 else outcome_in n w (event_of e)

-- 81 is for an event that names none; one that is too long isn't asked for
abbrev pub is_bad : (n : ℕ) → World Bytes → LabEvent → Bool
is_bad n w e = if is_long e then false else is_unknown n w (event_of e)

-- What is returned of an event: what becomes of it where it names a member and a message, 81 where it doesn't. Out of
-- memory isn't specified.
abbrev pub Reports : Result Outcome LabFault → (bad : Bool) → (becomes : Outcome) → Type 0
Reports (Ok o) bad becomes = (bad ≡ false) × (o ≡ becomes)
Reports (Err fault.BadEvent) bad becomes = bad ≡ true
Reports (Err fault.Memory) bad becomes = Unit {0}

-- each event in its turn names a member, and a message that was sent
abbrev pub are_known : (n : ℕ) → List LabEvent → World Bytes → Bool
are_known n [] w = true
are_known n (e ∷ es) w = if is_bad n w e then false else are_known n es (run same n (model_events e) w)
