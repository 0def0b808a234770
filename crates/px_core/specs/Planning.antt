-- What a core stands for, and what its plans and their settling are: the terms of the public contracts.
use Rattle.std.specs.Prelude.{◌≡◌, ℕ, Bool, ◌<◌, Option, Some, None, is_some, option_map, nat_eq}
use Rattle.std.specs.Cmp.Lexicographic.{pointwise}
use Rattle.px_model.specs.Node as node
use Rattle.px_model.specs.Node.{Volatile, Log, Answer}
use Rattle.px_model.specs.Step.{put, positions, nothing_volatile, step}
use Rattle.px_model.specs.Spelling.{Bytes}
use Rattle.px_model.specs.Seen.{slot_of, meta_of, change_of, input_of}
use Rattle.px_model.specs.declared.entry.EntryView.{EntryView}
use Rattle.px_model.specs.declared.record.Slot.{Slot}
use Rattle.px_model.specs.declared.record.Meta.{Meta}
use Rattle.px_model.specs.declared.message.Message.{Message}
use Rattle.px_model.specs.declared.message.Message.TheVariants as message
use Rattle.px_model.specs.declared.message.Event.{Event}
use Rattle.px_model.specs.declared.message.Event.TheVariants as event
use Rattle.px_core.specs.declared.plan.Plan.{Plan}
use Rattle.px_core.specs.declared.plan.CoreFault.{CoreFault}
use Rattle.px_core.specs.declared.plan.CoreFault.TheVariants as fault
use Rattle.px_core.specs.declared.state.Core.{Core}
use Rattle.px_core.specs.Seen.{volatile_in, log_in, settled, learning, sends_of, HasRoom}

-- What a core stands for: how many members there are, which one it is, what it learned, its volatile part.
pub record State : Type 0 where
  pub members : ℕ
  pub me : ℕ
  pub learned : Log Bytes
  pub volatile : Volatile Bytes

-- the same, for the core's own code
abbrev pub state_in : Core → State
state_in core = record { members = core.members; me = core.me; learned = log_in core; volatile = volatile_in core }

-- what the core stands for
unfoldable pub state_of : Core → State
state_of core = state_in core

-- a member that starts with an empty record
abbrev pub empty_state : (members me : ℕ) → State
empty_state n m = record { members = n; me = m; learned = λ p. None; volatile = nothing_volatile }

-- it has a lead
abbrev pub has_lead : Core → Bool
has_lead core = is_some core.proposer.lead

-- ---- plans

-- what the plan makes of the core's volatile part
unfoldable pub volatile_after : Core → Plan → Volatile Bytes
volatile_after core plan = settled (log_in core) plan.next (volatile_in core)

-- the plan of the definitions that the core's plan is
abbrev pub planned : Core → Plan → node.Plan Bytes
planned core plan = record {
  change = option_map change_of plan.change;
  volatile = volatile_after core plan;
  sends = sends_of (state_of core).members (state_of core).me plan.sends;
}

-- the step of the definitions, for a core that stands for s
abbrev pub step_with : State → Meta → Slot → (top : ℕ) → Event → Answer Bytes
step_with s meta slot top event =
    step (pointwise nat_eq) s.members s.me (meta_of meta) (slot_of slot) top s.learned s.volatile (input_of event)

-- it isn't refused
abbrev pub IsPlanned : Answer Bytes → Type 0
IsPlanned (Answer.Refused code) = ⊥
IsPlanned (Answer.Planned plan) = Unit {0}

-- a refusal is the model's, and out of memory is returned only where there is a plan to make
abbrev pub IsRefusal : CoreFault → Answer Bytes → Type 0
IsRefusal fault.Memory answer = IsPlanned answer
IsRefusal fault.Full answer = answer ≡ Answer.Refused 60
IsRefusal fault.BallotsSpent answer = answer ≡ Answer.Refused 61
IsRefusal fault.PositionsSpent answer = answer ≡ Answer.Refused 62

-- What a caller sees to: a promise or a vote comes from a member, and a promise is for a position that there is.
abbrev pub MayComeFrom : (members from : ℕ) → Message EntryView → Type 0
MayComeFrom n from (message.Prepare b p) = Unit {0}
MayComeFrom n from (message.Promise b p a) = Unit {0}
MayComeFrom n from (message.PrepareAll b p) = Unit {0}
MayComeFrom n from (message.PromiseAll b p t a) = (from < n) × (p < positions)
MayComeFrom n from (message.Accept b p e) = Unit {0}
MayComeFrom n from (message.Vote b p e) = from < n
MayComeFrom n from (message.Nack b p q) = Unit {0}
MayComeFrom n from (message.Need p) = Unit {0}
MayComeFrom n from (message.Learned p e) = Unit {0}
MayComeFrom n from (message.Ask e) = Unit {0}
MayComeFrom n from (message.Asked t k) = Unit {0}
MayComeFrom n from (message.AskRefused t c) = Unit {0}

-- an event that may come: a command, the clock, or a message that may come from its sender
abbrev pub MayCome : (members : ℕ) → Event → Type 0
MayCome n (event.Asks e) = Unit {0}
MayCome n event.Ticks = Unit {0}
MayCome n (event.Comes from x) = MayComeFrom n from x

-- ---- settling

-- what is learned after a change
abbrev pub learned_after : Option (node.Change Bytes) → Log Bytes → Log Bytes
learned_after None log = log
learned_after (Some (node.Change.NewRound r)) log = log
learned_after (Some (node.Change.NewNumber k)) log = log
learned_after (Some (node.Change.NewFloor b)) log = log
learned_after (Some (node.Change.NewPromise p b)) log = log
learned_after (Some (node.Change.NewAccepted p b e)) log = log
learned_after (Some (node.Change.NewLearned p e)) log = put log p (Some e)

-- what stands for s applies the plan
abbrev pub settles : State → node.Plan Bytes → State
settles s plan = record s { learned = learned_after plan.change s.learned; volatile = plan.volatile }

-- The plan is one for the core in its present state: there is room for it, and what it settles as learned is what its
-- change records.
pub record IsFor (plan : Plan) (core : Core) : Type 0 where
  pub room : HasRoom plan.next core
  pub agrees : (log : Log Bytes) → learned_after (option_map change_of plan.change) log ≡ learning plan.next log
