-- What only code and proofs use beside `Seen`.
use Rattle.std.specs.Prelude.{◌≡◌, ℕ, option_map, true}
use Rattle.std.specs.Prelude.{◌<◌, length}
use Rattle.px_model.specs.Node as node
use Rattle.px_model.specs.Node.{Volatile, Log}
use Rattle.px_model.specs.Step.{in_window}
use Rattle.px_model.specs.Spelling.{Bytes}
use Rattle.px_model.specs.Seen.{change_of}
use Rattle.px_model.specs.declared.entry.EntryView.{EntryView}
use Rattle.px_model.specs.declared.message.Message.{Message}
use Rattle.px_model.specs.declared.message.Message.TheVariants as message
use Rattle.px_core.specs.declared.plan.Sends.TheVariants as sends
use Rattle.px_core.specs.declared.plan.Plan.{Plan}
use Rattle.px_core.specs.declared.state.Core.{Core}
use Rattle.px_core.specs.Seen.{volatile_in, log_in, front_in, sends_of, settled}

-- ---- plans

-- the plan, by a member with this log and this volatile part
abbrev pub plan_of : (n me : ℕ) → Log Bytes → Volatile Bytes → Plan → node.Plan Bytes
plan_of n me log v plan = record {
  change = option_map change_of plan.change;
  volatile = settled log plan.next v;
  sends = sends_of n me plan.sends;
}

-- the plan, by the core in its present state
abbrev pub plan_in : Core → Plan → node.Plan Bytes
plan_in core plan = plan_of core.members core.me (log_in core) (volatile_in core) plan

-- ---- room

-- where an entry may be learned there is room for it
abbrev pub RoomAt : ℕ → Core → Type 0
RoomAt p core = in_window (front_in core) p ≡ true → p < length core.learner.learned.items

abbrev pub RoomToLearn : Message EntryView → Core → Type 0
RoomToLearn (message.Prepare b p) core = Unit {0}
RoomToLearn (message.Promise b p a) core = Unit {0}
RoomToLearn (message.PrepareAll b p) core = Unit {0}
RoomToLearn (message.PromiseAll b p t a) core = Unit {0}
RoomToLearn (message.Accept b p e) core = Unit {0}
RoomToLearn (message.Vote b p e) core = RoomAt p core
RoomToLearn (message.Nack b p q) core = Unit {0}
RoomToLearn (message.Need p) core = Unit {0}
RoomToLearn (message.Learned p e) core = RoomAt p core
RoomToLearn (message.Ask e) core = Unit {0}
RoomToLearn (message.Asked t k) core = Unit {0}
RoomToLearn (message.AskRefused t c) core = Unit {0}
