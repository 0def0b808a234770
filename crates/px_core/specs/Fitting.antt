-- What a core keeps, is handed and sends can be spelled: the model's `Fits` over a core. The test decides which
-- commands have a spelling.
use Rattle.std.specs.Prelude.{ℕ, ◌≤◌, Bool, IfSome}
use Rattle.px_model.specs.Node as node
use Rattle.px_model.specs.Step.{front, positions}
use Rattle.px_model.specs.Fits.{Passes, MetaFits, SlotFits, LogFits, VolatileFits, InputFits, ChangeFits, SendsFit}
use Rattle.px_model.specs.Spelling.{Bytes}
use Rattle.px_model.specs.Seen.{slot_of, meta_of, input_of}
use Rattle.px_model.specs.declared.record.Slot.{Slot}
use Rattle.px_model.specs.declared.record.Meta.{Meta}
use Rattle.px_model.specs.declared.message.Event.{Event}
use Rattle.px_core.specs.Planning.{State, settles, MayCome}

-- what a core that stands for s keeps
pub record CoreFits (test : Bytes → Bool) (s : State) : Type 0 where
  pub learned : LogFits (Passes test) s.members s.learned
  pub volatile : VolatileFits (Passes test) s.members s.me (front s.learned) s.volatile

-- what it is handed
pub record HandedFits (test : Bytes → Bool) (s : State) (numbers : Meta) (slot : Slot) (top : ℕ) (event : Event) :
    Type 0 where
  pub meta : MetaFits s.members (meta_of numbers)
  pub here : SlotFits (Passes test) s.members (slot_of slot)
  pub top_within : top ≤ positions
  pub input : InputFits (Passes test) s.members s.me (input_of event)

-- what its plan writes and sends, and what it keeps when it has settled
pub record PlanFits (test : Bytes → Bool) (s : State) (plan : node.Plan Bytes) : Type 0 where
  pub change : IfSome plan.change (λ x. ChangeFits (Passes test) s.members x)
  pub sends : SendsFit (Passes test) s.members s.me plan.sends
  pub settled : CoreFits test (settles s plan)

-- what can be spelled for a member may reach its core
abbrev pub SpelledMayCome : Type 0
SpelledMayCome =
    (test : Bytes → Bool) (members me : ℕ) (event : Event) →
    InputFits (Passes test) members me (input_of event) → MayCome members event
