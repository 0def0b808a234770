-- What the code's parts stand for, and what one function of the code promises another. Only code and proofs use these.
use Rattle.std.specs.Prelude.{ℕ, List, [], ◌∷◌, ◌++◌, Some, None, option_map, Bool, false}
use Rattle.std.specs.Prelude.{map, slice_index_or, ◌<◌, ◌≤◌, ◌+◌, length, if◌then◌else◌, nat_eq}
use Rattle.std.specs.Cmp.Lexicographic.{pointwise}
use Rattle.px_model.specs.Node as node
use Rattle.px_model.specs.Node.{Volatile, Envelope, Log}
use Rattle.px_model.specs.Step.{to_all, put, front, keep, on_learning, positions}
use Rattle.px_model.specs.Spelling.{Bytes}
use Rattle.px_model.specs.Entries.{entry_of}
use Rattle.px_model.specs.Seen.{proposal_of, message_of}
use Rattle.px_model.specs.declared.message.Message.TheVariants as message
use Rattle.px_core.specs.declared.plan.Sends.{Sends}
use Rattle.px_core.specs.declared.plan.Sends.TheVariants as sends
use Rattle.px_core.specs.declared.plan.Next.{Next}
use Rattle.px_core.specs.declared.plan.Next.TheVariants as next
use Rattle.px_core.specs.declared.plan.Phase.{Phase}
use Rattle.px_core.specs.declared.plan.Phase.TheVariants as phase
use Rattle.px_core.specs.declared.plan.Attempt.{Attempt}
use Rattle.px_core.specs.declared.plan.Lead.{Lead}
use Rattle.px_core.specs.declared.state.Core.{Core}
use Rattle.px_core.specs.Cells.{kept_in}
use Rattle.px_core.specs.Logs.{learned_in}

-- ---- the volatile part and the log

-- the members that a table marks
unfoldable pub counted_of : List Bool → ℕ → Bool
counted_of counted m = slice_index_or counted m false

-- the phase that one in code stands for
abbrev pub phase_of : Phase → node.Phase Bytes
phase_of (phase.Preparing counted top best) =
    node.Phase.Preparing (counted_of counted) top (option_map proposal_of best)
phase_of (phase.Accepting e) = node.Phase.Accepting (entry_of e)

-- the attempt that one in code stands for
abbrev pub attempt_of : Attempt → node.Attempt Bytes
attempt_of a = record { position = a.position; ballot = a.ballot; phase = phase_of a.phase }

-- the lead that one in code stands for
abbrev pub lead_of : Lead → node.Lead
lead_of l = record { ballot = l.ballot; from = l.from }

-- the volatile part that the core keeps
abbrev pub volatile_in : Core → Volatile Bytes
volatile_in core = record {
  waiting = map entry_of core.proposer.waiting.items;
  attempt = option_map attempt_of core.proposer.attempt;
  lead = option_map lead_of core.proposer.lead;
  seen = core.proposer.seen;
  kept = kept_in core.learner.votes.front core.learner.votes.cells.items;
}

-- the log that the core keeps
abbrev pub log_in : Core → Log Bytes
log_in core = learned_in core.learner.learned.items

-- the front as the core keeps it
abbrev pub front_in : Core → ℕ
front_in core = core.learner.votes.front

-- ---- plans

-- what is sent by the member me of n
abbrev pub sends_of : (n me : ℕ) → Sends → List (Envelope Bytes)
sends_of n me sends.Nothing = []
sends_of n me (sends.One to x) = record { sender = me; addressee = to; message = message_of x } ∷ []
sends_of n me (sends.All x) = to_all n me (message_of x)

-- the volatile part where e is learned at p
abbrev pub with_learned : Log Bytes → (p : ℕ) → node.Entry Bytes → Volatile Bytes → Volatile Bytes
with_learned log p e v = on_learning (pointwise nat_eq) (front (put log p (Some e))) e v

-- what a plan makes of the volatile part; log is what was learned before
abbrev pub settled : Log Bytes → Next → Volatile Bytes → Volatile Bytes
settled log next.Same v = v
settled log (next.Waits e) v = record v { waiting = v.waiting ++ entry_of e ∷ [] }
settled log (next.Counts a) v = record v { attempt = Some (attempt_of a) }
settled log (next.Leads a l) v = record v { attempt = option_map attempt_of a; lead = option_map lead_of l }
settled log (next.Drops a l seen) v = record v {
  attempt = if a then None else v.attempt;
  lead = if l then None else v.lead;
  seen = seen;
}
settled log (next.Keeps p m b) v = record v { kept = keep v.kept p m b }
settled log (next.Learns p e) v = with_learned log p (entry_of e) v
settled log (next.KeepsLearns p m b e) v = with_learned log p (entry_of e) (record v { kept = keep v.kept p m b })

-- what a plan makes of what is learned
abbrev pub learning : Next → Log Bytes → Log Bytes
learning (next.Learns p e) log = put log p (Some (entry_of e))
learning (next.KeepsLearns p m b e) log = put log p (Some (entry_of e))
learning next.Same log = log
learning (next.Waits e) log = log
learning (next.Counts a) log = log
learning (next.Leads a l) log = log
learning (next.Drops a l seen) log = log
learning (next.Keeps p m b) log = log

-- ---- room

-- the votes at p are kept, and the member has a column
pub record IsKept (core : Core) (p m : ℕ) : Type 0 where
  pub front : front_in core ≤ p
  pub window : p < front_in core + 64
  pub member : m < 15

-- an entry may be learned at p, and the list reaches up to there
pub record IsOpen (core : Core) (p : ℕ) : Type 0 where
  pub front : front_in core ≤ p
  pub within : p < positions
  pub room : p < length core.learner.learned.items

-- where a plan writes there is room
abbrev pub HasRoom : Next → Core → Type 0
HasRoom (next.Waits e) core = length core.proposer.waiting.items < 64
HasRoom (next.Keeps p m b) core = IsKept core p m
HasRoom (next.Learns p e) core = IsOpen core p
HasRoom (next.KeepsLearns p m b e) core = IsKept core p m × IsOpen core p
HasRoom next.Same core = Unit {0}
HasRoom (next.Counts a) core = Unit {0}
HasRoom (next.Leads a l) core = Unit {0}
HasRoom (next.Drops a l seen) core = Unit {0}
