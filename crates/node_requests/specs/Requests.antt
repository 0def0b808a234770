-- What is answered to a request.
use Rattle.std.specs.Prelude.{◌≡◌, ◌⊎◌, ◌-◌, ℕ, Bool, true, false, [], map, length, nat_lt, Option, codes}
use Rattle.px_model.specs.Step.{front, positions}
use Rattle.px_records.specs.declared.records.Records.{Ghosts}
use Rattle.pf_config.specs.Map.{paths_in}
use Rattle.pf_entry.specs.Entry as entries
use Rattle.pf_entry.specs.Owned.{command_value}
use Rattle.pf_arguments.specs.Answers.{action_value}
use Rattle.pf_scripts.specs.Listings.{listed}
use Rattle.pf_node.specs.Nodes.{learned_by, applied_of, config_of, membership_of, has_failed, records_of, state_in}
use Rattle.pf_node.specs.declared.state.Node.{Node}
use Rattle.node_requests.specs.declared.changing.Changed.{Changed}
use Rattle.node_requests.specs.declared.handler.RequestHandler.{RequestHandler}
use Rattle.node_requests.specs.declared.figures.Figures.{Figures}
use Rattle.node_requests.specs.declared.request.Read.{Read}
use Rattle.node_requests.specs.declared.request.Read.TheVariants as read
use Rattle.node_requests.specs.declared.request.Request.{Request}
use Rattle.node_requests.specs.declared.request.Request.TheVariants as request
use Rattle.node_requests.specs.declared.counters.Counters.{Counters}
use Rattle.node_requests.specs.Answers.{AnswerValue, shown, answered}
use Rattle.node_requests.specs.Bounded.{verdicts_within}
use Rattle.node_requests.specs.Changing.{Changes, with_number, change_answer}
use Rattle.node_requests.specs.EntryLines.{entries_answer, log_answer}
use Rattle.node_requests.specs.Health.{health, health_answer, ready_answer}
use Rattle.node_requests.specs.Metrics.{metrics_text}
use Rattle.node_requests.specs.Sizes.{rules_below, tables_below, entries_below}
use Rattle.node_requests.specs.RequestStatus.{request_status}
use Rattle.node_requests.specs.StatusJson.{status_as}

-- ---- reads

-- the figures are the node's
pub record AreFigures {R : Type 0} {G : Ghosts R} (n : Node R G) (f : Figures) : Type 0 where
  pub node : f.node ≡ (membership_of n).me
  pub members : f.members ≡ (membership_of n).members
  pub cluster : f.cluster ≡ (membership_of n).cluster
  pub left : f.left ≡ positions - front (learned_by n)
  pub front : f.front ≡ front (learned_by n)
  pub applied : f.applied ≡ applied_of n
  pub waiting : f.waiting ≡ length (state_in n).volatile.waiting
  pub anchors : f.anchors ≡ length (paths_in (config_of n).anchors)
  pub rules : f.rules ≡ rules_below (config_of n) (paths_in (config_of n).anchors)
  pub tables : f.tables ≡ tables_below (config_of n) (paths_in (config_of n).anchors)
  pub addresses : f.addresses ≡ entries_below (config_of n) (paths_in (config_of n).anchors)
  pub failed : f.has_failed ≡ has_failed n
  pub round : has_failed n ≡ false → G.is_honest (records_of n) → f.round ≡ (G.stored (records_of n)).meta.round

-- the status of figures that are the node's, as JSON or in lines
-- Example: at front 412, 999,588 positions are left.
pub record IsStatus {R : Type 0} {G : Ghosts R} (n : Node R G) (t : Counters) (json : Bool) (a : AnswerValue) :
    Type 0 where
  pub figures : Figures
  pub are : AreFigures n figures
  pub answered : a ≡ shown (status_as json figures (health n t) t)

-- the numbers for Prometheus of figures that are the node's
pub record AreMetrics {R : Type 0} {G : Ghosts R} (n : Node R G) (t : Counters) (a : AnswerValue) : Type 0 where
  pub figures : Figures
  pub are : AreFigures n figures
  pub answered : a ≡ shown (metrics_text figures (health n t) t)

-- what a read answers
abbrev pub IsRead : {R : Type 0} {G : Ghosts R} → Node R G → Option (ℕ × ℕ) → Counters → Read → AnswerValue → Type 0
IsRead n accepted t (read.List action) a = a ≡ answered (listed (config_of n) (action_value action))
IsRead n accepted t (read.Test packets) a = a ≡ verdicts_within (config_of n) (map (λ p. p.now) packets.items)
IsRead n accepted t (read.RequestStatus origin number) a = a ≡ request_status n accepted origin number
IsRead n accepted t (read.Log from) a = a ≡ log_answer n from
IsRead n accepted t (read.Entries from count) a = a ≡ entries_answer n from count
IsRead n accepted t (read.Status json) a = IsStatus n t json a
IsRead n accepted t read.Health a = a ≡ health_answer (health n t)
IsRead n accepted t read.Ready a = a ≡ ready_answer (health n t)
IsRead n accepted t read.Metrics a = AreMetrics n t a

-- fewer positions are applied than the reader asks for
-- Example: with 411 applied, a read at 412 is waiting, one at 411 is read.
abbrev pub not_yet : AnswerValue
not_yet = record { code = 503; body = codes "waiting\n" }

-- the answer of a read, and `not_yet` where it is to wait
abbrev pub IsReadIf : {R : Type 0} {G : Ghosts R} → Bool → Node R G → Option (ℕ × ℕ) → Counters → Read →
    AnswerValue → Type 0
IsReadIf true n accepted t r a = a ≡ not_yet
IsReadIf false n accepted t r a = IsRead n accepted t r a

-- ---- all requests

-- when out of memory for the line of a change that was asked or refused
abbrev pub no_memory : AnswerValue
no_memory = record { code = 503; body = [] }

-- one ask or none, and the line of it; the number that was given is kept
pub record IsChange {R : Type 0} {G : Ghosts R} (s t : RequestHandler R G) (command : entries.Command)
    (a : AnswerValue) : Type 0 where
  pub changed : Changed
  pub changes : Changes s.node t.node command changed
  pub accepted : t.accepted ≡ with_number s.accepted changed
  pub stopping : t.is_stopping ≡ s.is_stopping
  pub answered : (a ≡ change_answer changed) ⊎ (a ≡ no_memory)

-- A read leaves all as it was. A change is one ask of the node, or a refusal with nothing changed.
-- Example: Stop is answered 200 and stopping.
abbrev pub Answers : {R : Type 0} {G : Ghosts R} → (s t : RequestHandler R G) → Counters → Request → AnswerValue →
    Type 0
Answers s t counted (request.Change command) a = IsChange s t (command_value command) a
Answers s t counted (request.Read at r) a =
    (t ≡ s) × IsReadIf (nat_lt (applied_of s.node) at) s.node s.accepted counted r a
Answers s t counted request.Stop a = (t ≡ record s { is_stopping = true }) × (a ≡ shown (codes "stopping\n"))
