-- A node's health.
use Rattle.std.specs.Prelude.{ℕ, Bool, false, List, ◌/◌, ◌||◌, nat_lt, nat_le, count_by, Option, Some, None}
use Rattle.std.specs.Prelude.{codes, if◌then◌else◌}
use Rattle.std.specs.List.{list_any}
use Rattle.px_records.specs.declared.records.Records.{Ghosts}
use Rattle.px_model.specs.Step.{front}
use Rattle.pf_node.specs.Nodes.{learned_by, applied_of, membership_of, has_failed}
use Rattle.pf_node.specs.declared.state.Node.{Node}
use Rattle.node_requests.specs.declared.counters.PeerCounters.{PeerCounters}
use Rattle.node_requests.specs.declared.counters.Counters.{Counters}
use Rattle.node_requests.specs.declared.health.Health.{Health}
use Rattle.node_requests.specs.declared.health.Health.TheVariants.{Works, Behind, Alone, Stuck, Failed}
use Rattle.pf_scripts.specs.Lines.{line}
use Rattle.node_requests.specs.Answers.{AnswerValue}

-- a datagram came in the last three seconds
abbrev pub is_recent : Option ℕ → Bool
is_recent None = false
is_recent (Some seconds) = nat_lt seconds 3

-- of how many of the other members one came
-- Example: 2 is recent, 3 isn't.
abbrev pub counted : List PeerCounters → ℕ
counted peers = count_by (λ p. is_recent p.heard) peers

-- a member showed that a position is learned which isn't applied here
-- Example: with 412 applied, 413 is, 412 isn't.
abbrev pub is_shown : ℕ → List PeerCounters → Bool
is_shown applied peers = list_any (λ p. nat_lt applied p.shown) peers

-- a fault of the store; commands wait and the front doesn't move; fewer than a majority heard, this one counted;
-- positions to be applied; else it works
-- Example: of 3 members, one other that is heard will do.
abbrev pub health_by : (failed stuck few behind : Bool) → Health
health_by failed stuck few behind =
    if failed then Failed else if stuck then Stuck else if few then Alone else if behind then Behind else Works

-- A node's health, by what was counted. Few are fewer of the others than half of the members, rounded down.
abbrev pub health : {R : Type 0} {G : Ghosts R} → Node R G → Counters → Health
health n t = health_by (has_failed n) (nat_le 10 t.stood)
    (nat_lt (counted t.peers.items) ((membership_of n).members / 2))
    (nat_lt (applied_of n) (front (learned_by n)) || is_shown (applied_of n) t.peers.items)

-- ---- what is answered

-- its name, as answers have it
abbrev pub health_word : Health → List ℕ
health_word Works = codes "ok"
health_word Behind = codes "behind"
health_word Alone = codes "alone"
health_word Stuck = codes "stuck"
health_word Failed = codes "failed"

-- 503 of a failed one alone
abbrev pub health_code : Health → ℕ
health_code Works = 200
health_code Behind = 200
health_code Alone = 200
health_code Stuck = 200
health_code Failed = 503

-- 200 of one that works alone
-- Example: a node that is behind: 200 to the first, 503 to the second, behind to both.
abbrev pub ready_code : Health → ℕ
ready_code Works = 200
ready_code Behind = 503
ready_code Alone = 503
ready_code Stuck = 503
ready_code Failed = 503

-- what a watcher is answered that asks whether the node runs
abbrev pub health_answer : Health → AnswerValue
health_answer h = record { code = health_code h; body = line (health_word h) }

-- what a watcher is answered that asks whether the node keeps up
abbrev pub ready_answer : Health → AnswerValue
ready_answer h = record { code = ready_code h; body = line (health_word h) }
