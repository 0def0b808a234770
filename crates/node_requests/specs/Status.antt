-- A node's status: its figures, and the lines that show them.
use Rattle.std.specs.Prelude.{ℕ, Bool, true, false, List, [], ◌∷◌, ◌++◌, Option, Some, None}
use Rattle.std.specs.Prelude.{codes, decimal, string_bytes}
use Rattle.std.specs.List.{flat_map}
use Rattle.clap.specs.Words.{Text}
use Rattle.pf_scripts.specs.Lines.{line}
use Rattle.node_requests.specs.declared.figures.Figures.{Figures}
use Rattle.node_requests.specs.declared.health.Health.{Health}
use Rattle.node_requests.specs.declared.counters.PeerCounters.{PeerCounters}
use Rattle.node_requests.specs.declared.counters.Counters.{Counters}
use Rattle.node_requests.specs.Health.{health_word}

-- ---- figures

-- a figure: its name, and its number, none of what never was
abbrev pub Row : Type 0
Row = Text × Option ℕ

-- who the node is; its members have one name in lines, and another in JSON
unfoldable pub identity : Figures → (up : ℕ) → (members : Text) → List Row
identity f up members =
    (codes "node", Some f.node) ∷ (members, Some f.members) ∷ (codes "cluster", Some f.cluster)
    ∷ (codes "up", Some up) ∷ []

-- how far it is
unfoldable pub progress : Figures → List Row
progress f =
    (codes "front", Some f.front) ∷ (codes "applied", Some f.applied) ∷ (codes "round", Some f.round)
    ∷ (codes "waiting", Some f.waiting) ∷ (codes "left", Some f.left) ∷ []

-- why its front may stand
unfoldable pub stall : Counters → List Row
stall t = (codes "stood", Some t.stood) ∷ (codes "outrun", Some t.outrun) ∷ (codes "large", Some t.large) ∷ []

-- how much its configuration has
unfoldable pub sizes : Figures → List Row
sizes f =
    (codes "anchors", Some f.anchors) ∷ (codes "rules", Some f.rules) ∷ (codes "tables", Some f.tables)
    ∷ (codes "addresses", Some f.addresses) ∷ []

-- a peer: its number, how many seconds ago a datagram came, and how many came and went
unfoldable pub peer_rows : (name : Text) → PeerCounters → List Row
peer_rows name p =
    (name, Some p.node) ∷ (codes "heard", p.heard) ∷ (codes "in", Some p.datagrams_in)
    ∷ (codes "out", Some p.datagrams_out) ∷ []

-- what the wire counted
unfoldable pub losses : Counters → List Row
losses t = (codes "unsent", Some t.unsent) ∷ (codes "dropped", Some t.dropped) ∷ (codes "ignored", Some t.ignored) ∷ []

-- what the control socket counted
unfoldable pub control : Counters → List Row
control t = (codes "clients", Some t.clients) ∷ (codes "served", Some t.served) ∷ (codes "refused", Some t.refused) ∷ []

-- how the store is
abbrev pub store_word : Bool → List ℕ
store_word true = codes "failed"
store_word false = codes "ok"

-- ---- strings

-- a number, or this text where there is none
abbrev pub number_or : (never : Text) → Option ℕ → List ℕ
number_or never None = never
number_or never (Some n) = decimal n

-- figures one behind the other: what is before the first, before each other, behind each name, and in place of none
abbrev pub written : (between behind never first : Text) → List Row → List ℕ
written between behind never first [] = []
written between behind never first (row ∷ rows) =
    first ++ row.0 ++ behind ++ number_or never row.1 ++ written between behind never between rows

-- NAME NUMBER ..
-- Example: peer 2 heard never in 0 out 88140.
unfoldable pub words : (first : Text) → List Row → List ℕ
words first rows = written (codes " ") (codes " ") (codes "never") first rows

-- ---- lines

-- the line of a peer
abbrev pub peer_line : PeerCounters → List ℕ
peer_line p = line (words [] (peer_rows (codes "peer") p))

-- the status
-- Example: node 0 of 3 cluster 7 up 86412.
abbrev pub status_lines : Figures → Health → Counters → List ℕ
status_lines f h t =
    line (words [] (identity f t.up (codes "of")))
    ++ line (words [] (progress f))
    ++ codes "health " ++ health_word h ++ line (words (codes " ") (stall t))
    ++ line (words (codes "config ") (sizes f))
    ++ flat_map peer_line t.peers.items
    ++ line (words (codes "wire ") (losses t))
    ++ codes "store " ++ line (store_word f.has_failed)
    ++ line (words (codes "control ") (control t))
    ++ codes "members " ++ line (string_bytes t.members)
