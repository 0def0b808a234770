-- Numbers for Prometheus, in its text format 0.0.4.
use Rattle.std.specs.Prelude.{ℕ, Bool, true, false, List, [], ◌∷◌, ◌++◌, Option, Some, None, codes, decimal}
use Rattle.std.specs.List.{flat_map}
use Rattle.clap.specs.Words.{Text}
use Rattle.pf_scripts.specs.Lines.{line}
use Rattle.node_requests.specs.declared.counters.Counters.{Counters}
use Rattle.node_requests.specs.declared.counters.PeerCounters.{PeerCounters}
use Rattle.node_requests.specs.declared.figures.Figures.{Figures}
use Rattle.node_requests.specs.declared.health.Health.{Health}
use Rattle.node_requests.specs.declared.health.Health.TheVariants.{Works, Behind, Alone, Stuck, Failed}
use Rattle.node_requests.specs.declared.metrics.PeerFigure.{PeerFigure}
use Rattle.node_requests.specs.declared.metrics.PeerFigure.TheVariants.{Heard, In, Out}

-- ---- lines

-- what a metric is for, and its kind
-- Source: Prometheus, Exposition formats, Text format.
unfoldable pub heading : (kind name help : Text) → List ℕ
heading kind name help =
    line (codes "# HELP " ++ name ++ codes " " ++ help) ++ line (codes "# TYPE " ++ name ++ codes " " ++ kind)

-- a metric with one number
abbrev pub metric : (kind name help : Text) → ℕ → List ℕ
metric kind name help value = heading kind name help ++ line (name ++ codes " " ++ decimal value)

-- the number of a peer, or of whatever a label names
-- Example: pfx_datagrams_in_total{peer="2"} 88140.
unfoldable pub sample : (name label of : Text) → ℕ → List ℕ
sample name label of value = line (name ++ codes "{" ++ label ++ codes "=\"" ++ of ++ codes "\"} " ++ decimal value)

-- metrics of one kind: the name of each, what it is for, and its number
abbrev pub metrics_of : (kind : Text) → List (Text × Text × ℕ) → List ℕ
metrics_of kind rows = flat_map (λ r. metric kind r.0 r.1 r.2) rows

-- one metric of several numbers: what the label names, and the number
abbrev pub samples_of : (kind name help label : Text) → List (Text × ℕ) → List ℕ
samples_of kind name help label rows = heading kind name help ++ flat_map (λ r. sample name label r.0 r.1) rows

-- a figure of a peer, none of what never was
abbrev pub figure_of : PeerFigure → PeerCounters → Option ℕ
figure_of Heard p = p.heard
figure_of In p = Some p.datagrams_in
figure_of Out p = Some p.datagrams_out

-- the number of a peer, by its own as a member; nothing where there is none
abbrev pub peer_sample : (name : Text) → ℕ → Option ℕ → List ℕ
peer_sample name node None = []
peer_sample name node (Some value) = sample name (codes "peer") (decimal node) value

-- the kind, the name and the meaning of a figure of peers
abbrev pub peer_heading : PeerFigure → Text × Text × Text
peer_heading Heard = (codes "gauge", codes "pfx_peer_heard_seconds", codes "Seconds since the last datagram from the peer.")
peer_heading In = (codes "counter", codes "pfx_datagrams_in_total", codes "Datagrams from the peer.")
peer_heading Out = (codes "counter", codes "pfx_datagrams_out_total", codes "Datagrams to the peer.")

-- a figure of all peers
unfoldable pub peers_of : PeerFigure → List PeerCounters → List ℕ
peers_of figure peers =
    let h = peer_heading figure in
    heading h.0 h.1 h.2 ++ flat_map (λ p. peer_sample h.1 p.node (figure_of figure p)) peers

-- ---- what is measured

-- 1 where it is so
abbrev pub bit : Bool → ℕ
bit true = 1
bit false = 0

-- how far the node is, how its store is, and how many members there are
abbrev pub node_metrics : Figures → List ℕ
node_metrics f = metrics_of (codes "gauge")
    ((codes "pfx_front", codes "Least position not learned.", f.front)
    ∷ (codes "pfx_applied", codes "Positions applied.", f.applied)
    ∷ (codes "pfx_round", codes "Round of the last prepare.", f.round)
    ∷ (codes "pfx_waiting", codes "Commands asked here and not learned yet.", f.waiting)
    ∷ (codes "pfx_failed", codes "1 after a fault of the store.", bit f.has_failed)
    ∷ (codes "pfx_members", codes "Members of the cluster.", f.members) ∷ [])

-- 1 of the same health, 0 of another one
abbrev pub is_at : (state h : Health) → ℕ
is_at Works Works = 1
is_at Behind Behind = 1
is_at Alone Alone = 1
is_at Stuck Stuck = 1
is_at Failed Failed = 1
is_at state h = 0

-- the node's health: 1 at that one, and 0 at each other
abbrev pub health_metrics : Health → List ℕ
health_metrics h = samples_of (codes "gauge") (codes "pfx_health") (codes "1 for the health of the node now.")
    (codes "state")
    ((codes "ok", is_at Works h) ∷ (codes "behind", is_at Behind h) ∷ (codes "alone", is_at Alone h)
    ∷ (codes "stuck", is_at Stuck h) ∷ (codes "failed", is_at Failed h) ∷ [])

-- how much its configuration has
abbrev pub config_metrics : Figures → List ℕ
config_metrics f = metrics_of (codes "gauge")
    ((codes "pfx_anchors", codes "Paths with rules or tables.", f.anchors)
    ∷ (codes "pfx_rules", codes "Rules at all paths.", f.rules)
    ∷ (codes "pfx_tables", codes "Tables at all paths.", f.tables)
    ∷ (codes "pfx_table_addresses", codes "Entries in all tables.", f.addresses) ∷ [])

-- what the loop counted
abbrev pub loop_metrics : Counters → List ℕ
loop_metrics t = metrics_of (codes "counter")
    ((codes "pfx_unsent_total", codes "Datagrams that the system failed to send.", t.unsent)
    ∷ (codes "pfx_dropped_total", codes "Datagrams dropped: a wrong tag, an ask, or a part of one.", t.dropped)
    ∷ (codes "pfx_ignored_total", codes "Datagrams that aren't for this member.", t.ignored)
    ∷ (codes "pfx_turns_total", codes "Turns of the node.", t.turns)
    ∷ (codes "pfx_ticks_total", codes "Ticks of its clock.", t.ticks) ∷ [])

-- how many requests were answered, by the class of HTTP's status
abbrev pub control_metrics : Counters → List ℕ
control_metrics t = samples_of (codes "counter") (codes "pfx_control_requests_total")
    (codes "Requests at the control socket, by HTTP status.") (codes "code")
    ((codes "2xx", t.served) ∷ (codes "4xx", t.refused) ∷ (codes "5xx", t.unavailable) ∷ [])

-- all of them
abbrev pub metrics_text : Figures → Health → Counters → List ℕ
metrics_text f h t =
    ((((((node_metrics f ++ health_metrics h) ++ config_metrics f) ++ peers_of Heard t.peers.items)
    ++ peers_of In t.peers.items) ++ peers_of Out t.peers.items) ++ loop_metrics t) ++ control_metrics t
