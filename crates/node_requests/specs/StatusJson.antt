-- A node's status as JSON (RFC 8259): the figures of its lines.
use Rattle.std.specs.Prelude.{ℕ, Bool, true, false, List, [], ◌∷◌, ◌++◌, codes}
use Rattle.clap.specs.Words.{Text}
use Rattle.node_requests.specs.declared.figures.Figures.{Figures}
use Rattle.node_requests.specs.declared.health.Health.{Health}
use Rattle.node_requests.specs.declared.counters.PeerCounters.{PeerCounters}
use Rattle.node_requests.specs.declared.counters.Counters.{Counters}
use Rattle.node_requests.specs.Health.{health_word}
use Rattle.node_requests.specs.Status.{Row, identity, progress, stall, sizes, peer_rows, losses, control, store_word}
use Rattle.node_requests.specs.Status.{written, status_lines}

-- "NAME":NUMBER,.., and null for none
unfoldable pub members : (first : Text) → List Row → List ℕ
members first rows = written (codes ",\"") (codes "\":") (codes "null") first rows

-- an object for each peer: what is before the first name, and before that of each other
abbrev pub peers_json : (between first : Text) → List PeerCounters → List ℕ
peers_json between first [] = []
peers_json between first (p ∷ peers) =
    members first (peer_rows (codes "node") p) ++ codes "}" ++ peers_json between between peers

-- the whole object, a line
abbrev pub status_json : Figures → Health → Counters → List ℕ
status_json f h t =
    members (codes "{\"") (identity f t.up (codes "members"))
    ++ members (codes ",\"") (progress f)
    ++ members (codes ",\"") (sizes f)
    ++ codes ",\"peers\":[" ++ peers_json (codes ",{\"") (codes "{\"") t.peers.items
    ++ members (codes "],\"") (losses t)
    ++ members (codes ",\"") (control t)
    ++ codes ",\"health\":\"" ++ health_word h ++ members (codes "\",\"") (stall t)
    ++ codes ",\"store\":\"" ++ store_word f.has_failed ++ codes "\"}\n"

-- the status as JSON, or in lines
abbrev pub status_as : Bool → Figures → Health → Counters → List ℕ
status_as true f h t = status_json f h t
status_as false f h t = status_lines f h t
