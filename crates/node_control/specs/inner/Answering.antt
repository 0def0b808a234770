-- The fields of an answer.
use Rattle.std.specs.Prelude.{ℕ, ◌==◌, List, [], ◌∷◌, ◌++◌, codes, decimal, true, false}
use Rattle.std.specs.Prelude.{if◌then◌else◌}
use Rattle.px_model.specs.Step.{front}
use Rattle.px_records.specs.declared.records.Records.{Ghosts}
use Rattle.pf_node.specs.Nodes.{learned_by, applied_of, membership_of}
use Rattle.pf_node.specs.declared.state.Node.{Node}
use Rattle.node_requests.specs.declared.request.Read.{Read}
use Rattle.node_requests.specs.declared.request.Read.TheVariants as read
use Rattle.node_requests.specs.declared.request.Request.{Request}
use Rattle.node_requests.specs.declared.request.Request.TheVariants as request

-- the kind of text that a read is answered with
abbrev pub text_of : Read → List ℕ
text_of read.Metrics = codes "text/plain; version=0.0.4"
text_of (read.Status true) = codes "application/json"
text_of other = codes "text/plain; charset=utf-8"

-- the kind of text that a request is answered with
abbrev pub content_type : Request → List ℕ
content_type (request.Read at r) = text_of r
content_type other = codes "text/plain; charset=utf-8"

-- which node answers, how many positions it has applied, and how many are learned without a gap
abbrev pub node_fields : {R : Type 0} {G : Ghosts R} → Node R G → List (List ℕ × List ℕ)
node_fields n =
    (codes "pfx-node", decimal (membership_of n).me) ∷
    ((codes "pfx-applied", decimal (applied_of n)) ∷
    ((codes "pfx-front", decimal (front (learned_by n))) ∷ []))

-- those of an answer with this status and this kind of text: a client is to ask again behind 503, a second later
abbrev pub answer_fields : {R : Type 0} {G : Ghosts R} → Node R G → (code : ℕ) → (kind : List ℕ) →
    List (List ℕ × List ℕ)
answer_fields n code kind =
    node_fields n ++ ((codes "content-type", kind) ∷
    (if code == 503 then (codes "retry-after", codes "1") ∷ [] else []))
