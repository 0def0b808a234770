-- What became of a request.
use Rattle.std.specs.Prelude.{ℕ, Bool, false, List, ◌++◌, ◌==◌, ◌&&◌, nat_lt, nat_le}
use Rattle.std.specs.Prelude.{Option, Some, None, codes, decimal, if◌then◌else◌}
use Rattle.px_model.specs.Node.{Log}
use Rattle.px_model.specs.Step.{front}
use Rattle.px_model.specs.Spelling.{Bytes}
use Rattle.px_records.specs.declared.records.Records.{Ghosts}
use Rattle.pf_scripts.specs.Lines.{line}
use Rattle.node_requests.specs.Outcomes.{kept_line}
use Rattle.pf_node.specs.Nodes.{learned_by, applied_of, kept_of, membership_of}
use Rattle.pf_node.specs.Requests.{place_below}
use Rattle.pf_node.specs.declared.state.Node.{Node}
use Rattle.node_requests.specs.Answers.{AnswerValue, shown}

-- the number is one of those that were given, from the first to the last
abbrev pub is_accepted : Option (ℕ × ℕ) → ℕ → Bool
is_accepted None number = false
is_accepted (Some (first, last)) number = nat_le first number && nat_le number last

-- applied POSITION
abbrev pub applied_line : ℕ → List ℕ
applied_line p = line (codes "applied " ++ decimal p)

-- it is accepted, or learned and not applied yet
abbrev pub waiting : AnswerValue
waiting = shown (codes "waiting\n")

-- nothing is known of it here
abbrev pub unknown : AnswerValue
unknown = record { code = 404; body = codes "unknown\n" }

-- of one that was learned, its place; of another one, whether this node accepted it
-- Example: applied 411 and ok 1 0.
abbrev pub request_status_at : Log Bytes → (applied kept : ℕ) → Bool → Option ℕ → AnswerValue
request_status_at log applied kept ours (Some p) =
    if nat_lt p applied then shown (applied_line p ++ kept_line log applied kept p) else waiting
request_status_at log applied kept ours None = if ours then waiting else unknown

-- what became of a request, where these numbers were given here
abbrev pub request_status : {R : Type 0} {G : Ghosts R} → Node R G → Option (ℕ × ℕ) → (origin number : ℕ) → AnswerValue
request_status n accepted origin number =
    request_status_at (learned_by n) (applied_of n) (kept_of n)
    ((origin == (membership_of n).me) && is_accepted accepted number)
    (place_below (learned_by n) origin number (front (learned_by n)))
