-- What is promised of the members of every lab.
use Rattle.std.specs.Prelude.{◌≡◌, ℕ, ◌≤◌, List, slice_get, Some}
use Rattle.px_model.specs.World.{Event}
use Rattle.px_model.specs.Law.{Agree, Once, Kept, world_after}
use Rattle.px_model.specs.Spelling.{Bytes}
use Rattle.px_replica.specs.Made.{same}
use Rattle.pf_eval.specs.Verdicts.{judgement}
use Rattle.pf_eval.specs.declared.packet.Packet.{Packet}
use Rattle.pf_node.specs.Nodes.{applied_of, config_of}
use Rattle.pf_lab.specs.declared.host.Host.{Host}
use Rattle.pf_lab.specs.declared.state.Lab.{Lab}
use Rattle.pf_lab.specs.Labs.{IsWorld, cluster_of}

-- the members of a lab agree, and each entry acts once
abbrev pub LabsAgree : Type 0
LabsAgree =
    (n : ℕ) → 1 ≤ n → n ≤ 15 → (events : List (Event Bytes)) (lab : Lab) →
    IsWorld lab (cluster_of n) (world_after same n events) →
    Agree n (world_after same n events) × Once (world_after same n events) × Kept (world_after same n events)

-- of these members, any two that have applied equally many positions have equal configurations, and give equal verdicts
abbrev pub AreEqual : List Host → Type 0
AreEqual hosts =
    (i j : ℕ) (x y : Host) → slice_get hosts i ≡ Some x → slice_get hosts j ≡ Some y →
    applied_of x.node ≡ applied_of y.node →
    (config_of x.node ≡ config_of y.node) ×
    ((p : Packet) → judgement (config_of x.node) p ≡ judgement (config_of y.node) p)

-- equal numbers of applied positions give equal configurations and verdicts
abbrev pub EquallyApplied : Type 0
EquallyApplied =
    (n : ℕ) → 1 ≤ n → n ≤ 15 → (events : List (Event Bytes)) (lab : Lab) →
    IsWorld lab (cluster_of n) (world_after same n events) → AreEqual lab.hosts.items
