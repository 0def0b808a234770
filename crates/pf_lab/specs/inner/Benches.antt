-- When a lab with its marks is the definition's.
use Rattle.std.specs.Prelude.{◌≡◌, ◌≤◌, ◌++◌, ℕ, List, Option, Some, None, false}
use Rattle.px_model.specs.World.{NodeState}
use Rattle.px_model.specs.Spelling.{Bytes}
use Rattle.px_records.specs.declared.records.Records.{Ghosts}
use Rattle.pf_node.specs.declared.state.Node.{Node}
use Rattle.pf_scripts.specs.Ctl.{WaitingWords}
use Rattle.pf_lab.specs.Labs.{IsWorld, IsShown, cluster_of}
use Rattle.pf_lab.specs.Scripts.{LabValue, Printed, StepValue}
use Rattle.pf_lab.specs.declared.bench.Bench.{Bench}

pub record IsBench (b : Bench) (v : LabValue) : Type 0 where
  pub world : IsWorld b.lab (cluster_of v.members) v.world
  pub members : b.members ≡ v.members
  pub passed : b.passed ≡ v.passed
  pub delivered : b.delivered.items ≡ v.delivered
  pub shown : b.shown ≡ v.shown
  pub some : 1 ≤ v.members
  pub few : v.members ≤ 15

-- a line was done so: this is the lab now, and the output has grown
abbrev pub Does : Printed → Bench → List ℕ → List ℕ → Type 0
Does p new before after = IsBench new p.lab × (after ≡ before ++ p.output)

-- a step was made so
abbrev pub Steps : StepValue → Bench → Option WaitingWords → List ℕ → List ℕ → Type 0
Steps s new waiting before after = IsBench new s.lab × (waiting ≡ s.waiting) × (after ≡ before ++ s.output)

-- a node that runs shows the member; of one that is stopped none is lent
abbrev pub IsOfMember : {R : Type 0} {G : Ghosts R} → NodeState Bytes → Option (Node R G) → Type 0
IsOfMember s None = s.is_up ≡ false
IsOfMember s (Some n) = IsShown s n
