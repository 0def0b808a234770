-- Wires of packets of the members of a cluster that stop and start again, step by step.
use Rattle.std.specs.Prelude.{◌≡◌, ◌⊎◌, ◌<◌, ℕ, ◌==◌, List, [], ◌∷◌, ◌++◌, None, if◌then◌else◌}
use Rattle.std.specs.List.{Contains}
use Rattle.px_packet.specs.Headers.{start_bytes}
use Rattle.px_transport.specs.Sending.{Sealer}
use Rattle.px_transport.specs.Wiring.{opened}
use Rattle.px_transport.specs.Steps.{Step, Hears, Puts, Takes, Reports, IsStep}

-- Runs of members, each from one of its starts on: the keys with which it opens packets, and who seals its own.
pub record Cluster : Type 0 where
  pub keys : (run : ℕ) → List (List ℕ)
  pub sealer : (run : ℕ) → Sealer

-- no two runs of a member have one start
abbrev pub StartsDiffer : Cluster → (runs : ℕ) → Type 0
StartsDiffer c n =
    (i j : ℕ) → i < n → j < n → (c.sealer i).me ≡ (c.sealer j).me →
    start_bytes (c.sealer i).start ≡ start_bytes (c.sealer j).start → i ≡ j

-- the steps of all runs, in the order in which they happen, each with its run
abbrev pub Network : Type 0
Network = List (ℕ × Step)

-- those of each run so far, the latest first
abbrev pub Before : Type 0
Before = ℕ → List Step

-- with one more
abbrev pub with_step : Before → (run : ℕ) → Step → Before
with_step before r x k = if k == r then x ∷ before k else before k

-- each is a step of its run, behind those before it
abbrev pub AreSteps : Cluster → Network → Before → Type 0
AreSteps c [] before = Unit {0}
AreSteps c ((r, x) ∷ xs) before =
    IsStep (c.keys r) (c.sealer r) (before r) x × AreSteps c xs (with_step before r x)

-- Each packet that comes in a run went over some member's wire before, in any run; or it isn't opened with this run's
-- keys. These went already.
abbrev pub PacketsCarried : Cluster → (runs : ℕ) → Network → (went : List (List ℕ)) → Type 0
PacketsCarried c n [] went = Unit {0}
PacketsCarried c n ((r, Hears came given memory now) ∷ xs) went =
    (r < n) × (Contains went came ⊎ (opened (c.keys r) (c.sealer r) came ≡ None)) × PacketsCarried c n xs went
PacketsCarried c n ((r, Puts to bytes) ∷ xs) went = (r < n) × PacketsCarried c n xs (went ++ bytes ∷ [])
PacketsCarried c n ((r, Takes to d is_cut) ∷ xs) went = (r < n) × PacketsCarried c n xs went
PacketsCarried c n ((r, Reports member now) ∷ xs) went = (r < n) × PacketsCarried c n xs went

-- Each datagram that is given was handed over by some member before, or it is empty. These were handed over already.
abbrev pub DatagramsCarried : Network → (handed : List (List ℕ)) → Type 0
DatagramsCarried [] handed = Unit {0}
DatagramsCarried ((r, Hears came given memory now) ∷ xs) handed =
    (Contains handed given ⊎ (given ≡ [])) × DatagramsCarried xs handed
DatagramsCarried ((r, Puts to bytes) ∷ xs) handed = DatagramsCarried xs handed
DatagramsCarried ((r, Takes to d is_cut) ∷ xs) handed = DatagramsCarried xs (handed ++ d ∷ [])
DatagramsCarried ((r, Reports member now) ∷ xs) handed = DatagramsCarried xs handed

-- Where packets that are opened come from members, datagrams that are given do, byte for byte: whatever packets are
-- lost, repeated, delayed or come from others, whatever is cut into pieces, and for whatever memory is refused; and
-- wherever members stop and start again, so that packets of earlier starts come.
abbrev pub SealedIsCarried : Type 0
SealedIsCarried =
    (c : Cluster) (n : ℕ) (xs : Network) → StartsDiffer c n → AreSteps c xs (λ r. []) → PacketsCarried c n xs [] →
    DatagramsCarried xs []
