-- The interfaces that a file lists are those of its lines.
use Rattle.std.proofs.Common.{◌≡◌, ℕ, List, Option, Some, None, Result, Ok, Err, Vec, Global}
use Rattle.std.specs.Prelude.{IfOk, IfSome, option_map}
use Rattle.nft_rules.specs.Seen.{machine_of}
use Rattle.nft_rules.specs.declared.machine.MachineInterface.{MachineInterface}
use Rattle.cli_nft.specs.Machines.{machine_in}
use Rattle.cli_follow.specs.Places.{IsListed}

pub listed : {E : Type 0} (has : (path text : List ℕ) → Type 0) (file text : List ℕ) (r : Result (Option (Vec MachineInterface Global)) E) →
    has file text → IfOk r (λ o. option_map (λ v. machine_of v.items) o ≡ machine_in text) →
    IfOk r (λ o. IfSome o (λ m. IsListed has (Some file) (Some (machine_of m.items))))
listed has file text (Err e) there h = tt
listed has file text (Ok None) there h = tt
listed has file text (Ok (Some v)) there h = (Some text, (there, h))
