-- The record of a member in its store.
use Rattle.std.proofs.Common.{◌≡◌, ◌⊎◌, Bool, false, Option, None, Result, sym, subst, inl, inr}
use Rattle.std.specs.Prelude.{IfOk}
use Rattle.sqlite.specs.Effect.{Database}
use Rattle.sqlite.specs.Held.{Held, state}
use Rattle.sqlite.specs.State.{HasCleanDisk}
use Rattle.sqlite.specs.Tree.{Trees}
use Rattle.sqlite_trees.specs.declared.store.Store as store
use Rattle.px_store.specs.Adopting.{Began, IsBrought, IsMade, LeavesOr}
use Rattle.px_store.specs.Formats.{record_at}
use Rattle.px_store.specs.Judging.{refusal, reopen_refusal}
use Rattle.px_store.specs.Tables.{no_schema}
use Rattle.px_store.specs.View.{connection_of, IsOpened}
use Rattle.px_store.specs.declared.calls.Identity.{Identity}
use Rattle.px_store.specs.declared.fault.AdoptFault.{AdoptFault}
use Rattle.px_store.specs.declared.formats.Format.{Format}
use Rattle.px_store.specs.declared.keeper.SqlRecords.{SqlRecords}
use Rattle.cli_node.specs.declared.store.Found.{Found}
use Rattle.cli_node.specs.declared.store.Found.TheVariants as found
use Rattle.cli_node.specs.Stores.{IsKeptIn, refusal_at}

-- what takes a store, for this owner
pub kept_in : {S : Type 0} {g : store.Ghosts S} (held : Database → (within : Bool) → Type 0) (there : Found) (owner i : Identity) (given : Held S)
    (r : SqlRecords S g) → i ≡ owner → held (state g given).now (state g given).in_transaction →
    (HasCleanDisk (state g (connection_of r)) → (f : Format) → Began f (state g given) → IsOpened g r (record_at f (state g given).now.trees)) →
    (HasCleanDisk (state g (connection_of r)) → (f : Format) → Began f (state g given) → refusal_at there f i (state g given).now.trees ≡ None) →
    (HasCleanDisk (state g (connection_of r)) → (state g given).now.schema ≡ no_schema → (state g given).in_transaction ≡ false →
    LeavesOr (IsMade i) (state g given) (state g (connection_of r))) →
    (HasCleanDisk (state g (connection_of r)) → (f : Format) → Began f (state g given) →
    LeavesOr (IsBrought f i (state g given).now.trees) (state g given) (state g (connection_of r))) →
    IsKeptIn g held there owner r
kept_in {S} {g} held there owner i given r same was rows owned made brought = record {
  given = given;
  was = was;
  opened = rows;
  owned = λ clean f began. subst (λ (x : Identity). refusal_at there f x (state g given).now.trees ≡ None) same (owned clean f began);
  made = λ clean none auto.
      subst (λ (x : Identity). LeavesOr (IsMade x) (state g given) (state g (connection_of r))) same (made clean none auto);
  brought = λ clean f began.
      subst (λ (x : Identity). LeavesOr (IsBrought f x (state g given).now.trees) (state g given) (state g (connection_of r))) same
      (brought clean f began);
}

-- what takes a store that was found so isn't refused to this owner
abbrev pub IsAccepted : {S : Type 0} {g : store.Ghosts S} → (given : Held S) → (refused : Format → Trees → Option AdoptFault) →
    Result (SqlRecords S g) (AdoptFault × Held S) → Type 0
IsAccepted {S} {g} given refused result =
    IfOk result (λ r. HasCleanDisk (state g (connection_of r)) → (f : Format) → Began f (state g given) → refused f (state g given).now.trees ≡ None)

found_as : {S : Type 0} {g : store.Ghosts S} (there x : Found) (i : Identity) (given : Held S) (result : Result (SqlRecords S g) (AdoptFault × Held S)) →
    there ≡ x → IsAccepted given (λ f. refusal_at x f i) result → IsAccepted given (λ f. refusal_at there f i) result
found_as there x i given result is h = subst (λ (y : Found). IsAccepted given (λ f. refusal_at y f i) result) (sym is) h

-- one that was there isn't new
pub owned_store : {S : Type 0} {g : store.Ghosts S} (there : Found) (i : Identity) (given : Held S) (result : Result (SqlRecords S g) (AdoptFault × Held S)) →
    there ≡ found.Store → IsAccepted given (λ f. reopen_refusal f i) result → IsAccepted given (λ f. refusal_at there f i) result
owned_store there i given result is h = found_as there found.Store i given result is h

pub owned_new : {S : Type 0} {g : store.Ghosts S} (there : Found) (i : Identity) (given : Held S) (result : Result (SqlRecords S g) (AdoptFault × Held S)) →
    (there ≡ found.Nothing) ⊎ ((there ≡ found.Empty) ⊎ (there ≡ found.Other)) →
    IsAccepted given (λ f. refusal f i) result → IsAccepted given (λ f. refusal_at there f i) result
owned_new there i given result (inl is) h = found_as there found.Nothing i given result is h
owned_new there i given result (inr (inl is)) h = found_as there found.Empty i given result is h
owned_new there i given result (inr (inr is)) h = found_as there found.Other i given result is h
