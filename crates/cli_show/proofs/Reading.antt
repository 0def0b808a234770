-- What is shown of the record in a store is shown of its rows.
use Rattle.std.proofs.Common.{◌≡◌, ℕ, Result, Ok, ap, subst, ◌∙◌, inl, inr}
use Rattle.std.specs.Prelude.{IfOk}
use Rattle.sqlite.specs.State.{State, HasCleanDisk}
use Rattle.sqlite.specs.Effect.{Database}
use Rattle.px_model.specs.Node.{Record}
use Rattle.px_model.specs.Spelling.{Bytes}
use Rattle.px_records.specs.declared.records.Records.{Ghosts}
use Rattle.px_store.specs.Seen.{record_in}
use Rattle.px_store.specs.Formats.{record_at}
use Rattle.px_store.specs.Adopting.{Began, IsSame, IsBrought, LeavesOld, LeavesOr}
use Rattle.px_store.specs.Ready.{MayLeave}
use Rattle.px_store.specs.declared.calls.Identity.{Identity}
use Rattle.px_store.specs.declared.formats.Format.TheVariants.{Three}
use Rattle.cli_show.specs.Showing.{ShowsLog, ShowsRecord}
use Rattle.cli_show.specs.declared.shown.Shown.{Shown}
use Rattle.cli_show.specs.declared.shown.Wanted.{Wanted}
use Rattle.cli_show.specs.Stores.{ShowsStore, LeavesRecord}

-- a store that is the same has begun too
pub begins_again : (old new : State) → Began Three old → IsSame old new → Began Three new
begins_again old new began same = record {
  schema = ap (λ (d : Database). d.schema) same.now ∙ began.schema;
  auto = same.auto;
}

-- what is shown of the record that was taken is shown of the rows that were there
pub shows_store : {R : Type 0} {G : Ghosts R} {E : Type 0} (members : ℕ) (given came : State) (adopted back : R) (w : Wanted) (s : Shown)
    (answer : Result Shown E) → Began Three given → (HasCleanDisk came → IsSame given came) → (G.is_honest adopted → HasCleanDisk came) →
    (G.is_honest adopted → Began Three came → G.stored adopted ≡ record_at Three came.now.trees) →
    (G.is_honest back → IfOk answer (λ x. ShowsRecord G members adopted back w x)) → answer ≡ Ok s →
    G.is_honest back → ShowsStore G given back w s
shows_store {R} {G} {E} members given came adopted back w s answer began stays clean opened shows is honest =
    let shown : ShowsRecord G members adopted back w s =
    subst (λ (r : Result Shown E). IfOk r (λ x. ShowsRecord G members adopted back w x)) is (shows honest) in
    let same : IsSame given came = stays (clean shown.was) in
    let rows : record_in came.now.trees ≡ record_in given.now.trees = ap (λ (d : Database). record_in d.trees) same.now in
    let was : G.stored adopted ≡ record_in given.now.trees = opened shown.was (begins_again given came began same) ∙ rows in
    record {
      same = shown.same ∙ was;
      shows = subst (λ (d : Record Bytes). ShowsLog d.learned w s) was shown.shows;
    }

-- ---- what an open after a stop may find

pub leaves_old : (old new : State) → LeavesOld old new → LeavesRecord old new
leaves_old old new h = λ left may. inl (may.0, h may.0 may.1, may.2)

-- behind the answer of whose store it is, and taking it
pub leaves_record : (given came new : State) (id : Identity) → Began Three given → IsSame given came → LeavesOld given came →
    (Began Three came → LeavesOr (IsBrought Three id came.now.trees) came new) → LeavesRecord given new
leaves_record given came new id began same first then_left = λ left may.
    elim (then_left (begins_again given came began same) may.0 may.1) [
      | inl h ↦ inl (may.0, first may.0 h, may.2)
      | inr h ↦ inr (may.2 ∙ h.shows ∙ ap (λ (d : Database). record_in d.trees) same.now)
    ]

pub leaves_less : (given adopted back : State) → LeavesRecord given adopted → ((left : Record Bytes) → MayLeave back left → MayLeave adopted left) → LeavesRecord given back
leaves_less given adopted back first later = λ left may. first left (later left may)
