use Rattle.std.proofs.Common.{◌≡◌, ◌∙◌, [], ap, arith, rules, sym, subst}
use Rattle.sqlite_trees.proofs.Doubt.{clean_of as sure}
use Rattle.sqlite_store.specs.FileStore.{view as shown}
use Rattle.sqlite_store.specs.Listing.{listed_from}
use Rattle.sqlite_store.specs.Listed.{catalog_rows}
use Rattle.sqlite_store.specs.Unopened.{wanted_by}
use Rattle.sqlite.specs.Files.{IsEmpty}
use Rattle.cli_node.proofs.database.make.Goals as goal

-- the store that is made is fresh
pub over-requires : goal.over-requires
over-requires g c =
    λ none. let e = c.in-Ok-create.ensures in
    record { sound = e.ready.sound none; numbered = e.numbered; clean = e.ready.clean; unmarked = e.ready.unmarked }

pub returns-in-Ok-over-clause-empty : goal.returns-in-Ok-over-clause-empty
returns-in-Ok-over-clause-empty g c now =
    let clean = sure (shown c.in-Ok-create.store).is_clean (omega (arith, c.in-Ok-over.ensures.clean)) in
    let e = c.in-Ok-create.ensures in
    let none : wanted_by c.in-Ok-with_sums.files ≡ [] = search rules in
    subst IsEmpty (sym (c.in-Ok-over.ensures.trees now)) (
      λ tree low. ap (λ d. d tree) e.ready.clean ∙ e.empty clean tree low,
      rw clean (catalog_rows _ _ _ ∙ ap (listed_from 0) (e.schema ∙ none)),
    )

pub returns-in-Ok-over-clause-guarded : goal.returns-in-Ok-over-clause-guarded
returns-in-Ok-over-clause-guarded g c now =
    let clean = sure (shown c.in-Ok-create.store).is_clean (omega (arith, c.in-Ok-over.ensures.clean)) in
    c.in-Ok-over.ensures.shield (c.in-Ok-create.ensures.guarded clean)
