-- what the run ended with, of its member, its keys and its start
use Rattle.std.proofs.Common.{◌∙◌, Err, ap, arith, inl, inr, sym}
use Rattle.std.specs.Prelude.{is_some}
use Rattle.cli_node.proofs.Beyond.{controlled_or_not, keyed_or_not}
use Rattle.cli_node.proofs.Endings.{lost_by, refusal_of, new_map, with_map}
use Rattle.cli_node.proofs.Stores.{not_lost}
use Rattle.cli_node.proofs.node.run_node.Goals as goal

pub returns-then-is_made-clause-ran : goal.returns-then-is_made-clause-ran
returns-then-is_made-clause-ran g c = inr (
  c.in-Some.m,
  c.in-Ok.keys,
  c.in-Some.ensures.some,
  c.in-Ok.ensures.named,
  new_map _ _ _ _ _ _ _ _ _ _ _ _ _ _ (λ start raised. (c.in-Some-found_store.found, c.in-Some-found_store.ensures, raised))
      (λ r h. (c.in-Some-found_store.found, c.in-Some-found_store.ensures, inl (sym c.is_made.ensures ∙ c.if-is_made.true), h))
      (λ r h. h) (λ how h. h)
      c.run_new.ensures.ran,
)

pub returns-in-Ok-opened_record-clause-ran : goal.returns-in-Ok-opened_record-clause-ran
returns-in-Ok-opened_record-clause-ran g c = inr (
  c.in-Some.m,
  c.in-Ok.keys,
  c.in-Some.ensures.some,
  c.in-Ok.ensures.named,
  inr (
    c.in-Ok-opened_record.records,
    c.in-Ok-opened_record.ensures.members,
    c.in-Ok-opened_record.ensures.begins,
    (
      c.in-Some-found_store.found,
      c.in-Some-found_store.ensures,
      c.in-Ok-opened_record.ensures.may,
      c.in-Ok-opened_record.ensures.rows,
    ),
    with_map _ _ _ _ _ _ _ _ _ _ _ _ _ (λ start raised. (c.in-Some-found_store.found, c.in-Some-found_store.ensures, raised))
        (λ r h. h) (λ how h. h)
        c.run_sealed.ensures.ran,
  ),
)

pub returns-in-Ok-opened_record-clause-store : goal.returns-in-Ok-opened_record-clause-store
returns-in-Ok-opened_record-clause-store g c = c.run_sealed.ensures.store c.args.arguments.is_from_file c.args.arguments.is_new

pub returns-in-Err-clause-ran : goal.returns-in-Err-clause-ran
returns-in-Err-clause-ran g c =
    inl (refusal_of 83 c.named_keys.result c.in-Err.outcome c.in-Err.is c.named_keys.ensures.refused)

pub returns-in-Err-opened_record-clause-ran : goal.returns-in-Err-opened_record-clause-ran
returns-in-Err-opened_record-clause-ran g c = inl c.in-Err-opened_record.ensures.kind

-- 93 comes only where no store is

pub returns-then-is_made-clause-none : goal.returns-then-is_made-clause-none
returns-then-is_made-clause-none g c = λ e. (c.in-Some-found_store.found, c.in-Some-found_store.ensures, c.run_new.ensures.none e)

pub returns-in-Ok-opened_record-clause-none : goal.returns-in-Ok-opened_record-clause-none
returns-in-Ok-opened_record-clause-none g c = λ e. absurd (not_lost c.run_sealed.result c.run_sealed.ensures.store e)

pub returns-in-Err-opened_record-clause-none : goal.returns-in-Err-opened_record-clause-none
returns-in-Err-opened_record-clause-none g c = λ e.
    (c.in-Some-found_store.found, c.in-Some-found_store.ensures, c.in-Err-opened_record.ensures.none (ap Err e))

pub returns-in-Err-clause-none : goal.returns-in-Err-clause-none
returns-in-Err-clause-none g c = λ e.
    absurd (lost_by 83 c.named_keys.result c.in-Err.outcome (λ b. omega (arith, b)) c.in-Err.is
    c.named_keys.ensures.refused e)

-- nor is it refused for a key or a control socket that it doesn't name

pub returns-in-Err-clause-beyond : goal.returns-in-Err-clause-beyond
returns-in-Err-clause-beyond g c = controlled_or_not (is_some c.args.arguments.key) (is_some c.args.arguments.control) c.in-Err.outcome c.in-Err.ensures.beyond

pub returns-in-Err-opened_record-clause-beyond : goal.returns-in-Err-opened_record-clause-beyond
returns-in-Err-opened_record-clause-beyond g c = keyed_or_not (is_some c.args.arguments.key) (is_some c.args.arguments.control) c.in-Err-opened_record.outcome c.in-Err-opened_record.ensures.beyond
