use Rattle.std.proofs.Common.{ℕ, true, not, subst, sym, ap, ◌∙◌}
use Rattle.std.specs.BTreeSet.{contains, Updates}
use Rattle.pf_expansion.specs.inner.Tables.{key_cmp}
use Rattle.pf_expansion.proofs.Keeping.{found_already, found_first, one_key_more}
use Rattle.pf_expansion.proofs.tables.push_first.Goals as goal

pub returns-in_ok-push-in-Ok-true-clause-prefixes : goal.returns-in_ok-push-in-Ok-true-clause-prefixes
returns-in_ok-push-in-Ok-true-clause-prefixes c =
    one_key_more c.args.keys.now c.args.found.now.items c.args.entry.now c.requires c.insert.new.self c.push.new.self.items c.in_ok-push-in-Ok-true.ensures.items
    (subst (λ (k : ℕ × (ℕ × ℕ)). Updates key_cmp c.args.keys.now c.insert.new.self k true) c.key_of.ensures c.in-Ok-true.ensures.updates)

pub returns-in_ok-push-in-Ok-true-clause-found : goal.returns-in_ok-push-in-Ok-true-clause-found
returns-in_ok-push-in-Ok-true-clause-found c =
    found_first c.args.keys.now c.args.found.now.items c.args.entry.now c.requires c.push.new.self.items c.in_ok-push-in-Ok-true.ensures.items
    (sym c.in-Ok-true.field-0-test ∙ c.in-Ok-true.ensures.added ∙ ap (λ (k : ℕ × (ℕ × ℕ)). not (contains key_cmp c.args.keys.now k)) c.key_of.ensures)

pub returns-in-Ok-false-clause-found : goal.returns-in-Ok-false-clause-found
returns-in-Ok-false-clause-found c =
    found_already c.args.keys.now c.args.found.now.items c.args.entry.now c.requires
    (sym c.in-Ok-false.field-0-test ∙ c.in-Ok-false.ensures.added ∙ ap (λ (k : ℕ × (ℕ × ℕ)). not (contains key_cmp c.args.keys.now k)) c.key_of.ensures)
