use Rattle.std.proofs.Common.{◌≡◌, ℕ, Option, is_none, nat_eq, sym, ap, subst, ◌∙◌}
use Rattle.std.specs.Prelude.{IfSome}
use Rattle.std.specs.List.{list_any}
use Rattle.std.specs.Ordering.{nat_cmp}
use Rattle.std.specs.BTreeSet.{BTreeSet, contains}
use Rattle.pf_rules.specs.Seen.{items_of}
use Rattle.pf_statements.specs.Seen.{item_text_of}
use Rattle.pf_expansion.proofs.Twice.{twice_within, twice_before}
use Rattle.pf_expansion.proofs.block_paths.is_twice.Goals as goal

pub returns-in_default : goal.returns-in_default
returns-in_default c =
    twice_within c.new-numbers.result.steps c.push_item_paths.new.numbers.steps c.push_item_paths.new.numbers.within c.push_item_paths.new.numbers.apart c.unnamed_in.result (items_of c.args.before.now) (item_text_of c.args.item.now) c.deref.result.now c.new-numbers.result.found.items c.push_item_paths.new.numbers.found.items c.deref.ensures.value c.new-numbers.ensures c.in_ok-push_item_paths.ensures c.unnamed_in.ensures
    (sym (ap (λ (o : Option (BTreeSet ℕ)). is_none o) c.in_default.is) ∙ c.in_ok-set.ensures.again)

pub returns : goal.returns
returns c =
    twice_before c.new-numbers.result.steps c.push_item_paths.new.numbers.steps c.push_item_paths.new.numbers.within c.push_item_paths.new.numbers.apart c.unnamed_in.result (items_of c.args.before.now) (item_text_of c.args.item.now) c.deref.result.now c.new-numbers.result.found.items c.push_item_paths.new.numbers.found.items c.deref.ensures.value c.new-numbers.ensures c.in_ok-push_item_paths.ensures c.unnamed_in.ensures
    c.in-Some.set (subst (λ (o : Option (BTreeSet ℕ)). IfSome o (λ (set : BTreeSet ℕ). (k : ℕ) → contains nat_cmp set k ≡ list_any (nat_eq k) c.deref.result.now)) c.in-Some.is c.in_ok-set.ensures.numbers)
    (sym (ap (λ (o : Option (BTreeSet ℕ)). is_none o) c.in-Some.is) ∙ c.in_ok-set.ensures.again)
    c.in_ok-twice.twice c.in_ok-twice.ensures
