use Rattle.std.proofs.Common.{rules, ◌≡◌, None, ℕ, ◌+◌, sym, ap, ◌∙◌}
use Rattle.std.specs.BTreeMap.{btree_map_len}
use Rattle.pf_rules.specs.Names.{Name}
use Rattle.pf_expansion.specs.inner.Numbers.{step_from}
use Rattle.pf_expansion.proofs.Stepping.{within_kept, apart_kept, grows_more, is_none_from}
use Rattle.pf_expansion.proofs.numbers.Numbers.push.Goals as goal
use Rattle.pf_expansion.proofs.numbers.Numbers.push.Goals.{in-Ok, in-Err}

pub invariant_of-self : goal.invariant_of-self
invariant_of-self c =
    let m = c.args.self.now.steps in
    let same : c.in_ok-to_vec.field-0.items ≡ c.args.name.now = search rules in
    let none : step_from m c.args.from c.in_ok-to_vec.field-0.items ≡ None =
    ap (λ (b : Name). step_from m c.args.from b) same ∙ sym c.in_ok-at.ensures ∙ is_none_from c.in_ok-at.field-0 c.in_default.not-Some in
    let count : c.len-at.result + 1 ≡ btree_map_len m + 1 = ap (λ (n : ℕ). n + 1) c.len-at.ensures.len in
    record {
      within = within_kept m c.insert.new.self (c.args.from, c.in_ok-to_vec.field-0) (c.len-at.result + 1) count none c.args.self.now.within c.insert.result c.insert.ensures.updates c.insert.ensures.old c.insert.ensures.len c.insert.ensures.err;
      apart = apart_kept m c.insert.new.self (c.args.from, c.in_ok-to_vec.field-0) (c.len-at.result + 1) count none c.args.self.now.within c.insert.result c.insert.ensures.updates c.insert.ensures.old c.insert.ensures.len c.insert.ensures.err c.args.self.now.apart;
    }

pub returns-clause-grows : goal.returns-clause-grows
returns-clause-grows c = elim c.match-insert.branch [
  | in-Ok w ↦
      let m = c.args.self.now.steps in
      let same : c.in_ok-to_vec.field-0.items ≡ c.args.name.now = search rules in
      let none : step_from m c.args.from c.in_ok-to_vec.field-0.items ≡ None =
      ap (λ (b : Name). step_from m c.args.from b) same ∙ sym c.in_ok-at.ensures ∙ is_none_from c.in_ok-at.field-0 c.in_default.not-Some in
      rw w.result-is (grows_more m c.insert.new.self c.args.from c.in_ok-to_vec.field-0.items (c.len-at.result + 1) w.in-Ok.ensures.updates none)
  | in-Err w ↦ rw w.result-is tt
]

pub returns-clause-found : goal.returns-clause-found
returns-clause-found c = elim c.match-insert.branch [
  | in-Ok w ↦
      let same : c.in_ok-to_vec.field-0.items ≡ c.args.name.now = search rules in
      rw w.result-is (ap (λ (b : Name). step_from c.insert.new.self c.args.from b) (sym same) ∙ w.in-Ok.ensures.updates.1)
  | in-Err w ↦ rw w.result-is tt
]
