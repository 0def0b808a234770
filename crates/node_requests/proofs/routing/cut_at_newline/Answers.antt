use Rattle.std.proofs.Common.{ℕ, ◌+◌, ◌==◌, length, take, drop, sym, ap, ◌∙◌, arith, rules, take_all}
use Rattle.std.proofs.lemmas.List.Sums.{position_or_len_is}
use Rattle.std.proofs.lemmas.List.{take_rest, drop_all}
use Rattle.node_requests.proofs.routing.cut_at_newline.Goals as goal

pub returns-in-Some : goal.returns-in-Some
returns-in-Some c =
    let body = c.args.body.now in
    let found = position_or_len_is (λ (b : ℕ). b == 10) body c.in-Some.at 0 (search rules) (search rules) (search rules) in
    record { line = ap (λ n. take n body) (sym found); rest = take_rest body _ ∙ ap (λ n. drop (n + 1) body) (sym found) }

pub returns-in-None : goal.returns-in-None
returns-in-None c =
    let body = c.args.body.now in
    let none = position_or_len_is (λ (b : ℕ). b == 10) body (length body) 0 (omega arith) (search rules) (search rules) in
    record {
      line = sym (ap (λ n. take n body) none ∙ take_all (length body) body (omega arith));
      rest = sym (ap (λ n. drop (n + 1) body) none ∙ drop_all (length body + 1) body (omega arith));
    }
