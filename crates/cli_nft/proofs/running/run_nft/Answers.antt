use Rattle.std.proofs.Common.{◌∙◌, rules, inl, refl, List, Option, ℕ, ap, codes, map, subst, sym, unwrap_or}
use Rattle.clap.specs.Words.{first_of, found_of, rows_of}
use Rattle.cli_io.specs.Sources.{IsAt}
use Rattle.cli_io.proofs.Fronts.{nothing_written}
use Rattle.cli_nft.specs.Options.{members_in}
use Rattle.cli_nft.proofs.Writing.{given_parsed, given_refused, memory_over, ran_by, refused_written, lines_written, front_written}
use Rattle.cli_nft.proofs.running.run_nft.Goals as goal

-- the arguments are refused
pub returns-in-Err : goal.returns-in-Err
returns-in-Err g c =
    let arguments = map g.S.AsStr.text c.args.arguments.now in
    given_refused _ _ arguments c.in-Err.error c.misused.result _ _ _ c.in-Ok.ensures c.in-Err.ensures.kinds c.misused.ensures.ran c.misused.ensures.memory
    c.misused.ensures.failed

-- another subcommand
pub returns-in_default-given_in : goal.returns-in_default-given_in
returns-in_default-given_in g c =
    let arguments = map g.S.AsStr.text c.args.arguments.now in
    let matches = c.in-Ok-try_get_matches_from in
    let e = given_parsed _ arguments matches.matches c.in-Ok.ensures matches.ensures.kinds matches.ensures.matches ∙ sym c.in_default-given_in.ensures in
    rw e tt

pub returns-in_default-members_in : goal.returns-in_default-members_in
returns-in_default-members_in g c =
    memory_over _ _ _ _ _ _ c.out_of_memory-in_default-members_in.ensures.ends c.out_of_memory-in_default-members_in.ensures.failed

pub returns-in_default-interfaces_in : goal.returns-in_default-interfaces_in
returns-in_default-interfaces_in g c =
    memory_over _ _ _ _ _ _ c.out_of_memory-in_default-interfaces_in.ensures.ends c.out_of_memory-in_default-interfaces_in.ensures.failed

pub returns-in-Err-Memory : goal.returns-in-Err-Memory
returns-in-Err-Memory g c =
    memory_over _ _ _ _ _ _ c.out_of_memory-in-Err-Memory.ensures.ends c.out_of_memory-in-Err-Memory.ensures.failed

pub returns-in_default-nft_output : goal.returns-in_default-nft_output
returns-in_default-nft_output g c =
    memory_over _ _ _ _ _ _ c.out_of_memory-in_default-nft_output.ensures.ends c.out_of_memory-in_default-nft_output.ensures.failed

-- the input isn't read
pub returns-in-Err-Failed : goal.returns-in-Err-Failed
returns-in-Err-Failed g c = memory_over _ _ _ _ _ _ (inl refl) (λ _. nothing_written _ _)

-- a refusal is written
pub returns-in-Ok-write_bytes : goal.returns-in-Ok-write_bytes
returns-in-Ok-write_bytes g c =
    let arguments = map g.S.AsStr.text c.args.arguments.now in
    let matches = c.in-Ok-try_get_matches_from in
    let rows = rows_of (found_of c.in-Some.inner.now) in
    let e = given_parsed _ arguments matches.matches c.in-Ok.ensures matches.ensures.kinds matches.ensures.matches ∙ sym c.in-Some.ensures in
    let has = g.T.Sources.has c.args.sources.now in
    let there = subst (λ (t : Option (List ℕ)). IsAt has (first_of (codes "interfaces") rows) t) (sym c.as_deref-file.ensures.value) c.in-Ok-interfaces_in.ensures in
    ran_by has _ rows _ _ _ _ _ _ _ e there (c.as_deref-members.ensures.value ∙ c.in-Ok-members_in.ensures ∙ ap members_in c.values_in.ensures)
    (c.unwrap_or-position.ensures ∙ ap (λ o. unwrap_or o 0) c.number_in.ensures)
    (refused_written _ _ _ _ _ _ _ _ _ _ c.in-Ok-nft_output.ensures c.deref.ensures.value c.in-Ok-read_all.ensures.whole c.as_bytes.ensures.value (search rules) (search (rules, c.write_bytes.ensures.whole)))

-- the lines are written
pub returns-in-Ok-2 : goal.returns-in-Ok-2
returns-in-Ok-2 g c =
    let arguments = map g.S.AsStr.text c.args.arguments.now in
    let matches = c.in-Ok-try_get_matches_from in
    let rows = rows_of (found_of c.in-Some.inner.now) in
    let e = given_parsed _ arguments matches.matches c.in-Ok.ensures matches.ensures.kinds matches.ensures.matches ∙ sym c.in-Some.ensures in
    let has = g.T.Sources.has c.args.sources.now in
    let there = subst (λ (t : Option (List ℕ)). IsAt has (first_of (codes "interfaces") rows) t) (sym c.as_deref-file.ensures.value) c.in-Ok-interfaces_in.ensures in
    ran_by has _ rows _ _ _ _ _ _ _ e there (c.as_deref-members.ensures.value ∙ c.in-Ok-members_in.ensures ∙ ap members_in c.values_in.ensures)
    (c.unwrap_or-position.ensures ∙ ap (λ o. unwrap_or o 0) c.number_in.ensures)
    (lines_written _ _ _ _ _ _ _ _ _ _ c.in-Ok-nft_output.ensures c.deref.ensures.value c.in-Ok-read_all.ensures.whole c.as_bytes.ensures.value (search rules) (search (rules, c.write_bytes.ensures.whole)))

-- a write failed
pub returns : goal.returns
returns g c =
    let arguments = map g.S.AsStr.text c.args.arguments.now in
    let matches = c.in-Ok-try_get_matches_from in
    let rows = rows_of (found_of c.in-Some.inner.now) in
    let e = given_parsed _ arguments matches.matches c.in-Ok.ensures matches.ensures.kinds matches.ensures.matches ∙ sym c.in-Some.ensures in
    let has = g.T.Sources.has c.args.sources.now in
    let there = subst (λ (t : Option (List ℕ)). IsAt has (first_of (codes "interfaces") rows) t) (sym c.as_deref-file.ensures.value) c.in-Ok-interfaces_in.ensures in
    ran_by has _ rows _ _ _ _ _ _ _ e there (c.as_deref-members.ensures.value ∙ c.in-Ok-members_in.ensures ∙ ap members_in c.values_in.ensures)
    (c.unwrap_or-position.ensures ∙ ap (λ o. unwrap_or o 0) c.number_in.ensures)
    (front_written _ _ _ _ _ _ _ _ _ _ c.in-Ok-nft_output.ensures c.deref.ensures.value c.in-Ok-read_all.ensures.whole c.as_bytes.ensures.value (search (rules, c.write_bytes.ensures.front)))
