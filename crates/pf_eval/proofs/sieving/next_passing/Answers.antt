use Rattle.std.proofs.Common.{◌∙◌, ◌<◌, List, length, ap, sym, subst, arith}
use Rattle.std.proofs.lemmas.Option.{get_or_from_slice_get}
use Rattle.pf_config.specs.declared.candidate.Candidate.{Candidate}
use Rattle.pf_eval.specs.inner.Sieves.{passes}
use Rattle.pf_eval.specs.inner.Searching.{Skips}
use Rattle.pf_eval.proofs.Searching.{over_skips, skips_join, skips_past}
use Rattle.pf_eval.proofs.sieving.next_passing.Goals as goal

pub returns-then-passes : goal.returns-then-passes
returns-then-passes c =
    let cs = c.args.candidates.now in
    let key = c.args.key.now in
    let found = c.in-Some.ensures in
    let behind = over_skips cs key c.args.search.now c.loop-at.left c.in-Some.at c.requires found.2 in (
      omega (arith, c.loop-at.invariant.past, found.0),
      subst (λ (l : List Candidate). c.in-Some.at < length l) c.requires.all found.1,
      skips_join cs key c.args.from c.loop-at.left c.in-Some.at c.loop-at.invariant.skipped behind,
      λ x got. ap (λ (y : Candidate). passes y.sieve key) (sym (get_or_from_slice_get cs c.in-Some.at x _ got)) ∙ sym c.passes.ensures ∙ c.if-passes.true,
    )

pub loop-at-preserved : goal.loop-at-preserved
loop-at-preserved c =
    let cs = c.args.candidates.now in
    let key = c.args.key.now in
    let found = c.in-Some.ensures in
    let behind = over_skips cs key c.args.search.now c.loop-at.left c.in-Some.at c.requires found.2 in
    record {
      past = omega (arith, c.loop-at.invariant.past, found.0);
      skipped = skips_past cs key c.args.from c.in-Some.at (skips_join cs key c.args.from c.loop-at.left c.in-Some.at c.loop-at.invariant.skipped behind)
          (λ x got. ap (λ (y : Candidate). passes y.sieve key) (sym (get_or_from_slice_get cs c.in-Some.at x _ got)) ∙ sym c.passes.ensures ∙ c.if-passes.false);
    }

pub returns : goal.returns
returns c =
    let cs = c.args.candidates.now in
    let key = c.args.key.now in
    let behind = over_skips cs key c.args.search.now c.loop-at.left (length c.args.search.now.list.now) c.requires c.in_default.ensures in
    skips_join cs key c.args.from c.loop-at.left (length cs) c.loop-at.invariant.skipped (subst (λ (l : List Candidate). Skips cs key c.loop-at.left (length l)) c.requires.all behind)
