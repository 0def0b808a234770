-- what was kept, and what was sent
use Rattle.std.proofs.Common.{subst, sym}
use Rattle.px_model.proofs.Basics.{among_left}
use Rattle.px_model.specs.Law.{Among}
use Rattle.node_loop.proofs.Among.{among_all, among_front, among_is, among_then}
use Rattle.node_loop.proofs.Kept.{among_two, bounded, bounded_by, ok_map, same_proposal, few_of}
use Rattle.node_loop.proofs.resender.Resender.keep.Goals as goal

pub returns-then-to-self-clause-kept : goal.returns-then-to-self-clause-kept
returns-then-to-self-clause-kept c = among_front _ _ _ (among_all _)

pub returns-then-to-self-clause-bounded : goal.returns-then-to-self-clause-bounded
returns-then-to-self-clause-bounded c = bounded c.args.self.now

pub returns-then-to-self-2-clause-kept : goal.returns-then-to-self-2-clause-kept
returns-then-to-self-2-clause-kept c = among_two _ _ _ _ _ (among_front _ _ _ (among_all _)) c.keep.ensures

pub returns-then-to-self-2-clause-bounded : goal.returns-then-to-self-2-clause-bounded
returns-then-to-self-2-clause-bounded c = bounded_by c.args.self.now.latest c.keep.new.self

pub returns-in_default-clause-kept : goal.returns-in_default-clause-kept
returns-in_default-clause-kept c = among_front _ _ _ (among_all _)

pub returns-in_default-clause-bounded : goal.returns-in_default-clause-bounded
returns-in_default-clause-bounded c = bounded c.args.self.now

pub returns-then-eq-clause-kept : goal.returns-then-eq-clause-kept
returns-then-eq-clause-kept c =
    among_two _ _ _ _ _ (among_then _ _ _ (among_is _ _ c.pass.ensures.kept) c.keep-kept.ensures.kept) c.keep-2.ensures

pub returns-then-eq-clause-keeps : goal.returns-then-eq-clause-keeps
returns-then-eq-clause-keeps c =
    ok_map c.keep-kept.result
    (λ keeps g from b p message spelled proposes other below le few.
    among_left _ _ _ (subst (λ (xs : _). Among xs (c.args.to, c.args.bytes.now)) (sym c.pass.ensures.kept)
    (keeps b p (same_proposal _ _ _ (c.in-Some.ensures.spelled g from c.args.to message spelled) proposes) le (few_of c.args.self.now.latest few))))
    c.keep-kept.ensures.keeps

pub returns-then-eq-clause-bounded : goal.returns-then-eq-clause-bounded
returns-then-eq-clause-bounded c = bounded_by c.pass.new.self c.keep-2.new.self

pub returns-else-eq-2-clause-kept : goal.returns-else-eq-2-clause-kept
returns-else-eq-2-clause-kept c = among_two _ _ _ _ _ c.keep-kept.ensures.kept c.keep-2.ensures

pub returns-else-eq-2-clause-bounded : goal.returns-else-eq-2-clause-bounded
returns-else-eq-2-clause-bounded c = bounded_by c.keep-kept.new.self c.keep-2.new.self
