-- below the front something is learned
use Rattle.std.proofs.Common.{◌≡◌, ◌≤◌, ◌+◌, ◌∙◌, ℕ, sym, refl, arith, subst}
use Rattle.px_model.specs.Entries.{entry_of}
use Rattle.px_replica.specs.Replicas.{learned_by}
use Rattle.pf_node.proofs.Following.{after_next, learned_below}
use Rattle.pf_node.proofs.Recording.{recorded_next}
use Rattle.pf_node.specs.inner.Requests.{AreWithin, AreBounds}
use Rattle.pf_node.proofs.Places.{within_next, bounds_next, stretched_next}
use Rattle.pf_node.proofs.applying.take_up.Goals as goal

pub returns-in_default-clause-done : goal.returns-in_default-clause-done
returns-in_default-clause-done g c =
    absurd (learned_below (learned_by c.args.replica.now) c.loop-position.position (omega (arith, c.front-end.ensures.front)) (sym c.in_default.ensures))

-- one position more is applied
pub loop-position-preserved : goal.loop-position-preserved
loop-position-preserved g c =
    let log = learned_by c.args.replica.now in
    let k = c.loop-position.position in
    let here = sym c.in-Some.ensures in
    let last = c.put-in-loop-position.new.self.last in
    let number : (entry_of c.in-Some.entry.now).origin ≡ c.loop-position.numbers.origin → (entry_of c.in-Some.entry.now).number ≤ last =
    λ own. subst (λ (n : ℕ). n ≤ last) c.number.ensures (c.put-in-loop-position.ensures.here (c.origin.ensures ∙ own)) in
    let origin = sym c.put-in-loop-position.ensures.origin in
    let within : AreWithin log c.loop-position.numbers.origin (k + 1) last =
    within_next log c.loop-position.numbers.origin k c.loop-position.numbers.last last _ c.loop-position.invariant.numbered c.put-in-loop-position.ensures.grows here number in
    let bounds : AreBounds log c.loop-position.numbers.origin c.put-in-loop-position.new.self.bounds.items =
    bounds_next log c.loop-position.numbers.origin (k + 1) last c.loop-position.numbers.bounds.items c.put-in-loop-position.new.self.bounds.items
    c.loop-position.invariant.bounded within c.put-in-loop-position.ensures.bounds in
    record {
      configured = after_next log k c.loop-position.config c.apply_entry.new.config _ c.loop-position.invariant.configured here c.in_ok-outcome.ensures.ok;
      here = refl;
      recorded = recorded_next log k 4095 c.loop-position.config _ c.in_ok-outcome.outcome c.loop-position.outcomes.kept.items c.put.new.self.kept.items
          c.loop-position.invariant.configured here c.in_ok-outcome.ensures.outcome c.loop-position.invariant.recorded c.put.ensures;
      numbered = subst (λ (o : ℕ). AreWithin log o (k + 1) last) origin within;
      bounded = subst (λ (o : ℕ). AreBounds log o c.put-in-loop-position.new.self.bounds.items) origin bounds;
      stretched = stretched_next k c.put-in-loop-position.new.self.last c.loop-position.numbers.bounds.items c.put-in-loop-position.new.self.bounds.items c.loop-position.invariant.stretched c.put-in-loop-position.ensures.bounds;
      grown = omega arith;
    }
