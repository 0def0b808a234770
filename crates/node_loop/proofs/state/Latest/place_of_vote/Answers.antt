-- the first that is one
use Rattle.std.proofs.Common.{◌≡◌, ◌∙◌, List, Some, true, false, slice_get, sym, subst, refl, arith}
use Rattle.std.proofs.lemmas.Option.{slice_get_read}
use Rattle.node_loop.specs.declared.state.Kept.{Kept}
use Rattle.node_loop.proofs.state.Latest.place_of_vote.Goals as goal
use Rattle.node_loop.proofs.state.Latest.place_of_vote.Goals.{in-Vote, in_default}

pub returns-then-matches : goal.returns-then-matches
returns-then-matches c = (
  c.in_ok-kept.kept.now,
  subst (λ (ks : List Kept). slice_get ks c.loop-i.i ≡ Some c.in_ok-kept.kept.now) c.deref.ensures.value
      (slice_get_read c.deref.result.now _ c.loop-i.i c.in_ok-kept.kept.now refl (omega (arith, c.in_ok-kept.ensures.lookup.0)) c.in_ok-kept.ensures.lookup.1),
  elim c.match-matches.branch [ in-Vote w ↦ w.in-Vote.is | in_default w ↦ absurd (let e : true ≡ false = sym c.if-matches.true ∙ w.matches-is in cc) ],
  c.if-kept-member.true,
)
