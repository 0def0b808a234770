-- The cases of progress, computed.
use Rattle.std.proofs.Common.{◌≡◌, ℕ, true, [], ◌∷◌, ◌++◌, length, refl, arith}
use Rattle.px_model.specs.Step.{front, first_gap, top_below, step, on_ask, on_tick, new_round, use_lead, on_prepare_all, on_accept, on_promise_all, gathered, on_vote, with_vote, learn, on_nack}
use Rattle.px_model.specs.World.{World, NodeState, happens, start}
use Rattle.px_model.specs.Worked as worked
use Rattle.px_model.specs.Progress.{IsUpTo}
use Rattle.px_model.specs.ProgressCases as cases
use Rattle.px_model.proofs.Basics.{put_all}
use Rattle.px_model.proofs.WorkedRuns.{computed}

pub the_laws_apply : cases.TheLawsApply
unfolding happens step on_ask front first_gap
the_laws_apply =
    let w = worked.world 3 (worked.ask 0 7 ∷ []) in
    record {
      majority_runs = record {
        majority = omega arith;
        running = λ k lt q. put_all (λ (j : ℕ) (z : NodeState ℕ). z.is_up ≡ true) start.nodes 0 (w.nodes 0) refl (λ j ne. refl) k;
        up_to = λ k lt q. put_all (λ (j : ℕ) (z : NodeState ℕ). IsUpTo 0 0 z) start.nodes 0 (w.nodes 0)
            (record { accepted = λ p over under. refl; promised = λ p. omega arith; used = omega arith; heard = omega arith })
            (λ j ne. record { accepted = λ p over under. refl; promised = λ p. omega arith; used = omega arith; heard = omega arith })
            k;
      };
      member = omega arith;
      belongs = refl;
      rest = [];
      waiting = refl;
    }

pub a_majority_finishes : cases.AMajorityFinishes
unfolding front first_gap top_below step on_ask on_tick new_round use_lead on_prepare_all on_accept on_promise_all gathered on_vote with_vote learn on_nack
a_majority_finishes = record {
  sent_before = computed (λ (w : World ℕ). length w.sent) 3 cases.contended _ refl refl;
  nothing_yet = computed (λ (w : World ℕ). worked.log_of w 0) 3 (cases.contended ++ cases.refused) _ refl refl;
  first = computed (λ (w : World ℕ). worked.log_of w 0) 3 (cases.contended ++ cases.refused ++ cases.first_learned) _ refl refl;
  second = computed (λ (w : World ℕ). worked.log_of w 0) 3 (cases.contended ++ cases.refused ++ cases.first_learned ++ cases.second_learned) _ refl refl;
  events = refl;
}
