-- What a core keeps and sends can be spelled.
use Rattle.std.proofs.Common.{◌≡◌, ℕ, ◌<◌, ◌≤◌, Bool, Option, Some, None, Result, Ok, Err, IfOk, MatchResult, subst, sym, nat_eq}
use Rattle.std.specs.Cmp.Lexicographic.{pointwise}
use Rattle.px_model.specs.Node as node
use Rattle.px_model.specs.Node.Answer.{Planned}
use Rattle.px_model.specs.Step.{front, put, positions, nothing_volatile}
use Rattle.px_model.specs.Fits.{Passes, PartsFit, PartsAnswerFits, LogFits, VolatileFits, EntryFits, IsPosition, parts_with}
use Rattle.px_model.specs.Spelling.{Bytes}
use Rattle.px_model.specs.Seen.{slot_of, meta_of, input_of}
use Rattle.px_model.specs.declared.record.Meta.{Meta}
use Rattle.px_model.specs.declared.record.Slot.{Slot}
use Rattle.px_model.specs.declared.message.Event.{Event}
use Rattle.px_model.specs.declared.message.Event.TheVariants as event
use Rattle.px_model.specs.declared.message.Message.TheVariants as message
use Rattle.px_model.proofs.Basics.{put_all}
use Rattle.px_model.proofs.Parts.{parts_fit}
use Rattle.px_model.proofs.AlwaysFits.{empty_fits}
use Rattle.px_core.specs.Planning.{State, empty_state, learned_after, step_with}
use Rattle.px_core.specs.Fitting.{CoreFits, HandedFits, PlanFits, SpelledMayCome}
use Rattle.px_core.specs.declared.plan.Plan.{Plan}
use Rattle.px_core.specs.declared.plan.CoreFault.{CoreFault}
use Rattle.px_core.proofs.Following.{learned_committed}

-- a plan that is the step of a core that fits, on what fits
pub plan_fits : (test : Bytes → Bool) (s : State) (numbers : Meta) (slot : Slot) (top : ℕ) (event : Event) → s.members ≤ 15 → s.me < s.members → CoreFits test s → HandedFits test s numbers slot top event → (plan : node.Plan Bytes) → step_with s numbers slot top event ≡ Planned plan → PlanFits test s plan
plan_fits test s numbers slot top event few member fits handed plan is = record {
  change = answer.change;
  sends = answer.sends;
  settled = record {
    learned = subst (λ (log : node.Log Bytes). LogFits (Passes test) s.members log) (sym same) answer.learned;
    volatile = subst (λ (log : node.Log Bytes). VolatileFits (Passes test) s.members s.me (front log) plan.volatile) (sym same) answer.volatile;
  };
}
  where
    parts : PartsFit (Passes test) s.members s.me (meta_of numbers) (slot_of slot) top s.learned s.volatile
    parts = record { meta = handed.meta; here = handed.here; top_within = handed.top_within; learned = fits.learned; volatile = fits.volatile }

    answer : PartsAnswerFits (Passes test) s.members s.me (meta_of numbers) (slot_of slot) s.learned s.volatile (Planned plan)
    answer =
        subst (λ (a : node.Answer Bytes). PartsAnswerFits (Passes test) s.members s.me (meta_of numbers) (slot_of slot) s.learned s.volatile a) is
        (parts_fit (Passes test) s.members s.me (meta_of numbers) (slot_of slot) top s.learned s.volatile parts few member (pointwise nat_eq) (input_of event) handed.input)

    same : learned_after plan.change s.learned ≡ (parts_with (meta_of numbers) (slot_of slot) s.learned (Planned plan)).learned
    same = learned_committed plan.change (record { meta = meta_of numbers; slots = λ p. slot_of slot; learned = s.learned })

-- a core that has just begun
pub empty_core_fits : (test : Bytes → Bool) (n m : ℕ) → CoreFits test (empty_state n m)
empty_core_fits test n m = record {
  learned = λ p e is. absurd (let a : None ≡ Some e = is in cc);
  volatile = empty_fits (Passes test) n m (front (empty_state n m).learned);
}

-- a core that forgets
pub forgetting_fits : (test : Bytes → Bool) (s : State) → CoreFits test s → CoreFits test (record s { volatile = nothing_volatile })
forgetting_fits test s fits = record {
  learned = fits.learned;
  volatile = empty_fits (Passes test) s.members s.me (front s.learned);
}

-- a core that remembers an entry
pub remembering_fits : (test : Bytes → Bool) (s : State) (p : ℕ) (e : node.Entry Bytes) → p < positions → s.volatile ≡ nothing_volatile → CoreFits test s → EntryFits (Passes test) s.members e → CoreFits test (record s { learned = put s.learned p (Some e) })
remembering_fits test s p e within nothing fits entry = record {
  learned = λ q f is. put_all (λ (j : ℕ) (o : Option (node.Entry Bytes)). o ≡ Some f → IsPosition j × EntryFits (Passes test) s.members f) s.learned p (Some e)
      (λ here. (within, subst (λ (o : Option (node.Entry Bytes)). match_entry o) here entry))
      (λ j ne there. fits.learned j f there) q is;
  volatile = subst (λ (v : node.Volatile Bytes). VolatileFits (Passes test) s.members s.me (front (put s.learned p (Some e))) v) (sym nothing) (empty_fits (Passes test) s.members s.me (front (put s.learned p (Some e))));
}
  where
    match_entry : Option (node.Entry Bytes) → Type 0
    match_entry None = Unit {0}
    match_entry (Some x) = EntryFits (Passes test) s.members x

-- the same of an answer, where the core stands for the same afterwards
pub answer_fits : (test : Bytes → Bool) (s t : State) (numbers : Meta) (slot : Slot) (top : ℕ) (event : Event) → s.members ≤ 15 → s.me < s.members → CoreFits test s → HandedFits test s numbers slot top event → t ≡ s → (of : Plan → node.Plan Bytes) (E : CoreFault → Type 0) (r : Result Plan CoreFault) → MatchResult r (λ plan. step_with s numbers slot top event ≡ Planned (of plan)) E → IfOk r (λ plan. PlanFits test t (of plan))
answer_fits test s t numbers slot top event few member fits handed same of E (Ok plan) is =
    subst (λ (u : State). PlanFits test u (of plan)) (sym same) (plan_fits test s numbers slot top event few member fits handed (of plan) is)
answer_fits test s t numbers slot top event few member fits handed same of E (Err fault) is = tt

-- a core that has remembered an entry, and has nothing volatile
pub remembered_fits : (test : Bytes → Bool) (s t : State) (p : ℕ) (e : node.Entry Bytes) → p < positions → s.volatile ≡ nothing_volatile → t ≡ record s { learned = put s.learned p (Some e) } → CoreFits test s → EntryFits (Passes test) s.members e → CoreFits test t
remembered_fits test s t p e within nothing is fits entry =
    subst (λ (u : State). CoreFits test u) (sym is) (remembering_fits test s p e within nothing fits entry)

pub spelled_may_come : SpelledMayCome
spelled_may_come test members me (event.Asks e) fits = tt
spelled_may_come test members me event.Ticks fits = tt
spelled_may_come test members me (event.Comes from (message.Prepare b p)) fits = tt
spelled_may_come test members me (event.Comes from (message.Promise b p a)) fits = tt
spelled_may_come test members me (event.Comes from (message.PrepareAll b p)) fits = tt
spelled_may_come test members me (event.Comes from (message.PromiseAll b p t a)) fits = (fits.between.0, fits.message.1)
spelled_may_come test members me (event.Comes from (message.Accept b p e)) fits = tt
spelled_may_come test members me (event.Comes from (message.Vote b p e)) fits = fits.between.0
spelled_may_come test members me (event.Comes from (message.Nack b p q)) fits = tt
spelled_may_come test members me (event.Comes from (message.Need p)) fits = tt
spelled_may_come test members me (event.Comes from (message.Learned p e)) fits = tt
spelled_may_come test members me (event.Comes from (message.Ask e)) fits = tt
spelled_may_come test members me (event.Comes from (message.Asked t k)) fits = tt
spelled_may_come test members me (event.Comes from (message.AskRefused t k)) fits = tt
