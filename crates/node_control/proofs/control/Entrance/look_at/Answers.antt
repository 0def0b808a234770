-- what was asked at the client
use Rattle.std.proofs.Common.{refl}
use Rattle.node_control.proofs.Asked.{from_here, figures_turned, figures_then, kept_same, kept_then}
use Rattle.node_control.proofs.Asking.{at_place, service_same, serves_calls, chained, figures_chained, is_there, kept_chained}
use Rattle.node_control.proofs.control.Entrance.look_at.Goals as goal

pub returns-in_default-answer-clause-asks : goal.returns-in_default-answer-clause-asks
returns-in_default-answer-clause-asks g c = from_here c.args.service.now _ _ refl refl (chained _ (λ a b q r h. h.0) _ _ c.answer.ensures.calls.0 c.answer.ensures.calls.2)

pub returns-in_default-answer-clause-figures : goal.returns-in_default-answer-clause-figures
returns-in_default-answer-clause-figures g c = figures_then c.args.service.now _ _ (figures_turned _ _ refl refl)
    (figures_chained _ (λ a b q r h. record { still = h.1; scraped = h.2 }) _ _ c.answer.ensures.calls.0 c.answer.ensures.calls.2)

pub returns-then-is_served-clause-asks : goal.returns-then-is_served-clause-asks
returns-then-is_served-clause-asks g c = from_here c.args.service.now _ _ refl refl (chained _ (λ a b q r h. h.0) _ _ c.answer.ensures.calls.0 c.answer.ensures.calls.2)

pub returns-then-is_served-clause-figures : goal.returns-then-is_served-clause-figures
returns-then-is_served-clause-figures g c = figures_then c.args.service.now _ _ (figures_turned _ _ refl refl)
    (figures_chained _ (λ a b q r h. record { still = h.1; scraped = h.2 }) _ _ c.answer.ensures.calls.0 c.answer.ensures.calls.2)

pub returns-clause-asks : goal.returns-clause-asks
returns-clause-asks g c = from_here c.args.service.now _ _ refl refl (chained _ (λ a b q r h. h.0) _ _ c.answer.ensures.calls.0 c.answer.ensures.calls.2)

pub returns-clause-figures : goal.returns-clause-figures
returns-clause-figures g c = figures_then c.args.service.now _ _ (figures_turned _ _ refl refl)
    (figures_chained _ (λ a b q r h. record { still = h.1; scraped = h.2 }) _ _ c.answer.ensures.calls.0 c.answer.ensures.calls.2)

pub returns-in_default-answer-clause-kept : goal.returns-in_default-answer-clause-kept
returns-in_default-answer-clause-kept g c = kept_then c.args.service.now _ _ (kept_same _ _ refl refl)
    (kept_chained _ (λ a b q r h. h.3) _ _ c.answer.ensures.calls.0 c.answer.ensures.calls.2)

pub returns-then-is_served-clause-kept : goal.returns-then-is_served-clause-kept
returns-then-is_served-clause-kept g c = kept_then c.args.service.now _ _ (kept_same _ _ refl refl)
    (kept_chained _ (λ a b q r h. h.3) _ _ c.answer.ensures.calls.0 c.answer.ensures.calls.2)

pub returns-clause-kept : goal.returns-clause-kept
returns-clause-kept g c = kept_then c.args.service.now _ _ (kept_same _ _ refl refl)
    (kept_chained _ (λ a b q r h. h.3) _ _ c.answer.ensures.calls.0 c.answer.ensures.calls.2)

pub returns-in_default-answer-clause-answers : goal.returns-in_default-answer-clause-answers
returns-in_default-answer-clause-answers g c = at_place _ c.args.self.now.clients.items c.args.place c.in-Some.client.now c.in-Some.ensures.item.3.0 c.in-Some.ensures.value
    (c.answer.new.self, c.answer.ensures.calls)

pub returns-in_default-answer-clause-nobody : goal.returns-in_default-answer-clause-nobody
returns-in_default-answer-clause-nobody g c = is_there c.args.self.now.clients.items c.args.place c.in-Some.client.now c.in-Some.ensures.item.3.0 c.in-Some.ensures.value

pub returns-then-is_served-clause-answers : goal.returns-then-is_served-clause-answers
returns-then-is_served-clause-answers g c = at_place _ c.args.self.now.clients.items c.args.place c.in-Some.client.now c.in-Some.ensures.item.3.0 c.in-Some.ensures.value
    (c.answer.new.self, c.answer.ensures.calls)

pub returns-then-is_served-clause-nobody : goal.returns-then-is_served-clause-nobody
returns-then-is_served-clause-nobody g c = is_there c.args.self.now.clients.items c.args.place c.in-Some.client.now c.in-Some.ensures.item.3.0 c.in-Some.ensures.value

pub returns-clause-answers : goal.returns-clause-answers
returns-clause-answers g c = at_place _ c.args.self.now.clients.items c.args.place c.in-Some.client.now c.in-Some.ensures.item.3.0 c.in-Some.ensures.value
    (c.answer.new.self, c.answer.ensures.calls)

pub returns-clause-nobody : goal.returns-clause-nobody
returns-clause-nobody g c = is_there c.args.self.now.clients.items c.args.place c.in-Some.client.now c.in-Some.ensures.item.3.0 c.in-Some.ensures.value

pub returns-in_default-answer-clause-serves : goal.returns-in_default-answer-clause-serves
returns-in_default-answer-clause-serves g c =
    serves_calls c.args.service.now _ _ c.answer.ensures.calls.0 (service_same _ _ refl refl refl) c.answer.ensures.calls.2

pub returns-then-is_served-clause-serves : goal.returns-then-is_served-clause-serves
returns-then-is_served-clause-serves g c =
    serves_calls c.args.service.now _ _ c.answer.ensures.calls.0 (service_same _ _ refl refl refl) c.answer.ensures.calls.2

pub returns-clause-serves : goal.returns-clause-serves
returns-clause-serves g c =
    serves_calls c.args.service.now _ _ c.answer.ensures.calls.0 (service_same _ _ refl refl refl) c.answer.ensures.calls.2
