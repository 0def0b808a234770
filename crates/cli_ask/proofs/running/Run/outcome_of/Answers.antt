-- the request that the arguments ask for is made, or why none is
use Rattle.std.proofs.Common.{◌≡◌, ◌∙◌, List, ℕ, Result, ap, sym, subst, inl, inr, refl, codes, unwrap_or, rules}
use Rattle.clap.specs.Words.{found_of, rows_of}
use Rattle.cli_ask.specs.Asking.{answer_value, AskedAt}
use Rattle.cli_ask.specs.Calls.{Request, call_of, call_value}
use Rattle.cli_ask.specs.Codes.{ask_fault_code}
use Rattle.cli_ask.specs.Outcomes.{IsWhy, Replied, call_for, outcome_by}
use Rattle.cli_ask.specs.declared.checking.Refused as checking
use Rattle.cli_ask.specs.declared.exchange.AskFault.{AskFault}
use Rattle.cli_ask.specs.declared.exchange.Reply.{Reply}
use Rattle.cli_ask.specs.declared.outcome.Outcome.TheVariants.{Answered}
use Rattle.cli_io.specs.Numbers.{number_at}
use Rattle.cli_ask.proofs.Series.{adds_nothing}
use Rattle.cli_ask.proofs.running.Run.outcome_of.Goals as goal

pub returns-in-Err-call : goal.returns-in-Err-call
returns-in-Err-call g c =
    let rows = rows_of (found_of c.args.self.now.matches.now) in
    let at : c.unwrap_or-at.result ≡ unwrap_or (number_at rows (codes "at")) 0 = c.unwrap_or-at.ensures ∙ ap (λ o. unwrap_or o 0) c.number_in-2.ensures in
    let same : call_of rows c.as_slice.result.now c.unwrap_or-at.result ≡ call_for rows c.in-Ok.text.items =
    ap (λ (t : List ℕ). call_of rows t c.unwrap_or-at.result) c.as_slice.ensures.value ∙ ap (λ (n : ℕ). call_of rows c.in-Ok.text.items n) at in
    inr (
      c.in-Ok.text.items,
      (
        rw c.value_in.ensures at c.in-Ok.ensures.text,
        inr (
          adds_nothing (g.C.Control.exchanged c.args.control.now),
          subst (λ (r : Result Request checking.Refused). IsWhy r c.in-Err-call.outcome) same c.in-Err-call.ensures,
        ),
      ),
    )

pub returns-in-Ok-ask_at : goal.returns-in-Ok-ask_at
returns-in-Ok-ask_at g c =
    let rows = rows_of (found_of c.args.self.now.matches.now) in
    let at : c.unwrap_or-at.result ≡ unwrap_or (number_at rows (codes "at")) 0 = c.unwrap_or-at.ensures ∙ ap (λ o. unwrap_or o 0) c.number_in-2.ensures in
    let same : call_of rows c.as_slice.result.now c.unwrap_or-at.result ≡ call_for rows c.in-Ok.text.items =
    ap (λ (t : List ℕ). call_of rows t c.unwrap_or-at.result) c.as_slice.ensures.value ∙ ap (λ (n : ℕ). call_of rows c.in-Ok.text.items n) at in
    let wait : c.unwrap_or-seconds.result ≡ unwrap_or (number_at rows (codes "wait")) 0 = c.unwrap_or-seconds.ensures ∙ ap (λ o. unwrap_or o 0) c.number_in-3.ensures in
    inr (
      c.in-Ok.text.items,
      (
        rw c.value_in.ensures at c.in-Ok.ensures.text,
        inl (record {
          call = call_value c.in-Ok-call.call;
          answer = answer_value c.ask_at.result;
          wanted = sym same ∙ c.in-Ok-call.ensures;
          asked = subst (λ (n : ℕ). AskedAt (g.C.Control.exchanged c.args.control.now) (g.C.Control.exchanged c.ask_at.new.control) (call_value c.in-Ok-call.call) n
              (answer_value c.ask_at.result)) wait c.ask_at.ensures;
          replied = subst (λ (a : Result Reply AskFault). Replied c.in-Ok-call.call.kind (answer_value a) (Answered c.in-Ok-call.call.kind c.in-Ok-ask_at.reply))
              (sym c.in-Ok-ask_at.is) (c.in-Ok-ask_at.reply, (refl, refl));
        }),
      ),
    )

pub returns : goal.returns
returns g c =
    let rows = rows_of (found_of c.args.self.now.matches.now) in
    let at : c.unwrap_or-at.result ≡ unwrap_or (number_at rows (codes "at")) 0 = c.unwrap_or-at.ensures ∙ ap (λ o. unwrap_or o 0) c.number_in-2.ensures in
    let same : call_of rows c.as_slice.result.now c.unwrap_or-at.result ≡ call_for rows c.in-Ok.text.items =
    ap (λ (t : List ℕ). call_of rows t c.unwrap_or-at.result) c.as_slice.ensures.value ∙ ap (λ (n : ℕ). call_of rows c.in-Ok.text.items n) at in
    let wait : c.unwrap_or-seconds.result ≡ unwrap_or (number_at rows (codes "wait")) 0 = c.unwrap_or-seconds.ensures ∙ ap (λ o. unwrap_or o 0) c.number_in-3.ensures in
    let said : c.map_or.result ≡ outcome_by (ask_fault_code c.in-Err-ask_at.fault) = search rules in
    inr (
      c.in-Ok.text.items,
      (
        rw c.value_in.ensures at c.in-Ok.ensures.text,
        inl (record {
          call = call_value c.in-Ok-call.call;
          answer = answer_value c.ask_at.result;
          wanted = sym same ∙ c.in-Ok-call.ensures;
          asked = subst (λ (n : ℕ). AskedAt (g.C.Control.exchanged c.args.control.now) (g.C.Control.exchanged c.ask_at.new.control) (call_value c.in-Ok-call.call) n
              (answer_value c.ask_at.result)) wait c.ask_at.ensures;
          replied = subst (λ (a : Result Reply AskFault). Replied c.in-Ok-call.call.kind (answer_value a) c.map_or.result) (sym c.in-Err-ask_at.is) said;
        }),
      ),
    )
