-- it was asked over the wire that was made, or nothing was sent
use Rattle.std.proofs.Common.{◌≡◌, ◌⊎◌, ℕ, Bool, true, List, Some, codes, inl, inr, rules, subst, sym}
use Rattle.clap.specs.Words.{Row, first_of, found_of, rows_of}
use Rattle.px_transport.specs.Wires.{WireEvent}
use Rattle.cli_io.specs.Sources.{IsNamed, IsText}
use Rattle.cli_node.specs.declared.ask.AskArguments.{AskArguments}
use Rattle.cli_node.specs.declared.outcome.Outcome.{Outcome}
use Rattle.cli_node.specs.declared.outcome.Outcome.TheVariants.{Memory, Refused}
use Rattle.cli_node.specs.Asked.{AsksNode, AsksOver}
use Rattle.cli_node.specs.Doing.{Adds}
use Rattle.cli_node.specs.Places.{has_place}
use Rattle.cli_node.proofs.Endings.{if_some, some_of}
use Rattle.cli_node.proofs.ask.ask_outcome.Goals as goal

asked_here : {W : Type 0} (traffic : W → List WireEvent → Type 0) (reaches : List ℕ → W → Type 0)
    (is_unreached : List ℕ → Type 0) (went : List WireEvent → Type 0) (is_text : List ℕ → List ℕ → Type 0)
    (rows : List Row) (w : AskArguments) (b : Bool) (outcome : Outcome) → b ≡ true →
    AsksOver traffic reaches went is_text rows w outcome →
    AsksNode traffic reaches is_unreached went is_text rows w b outcome
asked_here traffic reaches is_unreached went is_text rows w b outcome e h = rw e (inr h)

pub returns-in-Ok-clause-asked : goal.returns-in-Ok-clause-asked
returns-in-Ok-clause-asked g c =
    let rows = rows_of (found_of c.args.matches.now) in
    let is_text = IsText (g.T.Sources.has c.args.sources.now) (g.R.Read.remaining c.args.reader.now) in
    let w = c.args.arguments in
    let is : c.membership.result ≡ Some c.in_ok-m.m = search rules in
    let some = if_some c.membership.result _ c.in_ok-m.m is c.membership.ensures.some in
    asked_here g.C.Wire.Wire.traffic (g.C.Client.reaches c.args.client.now) (g.C.Client.is_unreached c.args.client.now)
    (Adds (g.C.Client.went c.args.client.now) (g.C.Client.went c.close.new.self)) is_text rows w
    (has_place w.node w.members) c.answer_outcome.result
    (some_of _ c.in_ok-m.m (has_place w.node w.members) c.membership.ensures.none is) (
      c.in_ok-m.m,
      c.deref.result.now,
      c.in_ok-command.command,
      c.in_ok-wire.wire,
      c.ask_once-answer.new.wire,
      some.0,
      some.1,
      subst (λ (t : _). IsNamed (first_of (codes "file") rows) is_text t) (sym c.deref.ensures.value)
          (subst (λ (o : _). IsNamed o is_text c.in_ok-text.text.items) c.value_in.ensures c.in_ok-text.ensures.text),
      c.in_ok-command.ensures.change,
      c.in_ok-wire.ensures.reaches,
      inl (c.in-Ok.answer, c.answer_outcome.ensures, c.in-Ok.ensures.asked.0, c.in-Ok.ensures.asked.1, c.in-Ok.ensures.asked.2),
      λ es h before old. c.close.ensures es h before (c.bind.ensures.quiet before old),
    )

pub returns-clause-refused : goal.returns-clause-refused
returns-clause-refused g c =
    let rows = rows_of (found_of c.args.matches.now) in
    let is_text = IsText (g.T.Sources.has c.args.sources.now) (g.R.Read.remaining c.args.reader.now) in
    let w = c.args.arguments in
    let is : c.membership.result ≡ Some c.in_ok-m.m = search rules in
    let some = if_some c.membership.result _ c.in_ok-m.m is c.membership.ensures.some in
    let why : (c.numbered.result ≡ Memory) ⊎ (c.numbered.result ≡ Refused 41) = search rules in
    asked_here g.C.Wire.Wire.traffic (g.C.Client.reaches c.args.client.now) (g.C.Client.is_unreached c.args.client.now)
    (Adds (g.C.Client.went c.args.client.now) (g.C.Client.went c.close.new.self)) is_text rows w
    (has_place w.node w.members) c.numbered.result
    (some_of _ c.in_ok-m.m (has_place w.node w.members) c.membership.ensures.none is) (
      c.in_ok-m.m,
      c.deref.result.now,
      c.in_ok-command.command,
      c.in_ok-wire.wire,
      c.ask_once-answer.new.wire,
      some.0,
      some.1,
      subst (λ (t : _). IsNamed (first_of (codes "file") rows) is_text t) (sym c.deref.ensures.value)
          (subst (λ (o : _). IsNamed o is_text c.in_ok-text.text.items) c.value_in.ensures c.in_ok-text.ensures.text),
      c.in_ok-command.ensures.change,
      c.in_ok-wire.ensures.reaches,
      inr (why, c.in-Err.ensures.silent),
      λ es h before old. c.close.ensures es h before (c.bind.ensures.quiet before old),
    )
