-- what is found has no fault
use Rattle.std.proofs.Common.{◌≡◌, ◌∙◌, inl, inr, subst, sym}
use Rattle.cli_node.specs.Stores.{IsOpening}
use Rattle.cli_node.specs.declared.store.Opening.{Opening}
use Rattle.cli_node.proofs.node.NodeStart.of_store.Goals as goal

pub returns-in-Makes-clause-sound : goal.returns-in-Makes-clause-sound
returns-in-Makes-clause-sound g c = λ sound owner is. (
  c.in-Some.found,
  (
    c.in-Some.is,
    inl (subst (λ (o : Opening). IsOpening c.args.self.now.arguments.is_from_file c.args.self.now.arguments.is_new c.in-Some.found o)
        c.in-Makes.is c.opening_of.ensures),
  ),
)

pub returns-in-Some-m-clause-sound : goal.returns-in-Some-m-clause-sound
returns-in-Some-m-clause-sound g c = λ sound owner is.
    let same : c.in-Some-m.m ≡ owner = (let e = sym c.in-Some-m.is ∙ is in cc) in
    (c.in-Some.found, (c.in-Some.is, inr (rw (sym same) (c.looked_at.ensures.sound sound))))

pub returns-in-None-clause-sound : goal.returns-in-None-clause-sound
returns-in-None-clause-sound g c = λ sound owner is. absurd (let e = sym c.in-None.is ∙ is in cc)
