-- a number above the bound is nowhere below it
use Rattle.std.proofs.Common.{◌≡◌, ℕ, None, subst, sym}
use Rattle.std.proofs.lemmas.Bool.{ltb-true}
use Rattle.pf_node.specs.Requests.{place_below}
use Rattle.pf_node.proofs.Places.{place_none}
use Rattle.pf_node.proofs.requests.Numbers.is_above.Goals as goal

pub returns-in-Some : goal.returns-in-Some
returns-in-Some c log bounds above =
    subst (λ (o : ℕ). place_below log o c.args.number c.args.position ≡ None) (sym c.if-origin-self.false)
    (place_none log c.args.self.now.origin c.args.position c.in-Some.bound c.args.number (c.in-Some.ensures log bounds)
    (ltb-true c.in-Some.bound c.args.number above))
