-- a name that has a value is given
use Rattle.std.proofs.Common.{◌≡◌, ◌∙◌, ap, refl, Bor, Option, Some, None, is_some}
use Rattle.std.specs.Option.{option_copied}
use Rattle.node_requests.specs.inner.Parameters.{pairs_of}
use Rattle.node_requests.proofs.Names.{named}
use Rattle.node_requests.proofs.query.has_name.Goals as goal

copied : {T : Type 0} (o : Option (Bor T)) → is_some o ≡ is_some (option_copied o)
copied None = refl
copied (Some r) = refl

pub returns : goal.returns
returns c =
    c.is_some.ensures ∙ copied c.value_of.result ∙ ap is_some c.value_of.ensures ∙ named c.args.name.now (pairs_of c.args.given.now)
