use Rattle.std.proofs.Common.{◌≡◌, ◌∙◌, ◌++◌, ◌∷◌, [], ℕ, ap, subst}
use Rattle.std.specs.Prelude.{codes, decimal}
use Rattle.http_server.specs.Response.{fields_of}
use Rattle.px_wire.specs.declared.membership.Membership.{Membership}
use Rattle.node_control.proofs.Fields.{added}
use Rattle.node_control.proofs.service.HttpService.add_node_fields.Goals as goal

pub returns-clause-fields : goal.returns-clause-fields
returns-clause-fields g c =
    added (fields_of c.args.response.now) _ _ _
    (subst (λ (k : ℕ). fields_of c.add_number.new.response ≡ fields_of c.args.response.now ++ (codes "pfx-node", decimal k) ∷ [])
    (c.from.ensures ∙ (c.me-me.ensures ∙ ap (λ (m : Membership). m.me) c.membership.ensures.membership))
    c.in_ok-add_number.ensures.fields)
    (subst (λ (k : ℕ). fields_of c.add_number-2.new.response ≡ fields_of c.add_number.new.response ++ (codes "pfx-applied", decimal k) ∷ [])
    (c.from-applied.ensures ∙ c.applied.ensures.applied)
    c.in_ok-add_number-2.ensures.fields)
    (subst (λ (k : ℕ). fields_of c.add_number-3.new.response ≡ fields_of c.add_number-2.new.response ++ (codes "pfx-front", decimal k) ∷ [])
    (c.from-2.ensures ∙ c.front.ensures.front)
    c.in_ok-add_number-3.ensures.fields)
