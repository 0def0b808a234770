use Rattle.pf_tokens.proofs.ListsSpelled.{list_spelled, spelled_read}
use Rattle.pf_tokens.proofs.lists.lists_as_spelled.Goals as goal

pub returns : goal.returns
returns g c = λ profile follows is_element ts rest l.
    (list_spelled (g.E.Element.read profile) follows is_element ts rest l, spelled_read (g.E.Element.read profile) follows is_element ts rest l)
