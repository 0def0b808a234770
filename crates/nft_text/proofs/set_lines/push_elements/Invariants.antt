use Rattle.std.proofs.Common.{◌≡◌, ◌++◌, drop, string_bytes}
use Rattle.std.specs.Prelude.{codes}
use Rattle.std.specs.List.{flat_map}
use Rattle.nft_text.specs.Texts.{element_text}
use Rattle.nft_text.proofs.set_lines.push_elements.Given as goal

-- the text so far, and what is left
abbrev pub invariant-loop-element : goal.invariant-loop-element
invariant-loop-element l =
    string_bytes l.out ++ flat_map (element_text l.fn.family) (drop l.element-index l.fn.elements)
    ≡ string_bytes l.fn.out ++ (codes "elements = { " ++ flat_map (element_text l.fn.family) l.fn.elements)
