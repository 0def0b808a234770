-- As many rules as there are conditions.
use Rattle.std.proofs.Common.{◌≡◌, ◌+◌, ◌≤◌, ◌++◌, ◌∷◌, [], ℕ, List, length, map, ap, arith}
use Rattle.std.proofs.lemmas.List.{length-map, map-append}
use Rattle.pf_rules.specs.declared.item.AnchorHeading.{AnchorHeading}
use Rattle.pf_rules.specs.declared.rule.Conditions.{Conditions}
use Rattle.pf_rules.specs.Items.{Heading}
use Rattle.pf_rules.specs.Seen.{heading_of}

pub as_many : {X Y : Type 0} (f : X → Y) (xs : List X) (before : ℕ) → before + length xs ≤ 1024 → before + length (map f xs) ≤ 1024
as_many f xs before h = omega (arith, h, length-map xs f)

pub headings_push : (hs : List AnchorHeading) (h : AnchorHeading) → map heading_of (hs ++ h ∷ []) ≡ map heading_of hs ++ heading_of h ∷ []
headings_push hs h = map-append heading_of hs (h ∷ [])

pub as_many_headings : (hs : List AnchorHeading) (f : Conditions → Heading) (found : List Conditions) (before : ℕ) → map heading_of hs ≡ map f found → before + length found ≤ 1024 → before + length hs ≤ 1024
as_many_headings hs f found before same h = omega (arith, h, length-map hs heading_of, length-map found f, ap (λ (xs : List Heading). length xs) same)
