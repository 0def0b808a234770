use Rattle.std.proofs.Common.{◌≡◌, ℕ, List, [], ◌∷◌, length, sym, ◌∙◌}
use Rattle.std.proofs.lemmas.List.{length-take-le}
use Rattle.pf_rules.proofs.Texts.{interface_text_short}
use Rattle.pf_rules.proofs.interface_name.InterfaceName.new.Goals as goal

-- there is room for each name
pub slice_bounds-copy_from_slice-end : goal.slice_bounds-copy_from_slice-end
slice_bounds-copy_from_slice-end c =
    let short = interface_text_short c.args.bytes.now (sym c.is_interface_text.ensures ∙ c.if-not-is_interface_text.false) in
    let room : List ℕ = 0 ∷ 0 ∷ 0 ∷ 0 ∷ 0 ∷ 0 ∷ 0 ∷ 0 ∷ 0 ∷ 0 ∷ 0 ∷ 0 ∷ 0 ∷ 0 ∷ 0 ∷ [] in
    sym (length-take-le {A = ℕ} (length c.args.bytes.now) room short)

pub copy_from_slice-requires : goal.copy_from_slice-requires
copy_from_slice-requires c = sym (slice_bounds-copy_from_slice-end c)
