-- No rule with a target leads back to the anchor that holds it.
use Rattle.std.proofs.Common.{◌≡◌, Bool, true, false, List, [], ◌∷◌, length, refl}
use Rattle.std.specs.Prelude.{◌&&◌, nat_le, not}
use Rattle.std.specs.List.{list_all, list_any}
use Rattle.pf_rules.specs.Names.{Name}
use Rattle.pf_rules.specs.Items.{AnyRule, FilterRule, AnchorRule}
use Rattle.pf_config.specs.Changes.{is_empty}
use Rattle.pf_config.specs.Map.{Configuration, Path, rules_at, paths_in}
use Rattle.pf_config.proofs.Treed.{both_true}
use Rattle.nft_rules.specs.Deciding.{leads_back, some_leads_back}
use Rattle.pfx_laws.specs.Targets.{has_target, have_targets}
use Rattle.pfx_laws.proofs.Depths.{targets_at}

not_here : (here : Bool) (names : List Name) → nat_le 1 (length names) ≡ true → (here && is_empty names) ≡ false
not_here true (n ∷ names) h = refl
not_here false names h = refl
not_here true [] h = cc

leads_on : (rule : AnyRule) → has_target rule ≡ true → leads_back rule ≡ false
leads_on (FilterRule r) h = refl
leads_on (AnchorRule a) h =
    not_here (not a.target.children) a.target.names (both_true (nat_le 1 (length a.target.names)) (nat_le (length a.target.names) 8) h).0

all_on : (rules : List AnyRule) → list_all has_target rules ≡ true → list_any leads_back rules ≡ false
all_on [] h = refl
all_on (r ∷ rules) h =
    let both = both_true (has_target r) (list_all has_target rules) h in
    rw (leads_on r both.0) (all_on rules both.1)

paths_on : (c : Configuration) (paths : List Path) → have_targets c ≡ true → list_any (λ p. list_any leads_back (rules_at c p)) paths ≡ false
paths_on c [] h = refl
paths_on c (p ∷ paths) h = rw (all_on (rules_at c p) (targets_at c p h)) (paths_on c paths h)

pub none_leads_back : (c : Configuration) → have_targets c ≡ true → some_leads_back c ≡ false
none_leads_back c h = paths_on c (paths_in c.anchors) h
