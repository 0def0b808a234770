-- Packets on skipped interfaces, name by name of the packet's.
use Rattle.std.proofs.Common.{◌≡◌, ◌||◌, Bool, true, false, List, [], ◌∷◌, refl, sym, ap, ◌∙◌}
use Rattle.std.specs.List.{list_any}
use Rattle.std.specs.Str.{bytes_eq}
use Rattle.std.proofs.lemmas.Cmp.{nat_list_eq_equiv}
use Rattle.pf_rules.specs.Names.{Name}
use Rattle.pf_config.specs.SkippedNames.{is_listed}

-- a name is one of these, by each of them
listed_is : (m : Name) (ns : List Name) → list_any (λ (n : Name). bytes_eq m n) ns ≡ is_listed m ns
listed_is m [] = refl
listed_is m (n ∷ ns) = rw (nat_list_eq_equiv.symm m n, listed_is m ns) refl

none_any : (ns : List Name) → list_any (λ (n : Name). false) ns ≡ false
none_any [] = refl
none_any (n ∷ ns) = none_any ns

-- one of two tests
either_any : (f g : Name → Bool) (ns : List Name) → list_any (λ (n : Name). f n || g n) ns ≡ (list_any f ns || list_any g ns)
either_any f g [] = refl
either_any f g (n ∷ ns) = ap (λ (b : Bool). (f n || g n) || b) (either_any f g ns) ∙ four (f n) (g n) (list_any f ns) (list_any g ns)
  where
    four : (a b c d : Bool) → ((a || b) || (c || d)) ≡ ((a || c) || (b || d))
    four true b c d = refl
    four false true true d = refl
    four false true false d = refl
    four false false true d = refl
    four false false false d = refl

pub by_each : (ms ns : List Name) → list_any (λ (m : Name). is_listed m ns) ms ≡ list_any (λ (n : Name). list_any (λ (m : Name). bytes_eq m n) ms) ns
by_each [] ns = sym (none_any ns)
by_each (m ∷ ms) ns =
    ap (λ (b : Bool). is_listed m ns || b) (by_each ms ns) ∙ ap (λ (b : Bool). b || list_any (λ (n : Name). list_any (λ (l : Name). bytes_eq l n) ms) ns) (sym (listed_is m ns))
    ∙ sym (either_any (λ (n : Name). bytes_eq m n) (λ (n : Name). list_any (λ (l : Name). bytes_eq l n) ms) ns)

-- the interface, it without its digits, and its groups
abbrev pub any_of : (own stem : Name) (groups skip : List Name) → Bool
any_of own stem groups skip = list_any (λ (n : Name). list_any (λ (m : Name). bytes_eq m n) (own ∷ stem ∷ groups)) skip

by_names : (own stem : Name) (groups skip : List Name) → (is_listed own skip || (is_listed stem skip || list_any (λ (m : Name). is_listed m skip) groups)) ≡ any_of own stem groups skip
by_names own stem groups skip = by_each (own ∷ stem ∷ groups) skip

pub by_interface : (own stem : Name) (groups skip : List Name) → is_listed own skip ≡ true → true ≡ any_of own stem groups skip
by_interface own stem groups skip h = sym (ap (λ (b : Bool). b || (is_listed stem skip || list_any (λ (m : Name). is_listed m skip) groups)) h) ∙ by_names own stem groups skip

pub by_stem : (own stem : Name) (groups skip : List Name) → is_listed own skip ≡ false → is_listed stem skip ≡ true → true ≡ any_of own stem groups skip
by_stem own stem groups skip h k =
    sym (ap (λ (b : Bool). b || list_any (λ (m : Name). is_listed m skip) groups) k)
    ∙ sym (ap (λ (b : Bool). b || (is_listed stem skip || list_any (λ (m : Name). is_listed m skip) groups)) h) ∙ by_names own stem groups skip

pub by_groups : (own stem : Name) (groups skip : List Name) → is_listed own skip ≡ false → is_listed stem skip ≡ false → list_any (λ (m : Name). is_listed m skip) groups ≡ any_of own stem groups skip
by_groups own stem groups skip h k =
    sym (ap (λ (b : Bool). b || list_any (λ (m : Name). is_listed m skip) groups) k)
    ∙ sym (ap (λ (b : Bool). b || (is_listed stem skip || list_any (λ (m : Name). is_listed m skip) groups)) h) ∙ by_names own stem groups skip
