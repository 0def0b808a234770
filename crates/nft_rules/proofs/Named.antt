-- The machine's interfaces that some names mean.
use Rattle.std.proofs.Common.{◌≡◌, Bool, true, false, List, [], ◌∷◌, ◌||◌, filter, map, refl, ap}
use Rattle.std.specs.List.{list_any}
use Rattle.std.specs.Str.{bytes_eq}
use Rattle.std.proofs.Math.Path.{fun_ext}
use Rattle.pf_rules.specs.Names.{Name}
use Rattle.pf_rules.specs.declared.parts.Interface.{Interface}
use Rattle.nft_rules.specs.Evaluation.{turned}
use Rattle.nft_rules.specs.Rendering.{Machine, known, interfaces_with, is_matched, is_skipped}

all_pass : (ns : List Name) → filter (λ n. true) ns ≡ ns
all_pass [] = refl
all_pass (n ∷ ns) = ap (λ ms. n ∷ ms) (all_pass ns)

-- none of no names: all interfaces
pub all_known : (m : Machine) → interfaces_with (λ names. turned true (is_skipped [] names)) m ≡ known m
unfolding is_skipped
all_known m = all_pass (known m)

one : (b : Bool) → (b || false) ≡ b
one true = refl
one false = refl

-- by one name, or not by it: those for which a rule on that interface is
pub matched_by : (i : Interface) (m : Machine) →
    interfaces_with (λ names. turned i.negated (is_skipped (i.name ∷ []) names)) m ≡ interfaces_with (is_matched i) m
unfolding is_skipped
matched_by i m =
    ap (λ test. interfaces_with test m) (fun_ext (λ names. ap (turned i.negated) (one (list_any (λ n. bytes_eq n i.name) names))))

-- whether an element passes, of what elements stand for
pub any_mapped : {X Y : Type 0} (test : Y → Bool) (seen : X → Y) (xs : List X) → list_any (λ x. test (seen x)) xs ≡ list_any test (map seen xs)
any_mapped test seen [] = refl
any_mapped test seen (x ∷ xs) = ap (λ b. test (seen x) || b) (any_mapped test seen xs)
