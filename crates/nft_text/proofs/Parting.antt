-- A chain's rules in two parts, and what else in a ruleset is by cases.
use Rattle.std.proofs.Common.{◌≡◌, ℕ, zero, suc, List, [], ◌∷◌, ◌++◌, map, take, drop, refl, ap}
use Rattle.std.specs.Prelude.{codes}
use Rattle.std.specs.List.{flat_map}
use Rattle.std.proofs.lemmas.List.{append_assoc}
use Rattle.pf_addr.specs.declared.addr.Family.{Family}
use Rattle.nft_rules.specs.declared.subset.Interval.{Interval}
use Rattle.nft_text.specs.Texts.{element_text, elements_text}

pub front_mapped : {A B : Type 0} (f : A → B) (n : ℕ) (xs : List A) → map f (take n xs) ≡ take n (map f xs)
front_mapped f zero xs = refl
front_mapped f (suc n) [] = refl
front_mapped f (suc n) (x ∷ xs) = ap (λ ys. f x ∷ ys) (front_mapped f n xs)

pub first_dropped : {A B : Type 0} (f : A → B) (n : ℕ) (xs : List A) → map f (drop n xs) ≡ drop n (map f xs)
first_dropped f zero xs = refl
first_dropped f (suc n) [] = refl
first_dropped f (suc n) (x ∷ xs) = first_dropped f n xs

-- what the code uses
pub ruleset parted = (front_mapped, first_dropped)

-- what three pushes, and a fourth, make of a string
pub four_pushed : (s0 s1 s2 s3 a b c d : List ℕ) → s1 ≡ s0 ++ a → s2 ≡ s1 ++ b → s3 ≡ s2 ++ c → s3 ++ d ≡ s0 ++ (a ++ (b ++ (c ++ d)))
four_pushed s0 s1 s2 s3 a b c d h1 h2 h3 = rw (h3, h2, h1) (simp (append_assoc))

-- what is pushed behind those four
pub tail_pushed : (s0 s1 a b c d t : List ℕ) → s1 ≡ s0 ++ (a ++ (b ++ (c ++ d))) → s1 ++ t ≡ s0 ++ (a ++ (b ++ (c ++ (d ++ t))))
tail_pushed s0 s1 a b c d t h = rw h (simp (append_assoc))

pub some_elements : (f : Family) (is : List Interval) → (is ≡ [] → ⊥) → codes "elements = { " ++ (flat_map (element_text f) is ++ codes "}; ") ≡ elements_text f is
some_elements f [] h = absurd (h refl)
some_elements f (i ∷ is) h = refl
