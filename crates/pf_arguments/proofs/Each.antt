-- The values of arguments, read from the front.
use Rattle.std.proofs.Common.{◌≡◌, ◌==◌, ◌+◌, ℕ, true, false, List, [], ◌∷◌, ◌++◌, length, Option, Some, None, Result, Ok, Err, refl, sym, ap, ◌∙◌, arith, drop, codes, ◌≢◌, map, Vec, IfOk}
use Rattle.std.specs.Prelude.{if◌then◌else◌}
use Rattle.pf_addr.specs.declared.fault.AddrFault.{AddrFault}
use Rattle.std.proofs.lemmas.Bool.{eqb-true}
use Rattle.std.proofs.lemmas.List.{length-map}
use Rattle.pf_addr.specs.Spelling.{prefix_of}
use Rattle.pf_arguments.specs.Asked.{lower, before, each, entry_of, signed}
use Rattle.pf_rules.specs.declared.ruleset.TableEntry as rust
use Rattle.pf_entry.specs.Seen.{address_of}
use Rattle.pf_entry.specs.Owned.{addresses_value}
use Rattle.pf_arguments.specs.declared.fault.CommandFault.{CommandFault}
use Rattle.pf_arguments.specs.Answers.{vec_read}
use Rattle.pf_arguments.specs.inner.Answers.{ReadsEntries}
use denote.Ref.{Bor}

-- values and the lowest fault of the arguments so far, before those of the others
abbrev pub behind : {X : Type 0} → List X → Option AddrFault → Result (List X) AddrFault → Result (List X) AddrFault
behind xs None (Ok ys) = Ok (xs ++ ys)
behind xs None (Err f) = Err f
behind xs (Some e) (Ok ys) = Err e
behind xs (Some e) (Err f) = Err (lower e f)

-- n arguments give n values
all_read : {X : Type 0} (value : List ℕ → Result X AddrFault) (ws : List (List ℕ)) (xs : List X) → each value ws ≡ Ok xs → length xs ≡ length ws
all_read value [] xs h = cc
all_read {X} value (w ∷ ws) xs h = go (value w) (each value ws) (λ ys e. all_read value ws ys e) h
  where
    go : (r : Result X AddrFault) (rs : Result (List X) AddrFault) → ((ys : List X) → rs ≡ Ok ys → length ys ≡ length ws) → before r rs ≡ Ok xs → length xs ≡ length (w ∷ ws)
    go (Ok x) (Ok ys) n k = let same : x ∷ ys ≡ xs = cc in let m : length ys ≡ length ws = n ys refl in let s : length (x ∷ ys) ≡ length xs = ap length same in omega (arith, m, s)
    go (Ok x) (Err f) n k = cc
    go (Err f) (Ok ys) n k = cc
    go (Err f) (Err g) n k = cc

pub count_read : {A : Type 0} (r : Result (Vec rust.TableEntry A) CommandFault) (words : List (Bor (List ℕ))) → ReadsEntries (vec_read r) (each entry_of (map (λ w. w.now) words)) → IfOk r (λ v. length v.items ≡ length words)
count_read (Ok v) words h = sym (length-map v.items address_of) ∙ (all_read entry_of (map (λ w. w.now) words) (addresses_value v.items) h ∙ length-map words (λ w. w.now))
count_read (Err fault) words h = tt

-- ---- signs

pub negated : (s x : List ℕ) (n : ℕ) → n ≡ 1 → s ≡ codes "!" ++ drop n s → x ≡ drop n s → entry_of s ≡ signed true (prefix_of x)
negated [] x n e h k = cc
negated (b ∷ bytes) x n e h k = let front : b ≡ 33 = cc in let rest : x ≡ bytes = k ∙ ap (λ m. drop m (b ∷ bytes)) e in rw (front, rest) refl

pub not_negated : (s : List ℕ) → ((rest : List ℕ) → drop 0 s ≢ codes "!" ++ rest) → entry_of s ≡ signed false (prefix_of s)
not_negated [] h = refl
not_negated (b ∷ bytes) h = (elim (b == 33) as (λ q. (b == 33) ≡ q → (if q then signed true (prefix_of bytes) else signed false (prefix_of (b ∷ bytes))) ≡ signed false (prefix_of (b ∷ bytes))) [
  | true ↦ λ e. let same : b ≡ 33 = eqb-true b 33 e in absurd (h bytes (ap (λ (c : ℕ). c ∷ bytes) same))
  | false ↦ λ e. refl
]) refl
