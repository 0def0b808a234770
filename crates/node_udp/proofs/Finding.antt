-- One address more, and none.
use Rattle.std.proofs.Common.{◌≡◌, ◌∙◌, ◌<◌, ◌+◌, ◌==◌, true, None, List, ℕ, [], ◌∷◌, ◌++◌, length, map, take, get_or, ap, refl, sym, subst}
use Rattle.std.specs.List.{position_or_len, prefix_len}
use Rattle.std.proofs.lemmas.Bool.{eq-eqb}
use Rattle.std.proofs.lemmas.List.{take_more, map-append}
use Rattle.pf_addr.specs.declared.addr.Addr.{Addr}
use Rattle.node_udp.specs.declared.address.Address.{Address}
use Rattle.node_udp.specs.Addresses.{IsFound, AreFound, host_port, is_no_colon}

pub one_more : (known : List ℕ → Addr → Type 0) (texts : List (List ℕ)) (rest : List Address) (text : List ℕ)
    (a : Address) → AreFound known texts rest → IsFound known text a →
    AreFound known (texts ++ text ∷ []) (rest ++ a ∷ [])
one_more known [] [] text a all one = (one, tt)
one_more known [] (b ∷ rest) text a all one = absurd all
one_more known (t ∷ texts) [] text a all one = absurd all
one_more known (t ∷ texts) (b ∷ rest) text a all one = (all.0, one_more known texts rest text a all.1 one)

-- of the strings up to a place, and of the one there
pub found_more : {V : Type 0} (known : List ℕ → Addr → Type 0) (f : V → List ℕ) (xs : List V) (i : ℕ) (d : V)
    (rest : List Address) (a : Address) (now : List Address) → i < length xs →
    AreFound known (map f (take i xs)) rest → IsFound known (f (get_or xs i d)) a → now ≡ rest ++ a ∷ [] →
    AreFound known (map f (take (i + 1) xs)) now
found_more known f xs i d rest a now h all one e =
    let P : List (List ℕ) → Type 0 = λ ts. AreFound known ts (rest ++ a ∷ []) in
    let Q : List Address → Type 0 = λ found. AreFound known (map f (take (i + 1) xs)) found in
    let split : map f (take (i + 1) xs) ≡ map f (take i xs) ++ f (get_or xs i d) ∷ [] =
    ap (map f) (take_more xs i d h) ∙ map-append f (take i xs) (get_or xs i d ∷ []) in
    subst Q (sym e) (subst P (sym split) (one_more known (map f (take i xs)) rest (f (get_or xs i d)) a all one))

-- without a colon there is no port of a name
pub no_port : (text : List ℕ) → position_or_len (λ b. b == 58) text ≡ length text → host_port text ≡ None
unfolding host_port
no_port text e =
    let none : (prefix_len is_no_colon text == length text) ≡ true = eq-eqb (prefix_len is_no_colon text) (length text) e in
    rw none refl
