-- What the first profile keeps for itself, both keep; and how reserved words end.
use Rattle.std.proofs.Common.{◌≡◌, ℕ, ◌∷◌, [], ◌||◌, Bool, true, false, List, refl, sym, subst}
use Rattle.std.specs.Prelude.{not, bytes_eq, codes}
use Rattle.std.specs.List.{list_all}
use Rattle.std.proofs.lemmas.Slice.Eq.{bytes_eq-Decides}
use Rattle.std.proofs.lemmas.Bool.{and_parts, false≢true}
use Rattle.pf_rules.specs.declared.profile.Profile.{Profile}
use Rattle.pf_rules.specs.declared.profile.Profile.TheVariants.{One, Two}
use Rattle.pf_rules.specs.Words.{is_among, common_reserved, is_reserved, is_table_text, is_table_name}
use Rattle.pf_rules.specs.inner.Words.{ends_like_reserved}

either_kept : (a b : Bool) → not (a || b) ≡ true → not a ≡ true
either_kept true b e = absurd (false≢true e)
either_kept false b e = refl

not_reserved : (profile : Profile) (text : List ℕ) → not (is_reserved profile text) ≡ true → not (is_reserved One text) ≡ true
unfolding is_reserved
not_reserved One text e = e
not_reserved Two text e = either_kept (is_among common_reserved text) (bytes_eq text (codes "icmp-type")) e

-- a table's name in one profile is one in the first
pub table_names_alike : (profile : Profile) (text : List ℕ) → is_table_name profile text ≡ true → is_table_name One text ≡ true
unfolding is_table_name
table_names_alike profile text e =
    let a = and_parts (is_table_text text) (not (is_reserved profile text)) e in
    rw (a.0, not_reserved profile text a.1) refl

-- ---- how reserved words end

pub not_true : (b : Bool) → (b ≡ true → ⊥) → b ≡ false
not_true true f = absurd (f refl)
not_true false f = refl

clash : (b : Bool) → b ≡ false → b ≡ true → ⊥
clash true e n = false≢true (sym e)
clash false e n = false≢true n

another : (text word : List ℕ) → ends_like_reserved text ≡ false → ends_like_reserved word ≡ true → bytes_eq text word ≡ false
another text word e w = not_true (bytes_eq text word) (λ same. clash (ends_like_reserved word) (subst (λ t. ends_like_reserved t ≡ false) ((bytes_eq-Decides text word).0 same) e) w)

none_among : (words : List (List ℕ)) (text : List ℕ) → list_all ends_like_reserved words ≡ true → ends_like_reserved text ≡ false → is_among words text ≡ false
none_among [] text a e = refl
none_among (word ∷ words) text a e =
    let parts = and_parts _ _ a in
    rw (another text word e parts.0) (none_among words text parts.1 e)

-- a string that ends otherwise is kept by no profile
pub unending : (profile : Profile) (text : List ℕ) → ends_like_reserved text ≡ false → is_reserved profile text ≡ false
unfolding is_reserved
unending One text e = none_among common_reserved text refl e
unending Two text e = rw (none_among common_reserved text refl e) (another text (codes "icmp-type") e refl)
