-- Packets that are sealed and opened.
use Rattle.std.proofs.Common.{◌≡◌, ◌∙◌, ◌<◌, ℕ, ◌-◌, Bool, true, false, List, [], ◌∷◌, ◌++◌, length, ap, sym, refl, arith, inl, inr}
use Rattle.std.specs.Prelude.{bytes_eq, if◌then◌else◌}
use Rattle.std.proofs.lemmas.List.{length-append, length-drop, length-take, take_at, drop_at, take-append-drop}
use Rattle.std.proofs.lemmas.Slice.Eq.{bytes_eq-Decides}
use Rattle.sha2.proofs.Facts256.{length-sha256}
use Rattle.px_packet.specs.Hmac.{tag_under}
use Rattle.px_packet.specs.Packets.{Among, tag_of, sealed, front_of, tail_of, is_sealed, is_authentic}

-- a tag has 16 bytes
pub length-tag : (key m : List ℕ) → length (tag_of key m) ≡ 16
length-tag key m =
    let whole : length (tag_under key m) ≡ 32 = length-sha256 _ in
    omega (arith, length-take 16 (tag_under key m), whole)

pub front_is : (key m : List ℕ) → front_of (sealed key m) ≡ m
front_is key m = take_at m (tag_of key m) _ (omega (arith, length-append m (tag_of key m), length-tag key m))

pub tail_is : (key m : List ℕ) → tail_of (sealed key m) ≡ tag_of key m
tail_is key m = drop_at m (tag_of key m) _ (omega (arith, length-append m (tag_of key m), length-tag key m))

-- what is too short for a tag has none
short_at : (key b : List ℕ) (x : Bool) → length b < 16 → is_sealed key b ≡ x → false ≡ x
short_at key b false h e = refl
short_at key b true h e =
    let same : tail_of b ≡ tag_of key (front_of b) = (bytes_eq-Decides (tail_of b) (tag_of key (front_of b))).0 e in
    absurd (omega (arith, h, ap length same, length-tag key (front_of b), length-drop (length b - 16) b))

pub is_short : (key b : List ℕ) → length b < 16 → false ≡ is_sealed key b
is_short key b h = short_at key b (is_sealed key b) h refl

-- what was sealed with a key is sealed with it
pub sealed_is : (key m : List ℕ) → is_sealed key (sealed key m) ≡ true
sealed_is key m =
    let t = tag_of key m in
    ap (λ x. bytes_eq x (tag_of key (front_of (sealed key m)))) (tail_is key m)
    ∙ ap (λ x. bytes_eq t (tag_of key x)) (front_is key m) ∙ (bytes_eq-Decides t t).1 refl

more : (x y : Bool) → y ≡ true → (if x then true else y) ≡ true
more true y h = refl
more false y h = h

-- and is authentic where the key is one of the keys
pub authentic : (keys : List (List ℕ)) (key b : List ℕ) → Among keys key → is_sealed key b ≡ true →
    is_authentic keys b ≡ true
authentic [] key b a h = absurd a
authentic (k ∷ keys) key b (inl e) h =
    ap (λ x. if x then true else is_authentic keys b) (ap (λ x. is_sealed x b) (sym e) ∙ h)
authentic (k ∷ keys) key b (inr a) h = more (is_sealed k b) (is_authentic keys b) (authentic keys key b a h)

-- the key with which it was sealed
abbrev pub Sealer : List (List ℕ) → List ℕ → Type 0
Sealer keys b = (key : List ℕ) × Among keys key × (b ≡ sealed key (front_of b))

was_sealed : (key b : List ℕ) → is_sealed key b ≡ true → b ≡ sealed key (front_of b)
was_sealed key b h =
    let same : tail_of b ≡ tag_of key (front_of b) = (bytes_eq-Decides (tail_of b) (tag_of key (front_of b))).0 h in
    sym (take-append-drop (length b - 16) b) ∙ ap (λ x. front_of b ++ x) same

sealer_at : (k : List ℕ) (keys : List (List ℕ)) (b : List ℕ) (x : Bool) → is_sealed k b ≡ x →
    (is_authentic keys b ≡ true → Sealer keys b) → (if x then true else is_authentic keys b) ≡ true → Sealer (k ∷ keys) b
sealer_at k keys b true e later h = (k, inl refl, was_sealed k b e)
sealer_at k keys b false e later h = let r = later h in (r.0, inr r.1, r.2)

pub sealer : (keys : List (List ℕ)) (b : List ℕ) → is_authentic keys b ≡ true → Sealer keys b
sealer [] b h = absurd cc
sealer (k ∷ keys) b h = sealer_at k keys b (is_sealed k b) refl (sealer keys b) h
