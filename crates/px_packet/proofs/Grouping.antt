-- What the bytes of a cluster's key determine.
use Rattle.std.proofs.Common.{◌≡◌, ℕ, ◌<◌, ◌^◌, List, [], ◌∷◌, ◌++◌, length, take, drop, ap, sym, ◌∙◌, refl}
use Rattle.std.specs.Int.{w32, w64, to_be_bytes, from_be_bytes}
use Rattle.std.proofs.lemmas.List.{take_at, drop_at}
use Rattle.std.proofs.lemmas.Nat.{from_be_bytes-to_be_bytes_4, from_be_bytes-to_be_bytes_8}
use Rattle.px_packet.specs.Groups.{sized}
use Rattle.px_packet.specs.GroupLaws.{AreShort, GroupsDiffer}

-- fronts of one length
fronts : (a b x y : List ℕ) (n : ℕ) → length a ≡ n → length b ≡ n → a ++ x ≡ b ++ y → a ≡ b
fronts a b x y n p q h = sym (take_at a x n p) ∙ ap (take n) h ∙ take_at b y n q

rests : (a b x y : List ℕ) (n : ℕ) → length a ≡ n → length b ≡ n → a ++ x ≡ b ++ y → x ≡ y
rests a b x y n p q h = sym (drop_at a x n p) ∙ ap (drop n) h ∙ drop_at b y n q

number : (m n : ℕ) → m < 2 ^ 64 → n < 2 ^ 64 → to_be_bytes w64 m ≡ to_be_bytes w64 n → m ≡ n
number m n p q h =
    sym (from_be_bytes-to_be_bytes_8 m p) ∙ ap (from_be_bytes w64) h ∙ from_be_bytes-to_be_bytes_8 n q

texts_differ : (ms ns : List (List ℕ)) → AreShort ms → AreShort ns → sized ms ≡ sized ns → ms ≡ ns
texts_differ [] [] p q h = refl
texts_differ [] (n ∷ ns) p q h = absurd cc
texts_differ (m ∷ ms) [] p q h = absurd cc
texts_differ (m ∷ ms) (n ∷ ns) p q h =
    let long : to_be_bytes w64 (length m) ≡ to_be_bytes w64 (length n) =
    fronts (to_be_bytes w64 (length m)) (to_be_bytes w64 (length n)) (m ++ sized ms) (n ++ sized ns) 8 refl refl h in
    let behind : m ++ sized ms ≡ n ++ sized ns =
    rests (to_be_bytes w64 (length m)) (to_be_bytes w64 (length n)) (m ++ sized ms) (n ++ sized ns) 8 refl refl h in
    let same : length m ≡ length n = number (length m) (length n) p.0 q.0 long in
    let first : m ≡ n = fronts m n (sized ms) (sized ns) (length n) same refl behind in
    let later : ms ≡ ns = texts_differ ms ns p.1 q.1 (rests m n (sized ms) (sized ns) (length n) same refl behind) in
    ap (λ x. x ∷ ms) first ∙ ap (λ xs. n ∷ xs) later

pub groups_differ : GroupsDiffer
groups_differ c d ms ns p q short short' h =
    let same : to_be_bytes w32 c ≡ to_be_bytes w32 d =
    fronts (to_be_bytes w32 c) (to_be_bytes w32 d) (sized ms) (sized ns) 4 refl refl h in (
      sym (from_be_bytes-to_be_bytes_4 c p) ∙ ap (from_be_bytes w32) same ∙ from_be_bytes-to_be_bytes_4 d q,
      texts_differ ms ns short short' (rests (to_be_bytes w32 c) (to_be_bytes w32 d) (sized ms) (sized ns) 4 refl refl h),
    )
