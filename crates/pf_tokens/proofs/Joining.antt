-- The letters of a source as given are those of the text that has been joined, with these lines.
use Rattle.std.proofs.Common.{◌≡◌, ℕ, ◌+◌, ◌<◌, ◌≤◌, ◌==◌, ◌&&◌, ◌||◌, Bool, true, false, cond, List, [], ◌∷◌, drop, refl, sym, ap, ◌∙◌, arith}
use Rattle.std.specs.Prelude.{nat_le}
use Rattle.std.proofs.lemmas.Bool.{false≢true}
use Rattle.std.proofs.lemmas.Bool.Decides.{nat_tests}
use Rattle.pf_tokens.specs.Tokens.{Letter, line_after, letters, plain_letters}
use Rattle.pf_tokens.specs.inner.Tokens.{continues}
use Rattle.pf_tokens.specs.Joined.{passed, letters_at}
use Rattle.pf_tokens.specs.inner.Joined.{joined, joints, is_continued}

abbrev at_line : ℕ → ℕ → Letter
at_line b line = record { byte = b; line = line }

pub letters_plain : (line at : ℕ) (bytes : List ℕ) → letters_at line at [] bytes ≡ plain_letters line bytes
letters_plain line at [] = refl
letters_plain line at (b ∷ bytes) =
    let same : line + 0 ≡ line = omega arith in
    rw same (ap (λ (ls : List Letter). at_line b line ∷ ls) (letters_plain (line_after line b) (at + 1) bytes))

pub le_true : (m n : ℕ) → m ≤ n → nat_le m n ≡ true
le_true m n h = grind (arith, nat_tests, h)

pub le_false : (m n : ℕ) → n < m → nat_le m n ≡ false
le_false m n h = grind (arith, nat_tests, h)

line_after_more : (line b : ℕ) → line_after (line + 1) b ≡ line_after line b + 1
line_after_more line b = elim (b == 10) as (λ t. cond t (line + 1 + 1) (line + 1) ≡ cond t (line + 1) line + 1) [ true ↦ refl | false ↦ refl ]

-- a step that has been passed is a line more
pub step_passed : (line at s : ℕ) (steps bytes : List ℕ) → s ≤ at → letters_at line at (s ∷ steps) bytes ≡ letters_at (line + 1) at steps bytes
step_passed line at s steps [] h = refl
step_passed line at s steps (b ∷ bytes) h =
    let sum : line + (1 + passed at steps) ≡ line + 1 + passed at steps = omega arith in
    rw (le_true s at h, sum, line_after_more line b) (ap (λ (ls : List Letter). at_line b (line + 1 + passed at steps) ∷ ls) (step_passed (line_after line b) (at + 1) s steps bytes (omega (arith, h))))

none_passed : (at k : ℕ) (text : List ℕ) → k < at → passed k (joints at text) ≡ 0
none_passed at k [] h = refl
none_passed at k (b ∷ []) h = refl
none_passed at k (b ∷ c ∷ bytes) h = cases (b == 92 && c == 10) (none_passed (at + 1) k (c ∷ bytes) (omega (arith, h)))
  where
    cases : (t : Bool) → passed k (joints (at + 1) (c ∷ bytes)) ≡ 0 → passed k (cond t (at ∷ joints at bytes) (joints (at + 1) (c ∷ bytes))) ≡ 0
    cases true more = rw (le_false at k h) refl
    cases false more = more

pub letters_joined : (line at : ℕ) (text : List ℕ) → letters_at line at (joints at text) (joined text) ≡ letters line text
letters_joined line at [] = refl
letters_joined line at (b ∷ []) = letters_plain line at (b ∷ [])
letters_joined line at (b ∷ c ∷ bytes) = cases (b == 92 && c == 10) (letters_joined (line + 1) at bytes) (letters_joined (line_after line b) (at + 1) (c ∷ bytes))
  where
    cases : (t : Bool) → letters_at (line + 1) at (joints at bytes) (joined bytes) ≡ letters (line + 1) bytes
        → letters_at (line_after line b) (at + 1) (joints (at + 1) (c ∷ bytes)) (joined (c ∷ bytes)) ≡ letters (line_after line b) (c ∷ bytes)
        → letters_at line at (cond t (at ∷ joints at bytes) (joints (at + 1) (c ∷ bytes))) (cond t (joined bytes) (b ∷ joined (c ∷ bytes))) ≡ cond t (letters (line + 1) bytes) (at_line b line ∷ letters (line_after line b) (c ∷ bytes))
    cases true joint more = step_passed line at at (joints at bytes) (joined bytes) (omega arith) ∙ joint
    cases false joint more =
        let same : line + 0 ≡ line = omega arith in
        rw (none_passed (at + 1) at (c ∷ bytes) (omega arith), same) (ap (λ (ls : List Letter). at_line b line ∷ ls) more)

-- ---- a source in which no line is continued

no_first : (a b : Bool) → (a || b) ≡ false → (a ≡ false) × (b ≡ false)
no_first true b e = absurd (false≢true (sym e))
no_first false b e = (refl, e)

pub letters_given : (line at : ℕ) (text : List ℕ) → is_continued text ≡ false → letters_at line at [] text ≡ letters line text
letters_given line at [] e = refl
letters_given line at (b ∷ []) e = letters_plain line at (b ∷ [])
letters_given line at (b ∷ c ∷ bytes) e =
    let parts = no_first (b == 92 && c == 10) (is_continued (c ∷ bytes)) e in
    let same : line + 0 ≡ line = omega arith in
    rw (parts.0, same) (ap (λ (ls : List Letter). at_line b line ∷ ls) (letters_given (line_after line b) (at + 1) (c ∷ bytes) parts.1))

-- ---- the front of a source

pub joined_pair : (b : ℕ) (bytes : List ℕ) → continues b bytes ≡ true → joined (b ∷ bytes) ≡ joined (drop 1 bytes)
joined_pair b [] e = absurd (false≢true e)
joined_pair b (c ∷ bytes) e = rw e refl

pub joined_stays : (b : ℕ) (bytes : List ℕ) → continues b bytes ≡ false → joined (b ∷ bytes) ≡ b ∷ joined bytes
joined_stays b [] e = refl
joined_stays b (c ∷ bytes) e = rw e refl

pub joints_pair : (at b : ℕ) (bytes : List ℕ) → continues b bytes ≡ true → joints at (b ∷ bytes) ≡ at ∷ joints at (drop 1 bytes)
joints_pair at b [] e = absurd (false≢true e)
joints_pair at b (c ∷ bytes) e = rw e refl

pub joints_stays : (at b : ℕ) (bytes : List ℕ) → continues b bytes ≡ false → joints at (b ∷ bytes) ≡ joints (at + 1) bytes
joints_stays at b [] e = refl
joints_stays at b (c ∷ bytes) e = rw e refl
