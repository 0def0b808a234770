-- The ring of kept votes against its meaning.
use Rattle.std.proofs.Common.{◌≡◌, ℕ, zero, suc, ◌+◌, ◌*◌, ◌%◌, ◌<◌, ◌≤◌, max, cond, ◌&&◌, ◌⊎◌, inl, inr, List, [], ◌∷◌, length, get_or, slice_set, arith, refl, sym, ap, subst, ◌∙◌, eqb, ltb, leb, nat_lt, if◌then◌else◌, eqb-true, ltb-true, ltb-false, le-leb, lt-ltb, eq-eqb, ne_eqb, get_or-set_same, get_or-set_other, replicate}
use Rattle.std.proofs.lemmas.Bool.{cond_both, cond-true, cond-false, cases_lt, cases_eq, and_from, and_left, and_right, eqb-false, lt-leb, le-ltb}
use Rattle.std.proofs.Math.Path.{fun_ext}
use Rattle.px_model.specs.Step.{keep}
use Rattle.px_core.specs.declared.votes.Cell.{Cell}
use Rattle.px_core.specs.Cells.{empty_cell, cell_at, counts, kept_in}

any_default : {X : Type 0} (xs : List X) (i : ℕ) (d e : X) → i < length xs → get_or xs i d ≡ get_or xs i e
any_default [] i d e lt = absurd (omega arith)
any_default (x ∷ xs) zero d e lt = refl
any_default (x ∷ xs) (suc i) d e lt = any_default xs i d e (omega arith)

pub read_cell : (cells : List Cell) (p m : ℕ) (x : Cell) → length cells ≡ 960 → m < 15 → x ≡ get_or cells (p % 64 * 15 + m) x → x ≡ cell_at cells p m
read_cell cells p m x size less is = is ∙ any_default cells (p % 64 * 15 + m) x empty_cell (omega arith)

pub kept_where : (front : ℕ) (cells : List Cell) (p m : ℕ) → front ≤ p → m < 15 → (cell_at cells p m).position ≡ p → (cell_at cells p m).ballot ≡ kept_in front cells p m
unfolding kept_in
kept_where front cells p m low less is =
    sym (cond-true (counts front p m (cell_at cells p m)) _ _
    (and_from (leb front p && ltb m 15) (eqb (cell_at cells p m).position p)
    (and_from (leb front p) (ltb m 15) (le-leb front p low) (lt-ltb m 15 less))
    (eq-eqb (cell_at cells p m).position p is)))

pub kept_nowhere : (front : ℕ) (cells : List Cell) (p m : ℕ) → ((cell_at cells p m).position ≡ p → ⊥) → kept_in front cells p m ≡ 0
unfolding kept_in
kept_nowhere front cells p m apart =
    cond-false (counts front p m (cell_at cells p m)) _ _
    (and_right (leb front p && ltb m 15) (eqb (cell_at cells p m).position p) (ne_eqb (cell_at cells p m).position p apart))

kept_below : (front : ℕ) (cells : List Cell) (p m : ℕ) → p < front → kept_in front cells p m ≡ 0
unfolding kept_in
kept_below front cells p m low =
    cond-false (counts front p m (cell_at cells p m)) _ _
    (and_left (leb front p && ltb m 15) (eqb (cell_at cells p m).position p) (and_left (leb front p) (ltb m 15) (lt-leb front p low)))

kept_no_member : (front : ℕ) (cells : List Cell) (p m : ℕ) → 15 ≤ m → kept_in front cells p m ≡ 0
unfolding kept_in
kept_no_member front cells p m high =
    cond-false (counts front p m (cell_at cells p m)) _ _
    (and_left (leb front p && ltb m 15) (eqb (cell_at cells p m).position p) (and_right (leb front p) (ltb m 15) (le-ltb m 15 high)))

-- the front moves up
pub kept_advanced : (front front' : ℕ) (cells : List Cell) → front ≤ front' → kept_in front' cells ≡ (λ p m. if nat_lt p front' then 0 else kept_in front cells p m)
kept_advanced front front' cells up =
    fun_ext (λ p. fun_ext (λ m.
    cond_both (ltb p front') 0 (kept_in front cells p m) (λ (z : ℕ). kept_in front' cells p m ≡ z)
    (λ t. kept_below front' cells p m (ltb-true p front' t))
    (λ f. at p m (ltb-false p front' f))))
  where
    at : (p m : ℕ) → front' ≤ p → kept_in front' cells p m ≡ kept_in front cells p m
    at p m low =
        elim (cases_lt m 15) [
          | inl less ↦ (elim (cases_eq (cell_at cells p m).position p) [
            | inl is ↦ sym (kept_where front' cells p m low less is) ∙ kept_where front cells p m (omega arith) less is
            | inr apart ↦ kept_nowhere front' cells p m apart ∙ sym (kept_nowhere front cells p m apart)
          ])
          | inr high ↦ kept_no_member front' cells p m high ∙ sym (kept_no_member front cells p m high)
        ]

-- the cells that hold the same as before mean the same
kept_same : (front : ℕ) (cells cells' : List Cell) (q k : ℕ) → cell_at cells' q k ≡ cell_at cells q k → kept_in front cells' q k ≡ kept_in front cells q k
unfolding kept_in
kept_same front cells cells' q k is = ap (λ (x : Cell). cond (counts front q k x) x.ballot 0) is

-- a higher ballot is kept
pub kept_set : (front : ℕ) (cells : List Cell) (p m b : ℕ) → length cells ≡ 960 → ((k : ℕ) → k < 960 → (get_or cells k empty_cell).position < front + 64) → front ≤ p → p < front + 64 → m < 15 → kept_in front cells p m < b → kept_in front (slice_set cells (p % 64 * 15 + m) (record { position = p; ballot = b })) ≡ keep (kept_in front cells) p m b
kept_set front cells p m b size within low high less more =
    fun_ext (λ q. fun_ext (λ k.
    cond_both (eqb q p) _ _ (λ (z : ℕ). kept_in front cells' q k ≡ z)
    (λ tq. cond_both (eqb k m) _ _ (λ (z : ℕ). kept_in front cells' q k ≡ z)
    (λ tk. here q k (eqb-true q p tq) (eqb-true k m tk))
    (λ fk. beside q k (inr (eqb-false k m fk))))
    (λ fq. beside q k (inl (eqb-false q p fq)))))
  where
    cells' : List Cell
    cells' = slice_set cells (p % 64 * 15 + m) (record { position = p; ballot = b })

    written : (q k : ℕ) → q % 64 * 15 + k ≡ p % 64 * 15 + m → cell_at cells' q k ≡ record { position = p; ballot = b }
    written q k same =
        ap (λ (i : ℕ). get_or cells' i empty_cell) same
        ∙ get_or-set_same cells (p % 64 * 15 + m) (record { position = p; ballot = b }) empty_cell (omega arith)

    at_pm : kept_in front cells' p m ≡ max (kept_in front cells p m) b
    at_pm =
        let w = written p m refl in
        let e = kept_where front cells' p m low less (ap (λ (x : Cell). x.position) w) in
        let f : (cell_at cells' p m).ballot ≡ b = ap (λ (x : Cell). x.ballot) w in
        let g : b ≡ max (kept_in front cells p m) b = omega arith in
        sym e ∙ f ∙ g

    here : (q k : ℕ) → q ≡ p → k ≡ m → kept_in front cells' q k ≡ max (kept_in front cells q k) b
    here q k qp km =
        subst (λ (i : ℕ). kept_in front cells' i k ≡ max (kept_in front cells i k) b) (sym qp)
        (subst (λ (j : ℕ). kept_in front cells' p j ≡ max (kept_in front cells p j) b) (sym km) at_pm)

    -- a cell that is written over for p was for no position of the window
    over : (q k : ℕ) → k < 15 → (q ≡ p → ⊥) → q % 64 * 15 + k ≡ p % 64 * 15 + m → front ≤ q → (cell_at cells q k).position ≡ q → ⊥
    over q k small apart same above is =
        let u = within (q % 64 * 15 + k) (omega arith) in
        let row : q % 64 ≡ p % 64 = omega arith in
        apart (omega arith)

    beside : (q k : ℕ) → (q ≡ p → ⊥) ⊎ (k ≡ m → ⊥) → kept_in front cells' q k ≡ kept_in front cells q k
    beside q k apart =
        elim (cases_lt k 15) [
          | inr high_k ↦ kept_no_member front cells' q k high_k ∙ sym (kept_no_member front cells q k high_k)
          | inl small ↦ (elim (cases_lt q front) [
            | inl under ↦ kept_below front cells' q k under ∙ sym (kept_below front cells q k under)
            | inr above ↦ (elim (cases_eq (q % 64 * 15 + k) (p % 64 * 15 + m)) [
              | inr other ↦ kept_same front cells cells' q k (get_or-set_other cells (p % 64 * 15 + m) (q % 64 * 15 + k) _ empty_cell other)
              | inl same ↦
                  let col : k ≡ m = omega arith in
                  let ne : q ≡ p → ⊥ = elim apart [ inl a ↦ a | inr a ↦ (λ qp. a col) ] in
                  let w : p ≡ (cell_at cells' q k).position = sym (ap (λ (x : Cell). x.position) (written q k same)) in
                  kept_nowhere front cells' q k (λ is. ne (sym is ∙ sym w))
                  ∙ sym (kept_nowhere front cells q k (over q k small ne same above))
            ])
          ])
        ]

-- a table of empty cells keeps nothing
none_at : (n k : ℕ) → get_or (replicate n empty_cell) k empty_cell ≡ empty_cell
none_at zero k = refl
none_at (suc n) zero = refl
none_at (suc n) (suc k) = none_at n k

pub kept_none : (front n : ℕ) (cells : List Cell) → cells ≡ replicate n empty_cell → kept_in front cells ≡ (λ p m. 0)
unfolding kept_in
kept_none front n cells are =
    fun_ext (λ p. fun_ext (λ m.
    let i : ℕ = p % 64 * 15 + m in
    let e : cell_at cells p m ≡ empty_cell = ap (λ (xs : List Cell). get_or xs i empty_cell) are ∙ none_at n i in
    cond_both (counts front p m (cell_at cells p m)) _ _ (λ (z : ℕ). z ≡ 0)
    (λ t. ap (λ (x : Cell). x.ballot) e)
    (λ f. refl)))
