-- A walk up to the front.
use Rattle.std.proofs.Common.{◌++◌, zero, suc, length, get_or, slice_set, option_map, eqb-true, get_or-set_same, get_or-set_other, ◌≡◌, ℕ, ◌+◌, ◌<◌, ◌≤◌, inl, inr, Option, Some, None, List, [], ◌∷◌, true, false, eqb, arith, refl, sym, ap, ◌∙◌, is_some}
use Rattle.std.proofs.lemmas.Bool.{cases_lt, cond_both, eqb-false}
use Rattle.std.proofs.Math.Path.{fun_ext}
use Rattle.px_model.proofs.Basics.{put_all}
use Rattle.px_model.specs.Node as node
use Rattle.px_model.specs.Step.{front, positions, put}
use Rattle.px_model.proofs.Plans.{front_within, below_front, at_front}
use Rattle.px_model.proofs.Reading.{front_is}
use Rattle.px_model.proofs.Reach.{front_grows}
use Rattle.px_core.specs.Seen.{HasRoom, learning, log_in, front_in}
use Rattle.px_core.specs.declared.plan.Next.{Next}
use Rattle.px_core.specs.declared.plan.Next.TheVariants as next
use Rattle.px_core.specs.declared.state.Core.{Core}
use Rattle.px_model.specs.Entries.{entry_of}
use Rattle.px_core.specs.Logs.{learned_in}
use Rattle.px_model.specs.Spelling.{Bytes}
use Rattle.px_model.specs.declared.entry.Entry.{Entry}

pub past : {X : Type 0} (learned : ℕ → Option X) (p : ℕ) → p ≤ front learned → p < positions → is_some (learned p) ≡ true → p + 1 ≤ front learned
past {X} learned p low under is =
    elim (cases_lt p (front learned)) [
      | inl less ↦ omega arith
      | inr more ↦ absurd (
          let same : p ≡ front learned = omega arith in
          let e = at_front learned (omega arith) in
          let f : learned p ≡ None = ap learned same ∙ e in
          let g : true ≡ is_some {T = X} None = sym is ∙ ap (λ (o : Option X). is_some o) f in cc)
    ]

pub here : {X : Type 0} (learned : ℕ → Option X) (p : ℕ) → p ≤ front learned → is_some (learned p) ≡ false → p ≡ front learned
here {X} learned p low is =
    elim (cases_lt p (front learned)) [
      | inl less ↦ absurd (
          let s = below_front learned p less in
          let g : false ≡ is_some (Some s.0) = sym is ∙ ap (λ (o : Option X). is_some o) s.1 in cc)
      | inr more ↦ omega arith
    ]

pub end : {X : Type 0} (learned : ℕ → Option X) → positions ≤ front learned → positions ≡ front learned
end learned low = let u = front_within learned in omega arith

-- a list of learned entries that is written at one place
pub learned_set : (items : List (Option Entry)) (p : ℕ) (e : Entry) → p < length items → learned_in (slice_set items p (Some e)) ≡ put (learned_in items) p (Some (entry_of e))
unfolding learned_in
learned_set items p e less =
    fun_ext (λ q. cond_both (eqb q p) (Some (entry_of e)) (option_map entry_of (get_or items q None)) (λ (z : Option (node.Entry Bytes)). option_map entry_of (get_or (slice_set items p (Some e)) q None) ≡ z)
    (λ t. ap (λ (i : ℕ). option_map entry_of (get_or (slice_set items p (Some e)) i None)) (eqb-true q p t)
    ∙ ap (λ (o : Option Entry). option_map entry_of o) (get_or-set_same items p (Some e) None less))
    (λ f. ap (λ (o : Option Entry). option_map entry_of o) (get_or-set_other items p q (Some e) None (eqb-false q p f))))

-- a volatile part by its parts
abbrev pub volatile_parts : {C : Type 0} → List (node.Entry C) → Option (node.Attempt C) → Option node.Lead → ℕ → (ℕ → ℕ → ℕ) → node.Volatile C
volatile_parts w a l s k = record { waiting = w; attempt = a; lead = l; seen = s; kept = k }

pub parts_same : {C : Type 0} {w w' : List (node.Entry C)} {a a' : Option (node.Attempt C)} (l : Option node.Lead) (s : ℕ) {k k' : ℕ → ℕ → ℕ} → w ≡ w' → a ≡ a' → k ≡ k' → volatile_parts w a l s k ≡ volatile_parts w' a' l s k'
parts_same l s p q r = λ i. volatile_parts (p i) (q i) l s (r i)

-- room at the end means nothing
pub learned_push : (items : List (Option Entry)) → learned_in (items ++ None ∷ []) ≡ learned_in items
unfolding learned_in
learned_push items = fun_ext (λ p. ap (λ (o : Option Entry). option_map entry_of o) (none_push items p))
  where
    none_push : (xs : List (Option Entry)) (p : ℕ) → get_or (xs ++ None ∷ []) p None ≡ get_or xs p None
    none_push [] zero = refl
    none_push [] (suc p) = refl
    none_push (x ∷ xs) zero = refl
    none_push (x ∷ xs) (suc p) = none_push xs p

-- an empty list has nothing learned, and the front is 0
pub learned_nothing : learned_in [] ≡ (λ p. None)
unfolding learned_in
learned_nothing = fun_ext (λ p. nothing p)
  where
    nothing : (p : ℕ) → option_map entry_of (get_or {A = Option Entry} [] p None) ≡ None
    nothing zero = refl
    nothing (suc p) = refl

pub front_nothing : front (learned_in []) ≡ 0
front_nothing = front_is (learned_in []) 0 (omega arith) (λ q less. absurd (omega arith)) (λ more. ap (λ (log : node.Log Bytes). log 0) learned_nothing)

-- what a plan learns leaves what is below the front
pub learning_below : (next : Next) (core : Core) → HasRoom next core → (p : ℕ) → p < front_in core → learning next (log_in core) p ≡ log_in core p
learning_below (next.Learns q e) core room p less =
    put_all (λ (j : ℕ) (o : Option (node.Entry Bytes)). j < front_in core → o ≡ log_in core j) (log_in core) q (Some (entry_of e)) (λ under. absurd (let a = room.front in omega arith)) (λ j ne under. refl) p less
learning_below (next.KeepsLearns q m b e) core room p less =
    put_all (λ (j : ℕ) (o : Option (node.Entry Bytes)). j < front_in core → o ≡ log_in core j) (log_in core) q (Some (entry_of e)) (λ under. absurd (let a = room.1.front in omega arith)) (λ j ne under. refl) p less
learning_below next.Same core room p less = refl
learning_below (next.Waits e) core room p less = refl
learning_below (next.Counts a) core room p less = refl
learning_below (next.Leads a l) core room p less = refl
learning_below (next.Drops a l seen) core room p less = refl
learning_below (next.Keeps q m b) core room p less = refl

-- and never moves the front back
pub learning_rises : (next : Next) (log : node.Log Bytes) → front log ≤ front (learning next log)
learning_rises (next.Learns q e) log = front_grows log q (entry_of e)
learning_rises (next.KeepsLearns q m b e) log = front_grows log q (entry_of e)
learning_rises next.Same log = omega arith
learning_rises (next.Waits e) log = omega arith
learning_rises (next.Counts a) log = omega arith
learning_rises (next.Leads a l) log = omega arith
learning_rises (next.Drops a l seen) log = omega arith
learning_rises (next.Keeps q m b) log = omega arith
