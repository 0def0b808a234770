-- Verdicts in parts.
use Rattle.std.proofs.Common.{◌≡◌, ◌==◌, ◌∙◌, ℕ, suc, ◌+◌, ◌-◌, ◌<◌, Bool, true, false, List, [], ◌∷◌, ◌++◌, length, drop, Option, Some, None, Ok, Err, refl, sym, ap, subst, append_assoc, append-nil, inl, inr, arith}
use Rattle.std.specs.Prelude.{if◌then◌else◌}
use Rattle.std.specs.List.{flat_map}
use Rattle.std.proofs.lemmas.Bool.{eqb-true}
use Rattle.std.proofs.lemmas.Grind.{flat_map-append}
use Rattle.std.proofs.lemmas.List.{length_push}
use Rattle.std.proofs.Math.Seq.{drop-nil}
use Rattle.pf_scripts.specs.Lines.{ScriptLine, lines, at_front, bytes_of}
use Rattle.cli_ask.specs.Calls.{Request}
use Rattle.cli_ask.specs.Replies.{Answer}
use Rattle.cli_ask.specs.Asking.{Answered, Event, Adds, IsSeries, AskedOn, behind_lines, left_by, is_whole, with_more, Part, AreParts}
use Rattle.cli_ask.specs.Asking.{AreAnew, BegunParts, AskedVerdicts}
use Rattle.cli_ask.specs.declared.exchange.AskFault.{AskFault}
use Rattle.cli_ask.specs.declared.exchange.AskFault.TheVariants as fault
use Rattle.cli_ask.proofs.Series.{adds_more, adds_nothing}

-- ---- lines

front_text : (b : ℕ) (ls : List ScriptLine) → flat_map bytes_of (at_front b ls) ≡ b ∷ flat_map bytes_of ls
front_text b [] = refl
front_text b (l ∷ ls) =
    elim (l.has_newline) as (λ q. (if q then (b ∷ l.content) ++ 10 ∷ [] else b ∷ l.content) ++ flat_map bytes_of ls ≡ b ∷ ((if q then l.content ++ 10 ∷ [] else l.content) ++ flat_map bytes_of ls)) [
      | true ↦ refl
      | false ↦ refl
    ]

-- the lines of bytes, one behind the other, are those bytes
pub whole_text : (text : List ℕ) → flat_map bytes_of (lines text) ≡ text
whole_text [] = refl
whole_text (b ∷ bs) =
    let further : flat_map bytes_of (lines bs) ≡ bs = whole_text bs in
    (elim (b == 10) as (λ q. (b == 10) ≡ q → flat_map bytes_of (if q then record { content = []; has_newline = true } ∷ lines bs else at_front b (lines bs)) ≡ b ∷ bs) [
      | true ↦ λ e. let same : b ≡ 10 = eqb-true b 10 e in ap (λ (t : List ℕ). 10 ∷ t) further ∙ ap (λ (n : ℕ). n ∷ bs) (sym same)
      | false ↦ λ e. front_text b (lines bs) ∙ ap (λ (t : List ℕ). b ∷ t) further
    ]) refl

-- one line less is left
pub behind_more : (count i : ℕ) (x : ScriptLine) (left rest text : List ℕ) → i < count → lines left ≡ x ∷ lines rest →
    behind_lines (count - i) left ≡ text → behind_lines (count - (i + 1)) rest ≡ text
behind_more count i x left rest text l cut so =
    let e : count - i ≡ suc (count - (i + 1)) = omega (arith, l) in
    let both : drop (count - i) (lines left) ≡ drop (count - (i + 1)) (lines rest) =
    ap (λ (n : ℕ). drop n (lines left)) e ∙ ap (λ (ls : List ScriptLine). drop (suc (count - (i + 1))) ls) cut in
    ap (flat_map bytes_of) (sym both) ∙ so

pub behind_none : (count i : ℕ) (left text : List ℕ) → left ≡ [] → behind_lines (count - i) left ≡ text → left ≡ text
behind_none count i left text e so =
    let none : behind_lines (count - i) left ≡ [] = ap (λ (l : List ℕ). behind_lines (count - i) l) e ∙ ap (flat_map bytes_of) (drop-nil {A = ScriptLine} (count - i)) in
    e ∙ sym none ∙ so

pub behind_all : (count i : ℕ) (left text : List ℕ) → count ≡ i → behind_lines (count - i) left ≡ text → left ≡ text
behind_all count i left text e so =
    let none : count - i ≡ 0 = omega (arith, e) in
    sym (whole_text left) ∙ ap (λ (n : ℕ). behind_lines n left) (sym none) ∙ so

-- ---- parts

abbrev pub events_of : List Part → List Event
events_of ps = flat_map (λ p. p.events) ps

-- the number of parts that were asked for behind the first
abbrev pub PartsSo : (given now : List Event → Type 0) → Request → (once : Bool) → (limit i : ℕ) → Answer → Type 0
PartsSo given now r once limit i so_far = (es : List Event) × (Adds given now es
    × ((ps : List Part) (gives : Option Answered) → AreParts r once limit (length r.body - i) (Some so_far) ps gives →
    (qs : List Part) × ((events_of qs ≡ es ++ events_of ps) × AreParts r once limit (length r.body + 1) None qs gives)))

pub first_part : (x y : List Event → Type 0) (r : Request) (once : Bool) (limit : ℕ) (a : Answer) → AskedOn x y r once limit (Ok a) → PartsSo x y r once limit 0 a
first_part x y r once limit a (es, (adds, series)) =
    let e : length r.body - 0 ≡ length r.body + 1 - 1 = omega arith in (
      es,
      (
        adds,
        λ ps gives h.
            let more : AreParts r once limit (length r.body + 1 - 1) (Some a) ps gives = subst (λ (n : ℕ). AreParts r once limit n (Some a) ps gives) e h in (
              record { events = es; answer = Ok a } ∷ ps,
              (refl, (refl, (series, inl (tt, more)))),
            ),
      ),
    )

pub first_fault : (x y : List Event → Type 0) (r : Request) (once : Bool) (limit : ℕ) (f : AskFault) → AskedOn x y r once limit (Err f) → BegunParts x y r once limit (Some (Err f))
first_fault x y r once limit f (es, (adds, series)) =
    (es, (adds, (record { events = es; answer = Err f } ∷ [], (sym (append-nil es), (refl, (series, (refl, refl)))))))

-- with these parts more it gives this
begun_with : (x y z : List Event → Type 0) (r : Request) (once : Bool) (limit i : ℕ) (so_far : Answer) (fs : List Event) (ps : List Part) (gives : Option Answered) →
    PartsSo x y r once limit i so_far → Adds y z fs → events_of ps ≡ fs → AreParts r once limit (length r.body - i) (Some so_far) ps gives → BegunParts x z r once limit gives
begun_with x y z r once limit i so_far fs ps gives (es, (adds, so)) more e are =
    let all = so ps gives are in
    (es ++ fs, (adds_more x y z es fs adds more, (all.0, (sym (all.1.0 ∙ ap (λ (l : List Event). es ++ l) e), all.1.1))))

pub parts_memory : (x y : List Event → Type 0) (r : Request) (once : Bool) (limit i : ℕ) (so_far : Answer) → PartsSo x y r once limit i so_far →
    BegunParts x y r once limit (Some (Err fault.Memory))
parts_memory x y r once limit i so_far so =
    begun_with x y y r once limit i so_far [] [] (Some (Err fault.Memory)) so (adds_nothing y) refl (inl refl)

pub parts_whole : (x y : List Event → Type 0) (r : Request) (once : Bool) (limit i : ℕ) (so_far : Answer) → PartsSo x y r once limit i so_far →
    is_whole (Some so_far) r.body ≡ true → BegunParts x y r once limit (Some (Ok so_far))
parts_whole x y r once limit i so_far so whole =
    begun_with x y y r once limit i so_far [] [] (Some (Ok so_far)) so (adds_nothing y) refl (inr (inl (whole, refl)))

pub parts_spent : (x y : List Event → Type 0) (r : Request) (once : Bool) (limit i : ℕ) (so_far : Answer) → PartsSo x y r once limit i so_far →
    length r.body ≡ i → BegunParts x y r once limit (Some (Err fault.BadAnswer))
parts_spent x y r once limit i so_far so e =
    let none : length r.body - i ≡ 0 = omega (arith, e) in
    begun_with x y y r once limit i so_far [] [] (Some (Err fault.BadAnswer)) so (adds_nothing y) refl (inr (inr (none, refl)))

-- what is asked for behind them
abbrev pub rest_of : Request → Answer → Request
rest_of r so_far = record r { body = left_by (Some so_far) r.body }

pub parts_fault : (x y z : List Event → Type 0) (r s : Request) (once : Bool) (limit i : ℕ) (so_far : Answer) (f : AskFault) → PartsSo x y r once limit i so_far →
    is_whole (Some so_far) r.body ≡ false → s ≡ rest_of r so_far → AskedOn y z s once limit (Err f) → BegunParts x z r once limit (Some (Err f))
parts_fault x y z r s once limit i so_far f so whole same (fs, (more, series)) =
    begun_with x y z r once limit i so_far fs (record { events = fs; answer = Err f } ∷ []) (Some (Err f)) so more (append-nil fs)
    (whole, (subst (λ (q : Request). IsSeries q once limit fs (Err f)) same series, (refl, refl)))

pub parts_other : (x y z : List Event → Type 0) (r s : Request) (once : Bool) (limit i : ℕ) (so_far a : Answer) → PartsSo x y r once limit i so_far →
    is_whole (Some so_far) r.body ≡ false → s ≡ rest_of r so_far → AskedOn y z s once limit (Ok a) → (a.applied ≡ so_far.applied → ⊥) → BegunParts x z r once limit None
parts_other x y z r s once limit i so_far a so whole same (fs, (more, series)) other =
    begun_with x y z r once limit i so_far fs (record { events = fs; answer = Ok a } ∷ []) None so more (append-nil fs)
    (whole, (subst (λ (q : Request). IsSeries q once limit fs (Ok a)) same series, inr (other, (refl, refl))))

pub parts_more : (x y z : List Event → Type 0) (r s : Request) (once : Bool) (limit i : ℕ) (so_far a : Answer) → PartsSo x y r once limit i so_far →
    is_whole (Some so_far) r.body ≡ false → s ≡ rest_of r so_far → AskedOn y z s once limit (Ok a) → a.applied ≡ so_far.applied →
    PartsSo x z r once limit (i + 1) (with_more (Some so_far) a)
parts_more x y z r s once limit i so_far a (es, (adds, so)) whole same (fs, (more, series)) one =
    let e : length r.body - (i + 1) ≡ length r.body - i - 1 = omega arith in
    let its : IsSeries (rest_of r so_far) once limit fs (Ok a) = subst (λ (q : Request). IsSeries q once limit fs (Ok a)) same series in (
      es ++ fs,
      (
        adds_more x y z es fs adds more,
        λ ps gives h.
            let next : AreParts r once limit (length r.body - i - 1) (Some (with_more (Some so_far) a)) ps gives =
            subst (λ (n : ℕ). AreParts r once limit n (Some (with_more (Some so_far) a)) ps gives) e h in
            let all = so (record { events = fs; answer = Ok a } ∷ ps) gives (whole, (its, inl (one, next))) in
            (all.0, (all.1.0 ∙ sym (append_assoc es fs (events_of ps)), all.1.1)),
      ),
    )

-- ---- beginnings

anew_append : (r : Request) (once : Bool) (limit : ℕ) (anew more : List (List Event)) → AreAnew r once limit anew → AreAnew r once limit more → AreAnew r once limit (anew ++ more)
anew_append r once limit [] more h k = k
anew_append r once limit (begun ∷ anew) more h k = (h.0, anew_append r once limit anew more h.1 k)

abbrev pub AnewSo : (given now : List Event → Type 0) → Request → (once : Bool) → (limit count : ℕ) → Type 0
AnewSo given now r once limit count = (anew : List (List Event))
    × (Adds given now (flat_map (λ begun. begun) anew) × (AreAnew r once limit anew × (length anew ≡ count)))

pub anew_none : (x : List Event → Type 0) (r : Request) (once : Bool) (limit : ℕ) → AnewSo x x r once limit 0
anew_none x r once limit = ([], (adds_nothing x, (tt, refl)))

pub anew_more : (x y z : List Event → Type 0) (r : Request) (once : Bool) (limit count : ℕ) → AnewSo x y r once limit count → BegunParts y z r once limit None →
    AnewSo x z r once limit (count + 1)
anew_more x y z r once limit count (anew, (adds, (are, many))) (es, (more, begun)) =
    let e : flat_map (λ (b : List Event). b) (anew ++ es ∷ []) ≡ flat_map (λ (b : List Event). b) anew ++ es =
    flat_map-append (λ (b : List Event). b) anew (es ∷ []) ∙ ap (λ (l : List Event). flat_map (λ (b : List Event). b) anew ++ l) (append-nil es) in (
      anew ++ es ∷ [],
      (
        subst (λ (l : List Event). Adds x z l) (sym e) (adds_more x y z (flat_map (λ (b : List Event). b) anew) es adds more),
        (anew_append r once limit anew (es ∷ []) are (begun, tt), length_push anew es ∙ ap (λ (n : ℕ). n + 1) many),
      ),
    )

pub anew_given : (x y z : List Event → Type 0) (r : Request) (once : Bool) (limit count : ℕ) (answer : Answered) → AnewSo x y r once limit count → count < 3 →
    BegunParts y z r once limit (Some answer) → AskedVerdicts x z r once limit answer
anew_given x y z r once limit count answer (anew, (adds, (are, many))) l (es, (more, begun)) = (
  flat_map (λ (b : List Event). b) anew ++ es,
  (
    adds_more x y z (flat_map (λ (b : List Event). b) anew) es adds more,
    record { anew = anew; rest = es; are = refl; changed = are; ends = inl (subst (λ (n : ℕ). n < 3) (sym many) l, begun) },
  ),
)

pub anew_spent : (x y : List Event → Type 0) (r : Request) (once : Bool) (limit count : ℕ) → AnewSo x y r once limit count → count ≡ 3 →
    AskedVerdicts x y r once limit (Err fault.BadAnswer)
anew_spent x y r once limit count (anew, (adds, (are, many))) e = (
  flat_map (λ (b : List Event). b) anew,
  (
    adds,
    record { anew = anew; rest = []; are = sym (append-nil (flat_map (λ (b : List Event). b) anew)); changed = are; ends = inr (many ∙ e, (refl, refl)) },
  ),
)
