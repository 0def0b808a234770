-- The changes of a script, one after the other.
use Rattle.std.proofs.Common.{◌≡◌, ◌∙◌, ℕ, ◌<◌, ◌≤◌, Bool, true, false, List, [], ◌∷◌, ◌++◌, Option, Some, None, nat_lt, refl, sym, ap, subst, append_assoc, append-nil, inl, inr, arith}
use Rattle.std.specs.Prelude.{codes}
use Rattle.std.specs.Io.KnownBytes.{Appends}
use Rattle.std.proofs.KnownBytes.{Appends-trans}
use Rattle.std.proofs.lemmas.Bool.{lt-ltb, ltb-true, false_from_ne_true}
use Rattle.cli_io.specs.Written.{AppendsFront, RanOut}
use Rattle.cli_io.specs.declared.status.Status.{Status}
use Rattle.cli_io.specs.declared.status.Status.TheVariants as status
use Rattle.cli_ask.specs.Asking.{Event, Adds}
use Rattle.cli_ask.specs.Scripts.{ScriptChange, Item, Found, Bad}
use Rattle.cli_ask.specs.Scripting.{Ended, end_text, AsksFirst, AsksFrom, AsksAll, AskedOne, AskedAll}
use Rattle.cli_ask.proofs.Series.{adds_more, adds_nothing}

-- ---- what is written

pub front_more : (old new : Option (List ℕ)) (text more : List ℕ) → AppendsFront old new text → AppendsFront old new (text ++ more)
front_more old new text more (front, rest, e, h) =
    (front, rest ++ more, ap (λ (l : List ℕ). l ++ more) e ∙ append_assoc front rest more, h)

pub front_behind : (old mid new : Option (List ℕ)) (text more : List ℕ) → Appends old mid text → AppendsFront mid new more → AppendsFront old new (text ++ more)
front_behind old mid new text more h (front, rest, e, k) =
    (text ++ front, rest, ap (λ (l : List ℕ). text ++ l) e ∙ sym (append_assoc text front rest), Appends-trans _ _ _ _ _ h k)

ended_out : (text : List ℕ) (ending : Status) (old new : Option (List ℕ)) → RanOut ending old new → Ended text ending old new
ended_out text status.Done old new h = h
ended_out text status.Refused old new h = absurd h
ended_out text status.Usage old new h = h
ended_out text status.Memory old new h = h
ended_out text status.Failed old new h = inr h

-- ---- changes

pub is_before : (a b : ℕ) → a < b → nat_lt a b ≡ true
is_before a b l = lt-ltb a b l

pub isnt_before : (a b : ℕ) → b ≤ a → nat_lt a b ≡ false
isnt_before a b l = false_from_ne_true (nat_lt a b) (λ e. omega (arith, l, ltb-true a b e))

-- what was asked and written so far, before what is left
abbrev pub AllSo : (given now : List Event → Type 0) → (from seconds : ℕ) → (all left : List Item) → (old mid : Option (List ℕ)) → Type 0
AllSo given now from seconds all left old mid = (es : List Event) × (Adds given now es
    × ((fs : List Event) (ending : Status) (new : Option (List ℕ)) → AsksAll from seconds left fs ending mid new → AsksAll from seconds all (es ++ fs) ending old new))

pub all_begin : (x : List Event → Type 0) (from seconds : ℕ) (all : List Item) (old : Option (List ℕ)) → AllSo x x from seconds all all old old
all_begin x from seconds all old = ([], (adds_nothing x, λ fs ending new h. h))

found_at : (from seconds : ℕ) (items more : List Item) (c : ScriptChange) (before : Bool) (es : List Event) (ending : Status) (old new : Option (List ℕ)) →
    items ≡ Found c ∷ more → nat_lt c.line from ≡ before → AsksFrom before c seconds (AsksAll from seconds more) es ending old new → AsksAll from seconds items es ending old new
found_at from seconds items more c before es ending old new e b h =
    let here : AsksFrom (nat_lt c.line from) c seconds (AsksAll from seconds more) es ending old new =
    subst (λ (q : Bool). AsksFrom q c seconds (AsksAll from seconds more) es ending old new) (sym b) h in
    let first : AsksAll from seconds (Found c ∷ more) es ending old new = inr here in
    subst (λ (l : List Item). AsksAll from seconds l es ending old new) (sym e) first

pub all_skip : (x y : List Event → Type 0) (from seconds : ℕ) (all items more : List Item) (c : ScriptChange) (old mid : Option (List ℕ)) →
    AllSo x y from seconds all items old mid → items ≡ Found c ∷ more → nat_lt c.line from ≡ true → AllSo x y from seconds all more old mid
all_skip x y from seconds all items more c old mid (es, (adds, so)) e b =
    (es, (adds, λ fs ending new h. so fs ending new (found_at from seconds items more c true fs ending mid new e b h)))

pub all_made : (x y z : List Event → Type 0) (from seconds : ℕ) (all items more : List Item) (c : ScriptChange) (old mid now : Option (List ℕ)) →
    AllSo x y from seconds all items old mid → items ≡ Found c ∷ more → nat_lt c.line from ≡ false → AskedOne y z c seconds None mid now →
    AllSo x z from seconds all more old now
all_made x y z from seconds all items more c old mid now (es, (adds, so)) e b (fs, (more_adds, one)) = (
  es ++ fs,
  (
    adds_more x y z es fs adds more_adds,
    λ gs ending new h.
        let first : AsksFirst c seconds (AsksAll from seconds more) (fs ++ gs) ending mid new =
        record { front = fs; rest = gs; ended = None; written = now; are = refl; one = one; goes_on = h } in
        subst (λ (l : List Event). AsksAll from seconds all l ending old new) (sym (append_assoc es fs gs))
        (so (fs ++ gs) ending new (found_at from seconds items more c false (fs ++ gs) ending mid new e b first)),
  ),
)

all_with : (x y z : List Event → Type 0) (from seconds : ℕ) (all left : List Item) (fs : List Event) (ending : Status) (old mid new : Option (List ℕ)) →
    AllSo x y from seconds all left old mid → Adds y z fs → AsksAll from seconds left fs ending mid new → AskedAll x z from seconds all ending old new
all_with x y z from seconds all left fs ending old mid new (es, (adds, so)) more h = (es ++ fs, (adds_more x y z es fs adds more, so fs ending new h))

pub all_ended : (x y z : List Event → Type 0) (from seconds : ℕ) (all items more : List Item) (c : ScriptChange) (ending : Status) (old mid now : Option (List ℕ)) →
    AllSo x y from seconds all items old mid → items ≡ Found c ∷ more → nat_lt c.line from ≡ false → AskedOne y z c seconds (Some ending) mid now →
    AskedAll x z from seconds all ending old now
all_ended x y z from seconds all items more c ending old mid now so e b (fs, (more_adds, one)) =
    let first : AsksFirst c seconds (AsksAll from seconds more) fs ending mid now =
    record { front = fs; rest = []; ended = Some ending; written = now; are = sym (append-nil fs); one = one; goes_on = (refl, (refl, refl)) } in
    all_with x y z from seconds all items fs ending old mid now so more_adds (found_at from seconds items more c false fs ending mid now e b first)

pub all_done : (x y : List Event → Type 0) (from seconds : ℕ) (all items : List Item) (old mid : Option (List ℕ)) →
    AllSo x y from seconds all items old mid → items ≡ [] → AskedAll x y from seconds all status.Done old mid
all_done x y from seconds all items old mid so e =
    let last : AsksAll from seconds [] [] status.Done mid mid = (refl, inr (refl, refl)) in
    all_with x y y from seconds all items [] status.Done old mid mid so (adds_nothing y) (subst (λ (l : List Item). AsksAll from seconds l [] status.Done mid mid) (sym e) last)

pub all_bad : (x y : List Event → Type 0) (from seconds at : ℕ) (all items : List Item) (ending : Status) (old mid new : Option (List ℕ)) →
    AllSo x y from seconds all items old mid → items ≡ Bad at ∷ [] → Ended (end_text (codes "refused 40\n") at) ending mid new → AskedAll x y from seconds all ending old new
all_bad x y from seconds at all items ending old mid new so e h =
    let last : AsksAll from seconds (Bad at ∷ []) [] ending mid new = (refl, h) in
    all_with x y y from seconds all items [] ending old mid new so (adds_nothing y) (subst (λ (l : List Item). AsksAll from seconds l [] ending mid new) (sym e) last)

out_at : (from seconds : ℕ) (items : List Item) (ending : Status) (old new : Option (List ℕ)) → RanOut ending old new → AsksAll from seconds items [] ending old new
out_at from seconds [] ending old new h = (refl, inl h)
out_at from seconds (Found c ∷ items) ending old new h = inl (refl, h)
out_at from seconds (Bad at ∷ items) ending old new h = (refl, ended_out (end_text (codes "refused 40\n") at) ending old new h)

pub all_out : (x y : List Event → Type 0) (from seconds : ℕ) (all items : List Item) (ending : Status) (old mid new : Option (List ℕ)) →
    AllSo x y from seconds all items old mid → RanOut ending mid new → AskedAll x y from seconds all ending old new
all_out x y from seconds all items ending old mid new so h =
    all_with x y y from seconds all items [] ending old mid new so (adds_nothing y) (out_at from seconds items ending mid new h)
