-- What is promised of stretches is promised of the members that went in them.
use Rattle.std.proofs.Common.{◌≡◌, ◌∙◌, sym, ap, subst, refl, ℕ, zero, suc, ◌<◌, List, [], ◌++◌, Option, Some, None}
use Rattle.px_model.specs.Law.{next_state}
use Rattle.px_model.specs.Node.{Entry, Log}
use Rattle.std.proofs.lemmas.List.{append-nil}
use Rattle.px_model.specs.Spelling.{Bytes}
use Rattle.px_model.specs.World.{NodeState}
use Rattle.px_records.specs.declared.records.Records.{Ghosts}
use Rattle.px_wire.specs.Message.{Group}
use Rattle.pf_config.specs.Map.{Configuration}
use Rattle.pf_eval.specs.Verdicts.{judgement}
use Rattle.pf_node.specs.Applied.{entry_applied, after}
use Rattle.pf_node.specs.Nodes.{applied_of, config_of}
use Rattle.pf_node.specs.declared.state.Node.{Node}
use Rattle.pfx_laws.specs.Wires.{Stretch, end_state}
use Rattle.pfx_laws.specs.Carried.{Goes, HasLearned, HasState}
use Rattle.pfx_laws.specs.Members.{Runs, EverLearned, final_state, InStretches, NeverDiffer, LearnWhatWasAsked, EquallyApplied}
use Rattle.pfx_laws.proofs.Carried.{wires_never_differ, wires_learn_what_was_asked}

-- and no stretches more
and_none : {K : Type 0} (g : Group) (runs : Runs K) (xs : List Stretch) → InStretches g runs xs → Goes g (xs ++ [])
and_none g runs xs n = subst (λ (ys : List Stretch). Goes g ys) (sym (append-nil xs)) n.goes

-- what a member ever had as learned it has in the end
abbrev pub AllLearned : {K : Type 0} → Group → Runs K → Type 0
AllLearned g runs = (m p : ℕ) (e : Entry Bytes) → m < g.members → EverLearned (runs m) p e → HasLearned (final_state runs m) p e

pub never_differ : {K : Type 0} (g : Group) (runs : Runs K) (xs : List Stretch) → InStretches g runs xs → AllLearned g runs → NeverDiffer g runs
never_differ g runs xs n all i j p q e f mine theirs has also =
    wires_never_differ g xs [] (and_none g runs xs n) i j p q e f
    (ap (λ (s : NodeState Bytes). s.stored.learned p) (n.leaves i mine) ∙ all i p e mine has)
    (ap (λ (ys : List Stretch). (end_state ys j).stored.learned q) (append-nil xs)
    ∙ ap (λ (s : NodeState Bytes). s.stored.learned q) (n.leaves j theirs) ∙ all j q f theirs also)

pub learn_what_was_asked : {K : Type 0} (g : Group) (runs : Runs K) (xs : List Stretch) → InStretches g runs xs → AllLearned g runs →
    LearnWhatWasAsked g runs xs
learn_what_was_asked g runs xs n all =
    let w = wires_learn_what_was_asked g xs n.goes in (
      λ m p e below has. w.0 m p e (ap (λ (s : NodeState Bytes). s.stored.learned p) (n.leaves m below) ∙ all m p e below has),
      w.1,
    )

-- ---- configurations

-- of states and entries that are one, what is made of both is
one_step : (x y : Option Configuration) (l m : Option (Entry Bytes)) (c d : Configuration) →
    ((s t : Configuration) → x ≡ Some s → y ≡ Some t → s ≡ t) → ((e f : Entry Bytes) → l ≡ Some e → m ≡ Some f → e ≡ f) →
    next_state entry_applied x l ≡ Some c → next_state entry_applied y m ≡ Some d → c ≡ d
one_step None y l m c d same one a b = absurd (cc)
one_step (Some s) y None m c d same one a b = absurd (cc)
one_step (Some s) None (Some e) m c d same one a b = absurd (cc)
one_step (Some s) (Some t) (Some e) None c d same one a b = absurd (cc)
one_step (Some s) (Some t) (Some e) (Some f) c d same one a b =
    let mine : entry_applied s e ≡ c = cc in
    let theirs : entry_applied t f ≡ d = cc in
    sym mine ∙ ap (λ (z : Configuration). entry_applied z e) (same s t refl refl) ∙ ap (λ (z : Entry Bytes). entry_applied t z) (one e f refl refl)
    ∙ theirs

one_configuration : (l m : Log Bytes) → ((p : ℕ) (e f : Entry Bytes) → l p ≡ Some e → m p ≡ Some f → e ≡ f) → (k : ℕ) (c d : Configuration) →
    after l k ≡ Some c → after m k ≡ Some d → c ≡ d
one_configuration l m one zero c d a b = cc
one_configuration l m one (suc k) c d a b = one_step (after l k) (after m k) (l k) (m k) c d (one_configuration l m one k) (one k) a b

-- a node's configuration is that of what it has as learned
configured : {R : Type 0} {G : Ghosts R} (x : Node R G) (s : NodeState Bytes) → HasState x s → after s.stored.learned (applied_of x) ≡ Some (config_of x)
configured x s so =
    ap (λ (z : NodeState Bytes). after z.stored.learned (applied_of x)) so.state
    ∙ ap (λ (l : Log Bytes). after l (applied_of x)) (x.replica.agrees so.works so.honest)
    ∙ x.configured

pub equally_applied : {R Q K : Type 0} (G : Ghosts R) (H : Ghosts Q) (g : Group) (runs : Runs K) → NeverDiffer g runs → EquallyApplied G H g runs
equally_applied G H g runs never i j x y mine theirs (r, among, a) (s, also, b) same =
    let is : config_of x ≡ config_of y =
    one_configuration r.end.stored.learned s.end.stored.learned
    (λ p e f l m. (never i j p p e f mine theirs (r, among, l) (s, also, m)).0 refl) (applied_of x) (config_of x) (config_of y)
    (configured x r.end a) (subst (λ (k : ℕ). after s.end.stored.learned k ≡ Some (config_of y)) (sym same) (configured y s.end b)) in
    (is, λ p. ap (λ (c : Configuration). judgement c p) is)
