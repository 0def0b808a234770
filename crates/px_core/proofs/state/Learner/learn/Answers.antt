use Rattle.std.proofs.Common.{◌≡◌, ◌≤◌, ℕ, List, Option, Some, sym, ap, subst, subst₂, ◌∙◌, if◌then◌else◌, nat_lt}
use Rattle.px_model.specs.Step.{front, put}
use Rattle.px_model.specs.Entries.{entry_of}
use Rattle.px_core.specs.Logs.{learned_in}
use Rattle.px_core.specs.Cells.{kept_in}
use Rattle.px_model.specs.declared.entry.Entry.{Entry}
use Rattle.px_model.proofs.Plans.{front_within}
use Rattle.px_model.proofs.Reach.{front_grows}
use Rattle.px_core.proofs.Front.{learned_set}
use Rattle.px_core.proofs.state.Learner.learn.Goals as goal

pub next_front-front-requires-clause-within : goal.next_front-front-requires-clause-within
next_front-front-requires-clause-within c =
    let v = c.args.self.now in
    subst (λ (k : ℕ). k ≤ 1000000) v.front_is (front_within (learned_in v.learned.items))

pub next_front-front-requires-clause-below : goal.next_front-front-requires-clause-below
next_front-front-requires-clause-below c =
    let v = c.args.self.now in
    let e : front (learned_in c.deref.result.now) ≡ front (put (learned_in v.learned.items) c.args.position (Some (entry_of c.args.entry))) =
    ap (λ (l : List (Option Entry)). front (learned_in l)) c.deref.ensures.value ∙ ap front (learned_set v.learned.items c.args.position c.args.entry c.requires.room) in
    let r = front_grows (learned_in v.learned.items) c.args.position (entry_of c.args.entry) in
    subst₂ (λ (a b : ℕ). a ≤ b) v.front_is (sym e) r

pub advance-requires : goal.advance-requires
advance-requires c =
    let v = c.args.self.now in
    let e : c.next_front-front.result ≡ front (put (learned_in v.learned.items) c.args.position (Some (entry_of c.args.entry))) =
    c.next_front-front.ensures ∙ ap (λ (l : List (Option Entry)). front (learned_in l)) c.deref.ensures.value ∙ ap front (learned_set v.learned.items c.args.position c.args.entry c.requires.room) in
    let r = front_grows (learned_in v.learned.items) c.args.position (entry_of c.args.entry) in
    subst₂ (λ (a b : ℕ). a ≤ b) v.front_is (sym e) r

pub returns-clause-learned : goal.returns-clause-learned
returns-clause-learned c = learned_set c.args.self.now.learned.items c.args.position c.args.entry c.requires.room

pub returns-clause-kept : goal.returns-clause-kept
returns-clause-kept c =
    let v = c.args.self.now in
    let e : c.next_front-front.result ≡ front (put (learned_in v.learned.items) c.args.position (Some (entry_of c.args.entry))) =
    c.next_front-front.ensures ∙ ap (λ (l : List (Option Entry)). front (learned_in l)) c.deref.ensures.value ∙ ap front (learned_set v.learned.items c.args.position c.args.entry c.requires.room) in
    c.advance.ensures.kept ∙ ap {B = ℕ → ℕ → ℕ} (λ k p m. if nat_lt p k then 0 else kept_in v.votes.front v.votes.cells.items p m) e

pub returns-clause-front : goal.returns-clause-front
returns-clause-front c =
    let v = c.args.self.now in
    c.advance.ensures.front ∙ c.next_front-front.ensures ∙ ap (λ (l : List (Option Entry)). front (learned_in l)) c.deref.ensures.value ∙ ap front (learned_set v.learned.items c.args.position c.args.entry c.requires.room)
