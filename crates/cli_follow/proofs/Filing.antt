-- Files of runs, turn by turn.
use Rattle.std.proofs.Common.{◌≡◌, ◌∙◌, ℕ, Bool, true, false, List, [], ◌++◌, Option, Some, None, refl, sym, subst, append-nil, inl, inr}
use Rattle.std.specs.Prelude.{◌&&◌}
use Rattle.std.proofs.KnownBytes.{Appends-nil}
use Rattle.nft_rules.specs.Rendering.{Machine}
use Rattle.cli_follow.specs.declared.files.TextFiles.{TextFiles}
use Rattle.pf_config.specs.Map.{Configuration}
use Rattle.cli_follow.specs.declared.follower.Due.{Due}
use Rattle.cli_follow.specs.declared.follower.Due.TheVariants as due
use Rattle.cli_follow.specs.Exchanges.{Exchange}
use Rattle.cli_follow.specs.Files.{Act, Acted, NoFile, FilesWritten, FilesWrittenIf, FilesLeft, FilesLeftIf, are_behind, files_of, with_gone}
use Rattle.cli_follow.specs.Output.{Wanted, Follower, Stage, AsksEntries, AsksStatus, Ended, after, stays, silent, start, written_to, FiledIn, Filed, NoTurn, Turn, FiledTo, TurnFiled, Went, LeftIn, TurnLeft, LeftTo}
use Rattle.cli_follow.specs.inner.Seen.{due_in, stage_in, Leads, Fails}
use Rattle.cli_follow.proofs.Runs.{adds_nothing, adds_more}

-- ---- one turn

still_filed : (s : Stage) (old : Option TextFiles) → FiledIn s false old [] old
still_filed (AsksEntries f) old = inl (refl, refl)
still_filed (AsksStatus f) old = (refl, refl)
still_filed Ended old = (refl, refl)

due_filed : (o : Option Machine) (f : Follower) (old : Option TextFiles) (acts : List Act) (new : Option TextFiles) →
    FilesWritten f.followed.configuration old acts new → FiledIn (written_to o f).stage (written_to o f).is_due old acts new
due_filed None f old acts new h = h
due_filed (Some m) f old acts new h = h

late_filed : (f : Follower) (again behind : Bool) (old : Option TextFiles) (acts : List Act) (new : Option TextFiles) → are_behind old ≡ behind →
    FilesWrittenIf (again && behind) f.followed.configuration old acts new → FiledIn (AsksEntries f) false old acts new
late_filed f true true old acts new is h = inr (is, h)
late_filed f true false old acts new is h = inl h
late_filed f false behind old acts new is h = inl h

-- nothing was to be put
pub filed_still : (x y : List Exchange → Type 0) (p : List Act → Type 0) (w : Wanted) (e f : Follower) (d : Due) (old : Option TextFiles) → (d ≡ due.Write → ⊥) → (d ≡ due.Status → ⊥) →
    Leads x y w (AsksEntries e) (due_in w f d) → TurnFiled x y p p w e (stage_in f d) old old
filed_still x y p w e f due.More old first other leads =
    let (es, given, led) = leads in (es, silent f, given, led, refl, ([], (adds_nothing p, still_filed (AsksEntries f) old)))
filed_still x y p w e f due.Rest old first other leads =
    let (es, given, led) = leads in (es, silent f, given, led, refl, ([], (adds_nothing p, still_filed (AsksEntries f) old)))
filed_still x y p w e f (due.Nothing fault) old first other leads =
    let (es, given, led) = leads in (es, silent f, given, led, refl, ([], (adds_nothing p, still_filed (AsksEntries f) old)))
filed_still x y p w e f due.Status old first other leads = absurd (other refl)
filed_still x y p w e f due.Write old first other leads = absurd (first refl)
filed_still x y p w e f due.Another old first other leads =
    let (es, given, led) = leads in (es, stays Ended, given, led, refl, ([], (adds_nothing p, still_filed Ended old)))

-- and nothing was written
pub went_still : (x y : List Exchange → Type 0) (w : Wanted) (e f : Follower) (d : Due) (a : Option (List ℕ)) → (d ≡ due.Write → ⊥) → (d ≡ due.Status → ⊥) →
    Leads x y w (AsksEntries e) (due_in w f d) → Went x y w (AsksEntries e) (stage_in f d) a a
went_still x y w e f due.More a first other leads = let (es, given, led) = leads in (es, silent f, given, led, refl, Appends-nil a)
went_still x y w e f due.Rest a first other leads = let (es, given, led) = leads in (es, silent f, given, led, refl, Appends-nil a)
went_still x y w e f (due.Nothing fault) a first other leads = let (es, given, led) = leads in (es, silent f, given, led, refl, Appends-nil a)
went_still x y w e f due.Status a first other leads = absurd (other refl)
went_still x y w e f due.Write a first other leads = absurd (first refl)
went_still x y w e f due.Another a first other leads = let (es, given, led) = leads in (es, stays Ended, given, led, refl, Appends-nil a)

-- what was followed was due, and is put
pub filed_due : (x y : List Exchange → Type 0) (p q : List Act → Type 0) (w : Wanted) (e f : Follower) (t : Stage) (old new : Option TextFiles) →
    Leads x y w (AsksEntries e) (due_in w f due.Write) → (written_to w.machine f).stage ≡ t → Acted p q (λ acts. FilesWritten f.followed.configuration old acts new) →
    TurnFiled x y p q w e t old new
filed_due x y p q w e f t old new leads at (acts, (adds, h)) =
    let (es, given, led) = leads in (es, written_to w.machine f, given, led, at, (acts, (adds, due_filed w.machine f old acts new h)))

-- all is there: what is behind is put again
pub filed_late : (x y : List Exchange → Type 0) (p q : List Act → Type 0) (w : Wanted) (e f : Follower) (again : Bool) (old new : Option TextFiles) →
    Leads x y w (AsksEntries e) (due_in w f due.Rest) → Acted p q (λ acts. FilesWrittenIf (again && are_behind old) f.followed.configuration old acts new) →
    TurnFiled x y p q w e (AsksEntries f) old new
filed_late x y p q w e f again old new leads (acts, (adds, h)) =
    let (es, given, led) = leads in (es, due_in w f due.Rest, given, led, refl, (acts, (adds, late_filed f again (are_behind old) old acts new refl h)))

-- they were put again, where one couldn't be written
pub written_if : (p q : List Act → Type 0) (c : Configuration) (again behind : Bool) (old new : Option TextFiles) → again ≡ true → behind ≡ true →
    Acted p q (λ acts. FilesWritten c old acts new) → Acted p q (λ acts. FilesWrittenIf (again && behind) c old acts new)
written_if p q c again behind old new e f h = rw (e, f) h

-- they weren't, since none is behind, or it isn't time
pub still_if : (p : List Act → Type 0) (c : Configuration) (late : Bool) (old : Option TextFiles) → late ≡ false → Acted p p (λ acts. FilesWrittenIf late c old acts old)
still_if p c late old e = rw e ([], (adds_nothing p, (refl, refl)))

pub not_behind : (again behind : Bool) → false ≡ behind → (again && behind) ≡ false
not_behind true behind e = sym e
not_behind false behind e = refl

pub not_again : (again behind : Bool) → false ≡ again → (again && behind) ≡ false
not_again true behind e = absurd cc
not_again false behind e = refl

pub left_if : (p q : List Act → Type 0) (c : Configuration) (again behind : Bool) (old : Option TextFiles) → again ≡ true → behind ≡ true →
    Acted p q (λ acts. FilesLeft c old acts) → Acted p q (λ acts. FilesLeftIf (again && behind) c old acts)
left_if p q c again behind old e f h = rw (e, f) h

-- ---- turns

pub filed_nothing : (x : List Exchange → Type 0) (p : List Act → Type 0) (w : Wanted) (first : Option TextFiles) → FiledTo x x p p w first (AsksEntries start) first
filed_nothing x p w first = ([], [], adds_nothing x, adds_nothing p, NoTurn)

-- a turn behind those before it
pub filed_on : (x y z : List Exchange → Type 0) (p q r : List Act → Type 0) (w v : Wanted) (first old new : Option TextFiles) (f : Follower) (u k : Stage) → v ≡ w → u ≡ k →
    FiledTo x y p q w first (AsksEntries f) old → TurnFiled y z q r v f u old new → FiledTo x z p r w first k new
filed_on x y z p q r w v first old new f u k same is before this =
    let turn : TurnFiled y z q r w f u old new = subst (λ (t : Wanted). TurnFiled y z q r t f u old new) same this in
    let (es, acts, given, added, filed) = before in
    let (fs, reached, given2, led, at, wrote) = turn in
    let (more, (added2, wrote2)) = wrote in (
      es ++ fs,
      acts ++ more,
      adds_more x y z es fs given given2,
      adds_more p q r acts more added added2,
      subst (λ (s : Stage). Filed w first (es ++ fs) (acts ++ more) s new) (at ∙ is) (Turn fs more reached filed led wrote2),
    )

-- ---- a turn in which it ends early

written_left : (f : Follower) (old : Option TextFiles) (acts : List Act) (new : Option TextFiles) →
    FilesWritten f.followed.configuration old acts new → FilesLeft f.followed.configuration old acts
written_left f None acts new h = h.1
written_left f (Some old) acts None h = absurd h
written_left f (Some old) acts (Some new) h =
    let all = with_gone (files_of f.followed.configuration) old.written.items in
    elim h [
      | inl still ↦ rw still.1 ([], all, [], refl, NoFile)
      | inr put ↦ (all, [], new.written.items, sym (append-nil all), put.3)
    ]

nothing_left : (f : Follower) (old : Option TextFiles) → FilesLeft f.followed.configuration old []
nothing_left f None = refl
nothing_left f (Some old) = ([], with_gone (files_of f.followed.configuration) old.written.items, [], refl, NoFile)

still_in : (s : Stage) (due : Bool) (old : Option TextFiles) → LeftIn s due old []
still_in (AsksEntries f) true old = nothing_left f old
still_in (AsksEntries f) false old = inl refl
still_in (AsksStatus f) due old = refl
still_in Ended due old = refl

due_left : (o : Option Machine) (f : Follower) (old : Option TextFiles) (acts : List Act) →
    FilesLeft f.followed.configuration old acts → LeftIn (written_to o f).stage (written_to o f).is_due old acts
due_left None f old acts h = h
due_left (Some m) f old acts h = h

late_left : (f : Follower) (again behind : Bool) (old : Option TextFiles) (acts : List Act) → are_behind old ≡ behind →
    FilesLeftIf (again && behind) f.followed.configuration old acts → LeftIn (AsksEntries f) false old acts
late_left f true true old acts is h = inr (is, h)
late_left f true false old acts is h = inl h
late_left f false behind old acts is h = inl h

-- nothing was put
pub left_still : (x y : List Exchange → Type 0) (p : List Act → Type 0) (w : Wanted) (e : Follower) (old : Option TextFiles) →
    Fails x y w (AsksEntries e) → TurnLeft x y p p w e old
left_still x y p w e old fails =
    let (r, leads) = fails in
    let (es, given, led) = leads in (es, r, given, led, ([], (adds_nothing p, still_in r.stage r.is_due old)))

-- what was followed was due
pub left_due : (x y : List Exchange → Type 0) (p q : List Act → Type 0) (w : Wanted) (e f : Follower) (old : Option TextFiles) →
    Leads x y w (AsksEntries e) (due_in w f due.Write) → Acted p q (λ acts. FilesLeft f.followed.configuration old acts) → TurnLeft x y p q w e old
left_due x y p q w e f old leads (acts, (adds, h)) =
    let (es, given, led) = leads in (es, written_to w.machine f, given, led, (acts, (adds, due_left w.machine f old acts h)))

-- it was, and its files are put
pub left_behind : (x y : List Exchange → Type 0) (p q : List Act → Type 0) (w : Wanted) (e f : Follower) (old new : Option TextFiles) →
    Leads x y w (AsksEntries e) (due_in w f due.Write) → Acted p q (λ acts. FilesWritten f.followed.configuration old acts new) → TurnLeft x y p q w e old
left_behind x y p q w e f old new leads (acts, (adds, h)) = left_due x y p q w e f old leads (acts, (adds, written_left f old acts new h))

-- all is there
pub left_late : (x y : List Exchange → Type 0) (p q : List Act → Type 0) (w : Wanted) (e f : Follower) (again : Bool) (old : Option TextFiles) →
    Leads x y w (AsksEntries e) (due_in w f due.Rest) → Acted p q (λ acts. FilesLeftIf (again && are_behind old) f.followed.configuration old acts) → TurnLeft x y p q w e old
left_late x y p q w e f again old leads (acts, (adds, h)) =
    let (es, given, led) = leads in (es, due_in w f due.Rest, given, led, (acts, (adds, late_left f again (are_behind old) old acts refl h)))

-- before the first turn
pub left_first : (x : List Exchange → Type 0) (p : List Act → Type 0) (w : Wanted) (first : Option TextFiles) → LeftTo x x p p w first
unfolding after
left_first x p w first =
    ([], [], start, stays (AsksEntries start), first, [], [], adds_nothing x, adds_nothing p, NoTurn, refl, inl refl)

-- behind the turns before it
pub left_on : (x y z : List Exchange → Type 0) (p q r : List Act → Type 0) (w v : Wanted) (first old : Option TextFiles) (f : Follower) → v ≡ w →
    FiledTo x y p q w first (AsksEntries f) old → TurnLeft y z q r v f old → LeftTo x z p r w first
left_on x y z p q r w v first old f same before this =
    let turn : TurnLeft y z q r w f old = subst (λ (t : Wanted). TurnLeft y z q r t f old) same this in
    let (es, acts, given, added, filed) = before in
    let (fs, reached, given2, led, left) = turn in
    let (more, (added2, left2)) = left in
    (es, fs, f, reached, old, acts, more, adds_more x y z es fs given given2, adds_more p q r acts more added added2, filed, led, left2)
