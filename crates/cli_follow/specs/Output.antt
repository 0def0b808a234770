-- What `follow` writes for nft(8), of the answers that it is given.
use Rattle.std.specs.Prelude.{ℕ, ◌+◌, ◌-◌, ◌%◌, ◌==◌, ◌≡◌, ◌⊎◌, ◌&&◌, ◌||◌, Bool, true, false, not, nat_lt}
use Rattle.std.specs.Prelude.{List, [], ◌∷◌, ◌++◌}
use Rattle.std.specs.Prelude.{Option, Some, None, Result, Ok, Err, length, bytes_eq, option_map, option_and_then}
use Rattle.std.specs.Prelude.{if◌then◌else◌}
use Rattle.std.specs.Io.KnownBytes.{Appends}
use Rattle.pf_config.specs.Map.{Configuration}
use Rattle.pf_command.specs.Effect.{empty}
use Rattle.pf_scripts.specs.Lines.{lines}
use Rattle.nft_rules.specs.declared.guard.Member.{Member}
use Rattle.nft_rules.specs.Guard.{same_addr}
use Rattle.cli_ask.specs.declared.exchange.AskFault.{AskFault}
use Rattle.cli_ask.specs.declared.exchange.Reply.{Reply}
use Rattle.nft_rules.specs.Rendering.{Machine}
use Rattle.nft_rules.specs.declared.rendering.RenderFault.{RenderFault}
use Rattle.nft_text.specs.Loading.{rendered_lines}
use Rattle.nft_text.specs.Texts.{TransactionsValue}
use Rattle.cli_io.specs.Written.{AppendsFront}
use Rattle.cli_follow.specs.declared.files.TextFiles.{TextFiles}
use Rattle.cli_follow.specs.declared.follower.WriteFault.{WriteFault}
use Rattle.cli_follow.specs.declared.follower.WriteFault.TheVariants as fault
use Rattle.cli_follow.specs.Exchanges.{Question, Entries, Status, Exchange, Adds}
use Rattle.cli_follow.specs.Files.{Act, Acted, FilesWritten, FilesLeft, are_behind}
use Rattle.cli_follow.specs.Following.{Followed, LinesApplied, lines_applied}
use Rattle.cli_follow.specs.Members.{members_reported}

-- ---- what is kept

-- what nft(8) was given last: the position whose names it has, and its lines
pub record Given : Type 0 where
  pub position : ℕ
  pub lines : TransactionsValue

-- what is wanted: lines for a machine, if a file of its interfaces is named; and whether behind the members' guard
pub record Wanted : Type 0 where
  pub machine : Option Machine
  pub is_guarded : Bool

-- for this machine, if there is one: without lines there is no guard
abbrev pub wanted : Option Machine → (guarded : Bool) → Wanted
wanted None guarded = record { machine = None; is_guarded = false }
wanted (Some m) guarded = record { machine = Some m; is_guarded = guarded }

-- the log's configuration, the members that the guard lets through, what was given last, whether anything was to be
-- written yet, and how often entries were asked for
pub record Follower : Type 0 where
  pub followed : Followed
  pub members : List Member
  pub last : Option Given
  pub has_begun : Bool
  pub asks : ℕ

-- what is asked for next: entries, or where the members listen; nothing, where another log was there
pub data Stage : Type 0 where
  AsksEntries : (follower : Follower) → Stage
  AsksStatus : (follower : Follower) → Stage
  Ended : Stage

-- a stage, what was written before it, and whether what was followed was due to be written
pub record Reached : Type 0 where
  pub stage : Stage
  pub out : List ℕ
  pub is_due : Bool

-- nothing is written, and this is asked for next
abbrev pub stays : Stage → Reached
stays s = record { stage = s; out = []; is_due = false }

-- ---- lines for nft(8)

abbrev pub are_same : (a b : TransactionsValue) → Bool
are_same a b = bytes_eq a.load b.load && bytes_eq a.end b.end

-- the rendering is no refusal, and these lines
abbrev pub renders : Result TransactionsValue RenderFault → TransactionsValue → Bool
renders (Err fault) lines = false
renders (Ok l) lines = are_same l lines

-- under the names of what was given last the configuration is that again
abbrev pub is_same : Machine → List Member → Option Given → Configuration → Bool
is_same m ms None c = false
is_same m ms (Some g) c = renders (rendered_lines c m ms g.position) g.lines

-- the line that ends what was given last, unless its names are used on
abbrev pub end_of : (position : ℕ) → Option Given → List ℕ
end_of position None = []
end_of position (Some g) = if g.position == position then [] else g.lines.end

-- what was given last, and the lines that were written for it
pub record Loads : Type 0 where
  pub last : Option Given
  pub lines : List ℕ

-- a rendering is given, but for a refusal
abbrev pub loads_new : Option Given → (position : ℕ) → Result TransactionsValue RenderFault → Loads
loads_new last position (Err fault) = record { last = last; lines = [] }
loads_new last position (Ok l) = record {
  last = Some (record { position = position; lines = l });
  lines = l.load ++ end_of position last;
}

-- what nft(8) is to load of a configuration after that many entries: nothing that it has already
abbrev pub loads : Machine → List Member → Option Given → Configuration → (position : ℕ) → Loads
loads m ms last c position =
    if is_same m ms last c then record { last = last; lines = [] }
    else loads_new last position (rendered_lines c m ms position)

-- ---- what an answer leads to

-- nothing is written, and entries are asked for next
abbrev pub silent : Follower → Reached
silent f = stays (AsksEntries f)

-- what was followed is written from here on where something new comes
abbrev pub settled : Follower → Follower
settled f = record f { followed = record f.followed { is_moved = false }; has_begun = true }

-- what there is to load is written
abbrev pub given : Follower → Loads → Reached
given f l = record { stage = AsksEntries (record (settled f) { last = l.last }); out = l.lines; is_due = true }

-- the configuration is due to be written; for nft(8) where lines are wanted
abbrev pub written_to : Option Machine → Follower → Reached
written_to None f = record { stage = AsksEntries (settled f); out = []; is_due = true }
written_to (Some m) f =
    given f (loads m f.members f.last f.followed.configuration f.followed.position)

abbrev pub written_if : Wanted → Bool → Follower → Reached
written_if w wanted f = if wanted then written_to w.machine f else silent f

-- the first ask of a series: of 20
abbrev pub is_again : (asks : ℕ) → Bool
is_again asks = asks % 20 == 0

-- all that is applied is there: it is written where it moved, and behind a guard once the members are known
abbrev pub caught_up : Wanted → (again : Bool) → Follower → Reached
caught_up w again f =
    if w.is_guarded && (f.followed.is_moved || again) then stays (AsksStatus f)
    else written_if w f.followed.is_moved f

-- entries that weren't all: 1,000 lines, or 262,144 bytes
abbrev pub is_more : (from to : ℕ) → List ℕ → Bool
is_more from to body = not (nat_lt (to - from) 1000) || not (nat_lt (length body) 262144)

-- the lines of an answer were taken
abbrev pub after_reply : Wanted → Follower → List ℕ → LinesApplied → Reached
after_reply w f body t =
    let g : Follower = record f { followed = t.followed; asks = f.asks + 1 } in
    if not t.is_whole || is_more f.followed.position t.followed.position body then silent g
    else caught_up w (is_again f.asks) g

-- the node knows of fewer positions than were followed: the log is another
abbrev pub is_behind : (front : Option ℕ) → (position : ℕ) → Bool
is_behind None position = false
is_behind (Some front) position = nat_lt front position

-- after an answer to the question for entries
abbrev pub after_entries : Wanted → Follower → Result Reply AskFault → Reached
after_entries w f (Err fault) = silent (record f { asks = f.asks + 1 })
after_entries w f (Ok reply) = if is_behind reply.front f.followed.position then stays Ended
    else after_reply w f reply.body.items (lines_applied f.followed (lines reply.body.items))

-- two lists name the same members
abbrev pub same_member : Member → Member → Bool
same_member a b = same_addr a.address b.address && (a.port == b.port)

abbrev pub same_members : List Member → List Member → Bool
same_members [] [] = true
same_members [] (b ∷ bs) = false
same_members (a ∷ more) [] = false
same_members (a ∷ more) (b ∷ bs) = same_member a b && same_members more bs

-- the members are known; others than before are let through at once
abbrev pub informed : Wanted → Follower → Option (List Member) → Reached
informed w f None = silent f
informed w f (Some ms) = written_if w (f.followed.is_moved || (not (same_members f.members ms) && f.has_begun))
    (record f { members = ms })

-- after an answer to the question for the status
abbrev pub after_status : Wanted → Follower → Result Reply AskFault → Reached
after_status w f (Err fault) = silent f
after_status w f (Ok reply) = informed w f (members_reported reply.body.items)

-- ---- all answers

-- entries are asked for from where the configuration is
abbrev pub answered_entries : Wanted → Follower → Question → Result Reply AskFault → Option Reached
answered_entries w f Status answer = None
answered_entries w f (Entries from) answer =
    if from == f.followed.position then Some (after_entries w f answer) else None

-- the status is asked for
abbrev pub answered_status : Wanted → Follower → Question → Result Reply AskFault → Option Reached
answered_status w f (Entries from) answer = None
answered_status w f Status answer = Some (after_status w f answer)

-- after one answer; none where something else is asked
abbrev pub after_one : Wanted → Stage → Exchange → Option Reached
after_one w (AsksEntries f) e = answered_entries w f e.question e.answer
after_one w (AsksStatus f) e = answered_status w f e.question e.answer
after_one w Ended e = None

-- behind what was reached before
abbrev pub behind : Reached → Reached → Reached
behind b r = record { stage = r.stage; out = b.out ++ r.out; is_due = b.is_due || r.is_due }

-- after these answers, in their order; none where something else is asked than what the answers before lead to
unfoldable pub after : Wanted → Stage → List Exchange → Option Reached
after w s [] = Some (stays s)
after w s (e ∷ es) = option_and_then (λ r. option_map (behind r) (after w r.stage es)) (after_one w s e)

-- nothing was asked yet
abbrev pub start : Follower
start = record {
  followed = record { configuration = empty; position = 0; is_moved = false };
  members = [];
  last = None;
  has_begun = false;
  asks = 0;
}

-- ---- rulesets for pfctl(8)

-- What a turn does with files that ends so: where what was followed was due, its files are put; else nothing is done,
-- or where one couldn't be written they are put again.
abbrev pub FiledIn : Stage → (is_due : Bool) → (old : Option TextFiles) → List Act → (new : Option TextFiles) → Type 0
FiledIn (AsksEntries f) true old acts new = FilesWritten f.followed.configuration old acts new
FiledIn (AsksEntries f) false old acts new = ((new ≡ old) × (acts ≡ []))
    ⊎ ((are_behind old ≡ true) × FilesWritten f.followed.configuration old acts new)
FiledIn (AsksStatus f) is_due old acts new = (new ≡ old) × (acts ≡ [])
FiledIn Ended is_due old acts new = (new ≡ old) × (acts ≡ [])

-- The turns of a run, one after the other: each turn's answers lead from what was followed to where it ends, and its
-- files are put for that. Given are the answers and the acts of all turns, and the stage and the files after the last.
-- Example: a command is done in the first of two turns: in it the files of its configuration are put.
pub data Filed (w : Wanted) (first : Option TextFiles) : List Exchange → List Act → Stage → Option TextFiles →
    Type 0 where
  NoTurn : Filed w first [] [] (AsksEntries start) first
  Turn : {before : List Exchange} {acts : List Act} {f : Follower} {old new : Option TextFiles}
      (es : List Exchange) (more : List Act) (r : Reached) →
      Filed w first before acts (AsksEntries f) old → after w (AsksEntries f) es ≡ Some r →
      FiledIn r.stage r.is_due old more new → Filed w first (before ++ es) (acts ++ more) r.stage new

-- these answers were given meanwhile, and these acts done
abbrev pub FiledTo : (given now : List Exchange → Type 0) → (done did : List Act → Type 0) → Wanted →
    (first : Option TextFiles) → Stage → (last : Option TextFiles) → Type 0
FiledTo given now done did w first s last = (es : List Exchange) × (acts : List Act) × Adds given now es
    × Adds done did acts × Filed w first es acts s last

-- one turn: these answers were given, and files were put for what they lead to
abbrev pub TurnFiled : (given now : List Exchange → Type 0) → (done did : List Act → Type 0) → Wanted → Follower →
    Stage → (old new : Option TextFiles) → Type 0
TurnFiled given now done did w f t old new = (es : List Exchange) × (r : Reached) × Adds given now es
    × (after w (AsksEntries f) es ≡ Some r) × (r.stage ≡ t)
    × Acted done did (λ acts. FiledIn r.stage r.is_due old acts new)

-- What a turn does with files in which the run ends early: a front of those is put that it would put.
abbrev pub LeftIn : Stage → (is_due : Bool) → (old : Option TextFiles) → List Act → Type 0
LeftIn (AsksEntries f) true old acts = FilesLeft f.followed.configuration old acts
LeftIn (AsksEntries f) false old acts = (acts ≡ [])
    ⊎ ((are_behind old ≡ true) × FilesLeft f.followed.configuration old acts)
LeftIn (AsksStatus f) is_due old acts = acts ≡ []
LeftIn Ended is_due old acts = acts ≡ []

-- one turn in which the run ends early: these answers were given
abbrev pub TurnLeft : (given now : List Exchange → Type 0) → (done did : List Act → Type 0) → Wanted → Follower →
    (old : Option TextFiles) → Type 0
TurnLeft given now done did w f old = (es : List Exchange) × (r : Reached) × Adds given now es
    × (after w (AsksEntries f) es ≡ Some r) × Acted done did (λ acts. LeftIn r.stage r.is_due old acts)

-- turns one after the other, and such a one behind them
abbrev pub LeftTo : (given now : List Exchange → Type 0) → (done did : List Act → Type 0) → Wanted →
    (first : Option TextFiles) → Type 0
LeftTo given now done did w first = (es : List Exchange) × (fs : List Exchange) × (f : Follower) × (r : Reached)
    × (old : Option TextFiles) × (acts : List Act) × (more : List Act) × Adds given now (es ++ fs)
    × Adds done did (acts ++ more) × Filed w first es acts (AsksEntries f) old
    × (after w (AsksEntries f) fs ≡ Some r) × LeftIn r.stage r.is_due old more

-- ---- a run

-- From one stage to another: these answers were given meanwhile, and what they lead to was written.
abbrev pub Went : (given now : List Exchange → Type 0) → Wanted → Stage → Stage → (before written : Option (List ℕ)) →
    Type 0
Went given now w s t before written = (es : List Exchange) × (r : Reached) × Adds given now es
    × (after w s es ≡ Some r) × (r.stage ≡ t) × Appends before written r.out

-- It ended early: of what the answers lead to, a front was written.
abbrev pub Stopped : (given now : List Exchange → Type 0) → Wanted → Stage → (before written : Option (List ℕ)) → Type 0
Stopped given now w s before written = (es : List Exchange) × (r : Reached) × Adds given now es
    × (after w s es ≡ Some r) × AppendsFront before written r.out

-- How a run ends that is to ask for entries so often: after that many asks, or at another log, all is written that the
-- answers lead to, and in each turn the files are put; when out of memory, or the output is closed, a front of that.
abbrev pub Ends : (given now : List Exchange → Type 0) → (done did : List Act → Type 0) → Wanted →
    (files : Option TextFiles) → (turns : ℕ) → Result Unit WriteFault → (before written : Option (List ℕ)) → Type 0
Ends given now done did w files turns (Ok ended) before written = (f : Follower) × (f.asks ≡ turns)
    × Went given now w (AsksEntries start) (AsksEntries f) before written
    × ((last : Option TextFiles) × FiledTo given now done did w files (AsksEntries f) last)
Ends given now done did w files turns (Err fault.Another) before written =
    Went given now w (AsksEntries start) Ended before written
    × ((last : Option TextFiles) × FiledTo given now done did w files Ended last)
Ends given now done did w files turns (Err fault.Memory) before written =
    Stopped given now w (AsksEntries start) before written × LeftTo given now done did w files
Ends given now done did w files turns (Err fault.Closed) before written =
    Stopped given now w (AsksEntries start) before written × LeftTo given now done did w files
