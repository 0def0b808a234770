-- Requests one after the other.
use Rattle.std.proofs.Common.{◌≡◌, ◌∙◌, ℕ, ◌+◌, Bool, true, false, List, [], ◌∷◌, ◌++◌, length, not, Option, Some, None, Result, Ok, Err, refl, sym, ap, subst, append_assoc, append-nil, inl, inr}
use Rattle.std.specs.Prelude.{◌&&◌, if◌then◌else◌, is_ok}
use Rattle.std.specs.List.{list_all, flat_map}
use Rattle.std.proofs.lemmas.Bool.{and_from, and_parts, or_parts}
use Rattle.std.proofs.lemmas.List.{length_push}
use Rattle.cli_ask.specs.Calls.{Request}
use Rattle.cli_ask.specs.Replies.{Answer}
use Rattle.cli_ask.specs.Asking.{Answered, Event, Asked, Looked, Adds, asked_again, answer_value, is_open, is_last, ends_answered, in_time, OrMemory, SeriesEnds, IsSeries, IsAsked, IsFollowedBy}
use Rattle.cli_ask.specs.Asking.{IsAskedAs, AskedOn, FollowedUp, AskedVerdicts, accepted, is_command, number_after, outcome_call, outcome_of}
use Rattle.cli_ask.specs.declared.call.Kind.{Kind}
use Rattle.cli_ask.specs.declared.call.Kind.TheVariants as kind
use Rattle.cli_ask.specs.declared.exchange.AskFault.{AskFault}
use Rattle.cli_ask.specs.declared.exchange.AskFault.TheVariants as fault
use Rattle.cli_ask.specs.declared.exchange.Reply.{Reply}

-- ---- lists

pub adds_more : (x y z : List Event → Type 0) (es fs : List Event) → Adds x y es → Adds y z fs → Adds x z (es ++ fs)
adds_more x y z es fs p q = λ ds h. subst z (append_assoc ds es fs) (q (ds ++ es) (p ds h))

pub adds_nothing : (x : List Event → Type 0) → Adds x x []
adds_nothing x = λ ds h. subst x (sym (append-nil ds)) h

again_more : (limit : ℕ) (r : Request) (before : List Answered) (last : Answered) →
    flat_map (asked_again limit r) (before ++ last ∷ []) ≡ flat_map (asked_again limit r) before ++ asked_again limit r last
again_more limit r [] last = refl
again_more limit r (a ∷ before) last = ap (λ (es : List Event). Asked limit r a ∷ Looked limit false ∷ es) (again_more limit r before last)

all_more : (r : Request) (before : List Answered) (last : Answered) → list_all (is_open r) before ≡ true → is_open r last ≡ true → list_all (is_open r) (before ++ last ∷ []) ≡ true
all_more r [] last h e = and_from (is_open r last) true e refl
all_more r (a ∷ before) last h e =
    let p = and_parts (is_open r a) (list_all (is_open r) before) h in
    and_from (is_open r a) (list_all (is_open r) (before ++ last ∷ [])) p.0 (all_more r before last p.1 e)

ends_more : (before : List Answered) (last : Answered) → ends_answered (before ++ last ∷ []) ≡ is_ok last
ends_more [] (Ok a) = refl
ends_more [] (Err f) = refl
ends_more (a ∷ []) (Ok b) = refl
ends_more (a ∷ []) (Err f) = refl
ends_more (a ∷ b ∷ before) last = ends_more (b ∷ before) last

pub ok_value : (r : Result Reply AskFault) → is_ok r ≡ is_ok (answer_value r)
ok_value (Ok reply) = refl
ok_value (Err f) = refl

true_not : (b : Bool) → not b ≡ false → b ≡ true
true_not true e = refl
true_not false e = cc

-- ---- one request

-- it was made that often, and each answer so far leaves it open
pub record OpenSo (r : Request) (once waits : Bool) (count : ℕ) (before : List Answered) : Type 0 where
  pub asks_again : list_all (is_open r) before ≡ true
  pub single : once ≡ true → before ≡ []
  pub waits_is : waits ≡ ends_answered before
  pub many : length before ≡ count

abbrev pub AskedSo : (given now : List Event → Type 0) → Request → (once : Bool) → (limit : ℕ) → (waits : Bool) → (count : ℕ) → Type 0
AskedSo given now r once limit waits count =
    (before : List Answered) × (Adds given now (flat_map (asked_again limit r) before) × OpenSo r once waits count before)

pub asked_never : (x : List Event → Type 0) (r : Request) (once : Bool) (limit : ℕ) → AskedSo x x r once limit false 0
asked_never x r once limit = ([], (adds_nothing x, record { asks_again = refl; single = λ e. refl; waits_is = refl; many = refl }))

pub asked_more : (x y m z : List Event → Type 0) (r : Request) (once : Bool) (limit : ℕ) (waits waits_now : Bool) (count : ℕ) (last : Answered) →
    AskedSo x y r once limit waits count → Adds y m (Asked limit r last ∷ []) → Adds m z (Looked limit false ∷ []) →
    is_last r once last ≡ false → waits_now ≡ is_ok last → AskedSo x z r once limit waits_now (count + 1)
asked_more x y m z r once limit waits waits_now count last (before, (adds, so)) made looked left w =
    let p = or_parts once (not (is_open r last)) left in (
      before ++ last ∷ [],
      (
        subst (λ (es : List Event). Adds x z es) (sym (again_more limit r before last))
            (adds_more x y z (flat_map (asked_again limit r) before) (asked_again limit r last) adds
            (adds_more y m z (Asked limit r last ∷ []) (Looked limit false ∷ []) made looked)),
        record {
          asks_again = all_more r before last so.asks_again (true_not (is_open r last) p.1);
          single = λ e. let other = p.0 in absurd cc;
          waits_is = w ∙ sym (ends_more before last);
          many = length_push before last ∙ ap (λ (n : ℕ). n + 1) so.many;
        },
      ),
    )

pub ended : (x y z : List Event → Type 0) (r : Request) (once : Bool) (limit : ℕ) (waits : Bool) (count : ℕ) (last : Answered) (looks : List Event) (answer : Answered) →
    AskedSo x y r once limit waits count → Adds y z (Asked limit r last ∷ looks) →
    ((before : List Answered) → waits ≡ ends_answered before → length before ≡ count → SeriesEnds r once limit before last looks answer) →
    AskedOn x z r once limit answer
ended x y z r once limit waits count last looks answer (before, (adds, so)) more ends = (
  flat_map (asked_again limit r) before ++ Asked limit r last ∷ looks,
  (
    adds_more x y z (flat_map (asked_again limit r) before) (Asked limit r last ∷ looks) adds more,
    record {
      before = before;
      last = last;
      looks = looks;
      are = refl;
      asks_again = so.asks_again;
      single = so.single;
      ends = ends before so.waits_is so.many;
    },
  ),
)

-- it was answered, or is made once
pub ended_answered : (x y z : List Event → Type 0) (r : Request) (once : Bool) (limit : ℕ) (waits : Bool) (count : ℕ) (last : Answered) →
    AskedSo x y r once limit waits count → Adds y z (Asked limit r last ∷ []) → is_last r once last ≡ true → AskedOn x z r once limit last
ended_answered x y z r once limit waits count last so more e =
    ended x y z r once limit waits count last [] last so more (λ before w m. inl (refl, (refl, e)))

-- the time is over
pub ended_over : (x y m z : List Event → Type 0) (r : Request) (once : Bool) (limit : ℕ) (waits : Bool) (count : ℕ) (last answer : Answered) →
    AskedSo x y r once limit waits count → Adds y m (Asked limit r last ∷ []) → Adds m z (Looked limit true ∷ []) → is_last r once last ≡ false →
    OrMemory (in_time waits last) answer → AskedOn x z r once limit answer
ended_over x y m z r once limit waits count last answer so made looked e is =
    ended x y z r once limit waits count last (Looked limit true ∷ []) answer so (adds_more y m z (Asked limit r last ∷ []) (Looked limit true ∷ []) made looked)
    (λ before w n. inr (inl (refl, (e, subst (λ (b : Bool). OrMemory (in_time b last) answer) w is))))

-- the last request of all
pub ended_at_last : (x y z : List Event → Type 0) (r : Request) (once : Bool) (limit : ℕ) (waits : Bool) (count : ℕ) (last : Answered) →
    AskedSo x y r once limit waits count → Adds y z (Asked limit r last ∷ []) → count ≡ 18446744073709551615 → AskedOn x z r once limit last
ended_at_last x y z r once limit waits count last so more e =
    ended x y z r once limit waits count last [] last so more (λ before w n. inr (inr (refl, (refl, n ∙ e))))

-- ---- what follows

abbrev pub FollowedBy : (given now : List Event → Type 0) → Option (List ℕ) → Kind → (limit : ℕ) → Answer → Answered → Type 0
FollowedBy given now number k limit first answer = (es : List Event) × (Adds given now es × IsFollowedBy number k limit first es answer)

pub by_nothing : (x : List Event → Type 0) (n : Option (List ℕ)) (k : Kind) (limit : ℕ) (first : Answer) (answer : Answered) → n ≡ None → answer ≡ Ok first →
    FollowedBy x x n k limit first answer
by_nothing x n k limit first answer none is =
    subst (λ (o : Option (List ℕ)). FollowedBy x x o k limit first answer) (sym none) ([], (adds_nothing x, (refl, is)))

pub by_no_memory : (x : List Event → Type 0) (n : Option (List ℕ)) (number : List ℕ) (k : Kind) (limit : ℕ) (first : Answer) (answer : Answered) → n ≡ Some number →
    answer ≡ Err fault.Memory → FollowedBy x x n k limit first answer
by_no_memory x n number k limit first answer some is =
    subst (λ (o : Option (List ℕ)). FollowedBy x x o k limit first answer) (sym some) ([], (adds_nothing x, inl (refl, is)))

pub by_outcome : (x y : List Event → Type 0) (n : Option (List ℕ)) (number : List ℕ) (k : Kind) (limit : ℕ) (first : Answer) (r : Request) (second answer : Answered) →
    n ≡ Some number → r ≡ outcome_call number → AskedOn x y r false limit second → OrMemory (outcome_of k first second) answer → FollowedBy x y n k limit first answer
by_outcome x y n number k limit first r second answer some same (es, (adds, series)) is =
    subst (λ (o : Option (List ℕ)). FollowedBy x y o k limit first answer) (sym some)
    (es, (adds, inr (second, subst (λ (q : Request). IsSeries q false limit es second) same series, is)))

-- ---- any request

abbrev pub AskedAs : (given now : List Event → Type 0) → Request → (once : Bool) → (limit : ℕ) → Answered → Type 0
AskedAs given now r once limit answer = (es : List Event) × (Adds given now es × IsAskedAs r.kind r once limit es answer)

any_kind : (k : Kind) (r : Request) (once : Bool) (limit : ℕ) (es : List Event) (answer : Answered) → (k ≡ kind.Test → ⊥) → IsAsked r once limit es answer →
    IsAskedAs k r once limit es answer
any_kind kind.Read r once limit es answer other h = h
any_kind kind.List r once limit es answer other h = h
any_kind kind.TableTest r once limit es answer other h = h
any_kind kind.Test r once limit es answer other h = absurd (other refl)
any_kind kind.Sync r once limit es answer other h = h
any_kind kind.Change r once limit es answer other h = h

pub at_verdicts : (x y : List Event → Type 0) (r : Request) (once : Bool) (limit : ℕ) (answer : Answered) → r.kind ≡ kind.Test →
    AskedVerdicts x y r once limit answer → AskedAs x y r once limit answer
at_verdicts x y r once limit answer test (es, (adds, verdicts)) =
    (es, (adds, subst (λ (k : Kind). IsAskedAs k r once limit es answer) (sym test) verdicts))

pub at_fault : (x y : List Event → Type 0) (r : Request) (once : Bool) (limit : ℕ) (f : AskFault) → (r.kind ≡ kind.Test → ⊥) → AskedOn x y r once limit (Err f) →
    AskedAs x y r once limit (Err f)
at_fault x y r once limit f other (es, (adds, series)) = (
  es,
  (
    adds,
    any_kind r.kind r once limit es (Err f) other (record {
      front = es;
      rest = [];
      first = Err f;
      are = sym (append-nil es);
      series = series;
      follows = (refl, refl);
    }),
  ),
)

pub at_last : (x y z : List Event → Type 0) (r : Request) (once : Bool) (limit : ℕ) (first : Answer) (answer : Answered) → (r.kind ≡ kind.Test → ⊥) →
    AskedOn x y r once limit (Ok first) → FollowedUp y z r.kind once limit first answer → AskedAs x z r once limit answer
at_last x y z r once limit first answer other (es, (adds, series)) (fs, (more, follows)) = (
  es ++ fs,
  (
    adds_more x y z es fs adds more,
    any_kind r.kind r once limit (es ++ fs) answer other (record {
      front = es;
      rest = fs;
      first = Ok first;
      are = refl;
      series = series;
      follows = follows;
    }),
  ),
)

-- only where more than one request is made it is asked what became of it
none_once : (b : Bool) (o : Option (List ℕ)) → (if b && false then o else None) ≡ None
none_once true o = refl
none_once false o = refl

pub number_once : (k : Kind) (once : Bool) (body number : List ℕ) → number_after k once body ≡ Some number → once ≡ false
number_once k false body number e = refl
number_once k true body number e = let none : None ≡ Some number = sym (none_once (is_command k) (accepted body)) ∙ e in absurd cc
