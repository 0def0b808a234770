-- A command's bytes with an origin and a number spell an entry, and an entry's bytes are its command's with them.
use Rattle.std.proofs.Common.{◌≡◌, ℕ, zero, suc, ◌^◌, ◌<◌, true, ltb, List, [], ◌∷◌, ◌++◌, length, drop, Option, Some, None, refl, sym, ap, subst, ◌∙◌, arith}
use Rattle.std.specs.Prelude.{IsTrue, is_some, nat_lt}
use Rattle.std.specs.List.{list_all}
use Rattle.std.proofs.lemmas.Bool.{ltb-true, lt-ltb}
use Rattle.pf_entry.specs.Entry as entries
use Rattle.pf_entry.specs.Entry.{EntryBytes, is_origin}
use Rattle.pf_entry.specs.Reading.{reading}
use Rattle.pf_entry.proofs.Takes.{IsBytes, IsBytes-rest, both_true, and_true}
use Rattle.pf_entry.proofs.Whole.{reading_takes, reading_again}
use Rattle.px_wire.specs.Message.{Lent, IsSpelling}
use Rattle.px_model.specs.Spelling.{command_in, spelled}
use Rattle.px_wire.specs.Sent.{asked_by, is_command}

-- ---- bytes as a test

pub all_bytes : (bytes : List ℕ) → list_all (λ b. nat_lt b 256) bytes ≡ true → IsBytes bytes
all_bytes [] h i = omega arith
all_bytes (b ∷ more) h zero = ltb-true b 256 (both_true (ltb b 256) (list_all (λ b. nat_lt b 256) more) h).0
all_bytes (b ∷ more) h (suc i) = all_bytes more (both_true (ltb b 256) (list_all (λ b. nat_lt b 256) more) h).1 i

pub bytes_all : (bytes : List ℕ) → IsBytes bytes → list_all (λ b. nat_lt b 256) bytes ≡ true
bytes_all [] h = refl
bytes_all (b ∷ more) h = and_true (ltb b 256) (list_all (λ b. nat_lt b 256) more) (lt-ltb b 256 (h 0)) (bytes_all more (IsBytes-rest b more h))

first_is_byte : (b : ℕ) (more : List ℕ) → IsBytes (b ∷ more) → (more' : List ℕ) → IsBytes more' → IsBytes (b ∷ more')
first_is_byte b more h more' h' zero = h 0
first_is_byte b more h more' h' (suc i) = h' i

zero_first : (more : List ℕ) → IsBytes more → IsBytes (0 ∷ more)
zero_first more h zero = omega arith
zero_first more h (suc i) = h i

-- ---- from a command to its entries

some_there : {A : Type 0} (r : Option A) → is_some r ≡ true → (x : A) × (r ≡ Some x)
some_there None h = absurd cc
some_there (Some x) h = (x, refl)

-- what follows the number of an entry
abbrev late : entries.Entry → List ℕ
late e = (entries.kind e.command ∷ entries.path (entries.path_of e.command)) ++ entries.rest e.command

cons_parts : (a b : ℕ) (s t : List ℕ) → (a ∷ s) ≡ (b ∷ t) → (a ≡ b) × (s ≡ t)
cons_parts a b s t e = (cc, cc)

-- a command has a byte
none_empty : is_command [] ≡ true → ⊥
unfolding is_command command_in spelled
none_empty h =
    let p = both_true true (is_some (reading (asked_by 0 0 []))) h in
    let r = some_there (reading (asked_by 0 0 [])) p.1 in
    let nine : IsBytes (asked_by 0 0 []) = all_bytes (asked_by 0 0 []) refl in
    let spelled = reading_takes (asked_by 0 0 []) r.0 nine r.1 in
    let size : 9 ≡ length (entries.spelling r.0) = ap length spelled.spelled in
    absurd (omega (arith, size))

-- with origin and number it is still found
pub command_back : (o k : ℕ) (command : List ℕ) → is_command command ≡ true → command_in (asked_by o k command) ≡ command
unfolding command_in spelled
command_back o k [] h = absurd (none_empty h)
command_back o k (f ∷ rest) h = refl

pub asked_spells : (o k : ℕ) (command : List ℕ) → is_command command ≡ true → IsTrue (is_origin o) → k < 2 ^ 48 → IsSpelling (record { origin = o; number = k; bytes = asked_by o k command })
unfolding is_command command_in spelled
asked_spells o k [] h origin number = absurd (none_empty h)
asked_spells o k (f ∷ rest) h origin number =
    let p = both_true (list_all (λ b. nat_lt b 256) (f ∷ rest)) (is_some (reading (asked_by 0 0 (f ∷ rest)))) h in
    let r = some_there (reading (asked_by 0 0 (f ∷ rest))) p.1 in
    let fits : IsBytes (f ∷ rest) = all_bytes (f ∷ rest) p.0 in
    let later : IsBytes rest = IsBytes-rest f rest fits in
    let z1 : IsBytes (0 ∷ rest) = zero_first rest later in
    let z2 : IsBytes (0 ∷ 0 ∷ rest) = zero_first (0 ∷ rest) z1 in
    let z3 : IsBytes (0 ∷ 0 ∷ 0 ∷ rest) = zero_first (0 ∷ 0 ∷ rest) z2 in
    let z4 : IsBytes (0 ∷ 0 ∷ 0 ∷ 0 ∷ rest) = zero_first (0 ∷ 0 ∷ 0 ∷ rest) z3 in
    let z5 : IsBytes (0 ∷ 0 ∷ 0 ∷ 0 ∷ 0 ∷ rest) = zero_first (0 ∷ 0 ∷ 0 ∷ 0 ∷ rest) z4 in
    let z6 : IsBytes (0 ∷ 0 ∷ 0 ∷ 0 ∷ 0 ∷ 0 ∷ rest) = zero_first (0 ∷ 0 ∷ 0 ∷ 0 ∷ 0 ∷ rest) z5 in
    let z7 : IsBytes (0 ∷ 0 ∷ 0 ∷ 0 ∷ 0 ∷ 0 ∷ 0 ∷ rest) = zero_first (0 ∷ 0 ∷ 0 ∷ 0 ∷ 0 ∷ 0 ∷ rest) z6 in
    let z8 : IsBytes (0 ∷ 0 ∷ 0 ∷ 0 ∷ 0 ∷ 0 ∷ 0 ∷ 0 ∷ rest) = zero_first (0 ∷ 0 ∷ 0 ∷ 0 ∷ 0 ∷ 0 ∷ 0 ∷ rest) z7 in
    let z9 : IsBytes (0 ∷ 0 ∷ 0 ∷ 0 ∷ 0 ∷ 0 ∷ 0 ∷ 0 ∷ 0 ∷ rest) = zero_first (0 ∷ 0 ∷ 0 ∷ 0 ∷ 0 ∷ 0 ∷ 0 ∷ 0 ∷ rest) z8 in
    let all : IsBytes (asked_by 0 0 (f ∷ rest)) = first_is_byte f rest fits (0 ∷ 0 ∷ 0 ∷ 0 ∷ 0 ∷ 0 ∷ 0 ∷ 0 ∷ 0 ∷ rest) z9 in
    let e : entries.Entry = r.0 in
    let is : EntryBytes e (asked_by 0 0 (f ∷ rest)) = reading_takes (asked_by 0 0 (f ∷ rest)) e all r.1 in
    let front : f ≡ entries.format e.command = (cons_parts f (entries.format e.command) (drop 1 (asked_by 0 0 (f ∷ rest))) (drop 1 (entries.spelling e)) is.spelled).0 in
    let tail : rest ≡ late e = ap (drop 10) is.spelled in
    let new : entries.Entry = record { origin = o; number = k; command = e.command } in
    let text : asked_by o k (f ∷ rest) ≡ entries.spelling new = ap (λ (b : ℕ). asked_by o k (b ∷ rest)) front ∙ ap (λ (t : List ℕ). asked_by o k (entries.format e.command ∷ t)) tail in
    record {
      entry = new;
      spelled = record { fits = record { origin = origin; number = number; names = is.fits.names; rest = is.fits.rest; whole = is.fits.whole }; spelled = text };
      origin = refl;
      number = refl;
    }

-- ---- from an entry to its command

pub command_of_spelling : (x : Lent) → IsBytes x.bytes → IsSpelling x → (is_command (command_in x.bytes) ≡ true) × (x.bytes ≡ asked_by x.origin x.number (command_in x.bytes))
unfolding is_command command_in spelled
command_of_spelling x fits is =
    let e : entries.Entry = is.entry in
    let text : x.bytes ≡ entries.spelling e = is.spelled.spelled in
    let c : List ℕ = entries.format e.command ∷ late e in
    let command_is : command_in x.bytes ≡ c = ap command_in text in
    let fits' : IsBytes (entries.spelling e) = subst IsBytes text fits in
    let small : IsBytes c = first_is_byte (entries.format e.command) (drop 1 (entries.spelling e)) fits' (late e) (λ i. fits' (suc (suc (suc (suc (suc (suc (suc (suc (suc (suc i))))))))))) in
    let first : entries.Entry = record { origin = 0; number = 0; command = e.command } in
    let read : reading (entries.spelling first) ≡ Some first = reading_again first (record { origin = refl; number = omega arith; names = is.spelled.fits.names; rest = is.spelled.fits.rest; whole = is.spelled.fits.whole }) in
    let there : is_some (reading (asked_by 0 0 c)) ≡ true = ap is_some read in
    let yes : is_command c ≡ true = and_true (list_all (λ b. nat_lt b 256) c) (is_some (reading (asked_by 0 0 c))) (bytes_all c small) there in
    let whole : x.bytes ≡ asked_by e.origin e.number c = text in
    (ap is_command command_is ∙ yes, whole ∙ ap (λ (o : ℕ). asked_by o e.number c) is.origin ∙ ap (λ (k : ℕ). asked_by x.origin k c) is.number ∙ ap (asked_by x.origin x.number) (sym command_is))
