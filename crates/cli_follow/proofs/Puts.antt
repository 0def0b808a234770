-- What is done with files, one after the other.
use Rattle.std.proofs.Common.{◌≡◌, ℕ, Bool, true, false, List, [], ◌∷◌, ◌++◌, map, refl, sym, subst, append-nil, inl, inr}
use Rattle.std.specs.Prelude.{Result, Ok, Err, OnErr, string_bytes}
use Rattle.std.specs.List.{list_any}
use Rattle.std.proofs.lemmas.List.{map-append}
use Rattle.cli_follow.specs.declared.files.TextFile.{TextFile}
use Rattle.cli_follow.specs.Exchanges.{Adds}
use Rattle.cli_follow.specs.Files.{Act, Wrote, Renamed, Acted, IsPut, PutsUnless, PutsOnce, Puts, NoFile, File, PutsFront, FileValue, file_value, is_there, path_beside, place_of}
use Rattle.cli_follow.proofs.Runs.{adds_nothing, adds_more}

-- ---- one file

-- it couldn't be written
pub put_unwritten : (x y : List Act → Type 0) (folder name text beside : List ℕ) (wrote put : Bool) → beside ≡ path_beside folder name → wrote ≡ false → put ≡ false →
    Adds x y (Wrote beside text wrote ∷ []) → Acted x y (λ acts. IsPut folder name text acts put)
put_unwritten x y folder name text beside wrote put at failed is h = (Wrote beside text wrote ∷ [], (h, inl (cc, is)))

-- it was, and was to be renamed
pub put_written : (x y z : List Act → Type 0) (folder name text beside from place : List ℕ) (wrote renamed put : Bool) → beside ≡ path_beside folder name → from ≡ path_beside folder name →
    place ≡ place_of folder name → wrote ≡ true → put ≡ renamed → Adds x y (Wrote beside text wrote ∷ []) → Adds y z (Renamed from place renamed ∷ []) →
    Acted x z (λ acts. IsPut folder name text acts put)
put_written x y z folder name text beside from place wrote renamed put at again to fine is p q =
    (Wrote beside text wrote ∷ Renamed from place renamed ∷ [], (adds_more x y z (Wrote beside text wrote ∷ []) (Renamed from place renamed ∷ []) p q, inr cc))

there_if : (b : Bool) (folder name text : List ℕ) → b ≡ true → PutsUnless b folder name text [] true
there_if true folder name text e = (refl, refl)
there_if false folder name text e = absurd cc

put_if : (b : Bool) (folder name text : List ℕ) (acts : List Act) (put : Bool) → b ≡ false → IsPut folder name text acts put → PutsUnless b folder name text acts put
put_if true folder name text acts put e h = absurd cc
put_if false folder name text acts put e h = h

-- it is there
pub already_there : (x : List Act → Type 0) (folder : List ℕ) (old : List TextFile) (name text : List ℕ) → list_any (is_there name text) old ≡ true → Acted x x (λ acts. PutsOnce folder old name text acts true)
already_there x folder old name text e = ([], (adds_nothing x, there_if (list_any (is_there name text) old) folder name text e))

-- it isn't, and is put
pub put_there : (x y : List Act → Type 0) (folder : List ℕ) (old : List TextFile) (name text : List ℕ) (put : Bool) → list_any (is_there name text) old ≡ false →
    Acted x y (λ acts. IsPut folder name text acts put) → Acted x y (λ acts. PutsOnce folder old name text acts put)
put_there x y folder old name text put e (acts, (adds, h)) = (acts, (adds, put_if (list_any (is_there name text) old) folder name text acts put e h))

-- ---- one after the other

pub on_err : {T E : Type 0} (r : Result T E) (P : Type 0) → P → OnErr r P
on_err (Ok v) P h = tt
on_err (Err e) P h = h

pub puts_none : (x : List Act → Type 0) (folder : List ℕ) (old fs : List TextFile) → fs ≡ [] → Acted x x (λ acts. Puts folder old (map file_value fs) acts fs)
puts_none x folder old fs e = subst (λ (all : List TextFile). Acted x x (λ acts. Puts folder old (map file_value all) acts all)) (sym e) ([], (adds_nothing x, NoFile))

-- one more
pub puts_more : (x y z : List Act → Type 0) (folder : List ℕ) (old fs after : List TextFile) (f : TextFile) (name text : List ℕ) → name ≡ string_bytes f.name → text ≡ string_bytes f.text →
    after ≡ fs ++ f ∷ [] → Acted x y (λ acts. Puts folder old (map file_value fs) acts fs) → Acted y z (λ acts. PutsOnce folder old name text acts f.is_put) →
    Acted x z (λ acts. Puts folder old (map file_value after) acts after)
puts_more x y z folder old fs after f name text n t pushed (acts, (p, puts)) (more, (q, held)) =
    let here : PutsOnce folder old (string_bytes f.name) (string_bytes f.text) more f.is_put =
    subst (λ (b : List ℕ). PutsOnce folder old (string_bytes f.name) b more f.is_put) t (subst (λ (b : List ℕ). PutsOnce folder old b text more f.is_put) n held) in
    let all : Puts folder old (map file_value (fs ++ f ∷ [])) (acts ++ more) (fs ++ f ∷ []) =
    subst (λ (vs : List FileValue). Puts folder old vs (acts ++ more) (fs ++ f ∷ [])) (sym (map-append file_value fs (f ∷ []))) (File f more puts here) in
    (acts ++ more, (adds_more x y z acts more p q, subst (λ (all : List TextFile). Puts folder old (map file_value all) (acts ++ more) all) (sym pushed) all))

-- these are a front of all
pub puts_front : (x y z : List Act → Type 0) (folder : List ℕ) (old fs : List TextFile) (rest all : List FileValue) → map file_value fs ++ rest ≡ all →
    Acted x y (λ acts. Puts folder old (map file_value fs) acts fs) → Adds y z [] → Acted x z (λ acts. PutsFront folder old all acts)
puts_front x y z folder old fs rest all e (acts, (p, puts)) q =
    (acts ++ [], (adds_more x y z acts [] p q, (map file_value fs, rest, fs, sym e, subst (λ (them : List Act). Puts folder old (map file_value fs) them fs) (sym (append-nil acts)) puts)))

-- none of them is there yet
pub front_none : (x : List Act → Type 0) (folder : List ℕ) (old : List TextFile) (all : List FileValue) → Acted x x (λ acts. PutsFront folder old all acts)
front_none x folder old all = ([], (adds_nothing x, ([], all, [], refl, NoFile)))

-- all are
pub front_all : (x y : List Act → Type 0) (folder : List ℕ) (old : List TextFile) (files all : List FileValue) → files ≡ all → Acted x y (λ acts. PutsFront folder old files acts) →
    Acted x y (λ acts. PutsFront folder old all acts)
front_all x y folder old files all e h = subst (λ (vs : List FileValue). Acted x y (λ acts. PutsFront folder old vs acts)) e h
