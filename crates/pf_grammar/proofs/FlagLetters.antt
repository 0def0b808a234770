-- Shown flags are read again.
use Rattle.std.proofs.Common.{◌≡◌, ℕ, ◌==◌, ◌||◌, Bool, true, false, List, ◌++◌, length, Some, refl, ◌∙◌, arith}
use Rattle.std.specs.Prelude.{nat_lt}
use Rattle.std.specs.List.{list_all}
use Rattle.std.proofs.lemmas.Bool.Decides.{nat_tests}
use Rattle.pf_rules.specs.declared.flags.TcpFlags.{TcpFlags}
use Rattle.pf_rules.specs.Words.{has, is_letter, flags_with, flags_of}
use Rattle.pf_show.specs.Shown.{letter, letters}

other : (b : Bool) (c x : ℕ) (rest : List ℕ) → (c == x) ≡ false → has x (letter b c ++ rest) ≡ has x rest
other true c x rest apart = rw apart refl
other false c x rest apart = refl

same_byte : (c : ℕ) → (c == c) ≡ true
same_byte c = grind (arith, nat_tests)

or_true : (b : Bool) → (true || b) ≡ true
or_true b = refl

same : (b : Bool) (c : ℕ) (rest : List ℕ) → has c rest ≡ false → has c (letter b c ++ rest) ≡ b
same true c rest none = rw (same_byte c) refl
same false c rest none = none

last_other : (b : Bool) (c x : ℕ) → (c == x) ≡ false → has x (letter b c) ≡ false
last_other true c x apart = rw apart refl
last_other false c x apart = refl

last_same : (b : Bool) (c : ℕ) → has c (letter b c) ≡ b
last_same true c = rw (same_byte c) refl
last_same false c = refl

fin_again : (f : TcpFlags) → has 70 (letters f) ≡ f.fin
fin_again f = same f.fin 70 _ (other f.syn 83 70 _ refl ∙ other f.rst 82 70 _ refl ∙ other f.psh 80 70 _ refl ∙ other f.ack 65 70 _ refl ∙ other f.urg 85 70 _ refl ∙ other f.ece 69 70 _ refl ∙ last_other f.cwr 87 70 refl)

syn_again : (f : TcpFlags) → has 83 (letters f) ≡ f.syn
syn_again f = other f.fin 70 83 _ refl ∙ same f.syn 83 _ (other f.rst 82 83 _ refl ∙ other f.psh 80 83 _ refl ∙ other f.ack 65 83 _ refl ∙ other f.urg 85 83 _ refl ∙ other f.ece 69 83 _ refl ∙ last_other f.cwr 87 83 refl)

rst_again : (f : TcpFlags) → has 82 (letters f) ≡ f.rst
rst_again f = other f.fin 70 82 _ refl ∙ other f.syn 83 82 _ refl ∙ same f.rst 82 _ (other f.psh 80 82 _ refl ∙ other f.ack 65 82 _ refl ∙ other f.urg 85 82 _ refl ∙ other f.ece 69 82 _ refl ∙ last_other f.cwr 87 82 refl)

psh_again : (f : TcpFlags) → has 80 (letters f) ≡ f.psh
psh_again f = other f.fin 70 80 _ refl ∙ other f.syn 83 80 _ refl ∙ other f.rst 82 80 _ refl ∙ same f.psh 80 _ (other f.ack 65 80 _ refl ∙ other f.urg 85 80 _ refl ∙ other f.ece 69 80 _ refl ∙ last_other f.cwr 87 80 refl)

ack_again : (f : TcpFlags) → has 65 (letters f) ≡ f.ack
ack_again f = other f.fin 70 65 _ refl ∙ other f.syn 83 65 _ refl ∙ other f.rst 82 65 _ refl ∙ other f.psh 80 65 _ refl ∙ same f.ack 65 _ (other f.urg 85 65 _ refl ∙ other f.ece 69 65 _ refl ∙ last_other f.cwr 87 65 refl)

urg_again : (f : TcpFlags) → has 85 (letters f) ≡ f.urg
urg_again f = other f.fin 70 85 _ refl ∙ other f.syn 83 85 _ refl ∙ other f.rst 82 85 _ refl ∙ other f.psh 80 85 _ refl ∙ other f.ack 65 85 _ refl ∙ same f.urg 85 _ (other f.ece 69 85 _ refl ∙ last_other f.cwr 87 85 refl)

ece_again : (f : TcpFlags) → has 69 (letters f) ≡ f.ece
ece_again f = other f.fin 70 69 _ refl ∙ other f.syn 83 69 _ refl ∙ other f.rst 82 69 _ refl ∙ other f.psh 80 69 _ refl ∙ other f.ack 65 69 _ refl ∙ other f.urg 85 69 _ refl ∙ same f.ece 69 _ (last_other f.cwr 87 69 refl)

cwr_again : (f : TcpFlags) → has 87 (letters f) ≡ f.cwr
cwr_again f = other f.fin 70 87 _ refl ∙ other f.syn 83 87 _ refl ∙ other f.rst 82 87 _ refl ∙ other f.psh 80 87 _ refl ∙ other f.ack 65 87 _ refl ∙ other f.urg 85 87 _ refl ∙ other f.ece 69 87 _ refl ∙ last_same f.cwr 87

abbrev with_flags : Bool → Bool → Bool → Bool → Bool → Bool → Bool → Bool → TcpFlags
with_flags a b c d e f g h = record { fin = a; syn = b; rst = c; psh = d; ack = e; urg = f; ece = g; cwr = h }

pub flags_with_again : (f : TcpFlags) → flags_with (letters f) ≡ f
flags_with_again f = rw (fin_again f, syn_again f, rst_again f, psh_again f, ack_again f, urg_again f, ece_again f, cwr_again f) refl

more_letters : (b : Bool) (c : ℕ) (rest : List ℕ) → is_letter c ≡ true → list_all is_letter rest ≡ true → list_all is_letter (letter b c ++ rest) ≡ true
more_letters true c rest is all = rw (is, all) refl
more_letters false c rest is all = all

one_letter : (b : Bool) (c : ℕ) → is_letter c ≡ true → list_all is_letter (letter b c) ≡ true
one_letter true c is = rw is refl
one_letter false c is = refl

pub all_letters : (f : TcpFlags) → list_all is_letter (letters f) ≡ true
unfolding is_letter
all_letters f =
    more_letters f.fin 70 _ refl (more_letters f.syn 83 _ refl (more_letters f.rst 82 _ refl (more_letters f.psh 80 _ refl
    (more_letters f.ack 65 _ refl (more_letters f.urg 85 _ refl (more_letters f.ece 69 _ refl (one_letter f.cwr 87 refl)))))))

pub flags_again : (f : TcpFlags) → nat_lt 0 (length (letters f)) ≡ true → flags_of (letters f) ≡ Some f
unfolding flags_of
flags_again f some = rw (some, all_letters f, flags_with_again f) refl
