-- The line of shown addresses is read as the members at these.
use Rattle.std.proofs.Common.{◌≡◌, ◌∙◌, ℕ, ◌<◌, ◌≤◌, true, false, List, [], ◌∷◌, ◌++◌, length, map, get_or, Option, Some, refl, ap, arith, codes}
use Rattle.std.specs.Prelude.{decimal, nat_lt, option_and_then}
use Rattle.std.specs.Char.{is_ascii_graphic}
use Rattle.std.specs.List.{AllByRecursion, list_all}
use Rattle.std.specs.Str.{is_utf8}
use Rattle.std.proofs.lemmas.Bool.Decides.{nat_tests}
use Rattle.std.proofs.lemmas.List.{length-map}
use Rattle.std.proofs.lemmas.List.Sums.{AllPass-from_list_all}
use Rattle.std.proofs.lemmas.Str.{IsUtf8-from_ascii, is_utf8-from_IsUtf8}
use Rattle.std.proofs.lemmas.Str.Ascii.{IsAscii-from_all}
use Rattle.pf_addr.specs.Blocks.{FitsAddr}
use Rattle.node_udp.specs.declared.address.Address.{Address}
use Rattle.node_udp.specs.Addresses.{address_of, shown_address, shown_ip}
use Rattle.pf_scripts.specs.Lines.{lines, words_in, words_if}
use Rattle.cli_nft.specs.Options.{member_at, members_at, members_in}
use Rattle.cli_follow.specs.Members.{texts_on, members_or, members_among, members_reported, IsAddress, members_line, AreRead}
use Rattle.cli_follow.proofs.WordsRead.{is_graphic, line_read, words_read}

-- ---- what the laws below say

abbrev pub Reads : Type 0
Reads = (a : Address) → FitsAddr a.ip → 1 ≤ a.port → a.port ≤ 65535 → address_of (shown_address a) ≡ Some a

abbrev pub Graphic : Type 0
Graphic = (a : Address) → FitsAddr a.ip → a.port ≤ 65535 → list_all is_ascii_graphic (shown_address a) ≡ true

-- ---- the parts of a line

ascii : (b : ℕ) → is_ascii_graphic b ≡ true → b < 128
ascii b h = grind (arith, nat_tests, h)

utf8 : (text : List ℕ) → list_all is_ascii_graphic text ≡ true → is_utf8 text ≡ true
utf8 text h = is_utf8-from_IsUtf8 text (IsUtf8-from_ascii text (IsAscii-from_all text (λ k d small. ascii (get_or text k d) (AllPass-from_list_all is_ascii_graphic text h k d small))))

-- strings with a byte between them
graphic : (front : List ℕ) (b : ℕ) (rest : List ℕ) → list_all is_ascii_graphic (front ++ b ∷ rest) ≡ true → is_graphic (front ++ b ∷ rest) ≡ true
graphic [] b rest h = h
graphic (c ∷ front) b rest h = h

all_graphic : Graphic → (ends : List Address) → AllByRecursion IsAddress ends → list_all is_graphic (map shown_address ends) ≡ true
all_graphic word [] fit = refl
all_graphic word (a ∷ ends) fit =
    rw (graphic (shown_ip a.ip) 58 (decimal a.port) (word a fit.0.0 fit.0.2), all_graphic word ends fit.1) refl

all_utf8 : Graphic → (ends : List Address) → AllByRecursion IsAddress ends → list_all is_utf8 (map shown_address ends) ≡ true
all_utf8 word [] fit = refl
all_utf8 word (a ∷ ends) fit = rw (utf8 (shown_address a) (word a fit.0.0 fit.0.2), all_utf8 word ends fit.1) refl

-- ---- members

all_members : Reads → (ends : List Address) → AllByRecursion IsAddress ends → members_at (map shown_address ends) ≡ Some (map member_at ends)
all_members reads [] fit = refl
all_members reads (a ∷ ends) fit = rw (reads a fit.0.0 fit.0.1 fit.0.2, all_members reads ends fit.1) refl

not_more : (m n : ℕ) → n ≤ m → nat_lt m n ≡ false
not_more m n h = grind (arith, nat_tests, h)

members_of : Reads → (ends : List Address) → AllByRecursion IsAddress ends → length ends ≤ 15 → members_in (map shown_address ends) ≡ Some (map member_at ends)
unfolding members_in
members_of reads ends fit few = rw (length-map ends shown_address, not_more 15 (length ends) few) (all_members reads ends fit)

-- ---- the line

abbrev member_words : List Address → List (List ℕ)
member_words ends = codes "members" ∷ map shown_address ends

graphic_words : Graphic → (ends : List Address) → AllByRecursion IsAddress ends → list_all is_graphic (member_words ends) ≡ true
graphic_words word ends fit = rw (all_graphic word ends fit) refl

words_of : Graphic → (ends : List Address) → AllByRecursion IsAddress ends → words_in (members_line ends) ≡ Some (member_words ends)
unfolding words_in
words_of word ends fit =
    ap words_if (words_read (member_words ends) (graphic_words word ends fit)) ∙ rw (utf8 (codes "members") refl, all_utf8 word ends fit) refl

texts_of : (ends : List Address) → 1 ≤ length ends → texts_on (member_words ends) ≡ Some (map shown_address ends)
texts_of [] some = absurd (omega (arith, some))
texts_of (a ∷ ends) some = refl

pub are_read : Reads → Graphic → (ends : List Address) → AreRead ends
unfolding members_reported
are_read reads word ends fit some few text =
    ap members_among (line_read (member_words ends) text (graphic_words word ends fit))
    ∙ ap (λ (o : Option (List (List ℕ))). members_or (option_and_then texts_on o) (members_among (lines text))) (words_of word ends fit)
    ∙ ap (λ (o : Option (List (List ℕ))). members_or o (members_among (lines text))) (texts_of ends some)
    ∙ members_of reads ends fit few
