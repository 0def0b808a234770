-- What a search for candidates finds.
use Rattle.std.specs.Prelude.{◌≡◌, ℕ, ◌≤◌, ◌<◌, false, List, length, Some, slice_get}
use Rattle.pf_config.specs.declared.candidate.Candidate.{Candidate}
use Rattle.pf_config.specs.declared.candidate_list.Search.{Search}
use Rattle.pf_config.specs.Searches.{may_pass, AreMarked}

-- its rows describe its candidates and numbers
abbrev pub IsSound : Search → Type 0
IsSound s = AreMarked s.list.now s.source s.destination s.destination_port s.row

-- it is the search among these candidates for these numbers
pub record IsSearchOf (candidates : List Candidate) (a b port : ℕ) (s : Search) : Type 0 where
  pub all : s.list.now ≡ candidates
  pub source : s.source ≡ a
  pub destination : s.destination ≡ b
  pub destination_port : s.destination_port ≡ port
  pub sound : IsSound s

-- no candidate from a to before b lets the numbers pass
abbrev pub PassesOver : Search → (a b : ℕ) → Type 0
PassesOver s a b =
    (i : ℕ) → (c : Candidate) → a ≤ i → i < b → slice_get s.list.now i ≡ Some c →
    may_pass s.source s.destination s.destination_port c ≡ false

-- none from a on
abbrev pub FindsNone : Search → (a : ℕ) → Type 0
FindsNone s a = PassesOver s a (length s.list.now)

-- none from a to before this place, where a candidate is
abbrev pub FindsAt : Search → (a at : ℕ) → Type 0
FindsAt s a at = (a ≤ at) × (at < length s.list.now) × PassesOver s a at
