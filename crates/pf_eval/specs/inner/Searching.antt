-- Which candidates a search passes over.
use Rattle.std.specs.Prelude.{◌≡◌, ℕ, ◌≤◌, ◌<◌, true, false, List, length, Some, slice_get}
use Rattle.pf_config.specs.declared.candidate.Candidate.{Candidate}
use Rattle.pf_config.specs.declared.candidate_list.Search.{Search}
use Rattle.pf_config.specs.Searching.{IsSearchOf}
use Rattle.pf_eval.specs.inner.Sieves.{passes}
use Rattle.pf_eval.specs.declared.key.Key.{Key}

-- it is the search among these candidates for what they ask of a packet with this key
abbrev pub IsSearchFor : List Candidate → Key → Search → Type 0
IsSearchFor candidates key s = IsSearchOf candidates key.source key.destination key.destination_port s

-- no sieve from the place a to before b lets the packet pass
abbrev pub Skips : List Candidate → Key → (a b : ℕ) → Type 0
Skips candidates key a b =
    (i : ℕ) → (c : Candidate) → a ≤ i → i < b → slice_get candidates i ≡ Some c → passes c.sieve key ≡ false

-- none from a on does
abbrev pub NonePasses : List Candidate → Key → (a : ℕ) → Type 0
NonePasses candidates key a = Skips candidates key a (length candidates)

-- the first one that does, from a on, is at this place
abbrev pub PassesFirst : List Candidate → Key → (a at : ℕ) → Type 0
PassesFirst candidates key a at =
    (a ≤ at) × (at < length candidates) × Skips candidates key a at
    × ((c : Candidate) → slice_get candidates at ≡ Some c → passes c.sieve key ≡ true)
