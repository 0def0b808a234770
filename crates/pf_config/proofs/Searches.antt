-- What the rows pass over doesn't let the numbers pass.
use Rattle.std.proofs.Common.{◌≡◌, ℕ, false, ◌&&◌, List, map, Some, ◌∙◌, ap}
use Rattle.std.specs.Prelude.{slice_get, option_map}
use Rattle.std.proofs.lemmas.Bool.{and_parts, false_from_ne_true}
use Rattle.std.proofs.lemmas.Option.{slice_get-map}
use Rattle.pf_tables.specs.declared.row.Row.{Row}
use Rattle.pf_tables.specs.Intervals.{is_within}
use Rattle.pf_tables.specs.Rows.{Marks, HasPlace}
use Rattle.pf_config.specs.declared.candidate.Candidate.{Candidate}
use Rattle.pf_config.specs.Searches.{source_of, destination_of, port_of, may_pass}

pub not_held : (list : List Candidate) (s d p : ℕ) (r : Row) → Marks (map source_of list) s r.source.now → Marks (map destination_of list) d r.destination.now → Marks (map port_of list) p r.destination_port.now →
    (i : ℕ) (c : Candidate) → slice_get list i ≡ Some c → (HasPlace r i → ⊥) → may_pass s d p c ≡ false
not_held list s d p r source destination port i c at none = false_from_ne_true (may_pass s d p c) (λ h.
    let two = and_parts (is_within c.sieve.destination d && is_within c.sieve.source s) (is_within c.sieve.destination_port p) h in
    let one = and_parts (is_within c.sieve.destination d) (is_within c.sieve.source s) two.0 in
    none (
      source i c.sieve.source (slice_get-map source_of list i ∙ ap (option_map source_of) at) one.1,
      destination i c.sieve.destination (slice_get-map destination_of list i ∙ ap (option_map destination_of) at) one.0,
      port i c.sieve.destination_port (slice_get-map port_of list i ∙ ap (option_map port_of) at) two.1,
    ))
