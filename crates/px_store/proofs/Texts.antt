-- What the statements mean.
use Rattle.std.proofs.Common.{◌≡◌, ℕ, pos, negsuc, List, [], ◌∷◌, codes, true, false, None, refl}
use Rattle.sqlite.specs.declared.types.Value.TheVariants.{Null, Int}
use Rattle.sqlite.specs.Collation.TheVariants.{Binary}
use Rattle.sqlite.specs.Term.{Term, lit, col, op2}
use Rattle.sqlite.specs.Query.{Query, inner, end}
use Rattle.sqlite.specs.Command.{Command}
use Rattle.sqlite.specs.Command.TheVariants.{InsertOr, Select}
use Rattle.sqlite_schema.specs.declared.command.Conflict.TheVariants.{Replace}
use Rattle.sqlite_sql.specs.declared.ops.BinaryOp.TheVariants.{Compare}
use Rattle.sqlite_sql.specs.declared.ops.CompareOp.TheVariants.{Eq, Lt, Gt, Ge}
use Rattle.sqlite.specs.Schema.{Schema}
use Rattle.sqlite.specs.Source.TheVariants.{Values}
use Rattle.sqlite_tied.specs.Compute.{everything}
use Rattle.sqlite.specs.Listing.{understood, reads_listing}
use Rattle.sqlite.proofs.Callers.{IsPlain, command_of}
use Rattle.px_store.specs.Tables.{schema_3}
use Rattle.px_store.specs.Adopting.{get_meta}
use Rattle.px_store.specs.inner.Tables.{put_meta, put_slot, put_floor, put_learned, get_slot, get_floor}
use Rattle.px_store.specs.inner.Tables.{get_learned, get_span, get_top, get_end, get_last}
use Rattle.px_store.specs.Formats.{schema_at, has_table}
use Rattle.px_store.specs.declared.formats.Format.{Format}
use Rattle.px_store.specs.declared.formats.Format.TheVariants.{One, Two, Three}

-- ---- writes

abbrev pub replace : (place : ℕ) → List Term → (width : ℕ) → Command
replace place terms width = InsertOr place Replace (Values terms width) []

pub record Means (schema : Schema) (text : List ℕ) (command : Command) : Type 0 where
  pub is : command_of (understood schema text) ≡ command
  pub plain : IsPlain (understood schema text)

abbrev pub meta_terms : List Term
meta_terms = lit (Int (pos 1)) ∷ lit Null ∷ lit (Int (pos 3)) ∷ col 0 0 ∷ col 0 1 ∷ col 0 2 ∷ col 0 3 ∷ col 0 4 ∷ []

abbrev pub slot_terms : List Term
slot_terms = col 0 0 ∷ lit Null ∷ col 0 1 ∷ col 0 2 ∷ col 0 3 ∷ []

abbrev pub floor_terms : List Term
floor_terms = lit (Int (pos 1)) ∷ lit Null ∷ col 0 0 ∷ []

abbrev pub learned_terms : List Term
learned_terms = col 0 0 ∷ lit Null ∷ col 0 1 ∷ []

pub meta_put : Means schema_3 put_meta (replace 0 meta_terms 8)
unfolding understood everything
meta_put = record { is = refl; plain = (refl, refl) }

pub slot_put : Means schema_3 put_slot (replace 1 slot_terms 5)
unfolding understood everything
slot_put = record { is = refl; plain = (refl, refl) }

pub floor_put : Means schema_3 put_floor (replace 2 floor_terms 3)
unfolding understood everything
floor_put = record { is = refl; plain = (refl, refl) }

pub learned_put : Means schema_3 put_learned (replace 3 learned_terms 3)
unfolding understood everything
learned_put = record { is = refl; plain = (refl, refl) }

-- ---- reads

abbrev pub rows_by : (tree : ℕ) → (filter project : List Term) → Query
rows_by tree filter project = record {
  from = inner tree end;
  filter = filter;
  group = None;
  project = project;
  distinct = false;
  collations = [];
  order = [];
  limit = lit (Int (negsuc 0));
  offset = lit (Int (pos 0));
}

-- the rows of a key
abbrev pub with_key : List Term
with_key = op2 (Compare Eq Binary) (col 1 0) (col 0 0) ∷ []

abbrev pub by_key : (tree : ℕ) → List Term → Query
by_key tree project = rows_by tree with_key project

-- the rows of the keys from one on and below another
abbrev pub in_span : List Term
in_span = op2 (Compare Ge Binary) (col 1 0) (col 0 0) ∷ op2 (Compare Lt Binary) (col 1 0) (col 0 1) ∷ []

abbrev pub select : Query → List (List ℕ) → Command
select q names = Select (record { lets = []; body = q }) names

pub record Asks (schema : Schema) (text : List ℕ) (q : Query) (names : List (List ℕ)) : Type 0 where
  pub means : Means schema text (select q names)
  pub unlisted : reads_listing schema text ≡ false

abbrev pub meta_project : List Term
meta_project = col 1 0 ∷ col 1 2 ∷ col 1 3 ∷ col 1 4 ∷ col 1 5 ∷ col 1 6 ∷ col 1 7 ∷ []

abbrev pub meta_names : List (List ℕ)
meta_names = codes "id" ∷ codes "format" ∷ codes "cluster" ∷ codes "members" ∷ codes "node" ∷ codes "round" ∷ codes "number" ∷ []

abbrev pub slot_names : List (List ℕ)
slot_names = codes "position" ∷ codes "promised" ∷ codes "ballot" ∷ codes "entry" ∷ []

abbrev pub learned_names : List (List ℕ)
learned_names = codes "position" ∷ codes "entry" ∷ []

abbrev pub slot_project : List Term
slot_project = col 1 0 ∷ col 1 2 ∷ col 1 3 ∷ col 1 4 ∷ []

abbrev pub pair_project : List Term
pair_project = col 1 0 ∷ col 1 2 ∷ []

abbrev pub floor_names : List (List ℕ)
floor_names = codes "id" ∷ codes "ballot" ∷ []

-- the last position, of the rows that pass
abbrev pub last_row : (tree : ℕ) → List Term → Query
last_row tree filter = record {
  from = inner tree end;
  filter = filter;
  group = None;
  project = col 1 0 ∷ [];
  distinct = false;
  collations = [];
  order = (col 1 0, record { collation = Binary; descending = true }) ∷ [];
  limit = lit (Int (pos 1));
  offset = lit (Int (pos 0));
}

abbrev pub with_ballot : List Term
with_ballot = op2 (Compare Gt Binary) (col 1 3) (lit (Int (pos 0))) ∷ []

abbrev pub top_names : List (List ℕ)
top_names = codes "position" ∷ []

-- in each format

pub meta_asks : (f : Format) → Asks (schema_at f) get_meta (by_key 0 meta_project) meta_names
unfolding understood everything
meta_asks One = record { means = record { is = refl; plain = (refl, refl) }; unlisted = refl }
meta_asks Two = record { means = record { is = refl; plain = (refl, refl) }; unlisted = refl }
meta_asks Three = record { means = record { is = refl; plain = (refl, refl) }; unlisted = refl }

pub floor_asks : (f : Format) → has_table 2 f ≡ true → Asks (schema_at f) get_floor (by_key 2 pair_project) floor_names
unfolding understood everything
floor_asks One has = absurd cc
floor_asks Two has = record { means = record { is = refl; plain = (refl, refl) }; unlisted = refl }
floor_asks Three has = record { means = record { is = refl; plain = (refl, refl) }; unlisted = refl }

pub slot_asks : (f : Format) → Asks (schema_at f) get_slot (by_key 1 slot_project) slot_names
unfolding understood everything
slot_asks One = record { means = record { is = refl; plain = (refl, refl) }; unlisted = refl }
slot_asks Two = record { means = record { is = refl; plain = (refl, refl) }; unlisted = refl }
slot_asks Three = record { means = record { is = refl; plain = (refl, refl) }; unlisted = refl }

pub learned_asks : (f : Format) → has_table 3 f ≡ true → Asks (schema_at f) get_learned (by_key 3 pair_project) learned_names
unfolding understood everything
learned_asks One has = absurd cc
learned_asks Two has = absurd cc
learned_asks Three has = record { means = record { is = refl; plain = (refl, refl) }; unlisted = refl }

pub span_asks : (f : Format) → has_table 3 f ≡ true → Asks (schema_at f) get_span (rows_by 3 in_span pair_project) learned_names
unfolding understood everything
span_asks One has = absurd cc
span_asks Two has = absurd cc
span_asks Three has = record { means = record { is = refl; plain = (refl, refl) }; unlisted = refl }

pub top_asks : (f : Format) → Asks (schema_at f) get_top (last_row 1 with_ballot) top_names
unfolding understood everything
top_asks One = record { means = record { is = refl; plain = (refl, refl) }; unlisted = refl }
top_asks Two = record { means = record { is = refl; plain = (refl, refl) }; unlisted = refl }
top_asks Three = record { means = record { is = refl; plain = (refl, refl) }; unlisted = refl }

pub end_asks : (f : Format) → has_table 3 f ≡ true → Asks (schema_at f) get_end (last_row 3 []) top_names
unfolding understood everything
end_asks One has = absurd cc
end_asks Two has = absurd cc
end_asks Three has = record { means = record { is = refl; plain = (refl, refl) }; unlisted = refl }

pub last_asks : (f : Format) → Asks (schema_at f) get_last (last_row 1 []) top_names
unfolding understood everything
last_asks One = record { means = record { is = refl; plain = (refl, refl) }; unlisted = refl }
last_asks Two = record { means = record { is = refl; plain = (refl, refl) }; unlisted = refl }
last_asks Three = record { means = record { is = refl; plain = (refl, refl) }; unlisted = refl }
