-- Names are short enough for a length of one byte.
use Rattle.std.proofs.Common.{◌≡◌, ℕ, ◌<◌, true, List, length, arith}
use Rattle.std.proofs.lemmas.Bool.{and_parts, leb-true}
use Rattle.pf_rules.specs.declared.profile.Profile.{Profile}
use Rattle.pf_rules.specs.Words.{is_anchor_text, is_table_text, is_table_name}
use Rattle.pf_rules.specs.Names.{is_path_name}

pub anchor_short : (name : List ℕ) → is_anchor_text name ≡ true → length name < 256
unfolding is_anchor_text
anchor_short name e = let a = and_parts _ _ (and_parts _ _ (and_parts _ _ (and_parts _ _ e).0).0).0 in omega (arith, leb-true (length name) 63 a.1)

pub path_name_short : (name : List ℕ) → is_path_name name ≡ true → length name < 256
path_name_short name e = anchor_short name (and_parts _ _ e).0

pub table_short : (profile : Profile) (name : List ℕ) → is_table_name profile name ≡ true → length name < 256
unfolding is_table_name is_table_text
table_short profile name e = let a = and_parts _ _ (and_parts _ _ (and_parts _ _ e).0).0 in omega (arith, leb-true (length name) 31 a.1)
