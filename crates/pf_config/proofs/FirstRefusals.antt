-- What a table that may be changed is refused for isn't 20 or 21.
use Rattle.std.proofs.Common.{◌≡◌, true, false, List, length, Ok, Err, refl}
use Rattle.std.specs.Prelude.{if◌then◌else◌, nat_lt, Result}
use Rattle.pf_rules.specs.declared.ruleset.TableEntry.{TableEntry}
use Rattle.pf_rules.specs.Names.{Name}
use Rattle.pf_tables.specs.Tables.{TableValue}
use Rattle.pf_config.specs.declared.fault.ConfigFault.{ConfigFault}
use Rattle.pf_config.specs.declared.fault.ConfigFault.TheVariants.{AnchorsFull, ConstTable, TableFull}
use Rattle.pf_config.specs.Map.{Configuration, AnchorValue, Path, tables_at}
use Rattle.pf_config.specs.Changes.{RefusesFirst, fill, filled, set_filled, set_table, unless_full, with_contents, with_table, with_tables}

full_first : {A : Type 0} (r : Result A ConfigFault) (skip : List Name) (anchors : List AnchorValue) → RefusesFirst r (unless_full skip anchors)
full_first r skip anchors = elim (nat_lt 1024 (length anchors)) as (λ b. RefusesFirst r (if b then Err AnchorsFull else Ok (record { skip = skip; anchors = anchors }))) [ true ↦ tt | false ↦ tt ]

pub set_first : {A : Type 0} (r : Result A ConfigFault) (c : Configuration) (p : Path) (name : Name) (t : TableValue) → RefusesFirst r (set_table c p name t)
set_first r c p name t = full_first r c.skip (with_tables p (with_table (tables_at c p) name t) c.anchors)

pub fill_const : (c : Configuration) (p : Path) (name : Name) (t : TableValue) (entries : List TableEntry) → t.is_const ≡ true → fill c p name t entries ≡ Err ConstTable
fill_const c p name t entries h = rw h refl

few_first : {A : Type 0} (r : Result A ConfigFault) (c : Configuration) (p : Path) (name : Name) (t : TableValue) (entries : List TableEntry) → RefusesFirst r (set_filled c p name (if nat_lt 4096 (length entries) then Err TableFull else Ok (with_contents t entries)))
few_first r c p name t entries = elim (nat_lt 4096 (length entries)) as (λ b. RefusesFirst r (set_filled c p name (if b then Err TableFull else Ok (with_contents t entries)))) [ true ↦ tt | false ↦ set_first r c p name (with_contents t entries) ]

pub fill_first : {A : Type 0} (r : Result A ConfigFault) (c : Configuration) (p : Path) (name : Name) (t : TableValue) (entries : List TableEntry) → t.is_const ≡ false → RefusesFirst r (fill c p name t entries)
fill_first r c p name t entries h =
    (elim t.is_const as (λ k. k ≡ false → RefusesFirst r (set_filled c p name (if k then Err ConstTable else (if nat_lt 4096 (length entries) then Err TableFull else Ok (with_contents t entries))))) [ true ↦ λ e. cc | false ↦ λ e. few_first r c p name t entries ]) h
