-- Past the options the usage isn't wrong any more.
use Rattle.std.proofs.Common.{◌≡◌, Bool, true, false, List, Option, Some, None, Result, Ok, Err, ℕ}
use Rattle.std.specs.Prelude.{if◌then◌else◌}
use Rattle.clap.specs.Words.{Text}
use Rattle.pf_addr.specs.declared.fault.AddrFault.{AddrFault}
use Rattle.pf_rules.specs.Names.{Name}
use Rattle.pf_rules.specs.declared.profile.Profile.TheVariants as profile
use Rattle.pf_entry.specs.Entry as entry
use Rattle.pf_arguments.specs.declared.chosen.AnchorOperation.{AnchorOperation}
use Rattle.pf_arguments.specs.declared.chosen.AnchorOperation.TheVariants as whole
use Rattle.pf_arguments.specs.declared.chosen.TableOperation.{TableOperation}
use Rattle.pf_arguments.specs.declared.chosen.TableOperation.TheVariants as table
use Rattle.pf_arguments.specs.declared.fault.CommandFault.TheVariants.{Usage, TooLong}
use Rattle.pf_arguments.specs.Asked.{Asked, Change, TableTest, at_path, change, each, entry_of, is_too_long, on_list, table_action, whole_action}
use Rattle.pf_addr.specs.Spelling.{addr_of}

pub past_usage : (b : Bool) (a : Asked) → b ≡ false → (if b then Err Usage else a) ≡ Err Usage → a ≡ Err Usage
past_usage true a e h = cc
past_usage false a e h = h

never_change : (c : entry.Command) → change c ≡ Err Usage → ⊥
never_change c = elim (is_too_long c) as (λ b. (if b then Err TooLong else Ok (Change c)) ≡ Err Usage → ⊥) [ true ↦ λ h. cc | false ↦ λ h. cc ]

never_list : {X : Type 0} (action : List X → Asked) (r : Result (List X) AddrFault) → ((xs : List X) → action xs ≡ Err Usage → ⊥) → on_list action r ≡ Err Usage → ⊥
never_list action (Ok xs) never h = never xs h
never_list action (Err fault) never h = cc

whole_at : (operation : AnchorOperation) (p : List Name) (text : List ℕ) → whole_action operation p text ≡ Err Usage → ⊥
whole_at whole.Load p text h = never_change (entry.load p profile.Two text) h
whole_at whole.Check p text h = cc
whole_at whole.FlushRules p text h = never_change (entry.flush_rules p) h
whole_at whole.FlushTables p text h = never_change (entry.flush_tables p) h
whole_at whole.FlushAll p text h = never_change (entry.flush_all p) h
whole_at whole.ShowRules p text h = cc
whole_at whole.ShowTables p text h = cc
whole_at whole.ShowAnchors p text h = cc

table_at : (operation : TableOperation) (p : List Name) (t : Name) (addresses : List Text) → table_action operation p t addresses ≡ Err Usage → ⊥
table_at table.Add p t addresses h = never_list (λ list. change (entry.add p t list)) (each entry_of addresses) (λ list. never_change (entry.add p t list)) h
table_at table.Delete p t addresses h = never_list (λ list. change (entry.delete p t list)) (each entry_of addresses) (λ list. never_change (entry.delete p t list)) h
table_at table.Replace p t addresses h = never_list (λ list. change (entry.replace p t list)) (each entry_of addresses) (λ list. never_change (entry.replace p t list)) h
table_at table.Flush p t addresses h = never_change (entry.flush_table p t) h
table_at table.Show p t addresses h = cc
table_at table.Test p t addresses h = never_list (λ list. Ok (TableTest p t list)) (each addr_of addresses) (λ list e. cc) h

pub never_whole : (operation : AnchorOperation) (o : Option (List Name)) (text : List ℕ) → at_path o (λ p. whole_action operation p text) ≡ Err Usage → ⊥
never_whole operation None text h = cc
never_whole operation (Some p) text h = whole_at operation p text h

pub never_table : (operation : TableOperation) (o : Option (List Name)) (t : Name) (addresses : List Text) → at_path o (λ p. table_action operation p t addresses) ≡ Err Usage → ⊥
never_table operation None t addresses h = cc
never_table operation (Some p) t addresses h = table_at operation p t addresses h
