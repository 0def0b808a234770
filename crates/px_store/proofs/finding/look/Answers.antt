use Rattle.std.proofs.Common.{◌≡◌, ◌∙◌, true, false, rules, sym}
use Rattle.sqlite.specs.Held.{state}
use Rattle.px_store.specs.Formats.{has_table}
use Rattle.px_store.specs.inner.Questions.{table_of}
use Rattle.px_store.proofs.Questions.{answers_at, answers_none}
use Rattle.px_store.proofs.finding.look.Goals as goal

pub returns-then-not-has_table-clause-rows : goal.returns-then-not-has_table-clause-rows
returns-then-not-has_table-clause-rows g c = λ clean began.
    let lacks : has_table (table_of c.args.question) c.args.format ≡ false = search rules in
    answers_none c.args.format c.args.question (state g.S.Store c.args.conn.now).now.trees lacks

pub returns-then-not-has_table-clause-still : goal.returns-then-not-has_table-clause-still
returns-then-not-has_table-clause-still g c = λ clean began has.
    let lacks : has_table (table_of c.args.question) c.args.format ≡ false = search rules in
    absurd (let e = sym lacks ∙ has in cc)

pub returns-in-Ok-clause-rows : goal.returns-in-Ok-clause-rows
returns-in-Ok-clause-rows g c = λ clean began.
    let has : has_table (table_of c.args.question) c.args.format ≡ true = search rules in
    answers_at c.args.format c.args.question (state g.S.Store c.args.conn.now).now.trees c.in-Ok.rows.items has (c.in-Ok.ensures.looked clean c.args.format began has).ok.0

pub returns-in-Ok-clause-stays : goal.returns-in-Ok-clause-stays
returns-in-Ok-clause-stays g c = λ clean began.
    let has : has_table (table_of c.args.question) c.args.format ≡ true = search rules in
    let l = c.in-Ok.ensures.looked clean c.args.format began has in
    record { now = l.ok.1.now; auto = l.ok.1.auto }

pub returns-in-Ok-clause-still : goal.returns-in-Ok-clause-still
returns-in-Ok-clause-still g c = λ clean began has. (c.in-Ok.ensures.looked clean c.args.format began has).ok.1

pub returns-in-Ok-clause-crash : goal.returns-in-Ok-clause-crash
returns-in-Ok-clause-crash g c = λ clean began.
    let has : has_table (table_of c.args.question) c.args.format ≡ true = search rules in
    (c.in-Ok.ensures.looked clean c.args.format began has).stop

pub returns-in-Err-Memory-clause-crash : goal.returns-in-Err-Memory-clause-crash
returns-in-Err-Memory-clause-crash g c = λ clean began.
    let has : has_table (table_of c.args.question) c.args.format ≡ true = search rules in
    (c.in-Err-Memory.ensures.looked clean c.args.format began has).stop

pub returns-in-Err-Failed-clause-crash : goal.returns-in-Err-Failed-clause-crash
returns-in-Err-Failed-clause-crash g c = λ clean began.
    let has : has_table (table_of c.args.question) c.args.format ≡ true = search rules in
    (c.in-Err-Failed.ensures.looked clean c.args.format began has).stop
