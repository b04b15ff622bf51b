use Rattle.std.proofs.Common.{rules, ◌≡◌, ◌∙◌, true, false, Ok, [], ◌∷◌, ◌++◌, drop, refl}
use Rattle.jr_tree.specs.Mirror.Stmts.{plain_stmt}
use Rattle.jr_parse_laws.specs.Parsers.{kinds, first}
use Rattle.jr_parse_laws.proofs.Outcomes.{reads_err}
use Rattle.jr_parse_expr.proofs.Shorter.{fewer_tokens}
use Rattle.jr_parse_defs.specs.Begins.{starts_block_stmt}
use Rattle.jr_parse_defs.specs.Stmts as spec
use Rattle.jr_parse_stmt.proofs.Viewed.{one_more, one_fails, no_more}
use Rattle.jr_parse_stmt.proofs.Takes.{stmt_takes}
use Rattle.jr_parse_stmt.proofs.grammar.Grammar.more_stmts.Goals as goal

pub returns-in_err-next : goal.returns-in_err-next
returns-in_err-next g c =
    let begins : starts_block_stmt (first (kinds c.stmts.cursor)) ≡ true = cc in
    rw c.stmts.invariant
    (reads_err _ _ c.from_residual.result c.in_err-next.field-0.0 (kinds c.outer.new.cursor) (search rules)
    (one_fails plain_stmt (starts_block_stmt) (spec.stmt c.args.self.now.room true) refl (stmt_takes c.args.self.now.room) c.stmts.all (kinds c.stmts.cursor) c.in_err-next.field-0.0 (kinds c.outer.new.cursor) begins (search rules)))

pub stmts-smaller : goal.stmts-smaller
stmts-smaller g c =
    let begins : starts_block_stmt (first (kinds c.stmts.cursor)) ≡ true = cc in
    let read : spec.stmt c.args.self.now.room true (kinds c.stmts.cursor) ≡ Ok (plain_stmt c.in_ok-next.next, kinds c.outer.new.cursor) = search rules in
    fewer_tokens c.stmts.cursor c.outer.new.cursor
    (stmt_takes c.args.self.now.room (kinds c.stmts.cursor) (plain_stmt c.in_ok-next.next) (kinds c.outer.new.cursor) begins read)

pub stmts-preserved : goal.stmts-preserved
stmts-preserved g c =
    let begins : starts_block_stmt (first (kinds c.stmts.cursor)) ≡ true = cc in
    let read : spec.stmt c.args.self.now.room true (kinds c.stmts.cursor) ≡ Ok (plain_stmt c.in_ok-next.next, kinds c.outer.new.cursor) = search rules in
    let pushed : c.push.new.self ≡ c.stmts.all ++ c.in_ok-next.next ∷ [] = search rules in
    rw (c.stmts.invariant, pushed)
    (one_more plain_stmt (starts_block_stmt) (spec.stmt c.args.self.now.room true) refl (stmt_takes c.args.self.now.room) c.stmts.all (kinds c.stmts.cursor) c.in_ok-next.next (kinds c.outer.new.cursor) begins read)

pub returns : goal.returns
returns g c =
    let over : starts_block_stmt (first (kinds c.stmts.cursor)) ≡ false = cc in
    c.stmts.invariant ∙ no_more plain_stmt (starts_block_stmt) (spec.stmt c.args.self.now.room true) c.stmts.all (kinds c.stmts.cursor) over
