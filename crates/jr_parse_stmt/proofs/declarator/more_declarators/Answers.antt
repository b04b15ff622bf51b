use Rattle.std.proofs.Common.{rules, ◌≡◌, ◌∙◌, true, false, Ok, [], ◌∷◌, ◌++◌, drop}
use Rattle.jr_base.specs.declared.kind.Symbol.TheVariants as y
use Rattle.jr_tree.specs.Mirror.Stmts.{plain_declarator}
use Rattle.jr_parse_laws.specs.Parsers.{kinds, is_at}
use Rattle.jr_parse_laws.proofs.Outcomes.{reads_err}
use Rattle.jr_parse_laws.proofs.Turns.{behind_fails, behind_done}
use Rattle.jr_parse_expr.proofs.Shorter.{fewer_tokens}
use Rattle.jr_parse_defs.specs.Stmts as spec
use Rattle.jr_parse_stmt.proofs.Viewed.{behind_one}
use Rattle.jr_parse_stmt.proofs.Takes.{behind_shorter, declarator_keeps}
use Rattle.jr_parse_stmt.proofs.declarator.more_declarators.Goals as goal

pub returns-in_err-next : goal.returns-in_err-next
returns-in_err-next c =
    let begins : is_at y.Comma (kinds c.declarators.cursor) ≡ true = cc in
    rw c.declarators.invariant
    (reads_err _ _ c.from_residual.result c.in_err-next.field-0.0 (kinds c.declarator.new.cursor) (search rules)
    (behind_fails y.Comma (spec.declarator c.args.room) (declarator_keeps c.args.room) _ (kinds c.declarators.cursor) c.in_err-next.field-0.0 (kinds c.declarator.new.cursor) begins (search rules)))

pub declarators-smaller : goal.declarators-smaller
declarators-smaller c =
    let begins : is_at y.Comma (kinds c.declarators.cursor) ≡ true = cc in
    let read : spec.declarator c.args.room (drop 1 (kinds c.declarators.cursor)) ≡ Ok (plain_declarator c.in_ok-next.next, kinds c.declarator.new.cursor) = search rules in
    fewer_tokens c.declarators.cursor c.declarator.new.cursor
    (behind_shorter y.Comma (spec.declarator c.args.room) (declarator_keeps c.args.room) (kinds c.declarators.cursor) (plain_declarator c.in_ok-next.next) (kinds c.declarator.new.cursor) begins read)

pub declarators-preserved : goal.declarators-preserved
declarators-preserved c =
    let begins : is_at y.Comma (kinds c.declarators.cursor) ≡ true = cc in
    let read : spec.declarator c.args.room (drop 1 (kinds c.declarators.cursor)) ≡ Ok (plain_declarator c.in_ok-next.next, kinds c.declarator.new.cursor) = search rules in
    let pushed : c.push.new.self ≡ c.declarators.all ++ c.in_ok-next.next ∷ [] = search rules in
    rw (c.declarators.invariant, pushed)
    (behind_one plain_declarator y.Comma (spec.declarator c.args.room) (declarator_keeps c.args.room) c.declarators.all (kinds c.declarators.cursor) c.in_ok-next.next (kinds c.declarator.new.cursor) begins read)

pub returns : goal.returns
returns c =
    let over : is_at y.Comma (kinds c.declarators.cursor) ≡ false = cc in
    c.declarators.invariant ∙ behind_done y.Comma (spec.declarator c.args.room) (declarator_keeps c.args.room) _ (kinds c.declarators.cursor) over
