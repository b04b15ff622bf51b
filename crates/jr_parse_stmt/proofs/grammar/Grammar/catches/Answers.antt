use Rattle.std.proofs.Common.{rules, ◌≡◌, ◌∙◌, true, false, Ok, [], ◌∷◌, ◌++◌, drop, map, refl, sym, subst}
use Rattle.jr_tree.specs.Mirror.Stmts.{plain_catch}
use Rattle.jr_parse_laws.specs.Parsers.{kinds, first, many, with_front}
use Rattle.jr_parse_laws.proofs.Outcomes.{reads_err}
use Rattle.jr_parse_expr.proofs.Shorter.{fewer_tokens}
use Rattle.jr_parse_starts.specs.Starts.{next_is}
use Rattle.jr_parse_defs.specs.Begins.{is_catch}
use Rattle.jr_parse_defs.specs.Stmts as spec
use Rattle.jr_parse_stmt.specs.Nests.{in_room}
use Rattle.jr_parse_stmt.proofs.Viewed.{one_more, one_fails, no_more, front_none}
use Rattle.jr_parse_stmt.proofs.Takes.{catch_takes}
use Rattle.jr_parse_stmt.proofs.grammar.Grammar.catches.Goals as goal

pub catches-init : goal.catches-init
catches-init g c =
    let o = many (next_is is_catch) (in_room spec.catch_clause c.args.self.now.room) (kinds c.args.cursor.now) in
    subst (λ (all : _). o ≡ with_front (map plain_catch all) o) (sym c.new-all.ensures) (front_none o)

pub returns-in_err-next : goal.returns-in_err-next
returns-in_err-next g c =
    let begins : next_is is_catch (first (kinds c.catches.cursor)) ≡ true = cc in
    rw c.catches.invariant
    (reads_err _ _ c.from_residual.result c.in_err-next.field-0.0 (kinds c.catch_clause.new.cursor) (search rules)
    (one_fails plain_catch (next_is is_catch) (in_room spec.catch_clause c.args.self.now.room) refl (catch_takes c.args.self.now.room) c.catches.all (kinds c.catches.cursor) c.in_err-next.field-0.0 (kinds c.catch_clause.new.cursor) begins (search rules)))

pub catches-smaller : goal.catches-smaller
catches-smaller g c =
    let begins : next_is is_catch (first (kinds c.catches.cursor)) ≡ true = cc in
    let read : in_room spec.catch_clause c.args.self.now.room (kinds c.catches.cursor) ≡ Ok (plain_catch c.in_ok-next.next, kinds c.catch_clause.new.cursor) = search rules in
    fewer_tokens c.catches.cursor c.catch_clause.new.cursor
    (catch_takes c.args.self.now.room (kinds c.catches.cursor) (plain_catch c.in_ok-next.next) (kinds c.catch_clause.new.cursor) begins read)

pub catches-preserved : goal.catches-preserved
catches-preserved g c =
    let begins : next_is is_catch (first (kinds c.catches.cursor)) ≡ true = cc in
    let read : in_room spec.catch_clause c.args.self.now.room (kinds c.catches.cursor) ≡ Ok (plain_catch c.in_ok-next.next, kinds c.catch_clause.new.cursor) = search rules in
    let pushed : c.push.new.self ≡ c.catches.all ++ c.in_ok-next.next ∷ [] = search rules in
    rw (c.catches.invariant, pushed)
    (one_more plain_catch (next_is is_catch) (in_room spec.catch_clause c.args.self.now.room) refl (catch_takes c.args.self.now.room) c.catches.all (kinds c.catches.cursor) c.in_ok-next.next (kinds c.catch_clause.new.cursor) begins read)

pub returns : goal.returns
returns g c =
    let over : next_is is_catch (first (kinds c.catches.cursor)) ≡ false = cc in
    c.catches.invariant ∙ no_more plain_catch (next_is is_catch) (in_room spec.catch_clause c.args.self.now.room) c.catches.all (kinds c.catches.cursor) over
