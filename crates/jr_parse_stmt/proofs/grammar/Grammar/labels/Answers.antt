use Rattle.std.proofs.Common.{rules, ◌≡◌, ◌∙◌, true, false, Ok, [], ◌∷◌, ◌++◌, drop, map, refl, sym, subst}
use Rattle.jr_tree.specs.Mirror.Stmts.{plain_label}
use Rattle.jr_parse_laws.specs.Parsers.{kinds, first, many, with_front}
use Rattle.jr_parse_laws.proofs.Outcomes.{reads_err}
use Rattle.jr_parse_expr.proofs.Shorter.{fewer_tokens}
use Rattle.jr_parse_expr.specs.Exprs.{next_token}
use Rattle.jr_parse_defs.specs.Begins.{starts_label}
use Rattle.jr_parse_defs.specs.Stmts as spec
use Rattle.jr_parse_stmt.specs.Nests.{in_room}
use Rattle.jr_parse_stmt.proofs.Viewed.{one_more, one_fails, no_more, front_none}
use Rattle.jr_parse_stmt.proofs.Takes.{label_takes}
use Rattle.jr_parse_stmt.proofs.grammar.Grammar.labels.Goals as goal

pub labels-init : goal.labels-init
labels-init g c =
    let o = many starts_label (next_token (in_room spec.label_by c.args.self.now.room)) (kinds c.args.cursor.now) in
    subst (λ (all : _). o ≡ with_front (map plain_label all) o) (sym c.new-all.ensures) (front_none o)

pub returns-in_err-next : goal.returns-in_err-next
returns-in_err-next g c =
    let begins : starts_label (first (kinds c.labels.cursor)) ≡ true = cc in
    rw c.labels.invariant
    (reads_err _ _ c.from_residual.result c.in_err-next.field-0.0 (kinds c.label.new.cursor) (search rules)
    (one_fails plain_label (starts_label) (next_token (in_room spec.label_by c.args.self.now.room)) refl (label_takes c.args.self.now.room) c.labels.all (kinds c.labels.cursor) c.in_err-next.field-0.0 (kinds c.label.new.cursor) begins (search rules)))

pub labels-smaller : goal.labels-smaller
labels-smaller g c =
    let begins : starts_label (first (kinds c.labels.cursor)) ≡ true = cc in
    let read : next_token (in_room spec.label_by c.args.self.now.room) (kinds c.labels.cursor) ≡ Ok (plain_label c.in_ok-next.next, kinds c.label.new.cursor) = search rules in
    fewer_tokens c.labels.cursor c.label.new.cursor
    (label_takes c.args.self.now.room (kinds c.labels.cursor) (plain_label c.in_ok-next.next) (kinds c.label.new.cursor) begins read)

pub labels-preserved : goal.labels-preserved
labels-preserved g c =
    let begins : starts_label (first (kinds c.labels.cursor)) ≡ true = cc in
    let read : next_token (in_room spec.label_by c.args.self.now.room) (kinds c.labels.cursor) ≡ Ok (plain_label c.in_ok-next.next, kinds c.label.new.cursor) = search rules in
    let pushed : c.push.new.self ≡ c.labels.all ++ c.in_ok-next.next ∷ [] = search rules in
    rw (c.labels.invariant, pushed)
    (one_more plain_label (starts_label) (next_token (in_room spec.label_by c.args.self.now.room)) refl (label_takes c.args.self.now.room) c.labels.all (kinds c.labels.cursor) c.in_ok-next.next (kinds c.label.new.cursor) begins read)

pub returns : goal.returns
returns g c =
    let over : starts_label (first (kinds c.labels.cursor)) ≡ false = cc in
    c.labels.invariant ∙ no_more plain_label (starts_label) (next_token (in_room spec.label_by c.args.self.now.room)) c.labels.all (kinds c.labels.cursor) over
