use Rattle.std.proofs.Common.{rules, ◌≡◌, ◌∙◌, true, false, Ok, [], ◌∷◌, ◌++◌, drop, map, refl, sym, subst}
use Rattle.jr_tree.specs.Mirror.Stmts.{plain_group}
use Rattle.jr_parse_laws.specs.Parsers.{kinds, first, many, with_front}
use Rattle.jr_parse_laws.proofs.Outcomes.{reads_err}
use Rattle.jr_parse_expr.proofs.Shorter.{fewer_tokens}
use Rattle.jr_parse_defs.specs.Begins.{starts_label}
use Rattle.jr_parse_defs.specs.Stmts as spec
use Rattle.jr_parse_stmt.specs.Nests.{in_room}
use Rattle.jr_parse_stmt.proofs.Viewed.{one_more, one_fails, no_more, front_none}
use Rattle.jr_parse_stmt.proofs.Takes.{group_takes}
use Rattle.jr_parse_stmt.proofs.grammar.Grammar.groups.Goals as goal

pub groups-init : goal.groups-init
groups-init g c =
    let o = many starts_label (in_room spec.group c.args.self.now.room) (kinds c.args.cursor.now) in
    subst (λ (all : _). o ≡ with_front (map plain_group all) o) (sym c.new-all.ensures) (front_none o)

pub returns-in_err-next : goal.returns-in_err-next
returns-in_err-next g c =
    let begins : starts_label (first (kinds c.groups.cursor)) ≡ true = cc in
    rw c.groups.invariant
    (reads_err _ _ c.from_residual.result c.in_err-next.field-0.0 (kinds c.group.new.cursor) (search rules)
    (one_fails plain_group (starts_label) (in_room spec.group c.args.self.now.room) refl (group_takes c.args.self.now.room) c.groups.all (kinds c.groups.cursor) c.in_err-next.field-0.0 (kinds c.group.new.cursor) begins (search rules)))

pub groups-smaller : goal.groups-smaller
groups-smaller g c =
    let begins : starts_label (first (kinds c.groups.cursor)) ≡ true = cc in
    let read : in_room spec.group c.args.self.now.room (kinds c.groups.cursor) ≡ Ok (plain_group c.in_ok-next.next, kinds c.group.new.cursor) = search rules in
    fewer_tokens c.groups.cursor c.group.new.cursor
    (group_takes c.args.self.now.room (kinds c.groups.cursor) (plain_group c.in_ok-next.next) (kinds c.group.new.cursor) begins read)

pub groups-preserved : goal.groups-preserved
groups-preserved g c =
    let begins : starts_label (first (kinds c.groups.cursor)) ≡ true = cc in
    let read : in_room spec.group c.args.self.now.room (kinds c.groups.cursor) ≡ Ok (plain_group c.in_ok-next.next, kinds c.group.new.cursor) = search rules in
    let pushed : c.push.new.self ≡ c.groups.all ++ c.in_ok-next.next ∷ [] = search rules in
    rw (c.groups.invariant, pushed)
    (one_more plain_group (starts_label) (in_room spec.group c.args.self.now.room) refl (group_takes c.args.self.now.room) c.groups.all (kinds c.groups.cursor) c.in_ok-next.next (kinds c.group.new.cursor) begins read)

pub returns : goal.returns
returns g c =
    let over : starts_label (first (kinds c.groups.cursor)) ≡ false = cc in
    c.groups.invariant ∙ no_more plain_group (starts_label) (in_room spec.group c.args.self.now.room) c.groups.all (kinds c.groups.cursor) over
