use Rattle.std.proofs.Common.{rules, arith, ◌≡◌, ◌∙◌, sym, ap, subst, Bool, cond, Ok, ◌-◌}
use Rattle.jr_tree.specs.Mirror.Decls as d
use Rattle.jr_tree.specs.Mirror.Decls.{plain_member}
use Rattle.jr_parse_laws.specs.declared.fault.Fault.TheVariants.{NoTree, TooDeep}
use Rattle.jr_parse_laws.specs.Parsers.{Outcome, Fails, kinds}
use Rattle.jr_parse_laws.proofs.Outcomes.{fails_on, reads_err}
use Rattle.jr_parse_defs.specs.Begins.{starts_member, starts_decl}
use Rattle.jr_parse_defs.specs.Decls as spec
use Rattle.jr_parse.specs.Begun as begun
use Rattle.jr_parse.proofs.Starting.{decl_lowest, decl_below, member_lowest, member_below, lowest_fails}
use Rattle.jr_parse.proofs.declaration.+declaration.Goals as goal

pub decl-returns-then-room-eq0 : goal.decl-returns-then-room-eq0
decl-returns-then-room-eq0 t c =
    subst (λ (o : Outcome d.TypeDecl). Fails o c.lowest.result (kinds c.args.cursor.now)) (sym (decl_lowest c.args.room c.args.mods (kinds c.args.cursor.now) (omega arith)))
    (lowest_fails d.TypeDecl starts_decl (kinds c.args.cursor.now) c.lowest.result (c.lowest.ensures ∙ ap (λ (b : Bool). cond b TooDeep NoTree) c.starts_decl.ensures))

pub decl-returns : goal.decl-returns
decl-returns t c = rw (decl_below c.args.room c.args.mods (kinds c.args.cursor.now) (omega arith)) c.type_decl.ensures

pub member-returns-then-room-eq0 : goal.member-returns-then-room-eq0
member-returns-then-room-eq0 t c =
    subst (λ (o : Outcome d.Member). Fails o c.lowest.result (kinds c.args.cursor.now)) (sym (member_lowest c.args.room (kinds c.args.cursor.now) (omega arith)))
    (lowest_fails d.Member starts_member (kinds c.args.cursor.now) c.lowest.result (c.lowest.ensures ∙ ap (λ (b : Bool). cond b TooDeep NoTree) c.starts_member.ensures))

pub member-returns-in_err-mods : goal.member-returns-in_err-mods
member-returns-in_err-mods t c =
    rw (member_below c.args.room (kinds c.args.cursor.now) (omega arith))
    (reads_err _ _ c.from_residual.result c.in_err-mods.field-0.0 (kinds c.modifiers.new.cursor) (search rules)
    (fails_on (spec.modifiers (kinds c.args.cursor.now)) (begun.new_member (c.args.room - 1) (spec.decl (c.args.room - 1))) c.in_err-mods.field-0.0 (kinds c.modifiers.new.cursor) c.in_err-mods.ensures))

pub member-returns : goal.member-returns
member-returns t c =
    let read : spec.modifiers (kinds c.args.cursor.now) ≡ Ok (c.in_ok-mods.mods, kinds c.modifiers.new.cursor) = c.in_ok-mods.ensures in
    rw (member_below c.args.room (kinds c.args.cursor.now) (omega arith), read) c.begun_member.ensures
