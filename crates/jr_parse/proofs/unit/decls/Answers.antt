use Rattle.std.proofs.Common.{rules, ◌≡◌, ◌∙◌, sym, ap, refl, true, false, List, [], ◌∷◌, ◌++◌, map}
use Rattle.jr_tree.specs.declared.tree.TypeDecl.{TypeDecl}
use Rattle.jr_tree.specs.Mirror.Decls.{plain_decl}
use Rattle.jr_parse_laws.specs.Parsers.{first, kinds, many, with_front, ◌>>=◌}
use Rattle.jr_parse_laws.proofs.Outcomes.{reads_err}
use Rattle.jr_parse_defs.specs.Begins as begins
use Rattle.jr_parse_defs.specs.Decls as spec
use Rattle.jr_parse.proofs.Turns.{fewer_tokens, items_more, items_fail, items_done, decl_shortens}
use Rattle.jr_parse.proofs.unit.decls.Goals as goal

pub returns-in_err-next : goal.returns-in_err-next
returns-in_err-next c =
    let some : begins.starts_decl (first (kinds c.decls.cursor)) ≡ true = sym c.starts_decl.ensures ∙ c.decls-test.true in
    rw c.decls.invariant
    (reads_err _ _ c.from_residual.result c.in_err-next.field-0.0 (kinds c.whole_decl.new.cursor) (search rules)
    (items_fail plain_decl begins.starts_decl (spec.modifiers >>= spec.decl c.args.room) refl (decl_shortens c.args.room) c.decls.all (kinds c.decls.cursor) c.in_err-next.field-0.0 (kinds c.whole_decl.new.cursor) some
    c.in_err-next.ensures))

pub decls-smaller : goal.decls-smaller
decls-smaller c =
    fewer_tokens c.decls.cursor c.whole_decl.new.cursor (decl_shortens c.args.room (kinds c.decls.cursor) (plain_decl c.in_ok-next.next) (kinds c.whole_decl.new.cursor) c.in_ok-next.ensures)

pub decls-preserved : goal.decls-preserved
decls-preserved c =
    let some : begins.starts_decl (first (kinds c.decls.cursor)) ≡ true = sym c.starts_decl.ensures ∙ c.decls-test.true in
    let pushed : c.push.new.self ≡ c.decls.all ++ c.in_ok-next.next ∷ [] = search rules in
    c.decls.invariant
    ∙ items_more plain_decl begins.starts_decl (spec.modifiers >>= spec.decl c.args.room) refl (decl_shortens c.args.room) c.decls.all (kinds c.decls.cursor) c.in_ok-next.next (kinds c.whole_decl.new.cursor) some
    c.in_ok-next.ensures
    ∙ ap (λ (all : List TypeDecl). with_front (map plain_decl all) (many begins.starts_decl (spec.modifiers >>= spec.decl c.args.room) (kinds c.whole_decl.new.cursor))) (sym pushed)

pub returns : goal.returns
returns c =
    let over : begins.starts_decl (first (kinds c.decls.cursor)) ≡ false = sym c.starts_decl.ensures ∙ c.decls-test.false in
    c.decls.invariant ∙ items_done plain_decl begins.starts_decl (spec.modifiers >>= spec.decl c.args.room) refl (decl_shortens c.args.room) c.decls.all (kinds c.decls.cursor) over
