use Rattle.std.proofs.Common.{rules, ◌≡◌, ◌∙◌, sym, ap, refl, true, false, List, [], ◌∷◌, ◌++◌}
use Rattle.jr_tree.specs.declared.tree.Import.{Import}
use Rattle.jr_parse_laws.specs.Parsers.{first, kinds, many, with_front}
use Rattle.jr_parse_laws.proofs.Outcomes.{reads_err}
use Rattle.jr_parse_laws.proofs.Lists.{front_more, front_fails, front_done}
use Rattle.jr_parse_starts.specs.Starts.{next_is}
use Rattle.jr_parse_defs.specs.Begins.{is_import}
use Rattle.jr_parse_defs.specs.Decls as spec
use Rattle.jr_parse.proofs.Turns.{fewer_tokens, import_shortens}
use Rattle.jr_parse.proofs.imports.imports.Goals as goal

pub returns-in_err-next : goal.returns-in_err-next
returns-in_err-next c =
    let some : next_is is_import (first (kinds c.imports.cursor)) ≡ true = sym c.starts_import.ensures ∙ c.imports-test.true in
    rw c.imports.invariant
    (reads_err _ _ c.from_residual.result c.in_err-next.field-0.0 (kinds c.import_decl.new.cursor) (search rules)
    (front_fails (next_is is_import) spec.import_decl refl import_shortens c.imports.all (kinds c.imports.cursor) c.in_err-next.field-0.0 (kinds c.import_decl.new.cursor) some c.in_err-next.ensures))

pub imports-smaller : goal.imports-smaller
imports-smaller c = fewer_tokens c.imports.cursor c.import_decl.new.cursor (import_shortens (kinds c.imports.cursor) c.in_ok-next.next (kinds c.import_decl.new.cursor) c.in_ok-next.ensures)

pub imports-preserved : goal.imports-preserved
imports-preserved c =
    let some : next_is is_import (first (kinds c.imports.cursor)) ≡ true = sym c.starts_import.ensures ∙ c.imports-test.true in
    let pushed : c.push.new.self ≡ c.imports.all ++ c.in_ok-next.next ∷ [] = search rules in
    c.imports.invariant ∙ front_more (next_is is_import) spec.import_decl refl import_shortens c.imports.all (kinds c.imports.cursor) c.in_ok-next.next (kinds c.import_decl.new.cursor) some c.in_ok-next.ensures
    ∙ ap (λ (all : List Import). with_front all (many (next_is is_import) spec.import_decl (kinds c.import_decl.new.cursor))) (sym pushed)

pub returns : goal.returns
returns c =
    let over : next_is is_import (first (kinds c.imports.cursor)) ≡ false = sym c.starts_import.ensures ∙ c.imports-test.false in
    c.imports.invariant ∙ front_done (next_is is_import) spec.import_decl c.imports.all (kinds c.imports.cursor) over
