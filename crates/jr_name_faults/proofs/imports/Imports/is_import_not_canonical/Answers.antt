use Rattle.std.proofs.Common.{◌≡◌, sym, ◌∙◌, subst, arith, ◌+◌, length, Decides}
use Rattle.jr_tree.specs.Rows.{label}
use Rattle.jr_tree.specs.Below.{IsTypeName}
use Rattle.jr_defs.specs.Packages.{spelled}
use Rattle.jr_defs.specs.Rules.{CanonicalName}
use Rattle.jr_name_faults.proofs.Importing.{no_import, names_none, names_some, class_type, import_name}
use Rattle.jr_name_faults.proofs.imports.Imports.is_import_not_canonical.Goals as goal

pub returns-then-not-is_import : goal.returns-then-not-is_import
returns-then-not-is_import c = λ p t lt h. no_import c.args.self.now h (sym c.if-not-is_import.true ∙ c.is_import.ensures)

pub returns-in-Some : goal.returns-in-Some
returns-in-Some c = λ p t lt h. let few = h.few in let is = sym c.in-Some.is ∙ c.imported_type.ensures (omega arith) in let import = sym c.if-not-is_import.false ∙ c.is_import.ensures in
    let next : c.saturating_add.result ≡ c.args.at + 1 = omega arith in
    names_some c.args.self.now h c.in-Some.class is c.is_canonical.result import (subst (λ m. Decides c.is_canonical.result (CanonicalName p c.in-Some.class (spelled p m))) next
    (c.is_canonical.ensures p t (length p) c.args.at h (class_type c.args.self.now h c.in-Some.class is) (subst (λ m. IsTypeName (label p m)) (sym next) (import_name c.args.self.now h c.in-Some.class is import))))

pub returns-in-None : goal.returns-in-None
returns-in-None c = λ p t lt h. let few = h.few in names_none c.args.self.now h (sym c.in-None.is ∙ c.imported_type.ensures (omega arith))
