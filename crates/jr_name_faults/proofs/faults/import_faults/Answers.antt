use Rattle.std.proofs.Common.{◌≡◌, refl, sym, ◌∙◌, subst, arith, ◌+◌, ◌-◌, length}
use Rattle.jr_rule.specs.declared.Rule.TheVariants as rule
use Rattle.jr_name_rules.specs.ImportTests.{has_import_clash, is_import_not_canonical}
use Rattle.jr_faults.proofs.Told.{none_then, then_none, only_kept, only_then}
use Rattle.jr_name_faults.specs.Faults.{is_of_imports}
use Rattle.jr_name_faults.specs.Imports.{rows_of, table_of, AreImportsTo}
use Rattle.jr_name_faults.proofs.Importing.{singles_none, clash_none, no_import}
use Rattle.jr_name_faults.proofs.Passing.{not_added, imports_none}
use Rattle.jr_name_faults.proofs.Told.{next_names, first_names}
use Rattle.jr_name_faults.proofs.faults.import_faults.Goals as goal

pub returns-in_default-clause-open : goal.returns-in_default-clause-open
returns-in_default-clause-open c = λ p t lt h. subst (λ n. AreImportsTo p t (length p) n c.args.imports.now) (omega arith) h

pub returns-in_default-clause-names : goal.returns-in_default-clause-names
returns-in_default-clause-names c = λ p t lt h. first_names rule.ImportNames (has_import_clash p t) c.args.at c.args.out.now.items (omega arith)

pub returns-in_default-clause-types : goal.returns-in_default-clause-types
returns-in_default-clause-types c = λ p t lt h. first_names rule.ImportedTypes (is_import_not_canonical p t) c.args.at c.args.out.now.items (omega arith)

pub returns-in_default-clause-others : goal.returns-in_default-clause-others
returns-in_default-clause-others c = only_kept is_of_imports c.args.out.now.items

pub returns-then-not-has_import-clause-open : goal.returns-then-not-has_import-clause-open
returns-then-not-has_import-clause-open c = λ p t lt h. let next : c.in-Some.import + 1 ≡ c.args.at = omega arith in let is : c.args.at - 1 ≡ c.in-Some.import = omega arith in
    subst (λ n. AreImportsTo p t (length p) n c.args.imports.now) next (singles_none c.args.imports.now (subst (λ n. AreImportsTo p t (length p) n c.args.imports.now) is h)
    (imports_none (rows_of c.args.imports.now.world.now) (table_of c.args.imports.now.world.now) c.in-Some.import (sym c.has_import.ensures ∙ c.if-not-has_import.true)))

pub returns-then-not-has_import-clause-names : goal.returns-then-not-has_import-clause-names
returns-then-not-has_import-clause-names c = λ p t lt h. let next : c.in-Some.import + 1 ≡ c.args.at = omega arith in let is : c.args.at - 1 ≡ c.in-Some.import = omega arith in
    next_names rule.ImportNames (has_import_clash p t) c.args.at c.in-Some.import next (not_added rule.ImportNames c.args.at c.args.out.now.items
    (sym (clash_none c.args.imports.now (subst (λ n. AreImportsTo p t (length p) n c.args.imports.now) is h)
    (imports_none (rows_of c.args.imports.now.world.now) (table_of c.args.imports.now.world.now) c.in-Some.import (sym c.has_import.ensures ∙ c.if-not-has_import.true)))))

pub returns-then-not-has_import-clause-types : goal.returns-then-not-has_import-clause-types
returns-then-not-has_import-clause-types c = λ p t lt h. let next : c.in-Some.import + 1 ≡ c.args.at = omega arith in let is : c.args.at - 1 ≡ c.in-Some.import = omega arith in
    next_names rule.ImportedTypes (is_import_not_canonical p t) c.args.at c.in-Some.import next (not_added rule.ImportedTypes c.args.at c.args.out.now.items
    (sym (no_import c.args.imports.now (subst (λ n. AreImportsTo p t (length p) n c.args.imports.now) is h) (sym (sym c.has_import.ensures ∙ c.if-not-has_import.true)))))

pub returns-then-not-has_import-clause-others : goal.returns-then-not-has_import-clause-others
returns-then-not-has_import-clause-others c = only_kept is_of_imports c.args.out.now.items

pub returns-clause-open : goal.returns-clause-open
returns-clause-open c = λ p t lt h. let next : c.in-Some.import + 1 ≡ c.args.at = omega arith in let is : c.args.at - 1 ≡ c.in-Some.import = omega arith in
    subst (λ n. AreImportsTo p t (length p) n c.pass.new.self) next (c.in_ok-pass.ensures p t (omega arith) (subst (λ n. AreImportsTo p t (length p) n c.args.imports.now) is h))

pub returns-clause-names : goal.returns-clause-names
returns-clause-names c = λ p t lt h. let next : c.in-Some.import + 1 ≡ c.args.at = omega arith in let is : c.args.at - 1 ≡ c.in-Some.import = omega arith in
    next_names rule.ImportNames (has_import_clash p t) c.args.at c.in-Some.import next
    (then_none rule.ImportNames (c.in_ok-clash_fault.ensures.found p t (omega arith) (subst (λ n. AreImportsTo p t (length p) n c.args.imports.now) is h)) (c.in_ok-canonical_fault.ensures.others.others rule.ImportNames refl))

pub returns-clause-types : goal.returns-clause-types
returns-clause-types c = λ p t lt h. let next : c.in-Some.import + 1 ≡ c.args.at = omega arith in let is : c.args.at - 1 ≡ c.in-Some.import = omega arith in
    next_names rule.ImportedTypes (is_import_not_canonical p t) c.args.at c.in-Some.import next
    (none_then rule.ImportedTypes (c.in_ok-clash_fault.ensures.others.others rule.ImportedTypes refl) (c.in_ok-canonical_fault.ensures.found p t (omega arith) (subst (λ n. AreImportsTo p t (length p) n c.args.imports.now) is h)))

pub returns-clause-others : goal.returns-clause-others
returns-clause-others c = only_then c.in_ok-clash_fault.ensures.others c.in_ok-canonical_fault.ensures.others
