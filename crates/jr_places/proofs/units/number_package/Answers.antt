use Rattle.std.proofs.Common.{◌≡◌, ◌+◌, ◌<◌, ◌≤◌, sym, ◌∙◌, refl, arith, subst, length, IfOk}
use Rattle.jr_tree.specs.Rows.{end}
use Rattle.jr_places.specs.Packages.{Numbered}
use Rattle.jr_places.proofs.Packing.{package_label, numbered_none, path_named}
use Rattle.jr_places.proofs.units.number_package.Goals as goal

pub returns-then-not-is_package : goal.returns-then-not-is_package
returns-then-not-is_package c = λ counted names few tree named lt. numbered_none c.args.rows.now c.args.paths.now c.args.unit c.saturating_add-declared.result _ (omega arith) (sym c.is_package.ensures ∙ c.if-not-is_package.true) refl counted

pub returns : goal.returns
returns c = λ counted names few tree named lt. let p = c.args.rows.now in let is = sym c.is_package.ensures ∙ c.if-not-is_package.false in
    let first : c.saturating_add-declared.result ≡ c.args.unit + 1 = omega arith in
    let inside = named c.saturating_add-declared.result (package_label p _ is) in
    let next : c.saturating_add-name.result ≡ c.args.unit + 2 = omega arith in
    let below : c.saturating_add-name.result < length p = omega arith in
    subst (λ xs. IfOk c.number_name.result (λ number. Numbered c.args.paths.now c.number_name.new.paths number xs)) (path_named p c.args.unit c.saturating_add-declared.result c.saturating_add-name.result first next is)
    (c.number_name.ensures counted names few below (tree.nested c.saturating_add-name.result) (tree.last c.saturating_add-name.result below))
