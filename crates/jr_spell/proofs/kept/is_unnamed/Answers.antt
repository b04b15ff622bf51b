use Rattle.std.proofs.Common.{◌≡◌, ◌∙◌, ◌∷◌, ◌++◌, sym, ap, arith, length, nat_eq}
use Rattle.jr_shapes.specs.Names.{kept_package, package_names}
use Rattle.jr_spelling_rules.specs.Candidates.{is_empty}
use Rattle.jr_spell.proofs.Keeping.{empty_is}
use Rattle.jr_spell.proofs.kept.is_unnamed.Goals as goal

pub returns-in_ok-push_package-in-Some : goal.returns-in_ok-push_package-in-Some
returns-in_ok-push_package-in-Some c = λ n rest. let p = c.args.rows.now in
    let are = c.in_ok-push_package-in-Some.ensures ∙ ap (λ xs. xs ++ package_names p c.in-Some.class) c.new-names.ensures.items in
    let same : c.push_package.new.all.len ≡ length c.push_package.new.all.items = omega (arith, c.push_package.new.all.ok.0) in
    c.is_empty.ensures ∙ ap (λ k. nat_eq k 0) same ∙ ap (λ xs. nat_eq (length xs) 0) are ∙ empty_is (package_names p c.in-Some.class)
    ∙ ap (λ o. is_empty (kept_package p o (n ∷ rest))) (sym c.in-Some.is)
