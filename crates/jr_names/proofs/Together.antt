-- What is renamed together with a declaration.
use Rattle.std.proofs.Common.{◌≡◌, sym, subst, ℕ, List, [], ◌∷◌, Result, Ok, Err}
use Rattle.std.specs.Prelude.{IfOk}
use Rattle.jr_tree.specs.declared.label.Role.TheVariants as role
use Rattle.jr_tree.specs.Rows.{role_at}
use Rattle.jr_defs.specs.Referents.{Table}
use Rattle.jr_dispatch.specs.Families as families
use Rattle.jr_dispatch.specs.Methods.{IsWholeWorld}
use Rattle.jr_change.specs.declared.project.Project.{Project}
use Rattle.jr_names.specs.Renaming.{IsOfDeclaration}

module _ (old : Project) (d : ℕ) {A E : Type 0} (items : A → List ℕ) where
  -- a method
  pub family_so : (answer : Result A E) → role_at old.marks.rows.now d ≡ role.Method
      → ((t : Table) → IsWholeWorld t old.view.sight.world → role_at old.view.sight.world.under.rows.now d ≡ role.Method → IfOk answer (λ all. families.IsFamilyOf old.view.sight.world.under.rows.now t d (items all)))
      → IfOk answer (λ all. IsOfDeclaration old d (items all))
  family_so (Ok all) is told = record {
    alone = λ no'. absurd (no' is);
    together = λ t whole same m. subst (λ p. families.IsFamilyOf p t d (items all)) same (told t whole (subst (λ p. role_at p d ≡ role.Method) (sym same) m));
  }
  family_so (Err why) is told = tt

  -- what is no method
  pub alone_so : (answer : Result A E) → (role_at old.marks.rows.now d ≡ role.Method → ⊥) → IfOk answer (λ all. items all ≡ d ∷ []) → IfOk answer (λ all. IsOfDeclaration old d (items all))
  alone_so (Ok all) no' made = record { alone = λ no'. made; together = λ t whole same m. absurd (no' m) }
  alone_so (Err why) no' made = tt
