-- Methods of one signature in types above.
use Rattle.std.proofs.Common.{◌≡◌, sym, ◌∙◌, ap, ap₂, ℕ, Bool, true, false, not, ◌&&◌, ◌||◌, Option}
use Rattle.std.specs.Option.{option_map_or}
use Rattle.jr_tree.specs.declared.label.Role.TheVariants as role
use Rattle.jr_tree.specs.Rows.{Rows, role_at}
use Rattle.jr_defs.specs.Referents.{Table}
use Rattle.jr_plain.specs.Same.{same_role}
use Rattle.jr_plain.specs.Modifiers.{is_public, is_private, is_static, is_in_interface}
use Rattle.jr_plain.specs.Types.{is_same_signature}
use Rattle.jr_plain.specs.Supertypes.{is_above}
use Rattle.jr_plain.specs.Overriding as plain
use Rattle.jr_dispatch.specs.Overridden.{may_override}

-- the type of one method is strictly below that of another, where it is told which types declare them
abbrev pub below_by : Rows → Table → Option ℕ → Option ℕ → Bool
below_by p t a b = option_map_or (λ c. option_map_or (λ s. is_above p t c s) b false) a false

module _ (p : Rows) (t : Table) (m k : ℕ) (same : Bool) (is : same ≡ is_same_signature p t m k) (method : role_at p m ≡ role.Method) (other : role_at p k ≡ role.Method) where
  above_by : plain.is_above_method p t m k ≡ (may_override p m k same && plain.is_declared_below p t m k)
  above_by = ap₂ (λ a b. ((same_role a role.Method && same_role b role.Method && is_same_signature p t m k) && not (is_static p m) && not (is_private p k) && (not (is_in_interface p m) || is_public p k)) && plain.is_declared_below p t m k) method other
      ∙ ap (λ s. may_override p m k s && plain.is_declared_below p t m k) (sym is)

  pub above_refused : may_override p m k same ≡ false → false ≡ plain.is_above_method p t m k
  above_refused e = sym (above_by ∙ ap (λ b. b && plain.is_declared_below p t m k) e)

  pub above_allowed : may_override p m k same ≡ true → plain.is_declared_below p t m k ≡ plain.is_above_method p t m k
  above_allowed e = sym (above_by ∙ ap (λ b. b && plain.is_declared_below p t m k) e)
