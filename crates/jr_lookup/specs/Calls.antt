-- What is looked up at a place, and calls by the types of their arguments (JLS 6.5, 15.9, 15.12).
use Rattle.std.specs.Prelude.{◌≡◌, ℕ, ◌+◌, ◌<◌, List, length, Option, Some}
use Rattle.jr_base.specs.declared.text.Text.{Text}
use Rattle.jr_tree.specs.declared.label.Sought.{Sought}
use Rattle.jr_tree.specs.declared.label.Sought.TheVariants as sought
use Rattle.jr_tree.specs.Rows.{Rows}
use Rattle.jr_defs.specs.declared.referent.RowType.{RowType}
use Rattle.jr_defs.specs.declared.referent.Referent.{Referent}
use Rattle.jr_defs.specs.Referents.{Table, entries}
use Rattle.jr_defs.specs.Constants.{HasConstantForm}
use Rattle.jr_defs.specs.Lookup.{Arguments, LookFor}
use Rattle.jr_plain.specs.Search.{Finds}
use Rattle.jr_lookup.specs.declared.simple.Sight.{Sight}
use Rattle.jr_lookup.specs.Locals.{AreLocalsPlaced}
use Rattle.jr_lookup.specs.Sights.{IsSight}
use Rattle.jr_lookup.specs.Behind.{NeedsValue}

-- the answer at the place o, where it seeks so
abbrev pub LookedFor : Rows → Table → ℕ → Text → Sought → Referent → Type 0
LookedFor p t o x s a = LookFor p t (HasConstantForm p t) o x s a

-- these are the types of the arguments of the call o, and no others are
abbrev pub AreArguments : Rows → Table → ℕ → List RowType → Type 0
AreArguments p t o all = Finds (Some all) (λ all. Arguments p t (HasConstantForm p t) o all)

-- ---- what is known at a place

-- what lookup reads at a place is as the table says, but for the types of what stands behind it
pub record CanSee (t : Table) (sight : Sight) (place : ℕ) : Type 0 where
  pub sight_is : IsSight t sight
  pub placed : AreLocalsPlaced sight.world.under.rows.now
  pub inside : place < length sight.world.under.rows.now
  pub same : entries sight.world.under.table.now (place + 1) ≡ t (place + 1)

-- where so is sought, types of expressions behind the place are asked for
abbrev pub NeedsTypes : Sought → Type 0
NeedsTypes (sought.Qualified k) = NeedsValue k
NeedsTypes sought.FieldOf = Unit {0}
NeedsTypes sought.Method = Unit {0}
NeedsTypes sought.MethodOf = Unit {0}
NeedsTypes sought.SuperMethod = Unit {0}
NeedsTypes sought.Creation = Unit {0}
NeedsTypes (sought.ConstructorCall w) = Unit {0}
NeedsTypes _ = ⊥
