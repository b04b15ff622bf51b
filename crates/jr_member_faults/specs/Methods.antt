-- The faults of the rules on methods beside and above others (JLS 8.4.3.3, 8.4.5, 8.4.8).
use Rattle.std.specs.Prelude.{◌≡◌, ℕ, Bool, ◌||◌, List}
use Rattle.jr_tree.specs.Rows.{Rows}
use Rattle.jr_defs.specs.Referents.{Table}
use Rattle.jr_plain.specs.Overriding.{overriding}
use Rattle.jr_members.specs.declared.members.World.{World}
use Rattle.jr_rule.specs.declared.Fault.{Fault}
use Rattle.jr_rule.specs.declared.Rule.TheVariants as rule
use Rattle.jr_rule.specs.Faults.{AreFaultsOf}
use Rattle.jr_view.specs.declared.View.{View}
use Rattle.jr_member_rules.specs.Redefining.{is_over_final}
use Rattle.jr_member_rules.specs.Inheriting.{has_no_common_result, has_no_abstract_result, inherits_narrower, inherits_static, inherits_throwing}
use Rattle.jr_member_rules.specs.Computed.{leaves_methods, results_do_not_fit, access_is_narrowed, methods_are_mixed, more_is_thrown}
use Rattle.jr_member_faults.specs.declared.beside.Left.{Left}
use Rattle.jr_member_faults.specs.declared.redefining.Redefining.{Redefining}
use Rattle.jr_member_faults.specs.declared.faults.Methods.{Methods}
use Rattle.jr_member_faults.specs.Inherited.{AreLefts}
use Rattle.jr_member_faults.specs.Nearest.{AreKept, AreTelling}
use Rattle.jr_member_faults.specs.Redefined.{AreUppers}
use Rattle.jr_member_faults.specs.Thrown.{AreThrown}
use Rattle.jr_member_faults.specs.Views.{rows_of, table_of, IsRightWorld}

-- the faults of the rules that were added, at the rows that a test gives
pub record AreFaultsOn (world : World) (rows : (ℕ → Bool) → List ℕ) (old new : List Fault) : Type 0 where
  pub abstracts : AreFaultsOf rule.AbstractMembers (rows (leaves_methods (rows_of world) (table_of world))) old new
  pub results : AreFaultsOf rule.Results (rows (results_do_not_fit (rows_of world) (table_of world) (overriding (rows_of world) (table_of world)))) old new
  pub access : AreFaultsOf rule.NarrowedAccess (rows (access_is_narrowed (rows_of world) (table_of world) (overriding (rows_of world) (table_of world)))) old new
  pub statics : AreFaultsOf rule.StaticOverride (rows (methods_are_mixed (rows_of world) (table_of world) (overriding (rows_of world) (table_of world)))) old new
  pub finals : AreFaultsOf rule.FinalOverride (rows (is_over_final (rows_of world) (table_of world) (overriding (rows_of world) (table_of world)))) old new
  pub throws : AreFaultsOf rule.OverrideThrows (rows (more_is_thrown (rows_of world) (table_of world) (overriding (rows_of world) (table_of world)))) old new

-- the world and the thrown classes are right
pub record CanTell (redefining : Redefining) : Type 0 where
  pub right : IsRightWorld redefining.world.now
  pub thrown_are : AreThrown (rows_of redefining.world.now) redefining.thrown.now

-- what the row breaks by what it inherits as a type
pub record IsLeftAtRow (p : Rows) (t : Table) (n : ℕ) (left : Left) : Type 0 where
  pub abstracts : left.abstracts ≡ leaves_methods p t n
  pub results : left.results ≡ (has_no_common_result p t n || has_no_abstract_result p t n)
  pub access : left.access ≡ inherits_narrower p t n
  pub statics : left.statics ≡ inherits_static p t n
  pub throws : left.throws ≡ inherits_throwing p t n

-- the same, and what it overrides or hides, but for some over which it breaks no rule
pub record IsTold (world : World) (n : ℕ) (over : List ℕ) (left : Left) : Type 0 where
  pub over_are : AreTelling (rows_of world) (table_of world) n over
  pub left_is : IsLeftAtRow (rows_of world) (table_of world) n left

-- what the rules read is right
pub record AreRight (methods : Methods) : Type 0 where
  pub can : CanTell methods.redefining
  pub uppers_are : AreUppers methods.redefining.world.now methods.uppers
  pub kept_are : AreKept methods.redefining.world.now methods.uppers.apart
  pub lefts_are : AreLefts methods.redefining.world.now methods.lefts.items

-- it is that of the view, where its world is right
pub record AreMethodsIn (view : View) (methods : Methods) : Type 0 where
  pub world_is : methods.redefining.world.now ≡ view.sight.world
  pub are : IsRightWorld view.sight.world → AreRight methods
