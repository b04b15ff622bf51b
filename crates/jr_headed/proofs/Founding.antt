-- The tests of rows and tables tell whether these are well founded, and what follows then.
use Rattle.std.proofs.Common.{◌≡◌, ◌∙◌, subst, sym, ℕ, Bool, true, false, Decides, Result, Ok, Err, IfOk}
use Rattle.std.proofs.lemmas.Bool.{false≢true}
use Rattle.jr_tree.specs.Rows.{Rows}
use Rattle.jr_tree.specs.Local.{IsLocal}
use Rattle.jr_tree.proofs.Locals.{each_program_is_local}
use Rattle.jr_defs.specs.Referents.{Table}
use Rattle.jr_defs.specs.Declarations.{IsObject, IsInterface}
use Rattle.jr_defs.specs.Supertypes.{Above}
use Rattle.jr_plain.proofs.Tests.{like}
use Rattle.jr_supers.specs.declared.subtypes.Supers as code
use Rattle.jr_supers.specs.Supers.{IsWellHeaded, HasNoCycle, AreSupersOf}
use Rattle.jr_members.specs.Held.{ObjectIsBare}
use Rattle.jr_headed.specs.Founded.{IsProgram, AreWell, IsWellFounded}
use Rattle.jr_headed.proofs.Headed.{well_headed}

pub acyclic_told : (p : Rows) (t : Table) (supers : code.Supers) {E : Type 0} (found : Result Bool E) → (HasNoCycle p t → AreSupersOf p t supers) → IfOk found (λ is. is ≡ true → HasNoCycle p t)
    → (AreSupersOf p t supers → HasNoCycle p t → IfOk found (λ is. is ≡ true)) → IfOk found (λ is. Decides is (HasNoCycle p t))
acyclic_told p t supers (Ok is) all none told = (none, λ h. told (all h) h)
acyclic_told p t supers (Err x) all none told = tt

pub not_founded : (p : Rows) (t : Table) (is : Bool) → Decides is (AreWell p) → is ≡ false → Decides false (IsWellFounded p t)
not_founded p t is told fails = (λ e. absurd (false≢true e), λ h. absurd (false≢true (sym fails ∙ told.1 h.rows_are)))

-- ---- what follows

pub program_headed : (p : Rows) → IsProgram p → AreWell p → IsWellHeaded p
program_headed p program well = (well_headed p program.units program.shaped program.rows_are well.object).0

pub program_local : (p : Rows) → IsProgram p → IsLocal p
program_local p program = subst IsLocal (sym program.rows_are) (each_program_is_local program.units program.shaped)

-- Object is no interface, since it would be above itself
pub object_no_interface : (p : Rows) (t : Table) → HasNoCycle p t → (o : ℕ) → IsObject p o → IsInterface p o → ⊥
object_no_interface p t none o object i = none o (Above.object i object)

pub founded_told : (p : Rows) (t : Table) (is : Bool) → Decides is (AreWell p) → is ≡ true → IsProgram p → {E : Type 0} (found : Result Bool E)
    → (IsWellHeaded p → ObjectIsBare p → IfOk found (λ is. Decides is (HasNoCycle p t))) → IfOk found (λ is. Decides is (IsWellFounded p t))
founded_told p t is told holds program found acyclic = let well = told.0 holds in by found (acyclic (program_headed p program well) well.object.bare)
  where
    by : {E : Type 0} (found : Result Bool E) → IfOk found (λ is. Decides is (HasNoCycle p t)) → IfOk found (λ is. Decides is (IsWellFounded p t))
    by (Ok b) d = like d (λ none. record { rows_are = told.0 holds; none = none }) (λ h. h.none)
    by (Err x) d = tt
