-- What a choice among overloads is made from, and the steps of it (JLS 15.12.2, 8.4.8.4, 8.4.5).
use Rattle.std.specs.Prelude.{◌≡◌, ℕ, ◌<◌, Bool, true, false, if◌then◌else◌, List, [], ◌∷◌, get_or, slice_get, Option, Some, None, nat_eq, nat_lt}
use Rattle.std.specs.Option.{option_map_or}
use Rattle.jr_tree.specs.Rows.{Rows, role_at}
use Rattle.jr_defs.specs.declared.referent.RowType.{RowType}
use Rattle.jr_defs.specs.Referents.{Table, entries}
use Rattle.jr_defs.specs.Supertypes.{Super}
use Rattle.jr_defs.specs.Members.{MemberOf}
use Rattle.jr_defs.specs.Overloads.{Earlier}
use Rattle.jr_plain.specs.Search.{has}
use Rattle.jr_plain.specs.Types.{type_of_declared, parameters}
use Rattle.jr_plain.specs.Supertypes.{is_subtype}
use Rattle.jr_plain.specs.Overloads.{are_subtypes}
use Rattle.jr_supers.specs.Tabled.{IsSized, is_callable}
use Rattle.jr_members.specs.declared.members.World.{World}
use Rattle.jr_members.specs.Held.{ObjectIsBare}
use Rattle.jr_members.specs.Worlds.{IsWorld}
use Rattle.jr_lookup.specs.declared.choice.Step.{Step}
use Rattle.jr_lookup.specs.declared.choice.Step.TheVariants as step

-- methods and constructors, in rows of a program with the prelude
pub record AreCandidates (t : Table) (world : World) (all : List ℕ) : Type 0 where
  pub world_is : IsWorld t world
  pub bare : ObjectIsBare world.under.rows.now
  pub callable : (m : ℕ) → has all m ≡ true → is_callable (role_at world.under.rows.now m) ≡ true

-- the results of methods have the same types under the table of the world
pub record AreResults (t : Table) (world : World) : Type 0 where
  pub sized : IsSized world.under.rows.now
  pub same : (m : ℕ) → is_callable (role_at world.under.rows.now m) ≡ true
      → type_of_declared world.under.rows.now (entries world.under.table.now) m ≡ type_of_declared world.under.rows.now t m

-- the items of a list
abbrev pub IsAmong : List ℕ → ℕ → Type 0
IsAmong all m = has all m ≡ true

abbrev pub is_some_subtype : Rows → Table → Option RowType → Option RowType → Bool
is_some_subtype p t (Some a) (Some b) = is_subtype p t a b
is_some_subtype p t _ _ = false

-- each argument is of a subtype of the parameter at its place (JLS 15.12.2.2)
abbrev pub takes : Rows → Table → List RowType → ℕ → Bool
takes p t arguments m = option_map_or (λ all. are_subtypes p t arguments all) (parameters p t m) false

-- the better of two, by a test: the second, unless the first is better
abbrev pub better : (ℕ → ℕ → Bool) → ℕ → ℕ → ℕ
better test m k = if test m k then m else k

abbrev pub best : (ℕ → ℕ → Bool) → ℕ → List ℕ → ℕ
best test m [] = m
best test m (k ∷ more) = best test (better test m k) more

-- ---- the order of inheritance

-- of the first types of a list, the last that has the member d
abbrev pub IsLastWith : Rows → Table → List ℕ → ℕ → ℕ → Option ℕ → Type 0
IsLastWith p t all d bound None = (i : ℕ) → i < bound → MemberOf p t (get_or all i 0) d → ⊥
IsLastWith p t all d bound (Some n) = (n < bound) × MemberOf p t (get_or all n 0) d × ((i : ℕ) → n < i → i < bound → MemberOf p t (get_or all i 0) d → ⊥)

abbrev pub within_at : Option ℕ → Step
within_at None = step.Later
within_at (Some s) = step.Within s

abbrev pub within : List ℕ → ℕ → Step
within all n = within_at (slice_get all n)

-- what two places say, counted from the last supertype back
abbrev pub step_by : List ℕ → Option ℕ → Option ℕ → Step
step_by all (Some m) (Some n) = if nat_lt n m then step.Earlier else (if nat_eq m n then within all m else step.Later)
step_by all _ _ = step.Later

-- what the direct supertypes of c say of the order of d and e
abbrev pub IsStep : Rows → Table → ℕ → ℕ → ℕ → Step → Type 0
IsStep p t c d e step.Earlier = Earlier p t c d e
IsStep p t c d e step.Later = Earlier p t c d e → ⊥
IsStep p t c d e (step.Within s) = Super p t c s × (Earlier p t c d e → Earlier p t s d e) × (Earlier p t s d e → Earlier p t c d e)
