-- The class and the method with which a run starts (JLS 12.1.4).
use Rattle.std.specs.Prelude.{◌≡◌, ℕ, ◌+◌, ◌<◌, ◌^◌, Bool, true, false, ◌&&◌, List, [], ◌∷◌, length, Option, Some, None, Result, Ok, Err, nat_eq, nat_lt, bytes_eq, codes}
use Rattle.std.specs.Option.{option_map_or}
use Rattle.jr_base.specs.declared.text.Text.{Text}
use Rattle.jr_tree.specs.declared.label.Role.TheVariants as role
use Rattle.jr_tree.specs.Rows.{Rows, name, role_at}
use Rattle.jr_defs.specs.declared.referent.RowType.{RowType}
use Rattle.jr_defs.specs.Members.{MemberOf}
use Rattle.jr_defs.specs.Referents.{Table, entries}
use Rattle.jr_defs.specs.Types.{plain}
use Rattle.jr_plain.specs.Conversions.{is_plain, is_void}
use Rattle.jr_plain.specs.Declarations.{is_class}
use Rattle.jr_plain.specs.Modifiers.{is_static}
use Rattle.jr_plain.specs.Search.{first_below}
use Rattle.jr_plain.specs.Types.{parameters, type_of_declared}
use Rattle.jr_plain.specs.Typing.{is_string_type}
use Rattle.jr_supers.specs.Tabled.{IsSized}
use Rattle.jr_members.specs.declared.members.World.{World}
use Rattle.jr_dispatch.specs.Methods.{IsWholeWorld}
use Rattle.jr_marks.specs.declared.marks.Marks.{Marks}
use Rattle.jr_marks.specs.Places.{unit_of}
use Rattle.jr_change.specs.declared.project.Project.{Project}
use Rattle.jr_change.specs.declared.reason.Reason.TheVariants as reason
use Rattle.jr_run.specs.declared.fault.RunFault.{RunFault}
use Rattle.jr_run.specs.declared.fault.RunFault.TheVariants as fault
use Rattle.jr_run.specs.Names.{canonical_name}

-- ---- what is read

abbrev pub rows_in : World → Rows
rows_in world = world.under.rows.now

abbrev pub table_in : World → Table
table_in world = entries world.under.table.now

-- the world is that of the program under its table, and its rows can be counted
pub record IsReadWorld (world : World) : Type 0 where
  pub whole : IsWholeWorld (table_in world) world
  pub sized : IsSized (rows_in world)
  pub few : length (rows_in world) + 3 < 2 ^ 32

-- ---- the class

-- a class of this canonical name
abbrev pub is_class_named : Rows → Text → ℕ → Bool
is_class_named p x c = is_class p c && bytes_eq (canonical_name p c) x

abbrev pub class_named : Rows → Text → Option ℕ
class_named p x = first_below (length p) (λ c. is_class_named p x c)

-- the two units of the prelude stand before all others
abbrev pub is_in_prelude : Marks → ℕ → Bool
is_in_prelude marks c = nat_lt (unit_of marks c) 2

-- ---- the method

-- the type String[]
abbrev pub is_array_of_strings : Rows → RowType → Bool
is_array_of_strings p a = nat_eq a.dims 1 && is_string_type p (plain a.element)

-- one parameter, of the type String[]
abbrev pub is_of_strings : Rows → Option (List RowType) → Bool
is_of_strings p (Some (a ∷ [])) = is_array_of_strings p a
is_of_strings p _ = false

-- there is one, and its type is found
abbrev pub is_one : Option (List RowType) → Bool
is_one (Some (a ∷ [])) = true
is_one _ = false

abbrev pub is_void_type : Option RowType → Bool
is_void_type a = option_map_or (is_plain is_void) a false

-- a static void `main(String[])`
abbrev pub is_main : Rows → Table → ℕ → Bool
is_main p t m = bytes_eq (name p m) (codes "main") && (is_static p m && (is_void_type (type_of_declared p t m) && is_of_strings p (parameters p t m)))

-- the class declares or inherits it (JLS 8.4.8)
pub record IsStart (p : Rows) (t : Table) (c m : ℕ) : Type 0 where
  pub method : role_at p m ≡ role.Method
  pub main : is_main p t m ≡ true
  pub member : MemberOf p t c m

-- what is found is such a method, if the class has one
abbrev pub IsStartIn : Rows → Table → ℕ → Option ℕ → Type 0
IsStartIn p t c (Some m) = IsStart p t c m
IsStartIn p t c None = (m : ℕ) → IsStart p t c m → ⊥

-- ---- the start of a run of the class that is named, or why there is none

pub data IsStartOf (project : Project) (x : Text) : Result ℕ RunFault → Type 0 where
  start : {c m : ℕ} → class_named (rows_in project.view.sight.world) x ≡ Some c → is_in_prelude project.marks c ≡ false
      → IsStart (rows_in project.view.sight.world) (table_in project.view.sight.world) c m → IsStartOf project x (Ok m)
  no_class : class_named (rows_in project.view.sight.world) x ≡ None → IsStartOf project x (Err (fault.Bad reason.NoFile))
  in_prelude : {c : ℕ} → class_named (rows_in project.view.sight.world) x ≡ Some c → is_in_prelude project.marks c ≡ true → IsStartOf project x (Err (fault.Bad reason.InPrelude))
  no_main : {c : ℕ} → class_named (rows_in project.view.sight.world) x ≡ Some c → is_in_prelude project.marks c ≡ false
      → ((m : ℕ) → IsStart (rows_in project.view.sight.world) (table_in project.view.sight.world) c m → ⊥) → IsStartOf project x (Err (fault.Bad reason.WrongKind))
  no_memory : IsStartOf project x (Err fault.OutOfMemory)
