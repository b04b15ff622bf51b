-- Local variables and parameters in scope at a place, by the rows that hold it (JLS 6.3, 6.3.1, 8.4.1, 14.4.2, 14.14.1, 14.20).
use Rattle.std.specs.Prelude.{◌≡◌, ℕ, ◌<◌, ◌≤◌, ◌⊎◌, List, [], ◌∷◌, Option, Some, None, length, if◌then◌else◌}
use Rattle.jr_base.specs.declared.text.Text.{Text}
use Rattle.jr_tree.specs.declared.label.Label.{Label}
use Rattle.jr_tree.specs.declared.label.Label.TheVariants as is
use Rattle.jr_tree.specs.declared.label.Role.TheVariants as role
use Rattle.jr_tree.specs.Rows.{Rows, label, parent, end, role_at}
use Rattle.jr_defs.specs.declared.referent.Space.TheVariants as space
use Rattle.jr_defs.specs.Referents.{Table}
use Rattle.jr_defs.specs.Scope.{within, InOneList, Visible}
use Rattle.jr_plain.specs.Search.{last_below}
use Rattle.jr_plain.specs.Lists.{or_else}
use Rattle.jr_plain.specs.Scope.{is_block}
use Rattle.jr_places.specs.Above.{block_of, holders}
use Rattle.jr_places.specs.Names.{name_row}
use Rattle.jr_members.specs.Keys.{falling}
use Rattle.jr_lookup.specs.Scopes.{is_local_before, is_parameter_of}

-- ---- the law

-- visible as far in as it is declared itself: so is a local or a parameter that none declared further in shadows, and none but these
-- (JLS 6.3.1, 8.4.1); a field is as far in as its type
abbrev pub IsVisibleLocal : Rows → Table → Text → ℕ → ℕ → Type 0
IsVisibleLocal p t x o d = Visible p t space.Variable x o d (within d)

-- a declaration of locals, what such ones stand in, and what has parameters
abbrev pub DeclaresLocals : Label → Type 0
DeclaresLocals is.Locals = Unit {0}
DeclaresLocals is.ForLocals = Unit {0}
DeclaresLocals _ = ⊥

abbrev pub HasLocals : Label → Type 0
HasLocals is.Block = Unit {0}
HasLocals (is.For first condition) = Unit {0}
HasLocals is.Switch = Unit {0}
HasLocals _ = ⊥

abbrev pub HasParameters : Label → Type 0
HasParameters (is.Method modifiers is_void has_body) = Unit {0}
HasParameters (is.Constructor modifiers) = Unit {0}
HasParameters is.Catch = Unit {0}
HasParameters _ = ⊥

-- locals and parameters stand where the grammar has them (JLS 8.4, 8.8, 14.4, 14.11, 14.14.1, 14.20)
pub record AreLocalsPlaced (p : Rows) : Type 0 where
  pub declared : (d : ℕ) → role_at p d ≡ role.Local → DeclaresLocals (label p (parent p d))
  pub inside : (d : ℕ) → role_at p d ≡ role.Local → HasLocals (label p (block_of p d))
  pub taken : (d : ℕ) → role_at p d ≡ role.Parameter → HasParameters (label p (parent p d))
  pub before : (d b : ℕ) → role_at p d ≡ role.Parameter → label p b ≡ is.Block → parent p b ≡ parent p d → d < b

-- ---- by the rows that hold the place; x is the number of the name

abbrev pub parameters_beside : Rows → ℕ → ℕ → List ℕ
parameters_beside p x h = if is_block (label p h) then falling (length p) (is_parameter_of p (parent p h) x) else []

abbrev pub or_these : Option ℕ → List ℕ → List ℕ
or_these (Some d) other = d ∷ []
or_these None other = other

-- of what is in scope up to the end of the row h: the last local before the place, or else the parameters
abbrev pub locals_in : Rows → ℕ → ℕ → ℕ → List ℕ
locals_in p x o h = or_these (last_below (length p) (is_local_before p h x o)) (parameters_beside p x h)

-- what the first of some rows has that has anything
abbrev pub first_with : (ℕ → List ℕ) → List ℕ → List ℕ
first_with of [] = []
first_with of (h ∷ more) = or_else (of h) (first_with of more)

abbrev pub locals_at : Rows → ℕ → ℕ → List ℕ
locals_at p x o = first_with (locals_in p x o) (holders p o)

-- ---- whose scope ends with a row

-- a local of the number, declared before the place, whose block ends with the row h
pub record IsLocalIn (p : Rows) (x o h d : ℕ) : Type 0 where
  pub local : role_at p d ≡ role.Local
  pub block : block_of p d ≡ h
  pub named : name_row p d ≡ x
  pub before : d < o

-- a parameter of the number, whose body is the row h
pub record IsParameterIn (p : Rows) (x h d : ℕ) : Type 0 where
  pub body : label p h ≡ is.Block
  pub parameter : role_at p d ≡ role.Parameter
  pub beside : parent p d ≡ parent p h
  pub named : name_row p d ≡ x

abbrev pub IsOwn : Rows → ℕ → ℕ → ℕ → ℕ → Type 0
IsOwn p x o h d = IsLocalIn p x o h d ⊎ IsParameterIn p x h d

-- of those of one row, none further in
pub record IsBestIn (p : Rows) (x o h d : ℕ) : Type 0 where
  pub own : IsOwn p x o h d
  pub innermost : (e : ℕ) → IsOwn p x o h e → (e ≤ d) ⊎ InOneList p e d

-- of those of the rows that hold k, none further in
pub record IsBest (p : Rows) (x o k d : ℕ) : Type 0 where
  pub row : ℕ
  pub from : row ≤ k
  pub until : k < end p row
  pub own : IsOwn p x o row d
  pub innermost : (g e : ℕ) → g ≤ k → k < end p g → IsOwn p x o g e → (e ≤ d) ⊎ InOneList p e d
