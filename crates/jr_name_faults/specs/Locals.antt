-- The scopes of locals, parameters and labels that the first rows open (JLS 8.4.1, 14.4.2, 14.7, 14.20).
use Rattle.std.specs.Prelude.{◌≡◌, ◌⊎◌, ℕ, ◌+◌, ◌<◌, ◌^◌, Bool, true, false, ◌&&◌, ◌||◌, if◌then◌else◌, List, is_some, length, nat_lt}
use Rattle.jr_tree.specs.declared.label.Label.TheVariants as is
use Rattle.jr_tree.specs.declared.label.Role.{Role}
use Rattle.jr_tree.specs.declared.label.Role.TheVariants as role
use Rattle.jr_tree.specs.Rows.{Rows, label, parent, end, role_at}
use Rattle.jr_defs.specs.Scope.{block_end}
use Rattle.jr_plain.specs.Same.{same_role}
use Rattle.jr_places.specs.Chains.{last_under}
use Rattle.jr_places.specs.Names.{name_row}
use Rattle.jr_members.specs.Keys.{entries_of}
use Rattle.jr_members.specs.Sources.{ArePlaced}
use Rattle.jr_lookup.specs.Scopes.{parameter_entry}
use Rattle.jr_name_faults.specs.declared.locals.Locals as code
use Rattle.jr_name_faults.specs.Ends.{end_in, opened, AreEndsOf}

-- what declares a name that is in scope up to an end: a local, a parameter or a label
abbrev pub has_scope : Role → Bool
has_scope role.Local = true
has_scope role.Parameter = true
has_scope role.Label = true
has_scope _ = false

-- a row of this role among the first n, which opens a scope to the end that it is given
pub record OpensAs (p : Rows) (kind : Role) (end_of : ℕ → ℕ) (n d e : ℕ) : Type 0 where
  pub role_is : role_at p d ≡ kind
  pub before : d < n
  pub ends : end_of d ≡ e

-- a local, to the end of its block
abbrev pub local_end : Rows → ℕ → ℕ
local_end p d = block_end p (parent p (parent p d))

abbrev pub OpensLocal : Rows → ℕ → ℕ → ℕ → Type 0
OpensLocal p n d e = OpensAs p role.Local (local_end p) n d e

-- a label, to the end of its statement
abbrev pub OpensLabel : Rows → ℕ → ℕ → ℕ → Type 0
OpensLabel p n d e = OpensAs p role.Label (end p) n d e

-- a parameter, to the end of the block beside it, which is among the first m rows
pub record OpensParameter (p : Rows) (m d e : ℕ) : Type 0 where
  pub parameter : role_at p d ≡ role.Parameter
  pub body : ℕ
  pub block : label p body ≡ is.Block
  pub beside : parent p body ≡ parent p d
  pub before : body < m
  pub ends : end p body ≡ e

abbrev pub OpensVariable : Rows → ℕ → ℕ → ℕ → ℕ → Type 0
OpensVariable p n m d e = OpensLocal p n d e ⊎ OpensParameter p m d e

-- the ends with the scope of the row n, whose name is x, where it is of the role
abbrev pub with_scope : Rows → Role → (ℕ → ℕ) → ℕ → ℕ → List ℕ → List ℕ
with_scope p kind end_of x n ends = if same_role (role_at p n) kind then opened ends x (end_of n) else ends

-- the first k rows gave the table of parameters, the scopes of the first n rows are opened, and the blocks among the first m
pub record AreLocalsTo (p : Rows) (k n m : ℕ) (locals : code.Locals) : Type 0 where
  pub rows_are : locals.rows.now ≡ p
  pub few : length p < 2 ^ 32
  pub placed : ArePlaced p locals.places.now
  pub variables_are : AreEndsOf p locals.variables.ends.items (OpensVariable p n m)
  pub labels_are : AreEndsOf p locals.labels.ends.items (OpensLabel p n)
  pub parameters_are : locals.parameters ≡ entries_of (parameter_entry p 0) k
  pub listed_are : locals.listed ≡ entries_of (λ d. parameter_entry p (name_row p d) d) n

-- before the row n, and once the scopes of the parameters beside it are opened
abbrev pub IsBefore : Rows → ℕ → code.Locals → Type 0
IsBefore p n locals = AreLocalsTo p (length p) n n locals

abbrev pub IsEntered : Rows → ℕ → code.Locals → Type 0
IsEntered p n locals = AreLocalsTo p (length p) n (n + 1) locals

-- a parameter, before which the table has one of the name x in its list
abbrev pub is_listed : code.Locals → ℕ → ℕ → Bool
is_listed locals x n = same_role (role_at locals.rows.now n) role.Parameter && is_some (last_under locals.listed (parent locals.rows.now n) x (length locals.listed))

-- a scope of the name x holds the row n, or its list of parameters has the name before it
abbrev pub is_inside : code.Locals → ℕ → ℕ → Bool
is_inside locals x n = nat_lt n (end_in locals.variables.ends.items x) || is_listed locals x n
