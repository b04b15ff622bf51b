-- Types as they are written and declared, computed (JLS 4, 8.3, 8.4.1, 8.4.2, 10.2).
use Rattle.std.specs.Prelude.{ℕ, zero, suc, ◌+◌, Bool, true, false, ◌&&◌, if◌then◌else◌, List, [], ◌∷◌, length, Option, Some, None, option_map, nat_eq, bytes_eq}
use Rattle.jr_tree.specs.declared.label.Label.{Label}
use Rattle.jr_tree.specs.declared.label.Label.TheVariants as is
use Rattle.jr_tree.specs.declared.label.Role.TheVariants as role
use Rattle.jr_tree.specs.Rows.{Rows, label, name, parent, end, role_at}
use Rattle.jr_defs.specs.declared.referent.Element.TheVariants as element
use Rattle.jr_defs.specs.declared.referent.RowType.{RowType}
use Rattle.jr_defs.specs.declared.referent.Referent.{Referent}
use Rattle.jr_defs.specs.declared.referent.Referent.TheVariants.{Declared}
use Rattle.jr_defs.specs.Referents.{Table}
use Rattle.jr_defs.specs.Types.{element_of, array, plain, deeper, brackets_of, type_row}
use Rattle.jr_plain.specs.Same.{same_role, same_types}
use Rattle.jr_plain.specs.Declarations.{is_type}

-- the type to which a name refers
abbrev pub referred_type : Rows → Referent → Option ℕ
referred_type p (Declared c level) = if is_type p c then Some c else None
referred_type p _ = None

-- the type to which the name in the first child of n refers
abbrev pub named_type : Rows → Table → ℕ → Option ℕ
named_type p t n = if nat_eq (parent p (n + 1)) n then referred_type p (t (n + 1)) else None

-- the type that is written at n, by its label
abbrev pub type_by : Rows → Table → ℕ → Label → Option RowType
type_by p t n (is.TypeUse (Some e) dims) = Some (array (element_of e) dims)
type_by p t n (is.TypeUse None dims) = option_map (λ c. array (element.Class c) dims) (named_type p t n)
type_by p t n _ = None

abbrev pub type_at : Rows → Table → ℕ → Option RowType
type_at p t n = type_by p t n (label p n)

-- the type that is written at n, with the brackets behind the name d
abbrev pub with_brackets : Rows → Table → ℕ → ℕ → Option RowType
with_brackets p t d n = option_map (λ a. deeper a (brackets_of (label p d))) (type_at p t n)

-- the type of a variable, and that of a method's result, by its label
abbrev pub type_of_by : Rows → Table → ℕ → Label → Option RowType
type_of_by p t d (is.Field modifiers dims) = with_brackets p t d (type_row p d)
type_of_by p t d (is.Local is_final dims) = with_brackets p t d (type_row p d)
type_of_by p t d (is.Parameter is_final dims) = with_brackets p t d (d + 1)
type_of_by p t d (is.Method modifiers true has_body) = Some (plain element.Void)
type_of_by p t d (is.Method modifiers false has_body) = type_at p t (d + 1)
type_of_by p t d _ = None

abbrev pub type_of_declared : Rows → Table → ℕ → Option RowType
type_of_declared p t d = type_of_by p t d (label p d)

-- one more type before others
abbrev pub before : Option RowType → Option (List RowType) → Option (List RowType)
before (Some a) (Some more) = Some (a ∷ more)
before _ _ = None

-- the types of the parameters of m from its child k on, where those behind k are known
abbrev pub parameters_by : Rows → Table → ℕ → ℕ → Option (List RowType) → Option (List RowType)
parameters_by p t m k behind =
    if nat_eq (parent p k) m then (if same_role (role_at p k) role.Parameter then before (type_of_declared p t k) behind else behind) else Some []

abbrev pub parameters_from : Rows → Table → ℕ → ℕ → ℕ → Option (List RowType)
parameters_from p t m zero k = parameters_by p t m k None
parameters_from p t m (suc rounds) k = let behind = parameters_from p t m rounds (end p k) in parameters_by p t m k behind

-- the parameter types of a method or constructor; there are at most as many as rows
abbrev pub parameters : Rows → Table → ℕ → Option (List RowType)
parameters p t m = parameters_from p t m (length p) (m + 1)

abbrev pub are_same_types : Option (List RowType) → Option (List RowType) → Bool
are_same_types (Some a) (Some b) = same_types a b
are_same_types _ _ = false

-- one name and the same parameter types (JLS 8.4.2)
abbrev pub is_same_signature : Rows → Table → ℕ → ℕ → Bool
is_same_signature p t m k = bytes_eq (name p m) (name p k) && are_same_types (parameters p t m) (parameters p t k)
