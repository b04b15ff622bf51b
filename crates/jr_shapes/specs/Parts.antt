-- What stands before the dot of a reference (JLS 6.5, 15.11, 15.12).
use Rattle.std.specs.Prelude.{ℕ, zero, suc, ◌+◌, ◌-◌, Bool, true, false, ◌&&◌, if◌then◌else◌, List, [], ◌∷◌, Option, Some, None, slice_index_or}
use Rattle.jr_tree.specs.declared.label.Label.{Label}
use Rattle.jr_tree.specs.declared.label.Label.TheVariants as is
use Rattle.jr_tree.specs.declared.label.ReceiverKind.{ReceiverKind}
use Rattle.jr_tree.specs.declared.label.ReceiverKind.TheVariants as on
use Rattle.jr_tree.specs.Rows.{Rows, label}
use Rattle.jr_defs.specs.declared.referent.Referent.{Referent}
use Rattle.jr_defs.specs.declared.referent.Referent.TheVariants.{Package, Declared}
use Rattle.jr_defs.specs.Referents.{Table}
use Rattle.jr_plain.specs.Declarations.{is_type}
use Rattle.jr_shapes.specs.declared.parts.Before.{Before}
use Rattle.jr_shapes.specs.declared.parts.Before.TheVariants.{Nothing, Name, Expression}

-- where what is below a row ends; the row itself where there is none
abbrev pub end_of : Rows → ℕ → ℕ
end_of p n = (slice_index_or p n (record { label = is.Skip; name = []; parent = n; end = n; previous = n })).end

-- a package, or a type
abbrev pub is_part : Rows → Referent → Bool
is_part p Package = true
is_part p (Declared d level) = is_type p d
is_part p _ = false

-- the type that is referred to
abbrev pub type_of : Rows → Referent → Option ℕ
type_of p (Declared d level) = if is_type p d then Some d else None
type_of p _ = None

abbrev pub before_call : ReceiverKind → Before
before_call on.Name = Name
before_call on.Expression = Expression
before_call _ = Nothing

abbrev pub before_name : Bool → Before
before_name is_qualified = if is_qualified then Name else Nothing

abbrev pub before_dot : Label → Before
before_dot (is.Name kind place is_qualified) = before_name is_qualified
before_dot (is.Call receiver) = before_call receiver
before_dot is.Select = Expression
before_dot _ = Nothing

abbrev pub before_at : Rows → ℕ → Before
before_at p n = before_dot (label p n)

abbrev pub is_name : Label → Bool
is_name (is.Name kind place is_qualified) = true
is_name _ = false

abbrev pub is_name_at : Rows → ℕ → Bool
is_name_at p n = is_name (label p n)

-- an identifier of a name that refers to a package or a type
abbrev pub is_qualifier : Rows → Table → ℕ → Bool
is_qualifier p t n = is_name_at p n && is_part p (t n)

-- of so many rows from one on, those before the first that is no qualifier
abbrev pub parts_from : Rows → Table → ℕ → ℕ → List ℕ
parts_from p t n zero = []
parts_from p t n (suc more) = if is_qualifier p t n then n ∷ parts_from p t (n + 1) more else []

abbrev pub parts_by : Before → Rows → Table → ℕ → List ℕ
parts_by Name p t n = parts_from p t n (end_of p n - n)
parts_by _ p t n = []

-- the package and type qualifiers of a reference, which follow its row, from the last one back
abbrev pub parts : Rows → Table → ℕ → List ℕ
parts p t n = parts_by (before_at p n) p t (n + 1)

abbrev pub receiver_by : Before → Rows → Table → ℕ → Option ℕ
receiver_by Nothing p t n = None
receiver_by Expression p t n = Some n
receiver_by Name p t n = if is_qualifier p t n then None else Some n

-- the expression before the dot of a reference, a variable among them
abbrev pub receiver_of : Rows → Table → ℕ → Option ℕ
receiver_of p t n = receiver_by (before_at p n) p t (n + 1)
