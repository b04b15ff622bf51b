-- In which ways a reference may be written, in their order (JLS 6.5, 6.7, 15.8.3, 15.8.4, 15.11, 15.12, 15.16).
use Rattle.std.specs.Prelude.{ℕ, zero, suc, ◌-◌, Bool, true, false, not, ◌&&◌, ◌||◌, if◌then◌else◌, List, [], ◌∷◌, ◌++◌, map, reverse, length, Option, Some, None, nat_eq, nat_lt}
use Rattle.std.specs.Option.{option_map_or, is_some}
use Rattle.jr_base.specs.declared.text.Text.{Text}
use Rattle.jr_tree.specs.declared.label.Label.{Label}
use Rattle.jr_tree.specs.declared.label.Label.TheVariants as is
use Rattle.jr_tree.specs.declared.label.NameKind.{NameKind}
use Rattle.jr_tree.specs.declared.label.NameKind.TheVariants as kind
use Rattle.jr_tree.specs.declared.label.Role.{Role}
use Rattle.jr_tree.specs.declared.label.Role.TheVariants as role
use Rattle.jr_tree.specs.declared.label.Sought.{Sought}
use Rattle.jr_tree.specs.declared.label.Sought.TheVariants as sought
use Rattle.jr_tree.specs.Rows.{Rows, label, name, parent, role_at, sought_at}
use Rattle.jr_defs.specs.declared.referent.Referent.{Referent}
use Rattle.jr_defs.specs.declared.referent.Referent.TheVariants.{Declared}
use Rattle.jr_defs.specs.declared.referent.RowType.{RowType}
use Rattle.jr_defs.specs.Referents.{Table}
use Rattle.jr_defs.specs.Types.{class_type}
use Rattle.jr_plain.specs.Access.{is_accessible}
use Rattle.jr_plain.specs.Enclosing.{innermost, declaring_type}
use Rattle.jr_plain.specs.Instances.{has_instance}
use Rattle.jr_plain.specs.Modifiers.{is_static}
use Rattle.jr_plain.specs.Overloads.{Types}
use Rattle.jr_shapes.specs.declared.spelling.Shape.{Shape}
use Rattle.jr_shapes.specs.declared.spelling.Shape.TheVariants as shape
use Rattle.jr_shapes.specs.declared.spelling.Suffix.{Suffix}
use Rattle.jr_shapes.specs.Names.{kept, kept_package, suffix}
use Rattle.jr_shapes.specs.Parts.{parts, receiver_of, type_of}
use Rattle.jr_with.specs.World.{Left, left_of}
use Rattle.jr_with.specs.Explicit.{nothing_before, of_value}
use Rattle.jr_spelling_rules.specs.Naming.{Before, at_start, in_type, left_behind, name_behind, kind_before, look_up, qualify}

-- one way in which a reference may be written
pub record Candidate : Type 0 where
  pub shape : Shape
  -- what stands before its dot
  pub left : Left
  -- how its identifier is sought there
  pub seeks : Sought
  -- what the identifiers of packages and types refer to that are written before it
  pub trace : List Referent
  -- the object that is written is that of the lock
  pub by_object : Bool
  -- it is a constant expression where it refers to a constant variable (JLS 15.28)
  pub is_constant_form : Bool

abbrev pub is_empty : {A : Type 0} → List A → Bool
is_empty [] = true
is_empty (x ∷ rest) = false

abbrev pub is_import_label : Label → Bool
is_import_label (is.Import form) = true
is_import_label _ = false

-- ---- what a reference is

-- the declaration that is referred to, and the type whose object it is reached through
abbrev pub target : Referent → Option ℕ
target (Declared d level) = Some d
target _ = None

abbrev pub level_of : Referent → Option ℕ
level_of (Declared d level) = level
level_of _ = None

abbrev pub is_call : Sought → Bool
is_call sought.Method = true
is_call sought.MethodOf = true
is_call sought.SuperMethod = true
is_call sought.Creation = true
is_call (sought.ConstructorCall which) = true
is_call _ = false

-- a name that is an expression
abbrev pub is_variable : Sought → Bool
is_variable (sought.Simple kind.Variable) = true
is_variable (sought.Qualified kind.Variable) = true
is_variable _ = false

-- the kind of its last identifier, where it is a name, and of those before it; what stands before a method is ambiguous (JLS 6.5.1)
abbrev pub kind_of : Sought → NameKind
kind_of (sought.Simple k) = k
kind_of (sought.Qualified k) = k
kind_of _ = kind.Variable

-- how it is sought behind a package or a type, or without one
abbrev pub method_behind : Before → Sought
method_behind at_start = sought.Method
method_behind _ = sought.MethodOf

abbrev pub sought_behind : Sought → Before → Sought
sought_behind s b = if is_call s then method_behind b else name_behind b (kind_of s)

-- how it is sought as a member of an object
abbrev pub sought_of_object : Sought → Sought
sought_of_object s = if is_call s then sought.MethodOf else sought.FieldOf

-- a member of what stands in its first child is sought; of every other call that child is an argument, and of a creation the class
abbrev pub has_left : Sought → Bool
has_left (sought.Qualified k) = true
has_left sought.FieldOf = true
has_left sought.MethodOf = true
has_left _ = false

-- what stands before its dot, where so is sought and the arguments have these types
abbrev pub left_standing : Sought → Option (List RowType) → Left → Left
left_standing s arguments l = record { named = l.named; value = if has_left s then l.value else None; path = l.path; arguments = arguments }

-- ---- names of types that are added

-- the identifiers, from the first one on
abbrev pub texts : Rows → List ℕ → List Text
texts p rows = reverse (map (λ n. name p n) rows)

-- the identifiers before the last one of the last so many and one of the canonical name of a type (JLS 6.7)
abbrev pub behind_first : List ℕ → List ℕ
behind_first [] = []
behind_first (n ∷ rest) = rest

abbrev pub names_before : Rows → ℕ → ℕ → List Text
names_before p c more = texts p (behind_first (suffix p (suc more) c))

-- how many identifiers the canonical name of a type has
abbrev pub name_length : Rows → ℕ → ℕ
name_length p c = length (suffix p (length p) c)

abbrev pub suffix_of : ℕ → ℕ → Suffix
suffix_of c count = record { of = c; count = count }

-- the name of a type that a spelling adds, and what its identifiers refer to
pub record Added : Type 0 where
  pub suffix : Suffix
  pub trace : List Referent

abbrev pub is_same_row : Option ℕ → ℕ → Bool
is_same_row (Some d) c = nat_eq d c
is_same_row None c = false

module _ (p : Rows) (t : Table) (n : ℕ) where
  -- what the last identifiers of the name of the type c refer to at the place n, so many before the last one, where that refers to c
  abbrev pub suffix_trace : NameKind → ℕ → ℕ → Option (List Referent)
  suffix_trace k c more = elim (qualify p t n (kind_before k) at_start (names_before p c more)) [
    | Some q ↦ if is_same_row (target (look_up p t n q.0 k (name p c))) c then Some (q.1 ++ look_up p t n q.0 k (name p c) ∷ []) else None
    | None ↦ None
  ]

  -- the first of them that does, of so many from one on
  abbrev pub suffix_from : NameKind → ℕ → ℕ → ℕ → Option Added
  suffix_from k c more zero = None
  suffix_from k c more (suc left) = elim (suffix_trace k c more) [
    | Some all ↦ Some (record { suffix = suffix_of c (suc more); trace = all })
    | None ↦ suffix_from k c (suc more) left
  ]

  -- the shortest end of the name of an accessible type that refers to it where an identifier of this kind stands
  abbrev pub added : NameKind → ℕ → Option Added
  added k c = if is_accessible p t c n None then suffix_from k c 0 (name_length p c) else None

  -- ---- what its lock says

  -- the innermost type round it, where that has an instance there (JLS 15.8.3)
  abbrev pub instance_round : Option ℕ
  instance_round = elim (innermost p n) [ Some c ↦ if has_instance p n c then Some c else None | None ↦ None ]

  -- the level of its lock, where that is this type (`this`)
  abbrev pub level_here : Option ℕ
  level_here = elim (level_of (t n)) [ Some l ↦ if is_same_row instance_round l then Some l else None | None ↦ None ]

  -- the level of its lock, where that has an instance there (`T.this`, JLS 15.8.4)
  abbrev pub level_with_instance : Option ℕ
  level_with_instance = elim (level_of (t n)) [ Some l ↦ if has_instance p n l then Some l else None | None ↦ None ]

  -- the type that declares what it must refer to
  abbrev pub declaring : Option ℕ
  declaring = elim (target (t n)) [ Some d ↦ declaring_type p d | None ↦ None ]

-- ---- ways to write it

module _ (p : Rows) (t : Table) (arguments : Option (List RowType)) (n : ℕ) where
  abbrev pub s : Sought
  s = sought_at p n

  abbrev pub with_arguments : Left → Left
  with_arguments l = record { named = l.named; value = l.value; path = l.path; arguments = arguments }

  -- as a member of the object of the lock, seen as one of the class c
  abbrev pub on_object : Shape → List Referent → ℕ → Candidate
  on_object shape trace c = record { shape = shape; left = with_arguments (of_value (Some (class_type c))); seeks = sought_of_object s; trace = trace; by_object = true; is_constant_form = false }

  -- behind a package or a type, or by its name alone
  abbrev pub behind : Shape → List Referent → Before → Candidate
  behind shape trace b = record { shape = shape; left = with_arguments (left_behind b); seeks = sought_behind s b; trace = trace; by_object = false; is_constant_form = is_variable s }

  -- behind these identifiers
  abbrev pub behind_names : Shape → List Text → List Candidate
  behind_names shape names = elim (qualify p t n (kind_before (kind_of s)) at_start names) [ Some q ↦ behind shape q.1 q.0 ∷ [] | None ↦ [] ]

  -- ---- an instance member without a receiver

  -- `this.x`
  abbrev pub on_this : List Candidate
  on_this = elim (level_here p t n) [ Some l ↦ on_object shape.This [] l ∷ [] | None ↦ [] ]

  -- `T.this.x`, T the level
  abbrev pub on_outer : List Candidate
  on_outer = elim (level_with_instance p t n) [
    | Some l ↦ elim (added p t n kind.Type l) [ Some a ↦ on_object (shape.Outer a.suffix) a.trace l ∷ [] | None ↦ [] ]
    | None ↦ []
  ]

  -- `super.x`, a field
  abbrev pub by_super : Candidate
  by_super = record { shape = shape.Super; left = with_arguments nothing_before; seeks = sought.SuperField; trace = []; by_object = true; is_constant_form = false }

  abbrev pub on_super : List Candidate
  on_super = if not (is_call s) && is_some (level_here p t n) then by_super ∷ [] else []

  -- `((S)this).x`, S the declaring type
  abbrev pub on_cast_this : List Candidate
  on_cast_this = elim (declaring p t n) [
    | Some c ↦ elim (added p t n kind.Type c) [ Some a ↦ on_object (shape.CastThis a.suffix) a.trace c ∷ [] | None ↦ [] ]
    | None ↦ []
  ]

  -- `((S)T.this).x`
  abbrev pub cast_outer : ℕ → Added → Added → Candidate
  cast_outer c a b = on_object (shape.CastOuter a.suffix b.suffix) (a.trace ++ b.trace) c

  abbrev pub on_cast_outer : List Candidate
  on_cast_outer = elim (declaring p t n) [
    | Some c ↦ elim (level_with_instance p t n) [
      | Some l ↦ elim (added p t n kind.Type c) [
        | Some a ↦ elim (added p t n kind.Type l) [ Some b ↦ cast_outer c a b ∷ [] | None ↦ [] ]
        | None ↦ []
      ]
      | None ↦ []
    ]
    | None ↦ []
  ]

  abbrev pub on_instance : List Candidate
  on_instance = on_this ++ (on_outer ++ (on_super ++ (if is_some (level_here p t n) then on_cast_this else on_cast_outer)))

  -- ---- a static member without a receiver, or behind a type

  -- `x`, where packages or types stand before it
  abbrev pub bare : List Candidate
  bare = if is_empty (parts p t n) then [] else behind_names shape.Bare []

  -- `T.x`, T the declaring type
  abbrev pub on_type : List Candidate
  on_type = elim (declaring p t n) [
    | Some c ↦ elim (added p t n kind.Ambiguous c) [ Some a ↦ behind (shape.Type a.suffix) a.trace (in_type c) ∷ [] | None ↦ [] ]
    | None ↦ []
  ]

  abbrev pub on_static : List Candidate
  on_static = bare ++ on_type

  -- ---- a member of an expression, and a field through `super`

  -- `((S)e).x`, S the declaring type
  abbrev pub on_cast : List Candidate
  on_cast = elim (declaring p t n) [
    | Some c ↦ elim (added p t n kind.Type c) [ Some a ↦ on_object (shape.Cast a.suffix) a.trace c ∷ [] | None ↦ [] ]
    | None ↦ []
  ]

  -- `((S)this).x` in place of `super.x`
  abbrev pub in_place_of_super : List Candidate
  in_place_of_super = if is_some (instance_round p t n) then on_cast_this else []

  -- ---- a type

  -- by so many identifiers before the last one of its own name
  abbrev pub named : ℕ → ℕ → List Candidate
  named c more = behind_names (shape.Named (suffix_of c (suc more))) (names_before p c more)

  -- the ends of its name, the shortest first, of so many from one on
  abbrev pub named_from : ℕ → ℕ → ℕ → List Candidate
  named_from c more zero = []
  named_from c more (suc left) = named c more ++ named_from c (suc more) left

  -- in an import by its whole name alone
  abbrev pub by_name : ℕ → List Candidate
  by_name c = if is_import_label (label p (parent p n)) then named c (name_length p c - 1) else named_from c 0 (name_length p c)

  -- ---- all but the old shape, by what is sought and what that is

  abbrev pub is_static_target : Bool
  is_static_target = elim (target (t n)) [ Some d ↦ is_static p d | None ↦ false ]

  abbrev pub as_member : List Candidate
  as_member = if is_some (receiver_of p t n) then on_cast else (if is_static_target then on_static else on_instance)

  abbrev pub by_role : Role → ℕ → List Candidate
  by_role role.Type d = by_name d
  by_role role.Field d = as_member
  by_role _ d = []

  abbrev pub as_name : List Candidate
  as_name = elim (target (t n)) [ Some d ↦ by_role (role_at p d) d | None ↦ [] ]

  abbrev pub others_by : Sought → List Candidate
  others_by (sought.Simple k) = as_name
  others_by (sought.Qualified k) = as_name
  others_by sought.FieldOf = on_cast
  others_by sought.SuperField = in_place_of_super
  others_by sought.Method = as_member
  others_by sought.MethodOf = as_member
  others_by _ = []

  abbrev pub others : List Candidate
  others = others_by s

-- ---- the old shape

-- the package before a reference as it would be written, if there is one
abbrev pub package_before : Rows → Table → Option ℕ → List ℕ → Option (List ℕ)
package_before p t behind [] = None
package_before p t behind (m ∷ rest) = elim (type_of p (t m)) [ Some c ↦ package_before p t (Some c) rest | None ↦ Some (kept_package p behind (m ∷ rest)) ]

-- the packages and types before a reference by their names now; none where a package would have to become the unnamed one
abbrev pub kept_names : Rows → Table → ℕ → Option (List Text)
kept_names p t n = if option_map_or is_empty (package_before p t (type_of p (t n)) (parts p t n)) false then None
    else Some (texts p (kept p t (type_of p (t n)) (parts p t n)))

abbrev pub stands_alone : Sought → Bool
stands_alone (sought.Simple k) = true
stands_alone sought.Method = true
stands_alone _ = false

-- it is written by identifiers alone
abbrev pub is_by_names : Rows → Table → ℕ → Bool
is_by_names p t n = stands_alone (sought_at p n) || not (is_empty (parts p t n))

module _ (p : Rows) (t : Table) (type_of : Types) (arguments : Option (List RowType)) (n : ℕ) where
  -- behind the expression, `super`, `new` or nothing that stands there
  abbrev pub as_it_stands : Candidate
  as_it_stands = record { shape = shape.Kept; left = left_standing (sought_at p n) arguments (left_of p t type_of n); seeks = sought_at p n; trace = []; by_object = false; is_constant_form = false }

  abbrev pub old : List Candidate
  old = if is_by_names p t n then elim (kept_names p t n) [ Some names ↦ behind_names p t arguments n shape.Kept names | None ↦ [] ] else as_it_stands ∷ []

  -- all, in their order; what stands in the prelude, before this row, has no text to change
  abbrev pub candidates : ℕ → List Candidate
  candidates first = old ++ (if nat_lt n first then [] else others p t arguments n)
