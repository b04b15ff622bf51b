-- Bodies, members and the types round a place, computed (JLS 8.1.6, 8.2, 9.1.4).
use Rattle.std.specs.Prelude.{ℕ, zero, suc, ◌+◌, Bool, true, false, not, ◌&&◌, if◌then◌else◌, List, [], ◌∷◌, ◌++◌, length, filter, flat_map, Option, Some, None, nat_eq, nat_lt, nat_le}
use Rattle.jr_tree.specs.declared.label.Label.{Label}
use Rattle.jr_tree.specs.declared.label.Label.TheVariants as is
use Rattle.jr_tree.specs.declared.label.Role.{Role}
use Rattle.jr_tree.specs.declared.label.Role.TheVariants as role
use Rattle.jr_tree.specs.Rows.{Rows, label, parent, end, role_at}
use Rattle.jr_defs.specs.Enclosing.{holder}
use Rattle.jr_plain.specs.Search.{any_below, first_below, last_below}
use Rattle.jr_plain.specs.Same.{same_role}
use Rattle.jr_plain.specs.Declarations.{is_type}

-- the rows right below n from its child k on, at most so many
abbrev pub children_from : Rows → ℕ → ℕ → ℕ → List ℕ
children_from p n zero k = []
children_from p n (suc rounds) k = let behind = children_from p n rounds (end p k) in if nat_eq (parent p k) n then k ∷ behind else []

-- the rows right below n: the first stands behind n, each other one where the one before it ends
abbrev pub children : Rows → ℕ → List ℕ
children p n = children_from p n (length p) (n + 1)

abbrev pub is_body : Label → Bool
is_body is.Body = true
is_body _ = false

abbrev pub is_unit : Label → Bool
is_unit is.Unit = true
is_unit _ = false

-- the row b is the body of the type c
abbrev pub is_body_of : Rows → ℕ → ℕ → Bool
is_body_of p c b = is_type p c && is_body (label p b) && nat_eq (parent p b) c

-- the body of the type c holds the place o
abbrev pub is_in_body : Rows → ℕ → ℕ → Bool
is_in_body p c o = any_below (length p) (λ b. is_body_of p c b && nat_lt b o && nat_lt o (end p b))

-- the innermost type whose body holds the place
abbrev pub innermost : Rows → ℕ → Option ℕ
innermost p o = last_below (length p) (λ c. is_in_body p c o)

-- fields, methods and member types are members; constructors and initializers are not (JLS 8.2)
abbrev pub is_member_role : Role → Bool
is_member_role role.Type = true
is_member_role role.Field = true
is_member_role role.Method = true
is_member_role _ = false

-- the body of c declares the member d
abbrev pub is_declared_in : Rows → ℕ → ℕ → Bool
is_declared_in p c d = is_member_role (role_at p d) && is_body_of p c (holder (role_at p d) p d)

-- the type whose body declares the member d
abbrev pub declaring_type : Rows → ℕ → Option ℕ
declaring_type p d = let c = parent p (holder (role_at p d) p d) in if is_declared_in p c d then Some c else None

-- the members that the row k right below a body declares: itself, or the fields below it
abbrev pub declared_at : Rows → ℕ → List ℕ
declared_at p k =
    (if is_member_role (role_at p k) && not (same_role (role_at p k) role.Field) then k ∷ [] else []) ++ filter (λ d. same_role (role_at p d) role.Field) (children p k)

-- the members that the body of c declares
abbrev pub declared_by : Rows → ℕ → List ℕ
declared_by p c = flat_map (λ b. if is_body_of p c b then flat_map (declared_at p) (children p b) else []) (children p c)

-- k is a constructor of the class c (JLS 8.8)
abbrev pub is_constructor_of : Rows → ℕ → ℕ → Bool
is_constructor_of p c k = same_role (role_at p k) role.Constructor && is_body_of p c (parent p k)

-- the class of the constructor k
abbrev pub constructed_class : Rows → ℕ → Option ℕ
constructed_class p k = let c = parent p (parent p k) in if is_constructor_of p c k then Some c else None

-- a type that its unit declares outside any other (JLS 7.6)
abbrev pub is_top_level : Rows → ℕ → Bool
is_top_level p c = is_type p c && is_unit (label p (parent p c))

-- the top-level type k holds the place o
abbrev pub is_in_top_level : Rows → ℕ → ℕ → Bool
is_in_top_level p k o = is_top_level p k && nat_le k o && nat_lt o (end p k)

abbrev pub top_level_of : Rows → ℕ → Option ℕ
top_level_of p o = first_below (length p) (λ k. is_in_top_level p k o)

-- both places stand in one top-level type
abbrev pub is_same_top_level : Rows → ℕ → ℕ → Bool
is_same_top_level p m n = any_below (length p) (λ k. is_in_top_level p k m && is_in_top_level p k n)
