-- Bodies, members and the types round a place (JLS 8.1.6, 8.2, 9.1.4).
use Rattle.std.specs.Prelude.{◌≡◌, ◌⊎◌, ℕ, ◌<◌, ◌≤◌}
use Rattle.jr_tree.specs.declared.label.Label.TheVariants as is
use Rattle.jr_tree.specs.declared.label.Role.{Role}
use Rattle.jr_tree.specs.declared.label.Role.TheVariants as role
use Rattle.jr_tree.specs.Rows.{Rows, label, parent, end, role_at}
use Rattle.jr_defs.specs.Declarations.{IsType}

-- the row b is the body of the type c
pub record BodyOf (p : Rows) (c b : ℕ) : Type 0 where
  pub type : IsType p c
  pub body : label p b ≡ is.Body
  pub inside : parent p b ≡ c

-- the body of the type c holds the place o
pub record InBody (p : Rows) (c o : ℕ) : Type 0 where
  pub body : ℕ
  pub of_type : BodyOf p c body
  pub after : body < o
  pub before : o < end p body

-- the innermost type whose body holds the place
pub record Innermost (p : Rows) (o c : ℕ) : Type 0 where
  pub holds : InBody p c o
  pub innermost : (e : ℕ) → InBody p e o → e ≤ c

-- fields, methods and member types are members; constructors and initializers are not (JLS 8.2)
abbrev pub IsMemberRole : Role → Type 0
IsMemberRole role.Type = Unit {0}
IsMemberRole role.Field = Unit {0}
IsMemberRole role.Method = Unit {0}
IsMemberRole _ = ⊥

-- the row round a declaration, for a field the row round its declaration
abbrev pub holder : Role → Rows → ℕ → ℕ
holder role.Field p d = parent p (parent p d)
holder _ p d = parent p d

-- the body of c declares the member d
pub record DeclaredIn (p : Rows) (c d : ℕ) : Type 0 where
  pub member : IsMemberRole (role_at p d)
  pub inside : BodyOf p c (holder (role_at p d) p d)

-- k is a constructor of the class c (JLS 8.8)
pub record ConstructorOf (p : Rows) (c k : ℕ) : Type 0 where
  pub constructor : role_at p k ≡ role.Constructor
  pub inside : BodyOf p c (parent p k)

-- a type that its unit declares outside any other (JLS 7.6)
pub record IsTopLevel (p : Rows) (c : ℕ) : Type 0 where
  pub type : IsType p c
  pub inside : label p (parent p c) ≡ is.Unit

-- the top-level type k holds the place o
pub record InTopLevel (p : Rows) (k o : ℕ) : Type 0 where
  pub top : IsTopLevel p k
  pub from : k ≤ o
  pub before : o < end p k

-- both places stand in one top-level type
pub record SameTopLevel (p : Rows) (m n : ℕ) : Type 0 where
  pub top : ℕ
  pub first : InTopLevel p top m
  pub second : InTopLevel p top n
