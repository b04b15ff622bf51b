-- The modifiers of declarations, with those that an interface gives its members (JLS 6.6, 8.1.1, 8.3.1, 8.4.3, 8.5.2, 9.3, 9.4, 9.5).
use Rattle.std.specs.Prelude.{◌≡◌, ◌⊎◌, ℕ, Bool, IsTrue, []}
use Rattle.jr_tree.specs.declared.label.Label.{Label}
use Rattle.jr_tree.specs.declared.label.Label.TheVariants as is
use Rattle.jr_tree.specs.declared.label.Modifiers.{Modifiers}
use Rattle.jr_tree.specs.declared.label.Role.TheVariants as role
use Rattle.jr_tree.specs.Decls.{modifiers_of}
use Rattle.jr_tree.specs.Rows.{Rows, label, parent, role_at}
use Rattle.jr_defs.specs.Declarations.{IsType, IsClass, IsInterface}
use Rattle.jr_defs.specs.Enclosing.{DeclaredIn, ConstructorOf}

-- the modifiers that are written
abbrev pub written : Label → Modifiers
written (is.Class modifiers is_member) = modifiers
written (is.Interface modifiers is_member) = modifiers
written (is.Fields modifiers) = modifiers
written (is.Field modifiers dims) = modifiers
written (is.Method modifiers is_void has_body) = modifiers
written (is.Constructor modifiers) = modifiers
written _ = modifiers_of []

-- a default constructor has the access of its class (JLS 8.8.9)
abbrev pub access_of : Rows → ℕ → Modifiers
access_of p d = access (label p d)
  where
    access : Label → Modifiers
    access is.DefaultConstructor = written (label p (parent p (parent p d)))
    access other = written other

-- a member that an interface declares
pub record InInterface (p : Rows) (d : ℕ) : Type 0 where
  pub of_type : ℕ
  pub interface : IsInterface p of_type
  pub declared : DeclaredIn p of_type d

-- the default constructor of a class that an interface declares
pub record IsDefaultInInterface (p : Rows) (d : ℕ) : Type 0 where
  pub default : label p d ≡ is.DefaultConstructor
  pub of_class : ℕ
  pub constructs : ConstructorOf p of_class d
  pub declared : InInterface p of_class

-- what an interface declares is public, and so is the default constructor of a class that it declares (JLS 8.8.9, 9.3, 9.4, 9.5)
abbrev pub IsPublic : Rows → ℕ → Type 0
IsPublic p d = IsTrue (access_of p d).is_public ⊎ InInterface p d ⊎ IsDefaultInInterface p d

abbrev pub IsProtected : Rows → ℕ → Type 0
IsProtected p d = IsTrue (access_of p d).is_protected

abbrev pub IsPrivate : Rows → ℕ → Type 0
IsPrivate p d = IsTrue (access_of p d).is_private

-- fields and types of interfaces are static, and so are member interfaces (JLS 9.3, 9.5, 8.5.2)
pub data IsStatic (p : Rows) : ℕ → Type 0 where
  written_so : {d : ℕ} → IsTrue (written (label p d)).is_static → IsStatic p d
  field : {d : ℕ} → role_at p d ≡ role.Field → InInterface p d → IsStatic p d
  type : {d : ℕ} → IsType p d → InInterface p d → IsStatic p d
  interface : {d : ℕ} → IsInterface p d → IsStatic p d

abbrev pub final_variable : Label → Bool
final_variable (is.Local is_final dims) = is_final
final_variable (is.Parameter is_final dims) = is_final
final_variable other = (written other).is_final

-- fields of interfaces are final (JLS 9.3)
pub data IsFinal (p : Rows) : ℕ → Type 0 where
  written_so : {d : ℕ} → IsTrue (final_variable (label p d)) → IsFinal p d
  field : {d : ℕ} → role_at p d ≡ role.Field → InInterface p d → IsFinal p d

-- methods of interfaces are abstract, and so is an interface itself (JLS 9.4, 9.1.1.1)
pub data IsAbstract (p : Rows) : ℕ → Type 0 where
  written_so : {d : ℕ} → IsTrue (written (label p d)).is_abstract → IsAbstract p d
  method : {d : ℕ} → role_at p d ≡ role.Method → InInterface p d → IsAbstract p d
  interface : {d : ℕ} → IsInterface p d → IsAbstract p d

-- a member class that is not static has objects with an enclosing object (JLS 8.1.3)
pub record IsInner (p : Rows) (c : ℕ) : Type 0 where
  pub class : IsClass p c
  pub around : ℕ
  pub member : DeclaredIn p around c
  pub instance : IsStatic p c → ⊥
