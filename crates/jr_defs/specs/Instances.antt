-- Static contexts, and the classes that have an instance at a place (JLS 8.1.3, 8.3.2, 8.4.3.2, 8.8.7.1, 15.8.3, 15.8.4).
use Rattle.std.specs.Prelude.{◌≡◌, ◌⊎◌, ℕ, ◌<◌, ◌≤◌, Bool, IsTrue}
use Rattle.jr_tree.specs.declared.tree.ThisOrSuper.{ThisOrSuper}
use Rattle.jr_tree.specs.declared.label.Label.{Label}
use Rattle.jr_tree.specs.declared.label.Label.TheVariants as is
use Rattle.jr_tree.specs.Rows.{Rows, label, parent, end}
use Rattle.jr_defs.specs.Referents.{Table}
use Rattle.jr_defs.specs.Declarations.{IsInterface}
use Rattle.jr_defs.specs.Enclosing.{BodyOf, DeclaredIn, Innermost}
use Rattle.jr_defs.specs.Modifiers.{written, IsInner}

-- the code of a member is static: of a static method or initializer, or in the initializer of a static field
abbrev pub is_static_code : Label → Bool
is_static_code (is.Initializer is_static) = is_static
is_static_code other = (written other).is_static

-- the place stands in static code, or in a field of an interface
pub record InStaticContext (p : Rows) (o : ℕ) : Type 0 where
  pub type : ℕ
  pub innermost : Innermost p o type
  pub body : ℕ
  pub of_type : BodyOf p type body
  pub member : ℕ
  pub inside : parent p member ≡ body
  pub from : member ≤ o
  pub before : o < end p member
  pub static : IsTrue (is_static_code (label p member)) ⊎ IsInterface p type

-- the place is an argument of a call of a constructor, of the innermost class
pub record InConstructorCall (p : Rows) (o : ℕ) : Type 0 where
  pub call : ℕ
  pub target : ThisOrSuper
  pub calls : label p call ≡ is.ConstructorCall target
  pub after : call < o
  pub before : o < end p call

-- there is an instance of c at the place: of the innermost class, outside static contexts, and of the classes that enclose an instance
-- of an inner class (JLS 8.1.3)
pub data HasInstance (p : Rows) (o : ℕ) : ℕ → Type 0 where
  here : {c : ℕ} → Innermost p o c → (InStaticContext p o → ⊥) → HasInstance p o c
  around : {b c : ℕ} → HasInstance p o b → IsInner p b → DeclaredIn p c b → HasInstance p o c
