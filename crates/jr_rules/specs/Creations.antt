-- Rules 22 and 32: constructors that call themselves round, and abstract classes and methods that are used (JLS 8.8.7, 15.9, 15.12.3).
use Rattle.std.specs.Prelude.{◌≡◌, ℕ, Option}
use Rattle.jr_tree.specs.declared.tree.ThisOrSuper.TheVariants as which
use Rattle.jr_tree.specs.declared.label.Label.TheVariants as is
use Rattle.jr_tree.specs.declared.label.ReceiverKind.TheVariants as on
use Rattle.jr_tree.specs.declared.label.Role.TheVariants as role
use Rattle.jr_tree.specs.Rows.{Rows, label, parent, role_at}
use Rattle.jr_defs.specs.declared.referent.Referent.TheVariants.{Declared}
use Rattle.jr_defs.specs.Referents.{Table}
use Rattle.jr_defs.specs.Modifiers.{IsAbstract}
use Rattle.jr_defs.specs.Types.{NamesType}
use Rattle.jr_plain.specs.Search.{Reaches}

-- the body of the constructor a calls the constructor b by `this(..)`
pub record CallsByThis (p : Rows) (t : Table) (a b : ℕ) : Type 0 where
  pub constructor : role_at p a ≡ role.Constructor
  pub call : ℕ
  pub calls : label p call ≡ is.ConstructorCall which.This
  pub inside : parent p (parent p call) ≡ a
  pub level : Option ℕ
  pub refers : t call ≡ Declared b level

-- rule 22: by such calls the constructor comes back to itself
abbrev pub CallsItselfRound : Rows → Table → ℕ → Type 0
CallsItselfRound p t k = Reaches (CallsByThis p t) k k

-- rule 32: a creation of an abstract class or an interface, or a call of an abstract method through `super`
pub data AbstractIsUsed (p : Rows) (t : Table) (n : ℕ) : Type 0 where
  by_creation : {c : ℕ} → label p n ≡ is.New → NamesType p t n c → IsAbstract p c → AbstractIsUsed p t n
  by_super_call : {d : ℕ} {level : Option ℕ} → label p n ≡ is.Call on.Super → t n ≡ Declared d level → IsAbstract p d → AbstractIsUsed p t n
