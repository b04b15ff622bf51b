-- Rules 22 and 32, computed: constructors that call themselves round, and abstract classes and methods that are used (JLS 8.8.7, 15.9, 15.12.3).
use Rattle.std.specs.Prelude.{ℕ, Bool, true, false, ◌&&◌, ◌||◌, length, nat_eq}
use Rattle.jr_tree.specs.declared.tree.ThisOrSuper.TheVariants as which
use Rattle.jr_tree.specs.declared.label.Label.{Label}
use Rattle.jr_tree.specs.declared.label.Label.TheVariants as is
use Rattle.jr_tree.specs.declared.label.ReceiverKind.TheVariants as on
use Rattle.jr_tree.specs.declared.label.Role.TheVariants as role
use Rattle.jr_tree.specs.Rows.{Rows, label, parent, role_at}
use Rattle.jr_defs.specs.Referents.{Table}
use Rattle.jr_plain.specs.Search.{any_below, reaches}
use Rattle.jr_plain.specs.Same.{same_role}
use Rattle.jr_plain.specs.Modifiers.{is_abstract}
use Rattle.jr_plain.specs.Types.{named_type}
use Rattle.jr_rules.specs.TypedTests.{declared_row, found}
use Rattle.jr_rules.specs.ObjectTests.{is_new}

abbrev pub is_this_call : Label → Bool
is_this_call (is.ConstructorCall which.This) = true
is_this_call _ = false

-- the body of the constructor a calls the constructor b by `this(..)`
abbrev pub calls_by_this : Rows → Table → ℕ → ℕ → Bool
calls_by_this p t a b = same_role (role_at p a) role.Constructor
    && any_below (length p) (λ call. is_this_call (label p call) && nat_eq (parent p (parent p call)) a && found (declared_row (t call)) (λ d. nat_eq d b))

-- by such calls the constructor comes back to itself
abbrev pub calls_itself_round : Rows → Table → ℕ → Bool
calls_itself_round p t k = let around = reaches (length p) (calls_by_this p t) k k in same_role (role_at p k) role.Constructor && around

abbrev pub is_super_call : Label → Bool
is_super_call (is.Call on.Super) = true
is_super_call _ = false

-- a creation of an abstract class or an interface, or a call of an abstract method through `super`
abbrev pub abstract_is_used : Rows → Table → ℕ → Bool
abstract_is_used p t n = (is_new (label p n) && found (named_type p t n) (λ c. is_abstract p c)) || (is_super_call (label p n) && found (declared_row (t n)) (λ d. is_abstract p d))
