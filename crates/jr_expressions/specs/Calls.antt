-- Calls and creations (JLS 8.8.7, 15.9, 15.12).
use Rattle.std.specs.Prelude.{ℕ, ◌+◌, Bool, true, false, if◌then◌else◌, List, [], ◌∷◌, Option, Some, None, option_map, nat_eq}
use Rattle.jr_core.specs.declared.code.Code.{Code}
use Rattle.jr_core.specs.declared.code.Code.TheVariants as c
use Rattle.jr_tree.specs.declared.tree.ThisOrSuper.{ThisOrSuper}
use Rattle.jr_tree.specs.declared.tree.ThisOrSuper.TheVariants as which
use Rattle.jr_tree.specs.declared.label.ReceiverKind.{ReceiverKind}
use Rattle.jr_tree.specs.declared.label.ReceiverKind.TheVariants as on
use Rattle.jr_defs.specs.declared.referent.RowType.{RowType}
use Rattle.jr_defs.specs.declared.referent.Referent.{Referent}
use Rattle.jr_defs.specs.declared.referent.Referent.TheVariants as r
use Rattle.jr_plain.specs.Enclosing.{constructed_class}
use Rattle.jr_plain.specs.Modifiers.{is_static, is_inner}
use Rattle.jr_codes.specs.Facts.{Facts}
use Rattle.jr_codes.specs.Making.{Below, Made, code, nothing, unknown, code_if, of_none}
use Rattle.jr_codes.specs.Conversions.{converted}
use Rattle.jr_expressions.specs.Names.{object}

-- an argument before others
abbrev pub before : Option Code → Option (List Code) → Option (List Code)
before (Some a) (Some all) = Some (a ∷ all)
before _ _ = None

-- arguments as values of the types of the parameters
abbrev pub arguments_as : Facts → List RowType → Below → Option (List Code)
arguments_as f [] [] = Some []
arguments_as f [] (part ∷ parts) = None
arguments_as f (a ∷ types) [] = None
arguments_as f (a ∷ types) ((m, x) ∷ parts) = before (converted f m a x) (arguments_as f types parts)

abbrev pub arguments_by : Option (List RowType) → Facts → Below → Option (List Code)
arguments_by None f parts = None
arguments_by (Some types) f parts = arguments_as f types parts

abbrev pub arguments : Facts → ℕ → Below → Option (List Code)
arguments f m parts = arguments_by (f.parameters m) f parts

-- ---- calls of methods

abbrev pub call_on : Facts → ℕ → Option Code → Bool → Below → Made
call_on f m receiver is_super parts = code_if (option_map (c.Call receiver is_super (f.decl m)) (arguments f m parts))

-- what stands before the dot, unless that is a type
abbrev pub call_behind : Facts → ℕ → ℕ → Below → Made
call_behind f n m [] = call_on f m None false []
call_behind f n m ((k, a) ∷ parts) = if nat_eq k (n + 1) then call_on f m (Some a) false parts else call_on f m None false ((k, a) ∷ parts)

-- no dot: a method of the object of the class as whose member it was found
abbrev pub call_alone : Facts → ℕ → Option Code → Below → Made
call_alone f m (Some on) parts = call_on f m (Some on) false parts
call_alone f m None parts = unknown

abbrev pub call_by : ReceiverKind → Facts → ℕ → ℕ → Option ℕ → Below → Made
call_by on.Absent f n m level parts = if is_static f.rows m then call_on f m None false parts else call_alone f m (object f level) parts
call_by on.Super f n m level parts = call_on f m None true parts
call_by on.Expression f n m level parts = call_behind f n m parts
call_by on.Name f n m level parts = call_behind f n m parts

abbrev pub call_made : Referent → ReceiverKind → Facts → ℕ → Below → Made
call_made (r.Declared m level) kind f n parts = call_by kind f n m level parts
call_made _ kind f n parts = unknown

-- ---- creations

-- the object that encloses the new one, where its class is an inner class (JLS 15.9.2)
abbrev pub is_of_inner : Facts → Option ℕ → Bool
is_of_inner f (Some class) = is_inner f.rows class
is_of_inner f None = false

abbrev pub new_in : Facts → ℕ → Option Code → Below → Made
new_in f k outer parts = code_if (option_map (c.New outer (f.decl k)) (arguments f k parts))

abbrev pub new_inside : Facts → ℕ → Option Code → Below → Made
new_inside f k (Some outer) parts = new_in f k (Some outer) parts
new_inside f k None parts = unknown

abbrev pub new_made : Referent → Facts → ℕ → Below → Made
new_made (r.Declared k level) f n parts = if is_of_inner f (constructed_class f.rows k) then new_inside f k (object f level) parts else new_in f k None parts
new_made _ f n parts = unknown

-- ---- calls of constructors

abbrev pub is_super_of : ThisOrSuper → Bool
is_super_of which.This = false
is_super_of which.Super = true

abbrev pub constructor_of : ThisOrSuper → Facts → ℕ → Below → Made
constructor_of w f k parts = code_if (option_map (c.CtorCall (is_super_of w) (f.decl k)) (arguments f k parts))

abbrev pub constructor_call_made : Referent → ThisOrSuper → Facts → Below → Made
constructor_call_made (r.Declared k level) w f parts = constructor_of w f k parts
constructor_call_made _ w f parts = unknown

-- the call `super()` of a constructor that begins with no call of a constructor; that of Object calls none
abbrev pub implicit_call_made : Referent → Facts → Below → Made
implicit_call_made (r.Declared k level) f parts = of_none parts (code (c.CtorCall true (f.decl k) []))
implicit_call_made _ f parts = nothing
