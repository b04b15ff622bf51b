-- Cores as finite maps: when two cores have the same look-ups, in whatever order their classes and bodies stand (JLS 8, 12.4, 15.12.4.4).
use Rattle.std.specs.Prelude.{◌≡◌, map, length, Option, Some, None}
use Rattle.std.specs.List.{IsDistinct}
use Rattle.jr_base.specs.declared.ids.DeclId.{DeclId}
use Rattle.jr_base.specs.declared.ids.TypeId.{TypeId}
use Rattle.jr_core.specs.declared.bodies.Class.{Class}
use Rattle.jr_core.specs.Mirror.{Body, Core}
use Rattle.jr_machine_defs.specs.Values.{same_decl, same_type}
use Rattle.jr_machine_defs.specs.Classes.{class_in, body_in, found_among}

-- two classes with the same supertypes, enclosing class and members, in which each call finds the same method (JLS 8.1, 15.12.4.4)
pub record AlikeClass (c d : Class) : Type 0 where
  pub parent : c.parent ≡ d.parent
  pub faces : c.faces ≡ d.faces
  pub outer : c.outer ≡ d.outer
  pub members : c.members ≡ d.members
  pub found : (method : DeclId) → found_among c.found method ≡ found_among d.found method

-- neither is a class, or both are, and these are alike
abbrev pub AlikeClasses : Option Class → Option Class → Type 0
AlikeClasses None None = Unit {0}
AlikeClasses None (Some d) = ⊥
AlikeClasses (Some c) None = ⊥
AlikeClasses (Some c) (Some d) = AlikeClass c d

-- two cores with alike classes, the same bodies, and as many classes; they may differ in the order of classes, of bodies, and of the methods that calls find
pub record SameCore (a b : Core) : Type 0 where
  pub classes : (id : TypeId) → AlikeClasses (class_in a id) (class_in b id)
  pub bodies : (decl : DeclId) → body_in a decl ≡ body_in b decl
  pub count : length a.classes ≡ length b.classes

-- the keys of classes, of bodies, and of the methods that calls find
abbrev pub id_of : Class → TypeId
id_of c = c.id

abbrev pub decl_of : Body → DeclId
decl_of b = b.decl

abbrev pub called : DeclId × DeclId → DeclId
called pair = pair.0

-- a core that is two finite maps: no two classes have one id, and no two bodies are of one declaration
pub record IsKeyed (core : Core) : Type 0 where
  pub classes : IsDistinct same_type (map id_of core.classes)
  pub bodies : IsDistinct same_decl (map decl_of core.bodies)
