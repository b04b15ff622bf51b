-- That cores are the same is an equivalence.
use Rattle.std.proofs.Common.{◌≡◌, refl, sym, ◌∙◌, subst, Option, Some, None}
use Rattle.jr_core.specs.declared.bodies.Class.{Class}
use Rattle.jr_core.specs.Mirror.{Core}
use Rattle.jr_machine_defs.specs.Classes.{class_in}
use Rattle.jr_machine_laws.specs.SameCore.{AlikeClasses, SameCore}

alike_refl : (x : Option Class) → AlikeClasses x x
alike_refl None = tt
alike_refl (Some c) = record { parent = refl; faces = refl; outer = refl; members = refl; found = λ method. refl }

alike_sym : (x y : Option Class) → AlikeClasses x y → AlikeClasses y x
alike_sym None None h = tt
alike_sym None (Some d) h = absurd h
alike_sym (Some c) None h = absurd h
alike_sym (Some c) (Some d) h = record { parent = sym h.parent; faces = sym h.faces; outer = sym h.outer; members = sym h.members; found = λ method. sym (h.found method) }

pub alike_trans : (x y z : Option Class) → AlikeClasses x y → AlikeClasses y z → AlikeClasses x z
alike_trans None None None h k = tt
alike_trans None None (Some e) h k = absurd k
alike_trans None (Some d) z h k = absurd h
alike_trans (Some c) None z h k = absurd h
alike_trans (Some c) (Some d) None h k = absurd k
alike_trans (Some c) (Some d) (Some e) h k = record {
  parent = h.parent ∙ k.parent;
  faces = h.faces ∙ k.faces;
  outer = h.outer ∙ k.outer;
  members = h.members ∙ k.members;
  found = λ method. h.found method ∙ k.found method;
}

pub alike_from : (x y : Option Class) → x ≡ y → AlikeClasses x y
alike_from x y e = subst (AlikeClasses x) e (alike_refl x)

pub itself : (a : Core) → SameCore a a
itself a = record { classes = λ id. alike_refl (class_in a id); bodies = λ decl. refl; count = refl }

pub turned : (a b : Core) → SameCore a b → SameCore b a
turned a b h = record {
  classes = λ id. alike_sym (class_in a id) (class_in b id) (h.classes id);
  bodies = λ decl. sym (h.bodies decl);
  count = sym h.count;
}

pub joined : (a b c : Core) → SameCore a b → SameCore b c → SameCore a c
joined a b c h k = record {
  classes = λ id. alike_trans (class_in a id) (class_in b id) (class_in c id) (h.classes id) (k.classes id);
  bodies = λ decl. h.bodies decl ∙ k.bodies decl;
  count = h.count ∙ k.count;
}
