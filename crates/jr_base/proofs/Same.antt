-- Types of the program and plain data are the same things.
use Rattle.std.proofs.Common.{◌≡◌, refl, sym, ap, ◌∙◌, subst}
use Rattle.jr_base.specs.Faithful.{IsOneToOne, IsOnto}
use Rattle.jr_base.specs.declared.ty.Ty as declared
use Rattle.jr_base.specs.declared.ty.Ty.{roll-Ty}
use Rattle.jr_base.specs.declared.ty.Ty.TheOpen.{Ty-F}
use Rattle.jr_base.specs.declared.ty.Ty.TheFolds.{map-Ty, fold-roll-Ty, ind-Ty}
use Rattle.jr_base.specs.Mirror as m

-- a view with a way back, both ways round, is one to one and onto
pub one_to_one : {A B : Type 0} (view : A → B) (back : B → A) → ((a : A) → back (view a) ≡ a) → IsOneToOne view
one_to_one view back round a b same = sym (round a) ∙ ap back same ∙ round b

pub onto : {A B : Type 0} (view : A → B) (back : B → A) → ((b : B) → view (back b) ≡ b) → IsOnto view
onto view back round b = (back b, round b)

abbrev pub tree_ty : m.Ty → declared.Ty
tree_ty m.Boolean = roll-Ty Ty-F.Boolean
tree_ty m.Byte = roll-Ty Ty-F.Byte
tree_ty m.Short = roll-Ty Ty-F.Short
tree_ty m.Char = roll-Ty Ty-F.Char
tree_ty m.Int = roll-Ty Ty-F.Int
tree_ty m.Long = roll-Ty Ty-F.Long
tree_ty m.Null = roll-Ty Ty-F.Null
tree_ty m.Void = roll-Ty Ty-F.Void
tree_ty (m.Class a) = roll-Ty (Ty-F.Class a)
tree_ty (m.Array a) = roll-Ty (Ty-F.Array (tree_ty a))

pub plain_tree_ty : (y : m.Ty) → m.plain_ty (tree_ty y) ≡ y
plain_tree_ty m.Boolean = fold-roll-Ty m.Ty m.ty_step Ty-F.Boolean
plain_tree_ty m.Byte = fold-roll-Ty m.Ty m.ty_step Ty-F.Byte
plain_tree_ty m.Short = fold-roll-Ty m.Ty m.ty_step Ty-F.Short
plain_tree_ty m.Char = fold-roll-Ty m.Ty m.ty_step Ty-F.Char
plain_tree_ty m.Int = fold-roll-Ty m.Ty m.ty_step Ty-F.Int
plain_tree_ty m.Long = fold-roll-Ty m.Ty m.ty_step Ty-F.Long
plain_tree_ty m.Null = fold-roll-Ty m.Ty m.ty_step Ty-F.Null
plain_tree_ty m.Void = fold-roll-Ty m.Ty m.ty_step Ty-F.Void
plain_tree_ty (m.Class a) = fold-roll-Ty m.Ty m.ty_step (Ty-F.Class a)
plain_tree_ty (m.Array a) = fold-roll-Ty m.Ty m.ty_step (Ty-F.Array (tree_ty a)) ∙ rw (plain_tree_ty a) refl

abbrev Back : declared.Ty → Type 0
Back y = tree_ty (m.plain_ty y) ≡ y

at_ty : (y : Ty-F ((z : declared.Ty) × Back z)) → Back (roll-Ty (map-Ty ((z : declared.Ty) × Back z) declared.Ty (λ p. p.0) y))
at_ty Ty-F.Boolean = ap tree_ty (fold-roll-Ty m.Ty m.ty_step Ty-F.Boolean)
at_ty Ty-F.Byte = ap tree_ty (fold-roll-Ty m.Ty m.ty_step Ty-F.Byte)
at_ty Ty-F.Short = ap tree_ty (fold-roll-Ty m.Ty m.ty_step Ty-F.Short)
at_ty Ty-F.Char = ap tree_ty (fold-roll-Ty m.Ty m.ty_step Ty-F.Char)
at_ty Ty-F.Int = ap tree_ty (fold-roll-Ty m.Ty m.ty_step Ty-F.Int)
at_ty Ty-F.Long = ap tree_ty (fold-roll-Ty m.Ty m.ty_step Ty-F.Long)
at_ty Ty-F.Null = ap tree_ty (fold-roll-Ty m.Ty m.ty_step Ty-F.Null)
at_ty Ty-F.Void = ap tree_ty (fold-roll-Ty m.Ty m.ty_step Ty-F.Void)
at_ty (Ty-F.Class a) = ap tree_ty (fold-roll-Ty m.Ty m.ty_step (Ty-F.Class a))
at_ty (Ty-F.Array a) = ap tree_ty (fold-roll-Ty m.Ty m.ty_step (Ty-F.Array a.0)) ∙ rw (a.1) refl

pub tree_plain_ty : (y : declared.Ty) → Back y
tree_plain_ty = ind-Ty Back (λ z y h. subst (λ z. Back (roll-Ty z)) h (at_ty y))
