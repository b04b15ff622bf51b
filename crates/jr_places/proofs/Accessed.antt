-- Access by labels.
use Rattle.std.proofs.Common.{◌≡◌, refl, ℕ, cond}
use Rattle.jr_tree.specs.declared.label.Label.{Label}
use Rattle.jr_tree.specs.declared.label.Label.TheVariants as is
use Rattle.jr_tree.specs.Rows.{Rows, label, parent}
use Rattle.jr_defs.specs.Modifiers.{written, access_of}
use Rattle.jr_plain.specs.Modifiers.{is_default_constructor}

by_label : (p : Rows) (d : ℕ) (l : Label) → label p d ≡ l → access_of p d ≡ cond (is_default_constructor l) (written (label p (parent p (parent p d)))) (written l)
by_label p d is.DefaultConstructor e = rw e refl
by_label p d _ e = rw e refl

pub access_is : (p : Rows) (d : ℕ) → access_of p d ≡ cond (is_default_constructor (label p d)) (written (label p (parent p (parent p d)))) (written (label p d))
access_is p d = by_label p d (label p d) refl
