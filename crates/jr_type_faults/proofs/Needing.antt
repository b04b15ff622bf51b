-- Rows that need no object.
use Rattle.std.proofs.Common.{◌≡◌, refl, ℕ, Bool, None}
use Rattle.jr_tree.specs.declared.label.Label.{Label}
use Rattle.jr_tree.specs.declared.label.Label.TheVariants as is
use Rattle.jr_tree.specs.declared.label.ReceiverKind.{ReceiverKind}
use Rattle.jr_tree.specs.declared.label.ReceiverKind.TheVariants as on
use Rattle.jr_tree.specs.Rows.{Rows}
use Rattle.jr_defs.specs.Referents.{Table}
use Rattle.jr_rules.specs.ObjectTests.{object_of}

pub call_other : (p : Rows) (t : Table) (n : ℕ) (r : ReceiverKind) → (r ≡ on.Super → ⊥) → None ≡ object_of p t n (is.Call r)
call_other p t n on.Super apart = absurd (apart refl)
call_other p t n _ apart = refl

pub object_other : (p : Rows) (t : Table) (n : ℕ) (l : Label) → ((b : Bool) → l ≡ is.This b → ⊥) → (l ≡ is.SuperSelect → ⊥) → ((r : ReceiverKind) → l ≡ is.Call r → ⊥) → None ≡ object_of p t n l
object_other p t n (is.This b) h j k = absurd (h b refl)
object_other p t n is.SuperSelect h j k = absurd (j refl)
object_other p t n (is.Call r) h j k = absurd (k r refl)
object_other p t n _ h j k = refl
