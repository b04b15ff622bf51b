-- A view with a way back, both ways round, is one to one and onto.
use Rattle.std.proofs.Common.{◌≡◌, sym, ap, ◌∙◌}
use Rattle.jr_tree.specs.Faithful.{IsOneToOne, IsOnto}

pub one_to_one : {A B : Type 0} (view : A → B) (back : B → A) → ((a : A) → back (view a) ≡ a) → IsOneToOne view
one_to_one view back round a b same = sym (round a) ∙ ap back same ∙ round b

pub onto : {A B : Type 0} (view : A → B) (back : B → A) → ((b : B) → view (back b) ≡ b) → IsOnto view
onto view back round b = (back b, round b)
