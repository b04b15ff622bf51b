-- Lists of rows out of other lists.
use Rattle.std.proofs.Common.{Bool, true, false, ℕ, ◌<◌, List, [], ◌∷◌, ◌++◌, append-nil, length, get_or, subst, sym}
use Rattle.std.specs.List.{Contains}
use Rattle.std.proofs.lemmas.List.Elements.{All-nil, All-push, All-weaker, All-contains, All-contains_itself, Contains-get_or}
use Rattle.jr_members.specs.Each.{if_such}
use Rattle.jr_lookup.specs.Within.{IsWithin}

pub nothing : (all : List ℕ) → IsWithin all []
nothing all = record { each = All-nil (Contains all) }

pub itself : (all : List ℕ) → IsWithin all all
itself all = record { each = All-contains_itself all }

pub one_more : (all some : List ℕ) (i d : ℕ) → IsWithin all some → i < length all → IsWithin all (some ++ get_or all i d ∷ [])
one_more all some i d h k = record { each = All-push (Contains all) some (get_or all i d) h.each (Contains-get_or all i d k) }

-- one more, where it is such
pub one_if : (all some : List ℕ) (i d : ℕ) (is_such : Bool) → i < length all → IsWithin all some → IsWithin all (some ++ if_such is_such (get_or all i d))
one_if all some i d true k h = one_more all some i d h k
one_if all some i d false k h = subst (λ xs. IsWithin all xs) (sym (append-nil some)) h

pub further : (all some few : List ℕ) → IsWithin all some → IsWithin some few → IsWithin all few
further all some few h k = record { each = All-weaker (Contains some) (Contains all) (λ x m. All-contains (Contains all) some x h.each m) few k.each }
