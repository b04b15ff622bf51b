-- How far two members are open, by the least and the most open access of each.
use Rattle.std.proofs.Common.{◌≡◌, refl, ℕ, Bool, true, false, not, ◌&&◌, ◌||◌, List, nat_eq, nat_lt}
use Rattle.std.specs.List.{list_any}
use Rattle.jr_tree.specs.Rows.{Rows}
use Rattle.jr_plain.specs.Search.{all_such}
use Rattle.jr_plain.specs.Modifiers.{is_private, is_protected, is_public}
use Rattle.jr_member_rules.specs.Redefining.{is_narrower}
use Rattle.jr_member_faults.specs.Redefined.{lowest, highest}

-- the accesses of a member that is private, protected or public
abbrev accesses_by : Bool → Bool → Bool → List ℕ
accesses_by a b c = all_such 4 (λ level. (nat_eq level 3 && c) || ((nat_eq level 2 && b) || ((nat_eq level 0 && a) || (nat_eq level 1 && (not c && (not b && not a))))))

abbrev narrower_by : Bool → Bool → Bool → Bool → Bool → Bool → Bool
narrower_by a b c d e f = list_any (λ x. list_any (λ y. nat_lt x y) (accesses_by d e f)) (accesses_by a b c)

narrower_is : (a b c d e f : Bool) → nat_lt (lowest a b c) (highest d e f) ≡ narrower_by a b c d e f
narrower_is true true true true true true = refl
narrower_is true true true true true false = refl
narrower_is true true true true false true = refl
narrower_is true true true true false false = refl
narrower_is true true true false true true = refl
narrower_is true true true false true false = refl
narrower_is true true true false false true = refl
narrower_is true true true false false false = refl
narrower_is true true false true true true = refl
narrower_is true true false true true false = refl
narrower_is true true false true false true = refl
narrower_is true true false true false false = refl
narrower_is true true false false true true = refl
narrower_is true true false false true false = refl
narrower_is true true false false false true = refl
narrower_is true true false false false false = refl
narrower_is true false true true true true = refl
narrower_is true false true true true false = refl
narrower_is true false true true false true = refl
narrower_is true false true true false false = refl
narrower_is true false true false true true = refl
narrower_is true false true false true false = refl
narrower_is true false true false false true = refl
narrower_is true false true false false false = refl
narrower_is true false false true true true = refl
narrower_is true false false true true false = refl
narrower_is true false false true false true = refl
narrower_is true false false true false false = refl
narrower_is true false false false true true = refl
narrower_is true false false false true false = refl
narrower_is true false false false false true = refl
narrower_is true false false false false false = refl
narrower_is false true true true true true = refl
narrower_is false true true true true false = refl
narrower_is false true true true false true = refl
narrower_is false true true true false false = refl
narrower_is false true true false true true = refl
narrower_is false true true false true false = refl
narrower_is false true true false false true = refl
narrower_is false true true false false false = refl
narrower_is false true false true true true = refl
narrower_is false true false true true false = refl
narrower_is false true false true false true = refl
narrower_is false true false true false false = refl
narrower_is false true false false true true = refl
narrower_is false true false false true false = refl
narrower_is false true false false false true = refl
narrower_is false true false false false false = refl
narrower_is false false true true true true = refl
narrower_is false false true true true false = refl
narrower_is false false true true false true = refl
narrower_is false false true true false false = refl
narrower_is false false true false true true = refl
narrower_is false false true false true false = refl
narrower_is false false true false false true = refl
narrower_is false false true false false false = refl
narrower_is false false false true true true = refl
narrower_is false false false true true false = refl
narrower_is false false false true false true = refl
narrower_is false false false true false false = refl
narrower_is false false false false true true = refl
narrower_is false false false false true false = refl
narrower_is false false false false false true = refl
narrower_is false false false false false false = refl

pub narrower : (p : Rows) (m k : ℕ) → nat_lt (lowest (is_private p m) (is_protected p m) (is_public p m)) (highest (is_private p k) (is_protected p k) (is_public p k)) ≡ is_narrower p m k
narrower p m k = narrower_is (is_private p m) (is_protected p m) (is_public p m) (is_private p k) (is_protected p k) (is_public p k)
