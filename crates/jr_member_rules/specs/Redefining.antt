-- Rules 15 to 18, computed: what methods override and hide, their results, access, `static` and `final` (JLS 8.4.3.3, 8.4.5, 8.4.8.1 to 8.4.8.3).
use Rattle.std.specs.Prelude.{ℕ, Bool, false, not, ◌&&◌, ◌||◌, List, length, nat_eq, nat_lt}
use Rattle.std.specs.List.{list_any}
use Rattle.std.specs.Option.{option_map_or}
use Rattle.jr_tree.specs.Rows.{Rows, label}
use Rattle.jr_defs.specs.Referents.{Table}
use Rattle.jr_defs.specs.Modifiers.{written}
use Rattle.jr_plain.specs.Search.{all_such, among}
use Rattle.jr_plain.specs.Same.{same_pair}
use Rattle.jr_plain.specs.Enclosing.{declaring_type}
use Rattle.jr_plain.specs.Modifiers.{is_public, is_protected, is_private, is_static}
use Rattle.jr_plain.specs.Supertypes.{is_above}
use Rattle.jr_plain.specs.Members.{are_same_methods, can_inherit}
use Rattle.jr_plain.specs.Overloads.{is_result_fit}

-- the pairs of a method and one that it overrides
abbrev pub Pairs : Type 0
Pairs = List (ℕ × ℕ)

-- a type above c declares the member k
abbrev pub is_from_above : Rows → Table → ℕ → ℕ → Bool
is_from_above p t c k = option_map_or (λ s. is_above p t c s) (declaring_type p k) false

-- the static method m hides k, which its type would inherit if it declared nothing
abbrev pub is_hiding : Rows → Table → ℕ → ℕ → Bool
is_hiding p t m k = let rest = option_map_or (λ c. is_from_above p t c k && can_inherit p c k) (declaring_type p m) false in
    let both = are_same_methods p t m k && rest in is_static p m && both

-- m overrides or hides k
abbrev pub redefines : Rows → Table → Pairs → ℕ → ℕ → Bool
redefines p t over m k = among same_pair over (m, k) || is_hiding p t m k

-- the methods that m overrides
abbrev pub overridden : Rows → Pairs → ℕ → List ℕ
overridden p over m = all_such (length p) (λ k. among same_pair over (m, k))

-- the methods that m hides
abbrev pub hidden : Rows → Table → ℕ → List ℕ
hidden p t m = all_such (length p) (λ k. is_hiding p t m k)

-- the methods that m overrides or hides
abbrev pub redefined : Rows → Table → Pairs → ℕ → List ℕ
redefined p t over m = all_such (length p) (λ k. redefines p t over m k)

-- the member has the access of this number: private, package, protected, public
abbrev pub is_open_to : Rows → ℕ → ℕ → Bool
is_open_to p d level = (nat_eq level 3 && is_public p d) || ((nat_eq level 2 && is_protected p d) || ((nat_eq level 0 && is_private p d)
    || (nat_eq level 1 && (not (is_public p d) && (not (is_protected p d) && not (is_private p d))))))

-- the accesses of the member
abbrev pub accesses : Rows → ℕ → List ℕ
accesses p d = all_such 4 (λ level. is_open_to p d level)

-- an access of m is narrower than one of k
abbrev pub is_narrower : Rows → ℕ → ℕ → Bool
is_narrower p m k = list_any (λ a. list_any (λ b. nat_lt a b) (accesses p k)) (accesses p m)

-- m overrides or hides a method whose result its own does not fit
abbrev pub has_other_result : Rows → Table → Pairs → ℕ → Bool
has_other_result p t over m = list_any (λ k. not (is_result_fit p t m k)) (redefined p t over m)

-- m overrides or hides a method of wider access
abbrev pub is_narrowed : Rows → Table → Pairs → ℕ → Bool
is_narrowed p t over m = list_any (λ k. is_narrower p m k) (redefined p t over m)

-- a static method hides an instance method, or an instance method overrides a static one
abbrev pub is_mixed : Rows → Table → Pairs → ℕ → Bool
is_mixed p t over m = list_any (λ k. not (is_static p k)) (hidden p t m) || list_any (λ k. is_static p k) (overridden p over m)

-- m overrides or hides a final method
abbrev pub is_over_final : Rows → Table → Pairs → ℕ → Bool
is_over_final p t over m = list_any (λ k. (written (label p k)).is_final) (redefined p t over m)
