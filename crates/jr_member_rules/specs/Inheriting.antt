-- Rules 14 to 17 and 19, computed: abstract methods that a class leaves, and inherited methods of one signature (JLS 8.1.1.1, 8.4.5, 8.4.8.4, 9.4.1, 15.12.4.4).
use Rattle.std.specs.Prelude.{ℕ, Bool, false, not, ◌&&◌, ◌||◌, List, length}
use Rattle.std.specs.List.{list_any, list_all}
use Rattle.std.specs.Option.{option_map_or}
use Rattle.jr_tree.specs.Rows.{Rows}
use Rattle.jr_defs.specs.Referents.{Table}
use Rattle.jr_plain.specs.Search.{any_below, has}
use Rattle.jr_plain.specs.Declarations.{is_type, is_class}
use Rattle.jr_plain.specs.Enclosing.{is_declared_in, declaring_type}
use Rattle.jr_plain.specs.Modifiers.{is_public, is_static, is_abstract}
use Rattle.jr_plain.specs.Supertypes.{is_above}
use Rattle.jr_plain.specs.Members.{are_same_methods, members}
use Rattle.jr_plain.specs.Overriding.{is_method, is_found}
use Rattle.jr_plain.specs.Overloads.{is_result_fit}
use Rattle.jr_member_rules.specs.Redefining.{is_narrower}
use Rattle.jr_member_rules.specs.Throwing.{declares_more}

-- of these members a public instance method that is not abstract has the signature of m
abbrev pub is_implemented : Rows → Table → List ℕ → ℕ → Bool
is_implemented p t all m = list_any (λ k. are_same_methods p t k m && (is_public p k && (not (is_static p k) && not (is_abstract p k)))) all

-- of these members an abstract method has no implementation among them
abbrev pub leaves_some : Rows → Table → List ℕ → Bool
leaves_some p t all = list_any (λ m. let lacking = not (is_implemented p t all m) in is_method p m && is_abstract p m && lacking) all

-- a class that is not abstract has such a member
abbrev pub leaves_abstract : Rows → Table → ℕ → Bool
leaves_abstract p t c = let leaves = leaves_some p t (members p t c) in is_class p c && not (is_abstract p c) && leaves

-- a call of m on an object of c finds an abstract method
abbrev pub finds_abstract : Rows → Table → ℕ → ℕ → Bool
finds_abstract p t c m = any_below (length p) (λ f. let found = is_found p t c m f in is_abstract p f && found)

-- the type that declares m is a class above c
abbrev pub is_of_class_above : Rows → Table → ℕ → ℕ → Bool
is_of_class_above p t c m = option_map_or (λ s. let above = is_above p t c s in is_class p s && above) (declaring_type p m) false

-- m is an abstract method of a class above c, and a call of it on an object of c finds an abstract one
abbrev pub is_unfound : Rows → Table → ℕ → ℕ → Bool
is_unfound p t c m = let unfound = let finds = finds_abstract p t c m in is_of_class_above p t c m && finds in is_method p m && is_abstract p m && unfound

-- a class that is not abstract has such a method above it
abbrev pub leaves_unfound : Rows → Table → ℕ → Bool
leaves_unfound p t c = let leaves = any_below (length p) (λ m. is_unfound p t c m) in is_class p c && not (is_abstract p c) && leaves

-- both methods are among these members of c, they have one signature, and c declares neither
abbrev pub inherits_both : Rows → Table → List ℕ → ℕ → ℕ → ℕ → Bool
inherits_both p t all c m k = has all m && has all k && are_same_methods p t m k && not (is_declared_in p c m) && not (is_declared_in p c k)

-- of these members of c, one is inherited with m, and the result of m does not fit its own
abbrev pub disagrees : Rows → Table → List ℕ → ℕ → ℕ → Bool
disagrees p t all c m = list_any (λ k. let other = not (is_result_fit p t m k) in inherits_both p t all c m k && other) all

-- of these members of c, a method that is not abstract disagrees with another
abbrev pub has_disagreeing : Rows → Table → List ℕ → ℕ → Bool
has_disagreeing p t all c = list_any (λ m. let other = disagrees p t all c m in not (is_abstract p m) && other) all

-- the type c inherits a method that is not abstract and disagrees with another
abbrev pub has_no_common_result : Rows → Table → ℕ → Bool
has_no_common_result p t c = let disagreeing = has_disagreeing p t (members p t c) c in is_type p c && disagreeing

-- of these members of c, each with the signature of m is abstract, and disagrees with another
abbrev pub all_disagree : Rows → Table → List ℕ → ℕ → ℕ → Bool
all_disagree p t all c m = list_all (λ k. let other = is_abstract p k && disagrees p t all c k in not (are_same_methods p t k m) || other) all

-- of these members of c, there is such a method
abbrev pub has_disagreeing_all : Rows → Table → List ℕ → ℕ → Bool
has_disagreeing_all p t all c = list_any (λ m. let disagreeing = all_disagree p t all c m in is_method p m && disagreeing) all

-- the type c inherits abstract methods of one signature, and the result of none of them fits those of all
abbrev pub has_no_abstract_result : Rows → Table → ℕ → Bool
has_no_abstract_result p t c = let disagreeing = has_disagreeing_all p t (members p t c) c in is_type p c && disagreeing

-- of these members of c, one that passes is inherited with another, and the two pass together
abbrev pub has_pair : Rows → Table → List ℕ → ℕ → (ℕ → Bool) → (ℕ → ℕ → Bool) → Bool
has_pair p t all c first two = list_any (λ m. let other = list_any (λ k. let together = two m k in inherits_both p t all c m k && together) all in first m && other) all

-- the type c inherits two such methods
abbrev pub inherits_pair : Rows → Table → ℕ → (ℕ → Bool) → (ℕ → ℕ → Bool) → Bool
inherits_pair p t c first two = let pair = has_pair p t (members p t c) c first two in is_type p c && pair

-- the type c inherits a method that is not abstract beside one of wider access
abbrev pub inherits_narrower : Rows → Table → ℕ → Bool
inherits_narrower p t c = inherits_pair p t c (λ m. not (is_abstract p m)) (λ m k. is_narrower p m k)

-- the type c inherits a static method beside an instance method
abbrev pub inherits_static : Rows → Table → ℕ → Bool
inherits_static p t c = inherits_pair p t c (λ m. is_static p m) (λ m k. not (is_static p k))

-- the type c inherits a method that is not abstract and declares more than one beside it allows
abbrev pub inherits_throwing : Rows → Table → ℕ → Bool
inherits_throwing p t c = inherits_pair p t c (λ m. not (is_abstract p m)) (λ m k. declares_more p t m k)
