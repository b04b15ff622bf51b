-- Overriding, and the method that a call finds in a class, computed (JLS 8.4.8.1, 15.12.4.4).
use Rattle.std.specs.Prelude.{ℕ, Bool, true, false, not, ◌&&◌, ◌||◌, List, [], ◌∷◌, length, filter, flat_map, nat_eq, nat_le}
use Rattle.std.specs.List.{list_any, list_all}
use Rattle.std.specs.Option.{option_map_or}
use Rattle.jr_tree.specs.declared.label.Role.TheVariants as role
use Rattle.jr_tree.specs.Rows.{Rows, role_at}
use Rattle.jr_defs.specs.Referents.{Table}
use Rattle.jr_plain.specs.Search.{all_such, among, has, least}
use Rattle.jr_plain.specs.Same.{same_role, same_pair}
use Rattle.jr_plain.specs.Declarations.{is_type, types, is_class, is_interface}
use Rattle.jr_plain.specs.Enclosing.{declaring_type, declared_by}
use Rattle.jr_plain.specs.Modifiers.{is_public, is_protected, is_private, is_static, is_in_interface}
use Rattle.jr_plain.specs.Packages.{is_same_package}
use Rattle.jr_plain.specs.Supertypes.{superclasses, is_above, is_at_or_above}
use Rattle.jr_plain.specs.Members.{are_same_methods, is_member}

abbrev pub is_method : Rows → ℕ → Bool
is_method p m = same_role (role_at p m) role.Method

abbrev pub methods : Rows → List ℕ
methods p = all_such (length p) (λ m. is_method p m)

-- the type of m is strictly below that of k
abbrev pub is_declared_below : Rows → Table → ℕ → ℕ → Bool
is_declared_below p t m k = option_map_or (λ c. option_map_or (λ s. is_above p t c s) (declaring_type p k) false) (declaring_type p m) false

-- an instance method m and a method k of its signature, not private, in a type strictly above; where m is an interface's, k is public
abbrev pub is_above_method : Rows → Table → ℕ → ℕ → Bool
is_above_method p t m k = are_same_methods p t m k && not (is_static p m) && not (is_private p k) && (not (is_in_interface p m) || is_public p k) && is_declared_below p t m k

-- the methods that a class can reach in a type above
abbrev pub is_reachable : Rows → ℕ → ℕ → Bool
is_reachable p m k = is_public p k || (is_protected p k || is_same_package p m k)

-- the first of two methods overrides the second, where the set has such pairs (JLS 8.4.8.1)
abbrev pub is_overriding : Rows → Table → List (ℕ × ℕ) → ℕ × ℕ → Bool
is_overriding p t set pair = is_above_method p t pair.0 pair.1
    && (is_reachable p pair.0 pair.1 || list_any (λ j. among same_pair set (pair.0, j) && among same_pair set (j, pair.1)) (methods p))

-- the pairs of methods
abbrev pub method_pairs : Rows → List (ℕ × ℕ)
method_pairs p = flat_map (λ m. flat_map (λ k. (m, k) ∷ []) (methods p)) (methods p)

-- the methods and those that they override
abbrev pub overriding : Rows → Table → List (ℕ × ℕ)
overriding p t = least same_pair (method_pairs p) (is_overriding p t)

-- m overrides k, inherited or not
abbrev pub overrides : Rows → Table → ℕ → ℕ → Bool
overrides p t m k = among same_pair (overriding p t) (m, k)

-- the class has the method: it is a member of the class or of a type above it
abbrev pub has_method : Rows → Table → ℕ → ℕ → Bool
has_method p t c m = is_method p m && list_any (λ holder. is_at_or_above p t c holder && is_member p t holder m) (types p)

-- a method of an interface above c, and a public member of c of its signature
abbrev pub implements : Rows → Table → ℕ → ℕ → ℕ → Bool
implements p t c f m =
    are_same_methods p t f m && option_map_or (λ i. is_interface p i && is_above p t c i) (declaring_type p m) false && is_public p f && is_member p t c f

-- f serves a call of m on an object of the class c
abbrev pub serves : Rows → Table → ℕ → ℕ → ℕ → Bool
serves p t c m f = nat_eq f m || overrides p t f m || implements p t c f m

-- those that the class b declares and that serve
abbrev pub serving : Rows → Table → ℕ → ℕ → ℕ → List ℕ
serving p t c m b = filter (λ f. serves p t c m f) (declared_by p b)

-- f is among the methods, and none of them stands before it in the text
abbrev pub is_first_of : List ℕ → ℕ → Bool
is_first_of methods f = has methods f && list_all (λ g. nat_le f g) methods

-- there is none
abbrev pub is_none : List ℕ → Bool
is_none methods = not (list_any (λ f. true) methods)

-- the call finds f from s on: by the set, or since s is no type and has nothing above it
abbrev pub is_found_at : Rows → ℕ → ℕ → List ℕ → ℕ → Bool
is_found_at p m f set s = has set s || (not (is_type p s) && nat_eq f m)

-- from the class b up its superclasses the first that serves is f, where the set has classes above from which it is; where none does it is m itself
abbrev pub is_found_by : Rows → Table → ℕ → ℕ → ℕ → List ℕ → ℕ → Bool
is_found_by p t c m f set b = let own = serving p t c m b in let up = superclasses p t b in
    is_first_of own f || (is_none own && (list_any (is_found_at p m f set) up || (nat_eq f m && is_none up)))

-- the classes from which up the call finds f
abbrev pub finders : Rows → Table → ℕ → ℕ → ℕ → List ℕ
finders p t c m f = least nat_eq (types p) (is_found_by p t c m f)

abbrev pub is_found_from : Rows → Table → ℕ → ℕ → ℕ → ℕ → Bool
is_found_from p t c m b f = is_found_at p m f (finders p t c m f) b

-- a call of m in the class c finds f (JLS 15.12.4.4)
abbrev pub is_found : Rows → Table → ℕ → ℕ → ℕ → Bool
is_found p t c m f = ((is_private p m || is_static p m) && nat_eq f m) || (not (is_private p m || is_static p m) && is_found_from p t c m c f)

-- an edge of dispatch: the class has the method, and a call of it finds f
abbrev pub dispatches : Rows → Table → ℕ → ℕ → ℕ → Bool
dispatches p t c m f = is_class p c && has_method p t c m && is_found p t c m f
