-- The rules on exceptions, computed (JLS 8.4.6, 8.6, 8.7, 8.8.5, 11.2, 14.18, 14.20).
use Rattle.std.specs.Prelude.{ℕ, zero, suc, ◌+◌, ◌<◌, Decides, Bool, true, false, not, ◌&&◌, ◌||◌, if◌then◌else◌, List, [], ◌∷◌, codes, length, flat_map, Option, Some, None, option_and_then, nat_eq, slice_index_or}
use Rattle.std.specs.List.{list_any, list_all}
use Rattle.jr_tree.specs.declared.label.Label.{Label}
use Rattle.jr_tree.specs.declared.label.Label.TheVariants as is
use Rattle.jr_tree.specs.declared.label.Role.TheVariants as role
use Rattle.jr_tree.specs.Rows.{Rows, label, parent, role_at}
use Rattle.jr_defs.specs.declared.referent.Element.{Element}
use Rattle.jr_defs.specs.declared.referent.Element.TheVariants as element
use Rattle.jr_defs.specs.declared.referent.RowType.{RowType}
use Rattle.jr_defs.specs.Referents.{Table}
use Rattle.jr_plain.specs.Search.{any_below, all_such, has}
use Rattle.jr_plain.specs.Same.{same_role}
use Rattle.jr_plain.specs.Declarations.{is_prelude}
use Rattle.jr_plain.specs.Enclosing.{children}
use Rattle.jr_plain.specs.Modifiers.{is_static}
use Rattle.jr_plain.specs.Overloads.{Types}
use Rattle.jr_plain.specs.Supertypes.{is_at_or_above}
use Rattle.jr_plain.specs.Types.{type_of_declared}
use Rattle.jr_plain.specs.Typing.{first}
use Rattle.jr_places.specs.declared.chains.Entry.{Entry}
use Rattle.jr_supers.specs.Pairs.{has_pair, with_pair}
use Rattle.jr_supers.specs.Tabled.{declared}
use Rattle.jr_rules.specs.StatementTests.{is_catch, is_other_name}
use Rattle.jr_rules.specs.TypedTests.{found}
use Rattle.jr_member_rules.specs.Throwing.{is_checked}
use Rattle.jr_flow_faults.specs.declared.guards.Guard.{Guard}
use Rattle.jr_flow_faults.specs.declared.guards.Guard.TheVariants as guard
use Rattle.jr_flow_faults.specs.Exceptions.{IsCatchOf}
use Rattle.jr_flow_faults.specs.Outwards.{guard_of, is_try, loses_by}
use Rattle.jr_flow_faults.specs.Computed.{is_block, is_it, last_part}
use Rattle.jr_flow_faults.specs.declared.facts.Part.TheVariants as part

-- ---- what is thrown

-- the types in a list
abbrev pub types_of : List (Option RowType) → Types
types_of types n = slice_index_or types n None

abbrev pub is_invocation : Label → Bool
is_invocation (is.Call receiver) = true
is_invocation is.New = true
is_invocation (is.ConstructorCall which) = true
is_invocation is.ImplicitCall = true
is_invocation _ = false

-- the class that a type of so many dimensions is
abbrev pub class_by : ℕ → Element → Option ℕ
class_by zero (element.Class c) = Some c
class_by zero _ = None
class_by (suc dims) e = None

abbrev pub class_of : RowType → Option ℕ
class_of a = class_by a.dims a.element

abbrev pub class_in : Option RowType → Option ℕ
class_in type = option_and_then class_of type

abbrev pub items : Option ℕ → List ℕ
items None = []
items (Some c) = c ∷ []

-- the class to which the row n refers, where it names one that a member throws
abbrev pub named_class : Rows → Table → ℕ → List ℕ
named_class p t n = if is_other_name (label p n) then items (declared (t n)) else []

-- the classes that the member m declares
abbrev pub declared_classes : Rows → Table → ℕ → List ℕ
declared_classes p t m = flat_map (named_class p t) (children p m)

abbrev pub declared_by : Rows → Table → Option ℕ → List ℕ
declared_by p t None = []
declared_by p t (Some m) = declared_classes p t m

-- the classes that what the row n calls or creates declares
abbrev pub invoked_classes : Rows → Table → ℕ → List ℕ
invoked_classes p t n = declared_by p t (declared (t n))

abbrev pub thrown_by : Label → Rows → Table → Types → ℕ → List ℕ
thrown_by is.Throw p t type_of n = items (class_in (first p type_of n))
thrown_by (is.Call receiver) p t type_of n = invoked_classes p t n
thrown_by is.New p t type_of n = invoked_classes p t n
thrown_by (is.ConstructorCall which) p t type_of n = invoked_classes p t n
thrown_by is.ImplicitCall p t type_of n = invoked_classes p t n
thrown_by _ p t type_of n = []

-- the classes that are thrown at the row n
abbrev pub thrown_at : Rows → Table → Types → ℕ → List ℕ
thrown_at p t type_of n = thrown_by (label p n) p t type_of n

-- ---- what catches it

-- the class of the catch k, if it is one
abbrev pub catch_class : Rows → Table → ℕ → Option ℕ
catch_class p t k = if is_catch (label p k) then class_in (type_of_declared p t (k + 1)) else None

-- a catch of the `try` n, before the row k, is of the class c or of one above it
abbrev pub catches_before : Rows → Table → ℕ → ℕ → ℕ → Bool
catches_before p t n k c = any_below k (λ j. nat_eq (parent p j) n && found (catch_class p t j) (is_at_or_above p t c))

-- rule 43: an earlier catch of the same `try` catches the class
abbrev pub is_covered : Rows → Table → ℕ → Bool
is_covered p t n = found (catch_class p t n) (catches_before p t (parent p n) n)

abbrev pub covered_rows : Rows → Table → List ℕ
covered_rows p t = all_such (length p) (is_covered p t)

-- ---- which member lets it out

abbrev pub is_constructor : Rows → ℕ → Bool
is_constructor p k = same_role (role_at p k) role.Constructor

-- the member m declares the class c or one above it
abbrev pub declares : Rows → Table → ℕ → ℕ → Bool
declares p t c m = list_any (is_at_or_above p t c) (declared_classes p t m)

abbrev pub lets_by : Rows → Table → ℕ → ℕ → Bool
lets_by p t c k = not (is_constructor p k) || declares p t c k

-- all constructors in the body b do, and there is one
abbrev pub all_declare : Rows → Table → ℕ → ℕ → Bool
all_declare p t c b = list_any (is_constructor p) (children p b) && list_all (lets_by p t c) (children p b)

abbrev pub lets_out_by : Guard → Rows → Table → ℕ → ℕ → Bool
lets_out_by guard.Callable p t c m = declares p t c m
lets_out_by (guard.Initializer is_static) p t c m = not is_static && all_declare p t c (parent p m)
lets_out_by guard.Field p t c m = not (is_static p m) && all_declare p t c (parent p (parent p m))
lets_out_by _ p t c m = false

-- the member m lets the class c out
abbrev pub lets_out : Rows → Table → ℕ → ℕ → Bool
lets_out p t c m = lets_out_by (guard_of (label p m)) p t c m

-- ---- how it goes outwards

abbrev pub catches : Rows → Table → ℕ → ℕ → Bool
catches p t n c = catches_before p t n (length p) c

abbrev pub is_code : Label → Bool
is_code (is.Method modifiers is_void has_body) = true
is_code (is.Constructor modifiers) = true
is_code is.DefaultConstructor = true
is_code (is.Initializer is_static) = true
is_code (is.Field modifiers dims) = true
is_code _ = false

-- the block k is the body of the `try` n
abbrev pub is_try_block : Rows → ℕ → ℕ → Bool
is_try_block p n k = is_try (label p n) && is_block (label p k) && nat_eq (parent p k) n && nat_eq k (n + 1)

abbrev pub finally_completes : Rows → (ℕ → Bool) → ℕ → Bool
finally_completes p completes n = not (loses_by completes (last_part p part.Finally (length p) n))

abbrev pub goes_on : Rows → Table → (ℕ → Bool) → ℕ → ℕ → Bool
goes_on p t completes c k = (not (is_code (label p k)) && not (is_try (label p (parent p k))))
    || (is_try_block p (parent p k) k && not (catches p t (parent p k) c) && finally_completes p completes (parent p k))
    || (is_try (label p (parent p k)) && is_catch (label p k) && finally_completes p completes (parent p k))
    || is_it (last_part p part.Finally (length p) (parent p k)) k

-- the row k and those round it that the class c, thrown inside k, is thrown out of, at most so many more
abbrev pub outwards_to : Rows → Table → (ℕ → Bool) → ℕ → ℕ → ℕ → List ℕ
outwards_to p t completes c zero k = k ∷ []
outwards_to p t completes c (suc room) k = k ∷ (if goes_on p t completes c k then outwards_to p t completes c room (parent p k) else [])

abbrev pub outwards : Rows → Table → (ℕ → Bool) → ℕ → ℕ → List ℕ
outwards p t completes c n = outwards_to p t completes c n n

-- ---- the rules

-- the class c comes from the row n to a member that does not let it out
abbrev pub comes_uncaught : Rows → Table → (ℕ → Bool) → ℕ → ℕ → Bool
comes_uncaught p t completes n c = is_checked p t c && list_any (λ m. is_code (label p m) && not (lets_out p t c m)) (outwards p t completes c n)

-- rule 41
abbrev pub is_uncaught : Rows → Table → Types → (ℕ → Bool) → ℕ → Bool
is_uncaught p t type_of completes n = list_any (comes_uncaught p t completes n) (thrown_at p t type_of n)

abbrev pub uncaught_rows : Rows → Table → Types → (ℕ → Bool) → List ℕ
uncaught_rows p t type_of completes = all_such (length p) (is_uncaught p t type_of completes)

-- the body of the `try` o throws the class d at the row n, a checked class, which is at or below c or above it
abbrev pub is_thrown_in : Rows → Table → (ℕ → Bool) → ℕ → ℕ → ℕ → ℕ → Bool
is_thrown_in p t completes o c n d = is_checked p t d && is_try_block p o (o + 1) && has (outwards p t completes d n) (o + 1) && (is_at_or_above p t d c || is_at_or_above p t c d)

-- the body of the `try` o can throw the class c
abbrev pub can_throw : Rows → Table → Types → (ℕ → Bool) → ℕ → ℕ → Bool
can_throw p t type_of completes o c = any_below (length p) (λ n. list_any (is_thrown_in p t completes o c n) (thrown_at p t type_of n))

-- rule 42
abbrev pub is_unthrown : Rows → Table → Types → (ℕ → Bool) → ℕ → Bool
is_unthrown p t type_of completes n = found (catch_class p t n)
    (λ c. is_checked p t c && not (is_prelude p (codes "Exception") c || is_prelude p (codes "Throwable") c) && not (can_throw p t type_of completes (parent p n) c))

abbrev pub unthrown_rows : Rows → Table → Types → (ℕ → Bool) → List ℕ
unthrown_rows p t type_of completes = all_such (length p) (is_unthrown p t type_of completes)

-- ---- what the code has

-- a block right behind the row over it: of a `try` that is its body
abbrev pub is_first_block : Rows → ℕ → Bool
is_first_block p k = is_block (label p k) && nat_eq k (parent p k + 1)

-- under each `try` stand the classes of its catches among the first n rows
abbrev pub AreCatchesTo : Rows → Table → ℕ → List Entry → Type 0
AreCatchesTo p t n pairs = (o c : ℕ) → Decides (has_pair pairs o c) ((k : ℕ) × (k < n) × IsCatchOf p t o k c)

abbrev pub with_class : List Entry → ℕ → Option ℕ → List Entry
with_class pairs o None = pairs
with_class pairs o (Some c) = with_pair pairs o c

abbrev pub with_catch : Rows → Table → List Entry → ℕ → List Entry
with_catch p t pairs n = with_class pairs (parent p n) (catch_class p t n)
