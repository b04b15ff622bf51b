-- Families of methods, which a rename takes along together (JLS 8.4.8.1).
use Rattle.std.specs.Prelude.{◌≡◌, ◌⊎◌, ℕ, zero, suc, ◌+◌, ◌<◌, ◌≤◌, Bool, true, if◌then◌else◌, List, [], ◌∷◌, ◌++◌, length}
use Rattle.jr_tree.specs.Rows.{Rows}
use Rattle.jr_defs.specs.Referents.{Table}
use Rattle.jr_defs.specs.Members.{MemberOf, SameMethods}
use Rattle.jr_defs.specs.Overriding.{Overrides}
use Rattle.jr_defs.specs.Enclosing.{DeclaredIn}
use Rattle.jr_defs.specs.Supertypes.{AtOrAbove}
use Rattle.jr_plain.specs.Search.{has}
use Rattle.jr_plain.specs.Types.{is_same_signature}
use Rattle.jr_places.specs.declared.chains.Entry.{Entry}
use Rattle.jr_places.specs.declared.stamps.Stamps.{Stamps}
use Rattle.jr_places.specs.Chains.{rows_under}
use Rattle.jr_places.specs.Stamps.{is_stamped, IsStamping}
use Rattle.jr_supers.specs.Supers.{ListsOnce}
use Rattle.jr_members.specs.Keys.{falling, is_declared_like}

-- ---- the definition

-- one of the two methods overrides the other, or some type has both as members with one signature
pub data IsLinked (p : Rows) (t : Table) (m k : ℕ) : Type 0 where
  overriding : Overrides p t m k → IsLinked p t m k
  overridden : Overrides p t k m → IsLinked p t m k
  together : {c : ℕ} → MemberOf p t c m → MemberOf p t c k → SameMethods p t m k → IsLinked p t m k

-- k is m, or comes of it by steps
pub data LeadsTo (E : ℕ → ℕ → Type 0) (m : ℕ) : ℕ → Type 0 where
  itself : LeadsTo E m m
  further : {j k : ℕ} → LeadsTo E m j → E j k → LeadsTo E m k

-- k is m, or linked to a method of its family
abbrev pub InFamily : Rows → Table → ℕ → ℕ → Type 0
InFamily p t m k = LeadsTo (IsLinked p t) m k

-- these are the methods of the family of m, each once, as they rise
abbrev pub IsFamilyOf : Rows → Table → ℕ → List ℕ → Type 0
IsFamilyOf p t m all = ListsOnce all (InFamily p t m)

-- ---- links

-- where entries lead from a, the last first
abbrev pub linked_at : List Entry → ℕ → List ℕ
linked_at links a = rows_under links a 0 (length links)

-- an entry leads from a to b
abbrev pub leads : List Entry → ℕ → ℕ → Bool
leads links a b = has (linked_at links a) b

abbrev pub IsLinkIn : List Entry → ℕ → ℕ → Type 0
IsLinkIn links a b = leads links a b ≡ true

abbrev pub link_entry : ℕ → ℕ → Entry
link_entry a b = record { first = a; second = 0; row = b }

-- one link more, both ways
abbrev pub with_link : List Entry → ℕ → ℕ → List Entry
with_link links a b = (links ++ link_entry a b ∷ []) ++ link_entry b a ∷ []

abbrev pub with_link_if : Bool → List Entry → ℕ → ℕ → List Entry
with_link_if is links a b = if is then with_link links a b else links

-- the links that were there, and some between linked methods
pub record AddsLinks (p : Rows) (t : Table) (old new : List Entry) : Type 0 where
  pub kept : (a b : ℕ) → IsLinkIn old a b → IsLinkIn new a b
  pub sound : (a b : ℕ) → IsLinkIn new a b → IsLinkIn old a b ⊎ IsLinked p t a b

-- both ways
pub record IsLinkBetween (links : List Entry) (a b : ℕ) : Type 0 where
  pub there : IsLinkIn links a b
  pub back : IsLinkIn links b a

-- k has the signature of m
abbrev pub is_like : Rows → Table → ℕ → ℕ → Bool
is_like p t m k = is_same_signature p t k m

-- the methods of the signature of m that a type declares, from the last back
abbrev pub declared_like : Rows → Table → ℕ → ℕ → List ℕ
declared_like p t m c = falling (length p) (is_declared_like p t c m)

abbrev pub with_if : Bool → List ℕ → ℕ → List ℕ
with_if is xs x = if is then xs ++ x ∷ [] else xs

-- a method of the signature of m that c or a type above it declares
pub record IsLikeAbove (p : Rows) (t : Table) (c m k : ℕ) : Type 0 where
  pub over : ℕ
  pub above : AtOrAbove p t c over
  pub declared : DeclaredIn p over k
  pub same : SameMethods p t k m

-- links of m to those of a list that it overrides, but for the rest
pub record IsAddingOverridden (p : Rows) (t : Table) (m : ℕ) (all : List ℕ) (old new : List Entry) (rest : List ℕ) : Type 0 where
  pub adds : AddsLinks p t old new
  pub told : (k : ℕ) → has all k ≡ true → Overrides p t m k → IsLinkBetween new m k ⊎ (has rest k ≡ true)

-- links of m to all that it overrides
pub record AddsOverridden (p : Rows) (t : Table) (m : ℕ) (old new : List Entry) : Type 0 where
  pub adds : AddsLinks p t old new
  pub told : (k : ℕ) → Overrides p t m k → IsLinkBetween new m k

-- links of the methods of a list to all that they override, but for the rest
pub record IsAddingOverriddenOf (p : Rows) (t : Table) (all : List ℕ) (old new : List Entry) (rest : List ℕ) : Type 0 where
  pub adds : AddsLinks p t old new
  pub told : (m k : ℕ) → has all m ≡ true → Overrides p t m k → IsLinkBetween new m k ⊎ (has rest m ≡ true)

-- links of all methods of the signature of m to all that they override
pub record AddsOverriddenLike (p : Rows) (t : Table) (m : ℕ) (old new : List Entry) : Type 0 where
  pub adds : AddsLinks p t old new
  pub told : (a k : ℕ) → SameMethods p t a m → Overrides p t a k → IsLinkBetween new a k

-- links of x to all of a list, but for the rest
pub record IsJoining (x : ℕ) (all : List ℕ) (old new : List Entry) (rest : List ℕ) : Type 0 where
  pub kept : (a b : ℕ) → IsLinkIn old a b → IsLinkIn new a b
  pub sound : (a b : ℕ) → IsLinkIn new a b → IsLinkIn old a b ⊎ (((a ≡ x) × (has all b ≡ true)) ⊎ ((b ≡ x) × (has all a ≡ true)))
  pub told : (k : ℕ) → has all k ≡ true → IsLinkBetween new x k ⊎ (has rest k ≡ true)

-- links of the first of a list to all of it
abbrev pub JoinsFirst : List ℕ → List Entry → List Entry → Type 0
JoinsFirst [] old new = new ≡ old
JoinsFirst (x ∷ xs) old new = IsJoining x (x ∷ xs) old new []

-- a member of c of the signature of m
pub record IsMemberLike (p : Rows) (t : Table) (c m k : ℕ) : Type 0 where
  pub member : MemberOf p t c k
  pub same : SameMethods p t k m

-- links that lead from each member of c of the signature of m to each other
pub record AddsMembers (p : Rows) (t : Table) (c m : ℕ) (old new : List Entry) : Type 0 where
  pub adds : AddsLinks p t old new
  pub told : (a b : ℕ) → IsMemberLike p t c m a → IsMemberLike p t c m b → LeadsTo (IsLinkIn new) a b

-- the same, of all types of a list but the rest
pub record IsAddingMembers (p : Rows) (t : Table) (m : ℕ) (all : List ℕ) (old new : List Entry) (rest : List ℕ) : Type 0 where
  pub adds : AddsLinks p t old new
  pub told : (c a b : ℕ) → has all c ≡ true → IsMemberLike p t c m a → IsMemberLike p t c m b → LeadsTo (IsLinkIn new) a b ⊎ (has rest c ≡ true)

-- links between linked methods alone, which lead from each method of the signature of m to all that are linked to it
pub record AreLinksOf (p : Rows) (t : Table) (m : ℕ) (links : List Entry) : Type 0 where
  pub sound : (a b : ℕ) → IsLinkIn links a b → IsLinked p t a b
  pub whole : (a b : ℕ) → SameMethods p t a m → IsLinked p t a b → LeadsTo (IsLinkIn links) a b

-- ---- what links lead to

-- how many numbers below n are not stamped
abbrev pub unmet : Stamps → ℕ → ℕ
unmet met zero = 0
unmet met (suc n) = (if is_stamped met n then 0 else 1) + unmet met n

-- the turns that are left: one for each number that waits, and for each that is not met
abbrev pub turns_left : Stamps → ℕ → List ℕ → ℕ
turns_left met bound waiting = length waiting + unmet met bound

-- links lead to numbers below the bound
abbrev pub LinksAreBelow : List Entry → ℕ → Type 0
LinksAreBelow links bound = (a b : ℕ) → IsLinkIn links a b → b < bound

-- a number waits now, unless it was met
pub record PutsOne (bound at : ℕ) (old new : Stamps) (before after : List ℕ) : Type 0 where
  pub counted : IsStamping new bound
  pub out : (x : ℕ) → is_stamped new x ≡ true → (is_stamped old x ≡ true) ⊎ (has after x ≡ true)
  pub kept : (x : ℕ) → has before x ≡ true → has after x ≡ true
  pub from : (x : ℕ) → has after x ≡ true → (has before x ≡ true) ⊎ (at ≡ x)
  pub told : at < bound → (is_stamped old at ≡ true) ⊎ (has after at ≡ true)
  pub less : turns_left new bound after ≤ turns_left old bound before

-- those of a list that were not met wait now, but for the rest
pub record IsPutting (bound : ℕ) (all : List ℕ) (old new : Stamps) (before after rest : List ℕ) : Type 0 where
  pub counted : IsStamping new bound
  pub out : (x : ℕ) → is_stamped new x ≡ true → (is_stamped old x ≡ true) ⊎ (has after x ≡ true)
  pub kept : (x : ℕ) → has before x ≡ true → has after x ≡ true
  pub from : (x : ℕ) → has after x ≡ true → (has before x ≡ true) ⊎ (has all x ≡ true)
  pub told : (x : ℕ) → has all x ≡ true → x < bound → ((is_stamped old x ≡ true) ⊎ (has after x ≡ true)) ⊎ (has rest x ≡ true)
  pub less : turns_left new bound after ≤ turns_left old bound before

-- what links lead to from those that are done is done or waits
pub record IsSpreading (links : List Entry) (m bound : ℕ) (met : Stamps) (waiting done : List ℕ) : Type 0 where
  pub counted : IsStamping met bound
  pub out : (x : ℕ) → is_stamped met x ≡ true → (has done x ≡ true) ⊎ (has waiting x ≡ true)
  pub start : (has done m ≡ true) ⊎ (has waiting m ≡ true)
  pub sound : (x : ℕ) → (has done x ≡ true) ⊎ (has waiting x ≡ true) → LeadsTo (IsLinkIn links) m x
  pub closed : (x y : ℕ) → has done x ≡ true → IsLinkIn links x y → y < bound → (has done y ≡ true) ⊎ (has waiting y ≡ true)
