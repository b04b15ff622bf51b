-- Which method or constructor a call chooses (JLS 15.12.2, 8.4.8.4, 8.4.5).
use Rattle.std.specs.Prelude.{◌≡◌, ◌⊎◌, ℕ, ◌+◌, ◌<◌, List, [], ◌∷◌, Option, None}
use Rattle.jr_tree.specs.Rows.{Rows, parent, end}
use Rattle.jr_defs.specs.declared.referent.RowType.{RowType}
use Rattle.jr_defs.specs.Referents.{Table}
use Rattle.jr_defs.specs.Modifiers.{IsAbstract}
use Rattle.jr_defs.specs.Types.{HasType, Parameters}
use Rattle.jr_defs.specs.Supertypes.{IsReferenceType, Subtype, SuperAt}
use Rattle.jr_defs.specs.Members.{MemberOf}
use Rattle.jr_defs.specs.Access.{IsAccessible}
use Rattle.jr_defs.specs.Typing.{TypeOf}

-- the types of the arguments of the call n, from its child k on
pub data ArgumentTypes (p : Rows) (t : Table) (K : ℕ → Type 0) (n : ℕ) : ℕ → List RowType → Type 0 where
  argument : {k : ℕ} {a : RowType} {more : List RowType} → parent p k ≡ n → TypeOf p t K k a → ArgumentTypes p t K n (end p k) more → ArgumentTypes p t K n k (a ∷ more)
  done : {k : ℕ} → (parent p k ≡ n → ⊥) → ArgumentTypes p t K n k []

-- each type is a subtype of the one at its place (JLS 15.12.2.2)
pub data AllSubtypes (p : Rows) (t : Table) : List RowType → List RowType → Type 0 where
  none : AllSubtypes p t [] []
  more : {a b : RowType} {as' bs : List RowType} → Subtype p t a b → AllSubtypes p t as' bs → AllSubtypes p t (a ∷ as') (b ∷ bs)

-- the method or constructor m is accessible at o, and takes arguments of these types
pub record IsApplicable (p : Rows) (t : Table) (o : ℕ) (receiver : Option RowType) (arguments : List RowType) (m : ℕ) : Type 0 where
  pub accessible : IsAccessible p t m o receiver
  pub parameters : List RowType
  pub are : Parameters p t m parameters
  pub fit : AllSubtypes p t arguments parameters

-- of the set S, what is applicable
pub record Applicable (p : Rows) (t : Table) (o : ℕ) (receiver : Option RowType) (arguments : List RowType) (S : ℕ → Type 0) (m : ℕ) : Type 0 where
  pub candidate : S m
  pub applicable : IsApplicable p t o receiver arguments m

-- each parameter of m is of a subtype of that of k (JLS 15.12.2.5)
pub record MoreSpecific (p : Rows) (t : Table) (m k : ℕ) : Type 0 where
  pub first : List RowType
  pub second : List RowType
  pub are : Parameters p t m first
  pub others : Parameters p t k second
  pub fit : AllSubtypes p t first second

-- of the applicable ones A, m is more specific than every other
pub record IsMostSpecific (p : Rows) (t : Table) (A : ℕ → Type 0) (m : ℕ) : Type 0 where
  pub applicable : A m
  pub most : (k : ℕ) → A k → MoreSpecific p t m k

-- ---- the choice among methods of one signature

-- the result of m is that of k, or a reference subtype of it (JLS 8.4.5)
pub data ResultFits (p : Rows) (t : Table) (m k : ℕ) : Type 0 where
  same : {a : RowType} → HasType p t m a → HasType p t k a → ResultFits p t m k
  reference : {a b : RowType} → HasType p t m a → HasType p t k b → IsReferenceType a → IsReferenceType b → Subtype p t a b → ResultFits p t m k

-- in the order of the direct supertypes of c, the one at n is the first that has the member d
pub record FirstThrough (p : Rows) (t : Table) (c n s d : ℕ) : Type 0 where
  pub at : SuperAt p t c n s
  pub member : MemberOf p t s d
  pub first : (m r : ℕ) → m < n → SuperAt p t c m r → MemberOf p t r d → ⊥

-- c inherits d before e: superclass first, then superinterfaces as written, each in its own order
pub data Earlier (p : Rows) (t : Table) : ℕ → ℕ → ℕ → Type 0 where
  by_place : {c m n r s d e : ℕ} → FirstThrough p t c m r d → FirstThrough p t c n s e → m < n → Earlier p t c d e
  within : {c n s d e : ℕ} → FirstThrough p t c n s d → FirstThrough p t c n s e → Earlier p t s d e → Earlier p t c d e

abbrev pub AllAbstract : Rows → (ℕ → Type 0) → Type 0
AllAbstract p M = (k : ℕ) → M k → IsAbstract p k

-- the result of m fits that of every other of M
pub record Returns (p : Rows) (t : Table) (M : ℕ → Type 0) (m : ℕ) : Type 0 where
  pub candidate : M m
  pub fits : (k : ℕ) → M k → ResultFits p t m k

-- m is the first of the set S as c inherits them
pub record IsFirst (p : Rows) (t : Table) (c : ℕ) (S : ℕ → Type 0) (m : ℕ) : Type 0 where
  pub candidate : S m
  pub first : (k : ℕ) → S k → (m ≡ k) ⊎ Earlier p t c m k

-- among the most specific ones M, which have one signature: what is not abstract, else the first whose result fits all others, else the first
pub data IsPreferred (p : Rows) (t : Table) (c : ℕ) (M : ℕ → Type 0) (m : ℕ) : Type 0 where
  concrete : M m → (IsAbstract p m → ⊥) → IsPreferred p t c M m
  returning : AllAbstract p M → IsFirst p t c (Returns p t M) m → IsPreferred p t c M m
  first : AllAbstract p M → ((k : ℕ) → Returns p t M k → ⊥) → IsFirst p t c M m → IsPreferred p t c M m

-- what is left of the applicable ones A in the type c: the preferred one of the most specific, or all where none is preferred
pub data IsLeftOf (p : Rows) (t : Table) (c : ℕ) (A : ℕ → Type 0) (m : ℕ) : Type 0 where
  chosen : IsPreferred p t c (IsMostSpecific p t A) m → IsLeftOf p t c A m
  undecided : ((k : ℕ) → IsPreferred p t c (IsMostSpecific p t A) k → ⊥) → A m → IsLeftOf p t c A m

-- the choice among the methods or constructors S of the type c, at the place o
abbrev pub Choice : Rows → Table → ℕ → ℕ → Option RowType → List RowType → (ℕ → Type 0) → ℕ → Type 0
Choice p t c o receiver arguments S m = IsLeftOf p t c (Applicable p t o receiver arguments S) m

-- the choice among imported static methods, none of which is abstract
pub data ImportedChoice (p : Rows) (t : Table) (o : ℕ) (arguments : List RowType) (S : ℕ → Type 0) (m : ℕ) : Type 0 where
  chosen : IsMostSpecific p t (Applicable p t o None arguments S) m → ImportedChoice p t o arguments S m
  undecided : ((k : ℕ) → IsMostSpecific p t (Applicable p t o None arguments S) k → ⊥) → Applicable p t o None arguments S m → ImportedChoice p t o arguments S m
