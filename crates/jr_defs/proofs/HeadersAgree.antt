-- Two bindings agree on the headers of types, by the order in which types are settled.
use Rattle.std.proofs.Common.{◌≡◌, ◌⊎◌, ℕ, suc, zero, ◌+◌, ◌<◌, ◌≤◌, refl, sym, ◌∙◌, ap, subst, inl, inr, arith, length}
use Rattle.std.proofs.lemmas.List.{get_or_past}
use Rattle.std.specs.Prelude.{Option, Some, None}
use Rattle.jr_base.specs.declared.text.Text.{Text}
use Rattle.jr_tree.specs.declared.label.Label.TheVariants as is
use Rattle.jr_tree.specs.declared.label.ImportKind.{ImportKind}
use Rattle.jr_tree.specs.declared.label.ImportKind.TheVariants as importing
use Rattle.jr_tree.specs.declared.label.NameKind.{NameKind}
use Rattle.jr_tree.specs.declared.label.NameKind.TheVariants as kind
use Rattle.jr_tree.specs.declared.label.Role.TheVariants as role
use Rattle.jr_tree.specs.declared.label.Sought.{Sought}
use Rattle.jr_tree.specs.declared.label.Sought.TheVariants as sought
use Rattle.jr_tree.specs.Rows.{Rows, label, name, parent, end, role_at, sought_at}
use Rattle.jr_defs.specs.declared.referent.Referent.{Referent}
use Rattle.jr_defs.specs.declared.referent.Referent.TheVariants.{Unbound, Ambiguous, ArrayLength, Package, Declared}
use Rattle.jr_defs.specs.declared.referent.Space.TheVariants as space
use Rattle.jr_defs.specs.Referents.{Table, IsAnswer, one, none, several}
use Rattle.jr_defs.specs.Declarations.{Declares, IsOf, IsType, IsObject}
use Rattle.jr_defs.specs.Enclosing.{InBody, DeclaredIn}
use Rattle.jr_defs.specs.Types.{NamesType}
use Rattle.jr_defs.specs.Supertypes.{SuperAt, Superclass}
use Rattle.jr_defs.specs.Members.{MemberOf}
use Rattle.jr_defs.specs.Imports.{ImportOf, ImportNames, SingleImport, ImportedBy, StaticImport, OnDemandOf, OnDemandImport}
use Rattle.jr_defs.specs.Scope.{Depth, on_demand, of_package, of_unit, imported, within, rank, IsNoFurther, HasScope, InScope, Visible, Imported}
use Rattle.jr_defs.specs.Constants.{HasConstantForm}
use Rattle.jr_defs.specs.Lookup.{VisibleThrough, SimpleCandidate, TypeBefore, QualifiedCandidate, Candidate, Otherwise, IsPackageName, LookFor, Look}
use Rattle.jr_defs.specs.Headers.{NamesHeader, IsIdentifierOf, IsFirstOf, depth_of, MayBring, IsLookedForIn, NameMeets, Meets, IsSettled}
use Rattle.jr_defs.specs.Binding.{IsBound}
use Rattle.jr_defs.specs.Laws.{SameHeaders}
use Rattle.jr_defs.specs.Formed.{SeeksType, NamesTypeFirst, IsFormed}
use Rattle.jr_defs.specs.Correspondence.{Carries, IsScoped}
use Rattle.jr_defs.proofs.CarryMembers.{member_over}
use Rattle.jr_defs.proofs.Itself.{same, alike, SameImports, SameFirst, type_search_in}
use Rattle.jr_defs.proofs.Scoping.{EndsSo, AgreeAround, first_same}

-- ---- types on whose headers the tables agree, with all above them

pub data Agreed (p : Rows) (t u : Table) : ℕ → Type 0 where
  agreed : {c : ℕ} → IsType p c → ((n : ℕ) → NamesHeader p c n → t n ≡ u n) → ((n s : ℕ) → SuperAt p t c n s → Agreed p t u s) → Agreed p t u c

pub agreed_type : (p : Rows) (t u : Table) (c : ℕ) → Agreed p t u c → IsType p c
agreed_type p t u c (agreed k names up) = k

pub agreed_names : (p : Rows) (t u : Table) (c n : ℕ) → Agreed p t u c → NamesHeader p c n → t n ≡ u n
agreed_names p t u c n (agreed k names up) h = names n h

agreed_above : (p : Rows) (t u : Table) (c n s : ℕ) → Agreed p t u c → SuperAt p t c n s → Agreed p t u s
agreed_above p t u c n s (agreed k names up) h = up n s h

module _ (p : Rows) (t u : Table) where
  super_there : (c n s : ℕ) → Agreed p t u c → SuperAt p t c n s → SuperAt p u c n s
  super_there c n s k (SuperAt.class h e) = SuperAt.class h (sym (agreed_names p t u c n k (inl h)) ∙ e)
  super_there c _ s k (SuperAt.implied h e) = SuperAt.implied h e
  super_there c n s k (SuperAt.interface h e) = SuperAt.interface h (sym (agreed_names p t u c n k (inr h)) ∙ e)

  super_back : (c n s : ℕ) → Agreed p t u c → SuperAt p u c n s → SuperAt p t c n s
  super_back c n s k (SuperAt.class h e) = SuperAt.class h (agreed_names p t u c n k (inl h) ∙ e)
  super_back c _ s k (SuperAt.implied h e) = SuperAt.implied h e
  super_back c n s k (SuperAt.interface h e) = SuperAt.interface h (agreed_names p t u c n k (inr h) ∙ e)

  superclass_there : (c s : ℕ) → Agreed p t u c → Superclass p t c s → Superclass p u c s
  superclass_there c s k (Superclass.named {n = n} h e) = Superclass.named h (sym (agreed_names p t u c n k (inl h)) ∙ e)
  superclass_there c s k (Superclass.implied h e) = Superclass.implied h e

  superclass_back : (c s : ℕ) → Agreed p t u c → Superclass p u c s → Superclass p t c s
  superclass_back c s k (Superclass.named {n = n} h e) = Superclass.named h (agreed_names p t u c n k (inl h) ∙ e)
  superclass_back c s k (Superclass.implied h e) = Superclass.implied h e

  pub carries_there : Carries p t p u same same (Agreed p t u) (Agreed p t u)
  carries_there = record {
    alike = alike p;
    known = agreed_type p t u;
    goes = λ c k. k;
    super_at = super_there;
    super_known = λ c n s k w. agreed_above p t u c n s k w;
    place_back = λ c n s k w. refl;
    place_order = λ c m n r s k a b le. le;
    superclass = superclass_there;
  }

  pub carries_back : Carries p u p t same same (Agreed p t u) (Agreed p t u)
  carries_back = record {
    alike = alike p;
    known = agreed_type p t u;
    goes = λ c k. k;
    super_at = super_back;
    super_known = λ c n s k w. agreed_above p t u c n s k (super_back c n s k w);
    place_back = λ c n s k w. refl;
    place_order = λ c m n r s k a b le. le;
    superclass = superclass_back;
  }

  member_there : (c d : ℕ) → Agreed p t u c → (role_at p d ≡ role.Method → ⊥) → MemberOf p t c d → MemberOf p u c d
  member_there c d k no' m = member_over p t p u same same (Agreed p t u) (Agreed p t u) carries_there carries_back c d k (λ e. absurd (no' e)) m

  member_back : (c d : ℕ) → Agreed p t u c → (role_at p d ≡ role.Method → ⊥) → MemberOf p u c d → MemberOf p t c d
  member_back c d k no' m = member_over p u p t same same (Agreed p t u) (Agreed p t u) carries_back carries_there c d k (λ e. absurd (no' e)) m

-- ---- what the name of a type refers to is a type of that name

abbrev IsRow : Referent → Type 0
IsRow (Declared d l) = Unit {0}
IsRow _ = ⊥

no_row : (p : Rows) (t : Table) (K : ℕ → Type 0) (o : ℕ) (x : Text) (s : Sought) (a : Referent) → Otherwise p t K o x s a → IsRow a → ⊥
no_row p t K o x s _ (Otherwise.package_name h) k = k
no_row p t K o x s _ (Otherwise.length n h) k = k
no_row p t K o x s _ (Otherwise.unbound n m) k = k

candidate_of : (p : Rows) (t : Table) (K : ℕ → Type 0) (o : ℕ) (x : Text) (s : Sought) (a : Referent) (d : ℕ) (l : Option ℕ) → a ≡ Declared d l → LookFor p t K o x s a → Candidate p t K o x s d l
candidate_of p t K o x s _ d l e (one e' m h only) = let i : e' ≡ d = cc in let j : m ≡ l = cc in subst (λ d. Candidate p t K o x s d l) i (subst (Candidate p t K o x s e') j h)
candidate_of p t K o x s a d l e (none never h) = absurd (no_row p t K o x s a h (subst IsRow (sym e) tt))
candidate_of p t K o x s _ d l e (several c c' m m' h h' apart) = cc

pub type_role : (p : Rows) (x : Text) (d : ℕ) → Declares p space.Type x d → IsType p d
type_role p x d h = by_role (role_at p d) h.of_kind
  where
    by_role : (r : _) → IsOf space.Type r → r ≡ role.Type
    by_role role.Type k = refl
    by_role _ k = absurd k

before_declares : (p : Rows) (t : Table) (x : Text) (o d : ℕ) → TypeBefore p t x o d → Declares p space.Type x d
before_declares p t x o d (TypeBefore.member h m) = m.declares
before_declares p t x o d (TypeBefore.top h w i) = i

type_declares : (p : Rows) (t : Table) (K : ℕ → Type 0) (o : ℕ) (x : Text) (s : Sought) (d : ℕ) (l : Option ℕ) → SeeksType s → Candidate p t K o x s d l → Declares p space.Type x d
type_declares p t K o x _ d l k (Candidate.simple (SimpleCandidate.type h)) = h.visible.in_scope.declares
type_declares p t K o x _ d l k (Candidate.simple (SimpleCandidate.package_or_type h)) = h.visible.in_scope.declares
type_declares p t K o x _ d l k (Candidate.simple (SimpleCandidate.variable h)) = absurd k
type_declares p t K o x _ d l k (Candidate.simple (SimpleCandidate.first_variable h)) = absurd k
type_declares p t K o x _ d l k (Candidate.simple (SimpleCandidate.then_type n h)) = absurd k
type_declares p t K o x _ d _ k (Candidate.qualified (QualifiedCandidate.type h)) = before_declares p t x o d h
type_declares p t K o x _ d _ k (Candidate.qualified (QualifiedCandidate.package_or_type h)) = before_declares p t x o d h
type_declares p t K o x _ d _ k (Candidate.qualified (QualifiedCandidate.variable h)) = absurd k
type_declares p t K o x _ d _ k (Candidate.qualified (QualifiedCandidate.first_field h)) = absurd k
type_declares p t K o x _ d _ k (Candidate.qualified (QualifiedCandidate.then_type n h)) = absurd k
type_declares p t K o x _ d _ k (Candidate.field h) = absurd k
type_declares p t K o x _ d _ k (Candidate.super_field h m) = absurd k
type_declares p t K o x _ d l k (Candidate.method h m) = absurd k
type_declares p t K o x _ d _ k (Candidate.method_of h m w) = absurd k
type_declares p t K o x _ d _ k (Candidate.super_method h m w) = absurd k
type_declares p t K o x _ d l k (Candidate.creation h n m w) = absurd k
type_declares p t K o x _ d _ k (Candidate.constructor h m w) = absurd k
type_declares p t K o x _ d _ k (Candidate.own_class h) = absurd k
type_declares p t K o x _ d _ k (Candidate.labeled h) = absurd k

pub look_declares : (p : Rows) (t : Table) (K : ℕ → Type 0) (o d : ℕ) (l : Option ℕ) (a : Referent) → SeeksType (sought_at p o) → Look p t K o a → a ≡ Declared d l → Declares p space.Type (name p o) d
look_declares p t K o d l a seeks x e = type_declares p t K o (name p o) (sought_at p o) d l seeks (candidate_of p t K o (name p o) (sought_at p o) a d l e x)

pub target_declares : (p : Rows) (t : Table) → IsBound p t → (o d : ℕ) (l : Option ℕ) → SeeksType (sought_at p o) → t o ≡ Declared d l → Declares p space.Type (name p o) d
target_declares p t a o d l seeks e = look_declares p t (HasConstantForm p t) o d l (t o) seeks (a o) e

-- ---- scopes at a place in a header

-- the tables agree on an import, and what it names is agreed on
pub record ImportSame (p : Rows) (t u : Table) (i : ℕ) : Type 0 where
  pub at : t (i + 1) ≡ u (i + 1)
  pub known : (c : ℕ) → ImportNames p t i c → Agreed p t u c

-- so they agree on the members of the types around a place, where they agree on these
pub agreed_around : (p : Rows) (t u : Table) (m : ℕ) → ((e : ℕ) → InBody p e m → Agreed p t u e) → AgreeAround p t u m (ImportSame p t u)
agreed_around p t u m around = record {
  around_there = λ c d h k w. member_there p t u c d (around c h) k w;
  around_back = λ c d h k w. member_back p t u c d (around c h) k w;
  at = λ i h. h.at;
  named_there = λ i c d h n k w. member_there p t u c d (h.known c n) k w;
  named_back = λ i c d h n k w. member_back p t u c d (h.known c n) k w;
}

module _ (p : Rows) (t u : Table) (formed : IsFormed p) (a : IsBound p t) (b : IsBound p u) (m : ℕ)
    (around : (e : ℕ) → InBody p e m → Agreed p t u e) (looked : (i : ℕ) → IsLookedForIn p t m i → ImportSame p t u i) where
  first_seeks : (i : ℕ) (form : ImportKind) → label p i ≡ is.Import form → SeeksType (sought_at p (i + 1))
  first_seeks i form e = formed.first_name i (subst NamesTypeFirst (sym e) NamesTypeFirst.import)

  ends_so : (v : Table) → IsBound p v → EndsSo p v
  ends_so v c i d form e w = target_declares p v c (i + 1) d w.level (first_seeks i form e) w.refers

  pub first_agrees : (k : NameKind) → sought_at p m ≡ sought.Simple k → SeeksType (sought.Simple k) → t m ≡ u m
  first_agrees k e seeks = first_same p t u m (ImportSame p t u) (agreed_around p t u m around) (ends_so t a) (ends_so u b) (λ i w r. looked i w) looked
      (HasConstantForm p t) (HasConstantForm p u) k e seeks (t m) (u m) (a m) (b m)
