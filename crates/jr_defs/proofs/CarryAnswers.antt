-- What corresponding occurrences refer to corresponds.
use Rattle.std.proofs.Common.{◌≡◌, ◌⊎◌, ℕ, suc, ◌<◌, ◌≤◌, refl, sym, ◌∙◌, ap, subst, inl, inr, arith, List, [], ◌∷◌}
use Rattle.std.specs.Prelude.{Option, Some, None}
use Rattle.jr_base.specs.declared.text.Text.{Text}
use Rattle.jr_tree.specs.declared.tree.ThisOrSuper.{ThisOrSuper}
use Rattle.jr_tree.specs.declared.tree.ThisOrSuper.TheVariants as which
use Rattle.jr_tree.specs.declared.label.NameKind.{NameKind}
use Rattle.jr_tree.specs.declared.label.NameKind.TheVariants as kind
use Rattle.jr_tree.specs.declared.label.Role.{Role}
use Rattle.jr_tree.specs.declared.label.Role.TheVariants as role
use Rattle.jr_tree.specs.declared.label.Sought.{Sought}
use Rattle.jr_tree.specs.declared.label.Sought.TheVariants as sought
use Rattle.jr_tree.specs.Rows.{Rows, parent, role_at}
use Rattle.jr_defs.specs.declared.referent.Space.TheVariants as space
use Rattle.jr_defs.specs.declared.referent.RowType.{RowType}
use Rattle.jr_defs.specs.declared.referent.Referent.{Referent}
use Rattle.jr_defs.specs.declared.referent.Referent.TheVariants.{Unbound, Ambiguous, ArrayLength, Package, Declared}
use Rattle.jr_defs.specs.Referents.{Table, IsAnswer, one, none, several}
use Rattle.jr_defs.specs.Declarations.{IsType}
use Rattle.jr_defs.specs.Enclosing.{BodyOf, InBody, ConstructorOf}
use Rattle.jr_defs.specs.Modifiers.{IsInner}
use Rattle.jr_defs.specs.Types.{NamesType}
use Rattle.jr_defs.specs.Members.{MemberNamed}
use Rattle.jr_defs.specs.Scope.{Depth, within}
use Rattle.jr_defs.specs.Overloads.{Applicable, IsMostSpecific, IsPreferred, IsLeftOf, Choice, ImportedChoice}
use Rattle.jr_defs.specs.Lookup.{VisibleThrough, level_of, SimpleCandidate, MemberBefore, TypeBefore, QualifiedCandidate, MethodLevel, ImportedMethod, MethodCandidate, NewLevel, CalledClass, Candidate, PackageBefore, ArrayBefore, IsPackageName, IsLength, MayBePackage, MayBeLength, Otherwise, LookFor}
use Rattle.jr_defs.specs.Correspondence.{IsDeclared, Alike, Carries, IsCall, Corresponds, moved, moved_level, moved_types, moved_receiver}
use Rattle.jr_defs.proofs.Unique.{answer_unique}
use Rattle.jr_defs.proofs.CarryMembers.{of_role, type_declared, member_declared}
use Rattle.jr_defs.proofs.CarryScope.{DepthDeclared, scope_declared, depth_declared, found_over}
use Rattle.jr_defs.proofs.CarryOverloads.{SetsBoth, Both, flipped, most_over}
use Rattle.jr_defs.proofs.CarryLookup.{simple_over, member_before_over, type_before_over, super_over_here, superclass_known, innermost_over, inner_over, level_method_over, applicables, choice_over, methods_of, constructors_of, imported_declared, imported_over, encloses_over}

-- ---- candidates are declared

pub choice_candidate : (p : Rows) (t : Table) (c o : ℕ) (r : Option RowType) (as' : List RowType) (S : ℕ → Type 0) (m : ℕ) → Choice p t c o r as' S m → S m
choice_candidate p t c o r as' S m (IsLeftOf.chosen (IsPreferred.concrete h k)) = h.applicable.candidate
choice_candidate p t c o r as' S m (IsLeftOf.chosen (IsPreferred.returning a h)) = h.candidate.candidate.applicable.candidate
choice_candidate p t c o r as' S m (IsLeftOf.chosen (IsPreferred.first a k h)) = h.candidate.applicable.candidate
choice_candidate p t c o r as' S m (IsLeftOf.undecided k h) = h.candidate

pub imported_candidate : (p : Rows) (t : Table) (o : ℕ) (as' : List RowType) (S : ℕ → Type 0) (m : ℕ) → ImportedChoice p t o as' S m → S m
imported_candidate p t o as' S m (ImportedChoice.chosen h) = h.applicable.candidate
imported_candidate p t o as' S m (ImportedChoice.undecided k h) = h.candidate

-- a level is a type that is declared
abbrev pub LevelDeclared : Rows → Option ℕ → Type 0
LevelDeclared p None = Unit {0}
LevelDeclared p (Some c) = IsDeclared p c

level_declared : (p : Rows) (a : Role) (r : Depth) (l : Option ℕ) → DepthDeclared p r → level_of a r ≡ l → LevelDeclared p l
level_declared p role.Field (within s) l k e = subst (LevelDeclared p) e k
level_declared p role.Field _ l k e = subst (LevelDeclared p) e tt
level_declared p role.Nothing _ l k e = subst (LevelDeclared p) e tt
level_declared p role.Type _ l k e = subst (LevelDeclared p) e tt
level_declared p role.Method _ l k e = subst (LevelDeclared p) e tt
level_declared p role.Constructor _ l k e = subst (LevelDeclared p) e tt
level_declared p role.Parameter _ l k e = subst (LevelDeclared p) e tt
level_declared p role.Local _ l k e = subst (LevelDeclared p) e tt
level_declared p role.Label _ l k e = subst (LevelDeclared p) e tt

pub record IsKnown (p : Rows) (d : ℕ) (level : Option ℕ) : Type 0 where
  pub row : IsDeclared p d
  pub through : LevelDeclared p level

found_known : (p : Rows) (t : Table) (k : _) (x : Text) (o d : ℕ) (l : Option ℕ) → VisibleThrough p t k x o d l → IsKnown p d l
found_known p t k x o d l h = record {
  row = scope_declared p t o d h.depth h.visible.in_scope.scope;
  through = level_declared p (role_at p d) h.depth l (depth_declared p t o d h.depth h.visible.in_scope.scope) h.through;
}

simple_known : (p : Rows) (t : Table) (x : Text) (o : ℕ) (k : NameKind) (d : ℕ) (l : Option ℕ) → SimpleCandidate p t x o k d l → IsKnown p d l
simple_known p t x o _ d l (SimpleCandidate.variable h) = found_known p t space.Variable x o d l h
simple_known p t x o _ d l (SimpleCandidate.type h) = found_known p t space.Type x o d l h
simple_known p t x o _ d l (SimpleCandidate.package_or_type h) = found_known p t space.Type x o d l h
simple_known p t x o _ d l (SimpleCandidate.first_variable h) = found_known p t space.Variable x o d l h
simple_known p t x o _ d l (SimpleCandidate.then_type n h) = found_known p t space.Type x o d l h

type_before_known : (p : Rows) (t : Table) (x : Text) (o d : ℕ) → TypeBefore p t x o d → IsDeclared p d
type_before_known p t x o d (TypeBefore.member {c = c} h m) = member_declared p t c d m.member
type_before_known p t x o d (TypeBefore.top h w i) = type_declared p d w.top.type

qualified_known : (p : Rows) (t : Table) (K : ℕ → Type 0) (x : Text) (o : ℕ) (k : NameKind) (d : ℕ) → QualifiedCandidate p t K x o k d → IsDeclared p d
qualified_known p t K x o _ d (QualifiedCandidate.variable h) = member_declared p t h.class d h.member.member
qualified_known p t K x o _ d (QualifiedCandidate.type h) = type_before_known p t x o d h
qualified_known p t K x o _ d (QualifiedCandidate.package_or_type h) = type_before_known p t x o d h
qualified_known p t K x o _ d (QualifiedCandidate.first_field h) = member_declared p t h.class d h.member.member
qualified_known p t K x o _ d (QualifiedCandidate.then_type n h) = type_before_known p t x o d h

method_known : (p : Rows) (t : Table) (x : Text) (o : ℕ) (as' : List RowType) (d : ℕ) (l : Option ℕ) → MethodCandidate p t x o as' d l → IsKnown p d l
method_known p t x o as' d _ (MethodCandidate.member {c = c} h w) = let m = choice_candidate p t c o None as' (MemberNamed p t space.Method x c) d w in record {
  row = member_declared p t c d m.member;
  through = type_declared p c h.holds.of_type.type;
}
method_known p t x o as' d _ (MethodCandidate.imported n w) =
    let m = imported_candidate p t o as' (ImportedMethod p t x o) d w in record {
      row = member_declared p t m.imported.brings.imports.of_type d m.imported.brings.imports.member;
      through = tt;
    }

constructor_known : (p : Rows) (c d : ℕ) → ConstructorOf p c d → IsDeclared p d
constructor_known p c d h = of_role p d role.Constructor h.constructor (λ k. cc)

new_known : (p : Rows) (t : Table) (o c : ℕ) (l : Option ℕ) → NewLevel p t o c l → LevelDeclared p l
new_known p t o c _ (NewLevel.free h) = tt
new_known p t o c _ (NewLevel.inner {e = e} h w) = type_declared p e w.holds.of_type.type

pub candidate_known : (p : Rows) (t : Table) (K : ℕ → Type 0) (o : ℕ) (x : Text) (s : Sought) (d : ℕ) (l : Option ℕ) → Candidate p t K o x s d l → IsKnown p d l
candidate_known p t K o x _ d l (Candidate.simple {k = k} h) = simple_known p t x o k d l h
candidate_known p t K o x _ d _ (Candidate.qualified {k = k} h) = record { row = qualified_known p t K x o k d h; through = tt }
candidate_known p t K o x _ d _ (Candidate.field h) = record { row = member_declared p t h.class d h.member.member; through = tt }
candidate_known p t K o x _ d _ (Candidate.super_field {s = s} h m) = record { row = member_declared p t s d m.member; through = tt }
candidate_known p t K o x _ d l (Candidate.method {all = all} h w) = method_known p t x o all d l w
candidate_known p t K o x _ d _ (Candidate.method_of {c = c} {receiver = r} {all = all} h a w) =
    let m = choice_candidate p t c o r all (MemberNamed p t space.Method x c) d w in record { row = member_declared p t c d m.member; through = tt }
candidate_known p t K o x _ d _ (Candidate.super_method {s = s} {all = all} h a w) =
    let m = choice_candidate p t s o None all (MemberNamed p t space.Method x s) d w in record { row = member_declared p t s d m.member; through = tt }
candidate_known p t K o x _ d l (Candidate.creation {c = c} {all = all} h n a w) = record {
  row = constructor_known p c d (choice_candidate p t c o None all (ConstructorOf p c) d w);
  through = new_known p t o c l n;
}
candidate_known p t K o x _ d _ (Candidate.constructor {c = c} {all = all} h a w) = record {
  row = constructor_known p c d (choice_candidate p t c o None all (ConstructorOf p c) d w);
  through = tt;
}
candidate_known p t K o x _ d _ (Candidate.own_class h) = record { row = type_declared p d h.type; through = tt }
candidate_known p t K o x _ d _ (Candidate.labeled {depth = r} h) = record { row = scope_declared p t o d r h.scope; through = tt }
