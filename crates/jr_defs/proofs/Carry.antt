-- The law of lookup: what corresponding occurrences refer to corresponds.
use Rattle.std.proofs.Common.{◌≡◌, ◌⊎◌, ℕ, suc, ◌<◌, ◌≤◌, refl, sym, ◌∙◌, ap, subst, inl, inr, arith, List, [], ◌∷◌}
use Rattle.std.specs.Prelude.{Option, Some, None}
use Rattle.jr_base.specs.declared.text.Text.{Text}
use Rattle.jr_tree.specs.declared.tree.ThisOrSuper.{ThisOrSuper}
use Rattle.jr_tree.specs.declared.tree.ThisOrSuper.TheVariants as which
use Rattle.jr_tree.specs.declared.label.NameKind.{NameKind}
use Rattle.jr_tree.specs.declared.label.NameKind.TheVariants as kind
use Rattle.jr_tree.specs.declared.label.Role.{Role}
use Rattle.jr_tree.specs.declared.label.Sought.{Sought}
use Rattle.jr_tree.specs.declared.label.Sought.TheVariants as sought
use Rattle.jr_tree.specs.Rows.{Rows, parent, role_at}
use Rattle.jr_defs.specs.declared.referent.Space.TheVariants as space
use Rattle.jr_defs.specs.declared.referent.RowType.{RowType}
use Rattle.jr_defs.specs.declared.referent.Referent.{Referent}
use Rattle.jr_defs.specs.declared.referent.Referent.TheVariants.{Unbound, Ambiguous, ArrayLength, Package, Declared}
use Rattle.jr_defs.specs.Referents.{Table, IsAnswer, one, none, several}
use Rattle.jr_defs.specs.Enclosing.{BodyOf, InBody, ConstructorOf}
use Rattle.jr_defs.specs.Modifiers.{IsInner}
use Rattle.jr_defs.specs.Supertypes.{Superclass}
use Rattle.jr_defs.specs.Members.{MemberNamed}
use Rattle.jr_defs.specs.Overloads.{Applicable, IsMostSpecific, Choice, ImportedChoice}
use Rattle.jr_defs.specs.Lookup.{SimpleCandidate, MemberBefore, TypeBefore, QualifiedCandidate, MethodLevel, ImportedMethod, MethodCandidate, NewLevel, CalledClass, Candidate, PackageBefore, ArrayBefore, IsPackageName, IsLength, MayBeLength, Otherwise, LookFor}
use Rattle.jr_defs.specs.Correspondence.{IsDeclared, Alike, Carries, IsRead, IsCall, Corresponds, moved, moved_level, moved_types, moved_receiver}
use Rattle.jr_defs.proofs.CarryMembers.{type_declared, member_named_over}
use Rattle.jr_defs.proofs.CarryScope.{in_scope_over, no_method}
use Rattle.jr_defs.proofs.CarryOverloads.{SetsBoth, Both, flipped, most_over}
use Rattle.jr_defs.proofs.CarryLookup.{simple_over, member_before_over, type_before_over, super_over_here, superclass_known, innermost_over, inner_over, level_method_over, applicables, choice_over, methods_of, constructors_of, imported_declared, imported_over, encloses_over}
use Rattle.jr_defs.proofs.CarryAnswers.{LevelDeclared, IsKnown, candidate_known}

module _ (p : Rows) (t : Table) (K : ℕ → Type 0) (q : Rows) (u : Table) (L : ℕ → Type 0) (f g : ℕ → ℕ) (C D : ℕ → Type 0) (o o' : ℕ) (x : Text) where
  -- ---- names behind a dot

  qualified_over : (k : NameKind) → Corresponds p t K q u L f g C D o o' (sought.Qualified k) → Corresponds q u L p t K g f D C o' o (sought.Qualified k) → (d : ℕ)
      → QualifiedCandidate p t K x o k d → QualifiedCandidate q u L x o' k (f d)
  qualified_over _ to from d (QualifiedCandidate.variable h) = QualifiedCandidate.variable (member_before_over p t K q u L f g C D o o' (sought.Qualified kind.Variable) to from x d tt h)
  qualified_over _ to from d (QualifiedCandidate.type h) = QualifiedCandidate.type (type_before_over p t K q u L f g C D o o' (sought.Qualified kind.Type) to from x d h)
  qualified_over _ to from d (QualifiedCandidate.package_or_type h) =
      QualifiedCandidate.package_or_type (type_before_over p t K q u L f g C D o o' (sought.Qualified kind.PackageOrType) to from x d h)
  qualified_over _ to from d (QualifiedCandidate.first_field h) =
      QualifiedCandidate.first_field (member_before_over p t K q u L f g C D o o' (sought.Qualified kind.Ambiguous) to from x d tt h)
  qualified_over _ to from d (QualifiedCandidate.then_type n h) = QualifiedCandidate.then_type
      (λ e' w. n (g e') (member_before_over q u L p t K g f D C o' o (sought.Qualified kind.Ambiguous) from to x e' tt w))
      (type_before_over p t K q u L f g C D o o' (sought.Qualified kind.Ambiguous) to from x d h)

  -- ---- calls

  imported_choice : (s : Sought) (to : Corresponds p t K q u L f g C D o o' s) (from : Corresponds q u L p t K g f D C o' o s) → IsCall s → (all : List RowType)
      → moved_types g (moved_types f all) ≡ all → (d : ℕ) → ImportedChoice p t o all (ImportedMethod p t x o) d → ImportedChoice q u o' (moved_types f all) (ImportedMethod q u x o') (f d)
  imported_choice s to from call all back d w = made w
    where
      sets : SetsBoth p q f g (ImportedMethod p t x o) (ImportedMethod q u x o')
      sets = record {
        there = record { goes = λ m h. imported_over p t K q u L f g C D o o' s to from x m call h; are = λ m h. imported_declared p t K q u L f g C D o o' s to from x m h };
        back = record { goes = λ m h. imported_over q u L p t K g f D C o' o s from to x m call h; are = λ m h. imported_declared q u L p t K g f D C o' o s from to x m h };
      }

      both : Both p t q u f g (Applicable p t o None all (ImportedMethod p t x o)) (Applicable q u o' None (moved_types f all) (ImportedMethod q u x o'))
      both = applicables p t K q u L f g C D o o' s to from call call None all refl back (ImportedMethod p t x o) (ImportedMethod q u x o') sets

      made : ImportedChoice p t o all (ImportedMethod p t x o) d → ImportedChoice q u o' (moved_types f all) (ImportedMethod q u x o') (f d)
      made (ImportedChoice.chosen h) = ImportedChoice.chosen
          (most_over p t q u f g (Applicable p t o None all (ImportedMethod p t x o)) (Applicable q u o' None (moved_types f all) (ImportedMethod q u x o')) both d h)
      made (ImportedChoice.undecided n h) = ImportedChoice.undecided
          (λ k' w. n (g k') (most_over q u p t g f (Applicable q u o' None (moved_types f all) (ImportedMethod q u x o')) (Applicable p t o None all (ImportedMethod p t x o))
          (flipped p t q u f g (Applicable p t o None all (ImportedMethod p t x o)) (Applicable q u o' None (moved_types f all) (ImportedMethod q u x o')) both) k' w))
          (both.there.sets.there.goes d h)

  method_over : (s : Sought) (to : Corresponds p t K q u L f g C D o o' s) (from : Corresponds q u L p t K g f D C o' o s) → IsCall s → (all : List RowType)
      → moved_types g (moved_types f all) ≡ all → (d : ℕ) (l : Option ℕ) → MethodCandidate p t x o all d l → MethodCandidate q u x o' (moved_types f all) (f d) (moved_level f l)
  method_over s to from call all back d _ (MethodCandidate.member {c = c} h w) = let k = to.places.body_known c h.holds in
      MethodCandidate.member (level_method_over p t K q u L f g C D o o' s to from x c call call h)
      (choice_over p t K q u L f g C D o o' s to from call call None all refl back (MemberNamed p t space.Method x c) (MemberNamed q u space.Method x (f c))
      (methods_of p t K q u L f g C D o o' s to from x c call k) c d k w)
  method_over s to from call all back d _ (MethodCandidate.imported n w) =
      MethodCandidate.imported (λ c' m. n (g c') (level_method_over q u L p t K g f D C o' o s from to x c' call call m)) (imported_choice s to from call all back d w)

  new_over : (s : Sought) (to : Corresponds p t K q u L f g C D o o' s) (from : Corresponds q u L p t K g f D C o' o s) → (c : ℕ) (l : Option ℕ) → C c → NewLevel p t o c l
      → NewLevel q u o' (f c) (moved_level f l)
  new_over s to from c _ k (NewLevel.free h) = NewLevel.free (λ w. h (subst (IsInner p) (to.carries.alike.back c (type_declared p c (to.carries.known c k)))
      (inner_over q u L p t K g f D C o' o s from to (f c) w)))
  new_over s to from c _ k (NewLevel.inner {e = e} h w) = NewLevel.inner (inner_over p t K q u L f g C D o o' s to from c h)
      (encloses_over p t K q u L f g C D o o' s to from c e (to.carries.known c k) w)

  called_known : (s : Sought) (to : Corresponds p t K q u L f g C D o o' s) (from : Corresponds q u L p t K g f D C o' o s) → (w : ThisOrSuper) (c : ℕ) → CalledClass p t o w c → C c
  called_known s to from _ c (CalledClass.this h) = to.places.body_known c h.holds
  called_known s to from _ r (CalledClass.super {c = c} h up) = superclass_known p t K q u L f g C D o o' s to from c r (to.places.body_known c h.holds) up

  called_over : (s : Sought) (to : Corresponds p t K q u L f g C D o o' s) (from : Corresponds q u L p t K g f D C o' o s) → (w : ThisOrSuper) (c : ℕ) → CalledClass p t o w c
      → CalledClass q u o' w (f c)
  called_over s to from _ c (CalledClass.this h) = CalledClass.this (innermost_over p t K q u L f g C D o o' s to from c h)
  called_over s to from _ r (CalledClass.super {c = c} h up) = CalledClass.super (innermost_over p t K q u L f g C D o o' s to from c h)
      (to.carries.superclass c r (to.places.body_known c h.holds) up)

  super_known_here : (s : Sought) (to : Corresponds p t K q u L f g C D o o' s) (from : Corresponds q u L p t K g f D C o' o s) → (c r : ℕ) → InBody p c o → Superclass p t c r → C r
  super_known_here s to from c r h up = superclass_known p t K q u L f g C D o o' s to from c r (to.places.body_known c h) up

  -- ---- candidates

  pub candidate_over : (s : Sought) (to : Corresponds p t K q u L f g C D o o' s) (from : Corresponds q u L p t K g f D C o' o s) → (d : ℕ) (l : Option ℕ)
      → Candidate p t K o x s d l → Candidate q u L o' x s (f d) (moved_level f l)
  candidate_over s to from d l (Candidate.simple {k = k} h) = Candidate.simple (simple_over p t K q u L f g C D o o' (sought.Simple k) to from x k d l tt h)
  candidate_over s to from d _ (Candidate.qualified {k = k} h) = Candidate.qualified (qualified_over k to from d h)
  candidate_over s to from d _ (Candidate.field h) = Candidate.field (member_before_over p t K q u L f g C D o o' s to from x d tt h)
  candidate_over s to from d _ (Candidate.super_field {s = r} h m) = Candidate.super_field (super_over_here p t K q u L f g C D o o' s to from r h)
      (member_named_over p t q u f g C D to.carries from.carries space.Variable x r d (super_known_here s to from h.class r h.innermost.holds h.above)
      (λ e. absurd (no_method space.Variable (role_at p d) (λ k. cc) m.declares.of_kind e)) m)
  candidate_over s to from d l (Candidate.method {all = all} h w) = Candidate.method (to.asks.arguments tt all h) (method_over s to from tt all (to.asks.arguments_back tt all h) d l w)
  candidate_over s to from d _ (Candidate.method_of {c = c} {receiver = r} {all = all} h a w) = let k = to.asks.receiver_known tt c r h in
      Candidate.method_of (to.asks.receiver tt c r h) (to.asks.arguments tt all a)
      (choice_over p t K q u L f g C D o o' s to from tt tt r all (to.asks.receiver_back tt c r h) (to.asks.arguments_back tt all a) (MemberNamed p t space.Method x c) (MemberNamed q u space.Method x (f c))
      (methods_of p t K q u L f g C D o o' s to from x c tt k) c d k w)
  candidate_over s to from d _ (Candidate.super_method {s = r} {all = all} h a w) = let k = super_known_here s to from h.class r h.innermost.holds h.above in
      Candidate.super_method (super_over_here p t K q u L f g C D o o' s to from r h) (to.asks.arguments tt all a)
      (choice_over p t K q u L f g C D o o' s to from tt tt None all refl (to.asks.arguments_back tt all a) (MemberNamed p t space.Method x r) (MemberNamed q u space.Method x (f r))
      (methods_of p t K q u L f g C D o o' s to from x r tt k) r d k w)
  candidate_over s to from d l (Candidate.creation {c = c} {all = all} h n a w) = let k = to.asks.named_known c h in
      Candidate.creation (to.asks.named c h) (new_over s to from c l k n) (to.asks.arguments tt all a)
      (choice_over p t K q u L f g C D o o' s to from tt tt None all refl (to.asks.arguments_back tt all a) (ConstructorOf p c) (ConstructorOf q (f c))
      (constructors_of p t K q u L f g C D o o' s to from c k) c d k w)
  candidate_over s to from d _ (Candidate.constructor {w = which'} {c = c} {all = all} h a w) = let k = called_known s to from which' c h in
      Candidate.constructor (called_over s to from which' c h) (to.asks.arguments tt all a)
      (choice_over p t K q u L f g C D o o' s to from tt tt None all refl (to.asks.arguments_back tt all a) (ConstructorOf p c) (ConstructorOf q (f c))
      (constructors_of p t K q u L f g C D o o' s to from c k) c d k w)
  candidate_over s to from d _ (Candidate.own_class h) = Candidate.own_class (to.places.own_body d h)
  candidate_over s to from d _ (Candidate.labeled {depth = r} h) = Candidate.labeled (in_scope_over p t q u f g C D to.carries from.carries space.Label x o o' d r (λ k. cc) to.places (to.imports tt) h)

  -- ---- where there is none

  package_over : (s : Sought) (to : Corresponds p t K q u L f g C D o o' s) → (a : Sought) → IsPackageName p t o a → IsPackageName q u o' a
  package_over s to _ (IsPackageName.simple h) = IsPackageName.simple h
  package_over s to _ (IsPackageName.qualified {path = path} h w) = IsPackageName.qualified h (to.asks.packaged path w)

  length_over : (s : Sought) (to : Corresponds p t K q u L f g C D o o' s) → IsLength p t K o x s → IsLength q u L o' x s
  length_over s to h = record { allowed = h.allowed; array = to.asks.array (length_read s h.allowed) h.array; named = h.named }
    where
      length_read : (a : Sought) → MayBeLength a → IsRead a
      length_read (sought.Qualified kind.Variable) m = tt
      length_read (sought.Qualified kind.Ambiguous) m = tt
      length_read sought.FieldOf m = tt
      length_read _ m = absurd m

  level_back : (l : Option ℕ) → ((n : ℕ) → IsDeclared p n → g (f n) ≡ n) → LevelDeclared p l → moved_level g (moved_level f l) ≡ l
  level_back None back k = refl
  level_back (Some c) back k = ap (λ n. Some n) (back c k)

-- what is known of the other direction
module _ (p : Rows) (t : Table) (K : ℕ → Type 0) (q : Rows) (u : Table) (L : ℕ → Type 0) (f g : ℕ → ℕ) (C D : ℕ → Type 0) (o o' : ℕ) (x : Text) (s : Sought)
    (to : Corresponds p t K q u L f g C D o o' s) (from : Corresponds q u L p t K g f D C o' o s) where
  otherwise_over : (a : Referent) → Otherwise p t K o x s a → Otherwise q u L o' x s (moved f a)
  otherwise_over _ (Otherwise.package_name h) = Otherwise.package_name (package_over p t K q u L f g C D o o' x s to s h)
  otherwise_over _ (Otherwise.length n h) = Otherwise.length (λ w. n (package_over q u L p t K g f D C o' o x s from s w)) (length_over p t K q u L f g C D o o' x s to h)
  otherwise_over _ (Otherwise.unbound n m) = Otherwise.unbound (λ w. n (package_over q u L p t K g f D C o' o x s from s w)) (λ w. m (length_over q u L p t K g f D C o' o x s from w))

  over : (d : ℕ) (l : Option ℕ) → Candidate p t K o x s d l → Candidate q u L o' x s (f d) (moved_level f l)
  over d l h = candidate_over p t K q u L f g C D o o' x s to from d l h

  back : (d : ℕ) (l : Option ℕ) → Candidate q u L o' x s d l → Candidate p t K o x s (g d) (moved_level g l)
  back d l h = candidate_over q u L p t K g f D C o' o x s from to d l h

  row_there : (d : ℕ) (l : Option ℕ) → Candidate p t K o x s d l → g (f d) ≡ d
  row_there d l h = to.carries.alike.back d (candidate_known p t K o x s d l h).row

  row_here : (d : ℕ) (l : Option ℕ) → Candidate q u L o' x s d l → f (g d) ≡ d
  row_here d l h = from.carries.alike.back d (candidate_known q u L o' x s d l h).row

  level_there : (d : ℕ) (l : Option ℕ) → Candidate p t K o x s d l → moved_level g (moved_level f l) ≡ l
  level_there d l h = level_back p t K q u L f g C D o o' x l to.carries.alike.back (candidate_known p t K o x s d l h).through

  level_here : (d : ℕ) (l : Option ℕ) → Candidate q u L o' x s d l → moved_level f (moved_level g l) ≡ l
  level_here d l h = level_back q u L p t K g f D C o' o x l from.carries.alike.back (candidate_known q u L o' x s d l h).through

  -- the law
  pub look_carries : (a : Referent) → LookFor p t K o x s a → LookFor q u L o' x s (moved f a)
  look_carries _ (one d l h only) = one (f d) (moved_level f l) (over d l h) (λ e' m' w.
      let b = back e' m' w in
      let z = only (g e') (moved_level g m') b in
      (sym (row_here e' m' w) ∙ ap f z.0, sym (level_here e' m' w) ∙ ap (moved_level f) z.1))
  look_carries a (none never h) = none (λ d' l' w. never (g d') (moved_level g l') (back d' l' w)) (otherwise_over a h)
  look_carries _ (several d e l m h k apart) = several (f d) (f e) (moved_level f l) (moved_level f m) (over d l h) (over e m k) (λ w.
      let a = w.0 in let b = w.1 in
      apart (sym (row_there d l h) ∙ ap g a ∙ row_there e m k, sym (level_there d l h) ∙ ap (moved_level g) b ∙ level_there e m k))
