-- What corresponding occurrences may refer to corresponds: lookup does not depend on how anything else is written.
use Rattle.std.proofs.Common.{◌≡◌, ◌⊎◌, ℕ, suc, ◌<◌, ◌≤◌, refl, sym, ◌∙◌, ap, subst, inl, inr, arith, List, [], ◌∷◌}
use Rattle.std.specs.Prelude.{Option, Some, None}
use Rattle.jr_base.specs.declared.text.Text.{Text}
use Rattle.jr_tree.specs.declared.tree.ThisOrSuper.{ThisOrSuper}
use Rattle.jr_tree.specs.declared.tree.ThisOrSuper.TheVariants as which
use Rattle.jr_tree.specs.declared.label.Label.{Label}
use Rattle.jr_tree.specs.declared.label.Label.TheVariants as is
use Rattle.jr_tree.specs.declared.label.NameKind.{NameKind}
use Rattle.jr_tree.specs.declared.label.NameKind.TheVariants as kind
use Rattle.jr_tree.specs.declared.label.Role.{Role}
use Rattle.jr_tree.specs.declared.label.Role.TheVariants as role
use Rattle.jr_tree.specs.declared.label.Sought.{Sought}
use Rattle.jr_tree.specs.declared.label.Sought.TheVariants as sought
use Rattle.jr_tree.specs.Labels.{role_of}
use Rattle.jr_tree.specs.Rows.{Rows, label, name, parent, role_at, sought_at}
use Rattle.jr_defs.specs.declared.referent.Space.{Space}
use Rattle.jr_defs.specs.declared.referent.Space.TheVariants as space
use Rattle.jr_defs.specs.declared.referent.RowType.{RowType}
use Rattle.jr_defs.specs.declared.referent.Referent.{Referent}
use Rattle.jr_defs.specs.declared.referent.Referent.TheVariants.{Unbound, Ambiguous, ArrayLength, Package, Declared}
use Rattle.jr_defs.specs.Referents.{Table, IsAnswer, one, none, several}
use Rattle.jr_defs.specs.Declarations.{Declares, IsType, IsClass, IsClassLabel}
use Rattle.jr_defs.specs.Enclosing.{BodyOf, InBody, Innermost, DeclaredIn, ConstructorOf}
use Rattle.jr_defs.specs.Modifiers.{IsInner, IsStatic}
use Rattle.jr_defs.specs.Types.{NamesType}
use Rattle.jr_defs.specs.Supertypes.{Super, SuperAt, Superclass}
use Rattle.jr_defs.specs.Members.{MemberOf, MemberNamed}
use Rattle.jr_defs.specs.Scope.{Depth, within}
use Rattle.jr_defs.specs.Overloads.{IsApplicable, Applicable, IsMostSpecific, Choice, ImportedChoice, Earlier}
use Rattle.jr_defs.specs.Lookup.{SimpleCandidate, MemberBefore, TypeBefore, QualifiedCandidate, SuperOf, MethodLevel, ImportedMethod, MethodCandidate, EnclosesNew, NewLevel, CalledClass, Candidate, IsPackageName, IsLength, Otherwise, LookFor, Arguments}
use Rattle.jr_defs.specs.Correspondence.{IsDeclared, Alike, Carries, Sees, Places, IsRound, Asks, IsRead, IsScoped, IsCall, Corresponds, moved, moved_level, moved_types, moved_receiver}
use Rattle.jr_defs.proofs.CarryMembers.{of_role, type_declared, declared_in_declared, member_declared, role_over, at_role, type_over, static_over, declares_over, member_over, member_named_over}
use Rattle.jr_defs.proofs.CarryScope.{scope_declared, depth_declared, IsNoMethod, no_method, found_over, none_over}
use Rattle.jr_defs.proofs.CarryOverloads.{Sets, SetsBoth, turned, applicable_over, more_specific_over, result_over, earlier_over, Choosing, Both, flipped, both_most, most_over, left_of_over}

pub class_type_label : (l : Label) → IsClassLabel l → role_of l ≡ role.Type
class_type_label (is.Class m b) h = refl
class_type_label _ h = absurd h

-- ---- a direction, given the other

module _ (p : Rows) (t : Table) (K : ℕ → Type 0) (q : Rows) (u : Table) (L : ℕ → Type 0) (f g : ℕ → ℕ) (C D : ℕ → Type 0) (o o' : ℕ) (s : Sought)
    (to : Corresponds p t K q u L f g C D o o' s) (from : Corresponds q u L p t K g f D C o' o s) where
  pub simple_over : (x : Text) (k : NameKind) (d : ℕ) (level : Option ℕ) → IsScoped s → SimpleCandidate p t x o k d level → SimpleCandidate q u x o' k (f d) (moved_level f level)
  simple_over x _ d l sc (SimpleCandidate.variable h) = SimpleCandidate.variable (found_over p t q u f g C D to.carries from.carries o o' to.places from.places (to.imports sc) (from.imports sc) space.Variable x d l (λ k. cc) h)
  simple_over x _ d l sc (SimpleCandidate.type h) = SimpleCandidate.type (found_over p t q u f g C D to.carries from.carries o o' to.places from.places (to.imports sc) (from.imports sc) space.Type x d l (λ k. cc) h)
  simple_over x _ d l sc (SimpleCandidate.package_or_type h) = SimpleCandidate.package_or_type (found_over p t q u f g C D to.carries from.carries o o' to.places from.places (to.imports sc) (from.imports sc) space.Type x d l (λ k. cc) h)
  simple_over x _ d l sc (SimpleCandidate.first_variable h) = SimpleCandidate.first_variable (found_over p t q u f g C D to.carries from.carries o o' to.places from.places (to.imports sc) (from.imports sc) space.Variable x d l (λ k. cc) h)
  simple_over x _ d l sc (SimpleCandidate.then_type none' h) = SimpleCandidate.then_type
      (none_over p t q u f g C D to.carries from.carries o o' to.places from.places (to.imports sc) (from.imports sc) space.Variable x (λ k. cc) none')
      (found_over p t q u f g C D to.carries from.carries o o' to.places from.places (to.imports sc) (from.imports sc) space.Type x d l (λ k. cc) h)

  pub member_before_over : (x : Text) (d : ℕ) → IsRead s → MemberBefore p t K space.Variable x o d → MemberBefore q u L space.Variable x o' (f d)
  member_before_over x d read h = record {
    class = f h.class;
    receiver = moved_receiver f h.receiver;
    before = to.asks.receiver read h.class h.receiver h.before;
    member = member_named_over p t q u f g C D to.carries from.carries space.Variable x h.class d (to.asks.receiver_known read h.class h.receiver h.before)
        (λ e. absurd (no_method space.Variable (role_at p d) (λ k. cc) h.member.declares.of_kind e)) h.member;
  }

  pub type_before_over : (x : Text) (d : ℕ) → TypeBefore p t x o d → TypeBefore q u x o' (f d)
  type_before_over x d (TypeBefore.member {c = c} h m) = TypeBefore.member (to.asks.named c h)
      (member_named_over p t q u f g C D to.carries from.carries space.Type x c d (to.asks.named_known c h)
      (λ e. absurd (no_method space.Type (role_at p d) (λ k. cc) m.declares.of_kind e)) m)
  type_before_over x d (TypeBefore.top {path = path} h w i) = TypeBefore.top (to.asks.packaged path h) (to.carries.alike.of_path path d w)
      (declares_over p q f g to.carries.alike space.Type x d (type_declared p d w.top.type) i)

  pub innermost_over : (c : ℕ) → Innermost p o c → Innermost q o' (f c)
  innermost_over c h = record {
    holds = to.places.body c h.holds;
    innermost = λ e' w. let v = from.places.body e' w in
        subst (λ e. e ≤ f c) (from.carries.alike.back e' (type_declared q e' w.of_type.type)) (to.places.order (g e') c (IsRound.body v) (IsRound.body h.holds) (h.innermost (g e') v));
  }

  pub super_over_here : (r : ℕ) → SuperOf p t o r → SuperOf q u o' (f r)
  super_over_here r h = record {
    class = f h.class;
    innermost = innermost_over h.class h.innermost;
    instance = to.places.instance h.class h.instance;
    above = to.carries.superclass h.class r (to.places.body_known h.class h.innermost.holds) h.above;
  }

  pub superclass_known : (c r : ℕ) → C c → Superclass p t c r → C r
  superclass_known c r k (Superclass.named {n = n} a b) = to.carries.super_known c n r k (SuperAt.class a b)
  superclass_known c r k (Superclass.implied a b) = to.carries.super_known c c r k (SuperAt.implied a b)

  pub inner_over : (c : ℕ) → IsInner p c → IsInner q (f c)
  inner_over c h = let l = type_declared p c (class_type_label (label p c) h.class) in record {
    class = subst IsClassLabel (sym (to.carries.alike.label_same c l)) h.class;
    around = f h.around;
    member = to.carries.alike.declared h.around c h.member;
    instance = λ s. h.instance (subst (IsStatic p) (to.carries.alike.back c l)
        (static_over q p g f from.carries.alike (f c) (λ n. l (sym (role_over p q f g to.carries.alike c l) ∙ n)) s));
  }

  pub level_method_over : (x : Text) (c : ℕ) → IsCall s → IsCall s → MethodLevel p t x o c → MethodLevel q u x o' (f c)
  level_method_over x c call call' h = record {
    holds = to.places.body c h.holds;
    some = f h.some;
    member = member_named_over p t q u f g C D to.carries from.carries space.Method x c h.some (to.places.body_known c h.holds) (λ _. from.sees call') h.member;
    innermost = λ e' d' w m.
        let v = from.places.body e' w in
        let n = member_named_over q u p t g f D C from.carries to.carries space.Method x e' d' (from.places.body_known e' w) (λ _. to.sees call) m in
        subst (λ e. e ≤ f c) (from.carries.alike.back e' (type_declared q e' w.of_type.type)) (to.places.order (g e') c (IsRound.body v) (IsRound.body h.holds) (h.innermost (g e') (g d') v n));
  }

  -- what stands for the methods and constructors of a call
  module _ (call : IsCall s) (call' : IsCall s) (receiver : Option RowType) (arguments : List RowType)
      (same_receiver : moved_receiver g (moved_receiver f receiver) ≡ receiver) (same_arguments : moved_types g (moved_types f arguments) ≡ arguments) where
    pub applicables : (S S' : ℕ → Type 0) → SetsBoth p q f g S S'
        → Both p t q u f g (Applicable p t o receiver arguments S) (Applicable q u o' (moved_receiver f receiver) (moved_types f arguments) S')
    applicables S S' sets = record {
      there = record {
        alike = to.carries.alike;
        sets = record {
          there = record {
            goes = λ m h. record {
              candidate = sets.there.goes m h.candidate;
              applicable = applicable_over p t q u f g C D to.carries (to.wide call) o o' to.places (to.sees call) receiver arguments m (sets.there.are m h.candidate) h.applicable;
            };
            are = λ m h. sets.there.are m h.candidate;
          };
          back = record { goes = λ m h. back_goes m h; are = λ m h. sets.back.are m h.candidate };
        };
        specific = more_specific_over p t q u f g C D to.carries (to.wide call) o o' to.places (to.sees call);
        results = result_over p t q u f g C D to.carries (to.wide call) o o' to.places (to.sees call);
      };
      back = record {
        alike = from.carries.alike;
        sets = record {
          there = record { goes = λ m h. back_goes m h; are = λ m h. sets.back.are m h.candidate };
          back = record {
            goes = λ m h. record {
              candidate = sets.there.goes m h.candidate;
              applicable = applicable_over p t q u f g C D to.carries (to.wide call) o o' to.places (to.sees call) receiver arguments m (sets.there.are m h.candidate) h.applicable;
            };
            are = λ m h. sets.there.are m h.candidate;
          };
        };
        specific = more_specific_over q u p t g f D C from.carries (from.wide call') o' o from.places (from.sees call');
        results = result_over q u p t g f D C from.carries (from.wide call') o' o from.places (from.sees call');
      };
    }
      where
        back_goes : (m : ℕ) → Applicable q u o' (moved_receiver f receiver) (moved_types f arguments) S' m → Applicable p t o receiver arguments S (g m)
        back_goes m h = record {
          candidate = sets.back.goes m h.candidate;
          applicable = subst (λ r. IsApplicable p t o r arguments (g m)) same_receiver (subst (λ a. IsApplicable p t o (moved_receiver g (moved_receiver f receiver)) a (g m)) same_arguments
              (applicable_over q u p t g f D C from.carries (from.wide call') o' o from.places (from.sees call') (moved_receiver f receiver) (moved_types f arguments) m
              (sets.back.are m h.candidate) h.applicable));
        }

    pub choice_over : (S S' : ℕ → Type 0) → SetsBoth p q f g S S' → (c m : ℕ) → C c → Choice p t c o receiver arguments S m
        → Choice q u (f c) o' (moved_receiver f receiver) (moved_types f arguments) S' (f m)
    choice_over S S' sets c m k h = left_of_over p t q u f g (Applicable p t o receiver arguments S) (Applicable q u o' (moved_receiver f receiver) (moved_types f arguments) S')
        (applicables S S' sets) c (f c) (λ d e i j w. earlier_over p t q u f g C D to.carries from.carries (from.sees call') (to.sees call) c d e k i j w)
        (λ d e i j w. subst (λ c. Earlier p t c (g d) (g e)) (to.carries.alike.back c (type_declared p c (to.carries.known c k)))
        (earlier_over q u p t g f D C from.carries to.carries (to.sees call) (from.sees call') (f c) d e (to.carries.goes c k) i j w)) m h

  -- the methods of a name, and the constructors, of corresponding types
  pub methods_of : (x : Text) (c : ℕ) → IsCall s → C c → SetsBoth p q f g (MemberNamed p t space.Method x c) (MemberNamed q u space.Method x (f c))
  methods_of x c call k = record {
    there = record {
      goes = λ m h. member_named_over p t q u f g C D to.carries from.carries space.Method x c m k (λ _. from.sees call) h;
      are = λ m h. member_declared p t c m h.member;
    };
    back = record {
      goes = λ m h. subst (λ c. MemberNamed p t space.Method x c (g m)) (to.carries.alike.back c (type_declared p c (to.carries.known c k)))
          (member_named_over q u p t g f D C from.carries to.carries space.Method x (f c) m (to.carries.goes c k) (λ _. to.sees call) h);
      are = λ m h. member_declared q u (f c) m h.member;
    };
  }

  pub constructors_of : (c : ℕ) → C c → SetsBoth p q f g (ConstructorOf p c) (ConstructorOf q (f c))
  constructors_of c k = record {
    there = record {
      goes = λ m h. to.carries.alike.constructor c m h;
      are = λ m h. of_role p m role.Constructor h.constructor (λ k. cc);
    };
    back = record {
      goes = λ m h. subst (λ c. ConstructorOf p c (g m)) (to.carries.alike.back c (type_declared p c (to.carries.known c k))) (from.carries.alike.constructor (f c) m h);
      are = λ m h. of_role q m role.Constructor h.constructor (λ k. cc);
    };
  }

  pub imported_declared : (x : Text) (d : ℕ) → ImportedMethod p t x o d → IsDeclared p d
  imported_declared x d h = member_declared p t h.imported.brings.imports.of_type d h.imported.brings.imports.member

  pub imported_over : (x : Text) (d : ℕ) → IsCall s → ImportedMethod p t x o d → ImportedMethod q u x o' (f d)
  imported_over x d call h = record {
    imported = to.asks.imported call d h.imported;
    declares = declares_over p q f g to.carries.alike space.Method x d (imported_declared x d h) h.declares;
  }

  pub encloses_over : (c e : ℕ) → IsType p c → EnclosesNew p t o c e → EnclosesNew q u o' (f c) (f e)
  encloses_over c e k h = record {
    holds = to.places.body e h.holds;
    member = member_over p t q u f g C D to.carries from.carries e c (to.places.body_known e h.holds) (λ m. absurd (let x = sym k ∙ m in cc)) h.member;
    innermost = λ e' w m.
        let v = from.places.body e' w in
        let j = type_over p q f g to.carries.alike c k in
        let n = subst (MemberOf p t (g e')) (to.carries.alike.back c (type_declared p c k))
        (member_over q u p t g f D C from.carries to.carries e' (f c) (from.places.body_known e' w) (λ m. absurd (let x = sym j ∙ m in cc)) m) in
        subst (λ x. x ≤ f e) (from.carries.alike.back e' (type_declared q e' w.of_type.type)) (to.places.order (g e') e (IsRound.body v) (IsRound.body h.holds) (h.innermost (g e') v n));
  }
