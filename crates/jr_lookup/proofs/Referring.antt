-- The answer of candidates that are all found.
use Rattle.std.proofs.Common.{◌≡◌, refl, sym, ◌∙◌, ap, subst, arith, ℕ, Bool, true, false, List, [], ◌∷◌, length, Option, Some, None}
use Rattle.std.proofs.lemmas.Bool.{false≢true}
use Rattle.std.proofs.lemmas.Bool.Decides.{Decides-eqb}
use Rattle.std.proofs.lemmas.Slice.Eq.{bytes_eq-Decides}
use Rattle.std.proofs.lemmas.Option.{none-some, same_Some}
use Rattle.jr_base.specs.declared.text.Text.{Text}
use Rattle.jr_tree.specs.declared.label.NameKind.{NameKind}
use Rattle.jr_tree.specs.declared.label.NameKind.TheVariants as names
use Rattle.jr_tree.specs.declared.label.Role.{Role}
use Rattle.jr_tree.specs.declared.label.Role.TheVariants as role
use Rattle.jr_tree.specs.Rows.{Rows, name, parent, role_at}
use Rattle.jr_defs.specs.declared.referent.Space.TheVariants as space
use Rattle.jr_defs.specs.declared.referent.Referent.{Referent}
use Rattle.jr_defs.specs.declared.referent.Referent.TheVariants.{Unbound, Package, Declared}
use Rattle.jr_defs.specs.Referents.{Table, IsAnswer}
use Rattle.jr_defs.specs.Declarations as def
use Rattle.jr_defs.specs.Enclosing.{IsMemberRole, BodyOf}
use Rattle.jr_defs.specs.Supertypes.{Superclass}
use Rattle.jr_defs.specs.Members.{MemberNamed}
use Rattle.jr_defs.specs.Lookup.{VisibleThrough, SimpleCandidate, SuperOf}
use Rattle.jr_plain.specs.Headed.{IsHeaded}
use Rattle.jr_plain.specs.Search.{has, Finds}
use Rattle.jr_plain.specs.Lists.{at_level}
use Rattle.jr_plain.specs.Referents.{answer_of}
use Rattle.jr_plain.specs.Enclosing.{is_body_of}
use Rattle.jr_plain.proofs.Tests.{itself, like}
use Rattle.jr_plain.proofs.Listed.{at_level_has}
use Rattle.jr_plain.proofs.Answered.{answer_is}
use Rattle.jr_plain.proofs.Enclosed.{body_tells}
use Rattle.jr_plain.proofs.Scoped.{somewhere_tells}
use Rattle.jr_places.specs.Names.{name_row}
use Rattle.jr_members.specs.declared.declared.MemberKind.TheVariants as kind
use Rattle.jr_members.specs.Each.{ListsEach}
use Rattle.jr_members.specs.Held.{IsMemberAs}
use Rattle.jr_members.proofs.Each.{front_has}
use Rattle.jr_lookup.specs.Instances.{IsInstanceRound}
use Rattle.jr_lookup.specs.Outward.{IsNumberOf}
use Rattle.jr_lookup.specs.Labels.{AreLabelsAt}
use Rattle.jr_lookup.specs.Types.{AreVisibleAt}
use Rattle.jr_lookup.specs.Answers.{AreAllThrough, simple_otherwise, IsOwnClass, IsLabelAt, IsSuperField}
use Rattle.jr_lookup.proofs.Leveling.{declared_somewhere}

pub answer_all : (C : ℕ → Option ℕ → Type 0) (found : List ℕ) (level : Option ℕ) (otherwise a : Referent) → AreAllThrough C found level → a ≡ answer_of (at_level level found) otherwise → IsAnswer C (λ b. b ≡ otherwise) a
answer_all C found level otherwise a are is = subst (λ a. IsAnswer C (λ b. b ≡ otherwise) a) (sym is) (answer_is C (λ b. b ≡ otherwise) (at_level level found)
    (λ d l. like (at_level_has {P = λ k. has found k ≡ true} level found (λ k. itself (has found k)) (d, l)) (λ h. subst (C d) (sym h.1) (are.sound d h.0)) (λ c. are.whole d l c))
    otherwise (λ never. refl))

pub answer_none : (C : ℕ → Option ℕ → Type 0) (otherwise a : Referent) → ((d : ℕ) (l : Option ℕ) → C d l → ⊥) → a ≡ otherwise → IsAnswer C (λ b. b ≡ otherwise) a
answer_none C otherwise a never is = IsAnswer.none never is

pub answer_one : (C : ℕ → Option ℕ → Type 0) (otherwise : Referent) (d : ℕ) (level : Option ℕ) → C d level → ((e : ℕ) (l : Option ℕ) → C e l → (e ≡ d) × (l ≡ level)) → IsAnswer C (λ b. b ≡ otherwise) (Declared d level)
answer_one C otherwise d level here only = IsAnswer.one d level here only

-- ---- the superclass

module _ (p : Rows) (t : Table) (o : ℕ) where
  pub super_some : (c : ℕ) (round above : Option ℕ) → Finds round (IsInstanceRound p o) → round ≡ Some c → Finds above (Superclass p t c) → Finds above (λ s. SuperOf p t o s)
  super_some c round above f e g s = (
    λ is. let i = (f c).0 e in record { class = c; innermost = i.innermost; instance = i.instance; above = (g s).0 is },
    λ h. let same = same_Some h.class c (sym ((f h.class).1 (record { innermost = h.innermost; instance = h.instance })) ∙ e) in (g s).1 (subst (λ c. Superclass p t c s) same h.above),
  )

  pub super_none : (round : Option ℕ) → Finds round (IsInstanceRound p o) → round ≡ None → Finds None (λ s. SuperOf p t o s)
  super_none round f e s = (λ is. absurd (none-some s is), λ h. absurd (none-some h.class (sym e ∙ (f h.class).1 (record { innermost = h.innermost; instance = h.instance }))))

-- ---- names without a dot

none_has : (xs : List ℕ) → length xs ≡ 0 → (d : ℕ) → has xs d ≡ true → ⊥
none_has [] e d h = false≢true h
none_has (y ∷ ys) e d h = omega arith

module _ (p : Rows) (t : Table) (x : Text) (o : ℕ) where
  abbrev pub Simple : NameKind → ℕ → Option ℕ → Type 0
  Simple k d l = SimpleCandidate p t x o k d l

  variable_into : {d : ℕ} {l : Option ℕ} → Simple names.Variable d l → VisibleThrough p t space.Variable x o d l
  variable_into (SimpleCandidate.variable h) = h

  type_into : {d : ℕ} {l : Option ℕ} → Simple names.Type d l → VisibleThrough p t space.Type x o d l
  type_into (SimpleCandidate.type h) = h

  package_into : {d : ℕ} {l : Option ℕ} → Simple names.PackageOrType d l → VisibleThrough p t space.Type x o d l
  package_into (SimpleCandidate.package_or_type h) = h

  pub no_simple : (d : ℕ) (l : Option ℕ) → Simple names.Package d l → ⊥
  no_simple d l h = elim h [ ]

  pub all_variables : (found : List ℕ) (level : Option ℕ) → AreVisibleAt p t space.Variable x o found level → AreAllThrough (Simple names.Variable) found level
  all_variables found level are = record { sound = λ d h. SimpleCandidate.variable (are.sound d h); whole = λ d l c. are.whole d l (variable_into c) }

  pub all_types : (found : List ℕ) (level : Option ℕ) → AreVisibleAt p t space.Type x o found level → AreAllThrough (Simple names.Type) found level
  all_types found level are = record { sound = λ d h. SimpleCandidate.type (are.sound d h); whole = λ d l c. are.whole d l (type_into c) }

  pub all_packages : (found : List ℕ) (level : Option ℕ) → AreVisibleAt p t space.Type x o found level → AreAllThrough (Simple names.PackageOrType) found level
  all_packages found level are = record { sound = λ d h. SimpleCandidate.package_or_type (are.sound d h); whole = λ d l c. are.whole d l (package_into c) }

  pub ambiguous_first : (found : List ℕ) (level : Option ℕ) → AreVisibleAt p t space.Variable x o found level → (length found ≡ 0 → ⊥) → AreAllThrough (Simple names.Ambiguous) found level
  ambiguous_first [] level are more = absurd (more refl)
  ambiguous_first (y ∷ ys) level are more = record { sound = λ d h. SimpleCandidate.first_variable (are.sound d h); whole = λ d l c. by c }
    where
      by : {d : ℕ} {l : Option ℕ} → Simple names.Ambiguous d l → (has (y ∷ ys) d ≡ true) × (l ≡ level)
      by {d = d} {l = l} (SimpleCandidate.first_variable h) = are.whole d l h
      by (SimpleCandidate.then_type none h) = let first = are.sound y (front_has y ys) in absurd (none y first.depth first.visible.in_scope)

  pub ambiguous_then : (variables found : List ℕ) (inner level : Option ℕ) → AreVisibleAt p t space.Variable x o variables inner → length variables ≡ 0 → AreVisibleAt p t space.Type x o found level
      → AreAllThrough (Simple names.Ambiguous) found level
  ambiguous_then variables found inner level first empty are = record { sound = λ d h. SimpleCandidate.then_type (first.none empty) (are.sound d h); whole = λ d l c. by c }
    where
      by : {d : ℕ} {l : Option ℕ} → Simple names.Ambiguous d l → (has found d ≡ true) × (l ≡ level)
      by {d = d} {l = l} (SimpleCandidate.first_variable h) = absurd (none_has variables empty d (first.whole d l h).0)
      by {d = d} {l = l} (SimpleCandidate.then_type none h) = are.whole d l h

  -- ---- labels

  pub all_labels : IsHeaded p → (found : List ℕ) (level : Option ℕ) → AreLabelsAt p t x o found → level ≡ None → AreAllThrough (λ d l. IsLabelAt p t x o d l) found level
  all_labels headed found level are is = record {
    sound = λ d h. let s = (somewhere_tells p t headed space.Label x o d).0 (sym (are d) ∙ h) in record { depth = s.0; in_scope = s.1; free = is };
    whole = λ d l k. (are d ∙ (somewhere_tells p t headed space.Label x o d).1 (k.depth, k.in_scope), k.free ∙ sym is);
  }

  field_of : (r : Role) → def.IsOf space.Variable r → IsMemberRole r → r ≡ role.Field
  field_of role.Field h k = refl
  field_of role.Type h k = absurd h
  field_of role.Method h k = absurd h
  field_of _ h k = absurd k

  module _ (n : ℕ) (number : IsNumberOf p n x) where
    -- fields of the number are those of the name
    pub as_named : (c d : ℕ) → IsMemberAs p t kind.Field c n d → MemberNamed p t space.Variable x c d
    as_named c d m = record {
      member = m.member;
      declares = record { of_kind = subst (def.IsOf space.Variable) (sym m.of.role_is) tt; named = (bytes_eq-Decides (name p d) x).0 (sym (number d) ∙ (Decides-eqb (name_row p d) n).1 m.of.named) };
    }

    pub named_as : (c d : ℕ) → MemberNamed p t space.Variable x c d → IsMemberAs p t kind.Field c n d
    named_as c d m = let k = declared_somewhere p t c d m.member in record {
      of = record { role_is = field_of (role_at p d) m.declares.of_kind k.1.member; named = (Decides-eqb (name_row p d) n).0 (number d ∙ (bytes_eq-Decides (name p d) x).1 m.declares.named) };
      member = m.member;
    }

    pub super_fields : (s : ℕ) (super : Option ℕ) → Finds super (λ s. SuperOf p t o s) → super ≡ Some s → (found : List ℕ) (level : Option ℕ) → ListsEach found (IsMemberAs p t kind.Field s n) → level ≡ None
        → AreAllThrough (λ d l. IsSuperField p t x o d l) found level
    super_fields s super f e found level each is = record {
      sound = λ d h. record { class = s; super_of = (f s).0 e; member = as_named s d ((each.lists d).0 h); free = is };
      whole = λ d l k. let same = same_Some k.class s (sym ((f k.class).1 k.super_of) ∙ e) in ((each.lists d).1 (named_as s d (subst (λ c. MemberNamed p t space.Variable x c d) same k.member)), k.free ∙ sym is);
    }

  pub no_super : (super : Option ℕ) → Finds super (λ s. SuperOf p t o s) → super ≡ None → (d : ℕ) (l : Option ℕ) → IsSuperField p t x o d l → ⊥
  no_super super f e d l k = none-some k.class (sym e ∙ (f k.class).1 k.super_of)

-- ---- the class of a constructor

own_is : (p : Rows) (o c : ℕ) → IsOwnClass p o c None → (e : ℕ) (l : Option ℕ) → IsOwnClass p o e l → (e ≡ c) × (l ≡ None)
own_is p o c h e l k = (sym k.body.inside ∙ h.body.inside, k.free)

pub own_class_one : (p : Rows) (o body c : ℕ) (b : Bool) → body ≡ parent p o → b ≡ is_body_of p c body → b ≡ true → IsAnswer (λ c l. IsOwnClass p o c l) (λ a. a ≡ Unbound) (Declared c None)
own_class_one p o body c b inside is yes_is = let here : IsOwnClass p o c None = record { body = (body_tells p c (parent p o)).0 (ap (is_body_of p c) (sym inside) ∙ sym is ∙ yes_is); free = refl } in
    answer_one (λ c l. IsOwnClass p o c l) Unbound c None here (own_is p o c here)

pub own_class_none : (p : Rows) (o body c : ℕ) (b : Bool) → body ≡ parent p o → c ≡ parent p body → b ≡ is_body_of p c body → b ≡ false → IsAnswer (λ c l. IsOwnClass p o c l) (λ a. a ≡ Unbound) Unbound
own_class_none p o body c b inside over is not_is = answer_none (λ c l. IsOwnClass p o c l) Unbound Unbound (λ d l k. false≢true (sym not_is ∙ is ∙ (body_tells p c body).1
    (subst (λ b. BodyOf p c b) (sym inside) (subst (λ c. BodyOf p c (parent p o)) (sym k.body.inside ∙ ap (parent p) (sym inside) ∙ sym over) k.body)))) refl

-- ---- by the kind of a name

pub simple_by : (p : Rows) (t : Table) (x : Text) (o : ℕ) (k j : NameKind) (a : Referent) → j ≡ k → IsAnswer (λ d l. SimpleCandidate p t x o k d l) (λ b. b ≡ simple_otherwise k) a
    → IsAnswer (λ d l. SimpleCandidate p t x o j d l) (λ b. b ≡ simple_otherwise j) a
simple_by p t x o k j a e h = subst (λ k. IsAnswer (λ d l. SimpleCandidate p t x o k d l) (λ b. b ≡ simple_otherwise k) a) (sym e) h
