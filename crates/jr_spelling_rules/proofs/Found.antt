-- What is found behind what stands before a name is computed.
use Rattle.std.proofs.Common.{◌≡◌, refl, sym, ◌∙◌, subst, inl, inr, ⊎_elim, ℕ, Bool, false, cond, if◌then◌else◌, List, [], ◌∷◌, length, Option, None, nat_eq, Decides, append-nil}
use Rattle.std.proofs.lemmas.Bool.Decides.{Decides-eqb}
use Rattle.jr_base.specs.declared.text.Text.{Text}
use Rattle.jr_tree.specs.declared.label.NameKind.{NameKind}
use Rattle.jr_tree.specs.declared.label.NameKind.TheVariants as kind
use Rattle.jr_tree.specs.declared.label.Sought.TheVariants as sought
use Rattle.jr_tree.specs.Rows.{Rows, role_at}
use Rattle.jr_defs.specs.declared.referent.Space.{Space}
use Rattle.jr_defs.specs.declared.referent.Space.TheVariants as space
use Rattle.jr_defs.specs.declared.referent.Referent.{Referent}
use Rattle.jr_defs.specs.declared.referent.Referent.TheVariants.{Unbound, Package}
use Rattle.jr_defs.specs.Referents.{Table, IsAnswer}
use Rattle.jr_defs.specs.Declarations.{Declares}
use Rattle.jr_defs.specs.Lookup.{level_of, VisibleThrough, NoneInScope, SimpleCandidate}
use Rattle.jr_defs.specs.Packages.{TypeOfPackage}
use Rattle.jr_defs.specs.Scope.{Depth, InScope, Visible}
use Rattle.jr_defs.proofs.Unique.{answer_unique}
use Rattle.jr_plain.specs.Headed.{IsHeaded}
use Rattle.jr_plain.specs.Search.{all_such, gathered, Lists}
use Rattle.jr_plain.specs.Same.{same_candidate}
use Rattle.jr_plain.specs.Lists.{Has, at_level}
use Rattle.jr_plain.specs.Referents.{answer_of, is_candidate}
use Rattle.jr_plain.specs.Declarations.{declares}
use Rattle.jr_plain.specs.Lookup as plain
use Rattle.jr_plain.specs.Members.{members_named}
use Rattle.jr_plain.specs.Scope.{depth_at, depths, is_somewhere_in_scope, is_visible}
use Rattle.jr_plain.proofs.Tests.{never, both, opposite, like}
use Rattle.jr_plain.proofs.Searches.{some, lists}
use Rattle.jr_plain.proofs.Same.{candidate_tells}
use Rattle.jr_plain.proofs.Listed.{or_else_has, append_has, one_has, if_has, gathered_has, at_level_has}
use Rattle.jr_plain.proofs.Answered.{answer_is}
use Rattle.jr_plain.proofs.Declared.{declares_tells}
use Rattle.jr_plain.proofs.LookedUp.{visible_through_has, none_tells}
use Rattle.jr_plain.proofs.Membership.{members_named_list}
use Rattle.jr_plain.proofs.Packaged.{type_of_package_tells}
use Rattle.jr_plain.proofs.Scoped.{each_depth_has, declares_below, in_scope_below, depth_below, somewhere_tells, visible_tells}
use Rattle.jr_with.specs.World.{world_of}
use Rattle.jr_with.specs.With as with
use Rattle.jr_spelling_rules.specs.Naming.{Before, at_start, in_package, in_type, left_behind, look_up}
use Rattle.jr_spelling_rules.specs.Behind.{FieldBehind, TypeBehind, NamedBehind, IsNamedAt, else_behind, IsFoundAt}

-- the only answer for want of a candidate is the other one
one_other : (other a b : Referent) → a ≡ other → b ≡ other → a ≡ b
one_other other a b h k = h ∙ sym k

-- two answers of one set are one
pub one_answer : (C : ℕ → Option ℕ → Type 0) (other a b : Referent) → IsAnswer C (λ r. r ≡ other) a → IsAnswer C (λ r. r ≡ other) b → a ≡ b
one_answer C other a b h k = answer_unique C (λ r. r ≡ other) (one_other other) a b h k

-- the answer of a list of all candidates
answer_by_list : (C : ℕ → Option ℕ → Type 0) (all : List (ℕ × Option ℕ)) (other : Referent) → ((d : ℕ) (l : Option ℕ) → Decides (is_candidate all d l) (C d l)) → IsAnswer C (λ r. r ≡ other) (answer_of all other)
answer_by_list C all other tells = answer_is C (λ r. r ≡ other) all tells other (λ never. refl)

module _ (p : Rows) (t : Table) (headed : IsHeaded p) where
  -- ---- names without a dot

  simple_has : (x : Text) (o : ℕ) (k : NameKind) → Has same_candidate (plain.simple_candidates p t x o k) (λ c. SimpleCandidate p t x o k c.0 c.1)
  simple_has x o kind.Variable c = like (visible_through_has p t headed space.Variable x o c) (λ h. SimpleCandidate.variable h) (λ h. elim h [ SimpleCandidate.variable v ↦ v ])
  simple_has x o kind.Type c = like (visible_through_has p t headed space.Type x o c) (λ h. SimpleCandidate.type h) (λ h. elim h [ SimpleCandidate.type v ↦ v ])
  simple_has x o kind.PackageOrType c = like (visible_through_has p t headed space.Type x o c) (λ h. SimpleCandidate.package_or_type h) (λ h. elim h [ SimpleCandidate.package_or_type v ↦ v ])
  simple_has x o kind.Ambiguous c = like
      (append_has same_candidate candidate_tells (plain.visible_through p t space.Variable x o) (if plain.none_in_scope p t space.Variable x o then plain.visible_through p t space.Type x o else [])
      (visible_through_has p t headed space.Variable x o)
      (if_has same_candidate candidate_tells (plain.none_in_scope p t space.Variable x o) (none_tells p t headed space.Variable x o) (plain.visible_through p t space.Type x o) (visible_through_has p t headed space.Type x o)) c)
      (⊎_elim (λ h. SimpleCandidate.first_variable h) (λ h. SimpleCandidate.then_type h.0 h.1))
      (λ h. elim h [ SimpleCandidate.first_variable v ↦ inl v | SimpleCandidate.then_type n v ↦ inr (n, v) ])
  simple_has x o kind.Package c = like never (λ h. absurd h) (λ h. elim h [ ])

  -- ---- behind a package or a type

  abbrev fields_at : Text → Before → List ℕ
  fields_at x b = with.members_before p (world_of p t) (left_behind b) space.Variable x

  abbrev types_at : Text → Before → List ℕ
  types_at x b = with.types_before p (world_of p t) (left_behind b) x

  fields_list : (x : Text) (b : Before) → (b ≡ at_start → ⊥) → Lists (fields_at x b) (FieldBehind p t x b)
  fields_list x at_start away d = absurd (away refl)
  fields_list x (in_package path) away d = like never (λ h. absurd h) (λ h. elim h [ ])
  fields_list x (in_type c) away d = subst (λ all. Lists all (FieldBehind p t x (in_type c))) (sym (append-nil (members_named p t space.Variable x c)))
      (λ e. like (members_named_list p t headed space.Variable x c e) (λ h. FieldBehind.member h) (λ h. elim h [ FieldBehind.member m ↦ m ])) d

  top_list : (path : List Text) (x : Text) → Lists (all_such (length p) (λ d. plain.is_named_type_of_package p path x d)) (TypeBehind p t x (in_package path))
  top_list path x d = like (lists (λ d. plain.is_named_type_of_package p path x d) (λ d. TypeOfPackage p path d × Declares p space.Type x d)
      (λ d. both (type_of_package_tells p path d) (declares_tells p space.Type x d)) (length p) (λ d h. declares_below p space.Type x d h.1) d)
      (λ h. TypeBehind.top h.0 h.1) (λ h. elim h [ TypeBehind.top a b ↦ (a, b) ])

  types_list : (x : Text) (b : Before) → (b ≡ at_start → ⊥) → Lists (types_at x b) (TypeBehind p t x b)
  types_list x at_start away d = absurd (away refl)
  types_list x (in_package path) away d = top_list path x d
  types_list x (in_type c) away d = subst (λ all. Lists all (TypeBehind p t x (in_type c))) (sym (append-nil (members_named p t space.Type x c)))
      (λ e. like (members_named_list p t headed space.Type x c e) (λ h. TypeBehind.member h) (λ h. elim h [ TypeBehind.member m ↦ m ])) d

  named_list : (x : Text) (b : Before) → (b ≡ at_start → ⊥) → (k : NameKind) → Lists (with.qualified_candidates p (world_of p t) (left_behind b) x k) (NamedBehind p t x b k)
  named_list x b away kind.Variable d = like (fields_list x b away d) (λ h. NamedBehind.variable h) (λ h. elim h [ NamedBehind.variable v ↦ v ])
  named_list x b away kind.Type d = like (types_list x b away d) (λ h. NamedBehind.type h) (λ h. elim h [ NamedBehind.type v ↦ v ])
  named_list x b away kind.PackageOrType d = like (types_list x b away d) (λ h. NamedBehind.package_or_type h) (λ h. elim h [ NamedBehind.package_or_type v ↦ v ])
  named_list x b away kind.Ambiguous d = like
      (or_else_has nat_eq Decides-eqb (fields_at x b) (types_at x b) (fields_list x b away) (types_list x b away) d)
      (⊎_elim (λ h. NamedBehind.first_field h) (λ h. NamedBehind.then_type h.0 h.1)) (λ h. elim h [ NamedBehind.first_field f ↦ inl f | NamedBehind.then_type n v ↦ inr (n, v) ])
  named_list x b away kind.Package d = like never (λ h. absurd h) (λ h. elim h [ ])

  -- ---- what a name refers to

  package_apart : {path : List Text} → in_package path ≡ at_start → ⊥
  package_apart e = cc

  type_apart : {c : ℕ} → in_type c ≡ at_start → ⊥
  type_apart e = cc

  no_length : (b : Bool) → cond b Package (cond false Package Unbound) ≡ cond b Package Unbound
  no_length b = refl

  other_in_package : (path : List Text) (x : Text) (k : NameKind) → with.otherwise (left_behind (in_package path)) x (sought.Qualified k) ≡ else_behind (in_package path) k
  other_in_package path x kind.Variable = refl
  other_in_package path x kind.Type = refl
  other_in_package path x kind.PackageOrType = refl
  other_in_package path x kind.Ambiguous = refl
  other_in_package path x kind.Package = refl

  other_in_type : (c : ℕ) (x : Text) (k : NameKind) → with.otherwise (left_behind (in_type c)) x (sought.Qualified k) ≡ else_behind (in_type c) k
  other_in_type c x kind.Variable = refl
  other_in_type c x kind.Type = refl
  other_in_type c x kind.PackageOrType = refl
  other_in_type c x kind.Ambiguous = refl
  other_in_type c x kind.Package = refl

  at_start_has : (x : Text) (o : ℕ) (k : NameKind) (d : ℕ) (l : Option ℕ) → Decides (is_candidate (with.simple_candidates p (world_of p t) x o k) d l) (SimpleCandidate p t x o k d l)
  at_start_has x o kind.Variable d l = simple_has x o kind.Variable (d, l)
  at_start_has x o kind.Type d l = simple_has x o kind.Type (d, l)
  at_start_has x o kind.PackageOrType d l = simple_has x o kind.PackageOrType (d, l)
  at_start_has x o kind.Ambiguous d l = simple_has x o kind.Ambiguous (d, l)
  at_start_has x o kind.Package d l = simple_has x o kind.Package (d, l)

  pub looked_up : (o : ℕ) (b : Before) (k : NameKind) (x : Text) → IsFoundAt p t x o b k (look_up p t o b k x)
  looked_up o at_start k x = answer_by_list (SimpleCandidate p t x o k) (with.simple_candidates p (world_of p t) x o k) (else_behind at_start k) (at_start_has x o k)
  looked_up o (in_package path) k x = subst (λ other. IsAnswer (λ d l. NamedBehind p t x (in_package path) k d × (l ≡ None)) (λ r. r ≡ else_behind (in_package path) k) (answer_of all other)) (sym (other_in_package path x k))
      (answer_by_list (λ d l. NamedBehind p t x (in_package path) k d × (l ≡ None)) all (else_behind (in_package path) k) (λ d l. at_level_has None rows (named_list x (in_package path) package_apart k) (d, l)))
    where
      rows : List ℕ
      rows = with.qualified_candidates p (world_of p t) (left_behind (in_package path)) x k

      all : List (ℕ × Option ℕ)
      all = at_level None rows
  looked_up o (in_type c) k x = subst (λ other. IsAnswer (λ d l. NamedBehind p t x (in_type c) k d × (l ≡ None)) (λ r. r ≡ else_behind (in_type c) k) (answer_of all other)) (sym (other_in_type c x k))
      (answer_by_list (λ d l. NamedBehind p t x (in_type c) k d × (l ≡ None)) all (else_behind (in_type c) k) (λ d l. at_level_has None rows (named_list x (in_type c) type_apart k) (d, l)))
    where
      rows : List ℕ
      rows = with.qualified_candidates p (world_of p t) (left_behind (in_type c)) x k

      all : List (ℕ × Option ℕ)
      all = at_level None rows

  -- and that alone
  pub looked_up_only : (o : ℕ) (b : Before) (k : NameKind) (x : Text) (a : Referent) → IsFoundAt p t x o b k a → a ≡ look_up p t o b k x
  looked_up_only o b k x a h = one_answer (λ d l. IsNamedAt p t x o b k d l) (else_behind b k) a (look_up p t o b k x) h (looked_up o b k x)
