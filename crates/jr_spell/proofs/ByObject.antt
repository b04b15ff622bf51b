-- Ways to write a member by an object are those of the definition.
use Rattle.std.proofs.Common.{◌≡◌, refl, sym, ◌∙◌, ap, ap₂, subst, ℕ, ◌<◌, Bool, true, false, not, ◌&&◌, cond, List, [], ◌∷◌, ◌++◌, length, Option, Some, None}
use Rattle.std.specs.Option.{is_some}
use Rattle.std.proofs.lemmas.Bool.{and_parts}
use Rattle.std.proofs.lemmas.Option.{none-some, same_Some}
use Rattle.jr_tree.specs.declared.label.NameKind.TheVariants as kind
use Rattle.jr_tree.specs.declared.label.Sought.{Sought}
use Rattle.jr_tree.specs.declared.label.Sought.TheVariants as sought
use Rattle.jr_tree.specs.Rows.{Rows, label, name, parent, role_at, sought_at}
use Rattle.jr_defs.specs.declared.referent.Referent.{Referent}
use Rattle.jr_defs.specs.declared.referent.RowType.{RowType}
use Rattle.jr_defs.specs.Enclosing.{holder}
use Rattle.jr_defs.specs.Referents.{Table}
use Rattle.jr_plain.specs.Declarations.{is_type}
use Rattle.jr_plain.specs.Enclosing.{declaring_type, innermost, is_body, is_body_of, is_declared_in, is_member_role}
use Rattle.jr_plain.specs.Instances.{has_instance}
use Rattle.jr_shapes.specs.declared.spelling.Shape.{Shape}
use Rattle.jr_shapes.specs.declared.spelling.Shape.TheVariants as shape
use Rattle.jr_shapes.specs.declared.spelling.Suffix.{Suffix}
use Rattle.jr_shapes.specs.Names.{named_by}
use Rattle.jr_with.specs.World.{world_of}
use Rattle.jr_with.specs.With.{look_with}
use Rattle.jr_lookup.proofs.Looking.{named_first}
use Rattle.jr_spelling_rules.specs.Candidates as candidate
use Rattle.jr_spelling_rules.specs.Candidates.{Candidate, Added}
use Rattle.jr_spelling_rules.specs.Fitting.{found}
use Rattle.jr_spelling_rules.specs.Naming.{in_type, look_up}
use Rattle.jr_spell.specs.declared.added.Added.{Added as Code}
use Rattle.jr_spell.specs.declared.fitting.Fit.{Fit}
use Rattle.jr_spell.specs.declared.fitting.Looked.{Looked}
use Rattle.jr_spell.specs.declared.fitting.Way.{Way}
use Rattle.jr_spell.specs.declared.objects.Addition.{Addition}
use Rattle.jr_spell.specs.declared.objects.Addition.TheVariants as addition
use Rattle.jr_spell.specs.declared.reference.Reference.{Reference}
use Rattle.jr_spell.specs.declared.speller.Speller.{Speller}
use Rattle.jr_spell.specs.Adding.{IsAdded}
use Rattle.jr_spell.specs.Objects as object
use Rattle.jr_spell.specs.Objects.{IsSame}
use Rattle.jr_spell.specs.Shaping.{IsFirstOf, AreLooked}
use Rattle.jr_spell.specs.Spellers.{rows_of, table_of, number_by, fits_looked, fit_by}
use Rattle.jr_spell.proofs.Keeping.{is_type_below}
use Rattle.jr_spell.proofs.Shaped.{fit_looked}

-- ---- instances at a place

module _ (p : Rows) (t : Table) (n : ℕ) where
  abbrev round_by : Option ℕ → Option ℕ
  round_by o = elim o as (λ _. Option ℕ) [ Some c ↦ cond (has_instance p n c) (Some c) None | None ↦ None ]

  pub round_some : (around : Option ℕ) (c : ℕ) (has : Bool) → around ≡ innermost p n → around ≡ Some c → has ≡ has_instance p n c → object.only_if has c ≡ candidate.instance_round p t n
  round_some around c has is e h = ap (λ b. cond b (Some c) None) h ∙ ap round_by (sym e ∙ is)

  pub round_none : (around : Option ℕ) → around ≡ innermost p n → around ≡ None → None ≡ candidate.instance_round p t n
  round_none around is e = ap round_by (sym e ∙ is)

  abbrev here_by : Option ℕ → Option ℕ
  here_by o = elim o as (λ _. Option ℕ) [ Some l ↦ cond (candidate.is_same_row (candidate.instance_round p t n) l) (Some l) None | None ↦ None ]

  pub here_some : (lock : Referent) (found : Option ℕ) (l : ℕ) (round : Option ℕ) → lock ≡ t n → found ≡ candidate.level_of lock → found ≡ Some l → round ≡ candidate.instance_round p t n → object.only_same round l ≡ candidate.level_here p t n
  here_some lock found l round at is e h = ap (λ r. object.only_same r l) h ∙ ap here_by (sym e ∙ is ∙ ap candidate.level_of at)

  pub here_none : (lock : Referent) (found : Option ℕ) → lock ≡ t n → found ≡ candidate.level_of lock → found ≡ None → None ≡ candidate.level_here p t n
  here_none lock found at is e = ap here_by (sym e ∙ is ∙ ap candidate.level_of at)

  abbrev with_by : Option ℕ → Option ℕ
  with_by o = elim o as (λ _. Option ℕ) [ Some l ↦ cond (has_instance p n l) (Some l) None | None ↦ None ]

  pub with_some : (lock : Referent) (found : Option ℕ) (l : ℕ) (has : Bool) → lock ≡ t n → found ≡ candidate.level_of lock → found ≡ Some l → has ≡ has_instance p n l → object.only_if has l ≡ candidate.level_with_instance p t n
  with_some lock found l has at is e h = ap (λ b. cond b (Some l) None) h ∙ ap with_by (sym e ∙ is ∙ ap candidate.level_of at)

  pub with_none : (lock : Referent) (found : Option ℕ) → lock ≡ t n → found ≡ candidate.level_of lock → found ≡ None → None ≡ candidate.level_with_instance p t n
  with_none lock found at is e = ap with_by (sym e ∙ is ∙ ap candidate.level_of at)

  abbrev declaring_by : Option ℕ → Option ℕ
  declaring_by o = elim o as (λ _. Option ℕ) [ Some d ↦ declaring_type p d | None ↦ None ]

  pub declaring_some : (lock : Referent) (found : Option ℕ) (d : ℕ) → lock ≡ t n → found ≡ candidate.target lock → found ≡ Some d → declaring_type p d ≡ candidate.declaring p t n
  declaring_some lock found d at is e = ap declaring_by (sym e ∙ is ∙ ap candidate.target at)

  pub declaring_none : (lock : Referent) (found : Option ℕ) → lock ≡ t n → found ≡ candidate.target lock → found ≡ None → None ≡ candidate.declaring p t n
  declaring_none lock found at is e = ap declaring_by (sym e ∙ is ∙ ap candidate.target at)

  -- the type that declares is a row
  declared_within : (c : ℕ) (d : ℕ) → is_declared_in p c d ≡ true → c < length p
  declared_within c d e = let h = holder (role_at p d) p d in let of_body = (and_parts (is_member_role (role_at p d)) (is_body_of p c h) e).1 in is_type_below p c (body_type c h of_body)
    where
      body_type : (c h : ℕ) → is_body_of p c h ≡ true → is_type p c ≡ true
      body_type c h e = let first = and_parts (is_type p c && is_body (label p h)) _ e in (and_parts (is_type p c) (is_body (label p h)) first.0).0

  declaring_within_by : (c d : ℕ) (b : Bool) → is_declared_in p c d ≡ b → (found : ℕ) → cond b (Some c) None ≡ Some found → found < length p
  declaring_within_by c d true e found is = subst (λ k. k < length p) (same_Some c found is) (declared_within c d e)
  declaring_within_by c d false e found is = absurd (none-some found is)

  pub declaring_within : (c : ℕ) → candidate.declaring p t n ≡ Some c → c < length p
  declaring_within c e = by (candidate.target (t n)) e
    where
      by : (o : Option ℕ) → declaring_by o ≡ Some c → c < length p
      by (Some d) is = declaring_within_by (parent p (holder (role_at p d) p d)) d (is_declared_in p (parent p (holder (role_at p d) p d)) d) refl c is
      by None is = absurd (none-some c is)

  pub level_within : (l : ℕ) → candidate.level_with_instance p t n ≡ Some l → candidate.level_of (t n) ≡ Some l
  level_within l e = by (candidate.level_of (t n)) e
    where
      by : (o : Option ℕ) → with_by o ≡ Some l → o ≡ Some l
      by (Some k) is = same (has_instance p n k) is
        where
          same : (b : Bool) → cond b (Some k) None ≡ Some l → Some k ≡ Some l
          same true e = e
          same false e = absurd (none-some l e)
      by None is = absurd (none-some l is)

-- ---- a member of an object of a class

module _ (p : Rows) (t : Table) (given : Option (List RowType)) (n : ℕ) (shape : Shape) (trace : List Referent) (c : ℕ) where
  abbrev found_by : Bool → Referent
  found_by call = look_with p (world_of p t) (candidate.on_object p t given n shape trace c).left n (name p (named_by p n (t n))) (cond call sought.MethodOf sought.FieldOf)

  field_is : look_up p t n (in_type c) kind.Variable (name p (named_by p n (t n))) ≡ found_by false
  field_is = refl

  pub object_found : (seeks : Sought) (number : ℕ) (a : Referent) → seeks ≡ sought_at p n → candidate.is_call seeks ≡ false → number ≡ number_by p n (t n)
      → a ≡ look_up p t n (in_type c) kind.Variable (name p number) → a ≡ found p t n (candidate.on_object p t given n shape trace c)
  object_found seeks number a e uncalled is h = h ∙ ap (λ m. look_up p t n (in_type c) kind.Variable (name p m)) is
      ∙ ap (look_up p t n (in_type c) kind.Variable) (named_first p (named_by p n (t n)))
      ∙ field_is ∙ ap found_by (sym (ap candidate.is_call (sym e) ∙ uncalled))

module _ (s : Speller) (r : Reference) (is : r.lock ≡ table_of s r.row) (given : Option (List RowType)) (shape : Shape) where
  abbrev p : Rows
  p = rows_of s

  abbrev t : Table
  t = table_of s

  pub object_first : (c : ℕ) (level : Option ℕ) (looked : Looked) (fit : Option Fit) → looked.found ≡ found p t r.row (candidate.on_object p t given r.row shape looked.trace.items c)
      → level ≡ candidate.level_of r.lock → looked.way ≡ object.object_way c level → fit ≡ fit_by (fits_looked s r looked) shape looked → IsFirstOf s r.row (candidate.on_object p t given r.row shape looked.trace.items c ∷ []) fit
  object_first c level looked fit found_is level_is way_is e = fit_looked s r.row r refl shape (AreLooked.some {c = candidate.on_object p t given r.row shape looked.trace.items c} refl (record {
    found_is = found_is;
    trace_is = refl;
    receiver_is = ap (λ (w : Way). w.receiver) way_is;
    level_is = ap (λ (w : Way). w.level) way_is ∙ level_is ∙ ap candidate.level_of is;
    form_is = ap (λ (w : Way). w.is_constant_form) way_is;
  })) looked refl fit e

-- ---- names that are added

pub added_some : {o : Option Code} {q : Option Added} → IsAdded o q → (a : Code) → o ≡ Some a → (b : Added) × (q ≡ Some b) × IsSame a b
added_some IsAdded.none a e = absurd (none-some a e)
added_some (IsAdded.some {a = one} {b = b} as_suffix as_trace) a e = (b, refl, subst (λ c. IsSame c b) (same_Some one a e) (record { suffix_is = as_suffix; trace_is = as_trace }))

pub added_none : {o : Option Code} {q : Option Added} → IsAdded o q → o ≡ None → q ≡ None
added_none IsAdded.none e = refl
added_none (IsAdded.some {a = one} x y) e = absurd (none-some one (sym e))

module _ (p : Rows) (t : Table) (given : Option (List RowType)) (n : ℕ) where
  abbrev object_at : Shape → List Referent → ℕ → Candidate
  object_at shape trace c = candidate.on_object p t given n shape trace c

  abbrev added_by : Addition → ℕ → Option Added → List Candidate
  added_by way c o = elim o as (λ _. List Candidate) [ Some a ↦ object_at (object.shape_by way a.suffix) a.trace c ∷ [] | None ↦ [] ]

  pub by_added_some : (way : Addition) (c : ℕ) (a : Code) (b : Added) → candidate.added p t n kind.Type c ≡ Some b → IsSame a b → (shape : Shape) → shape ≡ object.shape_by way a.suffix
      → object_at shape a.trace.items c ∷ [] ≡ object.by_added p t given n way c
  by_added_some way c a b e same shape is = ap₂ (λ f xs. object_at f xs c ∷ []) (is ∙ ap (object.shape_by way) same.suffix_is) same.trace_is ∙ sym (ap (added_by way c) e)

  pub by_added_none : (way : Addition) (c : ℕ) → candidate.added p t n kind.Type c ≡ None → [] ≡ object.by_added p t given n way c
  by_added_none way c e = sym (ap (added_by way c) e)

  -- ---- of the lock

  abbrev this_by : Option ℕ → List Candidate
  this_by o = elim o as (λ _. List Candidate) [ Some l ↦ object_at shape.This [] l ∷ [] | None ↦ [] ]

  pub this_is : (o : Option ℕ) → o ≡ candidate.level_here p t n → (l : ℕ) → o ≡ Some l → object_at shape.This [] l ∷ [] ≡ candidate.on_this p t given n
  this_is o is l e = ap this_by (sym e ∙ is)

  pub this_none : (o : Option ℕ) → o ≡ candidate.level_here p t n → o ≡ None → [] ≡ candidate.on_this p t given n
  this_none o is e = ap this_by (sym e ∙ is)

  abbrev outer_by : Option ℕ → List Candidate
  outer_by o = elim o as (λ _. List Candidate) [ Some l ↦ object.by_added p t given n addition.Outer l | None ↦ [] ]

  pub outer_is : (o : Option ℕ) → o ≡ candidate.level_with_instance p t n → (l : ℕ) → o ≡ Some l → object.by_added p t given n addition.Outer l ≡ candidate.on_outer p t given n
  outer_is o is l e = ap outer_by (sym e ∙ is)

  pub outer_none : (o : Option ℕ) → o ≡ candidate.level_with_instance p t n → o ≡ None → [] ≡ candidate.on_outer p t given n
  outer_none o is e = ap outer_by (sym e ∙ is)

  -- ---- of the declaring type

  abbrev cast_by : Addition → Option ℕ → List Candidate
  cast_by way o = elim o as (λ _. List Candidate) [ Some c ↦ object.by_added p t given n way c | None ↦ [] ]

  pub cast_this_is : (o : Option ℕ) → o ≡ candidate.declaring p t n → (c : ℕ) → o ≡ Some c → object.by_added p t given n addition.CastThis c ≡ candidate.on_cast_this p t given n
  cast_this_is o is c e = ap (cast_by addition.CastThis) (sym e ∙ is)

  pub cast_this_none : (o : Option ℕ) → o ≡ candidate.declaring p t n → o ≡ None → [] ≡ candidate.on_cast_this p t given n
  cast_this_none o is e = ap (cast_by addition.CastThis) (sym e ∙ is)

  pub cast_is : (o : Option ℕ) → o ≡ candidate.declaring p t n → (c : ℕ) → o ≡ Some c → object.by_added p t given n addition.Cast c ≡ candidate.on_cast p t given n
  cast_is o is c e = ap (cast_by addition.Cast) (sym e ∙ is)

  pub cast_none : (o : Option ℕ) → o ≡ candidate.declaring p t n → o ≡ None → [] ≡ candidate.on_cast p t given n
  cast_none o is e = ap (cast_by addition.Cast) (sym e ∙ is)

  pub super_cast_some : (o : Option ℕ) → o ≡ candidate.instance_round p t n → (c : ℕ) → o ≡ Some c → candidate.on_cast_this p t given n ≡ candidate.in_place_of_super p t given n
  super_cast_some o is c e = ap (λ o. cond (is_some o) (candidate.on_cast_this p t given n) []) (sym e ∙ is)

  pub super_cast_none : (o : Option ℕ) → o ≡ candidate.instance_round p t n → o ≡ None → [] ≡ candidate.in_place_of_super p t given n
  super_cast_none o is e = ap (λ o. cond (is_some o) (candidate.on_cast_this p t given n) []) (sym e ∙ is)

  -- ---- both

  pub outer_written : (c : ℕ) (x y : Code) (a b : Added) → IsSame x a → IsSame y b → object_at (shape.CastOuter x.suffix y.suffix) (x.trace.items ++ y.trace.items) c ≡ candidate.cast_outer p t given n c a b
  outer_written c x y a b h k = ap₂ (λ f xs. object_at f xs c) (ap₂ (λ u v. shape.CastOuter u v) h.suffix_is k.suffix_is) (ap₂ (λ xs ys. xs ++ ys) h.trace_is k.trace_is)

  abbrev level_by : ℕ → Added → Option Added → List Candidate
  level_by c a o = elim o as (λ _. List Candidate) [ Some b ↦ candidate.cast_outer p t given n c a b ∷ [] | None ↦ [] ]

  pub by_level_some : (c l : ℕ) (a b : Added) → candidate.added p t n kind.Type l ≡ Some b → candidate.cast_outer p t given n c a b ∷ [] ≡ object.by_level p t given n c l a
  by_level_some c l a b e = sym (ap (level_by c a) e)

  pub by_level_none : (c l : ℕ) (a : Added) → candidate.added p t n kind.Type l ≡ None → [] ≡ object.by_level p t given n c l a
  by_level_none c l a e = sym (ap (level_by c a) e)

  abbrev class_by : ℕ → ℕ → Option Added → List Candidate
  class_by c l o = elim o as (λ _. List Candidate) [ Some a ↦ object.by_level p t given n c l a | None ↦ [] ]

  pub by_class_some : (c l : ℕ) (a : Added) → candidate.added p t n kind.Type c ≡ Some a → object.by_level p t given n c l a ≡ object.by_class p t given n c l
  by_class_some c l a e = sym (ap (class_by c l) e)

  pub by_class_none : (c l : ℕ) → candidate.added p t n kind.Type c ≡ None → [] ≡ object.by_class p t given n c l
  by_class_none c l e = sym (ap (class_by c l) e)

  abbrev both_by : Option ℕ → Option ℕ → List Candidate
  both_by o q = elim o as (λ _. List Candidate) [ Some c ↦ elim q as (λ _. List Candidate) [ Some l ↦ object.by_class p t given n c l | None ↦ [] ] | None ↦ [] ]

  pub both_is : (o q : Option ℕ) → o ≡ candidate.declaring p t n → q ≡ candidate.level_with_instance p t n → (c l : ℕ) → o ≡ Some c → q ≡ Some l → object.by_class p t given n c l ≡ candidate.on_cast_outer p t given n
  both_is o q declares has c l e h = ap₂ both_by (sym e ∙ declares) (sym h ∙ has)

  pub no_level : (o q : Option ℕ) → o ≡ candidate.declaring p t n → q ≡ candidate.level_with_instance p t n → (c : ℕ) → o ≡ Some c → q ≡ None → [] ≡ candidate.on_cast_outer p t given n
  no_level o q declares has c e h = ap₂ both_by (sym e ∙ declares) (sym h ∙ has)

  pub no_class : (o : Option ℕ) → o ≡ candidate.declaring p t n → o ≡ None → [] ≡ candidate.on_cast_outer p t given n
  no_class o declares e = ap (λ o. both_by o (candidate.level_with_instance p t n)) (sym e ∙ declares)

  -- ---- which of these there are

  abbrev object_by : Bool → List Candidate
  object_by here = cond here (candidate.on_cast_this p t given n) (candidate.on_cast_outer p t given n)

  pub object_here : (o : Option ℕ) → o ≡ candidate.level_here p t n → (l : ℕ) → o ≡ Some l → candidate.on_cast_this p t given n ≡ object.on_cast_object p t given n
  object_here o is l e = ap (λ o. object_by (is_some o)) (sym e ∙ is)

  pub object_away : (o : Option ℕ) → o ≡ candidate.level_here p t n → o ≡ None → candidate.on_cast_outer p t given n ≡ object.on_cast_object p t given n
  object_away o is e = ap (λ o. object_by (is_some o)) (sym e ∙ is)

  abbrev super_by : Bool → Bool → List Candidate
  super_by call here = cond (not call && here) (candidate.by_super p t given n ∷ []) []

  pub super_is : (call : Bool) (o : Option ℕ) → call ≡ candidate.is_call (sought_at p n) → call ≡ false → o ≡ candidate.level_here p t n → (l : ℕ) → o ≡ Some l → candidate.by_super p t given n ∷ [] ≡ candidate.on_super p t given n
  super_is call o tells uncalled is l e = ap₂ (λ call o. super_by call (is_some o)) (sym uncalled ∙ tells) (sym e ∙ is)

  pub super_away : (call : Bool) (o : Option ℕ) → call ≡ candidate.is_call (sought_at p n) → call ≡ false → o ≡ candidate.level_here p t n → o ≡ None → [] ≡ candidate.on_super p t given n
  super_away call o tells uncalled is e = ap₂ (λ call o. super_by call (is_some o)) (sym uncalled ∙ tells) (sym e ∙ is)

  pub super_called : (call : Bool) → call ≡ candidate.is_call (sought_at p n) → call ≡ true → [] ≡ candidate.on_super p t given n
  super_called call tells called = ap (λ call. super_by call (is_some (candidate.level_here p t n))) (sym called ∙ tells)

  -- ---- behind a type

  abbrev behind_type : Suffix → List Referent → ℕ → Candidate
  behind_type a trace c = candidate.behind p t given n (shape.Type a) trace (in_type c)

  abbrev type_by : ℕ → Option Added → List Candidate
  type_by c o = elim o as (λ _. List Candidate) [ Some a ↦ behind_type a.suffix a.trace c ∷ [] | None ↦ [] ]

  pub by_type_some : (c : ℕ) (a : Code) (b : Added) → candidate.added p t n kind.Ambiguous c ≡ Some b → IsSame a b → behind_type a.suffix a.trace.items c ∷ [] ≡ object.by_type p t given n c
  by_type_some c a b e same = ap₂ (λ f xs. behind_type f xs c ∷ []) same.suffix_is same.trace_is ∙ sym (ap (type_by c) e)

  pub by_type_none : (c : ℕ) → candidate.added p t n kind.Ambiguous c ≡ None → [] ≡ object.by_type p t given n c
  by_type_none c e = sym (ap (type_by c) e)

  abbrev on_type_by : Option ℕ → List Candidate
  on_type_by o = elim o as (λ _. List Candidate) [ Some c ↦ object.by_type p t given n c | None ↦ [] ]

  pub type_is : (o : Option ℕ) → o ≡ candidate.declaring p t n → (c : ℕ) → o ≡ Some c → object.by_type p t given n c ≡ candidate.on_type p t given n
  type_is o is c e = ap on_type_by (sym e ∙ is)

  pub type_none : (o : Option ℕ) → o ≡ candidate.declaring p t n → o ≡ None → [] ≡ candidate.on_type p t given n
  type_none o is e = ap on_type_by (sym e ∙ is)

-- ---- through super

pub super_first : (s : Speller) (r : Reference) → r.lock ≡ table_of s r.row → (given : Option (List RowType)) (level : Option ℕ) (looked : Looked) (fit : Option Fit)
    → looked.found ≡ found (rows_of s) (table_of s) r.row (candidate.by_super (rows_of s) (table_of s) given r.row) → looked.trace.items ≡ [] → level ≡ candidate.level_of r.lock → looked.way ≡ object.super_way level
    → fit ≡ fit_by (fits_looked s r looked) shape.Super looked → IsFirstOf s r.row (candidate.by_super (rows_of s) (table_of s) given r.row ∷ []) fit
super_first s r is given level looked fit found_is trace_is level_is way_is e = fit_looked s r.row r refl shape.Super (AreLooked.some {c = candidate.by_super (rows_of s) (table_of s) given r.row} refl (record {
  found_is = found_is;
  trace_is = trace_is;
  receiver_is = ap (λ (w : Way). w.receiver) way_is;
  level_is = ap (λ (w : Way). w.level) way_is ∙ level_is ∙ ap candidate.level_of is;
  form_is = ap (λ (w : Way). w.is_constant_form) way_is;
})) looked refl fit e
