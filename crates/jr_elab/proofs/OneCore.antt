-- A program has one core, where types name one superclass at most and there is one Object (JLS 8.1.4).
use Rattle.std.proofs.Common.{◌≡◌, ◌⊎◌, inl, inr, refl, sym, ◌∙◌, ap, subst, ⊎_elim, le_antisymm, arith, ℕ, zero, suc, ◌<◌, ◌≤◌, Bool, true, false, List, [], ◌∷◌, map, flat_map, reverse, length, Option, Some, None}
use Rattle.std.proofs.lemmas.Bool.{false≢true}
use Rattle.std.proofs.lemmas.List.{reverse-reverse}
use Rattle.std.proofs.lemmas.List.Elements.{All-head, All-tail}
use Rattle.std.proofs.lemmas.List.Kept.{AllPairs-from_increasing}
use Rattle.std.specs.List.{All, AllPairs}
use Rattle.jr_base.specs.declared.ids.DeclId.{DeclId}
use Rattle.jr_base.specs.declared.ids.TypeId.{TypeId}
use Rattle.jr_core.specs.declared.bodies.Body.{Body}
use Rattle.jr_core.specs.declared.bodies.Class.{Class}
use Rattle.jr_core.specs.declared.bodies.Core.{Core}
use Rattle.jr_tree.specs.declared.label.Label.{Label}
use Rattle.jr_tree.specs.declared.label.Label.TheVariants as is
use Rattle.jr_tree.specs.declared.label.NamePlace.TheVariants as place
use Rattle.jr_tree.specs.Rows.{Rows, label}
use Rattle.jr_defs.specs.declared.referent.Referent.TheVariants.{Declared}
use Rattle.jr_defs.specs.Declarations.{IsClassLabel}
use Rattle.jr_defs.specs.Overriding.{Dispatches, HasOneSuperclass}
use Rattle.jr_defs.specs.Referents.{Table}
use Rattle.jr_defs.specs.Supertypes.{IsSuperclassLabel, IsSuperinterfaceLabel, SuperAt, Superclass}
use Rattle.jr_defs.proofs.OneMethod.{one_method}
use Rattle.jr_plain.specs.Declarations.{types}
use Rattle.jr_plain.specs.Search.{all_such, has}
use Rattle.jr_supers.specs.Direct.{FallsFrom}
use Rattle.jr_members.proofs.Each.{has_front, front_has, rest_has}
use Rattle.jr_dispatch.specs.declared.dispatch.Found.{Found}
use Rattle.jr_dispatch.specs.Dispatching.{AreEdges, AreFoundIn, method_of}
use Rattle.jr_codes.specs.Facts.{Facts}
use Rattle.jr_expressions.specs.Bodies.{BodyAt}
use Rattle.jr_elab.specs.Cores.{AreEach, AreFaces, AreFoundAs, IsClassOf, IsCoreOf, IsTypeWhere, declares_body, face_if, found_ids, type_row}
use Rattle.jr_elab.proofs.OneCode.{body_once}

-- ---- supertypes

one_target : {r s : ℕ} {k l : Option ℕ} → Declared r k ≡ Declared s l → r ≡ s
one_target e = cc

no_interface : (l : Label) → IsSuperclassLabel l → IsSuperinterfaceLabel l → ⊥
no_interface (is.Name kind place.Superclass is_qualified) class face = face
no_interface _ class face = class

no_class : (l : Label) → IsClassLabel l → IsSuperinterfaceLabel l → ⊥
no_class (is.Class modifiers is_member) class face = face
no_class _ class face = class

one_place : (m k : ℕ) → (m < k → ⊥) → (k < m → ⊥) → m ≡ k
one_place m k first second = omega (arith, first, second)

cons_same : (x y : ℕ) (xs ys : List ℕ) → x ≡ y → xs ≡ ys → x ∷ xs ≡ y ∷ ys
cons_same x y xs ys one rest = ap (λ z. z ∷ xs) one ∙ ap (λ zs. y ∷ zs) rest

module _ (p : Rows) (t : Table) (one : HasOneSuperclass p) where
  one_superclass : (c r s : ℕ) → Superclass p t c r → Superclass p t c s → r ≡ s
  one_superclass c r s (Superclass.named {n = n} {level = k} g d) (Superclass.named {n = m} {level = l} h e) = one_target (sym d ∙ subst (λ x. t x ≡ Declared s l) (one.name c m n h g) e)
  one_superclass c r s (Superclass.named {n = n} g d) (Superclass.implied h e) = absurd (h.unnamed n g)
  one_superclass c r s (Superclass.implied g d) (Superclass.named {n = m} h e) = absurd (g.unnamed m h)
  one_superclass c r s (Superclass.implied g d) (Superclass.implied h e) = one.object r s d e

  -- a row names one supertype
  one_super : (c n m r s : ℕ) → n ≡ m → SuperAt p t c n r → SuperAt p t c m s → r ≡ s
  one_super c n m r s same (SuperAt.class g d) (SuperAt.class h e) = one_target (sym d ∙ ap t same ∙ e)
  one_super c n _ r s same (SuperAt.class g d) (SuperAt.implied h e) = absurd (h.unnamed n g)
  one_super c n m r s same (SuperAt.class g d) (SuperAt.interface h e) = absurd (no_interface (label p m) (subst (λ k. IsSuperclassLabel (label p k)) same g.names) h.names)
  one_super c _ m r s same (SuperAt.implied g d) (SuperAt.class h e) = absurd (g.unnamed m h)
  one_super c _ _ r s same (SuperAt.implied g d) (SuperAt.implied h e) = one.object r s d e
  one_super c _ m r s same (SuperAt.implied g d) (SuperAt.interface h e) = absurd (no_class (label p m) (subst (λ k. IsClassLabel (label p k)) same g.class) h.names)
  one_super c n m r s same (SuperAt.interface g d) (SuperAt.class h e) = absurd (no_interface (label p n) (subst (λ k. IsSuperclassLabel (label p k)) (sym same) h.names) g.names)
  one_super c n _ r s same (SuperAt.interface g d) (SuperAt.implied h e) = absurd (no_class (label p n) (subst (λ k. IsClassLabel (label p k)) (sym same) h.class) g.names)
  one_super c n m r s same (SuperAt.interface g d) (SuperAt.interface h e) = one_target (sym d ∙ ap t same ∙ e)

  one_falling : (c n : ℕ) (xs ys : List ℕ) → FallsFrom p t c n xs → FallsFrom p t c n ys → xs ≡ ys
  one_falling c n [] [] a b = refl
  one_falling c n [] (s ∷ ys) a b = absurd (a b.0 s b.1 b.2)
  one_falling c n (r ∷ xs) [] a b = absurd (b a.0 r a.1 a.2)
  one_falling c n (r ∷ xs) (s ∷ ys) a b =
      let same : a.0 ≡ b.0 = one_place a.0 b.0 (λ lt. a.3 b.0 s lt b.1 b.2) (λ lt. b.3 a.0 r lt a.1 a.2) in
      cons_same r s xs ys (one_super c a.0 b.0 r s same a.2 b.2) (one_falling c b.0 xs ys (subst (λ k. FallsFrom p t c k xs) same a.4) b.4)

-- ---- numbers that rise

below_each : (y : ℕ) (zs : List ℕ) → All (λ m. y < m) zs → (m : ℕ) → has zs m ≡ true → y < m
below_each y [] all m h = absurd (false≢true h)
below_each y (z ∷ zs) all m h =
    ⊎_elim (λ same. subst (λ k. y < k) same (All-head (λ m. y < m) z zs all)) (λ inside. below_each y zs (All-tail (λ m. y < m) z zs all) m inside) (has_front z m zs h)

not_less_if : (x y : ℕ) → (y ≡ x) ⊎ (y < x) → y ≤ x
not_less_if x y h = ⊎_elim (λ same. (omega (arith, same))) (λ lt. (omega (arith, lt))) h

least : (x y : ℕ) (ys : List ℕ) → All (λ m. y < m) ys → has (y ∷ ys) x ≡ true → y ≤ x
least x y ys all h = not_less_if x y (⊎_elim (λ same. inl same) (λ inside. inr (below_each y ys all x inside)) (has_front y x ys h))

first_below : (x : ℕ) (xs : List ℕ) → AllPairs (λ a b. a < b) (x ∷ xs) → All (λ m. x < m) xs
first_below x xs h = λ k d within. h zero (suc k) d (omega arith) (omega arith)

rest_rises : (x : ℕ) (xs : List ℕ) → AllPairs (λ a b. a < b) (x ∷ xs) → AllPairs (λ a b. a < b) xs
rest_rises x xs h = λ i j d lt within. h (suc i) (suc j) d (omega arith) (omega arith)

not_itself : (x y m : ℕ) → x ≡ y → x < m → y ≡ m → ⊥
not_itself x y m same lt other = omega (arith, same, lt, other)

-- what is in the one rest is in the other
rest_in : (x y : ℕ) (xs ys : List ℕ) → x ≡ y → All (λ m. x < m) xs → ((m : ℕ) → has (x ∷ xs) m ≡ true → has (y ∷ ys) m ≡ true) → (m : ℕ) → has xs m ≡ true → has ys m ≡ true
rest_in x y xs ys same all to m h = ⊎_elim (λ other. absurd (not_itself x y m same (below_each x xs all m h) other)) (λ inside. inside) (has_front y m ys (to m (rest_has x m xs h)))

one_rising : (xs ys : List ℕ) → AllPairs (λ a b. a < b) xs → AllPairs (λ a b. a < b) ys → ((m : ℕ) → has xs m ≡ true → has ys m ≡ true) → ((m : ℕ) → has ys m ≡ true → has xs m ≡ true) → xs ≡ ys
one_rising [] [] a b to back = refl
one_rising [] (y ∷ ys) a b to back = absurd (false≢true (back y (front_has y ys)))
one_rising (x ∷ xs) [] a b to back = absurd (false≢true (to x (front_has x xs)))
one_rising (x ∷ xs) (y ∷ ys) a b to back =
    let above : All (λ m. x < m) xs = first_below x xs a in let over : All (λ m. y < m) ys = first_below y ys b in
    let same : x ≡ y = le_antisymm (least y x xs above (back y (front_has y ys))) (least x y ys over (to x (front_has x xs))) in
    cons_same x y xs ys same (one_rising xs ys (rest_rises x xs a) (rest_rises y ys b) (rest_in x y xs ys same above to) (rest_in y x ys xs (sym same) over back))

-- ---- edges of calls

abbrev found_of : ℕ → ℕ → ℕ → Found
found_of class method found = record { class = class; method = method; found = found }

found_same : (x y : Found) → x.class ≡ y.class → x.method ≡ y.method → x.found ≡ y.found → x ≡ y
found_same x y classes methods found =
    ap (λ k. found_of k x.method x.found) classes ∙ ap (λ k. found_of y.class k x.found) methods ∙ ap (λ k. found_of y.class y.method k) found

first_same : (x y : ℕ) (xs ys : List ℕ) → x ∷ xs ≡ y ∷ ys → x ≡ y
first_same x y xs ys e = cc

rest_same : (x y : ℕ) (xs ys : List ℕ) → x ∷ xs ≡ y ∷ ys → xs ≡ ys
rest_same x y xs ys e = cc

abbrev is_none : List ℕ → Bool
is_none [] = true
is_none (x ∷ xs) = false

not_none : (x : ℕ) (xs : List ℕ) → x ∷ xs ≡ [] → ⊥
not_none x xs e = false≢true (ap is_none e)

module _ (p : Rows) (t : Table) (one : HasOneSuperclass p) (c : ℕ) where
  edge_of : (all : List Found) (m : ℕ) → AreEdges p t c all → has (map method_of all) m ≡ true → (f : ℕ) × Dispatches p t c m f
  edge_of [] m edges h = absurd (false≢true h)
  edge_of (e ∷ all) m edges h = ⊎_elim (λ same. (e.found, subst (λ k. Dispatches p t c k e.found) same edges.1)) (λ inside. edge_of all m edges.2 inside) (has_front e.method m (map method_of all) h)

  in_other : (xs ys : List Found) → AreFoundIn p t c xs → AreFoundIn p t c ys → (m : ℕ) → has (map method_of xs) m ≡ true → has (map method_of ys) m ≡ true
  in_other xs ys a b m h = let edge = edge_of xs m a.edges h in b.told m (edge.1).class (edge.1).has

  edges_same : (xs ys : List Found) → AreEdges p t c xs → AreEdges p t c ys → map method_of xs ≡ map method_of ys → xs ≡ ys
  edges_same [] [] a b same = refl
  edges_same [] (y ∷ ys) a b same = absurd (not_none y.method (map method_of ys) (sym same))
  edges_same (x ∷ xs) [] a b same = absurd (not_none x.method (map method_of xs) same)
  edges_same (x ∷ xs) (y ∷ ys) a b same =
      let methods : x.method ≡ y.method = first_same x.method y.method (map method_of xs) (map method_of ys) same in
      let dispatched : Dispatches p t c y.method x.found = subst (λ k. Dispatches p t c k x.found) methods a.1 in
      let found : x.found ≡ y.found = one_method p t one c y.method x.found y.found dispatched.found (b.1).found in
      ap (λ e. e ∷ xs) (found_same x y (a.0 ∙ sym b.0) methods found)
      ∙ ap (λ es. y ∷ es) (edges_same xs ys a.2 b.2 (rest_same x.method y.method (map method_of xs) (map method_of ys) same))

  one_found : (xs ys : List Found) → AreFoundIn p t c xs → AreFoundIn p t c ys → xs ≡ ys
  one_found xs ys a b =
      edges_same xs ys a.edges b.edges
      (one_rising (map method_of xs) (map method_of ys) (AllPairs-from_increasing (map method_of xs) a.rise) (AllPairs-from_increasing (map method_of ys) b.rise) (in_other xs ys a b) (in_other ys xs b a))

-- ---- classes

type_once : (f : Facts) (P : ℕ → Type 0) (x y : Option TypeId) → ((r s : ℕ) → P r → P s → r ≡ s) → IsTypeWhere f P x → IsTypeWhere f P y → x ≡ y
type_once f P None None once a b = refl
type_once f P None (Some t) once a b = absurd (a b.0 b.1)
type_once f P (Some t) None once a b = absurd (b a.0 a.1)
type_once f P (Some t) (Some u) once a b = ap Some (a.2 ∙ ap (type_row f) (once a.0 b.0 a.1 b.1) ∙ sym b.2)

faces_once : (f : Facts) (n : ℕ) (xs ys : List TypeId) → HasOneSuperclass f.rows → AreFaces f n xs → AreFaces f n ys → xs ≡ ys
faces_once f n xs ys one a b =
    let falling : reverse a.supers ≡ reverse b.supers = one_falling f.rows f.refers one n (length f.rows) (reverse a.supers) (reverse b.supers) a.in_order b.in_order in
    a.are ∙ ap (flat_map (face_if f)) (sym (reverse-reverse a.supers) ∙ ap reverse falling ∙ reverse-reverse b.supers) ∙ sym b.are

found_once : (f : Facts) (n : ℕ) (xs ys : List (DeclId × DeclId)) → HasOneSuperclass f.rows → AreFoundAs f n xs → AreFoundAs f n ys → xs ≡ ys
found_once f n xs ys one a b = a.are ∙ ap (map (found_ids f)) (one_found f.rows f.refers one n a.edges b.edges a.found b.found) ∙ sym b.are

abbrev class_of : TypeId → Option TypeId → List TypeId → Option TypeId → List DeclId → List (DeclId × DeclId) → Class
class_of id parent faces outer members found = record { id = id; parent = parent; faces = faces; outer = outer; members = members; found = found }

class_same : (x y : Class) → x.id ≡ y.id → x.parent ≡ y.parent → x.faces ≡ y.faces → x.outer ≡ y.outer → x.members ≡ y.members → x.found ≡ y.found → x ≡ y
class_same x y ids parents faces outers members found =
    ap (λ k. class_of k x.parent x.faces x.outer x.members x.found) ids ∙ ap (λ k. class_of y.id k x.faces x.outer x.members x.found) parents
    ∙ ap (λ k. class_of y.id y.parent k x.outer x.members x.found) faces ∙ ap (λ k. class_of y.id y.parent y.faces k x.members x.found) outers
    ∙ ap (λ k. class_of y.id y.parent y.faces y.outer k x.found) members ∙ ap (λ k. class_of y.id y.parent y.faces y.outer y.members k) found

class_once : (f : Facts) → HasOneSuperclass f.rows → (n : ℕ) (x y : Class) → IsClassOf f n x → IsClassOf f n y → x ≡ y
class_once f one n x y a b =
    class_same x y (a.id_is ∙ sym b.id_is) (type_once f (Superclass f.rows f.refers n) x.parent y.parent (one_superclass f.rows f.refers one n) a.parent_is b.parent_is)
    (faces_once f n x.faces y.faces one a.faces_are b.faces_are) (a.outer_is ∙ sym b.outer_is) (a.members_are ∙ sym b.members_are)
    (found_once f n x.found y.found one a.found_are b.found_are)

-- ---- the core

each_once : {T : Type 0} (P : ℕ → T → Type 0) → ((n : ℕ) (x y : T) → P n x → P n y → x ≡ y) → (ns : List ℕ) (xs ys : List T) → AreEach P ns xs → AreEach P ns ys → xs ≡ ys
each_once P once [] [] [] a b = refl
each_once P once [] [] (y ∷ ys) a b = absurd b
each_once P once [] (x ∷ xs) ys a b = absurd a
each_once P once (n ∷ ns) [] ys a b = absurd a
each_once P once (n ∷ ns) (x ∷ xs) [] a b = absurd b
each_once P once (n ∷ ns) (x ∷ xs) (y ∷ ys) a b = ap (λ z. z ∷ xs) (once n x y a.0 b.0) ∙ ap (λ zs. y ∷ zs) (each_once P once ns xs ys a.1 b.1)

abbrev core_of : List Class → List Body → Core
core_of classes bodies = record { classes = classes; bodies = bodies }

pub core_once : (f : Facts) (x y : Core) → HasOneSuperclass f.rows → IsCoreOf f x → IsCoreOf f y → x ≡ y
core_once f x y one a b =
    ap (λ k. core_of k x.bodies) (each_once (IsClassOf f) (class_once f one) (types f.rows) x.classes y.classes a.classes_are b.classes_are)
    ∙ ap (λ k. core_of y.classes k) (each_once (BodyAt f) (body_once f) (all_such (length f.rows) (λ n. declares_body (label f.rows n))) x.bodies y.bodies a.bodies_are b.bodies_are)
