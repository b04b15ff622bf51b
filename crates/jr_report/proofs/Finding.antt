-- A call that finds a method in some class finds it in the class that declares it, or below.
use Rattle.std.proofs.Common.{◌≡◌, ◌⊎◌, refl, sym, ◌∙◌, ap, subst, ⊎_elim, inl, inr, ℕ, ◌+◌, Bool, true, false, not, ◌&&◌, List, [], ◌∷◌, Option, Some, None, Decides}
use Rattle.std.proofs.lemmas.Bool.{false≢true}
use Rattle.std.proofs.lemmas.Option.{none-some, same_Some}
use Rattle.jr_tree.specs.declared.label.Role.TheVariants as role
use Rattle.jr_tree.specs.Labels.{role_of}
use Rattle.jr_tree.specs.declared.label.Label.{Label}
use Rattle.jr_tree.specs.declared.label.Label.TheVariants as is
use Rattle.jr_tree.specs.Rows.{Rows, label, role_at}
use Rattle.jr_tree.specs.Tree.{IsTree}
use Rattle.jr_defs.specs.Declarations.{IsClass, IsClassLabel, IsInterface, IsType}
use Rattle.jr_defs.specs.Enclosing.{DeclaredIn}
use Rattle.jr_defs.specs.Members.{MemberOf, SameMethods}
use Rattle.jr_defs.specs.Modifiers.{IsPrivate, IsStatic}
use Rattle.jr_defs.specs.Overriding.{Dispatches, Found, FoundFrom, HasOneSuperclass, IsAboveMethod, Overrides, Serves, ServesFirst}
use Rattle.jr_defs.specs.Referents.{Table}
use Rattle.jr_defs.specs.Supertypes.{Above, AtOrAbove, Super, SuperAt, Superclass}
use Rattle.jr_defs.proofs.OneMethod.{one_method}
use Rattle.jr_plain.specs.Modifiers.{is_in_interface}
use Rattle.jr_plain.specs.Declarations.{is_class}
use Rattle.jr_plain.specs.Search.{has}
use Rattle.jr_plain.specs.Types.{is_same_signature}
use Rattle.jr_plain.proofs.Declared.{class_tells}
use Rattle.jr_plain.proofs.Enclosed.{declaring_finds}
use Rattle.jr_plain.proofs.Modified.{in_interface_tells}
use Rattle.jr_plain.proofs.Typed.{signature_tells}
use Rattle.jr_supers.specs.Supers.{IsWellHeaded, ListsOnce}
use Rattle.jr_members.proofs.Each.{first_in, front_in, none_in, rest_in}
use Rattle.jr_dispatch.specs.Dispatching.{IsFoundAs}
use Rattle.jr_report.specs.Called.{IsFound, IsFoundAmong, TellsFound, is_by_class}
use Rattle.jr_report.specs.Listed.{IsSubtypeOf, is_this}
use Rattle.jr_report.proofs.Referring.{this_tells}

class_type : (p : Rows) (c : ℕ) → IsClass p c → IsType p c
class_type p c h = by (label p c) h
  where
    by : (l : Label) → IsClassLabel l → role_of l ≡ role.Type
    by (is.Class modifiers is_member) h = refl
    by _ h = absurd h

-- ---- one look

one_super : (p : Rows) → IsWellHeaded p → HasOneSuperclass p
one_super p well = record {
  name = λ c n m g h. well.first n g.names ∙ ap suc_of (g.inside ∙ sym h.inside) ∙ sym (well.first m h.names);
  object = well.one;
}
  where
    suc_of : ℕ → ℕ
    suc_of n = n + 1

module _ (p : Rows) (t : Table) where
  there_so : (c k m : ℕ) (found : Option ℕ) → IsFoundAs p t c k found → found ≡ Some m → Dispatches p t c k m
  there_so c k m None h e = absurd (none-some m e)
  there_so c k m (Some f) h e = subst (Dispatches p t c k) (same_Some f m e) h

  so_there : (c k m : ℕ) (found : Option ℕ) → IsWellHeaded p → IsFoundAs p t c k found → Dispatches p t c k m → found ≡ Some m
  so_there c k m None well h d = absurd (h d.class d.has)
  so_there c k m (Some f) well h d = ap Some (one_method p t (one_super p well) c k f m h.found d.found)

  pub finds_tells : (c k m : ℕ) (found : Option ℕ) (is : Bool) → IsWellHeaded p → IsFoundAs p t c k found → is ≡ is_this m found → Decides is (Dispatches p t c k m)
  finds_tells c k m found is well h same = (
    λ e. there_so c k m found h ((this_tells m found).0 (sym same ∙ e)),
    λ d. same ∙ (this_tells m found).1 (so_there c k m found well h d),
  )

  -- ---- what serves

  super_of : (c s : ℕ) → Superclass p t c s → Super p t c s
  super_of c s (Superclass.named {n = n} names is) = record { place = n; at = SuperAt.class names is }
  super_of c s (Superclass.implied h o) = record { place = c; at = SuperAt.implied h o }

  above_of : (b s d : ℕ) → Super p t b s → AtOrAbove p t s d → Above p t b d
  above_of b s d up (inl e) = subst (Above p t b) e (Above.direct up)
  above_of b s d up (inr a) = Above.further up a

  served_from : (c k b m : ℕ) → FoundFrom p t c k b m → (k ≡ m) ⊎ ((d : ℕ) × AtOrAbove p t b d × ServesFirst p t c k d m)
  served_from c k b m (FoundFrom.here s) = inr (b, inl refl, s)
  served_from c k b m (FoundFrom.up {s = s} none up rest) = ⊎_elim (λ e. inl e) (λ w. inr (w.0, inr (above_of b s w.0 (super_of b s up) w.1), w.2)) (served_from c k s m rest)
  served_from c k b _ (FoundFrom.end none top) = inl refl

  -- m, which the body of b declares, serves a call of k in c
  record IsServed (c k b m : ℕ) : Type 0 where
    pub upper : AtOrAbove p t c b
    pub first : ServesFirst p t c k b m
    pub open_method : IsPrivate p k → ⊥
    pub instance : IsStatic p k → ⊥

  declared_once : (b d m : ℕ) → DeclaredIn p b m → DeclaredIn p d m → d ≡ b
  declared_once b d m here there = same_Some d b (sym ((declaring_finds p m d).1 there) ∙ (declaring_finds p m b).1 here)

  served_by : (c k b m : ℕ) → DeclaredIn p b m → Found p t c k m → (k ≡ m) ⊎ IsServed c k b m
  served_by c k b _ here (Found.fixed h) = inl refl
  served_by c k b m here (Found.dispatched not_private not_static from) = ⊎_elim (λ e. inl e)
      (λ w. let same = declared_once b w.0 m here w.2.declared in inr (record {
        upper = subst (AtOrAbove p t c) same w.1;
        first = subst (λ d. ServesFirst p t c k d m) same w.2;
        open_method = not_private;
        instance = not_static;
      })) (served_from c k c m from)

  pub unserved : (c k m : ℕ) → ((d : ℕ) → DeclaredIn p d m → ⊥) → Found p t c k m → k ≡ m
  unserved c k _ none (Found.fixed h) = refl
  unserved c k m none (Found.dispatched not_private not_static from) = ⊎_elim (λ e. e) (λ w. absurd (none w.0 w.2.declared)) (served_from c k c m from)

  above_method : (m k : ℕ) → Overrides p t m k → IsAboveMethod p t m k
  above_method m k (Overrides.direct h reach) = h
  above_method m k (Overrides.through h first second) = h

  -- ---- signatures

  serving_like : (c k m : ℕ) → Serves p t c k m → (k ≡ m) ⊎ SameMethods p t m k
  serving_like c k m (Serves.itself e) = inl (sym e)
  serving_like c k m (Serves.overriding o) = inr (above_method m k o).signatures
  serving_like c k m (Serves.implementing i) = inr i.signatures

  found_like : (c k m : ℕ) → Found p t c k m → (k ≡ m) ⊎ SameMethods p t m k
  found_like c k _ (Found.fixed h) = inl refl
  found_like c k m (Found.dispatched not_private not_static from) = ⊎_elim (λ e. inl e) (λ w. serving_like c k m w.2.serves) (served_from c k c m from)

  pub like_found : (k m : ℕ) → IsFound p t k m → (k ≡ m) ⊎ SameMethods p t m k
  like_found k m f = found_like f.class k m f.finds.found

  pub tells_unlike : (k m : ℕ) → IsTree p → false ≡ is_same_signature p t m k → TellsFound p t k m false
  tells_unlike k m tree unlike = record {
    sound = λ e. absurd (false≢true e);
    told = λ f. ⊎_elim (λ e. inr e) (λ same. absurd (false≢true (unlike ∙ (signature_tells p t m k tree).1 same.signature))) (like_found k m f);
  }

  -- ---- where it is found

  module _ (b k m : ℕ) (here : DeclaredIn p b m) where
    pub tells_here : (is : Bool) → is ≡ true → Decides is (Dispatches p t b k m) → TellsFound p t k m true
    tells_here is e d = record { sound = λ same. record { class = b; finds = d.0 e }; told = λ f. inl refl }

    module _ (class : IsClass p b) (apart : is_in_interface p k ≡ false) where
      no_interface : (i : ℕ) → IsInterface p i → DeclaredIn p i k → ⊥
      no_interface i is declared = false≢true (sym apart ∙ (in_interface_tells p k).1 (record { of_type = i; interface = is; declared = declared }))

      serves_there : (c g : ℕ) → Serves p t b k g → Serves p t c k g
      serves_there c g (Serves.itself e) = Serves.itself e
      serves_there c g (Serves.overriding o) = Serves.overriding o
      serves_there c g (Serves.implementing i) = absurd (no_interface i.interface i.is_interface i.declared)

      dispatched_here : (c : ℕ) → role_at p k ≡ role.Method → IsServed c k b m → Overrides p t m k → Dispatches p t b k m
      dispatched_here c method s o = let a = above_method m k o in record {
        class = class;
        has = record { method = method; holder = a.upper; above = inr (subst (λ d. Above p t d a.upper) (declared_once b a.type m here a.declared) a.above); member = MemberOf.declared a.declares };
        found = Found.dispatched s.open_method s.instance (FoundFrom.here (record { declared = s.first.declared; serves = Serves.overriding o; first = λ g of serves. s.first.first g of (serves_there c g serves) }));
      }

      by_serving : (c : ℕ) → role_at p k ≡ role.Method → IsServed c k b m → Serves p t c k m → (k ≡ m) ⊎ Dispatches p t b k m
      by_serving c method s (Serves.itself e) = inl (sym e)
      by_serving c method s (Serves.overriding o) = inr (dispatched_here c method s o)
      by_serving c method s (Serves.implementing i) = absurd (no_interface i.interface i.is_interface i.declared)

      found_here : IsFound p t k m → (k ≡ m) ⊎ Dispatches p t b k m
      found_here f = ⊎_elim (λ e. inl e) (λ s. by_serving f.class f.finds.has.method s s.first.serves) (served_by f.class k b m here f.finds.found)

    parts : (x y : Bool) → (x && not y) ≡ true → (x ≡ true) × (y ≡ false)
    parts true false e = (refl, refl)
    parts true true e = absurd (false≢true e)
    parts false y e = absurd (false≢true e)

    pub tells_by_class : (is by : Bool) → is ≡ false → Decides is (Dispatches p t b k m) → by ≡ is_by_class p b k → by ≡ true → TellsFound p t k m false
    tells_by_class is by not_here d same e = let w = parts (is_class p b) (is_in_interface p k) (sym same ∙ e) in record {
      sound = λ h. absurd (false≢true h);
      told = λ f. ⊎_elim (λ h. inr h) (λ there. absurd (false≢true (sym not_here ∙ d.1 there))) (found_here ((class_tells p b).0 w.0) w.1 f);
    }

    among_below : (c : ℕ) (below : List ℕ) (is : Bool) → is ≡ false → Decides is (Dispatches p t b k m) → ListsOnce below (IsSubtypeOf p t b) → IsType p c → Dispatches p t c k m → AtOrAbove p t c b → IsFoundAmong p t below k m
    among_below c below is not_here d lists type finds (inl e) = absurd (false≢true (sym not_here ∙ d.1 (subst (λ x. Dispatches p t x k m) e finds)))
    among_below c below is not_here d lists type finds (inr above) = record { class = c; among = (lists.has c).1 (record { type = type; below = above }); finds = finds }

    pub tells_below : (below : List ℕ) (is r : Bool) → is ≡ false → Decides is (Dispatches p t b k m) → ListsOnce below (IsSubtypeOf p t b) → Decides r (IsFoundAmong p t below k m) → TellsFound p t k m r
    tells_below below is r not_here d lists decides = record {
      sound = λ h. let w = decides.0 h in record { class = w.class; finds = w.finds };
      told = λ f. ⊎_elim (λ h. inr h) (λ s. inl (decides.1 (among_below f.class below is not_here d lists (class_type p f.class f.finds.class) f.finds s.upper))) (served_by f.class k b m here f.finds.found);
    }

-- ---- a search in classes

-- a class of all that finds m is one of the rest
pub record IsSearched (p : Rows) (t : Table) (k m : ℕ) (all rest : List ℕ) : Type 0 where
  pub each : (c : ℕ) → has rest c ≡ true → has all c ≡ true
  pub told : (c : ℕ) → has all c ≡ true → Dispatches p t c k m → has rest c ≡ true

module _ (p : Rows) (t : Table) (k m : ℕ) (all : List ℕ) where
  pub search_first : IsSearched p t k m all all
  search_first = record { each = λ c h. h; told = λ c h d. h }

  module _ (c : ℕ) (more rest : List ℕ) (is : Bool) (front : more ≡ c ∷ rest) where
    pub search_next : is ≡ false → Decides is (Dispatches p t c k m) → IsSearched p t k m all more → IsSearched p t k m all rest
    search_next fails d s = record {
      each = λ x h. s.each x (rest_in c x rest more front h);
      told = λ x h finds. ⊎_elim (λ e. absurd (false≢true (sym fails ∙ d.1 (subst (λ y. Dispatches p t y k m) (sym e) finds)))) (λ left. left) (front_in c x rest more front (s.told x h finds));
    }

    pub search_now : is ≡ true → Decides is (Dispatches p t c k m) → IsSearched p t k m all more → Decides true (IsFoundAmong p t all k m)
    search_now passes d s = (λ e. record { class = c; among = s.each c (first_in c rest more front); finds = d.0 passes }, λ w. refl)

  pub search_end : (rest : List ℕ) → rest ≡ [] → IsSearched p t k m all rest → Decides false (IsFoundAmong p t all k m)
  search_end rest none s = (λ e. absurd (false≢true e), λ w. absurd (none_in w.class rest none (s.told w.class w.among w.finds)))
