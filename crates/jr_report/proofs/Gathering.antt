-- The methods whose calls may run a method, one after another.
use Rattle.std.proofs.Common.{◌≡◌, ◌⊎◌, refl, sym, ◌∙◌, subst, ⊎_elim, inl, inr, ℕ, ◌<◌, Bool, true, false, List, [], ◌∷◌, length, Option, Some, None, Decides, bytes_eq, codes, is_some}
use Rattle.std.proofs.lemmas.Bool.{false≢true}
use Rattle.std.proofs.lemmas.Bool.Decides.{Decides-eqb}
use Rattle.std.proofs.lemmas.Slice.Eq.{bytes_eq-Decides}
use Rattle.std.proofs.lemmas.Option.{none-some}
use Rattle.jr_tree.specs.Labels.{role_of}
use Rattle.jr_tree.specs.declared.label.Role.TheVariants as role
use Rattle.jr_tree.specs.Rows.{Rows, name, role_at}
use Rattle.jr_defs.specs.Declarations.{IsObject}
use Rattle.jr_defs.specs.Enclosing.{DeclaredIn}
use Rattle.jr_defs.specs.Members.{MemberOf}
use Rattle.jr_defs.specs.Referents.{Table}
use Rattle.jr_plain.specs.Enclosing.{declaring_type}
use Rattle.jr_plain.specs.Search.{has, Finds, Lists}
use Rattle.jr_plain.specs.Declarations.{is_object}
use Rattle.jr_plain.proofs.Bounds.{bounded, type_below}
use Rattle.jr_plain.proofs.Declared.{object_tells}
use Rattle.jr_plain.proofs.Same.{role_tells}
use Rattle.jr_plain.proofs.Searches.{finds}
use Rattle.jr_plain.proofs.Tests.{both}
use Rattle.jr_plain.proofs.Enclosed.{declaring_finds}
use Rattle.jr_places.specs.Names.{name_row}
use Rattle.jr_places.specs.declared.stamps.Stamps.{Stamps}
use Rattle.jr_places.specs.Stamps.{is_stamped, AddsStamp, IsEmptied, IsStamping}
use Rattle.jr_places.proofs.Packing.{name_tells}
use Rattle.jr_supers.specs.Direct.{object_row}
use Rattle.jr_supers.specs.Supers.{IsWellHeaded}
use Rattle.jr_members.specs.declared.declared.MemberKind.TheVariants as kind
use Rattle.jr_members.specs.Keys.{falling, is_declared_by, is_named}
use Rattle.jr_members.proofs.Declaring.{falling_lists, type_listed}
use Rattle.jr_members.proofs.Each.{first_in, front_in, none_in, rest_in}
use Rattle.jr_report.specs.Called.{AreCalledAs, AreDeclaredBy, AreOfName, HasNamedStamp, IsFound, IsGathering, IsNamedStamp, IsShowing, IsStampedAlone, StampsIf, TellsFound}
use Rattle.jr_report.specs.Calls.{MayRun}
use Rattle.jr_report.proofs.Finding.{like_found, unserved}

pub method_below : (p : Rows) (m : ℕ) → role_at p m ≡ role.Method → m < length p
method_below p m h = bounded (λ l. role_of l ≡ role.Method) (λ e. cc) p m h

-- ---- stamps

pub stamps_no : (bound at : ℕ) (is : Bool) (old : Stamps) → is ≡ false → IsStamping old bound → StampsIf bound at is old old
stamps_no bound at is old fails counted = record { counted = counted; out = λ k h. inl h; kept = λ k h. h; added = λ lt e. absurd (false≢true (sym fails ∙ e)) }

stamped_now : (bound at : ℕ) (is_new : Bool) (old new : Stamps) → AddsStamp old new bound at is_new → at < bound → is_stamped new at ≡ true
stamped_now bound at true old new adds lt = (adds.new_one refl).1
stamped_now bound at false old new adds lt = adds.kept at (adds.was lt refl)

pub stamps_one : (bound at : ℕ) (is is_new : Bool) (old new : Stamps) → is ≡ true → AddsStamp old new bound at is_new → StampsIf bound at is old new
stamps_one bound at is is_new old new such adds = record {
  counted = adds.counted;
  out = λ k h. ⊎_elim (λ was. inl was) (λ e. inr (such, e)) (adds.out k h);
  kept = adds.kept;
  added = λ lt e. stamped_now bound at is_new old new adds lt;
}

pub alone : (p : Rows) (m : ℕ) (is_new : Bool) (old new : Stamps) → IsEmptied old (length p) → (IsStamping old (length p) → AddsStamp old new (length p) m is_new) → role_at p m ≡ role.Method → IsStampedAlone p m new
alone p m is_new old new empty add method = let adds = add empty.counted in record {
  counted = adds.counted;
  own = stamped_now (length p) m is_new old new adds (method_below p m method);
  only = λ k h. ⊎_elim (λ was. absurd (false≢true (sym (empty.none k) ∙ was))) (λ e. e) (adds.out k h);
}

-- ---- methods of a name

some_tells : {P : ℕ → Type 0} (found : Option ℕ) → Finds found P → Decides (is_some found) ((c : ℕ) × P c)
some_tells None h = (λ e. absurd (false≢true e), λ w. absurd (none-some w.0 ((h w.0).1 w.1)))
some_tells (Some c) h = (λ e. (c, (h c).0 refl), λ w. refl)

named_listed : (p : Rows) (x : ℕ) → Lists (falling (length p) (is_named p kind.Method x)) (λ d. (role_at p d ≡ role.Method) × (((c : ℕ) × DeclaredIn p c d) × (name_row p d ≡ x)))
named_listed p x = falling_lists (is_named p kind.Method x) (λ d. (role_at p d ≡ role.Method) × (((c : ℕ) × DeclaredIn p c d) × (name_row p d ≡ x))) (length p)
    (λ d. both (role_tells (role_at p d) role.Method) (both (some_tells (declaring_type p d) (declaring_finds p d)) (Decides-eqb (name_row p d) x)))
    (λ d k. method_below p d k.0)

module _ (p : Rows) (m : ℕ) where
  same_row : (k : ℕ) → name p k ≡ name p m → name_row p k ≡ name_row p m
  same_row k alike = (Decides-eqb (name_row p k) (name_row p m)).0 ((name_tells p k m).1 alike)

  pub are_of_name : (x : ℕ) (named : List ℕ) → x ≡ name_row p m → named ≡ falling (length p) (is_named p kind.Method x) → AreOfName p m named
  are_of_name x named is same = subst (AreOfName p m) (sym same) (record {
    methods = λ k h. ((named_listed p x k).0 h).0;
    told = λ k c method declared alike. (named_listed p x k).1 (method, ((c, declared), same_row k alike ∙ sym is));
  })

pub are_declared_by : (p : Rows) (c : ℕ) (all : List ℕ) → all ≡ falling (length p) (is_declared_by p kind.Method c) → AreDeclaredBy p c all
are_declared_by p c all same = subst (AreDeclaredBy p c) (sym same) (type_listed p kind.Method c)

-- ---- one after another

-- what is a member is declared somewhere
held_declared : (p : Rows) (t : Table) (c k : ℕ) → MemberOf p t c k → (d : ℕ) × DeclaredIn p d k
held_declared p t c k (MemberOf.declared {c = d} h) = (d, h)
held_declared p t c k (MemberOf.inherited {s = s} up member passes can left) = held_declared p t s k member
held_declared p t c k (MemberOf.of_object interface of left) = (of.of_type, of.declared)

module _ (p : Rows) (t : Table) (m : ℕ) where
  pub gather_first : (called : Stamps) (others : List ℕ) → IsStampedAlone p m called → AreOfName p m others → role_at p m ≡ role.Method → IsGathering p t m called others
  gather_first called others alone named method = record {
    counted = alone.counted;
    own = alone.own;
    sound = λ k h. subst (λ x. MayRun p t x m) (alone.only k h) MayRun.itself;
    told = λ k f. ⊎_elim (λ e. inl (subst (λ x. is_stamped called x ≡ true) (sym e) alone.own))
        (λ same. inr (declared_named k same.second (declared_somewhere k f) (sym same.signature.named))) (like_found p t k m f);
  }
    where
      declared_somewhere : (k : ℕ) → IsFound p t k m → (c : ℕ) × DeclaredIn p c k
      declared_somewhere k f = held_declared p t f.finds.has.holder k f.finds.has.member

      declared_named : (k : ℕ) → role_at p k ≡ role.Method → (c : ℕ) × DeclaredIn p c k → name p k ≡ name p m → has others k ≡ true
      declared_named k of w alike = named.told k w.0 of w.1 alike

  module _ (k : ℕ) (more rest : List ℕ) (is : Bool) (old new : Stamps) (front : more ≡ k ∷ rest) (tells : TellsFound p t k m is) (stamps : StampsIf (length p) k is old new) (below : k < length p) where
    own_now : is_stamped old m ≡ true → k ≡ m → is_stamped new k ≡ true
    own_now own e = stamps.kept k (subst (λ x. is_stamped old x ≡ true) (sym e) own)

    now_stamped : is_stamped old m ≡ true → IsFound p t k m → is_stamped new k ≡ true
    now_stamped own f = ⊎_elim (λ e. stamps.added below e) (λ e. own_now own e) (tells.told f)

    told_front : (x : ℕ) → is_stamped old m ≡ true → IsFound p t x m → k ≡ x → is_stamped new x ≡ true
    told_front x own f e = subst (λ y. is_stamped new y ≡ true) e (now_stamped own (subst (λ y. IsFound p t y m) (sym e) f))

    pub gather_more : IsGathering p t m old more → IsGathering p t m new rest
    gather_more g = record {
      counted = stamps.counted;
      own = stamps.kept m g.own;
      sound = λ x h. ⊎_elim (λ was. g.sound x was) (λ w. subst (λ y. MayRun p t y m) w.1 (MayRun.found (tells.sound w.0).finds)) (stamps.out x h);
      told = λ x f. ⊎_elim (λ was. inl (stamps.kept x was)) (λ left. ⊎_elim (λ e. inl (told_front x g.own f e)) (λ further. inr further) (front_in k x rest more front left)) (g.told x f);
    }

  pub gather_end : (called : Stamps) (rest : List ℕ) → rest ≡ [] → IsGathering p t m called rest → IsGathering p t m called []
  gather_end called rest none g = subst (IsGathering p t m called) none g

  run_so : (k f : ℕ) → MayRun p t k f → (k ≡ f) ⊎ IsFound p t k f
  run_so k _ MayRun.itself = inl refl
  run_so k f (MayRun.found {c = c} d) = inr (record { class = c; finds = d })

  stamped_run : (called : Stamps) → is_stamped called m ≡ true → ((k : ℕ) → IsFound p t k m → is_stamped called k ≡ true) → (k : ℕ) → MayRun p t k m → is_stamped called k ≡ true
  stamped_run called own told k runs = ⊎_elim (λ e. subst (λ x. is_stamped called x ≡ true) (sym e) own) (λ f. told k f) (run_so k m runs)

  pub gathered : (called : Stamps) → IsGathering p t m called [] → AreCalledAs p t m called
  gathered called g k = (g.sound k, stamped_run called g.own (λ x f. ⊎_elim (λ h. h) (λ left. absurd (none_in x [] refl left)) (g.told x f)) k)

  pub only_itself : (called : Stamps) → IsStampedAlone p m called → declaring_type p m ≡ None → AreCalledAs p t m called
  only_itself called alone none k = (
    λ h. subst (λ x. MayRun p t x m) (alone.only k h) MayRun.itself,
    stamped_run called alone.own (λ x f. subst (λ y. is_stamped called y ≡ true) (sym (unserved p t f.class x m (λ d declared. none-some d (sym none ∙ (declaring_finds p m d).1 declared)) f.finds.found)) alone.own) k,
  )

-- ---- `toString`

module _ (p : Rows) (called : Stamps) where
  pub not_stamped : (k : ℕ) → is_stamped called k ≡ false → Decides false (IsNamedStamp p called k)
  not_stamped k fails = (λ e. absurd (false≢true e), λ is. absurd (false≢true (sym fails ∙ is.stamped)))

  pub named_if : (k : ℕ) (is : Bool) → is_stamped called k ≡ true → is ≡ bytes_eq (name p k) (codes "toString") → Decides is (IsNamedStamp p called k)
  named_if k is stamped same = (λ e. record { stamped = stamped; named = (bytes_eq-Decides (name p k) (codes "toString")).0 (sym same ∙ e) }, λ h. same ∙ (bytes_eq-Decides (name p k) (codes "toString")).1 h.named)

  -- a method of all that has the name and is stamped is one of the rest
  pub record HasLeft (all rest : List ℕ) : Type 0 where
    pub each : (k : ℕ) → has rest k ≡ true → has all k ≡ true
    pub told : (k : ℕ) → has all k ≡ true → IsNamedStamp p called k → has rest k ≡ true

  module _ (all : List ℕ) where
    pub stamped_first : HasLeft all all
    stamped_first = record { each = λ k h. h; told = λ k h is. h }

    module _ (k : ℕ) (more rest : List ℕ) (is : Bool) (front : more ≡ k ∷ rest) where
      pub stamped_next : is ≡ false → Decides is (IsNamedStamp p called k) → HasLeft all more → HasLeft all rest
      stamped_next fails d s = record {
        each = λ x h. s.each x (rest_in k x rest more front h);
        told = λ x h named. ⊎_elim (λ e. absurd (false≢true (sym fails ∙ d.1 (subst (IsNamedStamp p called) (sym e) named)))) (λ left. left) (front_in k x rest more front (s.told x h named));
      }

      pub stamped_there : is ≡ true → Decides is (IsNamedStamp p called k) → HasLeft all more → Decides true (HasNamedStamp p called all)
      stamped_there passes d s = (λ e. record { method = k; among = s.each k (first_in k rest more front); is = d.0 passes }, λ w. refl)

    pub stamped_end : (rest : List ℕ) → rest ≡ [] → HasLeft all rest → Decides false (HasNamedStamp p called all)
    stamped_end rest none s = (λ e. absurd (false≢true e), λ w. absurd (none_in w.method rest none (s.told w.method w.among w.is)))

  pub showing_if : (object : ℕ) (all : List ℕ) (is : Bool) → IsObject p object → ((o : ℕ) → IsObject p o → o ≡ object) → AreDeclaredBy p object all → Decides is (HasNamedStamp p called all) → Decides is (IsShowing p called)
  showing_if object all is of one declared d = (
    λ e. let w = d.0 e in let there = (declared w.method).0 w.among in record { method = w.method; is = record { object = object; is_object = of; declared = there.1; method = there.0; named = w.is.named }; stamped = w.is.stamped },
    λ s. d.1 (record { method = s.method; among = (declared s.method).1 (s.is.method, subst (λ o. DeclaredIn p o s.method) (one s.is.object s.is.is_object) s.is.declared); is = record { stamped = s.stamped; named = s.is.named } }),
  )

  pub no_showing : ((o : ℕ) → IsObject p o → ⊥) → Decides false (IsShowing p called)
  no_showing none = (λ e. absurd (false≢true e), λ s. absurd (none s.is.object s.is.is_object))

-- ---- Object

object_one : (p : Rows) (s : ℕ) → IsWellHeaded p → (object_row p ≡ Some s → IsObject p s) × (IsObject p s → object_row p ≡ Some s)
object_one p s well = finds (λ n. is_object p n) (λ n. IsObject p n) (λ n. object_tells p n) (length p) (λ k h. type_below p k h.type) (λ j k a b. well.one j k a b) s

pub object_here : (p : Rows) (o : ℕ) → IsWellHeaded p → object_row p ≡ Some o → IsObject p o
object_here p o well is = (object_one p o well).0 is

pub object_away : (p : Rows) → IsWellHeaded p → object_row p ≡ None → (o : ℕ) → IsObject p o → ⊥
object_away p well none o of = none-some o (sym none ∙ (object_one p o well).1 of)
