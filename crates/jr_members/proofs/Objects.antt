-- What an interface has of Object, and members as what types hold and that.
use Rattle.std.proofs.Common.{◌≡◌, ◌⊎◌, refl, sym, ◌∙◌, ap, subst, inl, inr, ⊎_elim, arith, ℕ, ◌<◌, Bool, true, false, not, cond, ◌&&◌, List, [], ◌∷◌, ◌++◌, append-nil, length, Option, Some, None, nat_eq, Decides}
use Rattle.std.proofs.lemmas.Bool.{false≢true, and_parts, and_from, cond-true}
use Rattle.std.proofs.lemmas.Bool.Decides.{Decides-eqb}
use Rattle.std.proofs.lemmas.Option.{none-some, same_Some}
use Rattle.jr_tree.specs.declared.label.Role.{Role}
use Rattle.jr_tree.specs.declared.label.Role.TheVariants as role
use Rattle.jr_tree.specs.Rows.{Rows, role_at}
use Rattle.jr_defs.specs.Referents.{Table}
use Rattle.jr_defs.specs.Declarations.{IsInterface, IsObject}
use Rattle.jr_defs.specs.Enclosing.{DeclaredIn, IsMemberRole}
use Rattle.jr_defs.specs.Modifiers.{IsPublic, IsStatic}
use Rattle.jr_defs.specs.Supertypes.{AtOrAbove}
use Rattle.jr_defs.specs.Members.{Replaces, IsLeft, IsObjectMethod, MemberOf, SameMethods}
use Rattle.jr_plain.specs.Search.{has, Lists}
use Rattle.jr_plain.specs.Headed.{IsHeaded}
use Rattle.jr_plain.specs.Declarations.{is_interface, is_object}
use Rattle.jr_plain.specs.Enclosing.{declaring_type}
use Rattle.jr_plain.specs.Modifiers.{is_public, is_static}
use Rattle.jr_plain.proofs.Tests.{both, like, never, opposite}
use Rattle.jr_plain.proofs.Searches.{finds}
use Rattle.jr_plain.proofs.Same.{role_tells}
use Rattle.jr_plain.proofs.Bounds.{member_below, type_below}
use Rattle.jr_plain.proofs.Declared.{interface_tells, object_tells}
use Rattle.jr_plain.proofs.Enclosed.{declared_in_tells, declaring_finds}
use Rattle.jr_plain.proofs.Modified.{public_tells, static_tells}
use Rattle.jr_plain.proofs.Typed.{signature_tells}
use Rattle.jr_supers.specs.declared.subtypes.Supers.{Supers}
use Rattle.jr_supers.specs.Supers.{AreSupersOf}
use Rattle.jr_members.specs.declared.declared.MemberKind.{MemberKind}
use Rattle.jr_members.specs.declared.declared.MemberKind.TheVariants as kind
use Rattle.jr_members.specs.declared.members.Members.{Members}
use Rattle.jr_members.specs.declared.named.Named.{Named}
use Rattle.jr_members.specs.Each.{StandOnce, ListsEach, if_such, with_new}
use Rattle.jr_members.specs.Keys.{falling, is_declared_like}
use Rattle.jr_members.specs.Held.{role_of_kind, kind_of, Holds, HasOfObject, IsOf, IsDeclaredAs, IsHeldAs, IsMemberAs, ObjectIsNoInterface}
use Rattle.jr_members.specs.Sources.{CanClimb, AreNamed}
use Rattle.jr_members.specs.Worlds.{AreKinds, kind_in, is_of_interface, IsReplacedBy, IsLeftBy, IsPublicLeft, IsAddingLeft, IsPublicAbove, AddsLeft}
use Rattle.jr_members.proofs.Each.{first_in, rest_in, front_in, none_in, new_has, stand_new}
use Rattle.jr_members.proofs.Heritage.{held_declared, held_member, object_member, member_held}
use Rattle.jr_members.proofs.Declaring.{falling_lists}

module _ (p : Rows) (c d : ℕ) where
  pub declarer_some : (e : ℕ) → declaring_type p d ≡ Some e → Decides (nat_eq e c) (DeclaredIn p c d)
  declarer_some e found = like (Decides-eqb e c) (λ same. (declaring_finds p d c).0 (found ∙ ap Some same)) (λ h. same_Some e c (sym found ∙ (declaring_finds p d c).1 h))

  pub declarer_none : declaring_type p d ≡ None → Decides false (DeclaredIn p c d)
  declarer_none none = (λ h. absurd (false≢true h), λ h. absurd (none-some c (sym none ∙ (declaring_finds p d c).1 h)))

pub told_false : {b : Bool} {P : Type 0} → Decides b P → b ≡ false → P → ⊥
told_false tells is k = false≢true (sym is ∙ tells.1 k)

-- ---- kinds

pub kind_is : (r : Role) (k : MemberKind) → kind_of r ≡ Some k → r ≡ role_of_kind k
kind_is role.Field k e = ap role_of_kind (same_Some kind.Field k e)
kind_is role.Type k e = ap role_of_kind (same_Some kind.Type k e)
kind_is role.Method k e = ap role_of_kind (same_Some kind.Method k e)
kind_is _ k e = absurd (none-some k e)

kind_none : (r : Role) → kind_of r ≡ None → IsMemberRole r → ⊥
kind_none role.Field e m = none-some kind.Field (sym e)
kind_none role.Type e m = none-some kind.Type (sym e)
kind_none role.Method e m = none-some kind.Method (sym e)
kind_none _ e m = m

kind_some : (k : MemberKind) → kind_of (role_of_kind k) ≡ Some k
kind_some kind.Field = refl
kind_some kind.Type = refl
kind_some kind.Method = refl

-- ---- an interface that declares a method of the signature

some_item : (all : List ℕ) (P : ℕ → Type 0) (empty : Bool) → Lists all P → empty ≡ nat_eq (length all) 0 → Decides (not empty) ((x : ℕ) × P x)
some_item [] P true lists e = (λ h. absurd (false≢true h), λ h. absurd (false≢true ((lists h.0).1 h.1)))
some_item [] P false lists e = absurd (false≢true e)
some_item (x ∷ xs) P true lists e = let same = (Decides-eqb (length (x ∷ xs)) 0).0 (sym e) in absurd (omega arith)
some_item (x ∷ xs) P false lists e = (λ h. (x, (lists x).0 (first_in x xs (x ∷ xs) refl)), λ h. refl)

module _ (p : Rows) (t : Table) where
  like_listed : (headed : IsHeaded p) (c m : ℕ) → role_at p m ≡ role.Method → Lists (falling (length p) (is_declared_like p t c m)) (λ e. DeclaredIn p c e × SameMethods p t e m)
  like_listed headed c m method = falling_lists (is_declared_like p t c m) (λ e. DeclaredIn p c e × SameMethods p t e m) (length p)
      (λ e. like (both (role_tells (role_at p e) role.Method) (both (declared_in_tells p c e) (signature_tells p t e m headed.tree)))
      (λ h. (h.1.0, record { first = h.0; second = method; signature = h.1.1 })) (λ k. (k.1.first, (k.0, k.1.signature))))
      (λ e k. member_below p e k.0.member)

  module _ (d : ℕ) (method : role_at p d ≡ role.Method) where
    no_role : {r : Role} → r ≡ role.Method → (r ≡ role.Field) ⊎ (r ≡ role.Type) → ⊥
    no_role e (inl f) = cc
    no_role e (inr f) = cc

    replaced_same : (e : ℕ) → Replaces p t e d → SameMethods p t e d
    replaced_same e (Replaces.field h) = absurd (no_role method (inl h.second))
    replaced_same e (Replaces.type h) = absurd (no_role method (inr h.second))
    replaced_same e (Replaces.method h) = h

    pub apart_tells : (s : ℕ) → is_interface p s ≡ false → Decides false (IsReplacedBy p t d s)
    apart_tells s e = (λ h. absurd (false≢true h), λ h. absurd (false≢true (sym e ∙ (interface_tells p s).1 h.interface)))

    pub replaced_tells : (headed : IsHeaded p) (s : ℕ) (rows : List ℕ) (empty : Bool) → is_interface p s ≡ true → rows ≡ falling (length p) (is_declared_like p t s d) → empty ≡ nat_eq (length rows) 0 → Decides (not empty) (IsReplacedBy p t d s)
    replaced_tells headed s rows empty i is e =
        like (some_item rows (λ e. DeclaredIn p s e × SameMethods p t e d) empty (subst (λ xs. Lists xs (λ e. DeclaredIn p s e × SameMethods p t e d)) (sym is) (like_listed headed s d method)) e)
        (λ h. record { interface = (interface_tells p s).0 i; own = h.0; declared = h.1.0; replaces = Replaces.method h.1.1 })
        (λ k. (k.own, (k.declared, replaced_same k.own k.replaces)))

  pub left_not : (above : List ℕ) (d s : ℕ) → has above s ≡ true → IsReplacedBy p t d s → Decides false (IsLeftBy p t above d)
  left_not above d s at h = (λ e. absurd (false≢true e), λ left. absurd (left s at h))

  pub left_end : (above rest : List ℕ) (d : ℕ) → rest ≡ [] → ((s : ℕ) → has above s ≡ true → IsReplacedBy p t d s → has rest s ≡ true) → Decides true (IsLeftBy p t above d)
  left_end above rest d none h = (λ e s at k. none_in s rest none (h s at k), λ left. refl)

  pub left_next : (above rest more : List ℕ) (d s : ℕ) → more ≡ s ∷ rest → (IsReplacedBy p t d s → ⊥) → ((u : ℕ) → has above u ≡ true → IsReplacedBy p t d u → has more u ≡ true) → (u : ℕ) → has above u ≡ true → IsReplacedBy p t d u → has rest u ≡ true
  left_next above rest more d s is apart h u at k = ⊎_elim (λ same. absurd (apart (subst (λ s. IsReplacedBy p t d s) (sym same) k))) (λ a. a) (front_in s u rest more is (h u at k))

  pub public_not : (above : List ℕ) (d : ℕ) → (is_public p d && not (is_static p d)) ≡ false → Decides false (IsPublicLeft p t above d)
  public_not above d e = (λ h. absurd (false≢true h), λ h. absurd (false≢true (sym e ∙ and_from (is_public p d) (not (is_static p d)) ((public_tells p d).1 h.public) ((opposite (static_tells p d)).1 h.instance))))

  pub public_left : (above : List ℕ) (d : ℕ) (b : Bool) → (is_public p d && not (is_static p d)) ≡ true → Decides b (IsLeftBy p t above d) → Decides b (IsPublicLeft p t above d)
  public_left above d b e left = let parts = and_parts (is_public p d) (not (is_static p d)) e in
      like left (λ h. record { public = (public_tells p d).0 parts.0; instance = (opposite (static_tells p d)).0 parts.1; left = h }) (λ k. k.left)

  -- ---- such ones are added

  module _ (above own old : List ℕ) where
    pub lefts_start : StandOnce old → IsAddingLeft p t above own old old own
    lefts_start once = record { sound = λ d h. inl h; kept = λ d h. h; told = λ d at h. inr at; part = λ d h. h; once = once }

    pub lefts_next : (all now rest more : List ℕ) (d : ℕ) (b : Bool) → more ≡ d ∷ rest → IsAddingLeft p t above own old all more → Decides b (IsPublicLeft p t above d) → now ≡ cond b (with_new all d) all → IsAddingLeft p t above own old now rest
    lefts_next all now rest more d true is h tells new = record {
      sound = λ e k. ⊎_elim (λ a. h.sound e a) (λ same. inr (subst (λ e. (has own e ≡ true) × IsPublicLeft p t above e) same (h.part d (first_in d rest more is), tells.0 refl))) ((now_has e).0 k);
      kept = λ e k. (now_has e).1 (inl (h.kept e k));
      told = λ e at k. ⊎_elim (λ a. inl ((now_has e).1 (inl a))) (λ a. ⊎_elim (λ same. inl ((now_has e).1 (inr same))) (λ a. inr a) (front_in d e rest more is a)) (h.told e at k);
      part = λ e k. h.part e (rest_in d e rest more is k);
      once = subst StandOnce (sym new) (stand_new all d h.once);
    }
      where
        now_has : (e : ℕ) → Decides (has now e) ((has all e ≡ true) ⊎ (d ≡ e))
        now_has e = subst (λ xs. Decides (has xs e) ((has all e ≡ true) ⊎ (d ≡ e))) (sym new) (new_has all d e)
    lefts_next all now rest more d false is h tells new = record {
      sound = λ e k. h.sound e (subst (λ xs. has xs e ≡ true) new k);
      kept = λ e k. subst (λ xs. has xs e ≡ true) (sym new) (h.kept e k);
      told = λ e at k. ⊎_elim (λ a. inl (subst (λ xs. has xs e ≡ true) (sym new) a)) (λ a. ⊎_elim (λ same. absurd (false≢true (tells.1 (subst (λ e. IsPublicLeft p t above e) (sym same) k)))) (λ a. inr a) (front_in d e rest more is a)) (h.told e at k);
      part = λ e k. h.part e (rest_in d e rest more is k);
      once = subst StandOnce (sym new) h.once;
    }

    pub lefts_end : (all rest : List ℕ) → rest ≡ [] → IsAddingLeft p t above own old all rest → IsAddingLeft p t above own old all []
    lefts_end all rest none h = subst (λ xs. IsAddingLeft p t above own old all xs) none h

  -- these are the type and those above it
  pub adds_by : (c : ℕ) (own old all above : List ℕ) → Lists above (AtOrAbove p t c) → IsAddingLeft p t above own old all [] → AddsLeft p t c own old all
  adds_by c own old all above ups h = record {
    sound = λ d k. ⊎_elim (λ a. inl a) (λ a. inr (a.0, record { public = a.1.public; instance = a.1.instance; left = λ s up r. a.1.left s ((ups s).1 up) r })) (h.sound d k);
    kept = h.kept;
    told = λ d at k. ⊎_elim (λ a. a) (λ a. absurd (false≢true a)) (h.told d at (record { public = k.public; instance = k.instance; left = λ s at r. k.left s ((ups s).0 at) r }));
    once = h.once;
  }

  -- nothing is added
  pub adds_none : (c : ℕ) (own old : List ℕ) → own ≡ [] → StandOnce old → AddsLeft p t c own old old
  adds_none c own old none once = record { sound = λ d k. inl k; kept = λ d k. k; told = λ d at k. absurd (none_in d own none at); once = once }

  -- ---- members under a name

  module _ (kind : MemberKind) (c x : ℕ) (apart : ObjectIsNoInterface p) where
    by_held : (d : ℕ) → IsHeldAs p t kind c x d → IsMemberAs p t kind c x d
    by_held d h = record { of = h.of; member = held_member p t c d h.held }

    -- where nothing is of Object
    pub held_all : (all : List ℕ) → ((d : ℕ) → IsOf p kind x d → HasOfObject p t c d → ⊥) → ListsEach all (IsHeldAs p t kind c x) → ListsEach all (IsMemberAs p t kind c x)
    held_all all none h = record {
      once = h.once;
      lists = λ d. like (h.lists d) (by_held d) (λ k. ⊎_elim (λ a. record { of = k.of; held = a }) (λ a. absurd (none d k.of a)) (member_held p t apart c d k.member));
    }

  kind_method : (k : MemberKind) → role.Method ≡ role_of_kind k → k ≡ kind.Method
  kind_method k e = same_Some k kind.Method (sym (kind_some k) ∙ ap kind_of (sym e))

  pub kind_apart : (k : MemberKind) (c d x : ℕ) → is_of_interface p k c ≡ false → IsOf p k x d → HasOfObject p t c d → ⊥
  kind_apart k c d x e of h = let same = kind_method k (sym h.method.method ∙ of.role_is) in
      false≢true (sym e ∙ (ap (λ k. is_of_interface p k c) same ∙ (interface_tells p c).1 h.interface))

  pub method_kind : (k : MemberKind) (c : ℕ) → is_of_interface p k c ≡ true → (k ≡ kind.Method) × IsInterface p c
  method_kind kind.Field c e = absurd (false≢true e)
  method_kind kind.Type c e = absurd (false≢true e)
  method_kind kind.Method c e = (refl, (interface_tells p c).0 e)

  module _ (supers : Supers) (right : AreSupersOf p t supers) where
    object_is : (o : ℕ) → IsObject p o → supers.direct.object ≡ Some o
    object_is o h = right.object ∙ (finds (λ n. is_object p n) (λ n. IsObject p n) (λ n. object_tells p n) (length p) (λ k h. type_below p k h.type) (λ j k a b. right.well.one j k a b) o).1 h

    is_object_row : (o : ℕ) → supers.direct.object ≡ Some o → IsObject p o
    is_object_row o e = (finds (λ n. is_object p n) (λ n. IsObject p n) (λ n. object_tells p n) (length p) (λ k h. type_below p k h.type) (λ j k a b. right.well.one j k a b) o).0 (sym right.object ∙ e)

    pub object_none : supers.direct.object ≡ None → (c d : ℕ) → HasOfObject p t c d → ⊥
    object_none none c d h = none-some h.method.of_type (sym none ∙ object_is h.method.of_type h.method.object)

    -- what is added of Object
    module _ (c x o : ℕ) (own old all : List ℕ) (apart : ObjectIsNoInterface p) (interface : IsInterface p c) (is : supers.direct.object ≡ Some o) (listed : Lists own (IsDeclaredAs p kind.Method o x)) where
      of_object : (d : ℕ) → (has own d ≡ true) × IsPublicAbove p t c d → IsMemberAs p t kind.Method c x d
      of_object d h = let k = (listed d).0 h.0 in record {
        of = k.of;
        member = object_member p t c d (record {
          interface = interface;
          method = record { of_type = o; object = is_object_row o is; declared = k.declared; method = k.of.role_is; public = h.1.public; instance = h.1.instance };
          left = λ s i up e declared replaces. h.1.left s up (record { interface = i; own = e; declared = declared; replaces = replaces });
        });
      }

      has_of_object : (d : ℕ) → IsOf p kind.Method x d → HasOfObject p t c d → (has own d ≡ true) × IsPublicAbove p t c d
      has_of_object d of h = let same : h.method.of_type ≡ o = same_Some h.method.of_type o (sym (object_is h.method.of_type h.method.object) ∙ is) in (
        (listed d).1 (record { of = of; declared = subst (λ o. DeclaredIn p o d) same h.method.declared }),
        record { public = h.method.public; instance = h.method.instance; left = λ s up k. h.left s k.interface up k.own k.declared k.replaces },
      )

      pub members_all : ListsEach old (IsHeldAs p t kind.Method c x) → AddsLeft p t c own old all → ListsEach all (IsMemberAs p t kind.Method c x)
      members_all held h = record {
        once = h.once;
        lists = λ d. (
          λ k. ⊎_elim (λ a. by_held kind.Method c x apart d ((held.lists d).0 a)) (λ a. of_object d a) (h.sound d k),
          λ k. ⊎_elim (λ a. h.kept d ((held.lists d).1 (record { of = k.of; held = a }))) (λ a. let b = has_of_object d k.of a in h.told d b.0 b.1) (member_held p t apart c d k.member),
        );
      }

  -- ---- a member

  pub member_named : (kind : MemberKind) (c x d : ℕ) (all : List ℕ) → IsOf p kind x d → ListsEach all (IsMemberAs p t kind c x) → Decides (has all d) (MemberOf p t c d)
  member_named kind c x d all of h = like (h.lists d) (λ k. k.member) (λ k. record { of = of; member = k })

  -- what is no member by its role
  pub member_apart : ObjectIsNoInterface p → (c d : ℕ) → kind_of (role_at p d) ≡ None → Decides false (MemberOf p t c d)
  member_apart apart c d none = (λ h. absurd (false≢true h), λ h. absurd (kind_none (role_at p d) none (by (member_held p t apart c d h))))
    where
      by : Holds p t c d ⊎ HasOfObject p t c d → IsMemberRole (role_at p d)
      by (inl h) = (held_declared p t c d h).2.member
      by (inr h) = h.method.declared.member

  pub member_there : (c d : ℕ) → DeclaredIn p c d → Decides true (MemberOf p t c d)
  member_there c d h = (λ e. MemberOf.declared h, λ k. refl)

-- ---- lists

pub no_items : (xs : List ℕ) → nat_eq (length xs) 0 ≡ true → xs ≡ []
no_items [] e = refl
no_items (x ∷ xs) e = let same = (Decides-eqb (length (x ∷ xs)) 0).0 e in absurd (omega arith)

pub other_pushed : (old new : List ℕ) (d : ℕ) (is_such there : Bool) → is_such ≡ true → there ≡ has old d → new ≡ old ++ if_such (not there) d → new ≡ cond is_such (with_new old d) old
other_pushed old new d is_such there such is pushed = pushed ∙ ap (λ b. old ++ if_such (not b) d) is ∙ by (has old d) ∙ sym (cond-true is_such (with_new old d) old such)
  where
    by : (b : Bool) → old ++ if_such (not b) d ≡ cond b old (old ++ d ∷ [])
    by true = append-nil old
    by false = refl

pub kind_below : (p : Rows) (k : MemberKind) (d : ℕ) → role_at p d ≡ role_of_kind k → d < length p
kind_below p kind.Field d e = member_below p d (subst (λ r. IsMemberRole r) (sym e) tt)
kind_below p kind.Type d e = member_below p d (subst (λ r. IsMemberRole r) (sym e) tt)
kind_below p kind.Method d e = member_below p d (subst (λ r. IsMemberRole r) (sym e) tt)

pub kind_named : (p : Rows) (t : Table) (supers : Supers) (members : Members) → AreKinds p t supers members.kinds → (k : MemberKind) → AreNamed p t supers k (kind_in members k)
kind_named p t supers members h kind.Field = h.fields
kind_named p t supers members h kind.Type = h.types
kind_named p t supers members h kind.Method = h.methods

pub named_climb : (p : Rows) (t : Table) (supers : Supers) (k : MemberKind) (named : Named) (c : ℕ) → AreNamed p t supers k named → CanClimb p t supers k named.lists c
named_climb p t supers k named c h = record { all = h.all; done = λ y on. h.done y }
