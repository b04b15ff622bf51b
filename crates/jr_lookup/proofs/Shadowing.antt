-- Which variables are visible at a place as far in as a row: locals and parameters, or the fields of the innermost type round it that has any.
use Rattle.std.proofs.Common.{◌≡◌, ◌⊎◌, refl, sym, ◌∙◌, ap, subst, inl, inr, ⊎_elim, arith, ℕ, ◌+◌, ◌<◌, ◌≤◌, Bool, true, ◌&&◌, List, [], ◌∷◌, length, Option, Some, None, Result, Ok, Err, IfOk, nat_eq, Decides}
use Rattle.std.proofs.lemmas.Bool.{false≢true, cases_eq}
use Rattle.std.proofs.lemmas.Bool.Decides.{Decides-eqb}
use Rattle.std.proofs.lemmas.Option.{none-some}
use Rattle.jr_base.specs.declared.text.Text.{Text}
use Rattle.jr_tree.specs.declared.label.Role.{Role}
use Rattle.jr_tree.specs.declared.label.Role.TheVariants as role
use Rattle.jr_tree.specs.Labels.{role_of}
use Rattle.jr_tree.specs.Rows.{Rows, role_at}
use Rattle.jr_tree.specs.Local.{IsLocal}
use Rattle.jr_defs.specs.declared.referent.Space.TheVariants as space
use Rattle.jr_defs.specs.Referents.{Table}
use Rattle.jr_defs.specs.Declarations as def
use Rattle.jr_defs.specs.Enclosing.{IsMemberRole, InBody}
use Rattle.jr_defs.specs.Members.{MemberOf}
use Rattle.jr_defs.specs.Imports.{OnDemandOf}
use Rattle.jr_defs.specs.Scope.{Depth, within, imported, rank, IsNoFurther, HasScope, InScope, InOneList, Visible}
use Rattle.jr_defs.specs.Lookup.{level_of, VisibleThrough}
use Rattle.jr_plain.specs.Headed.{IsHeaded}
use Rattle.jr_plain.specs.Search.{has, any_below, last_below, Lists}
use Rattle.jr_plain.specs.Same.{same_role}
use Rattle.jr_plain.specs.Enclosing.{is_in_body}
use Rattle.jr_plain.specs.Members.{is_member as is_member_of}
use Rattle.jr_plain.proofs.Tests.{both, like}
use Rattle.jr_plain.proofs.Searches.{some, finds_last}
use Rattle.jr_plain.proofs.Same.{role_tells}
use Rattle.jr_plain.proofs.Bounds.{bounded, type_below}
use Rattle.jr_plain.proofs.Enclosed.{in_body_tells}
use Rattle.jr_plain.proofs.Membership.{member_tells}
use Rattle.jr_places.specs.Names.{name_row}
use Rattle.jr_members.specs.declared.declared.MemberKind.TheVariants as kind
use Rattle.jr_members.specs.Each.{ListsEach}
use Rattle.jr_members.specs.Held.{IsMemberAs}
use Rattle.jr_members.proofs.Each.{front_has}
use Rattle.jr_lookup.specs.Levels.{HasMemberAs, AreMembersAround}
use Rattle.jr_lookup.specs.Outward.{IsInnermostSuch, IsNumberOf}
use Rattle.jr_lookup.specs.Locals.{IsVisibleLocal, AreLocalsPlaced, IsOwn}
use Rattle.jr_lookup.specs.Variables.{AreVisibleThrough, AreVariablesWithin, AreFieldsAt, AreStaticFar}
use Rattle.jr_lookup.specs.Sights.{IsStaticAt}
use Rattle.jr_lookup.specs.Types.{AreVisibleAt}
use Rattle.jr_lookup.proofs.Leveling.{declared_somewhere}
use Rattle.jr_lookup.proofs.Nesting.{owned, type_out, no_further, no_label, no_type, named, numbered, none_own}
use Rattle.jr_lookup.proofs.Outward.{last_least}

-- two clauses of one call
pub ok_both : {X E : Type 0} (r : Result X E) (P Q R : X → Type 0) → ((x : X) → P x → Q x → R x) → IfOk r P → IfOk r Q → IfOk r R
ok_both (Ok x) P Q R f a b = f x a b
ok_both (Err e) P Q R f a b = tt

field_of : (r : Role) → def.IsOf space.Variable r → IsMemberRole r → r ≡ role.Field
field_of role.Field h k = refl
field_of role.Type h k = absurd h
field_of role.Method h k = absurd h
field_of _ h k = absurd k

local_or_type : (r : Role) → r ≡ role.Local → r ≡ role.Type → ⊥
local_or_type r e f = cc

parameter_or_type : (r : Role) → r ≡ role.Parameter → r ≡ role.Type → ⊥
parameter_or_type r e f = cc

field_or_parameter : (r : Role) → r ≡ role.Field → r ≡ role.Parameter → ⊥
field_or_parameter r e f = cc

further_rank : (q r : Depth) (y : ℕ) → IsNoFurther q r → q ≡ within y → 3 + y ≤ rank r
further_rank q r y (IsNoFurther.by_rank le) e = let same = ap rank e in omega arith
further_rank q r y IsNoFurther.of_one_package e = absurd (cc)

module _ (p : Rows) (rows : IsLocal p) (placed : AreLocalsPlaced p) (t : Table) (x : Text) (n o : ℕ) (lt : o < length p) (number : IsNumberOf p n x) where
  abbrev OwnAt : ℕ → Depth → Type 0
  OwnAt e r = (r ≡ within e) × (level_of (role_at p e) r ≡ None)

  abbrev MemberAt : ℕ → Depth → Type 0
  MemberAt e r = (c : ℕ) × (r ≡ within c) × (role_at p e ≡ role.Field) × InBody p c o × MemberOf p t c e

  abbrev FarAt : ℕ → Depth → Type 0
  FarAt e r = (rank r ≤ 2) × (role_at p e ≡ role.Field)

  field_at : (c e : ℕ) → MemberOf p t c e → def.Declares p space.Variable x e → role_at p e ≡ role.Field
  field_at c e m declares = let k = declared_somewhere p t c e m in field_of (role_at p e) declares.of_kind k.1.member

  not_demanded : (u e : ℕ) → OnDemandOf p t u e → (role_at p e ≡ role.Type → ⊥) → ⊥
  not_demanded u e (OnDemandOf.of_package i r k) out = out k.top.type
  not_demanded u e (OnDemandOf.of_type i m h type) out = out type
  not_demanded u e (OnDemandOf.lang k) out = out k.top.type

  abbrev StaticAt : ℕ → Depth → Type 0
  StaticAt e r = (r ≡ imported) × IsStaticAt p t kind.Field o n e

  -- how a variable is in scope
  how_far : (e : ℕ) (r : Depth) → HasScope p t o e r → def.Declares p space.Variable x e → (OwnAt e r ⊎ MemberAt e r) ⊎ StaticAt e r
  how_far e r (HasScope.local h) declares = inl (inl (refl, ap (λ k. level_of k (within e)) h.local))
  how_far e r (HasScope.parameter h) declares = inl (inl (refl, ap (λ k. level_of k (within e)) h.parameter))
  how_far e r (HasScope.labeled h) declares = absurd (no_label p rows placed t x n o lt number e declares h.labeled)
  how_far e r (HasScope.member {c = c} i m) declares = inl (inr (c, refl, field_at c e m declares, i, m))
  how_far e r (HasScope.of_same_unit h) declares = absurd (no_type p rows placed t x n o lt number e declares h.top.type)
  how_far e r (HasScope.of_same_package h) declares = absurd (no_type p rows placed t x n o lt number e declares h.top.type)
  how_far e r (HasScope.single h) declares = absurd (no_type p rows placed t x n o lt number e declares h.brings.names.type)
  how_far e r (HasScope.static h) declares = inr (
    refl,
    record {
      imported = h;
      of = record { role_is = field_at h.brings.imports.of_type e h.brings.imports.member declares; named = numbered p rows placed t x n o lt number e declares.named };
    },
  )
  how_far e r (HasScope.demanded h) declares = absurd (not_demanded h.unit e h.brings.brings (no_type p rows placed t x n o lt number e declares))

  how : (e : ℕ) (r : Depth) → HasScope p t o e r → def.Declares p space.Variable x e → (OwnAt e r ⊎ MemberAt e r) ⊎ FarAt e r
  how e r scope declares = ⊎_elim (λ a. inl a) (λ f. let same = ap rank f.0 in inr (omega arith, f.1.of.role_is)) (how_far e r scope declares)

  -- the types round the place are further out than its locals
  type_before : (c y : ℕ) → InBody p c o → InScope p t space.Variable x o y (within y) → c < y
  type_before c y i h =
      let own = owned p rows placed t x n o lt number y (within y) h.scope refl h.declares in
      let le = type_out p rows placed t x n o lt number c own.0 y i own.1 own.2 own.3 in
      ⊎_elim (λ same. absurd (apart own.0 own.3 (subst (λ k. role_at p k ≡ role.Type) same i.of_type.type))) (λ apart. omega arith) (cases_eq c y)
    where
      apart : (g : ℕ) → IsOwn p n o g y → role_at p y ≡ role.Type → ⊥
      apart g (inl k) e = local_or_type (role_at p y) k.local e
      apart g (inr k) e = parameter_or_type (role_at p y) k.parameter e

  -- ---- locals

  local_alone : (y : ℕ) → IsVisibleLocal p t x o y → (e : ℕ) (r : Depth) → Visible p t space.Variable x o e r → OwnAt e r
  local_alone y local e r v = by (how e r v.in_scope.scope v.in_scope.declares) (v.innermost y (within y) local.in_scope)
    where
      by : (OwnAt e r ⊎ MemberAt e r) ⊎ FarAt e r → IsNoFurther (within y) r ⊎ InOneList p y e → OwnAt e r
      by (inl (inl own)) far = own
      by (inl (inr m)) (inl h) = let le = no_further p rows placed t x n o lt number (within y) r y m.0 h refl m.1 in let less = type_before m.0 y m.3 local.in_scope in absurd (omega arith)
      by (inl (inr m)) (inr list) = absurd (field_or_parameter (role_at p e) m.2 list.second)
      by (inr f) (inl h) = let le = further_rank (within y) r y h refl in let few = f.0 in absurd (omega arith)
      by (inr f) (inr list) = absurd (field_or_parameter (role_at p e) f.1 list.second)

  own_level : (d : ℕ) → IsVisibleLocal p t x o d → level_of (role_at p d) (within d) ≡ None
  own_level d local = (local_alone d local d (within d) local).1

  are_locals : (found : List ℕ) (level : Option ℕ) (y : ℕ) → ListsEach found (IsVisibleLocal p t x o) → IsVisibleLocal p t x o y → level ≡ None → AreVisibleThrough p t x o found level
  are_locals found level y each local none = record { sound = sound; whole = whole }
    where
      sound : (d : ℕ) (l : Option ℕ) → has found d ≡ true → l ≡ level → VisibleThrough p t space.Variable x o d l
      sound d l h e = let v = (each.lists d).0 h in record { depth = within d; visible = v; through = own_level d v ∙ sym none ∙ sym e }

      whole : (d : ℕ) (l : Option ℕ) → VisibleThrough p t space.Variable x o d l → (has found d ≡ true) × (l ≡ level)
      whole d l v = let own = local_alone y local d v.depth v.visible in
          ((each.lists d).1 (subst (λ r. Visible p t space.Variable x o d r) own.0 v.visible), sym v.through ∙ own.1 ∙ sym none)

  pub variables_local : (found : List ℕ) (level : Option ℕ) → ListsEach found (IsVisibleLocal p t x o) → (length found ≡ 0 → ⊥) → level ≡ None → AreVariablesWithin p t x o found level
  variables_local [] level each some none = absurd (some refl)
  variables_local (y ∷ ys) level each some none = record { are = λ d s v. are_locals (y ∷ ys) level y each ((each.lists y).0 (front_has y ys)) none; none = λ empty. absurd (some empty) }

  -- ---- fields

  module _ (none : (e : ℕ) → IsVisibleLocal p t x o e → ⊥) where
    -- a variable that is visible so far in is a field of the innermost type that has any
    field_within : (d s : ℕ) → Visible p t space.Variable x o d (within s) → MemberAt d (within s)
    field_within d s v = by (how d (within s) v.in_scope.scope v.in_scope.declares)
      where
        by : (OwnAt d (within s) ⊎ MemberAt d (within s)) ⊎ FarAt d (within s) → MemberAt d (within s)
        by (inl (inl own)) = absurd (none d (subst (λ r. Visible p t space.Variable x o d r) own.0 v))
        by (inl (inr m)) = m
        by (inr f) = let few = f.0 in absurd (omega arith)

    is_member : (c d : ℕ) → MemberOf p t c d → def.Declares p space.Variable x d → IsMemberAs p t kind.Field c n d
    is_member c d m declares = record { of = record { role_is = field_at c d m declares; named = numbered p rows placed t x n o lt number d declares.named }; member = m }

    field_alone : (c d : ℕ) → Visible p t space.Variable x o d (within c) → role_at p d ≡ role.Field → (e : ℕ) (r : Depth) → Visible p t space.Variable x o e r
        → (r ≡ within c) × (role_at p e ≡ role.Field) × MemberOf p t c e
    field_alone c d w field e r v = by (how e r v.in_scope.scope v.in_scope.declares) (v.innermost d (within c) w.in_scope) (w.innermost e r v.in_scope)
      where
        by : (OwnAt e r ⊎ MemberAt e r) ⊎ FarAt e r → IsNoFurther (within c) r ⊎ InOneList p d e → IsNoFurther r (within c) ⊎ InOneList p e d → (r ≡ within c) × (role_at p e ≡ role.Field) × MemberOf p t c e
        by (inl (inl own)) far near = absurd (none e (subst (λ r. Visible p t space.Variable x o e r) own.0 v))
        by k (inr list) near = absurd (field_or_parameter (role_at p d) field list.first)
        by k far (inr list) = absurd (field_or_parameter (role_at p d) field list.second)
        by (inl (inr m)) (inl far) (inl near) =
            let low = no_further p rows placed t x n o lt number (within c) r c m.0 far refl m.1 in
            let high = no_further p rows placed t x n o lt number r (within c) m.0 c near m.1 refl in
            let same : m.0 ≡ c = omega arith in
            (m.1 ∙ ap (λ s. within s) same, m.2, subst (λ s. MemberOf p t s e) same m.4)
        by (inr f) (inl far) near = let le = further_rank (within c) r c far refl in let few = f.0 in absurd (omega arith)

    innermost_such : (c d : ℕ) → Visible p t space.Variable x o d (within c) → role_at p d ≡ role.Field → InBody p c o → MemberOf p t c d → IsInnermostSuch p (HasMemberAs p t kind.Field n) o c
    innermost_such c d v field i m = record {
      round = i;
      such = record { some = d; is = is_member c d m v.in_scope.declares };
      innermost = λ e j k. by e (v.innermost k.some (within e) (in_scope e k.some j k.is));
    }
      where
        in_scope : (e k : ℕ) → InBody p e o → IsMemberAs p t kind.Field e n k → InScope p t space.Variable x o k (within e)
        in_scope e k j h = record { scope = HasScope.member j h.member; declares = record { of_kind = subst (def.IsOf space.Variable) (sym h.of.role_is) tt; named = named p rows placed t x n o lt number k h.of.named } }

        by : (e : ℕ) {k : ℕ} → IsNoFurther (within e) (within c) ⊎ InOneList p k d → e ≤ c
        by e (inl h) = no_further p rows placed t x n o lt number (within e) (within c) e c h refl refl
        by e (inr list) = absurd (field_or_parameter (role_at p d) field list.second)

    are_fields : (c d : ℕ) (found : List ℕ) (level : Option ℕ) → Visible p t space.Variable x o d (within c) → role_at p d ≡ role.Field → InBody p c o
        → ListsEach found (IsMemberAs p t kind.Field c n) → level ≡ Some c → AreVisibleThrough p t x o found level
    are_fields c d found level v field i each is = record { sound = sound; whole = whole }
      where
        sound : (e : ℕ) (l : Option ℕ) → has found e ≡ true → l ≡ level → VisibleThrough p t space.Variable x o e l
        sound e l h same = let k = (each.lists e).0 h in record {
          depth = within c;
          visible = record {
            in_scope = record { scope = HasScope.member i k.member; declares = record { of_kind = subst (def.IsOf space.Variable) (sym k.of.role_is) tt; named = named p rows placed t x n o lt number e k.of.named } };
            innermost = λ f q s. ⊎_elim (λ a. inl a) (λ list. absurd (field_or_parameter (role_at p d) field list.second)) (v.innermost f q s);
          };
          through = ap (λ r. level_of r (within c)) k.of.role_is ∙ sym is ∙ sym same;
        }

        whole : (e : ℕ) (l : Option ℕ) → VisibleThrough p t space.Variable x o e l → (has found e ≡ true) × (l ≡ level)
        whole e l w = let k = field_alone c d v field e w.depth w.visible in (
          (each.lists e).1 (is_member c e k.2 w.visible.in_scope.declares),
          sym w.through ∙ ap (λ r. level_of (role_at p e) r) k.0 ∙ ap (λ r. level_of r (within c)) k.1 ∙ sym is,
        )

    variables_around : (found : List ℕ) (level : Option ℕ) → AreFieldsAt p t o n found level → AreVariablesWithin p t x o found level
    variables_around found level fields = record {
      are = λ d s v. let m = field_within d s v in let w = subst (λ r. Visible p t space.Variable x o d r) m.1 v in
          let found_is = fields.are m.0 (innermost_such m.0 d w m.2 m.3 m.4) in are_fields m.0 d found level w m.2 m.3 found_is.0 found_is.1;
      none = λ empty d s h. by empty d s h (how d (within s) h.scope h.declares);
    }
      where
        by : length found ≡ 0 → (d s : ℕ) → InScope p t space.Variable x o d (within s) → (OwnAt d (within s) ⊎ MemberAt d (within s)) ⊎ FarAt d (within s) → ⊥
        by empty d s h (inl (inl own)) = none_own p rows placed t x n o lt number none d (subst (λ r. InScope p t space.Variable x o d r) own.0 h)
        by empty d s h (inl (inr m)) = fields.none empty m.0 m.3 (record { some = d; is = is_member m.0 d m.4 h.declares })
        by empty d s h (inr f) = let few = f.0 in omega arith

  no_items : (xs : List ℕ) → length xs ≡ 0 → (d : ℕ) → has xs d ≡ true → ⊥
  no_items [] e d h = false≢true h
  no_items (y ∷ ys) e d h = omega arith

  -- ---- all variables

  all_through : (found : List ℕ) (level : Option ℕ) → AreVisibleThrough p t x o found level → (length found ≡ 0 → ⊥) → AreVisibleAt p t space.Variable x o found level
  all_through found level are more = record { sound = λ d h. are.sound d level h refl; whole = are.whole; none = λ empty. absurd (more empty) }

  pub all_local : (found : List ℕ) (level : Option ℕ) → ListsEach found (IsVisibleLocal p t x o) → (length found ≡ 0 → ⊥) → level ≡ None → AreVisibleAt p t space.Variable x o found level
  all_local [] level each more none = absurd (more refl)
  all_local (y ∷ ys) level each more none = all_through (y ∷ ys) level (are_locals (y ∷ ys) level y each ((each.lists y).0 (front_has y ys)) none) more

  module _ (none : (e : ℕ) → IsVisibleLocal p t x o e → ⊥) where
    not_own : (e : ℕ) (r : Depth) → OwnAt e r → InScope p t space.Variable x o e r → ⊥
    not_own e r own s = none_own p rows placed t x n o lt number none e (subst (λ r. InScope p t space.Variable x o e r) own.0 s)

    as_field : (d : ℕ) → role_at p d ≡ role.Field → name_row p d ≡ n → def.Declares p space.Variable x d
    as_field d field e = record { of_kind = subst (def.IsOf space.Variable) (sym field) tt; named = named p rows placed t x n o lt number d e }

    seen_field : (c : ℕ) → IsInnermostSuch p (HasMemberAs p t kind.Field n) o c → (d : ℕ) → IsMemberAs p t kind.Field c n d → Visible p t space.Variable x o d (within c)
    seen_field c such d m = record {
      in_scope = record { scope = HasScope.member such.round m.member; declares = as_field d m.of.role_is m.of.named };
      innermost = λ e q s. inl (by e q (how e q s.scope s.declares) s);
    }
      where
        by : (e : ℕ) (q : Depth) → (OwnAt e q ⊎ MemberAt e q) ⊎ FarAt e q → InScope p t space.Variable x o e q → IsNoFurther q (within c)
        by e q (inl (inl own)) s = absurd (not_own e q own s)
        by e q (inl (inr k)) s = let le = such.innermost k.0 k.3 (record { some = e; is = is_member none k.0 e k.4 s.declares }) in let same = ap rank k.1 in IsNoFurther.by_rank (omega arith)
        by e q (inr f) s = let le = f.0 in IsNoFurther.by_rank (omega arith)

    fields_seen : (c : ℕ) → IsInnermostSuch p (HasMemberAs p t kind.Field n) o c → (found : List ℕ) (level : Option ℕ) → AreFieldsAt p t o n found level → AreVisibleAt p t space.Variable x o found level
    fields_seen c such found level fields = let are = (variables_around none found level fields).are such.such.some c (seen_field c such such.such.some such.such.is) in
        all_through found level are (λ empty. no_items found empty such.such.some (((fields.are c such).0.lists such.such.some).1 such.such.is))

    module _ (out : (c : ℕ) → InBody p c o → HasMemberAs p t kind.Field n c → ⊥) where
      far_only : (e : ℕ) (r : Depth) → InScope p t space.Variable x o e r → StaticAt e r
      far_only e r s = by (how_far e r s.scope s.declares)
        where
          by : (OwnAt e r ⊎ MemberAt e r) ⊎ StaticAt e r → StaticAt e r
          by (inl (inl own)) = absurd (not_own e r own s)
          by (inl (inr k)) = absurd (out k.0 k.3 (record { some = e; is = is_member none k.0 e k.4 s.declares }))
          by (inr f) = f

      no_level : (d : ℕ) (r : Depth) → role_at p d ≡ role.Field → r ≡ imported → level_of (role_at p d) r ≡ None
      no_level d r field e = ap (λ k. level_of k r) field ∙ ap (λ r. level_of role.Field r) e

      statics_seen : (found : List ℕ) (level : Option ℕ) → Lists found (IsStaticAt p t kind.Field o n) → level ≡ None → AreVisibleAt p t space.Variable x o found level
      statics_seen found level lists is = record {
        sound = λ d h. let s = (lists d).0 h in record {
          depth = imported;
          visible = record {
            in_scope = record { scope = HasScope.static s.imported; declares = as_field d s.of.role_is s.of.named };
            innermost = λ e q k. inl (IsNoFurther.by_rank (let same = ap rank (far_only e q k).0 in omega arith));
          };
          through = no_level d imported s.of.role_is refl ∙ sym is;
        };
        whole = λ d l v. let s = far_only d v.depth v.visible.in_scope in ((lists d).1 s.1, sym v.through ∙ no_level d v.depth s.1.of.role_is s.0 ∙ sym is);
        none = λ empty d r s. no_items found empty d ((lists d).1 (far_only d r s).1);
      }

  no_local : (locals : List ℕ) → ListsEach locals (IsVisibleLocal p t x o) → length locals ≡ 0 → (e : ℕ) → IsVisibleLocal p t x o e → ⊥
  no_local [] each empty e local = false≢true ((each.lists e).1 local)
  no_local (y ∷ ys) each empty e local = omega arith

  -- where no local is visible, fields are
  pub variables_field : (locals found : List ℕ) (level : Option ℕ) → ListsEach locals (IsVisibleLocal p t x o) → length locals ≡ 0 → AreFieldsAt p t o n found level → AreVariablesWithin p t x o found level
  variables_field locals found level each empty fields = variables_around (no_local locals each empty) found level fields

-- ---- fields by the types round the place

pub fields_around : (p : Rows) (t : Table) (o n : ℕ) (found : List ℕ) (level : Option ℕ) → AreMembersAround p t kind.Field o n found level → (length found ≡ 0 → ⊥) → AreFieldsAt p t o n found level
fields_around p t o n found level members some = record { are = λ c i. members.some c i; none = λ empty. absurd (some empty) }

module _ (p : Rows) (t : Table) (headed : IsHeaded p) (o n : ℕ) where
  abbrev is_field_as : ℕ → ℕ → Bool
  is_field_as c d = same_role (role_at p d) role.Field && (nat_eq (name_row p d) n && is_member_of p t c d)

  field_as_tells : (c d : ℕ) → Decides (is_field_as c d) (IsMemberAs p t kind.Field c n d)
  field_as_tells c d = like (both (role_tells (role_at p d) role.Field) (both (Decides-eqb (name_row p d) n) (member_tells p t headed c d)))
      (λ k. record { of = record { role_is = k.0; named = k.1.0 }; member = k.1.1 }) (λ k. (k.of.role_is, (k.of.named, k.member)))

  abbrev has_field : ℕ → Bool
  has_field c = is_in_body p c o && any_below (length p) (is_field_as c)

  has_field_tells : (c : ℕ) → Decides (has_field c) (InBody p c o × HasMemberAs p t kind.Field n c)
  has_field_tells c = both (in_body_tells p c o) (like (some (is_field_as c) (λ d. IsMemberAs p t kind.Field c n d) (field_as_tells c) (length p)
      (λ d k. bounded (λ l. role_of l ≡ role.Field) (λ e. cc) p d k.of.role_is)) (λ k. record { some = k.0; is = k.1 }) (λ k. (k.some, k.is)))

  -- of the types round the place that have a field of the name one is innermost
  innermost_has : (c : ℕ) → InBody p c o → HasMemberAs p t kind.Field n c → (h : ℕ) × IsInnermostSuch p (HasMemberAs p t kind.Field n) o h
  innermost_has c i m =
      let found = last_least has_field (length p) c (type_below p c i.of_type.type) ((has_field_tells c).1 (i, m)) in
      let last = (finds_last has_field (λ e. InBody p e o × HasMemberAs p t kind.Field n e) has_field_tells (length p) found.0).0 found.1 in
      (found.0, record { round = last.1.0; such = last.1.1; innermost = λ e j k. last.2 e (type_below p e j.of_type.type) (j, k) })

  none_has : (xs : List ℕ) → length xs ≡ 0 → (d : ℕ) → has xs d ≡ true → ⊥
  none_has [] e d h = false≢true h
  none_has (y ∷ ys) e d h = omega arith

  pub fields_far : (found other : List ℕ) (inner level : Option ℕ) → AreMembersAround p t kind.Field o n found inner → length found ≡ 0 → AreFieldsAt p t o n other level
  fields_far found other inner level members empty = record {
    are = λ c i. absurd (not_here c i);
    none = λ nothing c i m. let h = innermost_has c i m in not_here h.0 h.1;
  }
    where
      not_here : (c : ℕ) → IsInnermostSuch p (HasMemberAs p t kind.Field n) o c → ⊥
      not_here c i = none_has found empty i.such.some (((members.some c i).0.lists i.such.some).1 i.such.is)

  some_or_none : ((h : ℕ) × IsInnermostSuch p (HasMemberAs p t kind.Field n) o h) ⊎ ((c : ℕ) → InBody p c o → HasMemberAs p t kind.Field n c → ⊥)
  some_or_none = by (last_below (length p) has_field) refl
    where
      by : (f : Option ℕ) → last_below (length p) has_field ≡ f → ((h : ℕ) × IsInnermostSuch p (HasMemberAs p t kind.Field n) o h) ⊎ ((c : ℕ) → InBody p c o → HasMemberAs p t kind.Field n c → ⊥)
      by (Some h) e = let last = (finds_last has_field (λ e. InBody p e o × HasMemberAs p t kind.Field n e) has_field_tells (length p) h).0 e in
          inl (h, record { round = last.1.0; such = last.1.1; innermost = λ e j k. last.2 e (type_below p e j.of_type.type) (j, k) })
      by None e = inr (λ c i m. let f = last_least has_field (length p) c (type_below p c i.of_type.type) ((has_field_tells c).1 (i, m)) in none-some f.0 (sym e ∙ f.1))

  pub far_none : (found : List ℕ) (level : Option ℕ) → AreMembersAround p t kind.Field o n found level → (length found ≡ 0 → ⊥) → AreStaticFar p t o n found level
  far_none found level members more = record { are = λ out. absurd (more (ap length (members.none (λ c i. out c i.round i.such)).0)) }

  pub variables_all : (rows : IsLocal p) (placed : AreLocalsPlaced p) (x : Text) (lt : o < length p) (number : IsNumberOf p n x) (locals found : List ℕ) (level : Option ℕ) → ListsEach locals (IsVisibleLocal p t x o) → length locals ≡ 0
      → AreFieldsAt p t o n found level → AreStaticFar p t o n found level → AreVisibleAt p t space.Variable x o found level
  variables_all rows placed x lt number locals found level each empty fields far =
      let none = no_local p rows placed t x n o lt number locals each empty in
      ⊎_elim (λ s. fields_seen p rows placed t x n o lt number none s.0 s.1 found level fields) (λ out. let are = far.are out in statics_seen p rows placed t x n o lt number none out found level are.0 are.1) some_or_none
