-- Static contexts and instances, by the rows over a place (JLS 8.1.3).
use Rattle.std.proofs.Common.{◌≡◌, ◌⊎◌, refl, sym, ◌∙◌, ap, subst, inl, inr, ⊎_elim, arith, ℕ, ◌+◌, ◌<◌, ◌≤◌, Bool, true, false, cond, ◌&&◌, ◌||◌, length, Option, Some, None, slice_index_or, Decides}
use Rattle.std.specs.Option.{option_map_or}
use Rattle.std.proofs.lemmas.Bool.{false≢true, false_from_ne_true, cases_eq, cases_lt, cases_order}
use Rattle.std.proofs.lemmas.Bool.Decides.{Decides-ltb}
use Rattle.std.proofs.lemmas.List.{get_or_past}
use Rattle.std.proofs.lemmas.Option.{none-some, same_Some}
use Rattle.jr_tree.specs.declared.label.Role.{Role}
use Rattle.jr_tree.specs.declared.label.Role.TheVariants as role
use Rattle.jr_tree.specs.Rows.{Rows, label, parent, end, role_at}
use Rattle.jr_tree.specs.Tree.{IsTree}
use Rattle.jr_defs.specs.Enclosing.{BodyOf, InBody, Innermost, DeclaredIn, holder}
use Rattle.jr_defs.specs.Modifiers.{IsInner}
use Rattle.jr_defs.specs.Instances.{is_static_code, InStaticContext, HasInstance}
use Rattle.jr_plain.specs.Search.{Finds}
use Rattle.jr_plain.specs.Declarations.{is_interface}
use Rattle.jr_plain.specs.Enclosing as enclosing
use Rattle.jr_plain.specs.Modifiers.{is_inner}
use Rattle.jr_plain.specs.Instances as plain
use Rattle.jr_plain.proofs.Tests.{itself, both, like}
use Rattle.jr_plain.proofs.Searches.{some}
use Rattle.jr_plain.proofs.Bounds.{body_below, parent_past}
use Rattle.jr_plain.proofs.Enclosed.{most, body_tells, innermost_finds, declaring_finds}
use Rattle.jr_plain.proofs.Modified.{inner_tells}
use Rattle.jr_plain.proofs.Instanced.{static_context_tells, instance_tells}
use Rattle.jr_places.specs.Tabulated.{tabulated}
use Rattle.jr_places.proofs.Tables.{length-tabulated, tabulated_at}
use Rattle.jr_places.specs.declared.places.Places.{Places}
use Rattle.jr_places.proofs.Rounding.{one_found, all_innermost}
use Rattle.jr_members.specs.Sources.{ArePlaced}
use Rattle.jr_lookup.specs.Instances.{IsMemberRound, IsUp, IsInstanceRound, unless, enclosing_class, IsOut, IsSeeking}
use Rattle.jr_lookup.proofs.Outward.{body_down, in_body_down}

-- ---- the innermost type

none_past : (p : Rows) (tree : IsTree p) (o : ℕ) → length p ≤ o → Finds None (λ c. Innermost p o c)
none_past p tree o le c = (λ e. absurd (none-some c e), λ h. let last = tree.last h.holds.body (body_below p c h.holds.body h.holds.of_type) in let before = h.holds.before in absurd (omega arith))

-- the table has the innermost type round each place
pub around_is : (p : Rows) (places : Places) → ArePlaced p places → (o : ℕ) → slice_index_or places.arounds.items o None ≡ enclosing.innermost p o
around_is p places placed o = ap (λ all. slice_index_or all o None) (placed.are.arounds_are ∙ all_innermost p (length p) placed.local.tree (omega arith)) ∙ by (cases_lt o (length p))
  where
    size_past : length p ≤ o → length (tabulated (enclosing.innermost p) (length p)) ≤ o
    size_past le = let size = length-tabulated (enclosing.innermost p) (length p) in omega arith

    by : ((o < length p) ⊎ (length p ≤ o)) → slice_index_or (tabulated (enclosing.innermost p) (length p)) o None ≡ enclosing.innermost p o
    by (inl lt) = tabulated_at (enclosing.innermost p) None (length p) o lt
    by (inr le) = get_or_past (tabulated (enclosing.innermost p) (length p)) o None (size_past le) ∙ one_found (λ c. Innermost p o c) None (enclosing.innermost p o) (none_past p placed.local.tree o le) (innermost_finds p o)

-- ---- the member that holds the place

module _ (p : Rows) (tree : IsTree p) where
  pub up_start : (o c : ℕ) (i : InBody p c o) → IsUp p o i.body 0 o
  up_start o c i = record { from = omega arith; before = tree.nested o; below = i.after; few = omega arith }

  pub up_next : (o c turn here next : ℕ) (i : InBody p c o) → IsUp p o i.body turn here → enclosing.is_body_of p c (parent p here) ≡ false → next ≡ parent p here → IsUp p o i.body (turn + 1) next
  up_next o c turn here next i u apart_from e = subst (IsUp p o i.body (turn + 1)) (sym e) (record {
    from = let a = up in let b = u.from in omega arith;
    before = let a = u.before in let b = ends in omega arith;
    below = below;
    few = let a = up in let b = u.few in omega arith;
  })
    where
      inside : here < end p i.body
      inside = let a = u.from in let b = i.before in omega arith

      lt : here < length p
      lt = let last = tree.last i.body (body_below p c i.body i.of_type) in let b = inside in omega arith

      up : parent p here < here
      up = let b = u.below in tree.up here lt (omega arith)

      apart : i.body ≡ parent p here → ⊥
      apart same = false≢true (sym apart_from ∙ (body_tells p c (parent p here)).1 (subst (BodyOf p c) same i.of_type))

      below : i.body < parent p here
      below = let low = tree.inner i.body here u.below inside in ⊎_elim (λ same. absurd (apart same)) (λ more. omega arith) (cases_eq i.body (parent p here))

      ends : end p here ≤ end p (parent p here)
      ends = let b = u.below in tree.apart (parent p here) here up (tree.held here lt (omega arith))

  -- two members of bodies of one type do not hold one place
  not_inside : (o c m k : ℕ) → IsMemberRound p o c m → IsMemberRound p o c k → m < k → ⊥
  not_inside o c m k h i lt =
      let a = h.before in let b = i.from in
      let one = body_down p tree c (parent p m) h.of_type in
      let two = body_below p c (parent p m) h.of_type in
      let three = body_below p c (parent p k) i.of_type in
      let four = body_down p tree c (parent p k) i.of_type in
      let low = tree.inner m k lt (omega arith) in
      ⊎_elim (λ same. let is = sym (ap (parent p) same ∙ i.of_type.inside) in absurd (omega arith))
      (λ apart. let inner = tree.inner m (parent p k) (omega arith) (under three) in let is = i.of_type.inside in let up = up_of two in absurd (omega arith)) (cases_eq m (parent p k))
    where
      in_rows : (n b : ℕ) → parent p n ≡ b → b < length p → n < length p
      in_rows n b e less = ⊎_elim (λ l. l) (λ le. let past = parent_past p n le in absurd (omega arith)) (cases_lt n (length p))

      under : parent p k < length p → parent p k < end p m
      under less = let a = h.before in let b = i.from in let up = tree.up k (in_rows k (parent p k) refl less) (omega arith) in omega arith

      up_of : parent p m < length p → parent p m < m
      up_of less = ⊎_elim (λ same. let down = body_down p tree c (parent p m) h.of_type in let root = ap (parent p) same ∙ tree.root in absurd (omega arith)) (λ apart. tree.up m (in_rows m (parent p m) refl less) (omega arith)) (cases_eq m 0)

  pub one_member : (o c m k : ℕ) → IsMemberRound p o c m → IsMemberRound p o c k → m ≡ k
  one_member o c m k h i = ⊎_elim (λ e. e) (⊎_elim (λ lt. absurd (not_inside o c m k h i lt)) (λ lt. absurd (not_inside o c k m i h lt))) (cases_order m k)

  pub member_found : (o c turn here : ℕ) (i : InBody p c o) → IsUp p o i.body turn here → enclosing.is_body_of p c (parent p here) ≡ true → Finds (Some here) (IsMemberRound p o c)
  member_found o c turn here i u is_body m = (λ e. subst (IsMemberRound p o c) (same_Some here m e) found, λ h. ap Some (one_member o c here m found h))
    where
      found : IsMemberRound p o c here
      found = record { of_type = (body_tells p c (parent p here)).0 is_body; from = u.from; before = u.before }

  pub up_ends : (o body turn here : ℕ) → IsUp p o body turn here → o ≤ turn → ⊥
  up_ends o body turn here u le = let few = u.few in let below = u.below in omega arith

-- ---- static contexts

-- two tests of one thing are equal
pub same_tests : (a b : Bool) (P : Type 0) → Decides a P → Decides b P → a ≡ b
same_tests true b P f g = sym (g.1 (f.0 refl))
same_tests false b P f g = sym (false_from_ne_true b (λ e. false≢true (f.1 (g.0 e))))

module _ (p : Rows) (o c : ℕ) where
  -- the code of the member is static, or the type is an interface
  abbrev pub is_static_member : ℕ → Bool
  is_static_member m = is_static_code (label p m) || is_interface p c

  round_tells : (m : ℕ) → Decides (plain.is_member_round p o c m) (IsMemberRound p o c m)
  round_tells m = like (both (both (body_tells p c (parent p m)) (most m o)) (Decides-ltb o (end p m))) (λ h. record { of_type = h.0.0; from = h.0.1; before = h.1 }) (λ h. ((h.of_type, h.from), h.before))

  row_of : (m : ℕ) → IsMemberRound p o c m → m < length p
  row_of m h = ⊎_elim (λ l. l) (λ le. let past = parent_past p m le in let less = body_below p c (parent p m) h.of_type in absurd (omega arith)) (cases_lt m (length p))

  some_static : Decides (plain.is_static_in p o c) ((m : ℕ) × (IsMemberRound p o c m × (is_static_member m ≡ true)))
  some_static = some (λ m. plain.is_member_round p o c m && is_static_member m) (λ m. IsMemberRound p o c m × (is_static_member m ≡ true)) (λ m. both (round_tells m) (itself (is_static_member m))) (length p) (λ m h. row_of m h.0)

  pub static_some : (m : ℕ) (b : Bool) → Finds (Some m) (IsMemberRound p o c) → b ≡ is_static_member m → b ≡ plain.is_static_in p o c
  static_some m b finds e = e ∙ same_tests (is_static_member m) (plain.is_static_in p o c) _
      ((λ h. (m, ((finds m).0 refl, h))), (λ h. subst (λ k. is_static_member k ≡ true) (sym (same_Some m h.0 ((finds h.0).1 h.1.0))) h.1.1)) some_static

  pub static_none : Finds None (IsMemberRound p o c) → false ≡ plain.is_static_in p o c
  static_none finds = sym (false_from_ne_true _ (λ h. let s = some_static.0 h in none-some s.0 ((finds s.0).1 s.1.0)))

pub context_in : (p : Rows) (o c : ℕ) (b : Bool) → enclosing.innermost p o ≡ Some c → b ≡ plain.is_static_in p o c → b ≡ plain.is_in_static_context p o
context_in p o c b e h = h ∙ sym (ap (λ f. option_map_or (λ c. plain.is_static_in p o c) f false) e)

pub context_none : (p : Rows) (o : ℕ) → enclosing.innermost p o ≡ None → false ≡ plain.is_in_static_context p o
context_none p o e = sym (ap (λ f. option_map_or (λ c. plain.is_static_in p o c) f false) e)

-- ---- instances

module _ (p : Rows) (o : ℕ) where
  not_static : (c : ℕ) → HasInstance p o c → InStaticContext p o → ⊥
  not_static c (HasInstance.here i out) = out
  not_static c (HasInstance.around {b = b} h inner d) = not_static b h

  out_more : {h b c : ℕ} → IsOut p h b → IsInner p b → DeclaredIn p c b → IsOut p h c
  out_more IsOut.here inner d = IsOut.further inner d IsOut.here
  out_more (IsOut.further i k rest) inner d = IsOut.further i k (out_more rest inner d)

  out_of : (c : ℕ) → HasInstance p o c → (h : ℕ) × Innermost p o h × IsOut p h c
  out_of c (HasInstance.here i out) = (c, i, IsOut.here)
  out_of c (HasInstance.around {b = b} h inner d) = let r = out_of b h in (r.0, r.1, out_more r.2 inner d)

  pub never_static : (c : ℕ) (b : Bool) → true ≡ plain.is_in_static_context p o → b ≡ false → b ≡ plain.has_instance p o c
  never_static c b static e = e ∙ sym (false_from_ne_true _ (λ h. not_static c ((instance_tells p o c).0 h) ((static_context_tells p o).0 (sym static))))

module _ (p : Rows) (tree : IsTree p) (o c : ℕ) where
  -- the class that declares a member stands before it
  declared_down : (e h : ℕ) → DeclaredIn p e h → e < h
  declared_down e h d = let down = body_down p tree e (holder (role_at p h) p h) d.inside in let up = held_up (role_at p h) in omega arith
    where
      up_or : (n : ℕ) → parent p n ≤ n
      up_or n = ⊎_elim (λ lt. ⊎_elim (λ same. let root = ap (parent p) same ∙ tree.root in omega arith) (λ apart. let up = tree.up n lt (omega arith) in omega arith) (cases_eq n 0))
          (λ le. let past = parent_past p n le in omega arith) (cases_lt n (length p))

      held_up : (r : Role) → holder r p h ≤ h
      held_up role.Field = let one = up_or h in let two = up_or (parent p h) in omega arith
      held_up _ = up_or h

  pub seek_start : (around : Option ℕ) → around ≡ enclosing.innermost p o → false ≡ plain.is_in_static_context p o → IsSeeking p o c 0 around
  seek_start around e out = record {
    sound = λ h is. HasInstance.here ((innermost_finds p o h).0 (sym e ∙ is)) (λ s. false≢true (out ∙ (static_context_tells p o).1 s));
    told = λ i. let r = out_of p o c i in (r.0, e ∙ (innermost_finds p o r.0).1 r.1, r.2);
    few = λ h is. let lt = in_body_down p tree h o ((innermost_finds p o h).0 (sym e ∙ is)).holds in omega arith;
  }

  enclosed : (h e : ℕ) → enclosing_class p h ≡ Some e → IsInner p h × DeclaredIn p e h
  enclosed h e is = by (is_inner p h) refl is
    where
      by : (b : Bool) → is_inner p h ≡ b → cond b (enclosing.declaring_type p h) None ≡ Some e → IsInner p h × DeclaredIn p e h
      by true inner same = ((inner_tells p h).0 inner, (declaring_finds p h e).0 same)
      by false inner same = absurd (none-some e same)

  enclosing_is : (h e : ℕ) → IsInner p h → DeclaredIn p e h → enclosing_class p h ≡ Some e
  enclosing_is h e inner d = ap (λ b. cond b (enclosing.declaring_type p h) None) ((inner_tells p h).1 inner) ∙ (declaring_finds p h e).1 d

  pub seek_next : (turn h : ℕ) (around next : Option ℕ) → IsSeeking p o c turn around → around ≡ Some h → (h ≡ c → ⊥) → next ≡ enclosing_class p h → IsSeeking p o c (turn + 1) next
  seek_next turn h around next s here apart e = record {
    sound = λ g is. let k = enclosed h g (sym e ∙ is) in HasInstance.around (s.sound h here) k.0 k.1;
    told = λ i. let r = s.told i in further apart (subst (λ g. IsOut p g c) (same_Some r.0 h (sym r.1 ∙ here)) r.2);
    few = λ g is. let lt = declared_down g h (enclosed h g (sym e ∙ is)).1 in let less = s.few h here in omega arith;
  }
    where
      further : {k : ℕ} → (h ≡ k → ⊥) → IsOut p h k → (g : ℕ) × (next ≡ Some g) × IsOut p g k
      further differs IsOut.here = absurd (differs refl)
      further differs (IsOut.further {e = g} inner d rest) = (g, e ∙ enclosing_is h g inner d, rest)

  pub seek_found : (turn h : ℕ) (around : Option ℕ) → IsSeeking p o c turn around → around ≡ Some h → h ≡ c → true ≡ plain.has_instance p o c
  seek_found turn h around s here same = sym ((instance_tells p o c).1 (subst (HasInstance p o) same (s.sound h here)))

  pub seek_none : (turn : ℕ) (around : Option ℕ) → IsSeeking p o c turn around → around ≡ None → false ≡ plain.has_instance p o c
  seek_none turn around s none = sym (false_from_ne_true _ (λ h. let r = s.told ((instance_tells p o c).0 h) in none-some r.0 (sym none ∙ r.1)))

  pub seek_short : (turn : ℕ) (around : Option ℕ) → IsSeeking p o c turn around → o ≤ turn → false ≡ plain.has_instance p o c
  seek_short turn around s lt = sym (false_from_ne_true _ (λ h. let r = s.told ((instance_tells p o c).0 h) in let few = s.few r.0 r.1 in absurd (omega arith)))

-- ---- the innermost class with an instance

pub round_some : (p : Rows) (o a : ℕ) (b : Bool) (found : Option ℕ) → enclosing.innermost p o ≡ Some a → b ≡ plain.is_in_static_context p o → found ≡ unless b a → Finds found (IsInstanceRound p o)
round_some p o a true found e static is c = (λ same. absurd (none-some c (sym is ∙ same)), λ h. absurd (not_static p o c h.instance ((static_context_tells p o).0 (sym static))))
round_some p o a false found e out is c = (
  λ same. subst (IsInstanceRound p o) (same_Some a c (sym is ∙ same)) (record { innermost = (innermost_finds p o a).0 e; instance = HasInstance.here ((innermost_finds p o a).0 e) (λ s. false≢true (out ∙ (static_context_tells p o).1 s)) }),
  λ h. is ∙ sym e ∙ (innermost_finds p o c).1 h.innermost,
)

pub round_none : (p : Rows) (o : ℕ) → enclosing.innermost p o ≡ None → Finds None (IsInstanceRound p o)
round_none p o e c = (λ same. absurd (none-some c same), λ h. absurd (none-some c (sym e ∙ (innermost_finds p o c).1 h.innermost)))
