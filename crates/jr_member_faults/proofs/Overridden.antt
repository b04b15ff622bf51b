-- Methods by their signatures, and what a method overrides and hides among those of its own.
use Rattle.std.proofs.Common.{◌≡◌, refl, sym, ◌∙◌, ap, ap₂, subst, inr, ℕ, Bool, true, false, cond, ◌&&◌, List, [], filter, flat_map, length, Option, Some, None, option_map, nat_eq, Decides}
use Rattle.std.proofs.lemmas.Bool.{false≢true}
use Rattle.std.proofs.lemmas.Bool.Decides.{Decides-eqb}
use Rattle.std.proofs.lemmas.Option.{none-some, same_Some}
use Rattle.jr_tree.specs.declared.label.Role.{Role}
use Rattle.jr_tree.specs.declared.label.Role.TheVariants as role
use Rattle.jr_tree.specs.Rows.{Rows, role_at}
use Rattle.jr_defs.specs.Referents.{Table}
use Rattle.jr_defs.specs.Enclosing.{DeclaredIn}
use Rattle.jr_defs.specs.Supertypes.{Above, AtOrAbove}
use Rattle.jr_defs.specs.Members.{SameMethods}
use Rattle.jr_defs.specs.Overriding.{Overrides}
use Rattle.jr_defs.specs.MemberRules.{Hides, RedefinesMethod}
use Rattle.jr_plain.specs.Search.{has, Lists}
use Rattle.jr_plain.specs.Headed.{IsHeaded}
use Rattle.jr_plain.specs.Enclosing.{declaring_type}
use Rattle.jr_plain.specs.Same.{same_role}
use Rattle.jr_plain.specs.Modifiers.{is_static}
use Rattle.jr_plain.specs.Overriding.{is_method, overriding}
use Rattle.jr_plain.proofs.Tests.{both, like}
use Rattle.jr_plain.proofs.Searches.{among_filter, flat_of}
use Rattle.jr_plain.proofs.Bounds.{member_below}
use Rattle.jr_plain.proofs.Same.{role_tells}
use Rattle.jr_plain.proofs.Enclosed.{declaring_finds, declared_in_tells}
use Rattle.jr_plain.proofs.Modified.{static_tells}
use Rattle.jr_plain.proofs.Membership.{same_methods_tells}
use Rattle.jr_plain.proofs.Dispatched.{overrides_tells}
use Rattle.jr_plain.proofs.Typed.{signature_tells}
use Rattle.jr_places.specs.declared.chains.Entry.{Entry}
use Rattle.jr_supers.specs.declared.signatures.Signatures.{Signatures}
use Rattle.jr_supers.specs.Signatures.{same_numbers, AreSignatures}
use Rattle.jr_supers.specs.Tabled.{is_callable}
use Rattle.jr_supers.proofs.Signed.{same_signatures}
use Rattle.jr_supers.proofs.Subtyped.{one_test}
use Rattle.jr_members.specs.Keys.{falling, is_declared_like, entry_for, entries_of, signature_number}
use Rattle.jr_members.specs.Named.{under}
use Rattle.jr_members.proofs.Declaring.{falling_lists}
use Rattle.jr_members.proofs.Heritage.{one_type}
use Rattle.jr_dispatch.specs.Families.{declared_like, IsLikeAbove}
use Rattle.jr_dispatch.specs.declared.dispatch.Methods as methods
use Rattle.jr_dispatch.specs.Methods.{AreMethods}
use Rattle.jr_dispatch.proofs.Overriding.{overrides_above}
use Rattle.jr_member_rules.specs.Redefining as plain
use Rattle.jr_member_rules.proofs.Redefined.{method_row, hiding_tells, redefines_tells}
use Rattle.jr_member_faults.proofs.Entries.{entries_tell}
use Rattle.jr_member_faults.proofs.Lefts.{same_back}
use Rattle.jr_member_faults.specs.Redefined.{number_entry, AreLike, is_reached}

-- ---- methods by their signatures

module _ (p : Rows) (s : Signatures) where
  numbered : (d x : ℕ) → role_at p d ≡ role.Method → signature_number s d ≡ Some x → number_entry p s d ≡ Some (entry_for x 0 d)
  numbered d x method e = ap₂ (λ (r : Role) o. cond (same_role r role.Method) (option_map (λ n. entry_for n 0 d) o) None) method e

  numbered_row : (d : ℕ) (e : Entry) → number_entry p s d ≡ Some e → e.row ≡ d
  numbered_row d e = by (same_role (role_at p d) role.Method) (signature_number s d)
    where
      by : (b : Bool) (o : Option ℕ) → cond b (option_map (λ n. entry_for n 0 d) o) None ≡ Some e → e.row ≡ d
      by false o h = absurd (none-some e h)
      by true None h = absurd (none-some e h)
      by true (Some n) h = ap (λ x. x.row) (sym (same_Some (entry_for n 0 d) e h))

  numbered_tells : (d x : ℕ) (e : Entry) → number_entry p s d ≡ Some e → e.first ≡ x → (role_at p d ≡ role.Method) × (signature_number s d ≡ Some x)
  numbered_tells d x e h first = by (same_role (role_at p d) role.Method) (signature_number s d) refl refl h
    where
      by : (b : Bool) (o : Option ℕ) → same_role (role_at p d) role.Method ≡ b → signature_number s d ≡ o → cond b (option_map (λ n. entry_for n 0 d) o) None ≡ Some e → (role_at p d ≡ role.Method) × (signature_number s d ≡ Some x)
      by false o is number h = absurd (none-some e h)
      by true None is number h = absurd (none-some e h)
      by true (Some n) is number h = ((role_tells (role_at p d) role.Method).0 is, number ∙ ap Some (ap (λ k. k.first) (same_Some (entry_for n 0 d) e h) ∙ first))

  numbers_tell : (x d : ℕ) → Decides (has (under (entries_of (number_entry p s) (length p)) x 0) d) ((role_at p d ≡ role.Method) × (signature_number s d ≡ Some x))
  numbers_tell x d = like (entries_tell (number_entry p s) numbered_row x 0 (length p) d)
      (λ h. numbered_tells d x h.1.0 h.1.1 h.1.2.0) (λ h. (method_row p d h.0, (entry_for x 0 d, numbered d x h.0 h.1, (refl, refl))))

-- ---- methods of one signature

pub numbers_then : (n r : Option ℕ) (x : ℕ) → n ≡ Some x → same_numbers n r ≡ true → r ≡ Some x
numbers_then None r x e h = absurd (none-some x e)
numbers_then (Some n) None x e h = absurd (false≢true h)
numbers_then (Some n) (Some r) x e h = ap Some (sym ((Decides-eqb n r).0 h)) ∙ e

numbers_none : (n r : Option ℕ) → n ≡ None → same_numbers n r ≡ true → ⊥
numbers_none None r e h = false≢true h
numbers_none (Some n) r e h = none-some n (sym e)

numbers_same : (n r : Option ℕ) (x : ℕ) → n ≡ Some x → r ≡ Some x → same_numbers n r ≡ true
numbers_same None r x e f = absurd (none-some x e)
numbers_same (Some n) None x e f = absurd (none-some x f)
numbers_same (Some n) (Some r) x e f = (Decides-eqb n r).1 (same_Some n x e ∙ sym (same_Some r x f))

module _ (p : Rows) (t : Table) (headed : IsHeaded p) where
  pub redefined_same : (m k : ℕ) → RedefinesMethod p t m k → SameMethods p t m k
  redefined_same m k (RedefinesMethod.overriding h) = let a = overrides_above p t m k h in a.signatures
  redefined_same m k (RedefinesMethod.hiding h) = h.signatures

  pub redefines_plain : (m k : ℕ) → Decides (plain.redefines p t (overriding p t) m k) (RedefinesMethod p t m k)
  redefines_plain m k = redefines_tells p t headed (overriding p t) (overrides_tells p t headed) m k

  -- ---- the declared ones of types above

  pub like_listed : (c m : ℕ) → role_at p m ≡ role.Method → Lists (falling (length p) (is_declared_like p t c m)) (λ e. DeclaredIn p c e × SameMethods p t e m)
  like_listed c m method = falling_lists (is_declared_like p t c m) (λ e. DeclaredIn p c e × SameMethods p t e m) (length p)
      (λ e. like (both (role_tells (role_at p e) role.Method) (both (declared_in_tells p c e) (signature_tells p t e m headed.tree)))
      (λ h. (h.1.0, record { first = h.0; second = method; signature = h.1.1 })) (λ k. (k.1.first, (k.0, k.1.signature))))
      (λ e k. member_below p e k.0.member)

  above_listed : (c m : ℕ) (overs given all : List ℕ) → role_at p m ≡ role.Method → given ≡ overs → Lists overs (AtOrAbove p t c) → all ≡ flat_map (declared_like p t m) given → Lists all (IsLikeAbove p t c m)
  above_listed c m overs given all method same lists is = subst (λ xs. Lists xs (IsLikeAbove p t c m)) (sym (is ∙ ap (λ xs. flat_map (declared_like p t m) xs) same))
      (λ k. like (flat_of nat_eq (declared_like p t m) overs lists k)
      (λ h. let own = (like_listed h.0 m method k).0 h.2 in record { over = h.0; above = h.1; declared = own.0; same = own.1 })
      (λ h. (h.over, h.above, (like_listed h.over m method k).1 (h.declared, h.same))))

  of_upper : (c m k : ℕ) → DeclaredIn p c m → RedefinesMethod p t m k → IsLikeAbove p t c m k
  of_upper c m k declared (RedefinesMethod.overriding h) = let a = overrides_above p t m k h in record {
    over = a.upper;
    above = inr (subst (λ z. Above p t z a.upper) (one_type p a.type c m a.declared declared) a.above);
    declared = a.declares;
    same = same_back p t m k a.signatures;
  }
  of_upper c m k declared (RedefinesMethod.hiding h) = record {
    over = h.upper;
    above = inr (subst (λ z. Above p t z h.upper) (one_type p h.type c m h.declared declared) h.above);
    declared = h.declares;
    same = same_back p t m k h.signatures;
  }

  pub like_told : (c m : ℕ) (overs given all : List ℕ) → role_at p m ≡ role.Method → DeclaredIn p c m → given ≡ overs → Lists overs (AtOrAbove p t c) → all ≡ flat_map (declared_like p t m) given → AreLike p t m all
  like_told c m overs given all method declared same lists is = let listed = above_listed c m overs given all method same lists is in record {
    same = λ k h. same_back p t k m ((listed k).0 h).same;
    whole = λ k h. (listed k).1 (of_upper c m k declared h);
  }

  redefined_in : (m k : ℕ) → RedefinesMethod p t m k → (c : ℕ) × DeclaredIn p c m
  redefined_in m k (RedefinesMethod.overriding h) = let a = overrides_above p t m k h in (a.type, a.declared)
  redefined_in m k (RedefinesMethod.hiding h) = (h.type, h.declared)

  -- a method that no type declares
  pub like_undeclared : (m : ℕ) (all : List ℕ) → declaring_type p m ≡ None → all ≡ [] → AreLike p t m all
  like_undeclared m all none is = record {
    same = λ k h. absurd (false≢true (subst (λ xs. has xs k ≡ true) is h));
    whole = λ k h. let own = redefined_in m k h in absurd (none-some own.0 (sym none ∙ (declaring_finds p m own.0).1 own.1));
  }

  -- ---- by the number of the signature

  module _ (s : Signatures) (signed : AreSignatures p t s) (m : ℕ) (method : role_at p m ≡ role.Method) where
    pub same_numbered : (k : ℕ) → SameMethods p t m k → same_numbers (signature_number s m) (signature_number s k) ≡ true
    same_numbered k h = same_signatures p t s m k signed (ap is_callable h.first) (ap is_callable h.second) ∙ (signature_tells p t m k headed.tree).1 h.signature

    pub like_unsigned : (all : List ℕ) → signature_number s m ≡ None → all ≡ [] → AreLike p t m all
    like_unsigned all none is = record {
      same = λ k h. absurd (false≢true (subst (λ xs. has xs k ≡ true) is h));
      whole = λ k h. absurd (numbers_none (signature_number s m) (signature_number s k) none (same_numbered k (redefined_same m k h)));
    }

    module _ (x : ℕ) (is : signature_number s m ≡ Some x) where
      one_signature : (k : ℕ) → role_at p k ≡ role.Method → signature_number s k ≡ Some x → SameMethods p t m k
      one_signature k of e = record {
        first = method;
        second = of;
        signature = (signature_tells p t m k headed.tree).0 (sym (same_signatures p t s m k signed (ap is_callable method) (ap is_callable of)) ∙ numbers_same (signature_number s m) (signature_number s k) x is e);
      }

      all_numbered : AreLike p t m (under (entries_of (number_entry p s) (length p)) x 0)
      all_numbered = record {
        same = λ k h. let one = (numbers_tell p s x k).0 h in one_signature k one.0 one.1;
        whole = λ k h. let k_same = redefined_same m k h in (numbers_tell p s x k).1 (k_same.second, numbers_then (signature_number s m) (signature_number s k) x is (same_numbered k k_same));
      }

      -- all methods of the signature
      pub like_numbered : (all : List Entry) (given : List ℕ) → all ≡ entries_of (number_entry p s) (length p) → given ≡ under all x 0 → AreLike p t m given
      like_numbered all given all_is same = subst (λ xs. AreLike p t m xs) (sym (same ∙ ap (λ l. under l x 0) all_is)) all_numbered

  -- ---- of two methods of one signature

  module _ (m k : ℕ) (same : SameMethods p t m k) where
    pub hides_by : (is : Bool) → is_static p m ≡ true → is ≡ is_reached p t m k → Decides is (RedefinesMethod p t m k)
    hides_by is static e = like (subst (λ b. Decides b (Hides p t m k)) (sym hiding) (hiding_tells p t headed m k)) (λ h. RedefinesMethod.hiding h) out
      where
        hiding : is ≡ plain.is_hiding p t m k
        hiding = e ∙ sym (ap₂ (λ a b. a && (b && is_reached p t m k)) static ((same_methods_tells p t headed m k).1 same))

        out : RedefinesMethod p t m k → Hides p t m k
        out (RedefinesMethod.overriding h) = let a = overrides_above p t m k h in absurd (a.instance ((static_tells p m).0 static))
        out (RedefinesMethod.hiding h) = h

    pub overrides_by : (is : Bool) → is_static p m ≡ false → Decides is (Overrides p t m k) → Decides is (RedefinesMethod p t m k)
    overrides_by is instance d = like d (λ h. RedefinesMethod.overriding h) out
      where
        out : RedefinesMethod p t m k → Overrides p t m k
        out (RedefinesMethod.overriding h) = h
        out (RedefinesMethod.hiding h) = absurd (false≢true (sym instance ∙ (static_tells p m).1 h.static))

  pub redefines_is : (m k : ℕ) (is : Bool) → Decides is (RedefinesMethod p t m k) → is ≡ plain.redefines p t (overriding p t) m k
  redefines_is m k is d = one_test is (plain.redefines p t (overriding p t) m k) (RedefinesMethod p t m k) d (redefines_plain m k)

  -- ---- all that a method overrides or hides

  pub like_redefined : (m : ℕ) (like_all given all : List ℕ) → AreLike p t m like_all → given ≡ like_all → all ≡ filter (plain.redefines p t (overriding p t) m) given → Lists all (RedefinesMethod p t m)
  like_redefined m like_all given all h same is = subst (λ xs. Lists xs (RedefinesMethod p t m)) (sym (is ∙ ap (λ xs. filter (plain.redefines p t (overriding p t) m) xs) same))
      (λ k. like (among_filter nat_eq Decides-eqb (plain.redefines p t (overriding p t) m) like_all k) (λ r. (redefines_plain m k).0 r.1) (λ r. (h.whole k r, (redefines_plain m k).1 r)))

  pub none_redefined : (m : ℕ) (all : List ℕ) → is_method p m ≡ false → all ≡ [] → Lists all (RedefinesMethod p t m)
  none_redefined m all none is k = (
    λ h. absurd (false≢true (subst (λ xs. has xs k ≡ true) is h)),
    λ h. let same = redefined_same m k h in absurd (false≢true (sym none ∙ (role_tells (role_at p m) role.Method).1 same.first)),
  )

-- what the methods of a world tell of overriding, over its rows
pub overriding_in : (t : Table) (all : methods.Methods) (p : Rows) → all.under.rows.now ≡ p → AreMethods all.under.rows.now t all → (m k : ℕ) → SameMethods p t m k → (is : Bool)
    → (AreMethods all.under.rows.now t all → role_at all.under.rows.now m ≡ role.Method → role_at all.under.rows.now k ≡ role.Method → Decides is (Overrides all.under.rows.now t m k)) → Decides is (Overrides p t m k)
overriding_in t all p same are m k h is tells = subst (λ q. Decides is (Overrides q t m k)) same (tells are (subst (λ q. role_at q m ≡ role.Method) (sym same) h.first) (subst (λ q. role_at q k ≡ role.Method) (sym same) h.second))
