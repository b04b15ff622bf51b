-- What types declare, under keys.
use Rattle.std.proofs.Common.{◌≡◌, refl, sym, ◌∙◌, ap, ap₂, subst, ⊎_elim, inl, inr, arith, add-one, ℕ, zero, suc, ◌+◌, ◌<◌, Bool, true, false, cond, ◌&&◌, ◌||◌, List, [], ◌∷◌, ◌++◌, append-nil, length, Option, Some, None, is_some, option_map, nat_eq, slice_index_or, Decides}
use Rattle.std.proofs.lemmas.Bool.{false≢true, or_left, or_right, or_cases, cases_eq, and_parts}
use Rattle.std.proofs.lemmas.Bool.Decides.{Decides-eqb}
use Rattle.std.proofs.lemmas.Option.{none-some, same_Some}
use Rattle.jr_tree.specs.declared.label.Role.{Role}
use Rattle.jr_tree.specs.declared.label.Role.TheVariants as role
use Rattle.jr_tree.specs.Rows.{Rows, role_at}
use Rattle.jr_defs.specs.Referents.{Table}
use Rattle.jr_defs.specs.Enclosing.{DeclaredIn, ConstructorOf}
use Rattle.jr_plain.specs.Search.{has, any_below, Lists, Finds}
use Rattle.jr_plain.specs.Same.{same_role}
use Rattle.jr_plain.specs.Enclosing.{is_declared_in, declaring_type, is_constructor_of, constructed_class}
use Rattle.jr_plain.specs.Types.{is_same_signature}
use Rattle.jr_plain.proofs.Tests.{itself, both, like}
use Rattle.jr_plain.proofs.Same.{role_tells}
use Rattle.jr_plain.proofs.Bounds.{member_below}
use Rattle.jr_plain.proofs.Enclosed.{declared_in_tells, declaring_finds, constructor_tells, constructed_finds}
use Rattle.jr_places.specs.declared.chains.Entry.{Entry}
use Rattle.jr_places.specs.Names.{name_row}
use Rattle.jr_supers.specs.declared.signatures.Signatures.{Signatures}
use Rattle.jr_supers.specs.Above.{is_some_item}
use Rattle.jr_supers.specs.Signatures.{same_numbers, AreSignatures}
use Rattle.jr_supers.specs.Tabled.{is_callable}
use Rattle.jr_supers.proofs.Subtyped.{one_test}
use Rattle.jr_supers.proofs.Signed.{same_signatures}
use Rattle.jr_members.specs.declared.declared.MemberKind.{MemberKind}
use Rattle.jr_members.specs.declared.declared.Declared.{Declared}
use Rattle.jr_members.specs.declared.callables.Callables.{Callables}
use Rattle.jr_members.specs.Keys.{falling, entry_for, entry_list, entries_of, is_of, holder_of, own_entry, type_entry, name_entry, IsDeclaredTo, AreDeclared, is_declared_as, is_declared_by, is_named, entry_of, signature_number, signed_entry, constructor_entry, AreCallables, is_declared_like}
use Rattle.jr_members.specs.Held.{role_of_kind, IsOf, IsDeclaredAs}
use Rattle.jr_members.specs.Named.{under}
use Rattle.jr_members.proofs.Keyed.{under_pushed, rows_last}

-- ---- tables of rows

abbrev is_keyed : Option Entry → ℕ → ℕ → Bool
is_keyed None c x = false
is_keyed (Some e) c x = nat_eq e.first c && nat_eq e.second x

abbrev HasRows : (ℕ → Option Entry) → Type 0
HasRows f = (k : ℕ) (e : Entry) → f k ≡ Some e → e.row ≡ k

entries_by : (f : ℕ → Option Entry) (c x n : ℕ) (o : Option Entry) → ((e : Entry) → o ≡ Some e → e.row ≡ n) → under (entries_of f n) c x ≡ falling n (λ k. is_keyed (f k) c x)
    → under (entries_of f n ++ entry_list o) c x ≡ cond (is_keyed o c x) (n ∷ falling n (λ k. is_keyed (f k) c x)) (falling n (λ k. is_keyed (f k) c x))
entries_by f c x n None row more = ap (λ l. under l c x) (append-nil (entries_of f n)) ∙ more
entries_by f c x n (Some new) row more = under_pushed (entries_of f n) new c x ∙ ap₂ (λ r xs. cond (nat_eq new.first c && nat_eq new.second x) (r ∷ xs) xs) (row new refl) more

falling_entries : (f : ℕ → Option Entry) → HasRows f → (c x n : ℕ) → under (entries_of f n) c x ≡ falling n (λ k. is_keyed (f k) c x)
falling_entries f rows c x zero = refl
falling_entries f rows c x (suc n) = entries_by f c x n (f n) (rows n) (falling_entries f rows c x n)

pub falling_same : (f g : ℕ → Bool) (n : ℕ) → ((k : ℕ) → f k ≡ g k) → falling n f ≡ falling n g
falling_same f g zero same = refl
falling_same f g (suc n) same = ap₂ (λ b xs. cond b (n ∷ xs) xs) (same n) (falling_same f g n same)

falling_by : (test : ℕ → Bool) (n d : ℕ) (b : Bool) → test n ≡ b → Decides (has (falling n test) d) ((d < n) × (test d ≡ true)) → Decides (has (cond b (n ∷ falling n test) (falling n test)) d) ((d < suc n) × (test d ≡ true))
falling_by test n d true e more = (
  λ h. ⊎_elim (λ s. let same = (Decides-eqb n d).0 s in (omega arith, subst (λ k. test k ≡ true) same e)) (λ k. let i = more.0 k in let lt = i.0 in (omega arith, i.1)) (or_cases (nat_eq n d) (has (falling n test) d) h),
  λ h. let lt = h.0 in ⊎_elim (λ same. or_left (nat_eq n d) (has (falling n test) d) ((Decides-eqb n d).1 same)) (λ apart. or_right (nat_eq n d) (has (falling n test) d) (more.1 (omega arith, h.1))) (cases_eq n d),
)
falling_by test n d false e more = (
  λ h. let i = more.0 h in let lt = i.0 in (omega arith, i.1),
  λ h. let lt = h.0 in ⊎_elim (λ same. absurd (false≢true (sym e ∙ subst (λ k. test k ≡ true) (sym same) h.1))) (λ apart. more.1 (omega arith, h.1)) (cases_eq n d),
)

has_falling : (test : ℕ → Bool) (n d : ℕ) → Decides (has (falling n test) d) ((d < n) × (test d ≡ true))
has_falling test zero d = (λ h. absurd (false≢true h), λ h. let lt = h.0 in absurd (omega arith))
has_falling test (suc n) d = falling_by test n d (test n) refl (has_falling test n d)

pub falling_lists : (test : ℕ → Bool) (P : ℕ → Type 0) (n : ℕ) → ((d : ℕ) → Decides (test d) (P d)) → ((d : ℕ) → P d → d < n) → Lists (falling n test) P
falling_lists test P n tells below d = like (has_falling test n d) (λ h. (tells d).0 h.1) (λ k. (below d k, (tells d).1 k))

-- ---- members by kind

rows_some : (f : ℕ → ℕ → Entry) → ((h d : ℕ) → (f h d).row ≡ d) → (o : ℕ → Option ℕ) → HasRows (λ d. option_map (λ h. f h d) (o d))
rows_some f is o k e = by (o k)
  where
    by : (h : Option ℕ) → option_map (λ h. f h k) h ≡ Some e → e.row ≡ k
    by None same = absurd (none-some e same)
    by (Some h) same = ap (λ x. x.row) (sym (same_Some (f h k) e same)) ∙ is h k

abbrev is_at : ℕ → Option ℕ → Bool
is_at c None = false
is_at c (Some h) = nat_eq h c

and_true : (b : Bool) → (b && true) ≡ b
and_true true = refl
and_true false = refl

key_of : (c x m d : ℕ) (b inside : Bool) (o : Option ℕ) → inside ≡ is_at c o → is_keyed (option_map (λ h. entry_for h m d) (cond b o None)) c x ≡ (b && (inside && nat_eq m x))
key_of c x m d false inside o e = refl
key_of c x m d true inside None e = ap (λ i. i && nat_eq m x) (sym e)
key_of c x m d true inside (Some h) e = ap (λ i. i && nat_eq m x) (sym e)

key_by : (c d : ℕ) (b inside : Bool) (o : Option ℕ) → inside ≡ is_at c o → is_keyed (option_map (λ h. entry_for h 0 d) (cond b o None)) c 0 ≡ (b && inside)
key_by c d false inside o e = refl
key_by c d true inside None e = sym e
key_by c d true inside (Some h) e = and_true (nat_eq h c) ∙ sym e

key_named : (x m d : ℕ) (b : Bool) (o : Option ℕ) → is_keyed (option_map (λ h. entry_for m 0 d) (cond b o None)) x 0 ≡ (b && (is_some o && nat_eq m x))
key_named x m d false o = refl
key_named x m d true None = refl
key_named x m d true (Some h) = and_true (nat_eq m x)

-- a type that is found is the one that declares the row
declared_found : (p : Rows) (c d : ℕ) (o : Option ℕ) → declaring_type p d ≡ o → is_declared_in p c d ≡ is_at c o
declared_found p c d None e = one_test (is_declared_in p c d) false (DeclaredIn p c d) (declared_in_tells p c d) ((λ h. absurd (false≢true h)), (λ h. absurd (none-some c (sym e ∙ (declaring_finds p d c).1 h))))
declared_found p c d (Some h) e = one_test (is_declared_in p c d) (nat_eq h c) (DeclaredIn p c d) (declared_in_tells p c d)
    (like (Decides-eqb h c) (λ same. (declaring_finds p d c).0 (e ∙ ap Some same)) (λ k. same_Some h c (sym e ∙ (declaring_finds p d c).1 k)))

-- ---- one row more

pub entries_more : (f : ℕ → Option Entry) (n : ℕ) (all more : List Entry) (e : Option Entry) → all ≡ entries_of f n → e ≡ f n → more ≡ all ++ entry_list e → more ≡ entries_of f (n + 1)
entries_more f n all more e h is pushed = rw add-one (pushed ∙ ap₂ (λ xs e. xs ++ entry_list e) h is)

pub declared_start : (p : Rows) (kind : MemberKind) (declared : Declared) → declared.kind ≡ kind → declared.own ≡ [] → declared.by_type ≡ [] → declared.by_name ≡ [] → IsDeclaredTo p kind 0 declared
declared_start p kind declared k a b c = record { kind_is = k; own = a; by_type = b; by_name = c }

pub declared_more : (p : Rows) (kind : MemberKind) (n : ℕ) (old new : Declared) (holder : Option ℕ) (name : ℕ) → IsDeclaredTo p kind n old → holder ≡ holder_of p old.kind n → name ≡ name_row p n → new.kind ≡ old.kind
    → new.own ≡ old.own ++ entry_list (option_map (λ c. entry_for c name n) holder) → new.by_type ≡ old.by_type ++ entry_list (option_map (λ c. entry_for c 0 n) holder)
    → new.by_name ≡ old.by_name ++ entry_list (option_map (λ c. entry_for name 0 n) holder) → IsDeclaredTo p kind (n + 1) new
declared_more p kind n old new holder name h found named k a b c = record {
  kind_is = k ∙ h.kind_is;
  own = entries_more (own_entry p kind) n old.own new.own _ h.own (ap₂ (λ o m. option_map (λ c. entry_for c m n) o) holds named) a;
  by_type = entries_more (type_entry p kind) n old.by_type new.by_type _ h.by_type (ap (option_map (λ c. entry_for c 0 n)) holds) b;
  by_name = entries_more (name_entry p kind) n old.by_name new.by_name _ h.by_name (ap₂ (λ o m. option_map (λ c. entry_for m 0 n) o) holds named) c;
}
  where
    holds : holder ≡ holder_of p kind n
    holds = found ∙ ap (λ k. holder_of p k n) h.kind_is

pub declared_end : (p : Rows) (kind : MemberKind) (n : ℕ) (declared : Declared) → n ≡ length p → IsDeclaredTo p kind n declared → AreDeclared p kind declared
declared_end p kind n declared e h = subst (λ n. IsDeclaredTo p kind n declared) e h

module _ (p : Rows) (kind : MemberKind) (declared : Declared) (is : AreDeclared p kind declared) where
  -- what a type declares under a name, from the last row back
  pub own_falls : (c x : ℕ) → under declared.own c x ≡ falling (length p) (is_declared_as p kind c x)
  own_falls c x = ap (λ l. under l c x) is.own ∙ falling_entries (own_entry p kind) (rows_some (λ h d. entry_for h (name_row p d) d) (λ h d. refl) (holder_of p kind)) c x (length p)
      ∙ falling_same _ _ (length p) (λ d. key_of c x (name_row p d) d (is_of p kind d) (is_declared_in p c d) (declaring_type p d) (declared_found p c d (declaring_type p d) refl))

  pub type_falls : (c : ℕ) → under declared.by_type c 0 ≡ falling (length p) (is_declared_by p kind c)
  type_falls c = ap (λ l. under l c 0) is.by_type ∙ falling_entries (type_entry p kind) (rows_some (λ h d. entry_for h 0 d) (λ h d. refl) (holder_of p kind)) c 0 (length p)
      ∙ falling_same _ _ (length p) (λ d. key_by c d (is_of p kind d) (is_declared_in p c d) (declaring_type p d) (declared_found p c d (declaring_type p d) refl))

  pub name_falls : (x : ℕ) → under declared.by_name x 0 ≡ falling (length p) (is_named p kind x)
  name_falls x = ap (λ l. under l x 0) is.by_name ∙ falling_entries (name_entry p kind) (rows_some (λ h d. entry_for (name_row p d) 0 d) (λ h d. refl) (holder_of p kind)) x 0 (length p)
      ∙ falling_same _ _ (length p) (λ d. key_named x (name_row p d) d (is_of p kind d) (declaring_type p d))

of_tells : (p : Rows) (kind : MemberKind) (d : ℕ) → Decides (is_of p kind d) (role_at p d ≡ role_of_kind kind)
of_tells p kind d = role_tells (role_at p d) (role_of_kind kind)

pub own_listed : (p : Rows) (kind : MemberKind) (c x : ℕ) → Lists (falling (length p) (is_declared_as p kind c x)) (IsDeclaredAs p kind c x)
own_listed p kind c x = falling_lists (is_declared_as p kind c x) (IsDeclaredAs p kind c x) (length p)
    (λ d. like (both (of_tells p kind d) (both (declared_in_tells p c d) (Decides-eqb (name_row p d) x)))
    (λ h. record { of = record { role_is = h.0; named = h.1.1 }; declared = h.1.0 }) (λ k. (k.of.role_is, (k.declared, k.of.named))))
    (λ d k. member_below p d k.declared.member)

pub type_listed : (p : Rows) (kind : MemberKind) (c : ℕ) → Lists (falling (length p) (is_declared_by p kind c)) (λ d. (role_at p d ≡ role_of_kind kind) × DeclaredIn p c d)
type_listed p kind c = falling_lists (is_declared_by p kind c) (λ d. (role_at p d ≡ role_of_kind kind) × DeclaredIn p c d) (length p)
    (λ d. both (of_tells p kind d) (declared_in_tells p c d)) (λ d k. member_below p d k.1.member)

-- ---- methods and constructors

key_signed : (c x d : ℕ) (b inside : Bool) (o n : Option ℕ) → inside ≡ is_at c o → is_keyed (cond b (entry_of d o n) None) c x ≡ (b && (inside && is_at x n))
key_signed c x d false inside o n e = refl
key_signed c x d true inside None n e = ap (λ i. i && is_at x n) (sym e)
key_signed c x d true inside (Some h) None e = sym (by inside)
  where
    by : (i : Bool) → (i && false) ≡ false
    by true = refl
    by false = refl
key_signed c x d true inside (Some h) (Some n) e = ap (λ i. i && nat_eq n x) (sym e)

rows_signed : (p : Rows) (s : Signatures) → HasRows (signed_entry p s)
rows_signed p s k e = by (same_role (role_at p k) role.Method) (declaring_type p k) (signature_number s k)
  where
    by : (b : Bool) (o n : Option ℕ) → cond b (entry_of k o n) None ≡ Some e → e.row ≡ k
    by false o n same = absurd (none-some e same)
    by true None n same = absurd (none-some e same)
    by true (Some c) None same = absurd (none-some e same)
    by true (Some c) (Some n) same = ap (λ x. x.row) (sym (same_Some (entry_for c n k) e same))

abbrev pub rows_like : Option ℕ → List Entry → ℕ → List ℕ
rows_like None all c = []
rows_like (Some n) all c = under all c n

method_callable : (r : Role) → r ≡ role.Method → is_callable r ≡ true
method_callable r e = ap is_callable e

none_falls : (test : ℕ → Bool) (n : ℕ) → ((d : ℕ) → test d ≡ false) → falling n test ≡ []
none_falls test zero none = refl
none_falls test (suc n) none = ap₂ (λ b xs. cond b (n ∷ xs) xs) (none n) (none_falls test n none)

module _ (p : Rows) (t : Table) (callables : Callables) (is : AreCallables p callables) where
  -- the methods that a type declares with the signature of a method, from the last row back
  pub like_falls : (c m : ℕ) → AreSignatures p t callables.signatures → is_callable (role_at p m) ≡ true
      → rows_like (signature_number callables.signatures m) callables.by_signature c ≡ falling (length p) (is_declared_like p t c m)
  like_falls c m signed callable = by (signature_number callables.signatures m) refl
    where
      same : (d : ℕ) (b : Bool) → same_role (role_at p d) role.Method ≡ b → (b && (is_declared_in p c d && same_numbers (signature_number callables.signatures d) (signature_number callables.signatures m))) ≡ (b && (is_declared_in p c d && is_same_signature p t d m))
      same d false e = refl
      same d true e = ap (λ s. is_declared_in p c d && s) (same_signatures p t callables.signatures d m signed (method_callable (role_at p d) ((role_tells (role_at p d) role.Method).0 e)) callable)

      numbers : (n x : Option ℕ) (k : ℕ) → x ≡ Some k → is_at k n ≡ same_numbers n x
      numbers None x k e = refl
      numbers (Some n) x k e = ap (same_numbers (Some n)) (sym e)

      alone : (n : Option ℕ) → same_numbers n None ≡ false
      alone None = refl
      alone (Some n) = refl

      last : (b c : Bool) → (b && (c && false)) ≡ false
      last true true = refl
      last true false = refl
      last false c = refl

      by : (o : Option ℕ) → signature_number callables.signatures m ≡ o → rows_like o callables.by_signature c ≡ falling (length p) (is_declared_like p t c m)
      by None e = sym (none_falls (is_declared_like p t c m) (length p) (λ d. sym (same d (same_role (role_at p d) role.Method) refl)
          ∙ ap (λ s. same_role (role_at p d) role.Method && (is_declared_in p c d && s)) (ap (same_numbers (signature_number callables.signatures d)) e ∙ alone (signature_number callables.signatures d))
          ∙ last (same_role (role_at p d) role.Method) (is_declared_in p c d)))
      by (Some n) e = ap (λ l. under l c n) is.signed ∙ falling_entries (signed_entry p callables.signatures) (rows_signed p callables.signatures) c n (length p)
          ∙ falling_same _ _ (length p) (λ d. key_signed c n d (same_role (role_at p d) role.Method) (is_declared_in p c d) (declaring_type p d) (signature_number callables.signatures d) (declared_found p c d (declaring_type p d) refl)
          ∙ ap (λ s. same_role (role_at p d) role.Method && (is_declared_in p c d && s)) (numbers (signature_number callables.signatures d) (signature_number callables.signatures m) n e)
          ∙ same d (same_role (role_at p d) role.Method) refl)

module _ (p : Rows) (callables : Callables) (is : AreCallables p callables) where
  constructed_found : (c d : ℕ) (o : Option ℕ) → constructed_class p d ≡ o → is_constructor_of p c d ≡ is_at c o
  constructed_found c d None e = one_test (is_constructor_of p c d) false (ConstructorOf p c d) (constructor_tells p c d) ((λ h. absurd (false≢true h)), (λ h. absurd (none-some c (sym e ∙ (constructed_finds p d c).1 h))))
  constructed_found c d (Some h) e = one_test (is_constructor_of p c d) (nat_eq h c) (ConstructorOf p c d) (constructor_tells p c d)
      (like (Decides-eqb h c) (λ same. (constructed_finds p d c).0 (e ∙ ap Some same)) (λ k. same_Some h c (sym e ∙ (constructed_finds p d c).1 k)))

  -- the constructors of a class, from the last row back
  pub constructors_fall : (c : ℕ) → under callables.constructors c 0 ≡ falling (length p) (is_constructor_of p c)
  constructors_fall c = ap (λ l. under l c 0) is.constructors ∙ falling_entries (constructor_entry p) (rows_some (λ h d. entry_for h 0 d) (λ h d. refl) (constructed_class p)) c 0 (length p)
      ∙ falling_same _ _ (length p) (λ d. key_by c d true (is_constructor_of p c d) (constructed_class p d) (constructed_found c d (constructed_class p d) refl))

-- ---- some member has a name

or_true : (b : Bool) → (b || true) ≡ true
or_true true = refl
or_true false = refl

or_false : (b : Bool) → (b || false) ≡ b
or_false true = refl
or_false false = refl

some_by : (n : ℕ) (more : List ℕ) (b : Bool) → is_some_item (cond b (n ∷ more) more) ≡ (is_some_item more || b)
some_by n more true = sym (or_true (is_some_item more))
some_by n more false = sym (or_false (is_some_item more))

pub some_named : (test : ℕ → Bool) (n : ℕ) → is_some_item (falling n test) ≡ any_below n test
some_named test zero = refl
some_named test (suc n) = some_by n (falling n test) (test n) ∙ ap (λ b. b || test n) (some_named test n)
