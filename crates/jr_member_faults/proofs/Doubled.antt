-- What bodies declare in the rows before a row, and the rules on what is declared twice.
use Rattle.std.proofs.Common.{◌≡◌, refl, sym, ◌∙◌, ap, ap₂, subst, arith, ℕ, ◌<◌, Bool, true, false, cond, ◌&&◌, ◌||◌, List, [], ◌++◌, append-nil, length, Option, Some, None, Decides}
use Rattle.std.proofs.lemmas.Bool.{false≢true}
use Rattle.std.proofs.lemmas.Bool.Decides.{Decides-eqb, Decides-ltb}
use Rattle.std.proofs.lemmas.Option.{none-some, same_Some}
use Rattle.std.proofs.lemmas.Slice.Eq.{bytes_eq-Decides}
use Rattle.jr_tree.specs.declared.label.Role.{Role}
use Rattle.jr_tree.specs.declared.label.Role.TheVariants as role
use Rattle.jr_tree.specs.Rows.{Rows, name, role_at}
use Rattle.jr_defs.specs.Referents.{Table}
use Rattle.jr_defs.specs.Enclosing.{DeclaredIn}
use Rattle.jr_plain.specs.Search.{any_below}
use Rattle.jr_plain.specs.Same.{same_role}
use Rattle.jr_plain.specs.Enclosing.{declaring_type, is_declared_in}
use Rattle.jr_plain.specs.Types.{is_same_signature}
use Rattle.jr_plain.proofs.Tests.{both, like}
use Rattle.jr_plain.proofs.Searches.{any}
use Rattle.jr_plain.proofs.Same.{role_tells}
use Rattle.jr_plain.proofs.Enclosed.{declared_in_tells, declaring_finds}
use Rattle.jr_plain.proofs.Modified.{found_tells}
use Rattle.jr_places.specs.declared.chains.Entry.{Entry}
use Rattle.jr_places.specs.Names.{name_row}
use Rattle.jr_places.proofs.Packing.{name_tells}
use Rattle.jr_supers.specs.declared.signatures.Signatures.{Signatures}
use Rattle.jr_supers.specs.Signatures.{same_numbers, AreSignatures}
use Rattle.jr_supers.specs.Tabled.{is_callable}
use Rattle.jr_supers.proofs.Signed.{same_signatures}
use Rattle.jr_supers.proofs.Subtyped.{one_test}
use Rattle.jr_members.specs.Keys.{entry_for, entry_list, entries_of, entry_of, signature_number}
use Rattle.jr_lookup.proofs.Scoping.{is_keyed, HasRows}
use Rattle.jr_name_rules.specs.Found.{is_same_name}
use Rattle.jr_name_rules.specs.DeclarationTests.{is_before_in_body, is_second_field, is_second_method, is_inside, is_inside_its_name}
use Rattle.jr_member_faults.specs.declared.twice.Declared as code
use Rattle.jr_member_faults.specs.Faults.{is_type_clash, has_member_type_clash}
use Rattle.jr_member_faults.specs.Twice.{member_number, member_entry, entry_as, entries_for, has_entry, with_entry}
use Rattle.jr_member_faults.proofs.Headed.{listed_before}

-- where the second test is to be known only after the first
pub both_then : {a b : Bool} {A B : Type 0} → Decides a A → (A → Decides b B) → Decides (a && b) (A × B)
both_then {a = true} p q = like (q (p.0 refl)) (λ h. (p.0 refl, h)) (λ h. h.1)
both_then {a = false} p q = (λ h. absurd (false≢true h), λ h. p.1 h.0)

-- ---- tables of members

module _ (p : Rows) (s : Signatures) (kind : Role) where
  entry_rows : HasRows (entry_as p kind s)
  entry_rows k e is = by (same_role (role_at p k) kind) (declaring_type p k) (member_number p s k) is
    where
      by : (b : Bool) (c n : Option ℕ) → cond b (entry_of k c n) None ≡ Some e → e.row ≡ k
      by false c n same = absurd (none-some e same)
      by true None n same = absurd (none-some e same)
      by true (Some c) None same = absurd (none-some e same)
      by true (Some c) (Some n) same = ap (λ z. z.row) (sym (same_Some (entry_for c n k) e same))

  -- a member of the role under a key
  abbrev IsUnder : ℕ → ℕ → ℕ → Type 0
  IsUnder c x d = (role_at p d ≡ kind) × ((declaring_type p d ≡ Some c) × (member_number p s d ≡ Some x))

  keyed_tells : (c x d : ℕ) → Decides (is_keyed (entry_as p kind s d) c x) (IsUnder c x d)
  keyed_tells c x d = by (same_role (role_at p d) kind) (declaring_type p d) (member_number p s d) (role_tells (role_at p d) kind) refl refl
    where
      by : (b : Bool) (o n : Option ℕ) → Decides b (role_at p d ≡ kind) → declaring_type p d ≡ o → member_number p s d ≡ n → Decides (is_keyed (cond b (entry_of d o n) None) c x) (IsUnder c x d)
      by false o n r eo en = (λ h. absurd (false≢true h), λ h. absurd (false≢true (r.1 h.0)))
      by true None n r eo en = (λ h. absurd (false≢true h), λ h. absurd (none-some c (sym eo ∙ h.1.0)))
      by true (Some a) None r eo en = (λ h. absurd (false≢true h), λ h. absurd (none-some x (sym en ∙ h.1.1)))
      by true (Some a) (Some k) r eo en = like (both (Decides-eqb a c) (Decides-eqb k x)) (λ h. (r.0 refl, (eo ∙ ap Some h.0, en ∙ ap Some h.1))) (λ h. (same_Some a c (sym eo ∙ h.1.0), same_Some k x (sym en ∙ h.1.1)))

  -- both have one number
  abbrev AreOne : ℕ → ℕ → Type 0
  AreOne d n = (x : ℕ) × (member_number p s d ≡ Some x) × (member_number p s n ≡ Some x)

  -- d stands before n, and the body that declares it declares n
  abbrev IsBefore : ℕ → ℕ → Type 0
  IsBefore d n = ((role_at p d ≡ kind) × (d < n)) × ((c : ℕ) × DeclaredIn p c d × DeclaredIn p c n)

  module _ (test : ℕ → ℕ → Bool) (tells : (d n : ℕ) → role_at p d ≡ kind → role_at p n ≡ kind → Decides (test d n) (AreOne d n)) (n : ℕ) (lt : n < length p) (is : role_at p n ≡ kind) where
    abbrev Twin : Type 0
    Twin = (d : ℕ) × (d < n) × ((role_at p d ≡ kind) × ((c : ℕ) × DeclaredIn p c d × DeclaredIn p c n) × AreOne d n)

    before_tells : (d : ℕ) → Decides (is_before_in_body p kind d n) (IsBefore d n)
    before_tells d = both (both (role_tells (role_at p d) kind) (Decides-ltb d n)) (found_tells (λ c. DeclaredIn p c d) (λ c. is_declared_in p c n) (λ c. DeclaredIn p c n) (λ c. declared_in_tells p c n) (declaring_type p d) (declaring_finds p d))

    rule_tells : Decides (any_below (length p) (λ d. is_before_in_body p kind d n && test d n)) Twin
    rule_tells = like (any (λ d. is_before_in_body p kind d n && test d n) (λ d. IsBefore d n × AreOne d n) (λ d. both_then (before_tells d) (λ h. tells d n h.0.0 is)) (length p))
        (λ h. (h.0, h.2.0.0.1, (h.2.0.0.0, h.2.0.1, h.2.1)))
        (λ h. let less = h.1 in (h.0, omega arith, (((h.2.0, h.1), h.2.1), h.2.2)))

    listed_tells : (o x : Option ℕ) → declaring_type p n ≡ o → member_number p s n ≡ x → Decides (has_entry (entries_of (entry_as p kind s) n) (entry_of n o x)) Twin
    listed_tells None x eo ex = (λ h. absurd (false≢true h), λ h. absurd (none-some h.2.1.0 (sym eo ∙ (declaring_finds p n h.2.1.0).1 h.2.1.2)))
    listed_tells (Some c) None eo ex = (λ h. absurd (false≢true h), λ h. absurd (none-some h.2.2.0 (sym ex ∙ h.2.2.2)))
    listed_tells (Some c) (Some x) eo ex = subst (λ b. Decides b Twin) (sym (listed_before (entry_as p kind s) entry_rows c x n))
        (like (any (λ d. is_keyed (entry_as p kind s d) c x) (IsUnder c x) (keyed_tells c x) n)
        (λ h. (h.0, h.1, (h.2.0, (c, (declaring_finds p h.0 c).0 h.2.1.0, (declaring_finds p n c).0 eo), (x, h.2.1.1, ex))))
        (λ h. let over = (declaring_finds p h.0 h.2.1.0).1 h.2.1.1 ∙ sym ((declaring_finds p n h.2.1.0).1 h.2.1.2) ∙ eo in (h.0, h.1, (h.2.0, (over, h.2.2.1 ∙ sym h.2.2.2 ∙ ex)))))

    -- the table tells whether there is one before
    pub second_listed : has_entry (entries_of (entry_as p kind s) n) (member_entry p s n) ≡ any_below (length p) (λ d. is_before_in_body p kind d n && test d n)
    second_listed = one_test _ _ Twin (listed_tells (declaring_type p n) (member_number p s n) refl refl) rule_tells

-- ---- types and fields by their names

module _ (p : Rows) (s : Signatures) (kind : Role) (named : same_role kind role.Method ≡ false) where
  named_number : (d : ℕ) → role_at p d ≡ kind → member_number p s d ≡ Some (name_row p d)
  named_number d is = ap (λ b. cond b (signature_number s d) (Some (name_row p d))) (ap (λ r. same_role r role.Method) is ∙ named)

  pub names_tell : (d n : ℕ) → role_at p d ≡ kind → role_at p n ≡ kind → Decides (is_same_name p d n) (AreOne p s kind d n)
  names_tell d n first second = like (bytes_eq-Decides (name p d) (name p n))
      (λ e. (name_row p n, named_number d first ∙ ap Some ((Decides-eqb (name_row p d) (name_row p n)).0 ((name_tells p d n).1 e)), named_number n second))
      (λ h. (name_tells p d n).0 ((Decides-eqb (name_row p d) (name_row p n)).1 (same_Some (name_row p d) h.0 (sym (named_number d first) ∙ h.1) ∙ sym (same_Some (name_row p n) h.0 (sym (named_number n second) ∙ h.2)))))

-- ---- methods by their signatures

pub numbers_tell : (a b : Option ℕ) → Decides (same_numbers a b) ((x : ℕ) × (a ≡ Some x) × (b ≡ Some x))
numbers_tell (Some a) (Some b) = like (Decides-eqb a b) (λ e. (b, ap Some e, refl)) (λ h. same_Some a h.0 h.1 ∙ sym (same_Some b h.0 h.2))
numbers_tell (Some a) None = (λ h. absurd (false≢true h), λ h. absurd (none-some h.0 h.2))
numbers_tell None b = (λ h. absurd (false≢true h), λ h. absurd (none-some h.0 h.1))

module _ (p : Rows) (t : Table) (s : Signatures) (signed : AreSignatures p t s) where
  method_number : (d : ℕ) → role_at p d ≡ role.Method → member_number p s d ≡ signature_number s d
  method_number d is = ap (λ r. cond (same_role r role.Method) (signature_number s d) (Some (name_row p d))) is

  pub methods_tell : (d n : ℕ) → role_at p d ≡ role.Method → role_at p n ≡ role.Method → Decides (is_same_signature p t d n) (AreOne p s role.Method d n)
  methods_tell d n first second = subst (λ b. Decides b (AreOne p s role.Method d n)) (same_signatures p t s d n signed (ap is_callable first) (ap is_callable second))
      (like (numbers_tell (signature_number s d) (signature_number s n)) (λ h. (h.0, method_number d first ∙ h.1, method_number n second ∙ h.2)) (λ h. (h.0, sym (method_number d first) ∙ h.1, sym (method_number n second) ∙ h.2)))

-- ---- the rules

-- an entry that a constructor has does not matter
module _ (p : Rows) (s : Signatures) (kind : Role) (apart : same_role kind role.Constructor ≡ false) (test : ℕ → ℕ → Bool) (tells : (d n : ℕ) → role_at p d ≡ kind → role_at p n ≡ kind → Decides (test d n) (AreOne p s kind d n)) where
  pub kind_told : (n : ℕ) → n < length p → (declared : code.Declared) (r : Role) (entry : Option Entry) (is_there : Bool) → r ≡ role_at p n → entries_for declared kind ≡ entries_of (entry_as p kind s) n
      → (same_role (role_at p n) role.Constructor ≡ false → entry ≡ member_entry p s n) → is_there ≡ has_entry (entries_for declared r) entry
      → (same_role r kind && is_there) ≡ (same_role (role_at p n) kind && any_below (length p) (λ d. is_before_in_body p kind d n && test d n))
  kind_told n lt declared r entry is_there is all found there = ap₂ (λ q b. same_role q kind && b) is (there ∙ ap (λ q. has_entry (entries_for declared q) entry) is) ∙ by (same_role (role_at p n) kind) (role_tells (role_at p n) kind)
    where
      by : (b : Bool) → Decides b (role_at p n ≡ kind) → (b && has_entry (entries_for declared (role_at p n)) entry) ≡ (b && any_below (length p) (λ d. is_before_in_body p kind d n && test d n))
      by false told = refl
      by true told = let e = told.0 refl in ap (λ q. has_entry (entries_for declared q) entry) e ∙ ap₂ has_entry all (found (ap (λ q. same_role q role.Constructor) e ∙ apart)) ∙ second_listed p s kind test tells n lt e

pub field_told : (p : Rows) (s : Signatures) (n : ℕ) → n < length p → (declared : code.Declared) (r : Role) (entry : Option Entry) (is_there : Bool) → r ≡ role_at p n → declared.fields ≡ entries_of (entry_as p role.Field s) n
    → (same_role (role_at p n) role.Constructor ≡ false → entry ≡ member_entry p s n) → is_there ≡ has_entry (entries_for declared r) entry → (same_role r role.Field && is_there) ≡ is_second_field p n
field_told p s n lt declared r entry is_there is all found there = kind_told p s role.Field refl (is_same_name p) (names_tell p s role.Field refl) n lt declared r entry is_there is all found there

pub method_told : (p : Rows) (t : Table) (s : Signatures) → AreSignatures p t s → (n : ℕ) → n < length p → (declared : code.Declared) (r : Role) (entry : Option Entry) (is_there : Bool) → r ≡ role_at p n → declared.methods ≡ entries_of (entry_as p role.Method s) n
    → (same_role (role_at p n) role.Constructor ≡ false → entry ≡ member_entry p s n) → is_there ≡ has_entry (entries_for declared r) entry → (same_role r role.Method && is_there) ≡ is_second_method p t n
method_told p t s signed n lt declared r entry is_there is all found there = kind_told p s role.Method refl (is_same_signature p t) (methods_tell p t s signed) n lt declared r entry is_there is all found there

-- what is no type stands in none of its own name
no_inside : (p : Rows) (n : ℕ) (r : Role) → r ≡ role_at p n → same_role r role.Type ≡ false → is_inside_its_name p n ≡ false
no_inside p n r is apart = ap (λ b. b && is_inside p (name p n) (length p) n) (ap (λ q. same_role q role.Type) (sym is) ∙ apart)

-- no table is kept of the role
none_there : (o : Option Entry) → has_entry [] o ≡ false
none_there None = refl
none_there (Some e) = refl

clash_told : (p : Rows) (n : ℕ) (declared : code.Declared) (r : Role) (entry : Option Entry) (is_there : Bool) → r ≡ role_at p n → is_there ≡ has_entry (entries_for declared r) entry
    → is_type_clash p n r is_there ≡ ((same_role r role.Type && is_there) || is_inside_its_name p n)
clash_told p n declared role.Type entry is_there is there = refl
clash_told p n declared role.Field entry is_there is there = sym (no_inside p n role.Field is refl)
clash_told p n declared role.Method entry is_there is there = sym (no_inside p n role.Method is refl)
clash_told p n declared role.Constructor entry is_there is there = sym (no_inside p n role.Constructor is refl)
clash_told p n declared role.Nothing entry is_there is there = ap (λ b. b || is_inside_its_name p n) (there ∙ none_there entry)
clash_told p n declared role.Parameter entry is_there is there = ap (λ b. b || is_inside_its_name p n) (there ∙ none_there entry)
clash_told p n declared role.Local entry is_there is there = ap (λ b. b || is_inside_its_name p n) (there ∙ none_there entry)
clash_told p n declared role.Label entry is_there is there = ap (λ b. b || is_inside_its_name p n) (there ∙ none_there entry)

pub type_told : (p : Rows) (s : Signatures) (n : ℕ) → n < length p → (declared : code.Declared) (r : Role) (entry : Option Entry) (is_there : Bool) → r ≡ role_at p n → declared.types ≡ entries_of (entry_as p role.Type s) n
    → (same_role (role_at p n) role.Constructor ≡ false → entry ≡ member_entry p s n) → is_there ≡ has_entry (entries_for declared r) entry → is_type_clash p n r is_there ≡ has_member_type_clash p n
type_told p s n lt declared r entry is_there is all found there = clash_told p n declared r entry is_there is there
    ∙ ap (λ b. b || is_inside_its_name p n) (kind_told p s role.Type refl (is_same_name p) (names_tell p s role.Type refl) n lt declared r entry is_there is all found there)

-- ---- one row more

pub entry_put : (all : List Entry) (o : Option Entry) → with_entry true all o ≡ all ++ entry_list o
entry_put all None = sym (append-nil all)
entry_put all (Some e) = refl

pub entry_left : (all : List Entry) (o : Option Entry) → with_entry false all o ≡ all
entry_left all None = refl
entry_left all (Some e) = refl

pub entry_told : (p : Rows) (s : Signatures) (kind r : Role) (n : ℕ) (entry : Option Entry) (all : List Entry) → r ≡ role_at p n → (same_role (role_at p n) role.Constructor ≡ false → entry ≡ member_entry p s n) → same_role kind role.Constructor ≡ false
    → with_entry (same_role r kind) all entry ≡ all ++ entry_list (entry_as p kind s n)
entry_told p s kind r n entry all is found other = ap (λ r. with_entry (same_role r kind) all entry) is ∙ by (same_role (role_at p n) kind) (role_tells (role_at p n) kind)
  where
    by : (b : Bool) → Decides b (role_at p n ≡ kind) → with_entry b all entry ≡ all ++ entry_list (cond b (member_entry p s n) None)
    by true tells = entry_put all entry ∙ ap (λ o. all ++ entry_list o) (found (ap (λ r. same_role r role.Constructor) (tells.0 refl) ∙ other))
    by false tells = entry_left all entry ∙ sym (append-nil all)
