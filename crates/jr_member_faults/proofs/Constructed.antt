-- Constructors that a class declares twice, by the numbers of their lists of parameter types (JLS 8.8.2).
use Rattle.std.proofs.Common.{◌≡◌, refl, sym, ◌∙◌, ap, ap₂, subst, ⊎_elim, arith, ℕ, zero, suc, ◌+◌, ◌<◌, Bool, true, false, cond, ◌&&◌, List, [], ◌∷◌, ◌++◌, append_assoc, append-nil, length, drop, Option, Some, None, nat_eq, nat_lt, slice_index_or, Decides}
use Rattle.std.proofs.lemmas.Bool.{false≢true, cases_eq}
use Rattle.std.proofs.lemmas.Bool.Decides.{Decides-eqb, Decides-ltb}
use Rattle.std.proofs.lemmas.List.{drop_more}
use Rattle.std.proofs.lemmas.Option.{none-some, same_Some, slice_get_within, get_or_from_slice_get, slice_get-get_or}
use Rattle.jr_tree.specs.declared.label.Role.{Role}
use Rattle.jr_tree.specs.declared.label.Role.TheVariants as role
use Rattle.jr_tree.specs.Rows.{Rows, parent, role_at}
use Rattle.jr_defs.specs.declared.referent.Element.{Element}
use Rattle.jr_defs.specs.declared.referent.Element.TheVariants as element
use Rattle.jr_defs.specs.declared.referent.RowType.{RowType}
use Rattle.jr_defs.specs.Referents.{Table}
use Rattle.jr_defs.specs.Enclosing.{ConstructorOf}
use Rattle.jr_plain.specs.Search.{any_below}
use Rattle.jr_plain.specs.Same.{same_role}
use Rattle.jr_plain.specs.Enclosing.{is_body_of, is_constructor_of, constructed_class}
use Rattle.jr_plain.specs.Types.{parameters, are_same_types}
use Rattle.jr_plain.proofs.Tests.{both, like}
use Rattle.jr_plain.proofs.Searches.{any}
use Rattle.jr_plain.proofs.Same.{role_tells, types_tell}
use Rattle.jr_plain.proofs.Enclosed.{constructor_tells, constructed_finds}
use Rattle.jr_plain.proofs.Modified.{found_tells}
use Rattle.jr_places.specs.declared.chains.Entry.{Entry}
use Rattle.jr_places.specs.declared.numbering.Numbering.{Numbering}
use Rattle.jr_places.specs.Numbers.{number_in, IsOneToOne, IsNumbering, Keeps, IsNumberOf}
use Rattle.jr_places.proofs.Numbered.{number_kept, one_number, one_list}
use Rattle.jr_supers.specs.Signatures.{kind_of, row_of, with_type, with_types, nth_of, Continues}
use Rattle.jr_supers.specs.Tabled.{is_callable}
use Rattle.jr_supers.proofs.Subtyped.{one_test}
use Rattle.jr_members.specs.Keys.{entry_for, entry_list, entries_of, entry_of}
use Rattle.jr_members.proofs.Declaring.{entries_more}
use Rattle.jr_lookup.proofs.Scoping.{is_keyed, HasRows}
use Rattle.jr_name_rules.specs.Found.{found}
use Rattle.jr_name_rules.specs.DeclarationTests.{is_second_constructor}
use Rattle.jr_member_faults.specs.declared.twice.Declared as code
use Rattle.jr_member_faults.specs.Twice.{entries_for, has_entry, with_entry, size_of, IsListNumber, NumbersList, NumbersConstructor, list_entry, AreConstructorsTo}
use Rattle.jr_member_faults.proofs.Headed.{listed_before}
use Rattle.jr_member_faults.proofs.Doubled.{both_then, entry_put, entry_left}

-- ---- lists of types by their numbers

abbrev words : List Element
words = element.Boolean ∷ element.Byte ∷ element.Short ∷ element.Char ∷ element.Int ∷ element.Long ∷ element.Null ∷ element.Void ∷ []

-- the types that such a list of numbers is of
abbrev types_back : List ℕ → List RowType
types_back (dims ∷ row ∷ kind ∷ rest) = types_back rest ++ record { element = slice_index_or words kind (element.Class row); dims = dims } ∷ []
types_back _ = []

back_element : (e : Element) → slice_index_or words (kind_of e) (element.Class (row_of e)) ≡ e
back_element element.Boolean = refl
back_element element.Byte = refl
back_element element.Short = refl
back_element element.Char = refl
back_element element.Int = refl
back_element element.Long = refl
back_element element.Null = refl
back_element element.Void = refl
back_element (element.Class c) = refl

back_types : (all : List RowType) (xs : List ℕ) → types_back (with_types all xs) ≡ types_back xs ++ all
back_types [] xs = sym (append-nil (types_back xs))
back_types (a ∷ more) xs = back_types more (with_type a xs) ∙ ap (λ e. (types_back xs ++ record { element = e; dims = a.dims } ∷ []) ++ more) (back_element a.element) ∙ append_assoc (types_back xs) (a ∷ []) more

same_lists : (a b : List RowType) → with_types a [] ≡ with_types b [] → a ≡ b
same_lists a b e = sym (back_types a []) ∙ ap types_back e ∙ back_types b []

-- lists of types are the same where their numbers are
lists_tell : (numbers : ℕ → ℕ → Option ℕ) → IsOneToOne numbers → (a b : Option (List RowType)) (x y : Option ℕ) → IsListNumber numbers a x → IsListNumber numbers b y → Decides (are_same_types a b) ((n : ℕ) × (x ≡ Some n) × (y ≡ Some n))
lists_tell numbers one None b x y h k = (λ e. absurd (false≢true e), λ q. absurd (none-some q.0 (sym h ∙ q.1)))
lists_tell numbers one (Some a) None x y h k = (λ e. absurd (false≢true e), λ q. absurd (none-some q.0 (sym k ∙ q.2)))
lists_tell numbers one (Some a) (Some b) x y h k = like (types_tell a b)
    (λ e. (k.0, h.1 ∙ ap Some (one_number numbers h.0 k.0 (with_types b []) (subst (λ l. IsNumberOf numbers h.0 (with_types l [])) e h.2) k.2), k.1))
    (λ q. same_lists a b (one_list numbers one h.0 (with_types a []) (with_types b []) h.2 (subst (λ m. IsNumberOf numbers m (with_types b [])) (same_Some k.0 h.0 (sym k.1 ∙ q.2 ∙ sym q.1 ∙ h.1)) k.2)))

list_kept : (old new : Numbering) → Keeps old new → (types : Option (List RowType)) (number : Option ℕ) → IsListNumber (number_in old) types number → IsListNumber (number_in new) types number
list_kept old new kept None number h = h
list_kept old new kept (Some types) number h = (h.0, h.1, number_kept (number_in old) (number_in new) kept h.0 (with_types types []) h.2)

-- ---- the number of one list

-- the types, where they are found
abbrev pub types_in : Option (List RowType) → List RowType
types_in None = []
types_in (Some all) = all

pub drop_type : (o : Option (List RowType)) (nth : ℕ) (ty : RowType) → Some ty ≡ nth_of o nth → drop nth (types_in o) ≡ ty ∷ drop (nth + 1) (types_in o)
drop_type None nth ty e = absurd (none-some ty (sym e))
drop_type (Some all) nth ty e = drop_more all nth ty (slice_get_within all nth ty (sym e)) ∙ ap (λ x. x ∷ drop (nth + 1) all) (get_or_from_slice_get all nth ty ty (sym e))

-- each of so many is there
pub no_lost_type : (o : Option (List RowType)) (count nth : ℕ) → Some count ≡ size_of o → nth < count → None ≡ nth_of o nth → ⊥
no_lost_type None count nth size lt e = none-some count (sym size)
no_lost_type (Some (all)) count nth size lt e = let same = same_Some count (length all) size in none-some (slice_index_or all nth record { element = element.Null; dims = 0 }) (e ∙ slice_get-get_or all nth record { element = element.Null; dims = 0 } (omega arith))

pub all_types : (o : Option (List RowType)) (count nth : ℕ) → Some count ≡ size_of o → count ≡ nth → length (types_in o) ≡ nth
all_types None count nth size e = absurd (none-some count (sym size))
all_types (Some all) count nth size e = sym (same_Some count (length all) size) ∙ e

pub list_numbered : {old new : Numbering} (o : Option (List RowType)) (count number : ℕ) → Some count ≡ size_of o → Continues old new 0 number (with_types (types_in o)) → NumbersList old new o (Some number)
list_numbered None count number size c = absurd (none-some count (sym size))
list_numbered (Some all) count number size c = record { is = (number, refl, c.is [] IsNumberOf.empty); kept = c.kept; counted = c.counted }

pub none_numbered : {old : Numbering} (o : Option (List RowType)) → None ≡ size_of o → IsNumbering old → NumbersList old old o None
none_numbered None size counted = record { is = refl; kept = λ list item n e. e; counted = counted }
none_numbered (Some all) size counted = absurd (none-some (length all) size)

pub constructor_callable : (r : Role) → same_role r role.Constructor ≡ true → is_callable r ≡ true
constructor_callable r e = ap is_callable ((role_tells r role.Constructor).0 e)

-- ---- the table of constructors

module _ (p : Rows) (number : ℕ → Option ℕ) where
  list_rows : HasRows (list_entry p number)
  list_rows k e is = by (constructed_class p k) (number k) is
    where
      by : (c n : Option ℕ) → entry_of k c n ≡ Some e → e.row ≡ k
      by None n same = absurd (none-some e same)
      by (Some c) None same = absurd (none-some e same)
      by (Some c) (Some n) same = ap (λ z. z.row) (sym (same_Some (entry_for c n k) e same))

  -- a constructor under a key
  abbrev IsUnder : ℕ → ℕ → ℕ → Type 0
  IsUnder c x d = (constructed_class p d ≡ Some c) × (number d ≡ Some x)

  keyed_tells : (c x d : ℕ) → Decides (is_keyed (list_entry p number d) c x) (IsUnder c x d)
  keyed_tells c x d = by (constructed_class p d) (number d) refl refl
    where
      by : (o n : Option ℕ) → constructed_class p d ≡ o → number d ≡ n → Decides (is_keyed (entry_of d o n) c x) (IsUnder c x d)
      by None n eo en = (λ h. absurd (false≢true h), λ h. absurd (none-some c (sym eo ∙ h.0)))
      by (Some a) None eo en = (λ h. absurd (false≢true h), λ h. absurd (none-some x (sym en ∙ h.1)))
      by (Some a) (Some k) eo en = like (both (Decides-eqb a c) (Decides-eqb k x)) (λ h. (eo ∙ ap Some h.0, en ∙ ap Some h.1)) (λ h. (same_Some a c (sym eo ∙ h.0), same_Some k x (sym en ∙ h.1)))

module _ (p : Rows) (t : Table) (number : ℕ → Option ℕ) (numbers : ℕ → ℕ → Option ℕ) (one : IsOneToOne numbers) (n : ℕ) (lt : n < length p) (own : Option ℕ)
    (each : (k : ℕ) → k < n → role_at p k ≡ role.Constructor → IsListNumber numbers (parameters p t k) (number k)) (at : IsListNumber numbers (parameters p t n) own) where
  abbrev IsBeside : ℕ → Type 0
  IsBeside d = (c : ℕ) × ConstructorOf p c d × ConstructorOf p c n

  abbrev IsOne : ℕ → Type 0
  IsOne d = (x : ℕ) × (number d ≡ Some x) × (own ≡ Some x)

  abbrev Twin : Type 0
  Twin = (d : ℕ) × (d < n) × (IsBeside d × IsOne d)

  abbrev is_twin : ℕ → Bool
  is_twin d = found (constructed_class p d) (λ c. is_constructor_of p c n) && nat_lt d n && are_same_types (parameters p t d) (parameters p t n)

  beside_tells : (d : ℕ) → Decides (found (constructed_class p d) (λ c. is_constructor_of p c n) && nat_lt d n) (IsBeside d × (d < n))
  beside_tells d = both (found_tells (λ c. ConstructorOf p c d) (λ c. is_constructor_of p c n) (λ c. ConstructorOf p c n) (λ c. constructor_tells p c n) (constructed_class p d) (constructed_finds p d)) (Decides-ltb d n)

  rule_tells : Decides (any_below (length p) is_twin) Twin
  rule_tells = like (any is_twin (λ d. (IsBeside d × (d < n)) × IsOne d)
      (λ d. both_then (beside_tells d) (λ h. lists_tell numbers one (parameters p t d) (parameters p t n) (number d) own (each d h.1 h.0.1.constructor) at)) (length p))
      (λ h. (h.0, h.2.0.1, (h.2.0.0, h.2.1)))
      (λ h. let less = h.1 in (h.0, omega arith, ((h.2.0, h.1), h.2.1)))

  listed_tells : (o x : Option ℕ) → constructed_class p n ≡ o → own ≡ x → Decides (has_entry (entries_of (list_entry p number) n) (entry_of n o x)) Twin
  listed_tells None x eo ex = (λ h. absurd (false≢true h), λ h. absurd (none-some h.2.0.0 (sym eo ∙ (constructed_finds p n h.2.0.0).1 h.2.0.2)))
  listed_tells (Some c) None eo ex = (λ h. absurd (false≢true h), λ h. absurd (none-some h.2.1.0 (sym ex ∙ h.2.1.2)))
  listed_tells (Some c) (Some x) eo ex = subst (λ b. Decides b Twin) (sym (listed_before (list_entry p number) (list_rows p number) c x n))
      (like (any (λ d. is_keyed (list_entry p number d) c x) (IsUnder p number c x) (keyed_tells p number c x) n)
      (λ h. (h.0, h.1, ((c, (constructed_finds p h.0 c).0 h.2.0, (constructed_finds p n c).0 eo), (x, h.2.1, ex))))
      (λ h. let over = (constructed_finds p h.0 h.2.0.0).1 h.2.0.1 ∙ sym ((constructed_finds p n h.2.0.0).1 h.2.0.2) ∙ eo in (h.0, h.1, (over, h.2.1.1 ∙ sym h.2.1.2 ∙ ex))))

  -- the table tells whether there is one before
  twin_listed : has_entry (entries_of (list_entry p number) n) (entry_of n (constructed_class p n) own) ≡ any_below (length p) is_twin
  twin_listed = one_test _ _ Twin (listed_tells (constructed_class p n) own refl refl) rule_tells

-- ---- the rule

module _ (p : Rows) (t : Table) (n : ℕ) (lists : Numbering) (all : List Entry) (h : AreConstructorsTo p t n lists all) where
  pub constructor_told : n < length p → (mid : Numbering) (declared : code.Declared) (r : Role) (entry : Option Entry) (is_there : Bool) → r ≡ role_at p n → declared.constructors ≡ all
      → (same_role (role_at p n) role.Constructor ≡ true → NumbersConstructor p t lists mid n entry) → is_there ≡ has_entry (entries_for declared r) entry → (same_role r role.Constructor && is_there) ≡ is_second_constructor p t n
  constructor_told lt mid declared r entry is_there is same numbered there = ap₂ (λ q b. same_role q role.Constructor && b) is (there ∙ ap (λ q. has_entry (entries_for declared q) entry) is) ∙ by (same_role (role_at p n) role.Constructor) refl
    where
      by : (b : Bool) → same_role (role_at p n) role.Constructor ≡ b
          → (b && has_entry (entries_for declared (role_at p n)) entry) ≡ (b && any_below (length p) (λ d. found (constructed_class p d) (λ c. is_constructor_of p c n) && nat_lt d n && are_same_types (parameters p t d) (parameters p t n)))
      by false e = refl
      by true e = let k = numbered e in ap (λ q. has_entry (entries_for declared q) entry) ((role_tells (role_at p n) role.Constructor).0 e) ∙ ap₂ has_entry (same ∙ h.constructors_are) k.entry_is
          ∙ twin_listed p t h.number (number_in mid) k.numbers.counted.one n lt k.number (λ d less is. list_kept lists mid k.numbers.kept (parameters p t d) (h.number d) (h.each d less is)) k.numbers.is

  -- a row that is no constructor
  pub constructors_past : same_role (role_at p n) role.Constructor ≡ false → AreConstructorsTo p t (n + 1) lists all
  constructors_past apart = record {
    number = h.number;
    counted = h.counted;
    each = λ k less is. ⊎_elim (λ e. absurd (false≢true (sym apart ∙ ap (λ q. same_role q role.Constructor) (ap (role_at p) (sym e) ∙ is)))) (λ other. h.each k (omega arith) is) (cases_eq k n);
    constructors_are = entries_more (list_entry p h.number) n all all None h.constructors_are
        (sym (ap (λ b. entry_of n (cond (b && is_body_of p (parent p (parent p n)) (parent p n)) (Some (parent p (parent p n))) None) (h.number n)) apart)) (sym (append-nil all));
  }

  -- one constructor more
  constructors_new : (mid : Numbering) (more : List Entry) (entry : Option Entry) → NumbersConstructor p t lists mid n entry → more ≡ all ++ entry_list entry → AreConstructorsTo p t (n + 1) mid more
  constructors_new mid more entry k pushed = record {
    number = given;
    counted = k.numbers.counted;
    each = λ d less is. ⊎_elim (λ e. here d e) (λ other. there d (omega arith) is) (cases_eq d n);
    constructors_are = entries_more (list_entry p given) n all more entry (h.constructors_are ∙ entries_below (list_entry p h.number) (list_entry p given) n (λ d less. ap (entry_of d (constructed_class p d)) (sym (old_one d less))))
        (k.entry_is ∙ ap (entry_of n (constructed_class p n)) (sym new_one)) pushed;
  }
    where
      given : ℕ → Option ℕ
      given d = cond (nat_eq d n) k.number (h.number d)

      new_one : given n ≡ k.number
      new_one = ap (λ b. cond b k.number (h.number n)) ((Decides-eqb n n).1 refl)

      old_by : (d : ℕ) → d < n → (b : Bool) → Decides b (d ≡ n) → cond b k.number (h.number d) ≡ h.number d
      old_by d less false tells = refl
      old_by d less true tells = let e = tells.0 refl in absurd (omega arith)

      old_one : (d : ℕ) → d < n → given d ≡ h.number d
      old_one d less = old_by d less (nat_eq d n) (Decides-eqb d n)

      here : (d : ℕ) → d ≡ n → IsListNumber (number_in mid) (parameters p t d) (given d)
      here d e = subst (λ x. IsListNumber (number_in mid) (parameters p t x) (given x)) (sym e) (subst (IsListNumber (number_in mid) (parameters p t n)) (sym new_one) k.numbers.is)

      there : (d : ℕ) → d < n → role_at p d ≡ role.Constructor → IsListNumber (number_in mid) (parameters p t d) (given d)
      there d less is = subst (IsListNumber (number_in mid) (parameters p t d)) (sym (old_one d less)) (list_kept lists mid k.numbers.kept (parameters p t d) (h.number d) (h.each d less is))

      entries_below : (f g : ℕ → Option Entry) (m : ℕ) → ((d : ℕ) → d < m → f d ≡ g d) → entries_of f m ≡ entries_of g m
      entries_below f g zero same = refl
      entries_below f g (suc m) same = ap₂ (λ l o. l ++ entry_list o) (entries_below f g m (λ d less. same d (omega arith))) (same m (omega arith))

  pub constructors_more : (mid : Numbering) (more : List Entry) (r : Role) (entry : Option Entry) → r ≡ role_at p n → (same_role (role_at p n) role.Constructor ≡ true → NumbersConstructor p t lists mid n entry)
      → (same_role (role_at p n) role.Constructor ≡ false → mid ≡ lists) → more ≡ with_entry (same_role r role.Constructor) all entry → AreConstructorsTo p t (n + 1) mid more
  constructors_more mid more r entry is numbered kept pushed = by (same_role (role_at p n) role.Constructor) refl (pushed ∙ ap (λ q. with_entry (same_role q role.Constructor) all entry) is)
    where
      by : (b : Bool) → same_role (role_at p n) role.Constructor ≡ b → more ≡ with_entry b all entry → AreConstructorsTo p t (n + 1) mid more
      by true e put = constructors_new mid more entry (numbered e) (put ∙ entry_put all entry)
      by false e put = subst (λ l. AreConstructorsTo p t (n + 1) l more) (sym (kept e)) (subst (AreConstructorsTo p t (n + 1) lists) (sym (put ∙ entry_left all entry)) (constructors_past e))

pub constructors_start : (p : Rows) (t : Table) (lists : Numbering) (all : List Entry) → IsNumbering lists → all ≡ [] → AreConstructorsTo p t 0 lists all
constructors_start p t lists all counted none = record { number = λ k. None; counted = counted; each = λ k less. absurd (omega arith); constructors_are = none }
