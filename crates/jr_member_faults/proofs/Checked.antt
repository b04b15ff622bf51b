-- Checked classes that methods declare, by the names that are kept of each.
use Rattle.std.proofs.Common.{◌≡◌, refl, sym, ◌∙◌, ap, ap₂, subst, add-one, ℕ, ◌+◌, ◌<◌, Bool, true, false, cond, not, ◌&&◌, ◌||◌, List, ◌++◌, length, codes, Some, None, nat_eq, Decides}
use Rattle.std.specs.List.{list_any}
use Rattle.std.proofs.lemmas.Bool.{and_parts, and_from}
use Rattle.std.proofs.lemmas.Bool.Decides.{Decides-eqb}
use Rattle.std.proofs.lemmas.Option.{none-some, same_Some}
use Rattle.jr_base.specs.declared.text.Text.{Text}
use Rattle.jr_tree.specs.declared.label.Role.TheVariants as role
use Rattle.jr_tree.specs.Rows.{Rows, label, parent, role_at}
use Rattle.jr_defs.specs.declared.referent.Referent.{Referent}
use Rattle.jr_defs.specs.declared.referent.Referent.TheVariants.{Unbound, Ambiguous, ArrayLength, Package, Declared}
use Rattle.jr_defs.specs.Referents.{Table}
use Rattle.jr_defs.specs.Supertypes.{AtOrAbove}
use Rattle.jr_plain.specs.Headed.{IsHeaded}
use Rattle.jr_plain.specs.Search.{any_below, all_such, Lists}
use Rattle.jr_plain.specs.Same.{same_role}
use Rattle.jr_plain.specs.Declarations.{is_prelude}
use Rattle.jr_plain.specs.Supertypes.{declaration, is_at_or_above}
use Rattle.jr_plain.proofs.Tests.{itself, both, like}
use Rattle.jr_plain.proofs.Searches.{any, such, some_of}
use Rattle.jr_plain.proofs.Same.{role_tells}
use Rattle.jr_plain.proofs.Supertyped.{at_or_above_tells}
use Rattle.jr_places.specs.declared.chains.Entry.{Entry}
use Rattle.jr_supers.specs.Tabled.{declared}
use Rattle.jr_supers.proofs.Subtyped.{one_test}
use Rattle.jr_members.specs.Each.{if_such}
use Rattle.jr_members.specs.Keys.{entry_for, entries_of}
use Rattle.jr_members.specs.Named.{under}
use Rattle.jr_member_rules.specs.Throwing as plain
use Rattle.jr_member_faults.specs.declared.throwing.Thrown as code
use Rattle.jr_member_faults.specs.Thrown.{is_thrown_row, thrown_entry, AreThrown, is_name_not_allowed, is_other_class, throws_others}
use Rattle.jr_member_faults.proofs.Entries.{entries_tell}

-- ---- lists of the same

-- two lists of what P holds of have the same that passes
pub same_lists : (P : ℕ → Type 0) (xs ys : List ℕ) → Lists xs P → Lists ys P → (test : ℕ → Bool) → list_any test xs ≡ list_any test ys
same_lists P xs ys one two test = one_test (list_any test xs) (list_any test ys) ((k : ℕ) × P k × (test k ≡ true))
    (some_of test (λ k. test k ≡ true) (λ k. itself (test k)) xs one) (some_of test (λ k. test k ≡ true) (λ k. itself (test k)) ys two)

-- the numbers that a list has, as those below a number
pub below_is : (is : ℕ → Bool) (test : ℕ → Bool) (n : ℕ) (xs : List ℕ) → Lists xs (λ k. (k < n) × (is k ≡ true)) → list_any test xs ≡ any_below n (λ k. is k && test k)
below_is is test n xs listed = one_test (list_any test xs) (any_below n (λ k. is k && test k)) ((k : ℕ) × (k < n) × ((is k ≡ true) × (test k ≡ true)))
    (like (some_of test (λ k. test k ≡ true) (λ k. itself (test k)) xs listed) (λ h. (h.0, h.1.0, (h.1.1, h.2))) (λ h. (h.0, (h.1, h.2.0), h.2.1)))
    (any (λ k. is k && test k) (λ k. (is k ≡ true) × (test k ≡ true)) (λ k. both (itself (is k)) (itself (test k))) n)

-- one number more
pub such_more : (test : ℕ → Bool) (n : ℕ) (all more : List ℕ) (is : Bool) → all ≡ all_such n test → is ≡ test n → more ≡ all ++ if_such is n → more ≡ all_such (n + 1) test
such_more test n all more is h such pushed = rw add-one (pushed ∙ ap₂ (λ xs b. xs ++ if_such b n) h such)

-- ---- one declaration

or_none : (b : Bool) → b ≡ (b || false)
or_none true = refl
or_none false = refl

pub no_declaration : (a : Referent) (test : ℕ → Bool) → declared a ≡ None → false ≡ list_any test (declaration a)
no_declaration (Declared n level) test e = absurd (none-some n (sym e))
no_declaration Unbound test e = refl
no_declaration Ambiguous test e = refl
no_declaration ArrayLength test e = refl
no_declaration Package test e = refl

pub one_declaration : (a : Referent) (c : ℕ) (b : Bool) (test : ℕ → Bool) → declared a ≡ Some c → b ≡ test c → b ≡ list_any test (declaration a)
one_declaration (Declared n level) c b test e h = h ∙ ap test (sym (same_Some n c e)) ∙ or_none (test n)
one_declaration Unbound c b test e h = absurd (none-some c e)
one_declaration Ambiguous c b test e h = absurd (none-some c e)
one_declaration ArrayLength c b test e h = absurd (none-some c e)
one_declaration Package c b test e h = absurd (none-some c e)

-- ---- names of thrown classes

module _ (p : Rows) where
  thrown_row : (d : ℕ) (e : Entry) → thrown_entry p d ≡ Some e → e.row ≡ d
  thrown_row d e = by (is_thrown_row p d)
    where
      by : (b : Bool) → cond b (Some (entry_for (parent p d) 0 d)) None ≡ Some e → e.row ≡ d
      by false h = absurd (none-some e h)
      by true h = ap (λ x. x.row) (sym (same_Some (entry_for (parent p d) 0 d) e h))

  -- the names under a method
  pub thrown_listed : (m : ℕ) → role_at p m ≡ role.Method → Lists (under (entries_of (thrown_entry p) (length p)) m 0) (λ n. (n < length p) × (plain.is_thrown_name p m n ≡ true))
  thrown_listed m method n = like (entries_tell (thrown_entry p) thrown_row m 0 (length p) n) (λ h. (h.0, out (is_thrown_row p n) refl h.1)) (λ h. (h.0, into h.1))
    where
      out : (b : Bool) → is_thrown_row p n ≡ b → (e : Entry) × (thrown_entry p n ≡ Some e) × ((e.first ≡ m) × (e.second ≡ 0)) → plain.is_thrown_name p m n ≡ true
      out true is h = let parts = and_parts (plain.is_other_name (label p n)) (same_role (role_at p (parent p n)) role.Method) is in
          let own : parent p n ≡ m = ap (λ e. e.first) (same_Some (entry_for (parent p n) 0 n) h.0 (sym (ap (λ b. cond b (Some (entry_for (parent p n) 0 n)) None) is) ∙ h.1)) ∙ h.2.0 in
          and_from (nat_eq (parent p n) m) (plain.is_other_name (label p n)) ((Decides-eqb (parent p n) m).1 own) parts.0
      out false is h = absurd (none-some h.0 (sym (ap (λ b. cond b (Some (entry_for (parent p n) 0 n)) None) is) ∙ h.1))

      into : plain.is_thrown_name p m n ≡ true → (e : Entry) × (thrown_entry p n ≡ Some e) × ((e.first ≡ m) × (e.second ≡ 0))
      into h = let parts = and_parts (nat_eq (parent p n) m) (plain.is_other_name (label p n)) h in let own : parent p n ≡ m = (Decides-eqb (parent p n) m).0 parts.0 in (
        entry_for (parent p n) 0 n,
        ap (λ b. cond b (Some (entry_for (parent p n) 0 n)) None) (and_from (plain.is_other_name (label p n)) (same_role (role_at p (parent p n)) role.Method) parts.1 ((role_tells (role_at p (parent p n)) role.Method).1 (ap (role_at p) own ∙ method))),
        (own, refl),
      )

  module _ (t : Table) (thrown : code.Thrown) (are : AreThrown p thrown) where
    names_listed : (m : ℕ) (given : List ℕ) → role_at p m ≡ role.Method → given ≡ under thrown.names m 0 → Lists given (λ n. (n < length p) × (plain.is_thrown_name p m n ≡ true))
    names_listed m given method is = subst (λ xs. Lists xs (λ n. (n < length p) × (plain.is_thrown_name p m n ≡ true))) (sym (is ∙ ap (λ l. under l m 0) are.names_are)) (thrown_listed m method)

    pub allows_is : (m c : ℕ) (is : Bool) (given : List ℕ) → role_at p m ≡ role.Method → given ≡ under thrown.names m 0 → is ≡ list_any (λ n. list_any (λ s. is_at_or_above p t c s) (declaration (t n))) given → is ≡ plain.allows p t m c
    allows_is m c is given method same e = e ∙ below_is (plain.is_thrown_name p m) (λ n. list_any (λ s. is_at_or_above p t c s) (declaration (t n))) (length p) given (names_listed m given method same)

    pub declares_is : (m k : ℕ) (is : Bool) (given : List ℕ) → role_at p m ≡ role.Method → given ≡ under thrown.names m 0 → is ≡ list_any (is_name_not_allowed p t k) given → is ≡ plain.declares_more p t m k
    declares_is m k is given method same e = e ∙ below_is (plain.is_thrown_name p m) (is_name_not_allowed p t k) (length p) given (names_listed m given method same)

    pub others_is : (m : ℕ) (is : Bool) (given : List ℕ) → role_at p m ≡ role.Method → given ≡ under thrown.names m 0 → is ≡ list_any (is_other_class p t) given → is ≡ throws_others p t m
    others_is m is given method same e = e ∙ below_is (plain.is_thrown_name p m) (is_other_class p t) (length p) given (names_listed m given method same)

    pub below_by : (x : Text) (c : ℕ) (xs : List ℕ) → xs ≡ all_such (length p) (is_prelude p x) → list_any (λ s. is_at_or_above p t c s) xs ≡ plain.is_below p t x c
    below_by x c xs is = ap (list_any (λ s. is_at_or_above p t c s)) is ∙ below_is (is_prelude p x) (λ s. is_at_or_above p t c s) (length p) (all_such (length p) (is_prelude p x)) (such (is_prelude p x) (length p))

    pub checked_is : (c : ℕ) (a b d : Bool) → a ≡ list_any (λ s. is_at_or_above p t c s) thrown.throwables.items → b ≡ list_any (λ s. is_at_or_above p t c s) thrown.errors.items
        → d ≡ list_any (λ s. is_at_or_above p t c s) thrown.runtimes.items → (a && (not b && not d)) ≡ plain.is_checked p t c
    checked_is c a b d e f g = ap₂ (λ a b. a && b) (e ∙ below_by (codes "Throwable") c thrown.throwables.items are.throwables_are)
        (ap₂ (λ b d. not b && not d) (f ∙ below_by (codes "Error") c thrown.errors.items are.errors_are) (g ∙ below_by (codes "RuntimeException") c thrown.runtimes.items are.runtimes_are))

module _ (p : Rows) (t : Table) (headed : IsHeaded p) where
  pub above_is : (c s : ℕ) (is : Bool) → Decides is (AtOrAbove p t c s) → is ≡ is_at_or_above p t c s
  above_is c s is d = one_test is (is_at_or_above p t c s) (AtOrAbove p t c s) d (at_or_above_tells p t headed c s)
