-- The scopes of locals, parameters and labels, one row at a time.
use Rattle.std.proofs.Common.{◌≡◌, ◌⊎◌, refl, sym, ◌∙◌, ap, ap₂, subst, inl, inr, ⊎_elim, arith, ℕ, ◌+◌, ◌<◌, ◌^◌, Bool, true, false, cond, ◌&&◌, List, [], ◌++◌, length, Option, Some, None, is_some, nat_eq, nat_lt, replicate, Decides}
use Rattle.std.specs.Prelude.{bytes_eq, unwrap_or}
use Rattle.std.proofs.lemmas.Bool.{false≢true, cases_eq}
use Rattle.std.proofs.lemmas.Bool.Decides.{Decides-eqb, Decides-ltb}
use Rattle.std.proofs.lemmas.Option.{none-some, same_Some}
use Rattle.std.proofs.lemmas.Slice.Eq.{bytes_eq-Decides}
use Rattle.jr_tree.specs.declared.label.Label.TheVariants as is
use Rattle.jr_tree.specs.declared.label.Role.{Role}
use Rattle.jr_tree.specs.declared.label.Role.TheVariants as role
use Rattle.jr_tree.specs.Rows.{Rows, label, name, parent, end, role_at}
use Rattle.jr_tree.specs.Tree.{IsTree}
use Rattle.jr_defs.specs.Scope.{InLocalScope, InParameterScope, InLabelScope, InOneList}
use Rattle.jr_plain.specs.Search.{has, any_below, first_below, Lists}
use Rattle.jr_plain.specs.Same.{same_role}
use Rattle.jr_plain.specs.Scope.{is_block}
use Rattle.jr_plain.proofs.Tests.{both, either, like}
use Rattle.jr_plain.proofs.Searches.{any, finds_first}
use Rattle.jr_plain.proofs.Same.{role_tells}
use Rattle.jr_plain.proofs.Bounds.{bounded}
use Rattle.jr_tree.specs.Labels.{role_of}
use Rattle.jr_places.specs.declared.chains.Entry.{Entry}
use Rattle.jr_places.specs.Chains.{last_under}
use Rattle.jr_places.specs.Names.{name_row}
use Rattle.jr_places.proofs.Packing.{name_tells}
use Rattle.jr_supers.specs.Above.{is_some_item}
use Rattle.jr_supers.proofs.Subtyped.{one_test}
use Rattle.jr_members.specs.Each.{AreBelow}
use Rattle.jr_members.specs.Keys.{falling, entry_for, entry_list, entries_of}
use Rattle.jr_members.specs.Named.{under}
use Rattle.jr_members.specs.Sources.{ArePlaced}
use Rattle.jr_members.proofs.Keyed.{rows_last}
use Rattle.jr_members.proofs.Declaring.{falling_same, falling_lists, entries_more, some_named}
use Rattle.jr_lookup.specs.Scopes.{entry_if, parameter_entry}
use Rattle.jr_lookup.proofs.Scoping.{is_keyed, HasRows, falling_entries}
use Rattle.jr_name_rules.specs.DeclarationTests as plain
use Rattle.jr_name_rules.proofs.Declarations.{InScopeOf, SecondLocal, SecondLabel, second_local_tells, second_label_tells}
use Rattle.jr_name_faults.specs.declared.locals.Locals as code
use Rattle.jr_name_faults.specs.Ends.{end_in, opened, all_opened, AreEndsOf}
use Rattle.jr_name_faults.specs.Locals.{OpensAs, local_end, OpensParameter, OpensVariable, OpensLabel, with_scope, AreLocalsTo, IsBefore, IsEntered, is_listed, is_inside}
use Rattle.jr_name_faults.proofs.Opening.{ends_start, ends_like, ends_more, ends_all}

-- ---- names

name_below : (p : Rows) (n : ℕ) → n < length p → name_row p n < length p
name_below p n lt = by (first_below n (λ k. bytes_eq (name p n) (name p k))) refl
  where
    by : (o : Option ℕ) → first_below n (λ k. bytes_eq (name p n) (name p k)) ≡ o → unwrap_or o n < length p
    by None e = lt
    by (Some k) e = let first = (finds_first (λ k. bytes_eq (name p n) (name p k)) (λ k. name p n ≡ name p k) (λ k. bytes_eq-Decides (name p n) (name p k)) n k).0 e in let less = first.0 in omega arith

pub names_same : (p : Rows) (d n : ℕ) → name_row p d ≡ name_row p n → name p d ≡ name p n
names_same p d n e = (name_tells p d n).0 ((Decides-eqb (name_row p d) (name_row p n)).1 e)

pub rows_same : (p : Rows) (d n : ℕ) → name p d ≡ name p n → name_row p d ≡ name_row p n
rows_same p d n e = (Decides-eqb (name_row p d) (name_row p n)).0 ((name_tells p d n).1 e)

-- ---- one declaration more

module _ (p : Rows) (kind : Role) (end_of : ℕ → ℕ) (R : ℕ → ℕ → Type 0) where
  abbrev Opens : ℕ → ℕ → ℕ → Type 0
  Opens n d e = OpensAs p kind end_of n d e ⊎ R d e

  scope_more : (n x : ℕ) (ends : List ℕ) → AreEndsOf p ends (Opens n) → x ≡ name_row p n → n < length p → AreEndsOf p (with_scope p kind end_of x n ends) (Opens (n + 1))
  scope_more n x ends h named lt = by (same_role (role_at p n) kind) (role_tells (role_at p n) kind)
    where
      later : {d e : ℕ} → Opens n d e → Opens (n + 1) d e
      later (inl k) = let lt = k.before in inl (record { role_is = k.role_is; before = omega arith; ends = k.ends })
      later (inr r) = inr r

      earlier : {d e : ℕ} → d < n → OpensAs p kind end_of (n + 1) d e → Opens n d e
      earlier less k = inl (record { role_is = k.role_is; before = less; ends = k.ends })

      by : (b : Bool) → Decides b (role_at p n ≡ kind) → AreEndsOf p (cond b (opened ends x (end_of n)) ends) (Opens (n + 1))
      by true is = ends_like (ends_more n x (end_of n) h (sym named) (subst (λ y. y < length p) (sym named) (name_below p n lt))) out into
        where
          out : (d e : ℕ) → Opens n d e ⊎ ((n ≡ d) × (end_of n ≡ e)) → Opens (n + 1) d e
          out d e (inl k) = later k
          out d e (inr k) = inl (record { role_is = subst (λ d. role_at p d ≡ kind) k.0 (is.0 refl); before = let same = k.0 in omega arith; ends = ap end_of (sym k.0) ∙ k.1 })

          into : (d e : ℕ) → Opens (n + 1) d e → Opens n d e ⊎ ((n ≡ d) × (end_of n ≡ e))
          into d e (inl k) = ⊎_elim (λ same. inr (same, ap end_of same ∙ k.ends)) (λ apart. let lt = k.before in inl (earlier (omega arith) k)) (cases_eq n d)
          into d e (inr r) = inl (inr r)
      by false is = ends_like h (λ d e. later) into
        where
          into : (d e : ℕ) → Opens (n + 1) d e → Opens n d e
          into d e (inl k) = ⊎_elim (λ same. absurd (false≢true (is.1 (subst (λ d. role_at p d ≡ kind) (sym same) k.role_is)))) (λ apart. let lt = k.before in earlier (omega arith) k) (cases_eq n d)
          into d e (inr r) = inr r

-- ---- parameters

parameter_row : (p : Rows) (x : ℕ → ℕ) → HasRows (λ d. parameter_entry p (x d) d)
parameter_row p x k e = by (same_role (role_at p k) role.Parameter)
  where
    by : (b : Bool) → entry_if b (parent p k) (x k) k ≡ Some e → e.row ≡ k
    by false same = absurd (none-some e same)
    by true same = ap (λ z. z.row) (sym (same_Some (entry_for (parent p k) (x k) k) e same))

parameter_key : (p : Rows) (c x y d : ℕ) → is_keyed (parameter_entry p y d) c x ≡ (same_role (role_at p d) role.Parameter && (nat_eq (parent p d) c && nat_eq y x))
parameter_key p c x y d = by (same_role (role_at p d) role.Parameter)
  where
    by : (b : Bool) → is_keyed (entry_if b (parent p d) y d) c x ≡ (b && (nat_eq (parent p d) c && nat_eq y x))
    by false = refl
    by true = refl

-- a parameter of the list below c, whose name is x
abbrev is_parameter_as : Rows → (ℕ → ℕ) → ℕ → ℕ → ℕ → Bool
is_parameter_as p y c x d = same_role (role_at p d) role.Parameter && (nat_eq (parent p d) c && nat_eq (y d) x)

abbrev IsParameterAs : Rows → (ℕ → ℕ) → ℕ → ℕ → ℕ → Type 0
IsParameterAs p y c x d = (role_at p d ≡ role.Parameter) × ((parent p d ≡ c) × (y d ≡ x))

as_tells : (p : Rows) (y : ℕ → ℕ) (c x d : ℕ) → Decides (is_parameter_as p y c x d) (IsParameterAs p y c x d)
as_tells p y c x d = both (role_tells (role_at p d) role.Parameter) (both (Decides-eqb (parent p d) c) (Decides-eqb (y d) x))

parameters_fall : (p : Rows) (y : ℕ → ℕ) (c x n : ℕ) → under (entries_of (λ d. parameter_entry p (y d) d) n) c x ≡ falling n (is_parameter_as p y c x)
parameters_fall p y c x n = falling_entries (λ d. parameter_entry p (y d) d) (parameter_row p y) c x n ∙ falling_same _ _ n (λ d. parameter_key p c x (y d) d)

parameter_below : (p : Rows) (d : ℕ) → role_at p d ≡ role.Parameter → d < length p
parameter_below p d e = bounded (λ l. role_of l ≡ role.Parameter) (λ e. cc) p d e

beside_listed : (p : Rows) (c : ℕ) → Lists (under (entries_of (parameter_entry p 0) (length p)) c 0) (IsParameterAs p (λ d. 0) c 0)
beside_listed p c = subst (λ xs. Lists xs (IsParameterAs p (λ d. 0) c 0)) (sym (parameters_fall p (λ d. 0) c 0 (length p)))
    (falling_lists (is_parameter_as p (λ d. 0) c 0) (IsParameterAs p (λ d. 0) c 0) (length p) (as_tells p (λ d. 0) c 0) (λ d k. parameter_below p d k.0))

-- a parameter before n is listed
abbrev IsListedBefore : Rows → ℕ → ℕ → Type 0
IsListedBefore p x n = (d : ℕ) × (d < n) × IsParameterAs p (name_row p) (parent p n) x d

listed_tells : (p : Rows) (all : List Entry) (x n : ℕ) → all ≡ entries_of (λ d. parameter_entry p (name_row p d) d) n → Decides (is_some (last_under all (parent p n) x (length all))) (IsListedBefore p x n)
listed_tells p all x n is = subst (λ b. Decides b (IsListedBefore p x n)) (sym same) (any (is_parameter_as p (name_row p) (parent p n) x) (IsParameterAs p (name_row p) (parent p n) x) (as_tells p (name_row p) (parent p n) x) n)
  where
    same : is_some (last_under all (parent p n) x (length all)) ≡ any_below n (is_parameter_as p (name_row p) (parent p n) x)
    same = rows_last all (parent p n) x (length all) ∙ ap is_some_item (ap (λ l. under l (parent p n) x) is ∙ parameters_fall p (name_row p) (parent p n) x n) ∙ some_named (is_parameter_as p (name_row p) (parent p n) x) n

-- ---- blocks

block_tells : (p : Rows) (n : ℕ) → Decides (is_block (label p n)) (label p n ≡ is.Block)
block_tells p n = by (label p n)
  where
    by : (l : _) → Decides (is_block l) (l ≡ is.Block)
    by is.Block = (λ h. refl, λ e. refl)
    by _ = (λ h. absurd (false≢true h), λ e. cc)

module _ (p : Rows) (n : ℕ) where
  block_opened : (ends : List ℕ) → AreEndsOf p ends (OpensVariable p n n) → label p n ≡ is.Block
      → AreEndsOf p (all_opened p (end p n) (under (entries_of (parameter_entry p 0) (length p)) (parent p n) 0) ends) (OpensVariable p n (n + 1))
  block_opened ends h block = ends_like (ends_all (end p n) (under (entries_of (parameter_entry p 0) (length p)) (parent p n) 0) ends (λ d k. name_below p d (parameter_below p d (((beside_listed p (parent p n)) d).0 k).0)) h) out into
    where
      out : (d e : ℕ) → OpensVariable p n n d e ⊎ ((has (under (entries_of (parameter_entry p 0) (length p)) (parent p n) 0) d ≡ true) × (end p n ≡ e)) → OpensVariable p n (n + 1) d e
      out d e (inl (inl k)) = inl k
      out d e (inl (inr k)) = let lt = k.before in inr (record { parameter = k.parameter; body = k.body; block = k.block; beside = k.beside; before = omega arith; ends = k.ends })
      out d e (inr k) = let q = ((beside_listed p (parent p n)) d).0 k.0 in inr (record { parameter = q.0; body = n; block = block; beside = sym q.1.0; before = omega arith; ends = k.1 })

      into : (d e : ℕ) → OpensVariable p n (n + 1) d e → OpensVariable p n n d e ⊎ ((has (under (entries_of (parameter_entry p 0) (length p)) (parent p n) 0) d ≡ true) × (end p n ≡ e))
      into d e (inl k) = inl (inl k)
      into d e (inr k) = ⊎_elim
          (λ same. inr (((beside_listed p (parent p n)) d).1 (k.parameter, (sym k.beside ∙ ap (parent p) same, refl)), ap (end p) (sym same) ∙ k.ends))
          (λ apart. let lt = k.before in inl (inr (record { parameter = k.parameter; body = k.body; block = k.block; beside = k.beside; before = omega arith; ends = k.ends }))) (cases_eq k.body n)

  no_block : (ends : List ℕ) → AreEndsOf p ends (OpensVariable p n n) → is_block (label p n) ≡ false → AreEndsOf p ends (OpensVariable p n (n + 1))
  no_block ends h none = ends_like h out into
    where
      out : (d e : ℕ) → OpensVariable p n n d e → OpensVariable p n (n + 1) d e
      out d e (inl k) = inl k
      out d e (inr k) = let lt = k.before in inr (record { parameter = k.parameter; body = k.body; block = k.block; beside = k.beside; before = omega arith; ends = k.ends })

      into : (d e : ℕ) → OpensVariable p n (n + 1) d e → OpensVariable p n n d e
      into d e (inl k) = inl k
      into d e (inr k) = ⊎_elim (λ same. absurd (false≢true (sym none ∙ (block_tells p n).1 (subst (λ b. label p b ≡ is.Block) same k.block))))
          (λ apart. let lt = k.before in inr (record { parameter = k.parameter; body = k.body; block = k.block; beside = k.beside; before = omega arith; ends = k.ends })) (cases_eq k.body n)

-- ---- the rows

module _ {p : Rows} {k n m : ℕ} (locals : code.Locals) (h : AreLocalsTo p k n m locals) where
  pub few_rows : length locals.rows.now < 2 ^ 32
  few_rows = subst (λ q. length q < 2 ^ 32) (sym h.rows_are) h.few

  pub row_inside : (at : ℕ) → at < length p → at < length locals.rows.now
  row_inside at lt = subst (λ q. at < length q) (sym h.rows_are) lt

  pub tree_rows : IsTree locals.rows.now
  tree_rows = subst IsTree (sym h.rows_are) h.placed.local.tree

pub parents_inside : (p : Rows) (n : ℕ) → IsTree p → n < length p → parent p n < length p
parents_inside p n tree lt = ⊎_elim (λ same. by_root same) (λ apart. let up = tree.up n lt (omega arith) in omega arith) (cases_eq n 0)
  where
    by_root : n ≡ 0 → parent p n < length p
    by_root same = let at = ap (parent p) same in let root = tree.root in omega arith

-- ---- the table as it grows

pub locals_start : (p : Rows) (locals : code.Locals) → locals.rows.now ≡ p → ArePlaced p locals.places.now → length p < 2 ^ 32 → locals.variables.ends.items ≡ replicate (length p) 0 → locals.labels.ends.items ≡ replicate (length p) 0
    → locals.parameters ≡ [] → locals.listed ≡ [] → AreLocalsTo p 0 0 0 locals
locals_start p locals rows placed few variables labels parameters listed = record {
  rows_are = rows;
  few = few;
  placed = placed;
  variables_are = ends_start p _ (OpensVariable p 0 0) variables (λ d e. ⊎_elim (λ k. let lt = k.before in absurd (omega arith)) (λ k. let lt = k.before in absurd (omega arith)));
  labels_are = ends_start p _ (OpensLabel p 0) labels (λ d e k. let lt = k.before in absurd (omega arith));
  parameters_are = parameters;
  listed_are = listed;
}

-- one row more in the table of parameters
pub parameters_more : {p : Rows} {k : ℕ} (old new : code.Locals) (entry : Option Entry) → AreLocalsTo p k 0 0 old → new.rows.now ≡ old.rows.now → new.places.now ≡ old.places.now → new.variables.ends.items ≡ old.variables.ends.items
    → new.labels.ends.items ≡ old.labels.ends.items → new.listed ≡ old.listed → entry ≡ parameter_entry old.rows.now 0 k → new.parameters ≡ old.parameters ++ entry_list entry → AreLocalsTo p (k + 1) 0 0 new
parameters_more {p} {k} old new entry h rows places variables labels listed is pushed = record {
  rows_are = rows ∙ h.rows_are;
  few = h.few;
  placed = subst (ArePlaced p) (sym places) h.placed;
  variables_are = subst (λ l. AreEndsOf p l (OpensVariable p 0 0)) (sym variables) h.variables_are;
  labels_are = subst (λ l. AreEndsOf p l (OpensLabel p 0)) (sym labels) h.labels_are;
  parameters_are = entries_more (parameter_entry p 0) k old.parameters new.parameters entry h.parameters_are (is ∙ ap (λ q. parameter_entry q 0 k) h.rows_are) pushed;
  listed_are = listed ∙ h.listed_are;
}

pub parameters_end : {p : Rows} {k : ℕ} (locals : code.Locals) → k ≡ length p → AreLocalsTo p k 0 0 locals → IsBefore p 0 locals
parameters_end {p} locals e h = subst (λ k. AreLocalsTo p k 0 0 locals) e h

-- a row that is no block opens nothing beside it
pub entered_none : {p : Rows} {n : ℕ} (locals : code.Locals) → IsBefore p n locals → is_block (label locals.rows.now n) ≡ false → IsEntered p n locals
entered_none {p} {n} locals h none = record {
  rows_are = h.rows_are;
  few = h.few;
  placed = h.placed;
  variables_are = no_block p n _ h.variables_are (ap (λ q. is_block (label q n)) (sym h.rows_are) ∙ none);
  labels_are = h.labels_are;
  parameters_are = h.parameters_are;
  listed_are = h.listed_are;
}

-- the rows beside a block are those of the program
pub beside_below : {p : Rows} {n : ℕ} (locals : code.Locals) (over : ℕ) (beside : List ℕ) → IsBefore p n locals → beside ≡ under locals.parameters over 0 → AreBelow (length p) beside
beside_below {p} {n} locals over beside h is = record {
  each = λ d k. parameter_below p d (((beside_listed p over) d).0 (subst (λ xs. has xs d ≡ true) (is ∙ ap (λ l. under l over 0) h.parameters_are) k)).0;
}

pub entered_block : {p : Rows} {n : ℕ} (old new : code.Locals) (over e : ℕ) (beside : List ℕ) → IsBefore p n old → is_block (label old.rows.now n) ≡ true → over ≡ parent old.rows.now n → e ≡ end old.rows.now n
    → beside ≡ under old.parameters over 0 → new.rows.now ≡ old.rows.now → new.places.now ≡ old.places.now → new.labels.ends.items ≡ old.labels.ends.items → new.parameters ≡ old.parameters → new.listed ≡ old.listed
    → new.variables.ends.items ≡ all_opened p e beside old.variables.ends.items → IsEntered p n new
entered_block {p} {n} old new over e beside h block above ends is rows places labels parameters listed opens = record {
  rows_are = rows ∙ h.rows_are;
  few = h.few;
  placed = subst (ArePlaced p) (sym places) h.placed;
  variables_are = subst (λ l. AreEndsOf p l (OpensVariable p n (n + 1))) (sym all)
      (block_opened p n old.variables.ends.items h.variables_are ((block_tells p n).0 (ap (λ q. is_block (label q n)) (sym h.rows_are) ∙ block)));
  labels_are = subst (λ l. AreEndsOf p l (OpensLabel p n)) (sym labels) h.labels_are;
  parameters_are = parameters ∙ h.parameters_are;
  listed_are = listed ∙ h.listed_are;
}
  where
    all : new.variables.ends.items ≡ all_opened p (end p n) (under (entries_of (parameter_entry p 0) (length p)) (parent p n) 0) old.variables.ends.items
    all = opens ∙ ap₂ (λ e xs. all_opened p e xs old.variables.ends.items) (ends ∙ ap (λ q. end q n) h.rows_are)
        (is ∙ ap₂ (λ l c. under l c 0) h.parameters_are (above ∙ ap (λ q. parent q n) h.rows_are))

-- what the row declares is in scope behind it
pub declared_more : {p : Rows} {n : ℕ} (old new : code.Locals) (x : ℕ) (entry : Option Entry) → IsEntered p n old → n < length p → x ≡ name_row p n → new.rows.now ≡ old.rows.now → new.places.now ≡ old.places.now
    → new.parameters ≡ old.parameters → new.variables.ends.items ≡ with_scope old.rows.now role.Local (local_end old.rows.now) x n old.variables.ends.items
    → new.labels.ends.items ≡ with_scope old.rows.now role.Label (end old.rows.now) x n old.labels.ends.items
    → entry ≡ parameter_entry old.rows.now x n → new.listed ≡ old.listed ++ entry_list entry → IsBefore p (n + 1) new
declared_more {p} {n} old new x entry h lt named rows places parameters variables labels is pushed = record {
  rows_are = rows ∙ h.rows_are;
  few = h.few;
  placed = subst (ArePlaced p) (sym places) h.placed;
  variables_are = subst (λ l. AreEndsOf p l (OpensVariable p (n + 1) (n + 1))) (sym (variables ∙ ap (λ q. with_scope q role.Local (local_end q) x n old.variables.ends.items) h.rows_are))
      (scope_more p role.Local (local_end p) (λ d e. OpensParameter p (n + 1) d e) n x old.variables.ends.items h.variables_are named lt);
  labels_are = subst (λ l. AreEndsOf p l (OpensLabel p (n + 1))) (sym (labels ∙ ap (λ q. with_scope q role.Label (end q) x n old.labels.ends.items) h.rows_are))
      (ends_like (scope_more p role.Label (end p) (λ d e. ⊥) n x old.labels.ends.items (ends_like h.labels_are (λ d e k. inl k) (λ d e. ⊎_elim (λ k. k) (λ k. absurd k))) named lt)
      (λ d e. ⊎_elim (λ k. k) (λ k. absurd k)) (λ d e k. inl k));
  parameters_are = parameters ∙ h.parameters_are;
  listed_are = entries_more (λ d. parameter_entry p (name_row p d) d) n old.listed new.listed entry h.listed_are (is ∙ ap₂ (λ q x. parameter_entry q x n) h.rows_are named) pushed;
}

-- ---- what is asked

local_or_parameter_tells : (r : Role) → Decides (plain.is_local_or_parameter r) ((r ≡ role.Local) ⊎ (r ≡ role.Parameter))
local_or_parameter_tells role.Local = (λ h. inl refl, λ e. refl)
local_or_parameter_tells role.Parameter = (λ h. inr refl, λ e. refl)
local_or_parameter_tells _ = (λ h. absurd (false≢true h), ⊎_elim (λ e. absurd (cc)) (λ e. absurd (cc)))

abbrev IsInside : Rows → ℕ → Type 0
IsInside p n = (d : ℕ) × ((name p d ≡ name p n) × InScopeOf p d n)

module _ {p : Rows} {n : ℕ} (locals : code.Locals) (x : ℕ) (h : IsEntered p n locals) (named : x ≡ name_row p n) where
  scope_tells : Decides (nat_lt n (end_in locals.variables.ends.items x)) ((d : ℕ) × ((name p d ≡ name p n) × (InLocalScope p d n ⊎ InParameterScope p d n)))
  scope_tells = like (Decides-ltb n (end_in locals.variables.ends.items x))
      (λ lt. let i = h.variables_are.sound x n lt in (i.0, (names_same p i.0 n (i.3 ∙ named), held i.2 i.4)))
      (λ i. let there = subst (λ y. n < end_in locals.variables.ends.items y) (rows_same p i.0 n i.1.0 ∙ sym named) (reached i.1.1) in there)
    where
      held : {d e : ℕ} → OpensVariable p n (n + 1) d e → n < e → InLocalScope p d n ⊎ InParameterScope p d n
      held (inl k) lt = inl (record { local = k.role_is; after = k.before; before = let same = k.ends in omega arith })
      held (inr k) lt = let from = k.before in inr (record { parameter = k.parameter; body = k.body; block = k.block; beside = k.beside; from = omega arith; before = let same = k.ends in omega arith })

      reached : {d : ℕ} → InLocalScope p d n ⊎ InParameterScope p d n → n < end_in locals.variables.ends.items (name_row p d)
      reached {d} (inl k) = let last = h.variables_are.whole d (local_end p d) (inl (record { role_is = k.local; before = k.after; ends = refl })) in let lt = k.before in omega arith
      reached {d} (inr k) = let from = k.from in
          let last = h.variables_are.whole d (end p k.body) (inr (record { parameter = k.parameter; body = k.body; block = k.block; beside = k.beside; before = omega arith; ends = refl })) in let lt = k.before in omega arith

  list_tells : Decides (is_listed locals x n) ((d : ℕ) × ((name p d ≡ name p n) × (InOneList p d n × (d < n))))
  list_tells = like (subst (λ q. Decides (same_role (role_at q n) role.Parameter && is_some (last_under locals.listed (parent q n) x (length locals.listed))) ((role_at p n ≡ role.Parameter) × IsListedBefore p x n)) (sym h.rows_are)
      (both (role_tells (role_at p n) role.Parameter) (listed_tells p locals.listed x n h.listed_are)))
      (λ i. let k = i.1 in (k.0, (names_same p k.0 n (k.2.1.1 ∙ named), (record { first = k.2.0; second = i.0; beside = k.2.1.0 }, k.1))))
      (λ i. (i.1.1.0.second, (i.0, i.1.1.1, (i.1.1.0.first, (i.1.1.0.beside, rows_same p i.0 n i.1.0 ∙ sym named)))))

  inside_tells : Decides (is_inside locals x n) (IsInside p n)
  inside_tells = like (either scope_tells list_tells) out into
    where
      out : ((d : ℕ) × ((name p d ≡ name p n) × (InLocalScope p d n ⊎ InParameterScope p d n))) ⊎ ((d : ℕ) × ((name p d ≡ name p n) × (InOneList p d n × (d < n)))) → IsInside p n
      out (inl (d, (same, inl k))) = (d, (same, inl k))
      out (inl (d, (same, inr k))) = (d, (same, inr (inl k)))
      out (inr (d, (same, k))) = (d, (same, inr (inr k)))

      into : IsInside p n → ((d : ℕ) × ((name p d ≡ name p n) × (InLocalScope p d n ⊎ InParameterScope p d n))) ⊎ ((d : ℕ) × ((name p d ≡ name p n) × (InOneList p d n × (d < n))))
      into (d, (same, inl k)) = inl (d, (same, inl k))
      into (d, (same, inr (inl k))) = inl (d, (same, inr k))
      into (d, (same, inr (inr k))) = inr (d, (same, k))

  pub second_local : (plain.is_local_or_parameter (role_at locals.rows.now n) && is_inside locals x n) ≡ plain.is_second_local p n
  second_local = ap (λ q. plain.is_local_or_parameter (role_at q n) && is_inside locals x n) h.rows_are
      ∙ one_test (plain.is_local_or_parameter (role_at p n) && is_inside locals x n) (plain.is_second_local p n) (SecondLocal p n) (both (local_or_parameter_tells (role_at p n)) inside_tells) (second_local_tells p n)

  label_tells : Decides (nat_lt n (end_in locals.labels.ends.items x)) ((d : ℕ) × (InLabelScope p d n × (name p d ≡ name p n)))
  label_tells = like (Decides-ltb n (end_in locals.labels.ends.items x))
      (λ lt. let i = h.labels_are.sound x n lt in let k = i.2 in
      (i.0, (record { labeled = k.role_is; after = k.before; before = let same = k.ends in let less = i.4 in omega arith }, names_same p i.0 n (i.3 ∙ named))))
      (λ i. let k = i.1.0 in let last = h.labels_are.whole i.0 (end p i.0) (record { role_is = k.labeled; before = k.after; ends = refl }) in
      let there : n < end_in locals.labels.ends.items (name_row p i.0) = (let lt = k.before in omega arith) in
      subst (λ y. n < end_in locals.labels.ends.items y) (rows_same p i.0 n i.1.1 ∙ sym named) there)

  pub second_label : (same_role (role_at locals.rows.now n) role.Label && nat_lt n (end_in locals.labels.ends.items x)) ≡ plain.is_second_label p n
  second_label = ap (λ q. same_role (role_at q n) role.Label && nat_lt n (end_in locals.labels.ends.items x)) h.rows_are
      ∙ one_test (same_role (role_at p n) role.Label && nat_lt n (end_in locals.labels.ends.items x)) (plain.is_second_label p n) (SecondLabel p n) (both (role_tells (role_at p n) role.Label) label_tells) (second_label_tells p n)
