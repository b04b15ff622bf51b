-- What is in scope by rows alone, under keys.
use Rattle.std.proofs.Common.{◌≡◌, refl, sym, ◌∙◌, ap, ap₂, subst, ⊎_elim, arith, ℕ, zero, suc, ◌+◌, ◌<◌, Bool, true, false, cond, ◌&&◌, List, [], ◌∷◌, ◌++◌, append-nil, length, Option, Some, None, option_map, nat_eq, nat_lt}
use Rattle.std.proofs.lemmas.Bool.{and_from, cases_eq}
use Rattle.std.proofs.lemmas.Bool.Decides.{Decides-eqb}
use Rattle.std.proofs.lemmas.Option.{none-some, same_Some}
use Rattle.jr_tree.specs.declared.label.Label.TheVariants as is
use Rattle.jr_tree.specs.declared.label.ImportKind.TheVariants as importing
use Rattle.jr_tree.specs.declared.label.Role.TheVariants as role
use Rattle.jr_tree.specs.Rows.{Rows, label, parent, role_at}
use Rattle.jr_tree.specs.Local.{IsLocal, StartsAt, HasTypeName}
use Rattle.jr_tree.specs.Below.{IsTypeName}
use Rattle.jr_plain.specs.Same.{same_role}
use Rattle.jr_plain.specs.Enclosing.{is_top_level}
use Rattle.jr_plain.specs.Search.{last_below}
use Rattle.jr_plain.specs.Imports.{is_import_label, is_import_of}
use Rattle.jr_plain.proofs.Bounds.{bounded}
use Rattle.jr_plain.proofs.Imported.{import_of_tells}
use Rattle.jr_places.specs.declared.chains.Entry.{Entry}
use Rattle.jr_places.specs.declared.places.Places.{Places}
use Rattle.jr_places.specs.Above.{block_of}
use Rattle.jr_places.specs.Names.{name_row}
use Rattle.jr_places.specs.Packages.{same_some}
use Rattle.jr_places.specs.Places.{package_number}
use Rattle.jr_members.specs.Keys.{falling, entry_for, entry_list, entries_of}
use Rattle.jr_members.specs.Named.{under}
use Rattle.jr_members.specs.Sources.{ArePlaced}
use Rattle.jr_members.proofs.Keyed.{is_key, under_pushed}
use Rattle.jr_members.proofs.Declaring.{falling_same, entries_more}
use Rattle.jr_lookup.specs.declared.scopes.Scopes as code
use Rattle.jr_lookup.specs.Scopes.{entry_if, local_entry, parameter_entry, single_entry, static_entry, demand_entry, top_entry, AreScopesTo, AreScopes, AreTopsTo, AreTops, is_top_of, is_local_of, is_local_before, is_parameter_of, is_single_of, is_static_of, first_before}

-- ---- tables of rows

abbrev pub is_keyed : Option Entry → ℕ → ℕ → Bool
is_keyed None c x = false
is_keyed (Some e) c x = is_key e c x

abbrev pub HasRows : (ℕ → Option Entry) → Type 0
HasRows f = (k : ℕ) (e : Entry) → f k ≡ Some e → e.row ≡ k

entries_by : (f : ℕ → Option Entry) (c x n : ℕ) (o : Option Entry) → ((e : Entry) → o ≡ Some e → e.row ≡ n) → under (entries_of f n) c x ≡ falling n (λ k. is_keyed (f k) c x)
    → under (entries_of f n ++ entry_list o) c x ≡ cond (is_keyed o c x) (n ∷ falling n (λ k. is_keyed (f k) c x)) (falling n (λ k. is_keyed (f k) c x))
entries_by f c x n None row more = ap (λ l. under l c x) (append-nil (entries_of f n)) ∙ more
entries_by f c x n (Some new) row more = under_pushed (entries_of f n) new c x ∙ ap₂ (λ r xs. cond (is_key new c x) (r ∷ xs) xs) (row new refl) more

-- what is under a key are the rows that are put there, from the last back
pub falling_entries : (f : ℕ → Option Entry) → HasRows f → (c x n : ℕ) → under (entries_of f n) c x ≡ falling n (λ k. is_keyed (f k) c x)
falling_entries f rows c x zero = refl
falling_entries f rows c x (suc n) = entries_by f c x n (f n) (rows n) (falling_entries f rows c x n)

-- ---- one row more

-- behind an import stands its name
pub import_named : (p : Rows) (n : ℕ) → IsLocal p → n < length p → label p n ≡ is.Import importing.Single → n + 1 < length p
import_named p n local lt e = ⊎_elim (λ same. absurd (not_first same)) (λ apart. bounded IsTypeName (λ none. none) p (n + 1) (starts (omega arith)).named) (cases_eq n 0)
  where
    not_first : n ≡ 0 → ⊥
    not_first same = let at = ap (label p) same in let program = local.program in cc

    starts : 0 < n → HasTypeName p n
    starts more = subst (StartsAt p n) e (local.starts n more lt)

-- the name of a row that is no import does not matter
single_named : (p : Rows) (n x : ℕ) → IsLocal p → n < length p → (n + 1 < length p → x ≡ name_row p (n + 1)) → single_entry p x n ≡ single_entry p (name_row p (n + 1)) n
single_named p n x local lt is = by (is_import_label importing.Single (label p n)) refl
  where
    by : (b : Bool) → is_import_label importing.Single (label p n) ≡ b → entry_if b (parent p n) x n ≡ entry_if b (parent p n) (name_row p (n + 1)) n
    by false e = refl
    by true e = ap (λ x. Some (entry_for (parent p n) x n)) (is (import_named p n local lt ((import_of_tells p (parent p n) importing.Single n).0
        (and_from (is_import_label importing.Single (label p n)) (nat_eq (parent p n) (parent p n)) e ((Decides-eqb (parent p n) (parent p n)).1 refl))).import))

pub scopes_start : (p : Rows) (scopes : code.Scopes) → scopes.locals ≡ [] → scopes.parameters ≡ [] → scopes.singles ≡ [] → scopes.statics ≡ [] → scopes.on_demand ≡ []
    → AreScopesTo p 0 scopes
scopes_start p scopes a b c d e = record { locals = a; parameters = b; singles = c; statics = d; demanded = e }

pub scopes_end : (p : Rows) (n : ℕ) (scopes : code.Scopes) → n ≡ length p → AreScopesTo p n scopes → AreScopes p scopes
scopes_end p n scopes e h = subst (λ n. AreScopesTo p n scopes) e h

pub scopes_more : {p : Rows} {places : Places} {n : ℕ} {l q s b d : Option Entry} (old mid new : code.Scopes) (x y : ℕ) → ArePlaced p places → n < length p → AreScopesTo p n old
    → x ≡ name_row p n → (n + 1 < length p → y ≡ name_row p (n + 1))
    → l ≡ local_entry p x n → q ≡ parameter_entry p x n → s ≡ single_entry p y n → b ≡ static_entry p x n → d ≡ demand_entry p n
    → mid.locals ≡ old.locals ++ entry_list l → mid.parameters ≡ old.parameters ++ entry_list q → mid.singles ≡ old.singles → mid.statics ≡ old.statics → mid.on_demand ≡ old.on_demand
    → new.locals ≡ mid.locals → new.parameters ≡ mid.parameters → new.singles ≡ mid.singles ++ entry_list s → new.statics ≡ mid.statics ++ entry_list b → new.on_demand ≡ mid.on_demand ++ entry_list d
    → AreScopesTo p (n + 1) new
scopes_more {p} {places} {n} {l} {q} {s} {b} {d} old mid new x y placed lt h named next is_l is_q is_s is_b is_d ml mq ms mb md nl nq ns nb nd = record {
  locals = entries_more (λ k. local_entry p (name_row p k) k) n old.locals new.locals l h.locals (is_l ∙ ap (λ x. local_entry p x n) named) (nl ∙ ml);
  parameters = entries_more (λ k. parameter_entry p (name_row p k) k) n old.parameters new.parameters q h.parameters (is_q ∙ ap (λ x. parameter_entry p x n) named) (nq ∙ mq);
  singles = entries_more (λ k. single_entry p (name_row p (k + 1)) k) n old.singles new.singles s h.singles (is_s ∙ single_named p n y placed.local lt next) (ns ∙ ap (λ all. all ++ entry_list s) ms);
  statics = entries_more (λ k. static_entry p (name_row p k) k) n old.statics new.statics b h.statics (is_b ∙ ap (λ x. static_entry p x n) named) (nb ∙ ap (λ all. all ++ entry_list b) mb);
  demanded = entries_more (demand_entry p) n old.on_demand new.on_demand d h.demanded is_d (nd ∙ ap (λ all. all ++ entry_list d) md);
}

-- ---- top-level types

pub tops_start : (p : Rows) (places : Places) (scopes : code.Scopes) → scopes.tops ≡ [] → AreTopsTo p places 0 scopes
tops_start p places scopes none = record { are = none }

pub tops_end : (p : Rows) (places : Places) (n : ℕ) (scopes : code.Scopes) → n ≡ length p → AreTopsTo p places n scopes → AreTops p places scopes
tops_end p places n scopes e h = subst (λ n. AreTopsTo p places n scopes) e h

pub tops_more : (p : Rows) (places : Places) (n : ℕ) (old mid new : code.Scopes) (e : Option Entry) (number : Option ℕ) (x : ℕ) → AreTopsTo p places n old → x ≡ name_row p n → number ≡ package_number places n
    → e ≡ top_entry p number x n → mid.tops ≡ old.tops ++ entry_list e → new.tops ≡ mid.tops → AreTopsTo p places (n + 1) new
tops_more p places n old mid new e number x h named numbered is first second = record {
  are = entries_more (λ d. top_entry p (package_number places d) (name_row p d) d) n old.tops new.tops e h.are (is ∙ ap₂ (λ o x. top_entry p o x n) numbered named) (second ∙ first);
}

-- ---- what is under a key

keyed_if : (b : Bool) (c x d a y : ℕ) → is_keyed (entry_if b c x d) a y ≡ (b && (nat_eq c a && nat_eq x y))
keyed_if true c x d a y = refl
keyed_if false c x d a y = refl

rows_if : (b : ℕ → Bool) (c x : ℕ → ℕ) → HasRows (λ d. entry_if (b d) (c d) (x d) d)
rows_if b c x k e = by (b k)
  where
    by : (q : Bool) → entry_if q (c k) (x k) k ≡ Some e → e.row ≡ k
    by false same = absurd (none-some e same)
    by true same = ap (λ e. e.row) (sym (same_Some (entry_for (c k) (x k) k) e same))

and_inside : (a b c : Bool) → (a && (b && c)) ≡ ((a && b) && c)
and_inside true b c = refl
and_inside false b c = refl

and_true : (b : Bool) → (b && true) ≡ b
and_true true = refl
and_true false = refl

module _ (p : Rows) (scopes : code.Scopes) (is : AreScopes p scopes) where
  locals_fall : (block x : ℕ) → under scopes.locals block x ≡ falling (length p) (is_local_of p block x)
  locals_fall block x = ap (λ l. under l block x) is.locals ∙ falling_entries _ (rows_if (λ d. same_role (role_at p d) role.Local) (block_of p) (name_row p)) block x (length p)
      ∙ falling_same _ _ (length p) (λ d. keyed_if (same_role (role_at p d) role.Local) (block_of p d) (name_row p d) d block x)

  pub parameters_fall : (over x : ℕ) → under scopes.parameters over x ≡ falling (length p) (is_parameter_of p over x)
  parameters_fall over x = ap (λ l. under l over x) is.parameters ∙ falling_entries _ (rows_if (λ d. same_role (role_at p d) role.Parameter) (parent p) (name_row p)) over x (length p)
      ∙ falling_same _ _ (length p) (λ d. keyed_if (same_role (role_at p d) role.Parameter) (parent p d) (name_row p d) d over x)

  pub singles_fall : (u x : ℕ) → under scopes.singles u x ≡ falling (length p) (is_single_of p u x)
  singles_fall u x = ap (λ l. under l u x) is.singles ∙ falling_entries _ (rows_if (λ i. is_import_label importing.Single (label p i)) (parent p) (λ i. name_row p (i + 1))) u x (length p)
      ∙ falling_same _ _ (length p) (λ i. keyed_if (is_import_label importing.Single (label p i)) (parent p i) (name_row p (i + 1)) i u x
      ∙ and_inside (is_import_label importing.Single (label p i)) (nat_eq (parent p i) u) (nat_eq (name_row p (i + 1)) x))

  pub statics_fall : (u x : ℕ) → under scopes.statics u x ≡ falling (length p) (is_static_of p u x)
  statics_fall u x = ap (λ l. under l u x) is.statics ∙ falling_entries _ (rows_if (λ i. is_import_label importing.StaticSingle (label p i)) (parent p) (name_row p)) u x (length p)
      ∙ falling_same _ _ (length p) (λ i. keyed_if (is_import_label importing.StaticSingle (label p i)) (parent p i) (name_row p i) i u x
      ∙ and_inside (is_import_label importing.StaticSingle (label p i)) (nat_eq (parent p i) u) (nat_eq (name_row p i) x))

  pub demands_fall : (u : ℕ) → under scopes.on_demand u 0 ≡ falling (length p) (is_import_of p u importing.OnDemand)
  demands_fall u = ap (λ l. under l u 0) is.demanded ∙ falling_entries _ (rows_if (λ i. is_import_label importing.OnDemand (label p i)) (parent p) (λ i. 0)) u 0 (length p)
      ∙ falling_same _ _ (length p) (λ i. keyed_if (is_import_label importing.OnDemand (label p i)) (parent p i) 0 i u 0 ∙ ap (λ b. is_import_label importing.OnDemand (label p i) && b) (and_true (nat_eq (parent p i) u)))

  first_by : (o n : ℕ) (b : Bool) (more : List ℕ) (before : Option ℕ) → first_before o more ≡ before → first_before o (cond b (n ∷ more) more) ≡ cond (b && nat_lt n o) (Some n) before
  first_by o n true more before h = ap (λ f. cond (nat_lt n o) (Some n) f) h
  first_by o n false more before h = h

  first_falls : (o : ℕ) (test : ℕ → Bool) (n : ℕ) → first_before o (falling n test) ≡ last_below n (λ d. test d && nat_lt d o)
  first_falls o test zero = refl
  first_falls o test (suc n) = first_by o n (test n) (falling n test) _ (first_falls o test n)

  -- the last local under the key, before the place
  pub last_local : (block x o : ℕ) → first_before o (under scopes.locals block x) ≡ last_below (length p) (is_local_before p block x o)
  last_local block x o = ap (first_before o) (locals_fall block x) ∙ first_falls o (is_local_of p block x) (length p)

-- ---- top-level types under a key

top_keyed : (b : Bool) (number : Option ℕ) (x d a y : ℕ) → is_keyed (cond b (option_map (λ n. entry_for n x d) number) None) a y ≡ (b && (same_some number (Some a) && nat_eq x y))
top_keyed false number x d a y = refl
top_keyed true None x d a y = refl
top_keyed true (Some n) x d a y = refl

top_row : (b : Bool) (number : Option ℕ) (x d : ℕ) (e : Entry) → cond b (option_map (λ n. entry_for n x d) number) None ≡ Some e → e.row ≡ d
top_row false number x d e same = absurd (none-some e same)
top_row true None x d e same = absurd (none-some e same)
top_row true (Some n) x d e same = ap (λ e. e.row) (sym (same_Some (entry_for n x d) e same))

pub tops_fall : (p : Rows) (places : Places) (scopes : code.Scopes) → AreTops p places scopes → (number x : ℕ) → under scopes.tops number x ≡ falling (length p) (is_top_of p places number x)
tops_fall p places scopes h number x = ap (λ l. under l number x) h.are
    ∙ falling_entries _ (λ k e same. top_row (is_top_level p k) (package_number places k) (name_row p k) k e same) number x (length p)
    ∙ falling_same _ _ (length p) (λ d. top_keyed (is_top_level p d) (package_number places d) (name_row p d) d number x)
