-- The start of a run, from what its functions find (JLS 12.1.4).
use Rattle.std.proofs.Common.{◌≡◌, refl, sym, ◌∙◌, ap, subst, ⊎_elim, inl, ℕ, ◌+◌, ◌<◌, arith, Bool, true, false, ◌&&◌, List, [], ◌∷◌, length, Option, Some, None, nat_eq, get_or, Decides, option_map, bytes_eq, codes, Result, Ok, Err}
use Rattle.std.specs.Result.{IsErrAnd}
use Rattle.std.proofs.lemmas.Bool.{false≢true}
use Rattle.std.proofs.lemmas.Bool.Decides.{Decides-eqb}
use Rattle.std.proofs.lemmas.Option.{none-some, same_Some}
use Rattle.jr_base.specs.declared.text.Text.{Text}
use Rattle.jr_tree.specs.declared.label.Role.TheVariants as role
use Rattle.jr_tree.specs.Rows.{Rows, name, role_at}
use Rattle.jr_defs.specs.declared.referent.RowType.{RowType}
use Rattle.jr_defs.specs.Members.{MemberOf}
use Rattle.jr_defs.specs.Overriding.{Has}
use Rattle.jr_defs.specs.Referents.{Table}
use Rattle.jr_plain.specs.Declarations.{is_class}
use Rattle.jr_plain.specs.Modifiers.{is_static}
use Rattle.jr_plain.specs.Search.{has}
use Rattle.jr_plain.specs.Types.{parameters, type_of_declared}
use Rattle.jr_supers.specs.Signatures.{nth_of}
use Rattle.jr_supers.specs.Supers.{ListsOnce}
use Rattle.jr_members.proofs.Each.{front_in, item_in, none_in}
use Rattle.jr_change.specs.declared.project.Project.{Project}
use Rattle.jr_run.specs.declared.fault.RunFault.{RunFault}
use Rattle.jr_run.specs.declared.fault.RunFault.TheVariants as fault
use Rattle.jr_run.specs.Names.{canonical_name}
use Rattle.jr_run.specs.Starting.{IsStart, IsStartOf, is_array_of_strings, is_class_named, is_main, is_of_strings, is_one, is_void_type}

and_false : (a b : Bool) → a ≡ false → false ≡ (a && b)
and_false true b h = absurd (false≢true (sym h))
and_false false b h = refl

and_true : (a b r : Bool) → a ≡ true → r ≡ b → r ≡ (a && b)
and_true true b r h same = same
and_true false b r h same = absurd (false≢true h)

-- ---- one parameter

differ_by : (b : Bool) (n m : ℕ) → nat_eq n m ≡ b → (n ≡ m → ⊥) → nat_eq n m ≡ false
differ_by true n m is apart = absurd (apart ((Decides-eqb n m).0 is))
differ_by false n m is apart = is

two_and_more : (n m : ℕ) → n ≡ m + 2 → n ≡ 1 → ⊥
two_and_more n m more one = omega (arith, more, one)

length_two : (a b : RowType) (all : List RowType) → length (a ∷ b ∷ all) ≡ length all + 2
length_two a b all = omega arith

pub one_there : (all : Option (List RowType)) (n : ℕ) → Some n ≡ option_map (λ xs. length xs) all → nat_eq n 1 ≡ is_one all
one_there None n h = absurd (none-some n (sym h))
one_there (Some []) n h = ap (λ k. nat_eq k 1) (same_Some _ _ h)
one_there (Some (a ∷ [])) n h = ap (λ k. nat_eq k 1) (same_Some _ _ h)
one_there (Some (a ∷ b ∷ all)) n h = differ_by (nat_eq n 1) n 1 refl (two_and_more n (length all) (same_Some _ _ h ∙ length_two a b all))

pub one_away : (all : Option (List RowType)) → None ≡ option_map (λ xs. length xs) all → false ≡ is_one all
one_away None h = refl
one_away (Some xs) h = absurd (none-some (length xs) h)

pub strings_there : (p : Rows) (all : Option (List RowType)) (a : RowType) → Some a ≡ nth_of all 0 → true ≡ is_one all → is_array_of_strings p a ≡ is_of_strings p all
strings_there p None a h one = absurd (none-some a (sym h))
strings_there p (Some []) a h one = absurd (false≢true (sym one))
strings_there p (Some (x ∷ [])) a h one = ap (is_array_of_strings p) (same_Some _ _ h)
strings_there p (Some (x ∷ y ∷ all)) a h one = absurd (false≢true (sym one))

pub strings_more : (p : Rows) (all : Option (List RowType)) → false ≡ is_one all → false ≡ is_of_strings p all
strings_more p None one = refl
strings_more p (Some []) one = refl
strings_more p (Some (x ∷ [])) one = absurd (false≢true one)
strings_more p (Some (x ∷ y ∷ all)) one = refl

pub strings_none : (p : Rows) (all : Option (List RowType)) → None ≡ nth_of all 0 → false ≡ is_of_strings p all
strings_none p None h = refl
strings_none p (Some []) h = refl
strings_none p (Some (x ∷ [])) h = absurd (none-some x h)
strings_none p (Some (x ∷ y ∷ all)) h = refl

-- ---- main

abbrev main_type : Rows → Table → ℕ → Bool
main_type p t m = is_void_type (type_of_declared p t m) && is_of_strings p (parameters p t m)

pub main_unnamed : (p : Rows) (t : Table) (m : ℕ) → bytes_eq (name p m) (codes "main") ≡ false → false ≡ is_main p t m
main_unnamed p t m h = and_false (bytes_eq (name p m) (codes "main")) (is_static p m && main_type p t m) h

pub main_instance : (p : Rows) (t : Table) (m : ℕ) → bytes_eq (name p m) (codes "main") ≡ true → is_static p m ≡ false → false ≡ is_main p t m
main_instance p t m named h = and_true (bytes_eq (name p m) (codes "main")) (is_static p m && main_type p t m) false named (and_false (is_static p m) (main_type p t m) h)

pub main_typed : (p : Rows) (t : Table) (m : ℕ) → bytes_eq (name p m) (codes "main") ≡ true → is_static p m ≡ true → is_void_type (type_of_declared p t m) ≡ false → false ≡ is_main p t m
main_typed p t m named static h = and_true (bytes_eq (name p m) (codes "main")) (is_static p m && main_type p t m) false named
    (and_true (is_static p m) (main_type p t m) false static (and_false (is_void_type (type_of_declared p t m)) (is_of_strings p (parameters p t m)) h))

pub main_by : (p : Rows) (t : Table) (m : ℕ) (r : Bool) → bytes_eq (name p m) (codes "main") ≡ true → is_static p m ≡ true → is_void_type (type_of_declared p t m) ≡ true → r ≡ is_of_strings p (parameters p t m) → r ≡ is_main p t m
main_by p t m r named static void is = and_true (bytes_eq (name p m) (codes "main")) (is_static p m && main_type p t m) r named
    (and_true (is_static p m) (main_type p t m) r static (and_true (is_void_type (type_of_declared p t m)) (is_of_strings p (parameters p t m)) r void is))

-- ---- members

pub start_not : (p : Rows) (t : Table) (c m : ℕ) → is_main p t m ≡ false → Decides false (IsStart p t c m)
start_not p t c m h = (λ e. absurd (false≢true e), λ start. absurd (false≢true (sym h ∙ start.main)))

pub start_if : (p : Rows) (t : Table) (c m : ℕ) (b : Bool) → role_at p m ≡ role.Method → is_main p t m ≡ true → Decides b (MemberOf p t c m) → Decides b (IsStart p t c m)
start_if p t c m b method main d = (λ e. record { method = method; main = main; member = d.0 e }, λ start. d.1 start.member)

-- each start is still left
pub record StartsAmong (p : Rows) (t : Table) (c : ℕ) (left : List ℕ) : Type 0 where
  pub each : (m : ℕ) → IsStart p t c m → has left m ≡ true

pub starts_first : (p : Rows) (t : Table) (c : ℕ) (all : List ℕ) → ListsOnce all (Has p t c) → StartsAmong p t c all
starts_first p t c all lists = record { each = λ m start. (lists.has m).1 (record { method = start.method; holder = c; above = inl refl; member = start.member }) }

pub starts_more : (p : Rows) (t : Table) (c m : ℕ) (left more : List ℕ) (b : Bool) → StartsAmong p t c left → left ≡ m ∷ more → Decides b (IsStart p t c m) → b ≡ false → StartsAmong p t c more
starts_more p t c m left more b all same d not = record {
  each = λ k start. ⊎_elim (λ e. absurd (false≢true (sym not ∙ d.1 (subst (IsStart p t c) (sym e) start)))) (λ h. h) (front_in m k more left same (all.each k start));
}

pub starts_none : (p : Rows) (t : Table) (c : ℕ) (left : List ℕ) → StartsAmong p t c left → left ≡ [] → (m : ℕ) → IsStart p t c m → ⊥
starts_none p t c left all none = λ m start. none_in m left none (all.each m start)

pub method_at : (p : Rows) (t : Table) (c i d : ℕ) (all : List ℕ) → ListsOnce all (Has p t c) → i < length all → role_at p (get_or all i d) ≡ role.Method
method_at p t c i d all lists lt = ((lists.has (get_or all i d)).0 (item_in all i d lt)).method

-- ---- the class

pub class_not : (p : Rows) (x : Text) (c : ℕ) → is_class p c ≡ false → false ≡ is_class_named p x c
class_not p x c h = and_false (is_class p c) (bytes_eq (canonical_name p c) x) h

pub class_by : (p : Rows) (x : Text) (c : ℕ) (r : Bool) → is_class p c ≡ true → r ≡ bytes_eq (canonical_name p c) x → r ≡ is_class_named p x c
class_by p x c r class is = and_true (is_class p c) (bytes_eq (canonical_name p c) x) r class is

-- ---- memory

pub no_memory : (project : Project) (x : Text) (r : Result ℕ RunFault) → IsErrAnd r (λ f. f ≡ fault.OutOfMemory) → IsStartOf project x r
no_memory project x (Ok m) h = absurd h
no_memory project x (Err f) h = subst (λ g. IsStartOf project x (Err g)) (sym h) IsStartOf.no_memory
