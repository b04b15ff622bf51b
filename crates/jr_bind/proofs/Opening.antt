-- What lookup gives at rows of headers, and what is met there, as the code finds it.
use Rattle.std.proofs.Common.{◌≡◌, ◌⊎◌, refl, sym, ◌∙◌, ap, subst, arith, ℕ, ◌+◌, ◌<◌, ◌≤◌, ◌-◌, ◌^◌, Bool, true, false, not, nat_eq, List, length, Option, Some, None, Result, Ok, Err, IfOk}
use Rattle.std.specs.Option.{option_or}
use Rattle.std.proofs.lemmas.Bool.Decides.{Decides-eqb}
use Rattle.jr_tree.specs.declared.label.NameKind.{NameKind}
use Rattle.jr_tree.specs.declared.label.NameKind.TheVariants as kind
use Rattle.jr_tree.specs.declared.label.Sought.{Sought}
use Rattle.jr_tree.specs.declared.label.Sought.TheVariants as sought
use Rattle.jr_tree.specs.Rows.{Rows, name, end, sought_at}
use Rattle.jr_defs.specs.declared.referent.Referent.{Referent}
use Rattle.jr_defs.specs.declared.referent.RowType.{RowType}
use Rattle.jr_defs.specs.Referents.{Table, entries}
use Rattle.jr_defs.specs.Constants.{HasConstantForm}
use Rattle.jr_defs.specs.Lookup.{Look}
use Rattle.jr_defs.specs.Formed.{SeeksType, IsFormed}
use Rattle.jr_defs.proofs.Unique.{answer_unique}
use Rattle.jr_defs.proofs.TypesAgree.{otherwise_one}
use Rattle.jr_defs.specs.Headers.{NamesHeader, IsLookedForIn}
use Rattle.jr_plain.specs.Search.{Lists}
use Rattle.jr_plain.specs.Types.{referred_type}
use Rattle.jr_headers.specs.Rounds.{look_type}
use Rattle.jr_headers.proofs.Headed.{header_below}
use Rattle.jr_headers.proofs.HeaderRows.{headed}
use Rattle.jr_headers.proofs.Names.{import_seeks, import_row}
use Rattle.jr_members.proofs.Each.{item_in}
use Rattle.jr_lookup.specs.Sights.{AreImportRows}
use Rattle.jr_headers.proofs.Looked.{look_type_is}
use Rattle.jr_lookup.specs.declared.simple.Sight.{Sight}
use Rattle.jr_lookup.specs.Behind.{CanLook}
use Rattle.jr_lookup.specs.Calls.{CanSee, NeedsTypes}
use Rattle.jr_bind.specs.Edges.{IsSimple, FindsType, IsBefore, IsOpenAt, IsScan, item, ArePassed, IsLookedAt}
use Rattle.jr_bind.proofs.Scanning.{scan_next, passed_next, looked_at}
use Rattle.jr_bind.specs.Edges.{IsWhole}

no_types : (s : Sought) → SeeksType s → NeedsTypes s → ⊥
no_types (sought.Simple k) h n = n
no_types (sought.Qualified kind.Type) h n = n
no_types (sought.Qualified kind.PackageOrType) h n = n
no_types _ h n = absurd h

module _ (sight : Sight) (at : ℕ) where
  abbrev p : Rows
  p = sight.world.under.rows.now

  abbrev u : Table
  u = entries sight.world.under.table.now

  pub looked : {E : Type 0} (types : List (Option RowType)) (r : Result Referent E) → IsWhole sight → at < length p → SeeksType (sought_at p at)
      → ((t : Table) → CanSee t sight at → (NeedsTypes (sought_at p at) → CanLook t sight types at) → IfOk r (λ a. Look p t (HasConstantForm p t) at a)) → IfOk r (λ a. a ≡ look_type p u at)
  looked types r whole lt seeks given = by r (given u (record { sight_is = whole.sight_is; placed = whole.placed; inside = lt; same = refl }) (λ n. absurd (no_types (sought_at p at) seeks n)))
    where
      by : {E : Type 0} (r : Result Referent E) → IfOk r (λ a. Look p u (HasConstantForm p u) at a) → IfOk r (λ a. a ≡ look_type p u at)
      by (Ok a) h = answer_unique _ _ (otherwise_one p u (HasConstantForm p u) at (name p at) (sought_at p at)) a (look_type p u at) h (look_type_is p u (headed p whole.formed) at (HasConstantForm p u) seeks)
      by (Err e) h = tt

pub open_is : (p : Rows) (u : Table) (rank : ℕ → ℕ) (c k : ℕ) (found : Referent) (met result : Option ℕ) → met ≡ referred_type p found → found ≡ look_type p u k
    → (result ≡ None → (s : ℕ) → met ≡ Some s → IsBefore rank c s) → ((s : ℕ) → result ≡ Some s → (met ≡ Some s) × (IsBefore rank c s → ⊥)) → IsOpenAt p u rank c k result
open_is p u rank c k found met result is same none some = record {
  none = λ z s f. none z s (is ∙ ap (referred_type p) same ∙ f);
  some = λ s z. let w = some s z in (sym (ap (referred_type p) same) ∙ sym is ∙ w.0, w.1);
}

asked : (a b : ℕ) → (a ≡ b → ⊥) → not (nat_eq a b) ≡ true
asked a b no' = by (nat_eq a b) (λ e. no' ((Decides-eqb a b).0 e))
  where
    by : (q : Bool) → (q ≡ true → ⊥) → not q ≡ true
    by true h = absurd (h refl)
    by false h = refl

-- one row of a name more
pub scan_step : (p : Rows) (formed : IsFormed p) (u : Table) (rank : ℕ → ℕ) (c own from at k : ℕ) (first met result : Option ℕ) → length p + 3 < 2 ^ 32 → from < length p → SeeksType (sought_at p from)
    → (from ≤ at) × (at ≤ end p from) × IsScan p u rank c own at (end p from) first → from < at → at ≡ k + 1 → (k < length p → SeeksType (sought_at p k) → IsOpenAt p u rank c k met)
    → (k < length p → SeeksType (sought_at p k) → not (nat_eq k own) ≡ true → u k ≡ look_type p u k) → (here till : ℕ) → (k + 1 < 2 ^ 32 → here ≡ end p k) → (from + 1 < 2 ^ 32 → till ≡ end p from)
    → nat_eq here till ≡ true → result ≡ option_or first met → (from ≤ k) × (k ≤ end p from) × IsScan p u rank c own k (end p from) result
scan_step p formed u rank c own from at k first met result few lt seeks inv up is opened same here till here_is till_is equal result_is =
    let last = formed.tree.last from lt in let le = inv.1 in let inside : k < length p = omega arith in
    let seek = formed.identifier from k seeks (record { from = omega arith; before = omega arith }) in
    let one = here_is (omega arith) in let other = till_is (omega arith) in let e = (Decides-eqb here till).0 equal in (
      omega arith,
      omega arith,
      subst (λ f. IsScan p u rank c own k (end p from) f) (sym result_is)
          (scan_next p u rank c own (end p from) k at first met is (omega arith) inv.2 (sym one ∙ e ∙ other) (λ no'. same inside seek (asked k own no')) (opened inside seek)),
    )

-- one import more
pub import_step : (p : Rows) (formed : IsFormed p) (u : Table) (rank : ℕ → ℕ) (c : ℕ) (imports : List ℕ) (n behind next till : ℕ) (first met result : Option ℕ) → length p + 3 < 2 ^ 32 → AreImportRows p imports
    → n < length imports → ArePassed p u rank c imports n behind first → behind ≤ item imports n → (item imports n + 1 < 2 ^ 32 → next ≡ item imports n + 1)
    → (next < length p → SeeksType (sought_at p next) → IsScan p u rank c (item imports n) next (end p next) met) → (next + 1 < 2 ^ 32 → till ≡ end p next) → result ≡ option_or first met
    → ArePassed p u rank c imports (n + 1) till result
import_step p formed u rank c imports n behind next till first met result few rows lt inv le next_is scanned till_is result_is =
    let row = rows.each (item imports n) (item_in imports n 0 lt) in let low = import_row p formed (item imports n) row.form row.import in
    let inside = formed.import_name (item imports n) row.form row.import in let last = formed.tree.last (item imports n) low in let e = next_is (omega arith) in
    let ends = till_is (omega arith) ∙ ap (end p) e in
    let scan = subst (λ x. IsScan p u rank c (item imports n) x (end p x) met) e (scanned (omega arith) (subst (λ x. SeeksType (sought_at p x)) (sym e) (import_seeks p formed (item imports n) row.form row.import))) in
    subst (λ f. ArePassed p u rank c imports (n + 1) till f) (sym result_is) (subst (λ b. ArePassed p u rank c imports (n + 1) b (option_or first met)) (sym ends)
    (passed_next p u rank c imports n behind (item imports n) first met refl le (formed.tree.nested (item imports n + 1)) inv scan))

pub passed_all : (p : Rows) (u : Table) (rank : ℕ → ℕ) (c : ℕ) (imports : List ℕ) (n behind : ℕ) (first : Option ℕ) → n ≡ length imports → ArePassed p u rank c imports n behind first → ArePassed p u rank c imports (length imports) behind first
passed_all p u rank c imports n behind first e h = subst (λ n. ArePassed p u rank c imports n behind first) e h

simple_of : (s : Sought) → IsSimple s → (k : NameKind) × (s ≡ sought.Simple k)
simple_of (sought.Simple k) h = (k, refl)
simple_of _ h = absurd h

-- one name of a header
pub met_at : (p : Rows) (formed : IsFormed p) (u : Table) (rank : ℕ → ℕ) (c n at till : ℕ) (found : Sought) (imports : List ℕ) (first own_first result : Option ℕ) → length p + 3 < 2 ^ 32 → (d : ℕ) → NamesHeader p d n
    → (n + 1 < 2 ^ 32 → till ≡ end p n) → at ≡ till - 1 → found ≡ sought_at p at → IsSimple found → (at < length p → Lists imports (IsLookedForIn p u at))
    → (AreImportRows p imports → (behind : ℕ) × (behind ≤ n) × ArePassed p u rank c imports (length imports) behind first)
    → (n < length p → SeeksType (sought_at p n) → IsScan p u rank c n n (end p n) own_first) → result ≡ option_or first own_first → IsLookedAt p u rank c n result
met_at p formed u rank c n at till found imports first own_first result few d header till_is at_is found_is simple lists passed scan result_is =
    let low = header_below p d n header in let ends = till_is (omega arith) in let more = formed.tree.nested n in let last = formed.tree.last n low in
    let all = lists (omega arith) in let of_kind = simple_of found simple in
    let done = passed (record { each = λ i h. let w = (all i).0 h in record { form = w.form; import = w.import.import } }) in
    subst (λ f. IsLookedAt p u rank c n f) (sym result_is) (looked_at p formed.tree u rank c n at (record { last = omega arith; kind = of_kind.0; simple = sym found_is ∙ of_kind.1 }) imports all done.0 done.1 first own_first done.2
    (scan low (formed.header_name d n header)))
