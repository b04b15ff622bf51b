-- Initializers and creations of arrays.
use Rattle.std.proofs.Common.{◌≡◌, refl, sym, ◌∙◌, ap, subst, ℕ, zero, suc, ◌+◌, ◌-◌, ◌<◌, ◌≤◌, ◌^◌, Bool, true, false, cond, List, [], ◌∷◌, ◌++◌, Option, Some, None, nat_eq, nat_lt, arith}
use Rattle.std.proofs.lemmas.Bool.{false≢true, true≢false}
use Rattle.std.proofs.lemmas.Bool.Decides.{Decides-eqb, Decides-ltb}
use Rattle.std.specs.Prelude.{option_map}
use Rattle.jr_core.specs.declared.code.Code.{Code}
use Rattle.jr_core.specs.declared.code.Code.TheVariants as c
use Rattle.jr_tree.specs.declared.label.Label.{Label}
use Rattle.jr_tree.specs.declared.label.Label.TheVariants as is
use Rattle.jr_tree.specs.Rows.{label, parent, end}
use Rattle.jr_defs.specs.declared.referent.RowType.{RowType}
use Rattle.jr_defs.specs.Types.{array}
use Rattle.jr_codes.specs.declared.source.Source.{Source}
use Rattle.jr_codes.specs.Facts.{Facts, type_in}
use Rattle.jr_codes.specs.Making.{Below, code, code_if, of_one, AreBefore, BeginsFrom, Parted, Stands}
use Rattle.jr_codes.specs.Waiting.{front, behind, top_before, TakesFront}
use Rattle.jr_codes.specs.Conversions.{converted, Converts}
use Rattle.jr_expressions.specs.Names.{item_type, initialized_by, initialized, wanted_type, is_list, is_new_array, declared_type, initial_type, lowered, InLists, IsRoundLists}
use Rattle.jr_expressions.specs.Expressions.{value_by, value_made, codes_of, list_made, new_array_by, new_array_made}
use Rattle.jr_expressions.specs.Passing.{TakesLengths}
use Rattle.jr_codes.specs.Reads.{rows_of, facts, IsReadAt, Becomes}
use Rattle.jr_expressions.proofs.Standing.{found, found_stands, one_becomes, both_some}
use Rattle.jr_codes.proofs.Fronts.{front_none, behind_none}
use Rattle.jr_expressions.proofs.Operated.{one_counted}

-- ---- the type of what an initializer is the value of

minus_none : (a : ℕ) → a ≡ a - 0
minus_none a = omega arith

lowered_none : (o : Option RowType) → o ≡ option_map (lowered 0) o
lowered_none None = refl
lowered_none (Some a) = ap (λ k. Some (array a.element k)) (minus_none a.dims)

minus_more : (a k : ℕ) → a - 1 - k ≡ a - (k + 1)
minus_more a k = omega arith

lowered_more : (k : ℕ) (o : Option RowType) → option_map (lowered k) (option_map item_type o) ≡ option_map (lowered (k + 1)) o
lowered_more k None = refl
lowered_more k (Some a) = ap (λ d. Some (array a.element d)) (minus_more a.dims k)

of_list : (l : Label) (f : Facts) (over : ℕ) (outer : Option RowType) → is_list l ≡ true → initialized_by l f over outer ≡ option_map item_type outer
of_list is.List f over outer h = refl
of_list _ f over outer h = absurd (false≢true h)

of_other : (l : Label) (f : Facts) (over : ℕ) (outer : Option RowType) → is_list l ≡ false → initialized_by l f over outer ≡ cond (is_new_array l) (f.typed over) (declared_type f over)
of_other is.List f over outer h = absurd (true≢false h)
of_other (is.NewArray primitive count more) f over outer h = refl
of_other _ f over outer h = refl

rounds_first : (n rounds : ℕ) → rounds + 0 ≡ n → n + 1 ≡ suc rounds
rounds_first n rounds is = omega (arith, is)

pub lists_none : (f : Facts) (n over : ℕ) → over ≡ parent f.rows n → InLists f n 0 over
lists_none f n over same = record {
  is = λ rounds is. ap (λ k. initialized f k (parent f.rows n)) (rounds_first n rounds is) ∙ ap (initialized f (suc rounds)) (sym same) ∙ lowered_none (initialized f (suc rounds) over);
}

rounds_more : (n rounds depth : ℕ) → rounds + (depth + 1) ≡ n → suc rounds + depth ≡ n
rounds_more n rounds depth is = omega (arith, is)

pub lists_more : (f : Facts) (n depth over next : ℕ) → InLists f n depth over → is_list (label f.rows over) ≡ true → next ≡ parent f.rows over → InLists f n (depth + 1) next
lists_more f n depth over next so list same = record {
  is = λ rounds is.
      so.is (suc rounds) (rounds_more n rounds depth is)
      ∙ ap (option_map (lowered depth)) (of_list (label f.rows over) f over (initialized f (suc rounds) (parent f.rows over)) list)
      ∙ lowered_more depth (initialized f (suc rounds) (parent f.rows over))
      ∙ ap (λ k. option_map (lowered (depth + 1)) (initialized f (suc rounds) k)) (sym same);
}

rounds_left : (n depth : ℕ) → depth < n → n - depth + depth ≡ n
rounds_left n depth lt = omega (arith, lt)

pub lists_end : (f : Facts) (n depth over : ℕ) → InLists f n depth over → depth < n → is_list (label f.rows over) ≡ false → IsRoundLists f n depth over
lists_end f n depth over so lt last = record { rounds = n - depth; last = last; is = so.is (n - depth) (rounds_left n depth lt) }

pub wanted_found : {f : Facts} {n depth over : ℕ} {ty : RowType} → IsRoundLists f n depth over → initial_type f over ≡ Some ty → wanted_type f n ≡ Some (lowered depth ty)
wanted_found {f} {n} {depth} {over} {ty} found is =
    found.is ∙ ap (option_map (lowered depth)) (of_other (label f.rows over) f over (initialized f found.rounds (parent f.rows over)) found.last ∙ is)

-- ---- initializers

pub value_becomes : {s : Source} {n m : ℕ} {y : Code} {to : RowType} {old left new : Below} → (IsReadAt s n → wanted_type (facts s) n ≡ Some to) → Converts (facts s) m to old left y → new ≡ (n, y) ∷ left
    → Becomes s n (λ parts. value_made (facts s) n parts) old new
value_becomes {s} {n} {m} {y} {to} {old} {left} {new} is one st = record {
  stands = λ read parts rest h lone. subst (λ o. Stands (value_by o (facts s) parts) n parts rest new) (sym (is read))
      ((one_becomes {s = s} {n = n} (λ m a. code_if (converted (facts s) m to a)) one.was (found (converted (facts s) m to one.given) y n left new one.is st)).stands read parts rest h lone);
}

less_not : (k e : ℕ) → k < e → e ≤ k → ⊥
less_not k e lt le = omega (arith, lt, le)

not_less : (b : Bool) (k e : ℕ) → nat_lt k e ≡ b → e ≤ k → b ≡ false
not_less true k e lt le = let less = (Decides-ltb k e).0 lt in absurd (less_not k e less le)
not_less false k e lt le = refl

top_behind : (e : ℕ) (rest : Below) → BeginsFrom e rest → top_before e rest ≡ false
top_behind e [] after = refl
top_behind e (p ∷ ps) after = not_less (nat_lt p.0 e) p.0 e refl after

pub front_parted : (e : ℕ) (parts rest : Below) → AreBefore e parts → BeginsFrom e rest → front e (parts ++ rest) ≡ codes_of parts
front_parted e [] rest inside after = front_none e rest (top_behind e rest after)
front_parted e (p ∷ ps) rest inside after =
    ap (λ b. cond b (p.1 ∷ front e (ps ++ rest)) []) ((Decides-ltb p.0 e).1 inside.0) ∙ ap (λ all. p.1 ∷ all) (front_parted e ps rest inside.1 after)

pub behind_parted : (e : ℕ) (parts rest : Below) → AreBefore e parts → BeginsFrom e rest → behind e (parts ++ rest) ≡ rest
behind_parted e [] rest inside after = behind_none e rest (top_behind e rest after)
behind_parted e (p ∷ ps) rest inside after =
    ap (λ b. cond b (behind e (ps ++ rest)) (p ∷ (ps ++ rest))) ((Decides-ltb p.0 e).1 inside.0) ∙ behind_parted e ps rest inside.1 after

list_stands : (f : Facts) (n e : ℕ) (to : RowType) (items : List Code) (old left new parts rest : Below) → Parted e old parts rest → TakesFront e old left items
    → new ≡ (n, c.NewArray (type_in f to) [] (Some items)) ∷ left → new ≡ (n, c.NewArray (type_in f to) [] (Some (codes_of parts))) ∷ rest
list_stands f n e to items old left new parts rest h takes st =
    st ∙ ap (λ xs. (n, c.NewArray (type_in f to) [] (Some xs)) ∷ left) (takes.taken ∙ ap (front e) h.is ∙ front_parted e parts rest h.inside h.after)
    ∙ ap (λ r. (n, c.NewArray (type_in f to) [] (Some (codes_of parts))) ∷ r) (takes.left ∙ ap (behind e) h.is ∙ behind_parted e parts rest h.inside h.after)

pub list_becomes : {s : Source} {n e : ℕ} {to : RowType} {items : List Code} {old left new : Below} → (IsReadAt s n → wanted_type (facts s) n ≡ Some to) → (n + 1 < 2 ^ 32 → e ≡ end (rows_of s) n)
    → TakesFront e old left items → new ≡ (n, c.NewArray (type_in (facts s) to) [] (Some items)) ∷ left → Becomes s n (λ parts. list_made (facts s) n parts) old new
list_becomes {s} {n} {e} {to} {items} {old} {left} {new} is same takes st = record {
  stands = λ read parts rest h lone.
      found_stands (option_map (λ to. c.NewArray (type_in (facts s) to) [] (Some (codes_of parts))) (wanted_type (facts s) n)) (c.NewArray (type_in (facts s) to) [] (Some (codes_of parts))) n parts rest new
      (ap (option_map (λ to. c.NewArray (type_in (facts s) to) [] (Some (codes_of parts)))) (is read))
      (list_stands (facts s) n e to items old left new parts rest (subst (λ k. Parted k old parts rest) (sym (same (one_counted read))) h) takes st);
}

-- ---- creations

pub measured_becomes : {s : Source} {n e : ℕ} {to : RowType} {all : List Code} {old left new : Below} → (facts s).typed n ≡ Some to → (n + 1 < 2 ^ 32 → e ≡ end (rows_of s) n)
    → TakesLengths (facts s) e old left all → new ≡ (n, c.NewArray (type_in (facts s) to) all None) ∷ left → Becomes s n (λ parts. code_if (new_array_by (facts s) n parts)) old new
measured_becomes {s} {n} {e} {to} {all} {old} {left} {new} typed same takes st = record {
  stands = λ read parts rest h lone.
      let taken = takes.each parts rest (subst (λ k. Parted k old parts rest) (sym (same (one_counted read))) h) in
      found_stands (new_array_by (facts s) n parts) (c.NewArray (type_in (facts s) to) all None) n parts rest new
      (both_some (λ to dims. Some (c.NewArray (type_in (facts s) to) dims None)) typed taken.is) (st ∙ ap (λ r. (n, c.NewArray (type_in (facts s) to) all None) ∷ r) taken.leaves);
}

with_none : (count : ℕ) (f : Facts) (n : ℕ) (parts : Below) → nat_eq count 0 ≡ true → new_array_made count f n parts ≡ of_one parts (λ m a. code a)
with_none count f n parts h = ap (λ k. new_array_made k f n parts) ((Decides-eqb count 0).0 h)

with_some : (count : ℕ) (f : Facts) (n : ℕ) (parts : Below) → nat_eq count 0 ≡ false → new_array_made count f n parts ≡ code_if (new_array_by f n parts)
with_some zero f n parts h = absurd (true≢false h)
with_some (suc count) f n parts h = refl

pub listed_becomes : {s : Source} {n : ℕ} {old new : Below} (count : ℕ) → nat_eq count 0 ≡ true → Becomes s n (λ parts. of_one parts (λ m a. code a)) old new
    → Becomes s n (λ parts. new_array_made count (facts s) n parts) old new
listed_becomes {s} {n} {old} {new} count none b = record {
  stands = λ read parts rest h lone. subst (λ x. Stands x n parts rest new) (sym (with_none count (facts s) n parts none)) (b.stands read parts rest h lone);
}

pub counted_becomes : {s : Source} {n : ℕ} {old new : Below} (count : ℕ) → nat_eq count 0 ≡ false → Becomes s n (λ parts. code_if (new_array_by (facts s) n parts)) old new
    → Becomes s n (λ parts. new_array_made count (facts s) n parts) old new
counted_becomes {s} {n} {old} {new} count some b = record {
  stands = λ read parts rest h lone. subst (λ x. Stands x n parts rest new) (sym (with_some count (facts s) n parts some)) (b.stands read parts rest h lone);
}
