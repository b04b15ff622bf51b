-- What an occurrence is reached through: one value and one type at most (JLS 6.6.1, 6.6.2).
use Rattle.std.proofs.Common.{◌≡◌, refl, sym, ◌∙◌, ap, ap₂, arith, ℕ, zero, suc, ◌+◌, Bool, true, false, not, cond, ◌&&◌, ◌||◌, List, [], ◌∷◌, ◌++◌, append-nil, length, flat_map, Option, Some, None, is_some, option_map, nat_eq}
use Rattle.std.specs.List.{list_any}
use Rattle.std.specs.Option.{option_or, option_map_or}
use Rattle.std.proofs.lemmas.Grind.{flat_map-append}
use Rattle.jr_tree.specs.Rows.{Rows, parent, sought_at}
use Rattle.jr_defs.specs.declared.referent.Element.{Element}
use Rattle.jr_defs.specs.declared.referent.Element.TheVariants as element
use Rattle.jr_defs.specs.declared.referent.RowType.{RowType}
use Rattle.jr_defs.specs.Referents.{Table}
use Rattle.jr_defs.specs.Types.{class_type}
use Rattle.jr_plain.specs.Search.{all_such, first_below}
use Rattle.jr_plain.specs.Lists.{or_else}
use Rattle.jr_plain.specs.Declarations.{is_object, is_occurrence}
use Rattle.jr_plain.specs.Types.{named_type}
use Rattle.jr_plain.specs.Access.{is_accessible}
use Rattle.jr_plain.specs.Overloads.{Types}
use Rattle.jr_plain.specs.Lookup.{Before, object, objects_of, objects_before, receivers}
use Rattle.jr_plain.proofs.Tests.{itself}
use Rattle.jr_plain.proofs.Searches.{finds_first}
use Rattle.jr_plain.proofs.Declared.{object_tells}
use Rattle.jr_supers.specs.Above.{HasNoOtherObject, item_list}
use Rattle.jr_supers.specs.Direct.{object_row}
use Rattle.jr_supers.specs.Tabled.{}
use Rattle.jr_name_rules.specs.AccessTests as plain
use Rattle.jr_name_rules.specs.Found.{declared_row, found}
use Rattle.jr_view.specs.declared.View.{View}
use Rattle.jr_name_faults.specs.Views.{rows_in, table_in, types_in, IsSeenView, type_of_child, type_before, object_by, object_of, is_hidden_through, is_hidden_from, is_hidden_at}

-- ---- the one class Object

one_such : (test : ℕ → Bool) → ((j k : ℕ) → test j ≡ true → test k ≡ true → j ≡ k) → (n : ℕ) → all_such n test ≡ item_list (first_below n test)
one_such test one zero = refl
one_such test one (suc n) = by (first_below n test) refl (test n) refl (one_such test one n)
  where
    alone : (b : Bool) → cond b (n ∷ []) [] ≡ item_list (cond b (Some n) None)
    alone true = refl
    alone false = refl

    by : (o : Option ℕ) → first_below n test ≡ o → (b : Bool) → test n ≡ b → all_such n test ≡ item_list o → all_such n test ++ cond b (n ∷ []) [] ≡ item_list (option_or o (cond b (Some n) None))
    by None e b is h = ap (λ l. l ++ cond b (n ∷ []) []) h ∙ alone b
    by (Some k) e true is h = let first = (finds_first test (λ k. test k ≡ true) (λ k. itself (test k)) n k).0 e in let less = first.0 in let same = one k n first.1 is in absurd (omega arith)
    by (Some k) e false is h = append-nil (all_such n test) ∙ h

objects_are : (p : Rows) → HasNoOtherObject p → all_such (length p) (λ c. is_object p c) ≡ item_list (object_row p)
objects_are p one = one_such (λ c. is_object p c) (λ j k a b. one j k ((object_tells p j).0 a) ((object_tells p k).0 b)) (length p)

-- ---- what stands before a dot

abbrev some_list : Option RowType → List (Option RowType)
some_list None = []
some_list (Some a) = Some a ∷ []

abbrev type_list : Bool → List (Option RowType)
type_list b = cond b (None ∷ []) []

abbrev through : List Before → List (Option RowType)
through all = flat_map (λ r. r.1 ∷ []) all

module _ (p : Rows) (one : HasNoOtherObject p) where
  of_class : (o : Option ℕ) → through (flat_map (λ c. object c ∷ []) (item_list o)) ≡ some_list (option_map class_type o)
  of_class None = refl
  of_class (Some c) = refl

  object_typed : (o : Option ℕ) → o ≡ object_row p → (a : RowType) (dims : ℕ) (e : Element) → record { element = e; dims = dims } ≡ a → through (objects_of p dims e) ≡ some_list (object_by o a dims e)
  object_typed o is a zero (element.Class c) same = ap (λ a. Some a ∷ []) same
  object_typed o is a zero e same = refl
  object_typed o is a (suc dims) e same = ap (λ l. through (flat_map (λ c. object c ∷ []) l)) (objects_are p one ∙ ap item_list (sym is)) ∙ of_class o

  object_told : (o : Option ℕ) → o ≡ object_row p → (t : Option RowType) → through (option_map_or (λ a. objects_of p a.dims a.element) t []) ≡ some_list (object_of o t)
  object_told o is None = refl
  object_told o is (Some a) = object_typed o is a a.dims a.element refl

  value_before : (types : Types) (o : Option ℕ) → o ≡ object_row p → (n : ℕ) → through (objects_before p types n) ≡ some_list (object_of o (type_before p types n))
  value_before types o is n = by (nat_eq (parent p (n + 1)) n)
    where
      by : (b : Bool) → through (cond b (option_map_or (λ a. objects_of p a.dims a.element) (types (n + 1)) []) []) ≡ some_list (object_of o (type_of_child types (cond b (Some (n + 1)) None)))
      by true = object_told o is (types (n + 1))
      by false = refl

  named_before : (t : Table) (n : ℕ) → through (option_map_or (λ c. (c, None) ∷ []) (named_type p t n) []) ≡ type_list (is_some (named_type p t n))
  named_before t n = by (named_type p t n)
    where
      by : (c : Option ℕ) → through (option_map_or (λ c. (c, None) ∷ []) c []) ≡ type_list (is_some c)
      by None = refl
      by (Some c) = refl

  all_before : (t : Table) (types : Types) (o : Option ℕ) → o ≡ object_row p → (n : ℕ) → through (receivers p t types n) ≡ some_list (object_of o (type_before p types n)) ++ type_list (is_some (named_type p t n))
  all_before t types o is n = flat_map-append (λ r. r.1 ∷ []) (objects_before p types n) (option_map_or (λ c. (c, None) ∷ []) (named_type p t n) [])
      ∙ ap₂ (λ xs ys. xs ++ ys) (value_before types o is n) (named_before t n)

-- ---- access

or_false : (b : Bool) → (b || false) ≡ b
or_false true = refl
or_false false = refl

module _ (p : Rows) (t : Table) (d n : ℕ) where
  is_closed : Option RowType → Bool
  is_closed a = not (is_accessible p t d n a)

  hidden_told : (v : Option RowType) (b : Bool) → list_any (λ a. not (is_accessible p t d n a)) (or_else (some_list v ++ type_list b) (None ∷ [])) ≡ is_hidden_through p t d n v b
  hidden_told None true = or_false _
  hidden_told None false = or_false _
  hidden_told (Some a) true = ap (λ c. not (is_accessible p t d n (Some a)) || c) (or_false _)
  hidden_told (Some a) false = refl

found_same : {A : Type 0} (one : Option A) (f g : A → Bool) → ((a : A) → f a ≡ g a) → found one f ≡ found one g
found_same None f g same = refl
found_same (Some a) f g same = same a

module _ (view : View) (seen : IsSeenView view) (n : ℕ) where
  one : HasNoOtherObject (rows_in view)
  one = seen.seen.above.well.one

  from_told : (d : ℕ) (b : Bool)
      → is_hidden_from view d n b ≡ list_any (λ a. not (is_accessible (rows_in view) (table_in view) d n a)) (or_else (cond b (through (receivers (rows_in view) (table_in view) (types_in view) n)) []) (None ∷ []))
  from_told d true = sym (ap (λ l. list_any (λ a. not (is_accessible (rows_in view) (table_in view) d n a)) (or_else l (None ∷ []))) (all_before (rows_in view) one (table_in view) (types_in view) _ seen.seen.above.object n)
      ∙ hidden_told (rows_in view) (table_in view) d n _ _)
  from_told d false = sym (or_false _)

  type_told : (b : Bool) (f : _ → Bool) → (b && found (type_before (rows_in view) (types_in view) n) f) ≡ (b && (nat_eq (parent (rows_in view) (n + 1)) n && found (types_in view (n + 1)) f))
  type_told false f = refl
  type_told true f = by (nat_eq (parent (rows_in view) (n + 1)) n)
    where
      by : (b : Bool) → found (type_of_child (types_in view) (cond b (Some (n + 1)) None)) f ≡ (b && found (types_in view (n + 1)) f)
      by true = refl
      by false = refl

  pub access_told : (is_occurrence (rows_in view) n && is_hidden_at view n (plain.is_behind_dot (sought_at (rows_in view) n))) ≡ plain.is_not_accessible (rows_in view) (table_in view) (types_in view) n
  access_told = ap (λ b. is_occurrence (rows_in view) n && b) (ap₂ (λ a b. a || b)
      (found_same (declared_row (table_in view n)) _ _ (λ d. from_told d (plain.is_behind_dot (sought_at (rows_in view) n))))
      (type_told (plain.is_behind_dot (sought_at (rows_in view) n)) (λ a. plain.has_hidden_class (rows_in view) (table_in view) n a)))
