-- The types of the arguments of a call, where those of the rows behind it are known.
use Rattle.std.proofs.Common.{◌≡◌, refl, sym, ◌∙◌, ap, ap₂, subst, ⊎_elim, arith, ℕ, zero, suc, ◌+◌, ◌-◌, ◌<◌, ◌≤◌, Bool, true, false, cond, List, [], ◌∷◌, ◌++◌, append_assoc, append-nil, length, Option, Some, None, nat_eq, Decides}
use Rattle.std.specs.Prelude.{option_map}
use Rattle.std.proofs.lemmas.Bool.{false≢true, cases_lt}
use Rattle.std.proofs.lemmas.Bool.Decides.{Decides-eqb}
use Rattle.std.proofs.lemmas.Option.{none-some, same_Some}
use Rattle.jr_tree.specs.declared.label.Label.{Label}
use Rattle.jr_tree.specs.declared.label.Label.TheVariants as is
use Rattle.jr_tree.specs.declared.label.ReceiverKind.TheVariants as on
use Rattle.jr_tree.specs.Rows.{Rows, label, parent, end}
use Rattle.jr_tree.specs.Tree.{IsTree}
use Rattle.jr_defs.specs.declared.referent.RowType.{RowType}
use Rattle.jr_defs.specs.Referents.{Table}
use Rattle.jr_defs.specs.Typing.{TypeOf}
use Rattle.jr_defs.specs.Overloads.{ArgumentTypes}
use Rattle.jr_defs.specs.Lookup.{arguments_by, Arguments}
use Rattle.jr_plain.specs.Search.{Finds}
use Rattle.jr_plain.specs.Types.{before}
use Rattle.jr_plain.specs.Overloads.{Types, with_argument, argument_types}
use Rattle.jr_plain.proofs.Bounds.{parent_past}
use Rattle.jr_lookup.specs.Behind.{begins_behind, IsArguing}

-- ---- where they begin

pub begins_at : (p : Rows) (l : Label) (o : ℕ) → cond (begins_behind l) (end p (o + 1)) (o + 1) ≡ arguments_by l p o
begins_at p (is.Call on.Expression) o = refl
begins_at p (is.Call on.Name) o = refl
begins_at p (is.Call on.Absent) o = refl
begins_at p (is.Call on.Super) o = refl
begins_at p is.New o = refl
begins_at p _ o = refl

pub begins_after : (p : Rows) → IsTree p → (l : Label) (o : ℕ) → o < arguments_by l p o
begins_after p tree l o = let h = tree.nested (o + 1) in subst (λ n. o < n) (begins_at p l o) (by (begins_behind l) (omega arith))
  where
    by : (b : Bool) → o < end p (o + 1) → o < cond b (end p (o + 1)) (o + 1)
    by true h = h
    by false h = omega arith

-- ---- one after the other

abbrev with_front : List RowType → Option (List RowType) → Option (List RowType)
with_front all rest = option_map (λ more. all ++ more) rest

one_more : (all : List RowType) (a : RowType) (behind : Option (List RowType)) → with_front (all ++ a ∷ []) behind ≡ with_front all (before (Some a) behind)
one_more all a None = refl
one_more all a (Some more) = ap Some (append_assoc all (a ∷ []) more)

module _ (p : Rows) (type_of : Types) (o first : ℕ) where
  abbrev Whole : Option (List RowType)
  Whole = argument_types p type_of o (length p) first

  with_at : (k : ℕ) (behind : Option (List RowType)) → with_argument p type_of o k behind ≡ cond (nat_eq (parent p k) o) (before (type_of k) behind) (Some [])
  with_at k behind = refl

  pub argue_start : (all : List RowType) → all ≡ [] → o < first → IsArguing p type_of o first 0 first all
  argue_start all none lt = record {
    behind = lt;
    far = omega arith;
    rest = ap (λ xs. with_front xs (argument_types p type_of o (length p - 0) first)) none ∙ ap (λ n. with_front [] (argument_types p type_of o n first)) (let e : length p - 0 ≡ length p = omega arith in e) ∙ front_none Whole;
  }
    where
      front_none : (rest : Option (List RowType)) → with_front [] rest ≡ rest
      front_none None = refl
      front_none (Some more) = refl

  pub argue_next : (turn child next : ℕ) (all more : List RowType) (a : RowType) (is : Bool) (found : Option RowType) → turn < length p → IsTree p → IsArguing p type_of o first turn child all
      → is ≡ nat_eq (parent p child) o → is ≡ true → found ≡ type_of child → found ≡ Some a → next ≡ end p child → more ≡ all ++ a ∷ [] → IsArguing p type_of o first (turn + 1) next more
  argue_next turn child next all more a is found lt tree h f e g k n m = let nested = tree.nested child in let low = h.behind in let far = h.far in record {
    behind = omega (arith, n, nested, low);
    far = omega (arith, n, nested, far);
    rest = ap₂ (λ xs c. with_front xs (argument_types p type_of o (length p - (turn + 1)) c)) m n ∙ one_more all a (argument_types p type_of o (length p - (turn + 1)) (end p child))
        ∙ sym (ap (λ r. with_front all (argument_types p type_of o r child)) rounds
        ∙ ap (λ b. with_front all (cond b (before (type_of child) (argument_types p type_of o (length p - (turn + 1)) (end p child))) (Some []))) (sym f ∙ e)
        ∙ ap (λ t. with_front all (before t (argument_types p type_of o (length p - (turn + 1)) (end p child)))) (sym g ∙ k))
        ∙ h.rest;
  }
    where
      rounds : length p - turn ≡ suc (length p - (turn + 1))
      rounds = omega arith

  pub argue_below : (turn child : ℕ) (all : List RowType) (is : Bool) → IsArguing p type_of o first turn child all → is ≡ nat_eq (parent p child) o → is ≡ true → child < length p
  argue_below turn child all is h f e = let low = h.behind in let up = (Decides-eqb (parent p child) o).0 (sym f ∙ e) in
      ⊎_elim (λ lt. lt) (λ le. let past = parent_past p child le in absurd (omega (arith, past, low, up))) (cases_lt child (length p))

  stopped : (rounds k : ℕ) → nat_eq (parent p k) o ≡ false → argument_types p type_of o rounds k ≡ Some []
  stopped zero k e = ap (λ b. cond b (before (type_of k) None) (Some [])) e
  stopped (suc rounds) k e = ap (λ b. cond b (before (type_of k) (argument_types p type_of o rounds (end p k))) (Some [])) e

  pub argue_stop : (turn child : ℕ) (all : List RowType) (is : Bool) → IsArguing p type_of o first turn child all → is ≡ nat_eq (parent p child) o → is ≡ false → Some all ≡ Whole
  argue_stop turn child all is h f e = sym (ap (λ xs. Some xs) (append-nil all)) ∙ sym (ap (with_front all) (stopped (length p - turn) child (sym f ∙ e))) ∙ h.rest

  pub argue_unknown : (turn child : ℕ) (all : List RowType) (is : Bool) (found : Option RowType) → turn < length p → IsArguing p type_of o first turn child all → is ≡ nat_eq (parent p child) o → is ≡ true
      → found ≡ type_of child → found ≡ None → None ≡ Whole
  argue_unknown turn child all is found lt h f e g k = sym (ap (λ r. with_front all (argument_types p type_of o r child)) rounds
      ∙ ap (λ b. with_front all (cond b (before (type_of child) (argument_types p type_of o (length p - (turn + 1)) (end p child))) (Some []))) (sym f ∙ e)
      ∙ ap (λ t. with_front all (before t (argument_types p type_of o (length p - (turn + 1)) (end p child)))) (sym g ∙ k)) ∙ h.rest
    where
      rounds : length p - turn ≡ suc (length p - (turn + 1))
      rounds = omega arith

  pub argue_end : (turn child : ℕ) (all : List RowType) → length p ≤ turn → IsArguing p type_of o first turn child all → Some all ≡ Whole
  argue_end turn child all le h = let low = h.behind in let far = h.far in argue_stop turn child all false h (sym (apart (parent_past p child (omega arith)) low)) refl
    where
      apart : parent p child ≡ child → o < child → nat_eq (parent p child) o ≡ false
      apart e lt = by (nat_eq (parent p child) o) (Decides-eqb (parent p child) o)
        where
          by : (b : Bool) → Decides b (parent p child ≡ o) → b ≡ false
          by true d = let same = d.0 refl in absurd (omega (arith, e, same, lt))
          by false d = refl

-- ---- what they are

module _ (p : Rows) (t : Table) (K : ℕ → Type 0) (type_of : Types) (o : ℕ) (typed : (n : ℕ) → o < n → Finds (type_of n) (λ a. TypeOf p t K n a)) (tree : IsTree p) where
  before_some : (found : Option RowType) (behind : Option (List RowType)) (all : List RowType) → before found behind ≡ Some all → (a : RowType) × (more : List RowType) × (found ≡ Some a) × (behind ≡ Some more) × (a ∷ more ≡ all)
  before_some (Some a) (Some more) all e = (a, more, refl, refl, same_Some (a ∷ more) all e)
  before_some (Some a) None all e = absurd (none-some all e)
  before_some None _ all e = absurd (none-some all e)

  step_out : (k : ℕ) (behind : Option (List RowType)) → o < k → ((more : List RowType) → behind ≡ Some more → ArgumentTypes p t K o (end p k) more) → (all : List RowType) → with_argument p type_of o k behind ≡ Some all
      → ArgumentTypes p t K o k all
  step_out k behind lt rest all e = by (nat_eq (parent p k) o) (Decides-eqb (parent p k) o) e
    where
      by : (b : Bool) → Decides b (parent p k ≡ o) → cond b (before (type_of k) behind) (Some []) ≡ Some all → ArgumentTypes p t K o k all
      by true d e = let h = before_some (type_of k) behind all e in subst (λ xs. ArgumentTypes p t K o k xs) h.4 (ArgumentTypes.argument (d.0 refl) ((typed k lt h.0).0 h.2) (rest h.1 h.3))
      by false d e = subst (λ xs. ArgumentTypes p t K o k xs) (same_Some [] all e) (ArgumentTypes.done (λ h. false≢true (d.1 h)))

  types_out : (rounds k : ℕ) → o < k → (all : List RowType) → argument_types p type_of o rounds k ≡ Some all → ArgumentTypes p t K o k all
  types_out zero k lt all e = step_out k None lt (λ more h. absurd (none-some more h)) all e
  types_out (suc rounds) k lt all e = let nested = tree.nested k in step_out k (argument_types p type_of o rounds (end p k)) lt (λ more h. types_out rounds (end p k) (omega arith) more h) all e

  takes : (k : ℕ) (a : RowType) (more : List RowType) (behind : Option (List RowType)) → o < k → parent p k ≡ o → TypeOf p t K k a → behind ≡ Some more → with_argument p type_of o k behind ≡ Some (a ∷ more)
  takes k a more behind lt up h e = ap (λ b. cond b (before (type_of k) behind) (Some [])) ((Decides-eqb (parent p k) o).1 up) ∙ ap₂ before ((typed k lt a).1 h) e

  ends_at : (k : ℕ) (behind : Option (List RowType)) → (parent p k ≡ o → ⊥) → with_argument p type_of o k behind ≡ Some []
  ends_at k behind apart = by (nat_eq (parent p k) o) (Decides-eqb (parent p k) o)
    where
      by : (b : Bool) → Decides b (parent p k ≡ o) → cond b (before (type_of k) behind) (Some []) ≡ Some []
      by true d = absurd (apart (d.0 refl))
      by false d = refl

  types_into : (rounds k : ℕ) (all : List RowType) → o < k → length p ≤ k + rounds → ArgumentTypes p t K o k all → argument_types p type_of o rounds k ≡ Some all
  types_into zero k _ lt le (ArgumentTypes.argument up h rest) = let past = parent_past p k (omega arith) in absurd (omega (arith, up, past, lt))
  types_into zero k _ lt le (ArgumentTypes.done apart) = ends_at k None apart
  types_into (suc rounds) k _ lt le (ArgumentTypes.argument {a = a} {more = more} up h rest) = let nested = tree.nested k in
      takes k a more (argument_types p type_of o rounds (end p k)) lt up h (types_into rounds (end p k) more (omega arith) (omega arith) rest)
  types_into (suc rounds) k _ lt le (ArgumentTypes.done apart) = ends_at k (argument_types p type_of o rounds (end p k)) apart

  pub arguments_find : (first : ℕ) (found : Option (List RowType)) → first ≡ arguments_by (label p o) p o → found ≡ argument_types p type_of o (length p) first → Finds found (λ all. Arguments p t K o all)
  arguments_find first found f e all = let is : found ≡ argument_types p type_of o (length p) (arguments_by (label p o) p o) = e ∙ ap (argument_types p type_of o (length p)) f in let lt = begins_after p tree (label p o) o in
      (λ h. types_out (length p) (arguments_by (label p o) p o) lt all (sym is ∙ h), λ h. is ∙ types_into (length p) (arguments_by (label p o) p o) all lt (omega arith) h)
