-- What a row has by tables that are right is right too.
use Rattle.std.proofs.Common.{◌≡◌, refl, sym, ◌∙◌, ap, ap₂, subst, inl, inr, ⊎_elim, arith, ℕ, zero, suc, ◌+◌, ◌<◌, Bool, true, false, cond, List, [], ◌∷◌, ◌++◌, length, Option, Some, None, ◌⊎◌, slice_get, nat_eq, Decides}
use Rattle.std.specs.Prelude.{slice_set, option_and_then, replicate}
use Rattle.std.proofs.lemmas.Bool.{false≢true}
use Rattle.std.proofs.lemmas.List.{length-set, length-replicate}
use Rattle.std.proofs.lemmas.Bool.Decides.{Decides-eqb}
use Rattle.std.proofs.lemmas.Option.{none-some, same_Some}
use Rattle.jr_base.specs.declared.constant.Const.{Const}
use Rattle.jr_base.specs.declared.constant.Const.TheVariants as c
use Rattle.jr_tree.specs.declared.label.Label.{Label}
use Rattle.jr_tree.specs.declared.label.Label.TheVariants as is
use Rattle.jr_tree.specs.Rows.{Rows, label, parent, end}
use Rattle.jr_defs.specs.declared.referent.Referent.{Referent}
use Rattle.jr_defs.specs.declared.referent.Referent.TheVariants.{Declared}
use Rattle.jr_defs.specs.Referents.{Table}
use Rattle.jr_defs.specs.Declarations.{IsVariable}
use Rattle.jr_defs.specs.Modifiers.{IsFinal}
use Rattle.jr_defs.specs.Laws.{Picked}
use Rattle.jr_defs.specs.Operators.{cast_to, assigned_to, unary_value, binary_value, chosen}
use Rattle.jr_defs.specs.Constants.{Converts, ConstantOf, ConstantVariable}
use Rattle.jr_plain.specs.Search.{Finds}
use Rattle.jr_plain.specs.Types.{type_at, type_of_declared}
use Rattle.jr_plain.specs.Conversions.{Constants, of_two}
use Rattle.jr_plain.specs.Constants as plain
use Rattle.jr_plain.proofs.Tests.{both}
use Rattle.jr_plain.proofs.Declared.{variable_tells}
use Rattle.jr_plain.proofs.Modified.{final_tells}
use Rattle.jr_plain.proofs.Typed.{type_finds, has_type_finds}
use Rattle.jr_plain.proofs.Finding.{guard_finds, then_finds, two_finds}
use Rattle.jr_plain.proofs.Valued.{convert_finds}
use Rattle.jr_supers.specs.Tabled.{declared}
use Rattle.jr_constants.specs.declared.value.Value.{Value}
use Rattle.jr_constants.specs.declared.value.Value.TheVariants as v
use Rattle.jr_constants.specs.Values.{seen_if, value_in, value_in_if, text_at}
use Rattle.jr_constants.proofs.Told.{assigned_tells}
use Rattle.jr_constants.specs.Tables.{item, values_in, valued_by, IsIn, IsInIf, AreIn, IsGrown, Tells, AreKnown, IsInitializer}

pub itself_finds : {A : Type 0} (found : Option A) → Finds found (λ x. found ≡ Some x)
itself_finds found x = (λ e. e, λ e. e)

pub value_label_tells : (l : Label) → Decides (plain.is_value l) (l ≡ is.Value)
value_label_tells is.Value = (λ h. refl, λ e. refl)
value_label_tells _ = (λ h. absurd (false≢true h), λ e. absurd (cc))

-- a final variable with an initializer
abbrev pub Initialized : Rows → ℕ → Type 0
Initialized p d = (((IsVariable p d × IsFinal p d) × (parent p (d + 1) ≡ d)) × (label p (d + 1) ≡ is.Value)) × (parent p (d + 2) ≡ d + 1)

pub initialized_tells : (p : Rows) (d : ℕ) → Decides (plain.is_initialized p d) (Initialized p d)
initialized_tells p d = both (both (both (both (variable_tells p d) (final_tells p d)) (Decides-eqb (parent p (d + 1)) d)) (value_label_tells (label p (d + 1)))) (Decides-eqb (parent p (d + 2)) (d + 1))

pub initializer_is : (p : Rows) (d n : ℕ) → plain.is_initialized p d ≡ true → n ≡ d + 2 → IsInitializer p d n
initializer_is p d n h e = record { initialized = h; row = e }

-- ---- the value of a row

module _ (p : Rows) (t : Table) (k : ℕ → Bool) (variables values : Constants)
    (of_variables : (d : ℕ) (w : Const) → variables d ≡ Some w → ConstantVariable p t (Picked k) d w) (of_rows : (n : ℕ) (w : Const) → values n ≡ Some w → ConstantOf p t (Picked k) n w) where
  part_out : (n m : ℕ) (w : Const) → plain.part p values n m ≡ Some w → (parent p m ≡ n) × (values m ≡ Some w)
  part_out n m w h = (guard_finds (nat_eq (parent p m) n) (values m) (Decides-eqb (parent p m) n) (itself_finds (values m)) w).0 h

  read_out : (n : ℕ) (b : Bool) (r : Referent) (w : Const) → k n ≡ b → t n ≡ r → cond b (option_and_then variables (declared r)) None ≡ Some w → ConstantOf p t (Picked k) n w
  read_out n true (Declared d level) w picked e h = ConstantOf.reference picked e (of_variables d w h)
  read_out n true _ w picked e h = absurd (none-some w h)
  read_out n false r w picked e h = absurd (none-some w h)

  cast_out : (n : ℕ) (w : Const) → label p n ≡ is.Cast → valued_by p t k variables values n is.Cast ≡ Some w → ConstantOf p t (Picked k) n w
  cast_out n w at h =
      let q = (guard_finds (nat_eq (parent p (n + 1)) n) (of_two (plain.converted_as p cast_to) (type_at p t (n + 1)) (plain.part p values n (end p (n + 1)))) (Decides-eqb (parent p (n + 1)) n)
      (two_finds (λ a v w. Converts p cast_to v w a) (plain.converted_as p cast_to) (λ a v. convert_finds p cast_to (λ s units. refl) a v)
      (type_at p t (n + 1)) (plain.part p values n (end p (n + 1))) (type_finds p t (n + 1)) (itself_finds (plain.part p values n (end p (n + 1))))) w).0 h in
      let r = q.1 in
      let g = part_out n (end p (n + 1)) r.1 r.3 in
      ConstantOf.cast at q.0 r.2 g.0 (of_rows (end p (n + 1)) r.1 g.1) r.4

  unary_out : (n : ℕ) (w : Const) (op : _) → label p n ≡ is.Unary op → valued_by p t k variables values n (is.Unary op) ≡ Some w → ConstantOf p t (Picked k) n w
  unary_out n w op at h =
      let q = (then_finds (unary_value op) (plain.part p values n (n + 1)) (itself_finds (plain.part p values n (n + 1))) (λ v. itself_finds (unary_value op v)) w).0 h in
      let g = part_out n (n + 1) q.0 q.1 in
      ConstantOf.unary at g.0 (of_rows (n + 1) q.0 g.1) q.2

  binary_out : (n : ℕ) (w : Const) (op : _) → label p n ≡ is.Binary op → valued_by p t k variables values n (is.Binary op) ≡ Some w → ConstantOf p t (Picked k) n w
  binary_out n w op at h =
      let q = (two_finds (λ u v w. binary_value op u v ≡ Some w) (binary_value op) (λ u v. itself_finds (binary_value op u v)) (plain.part p values n (n + 1)) (plain.part p values n (end p (n + 1)))
      (itself_finds (plain.part p values n (n + 1))) (itself_finds (plain.part p values n (end p (n + 1)))) w).0 h in
      let f = part_out n (n + 1) q.0 q.2 in
      let g = part_out n (end p (n + 1)) q.1 q.3 in
      ConstantOf.binary at f.0 (of_rows (n + 1) q.0 f.1) g.0 (of_rows (end p (n + 1)) q.1 g.1) q.4

  chosen_out : (n : ℕ) (w : Const) (test : Option Const) → label p n ≡ is.Conditional → plain.part p values n (n + 1) ≡ test
      → plain.chosen_value test (plain.part p values n (end p (n + 1))) (plain.part p values n (end p (end p (n + 1)))) ≡ Some w → ConstantOf p t (Picked k) n w
  chosen_out n w (Some (c.Bool b)) at e h =
      let q = (two_finds (λ u v w. chosen b u v ≡ Some w) (chosen b) (λ u v. itself_finds (chosen b u v)) (plain.part p values n (end p (n + 1))) (plain.part p values n (end p (end p (n + 1))))
      (itself_finds (plain.part p values n (end p (n + 1)))) (itself_finds (plain.part p values n (end p (end p (n + 1))))) w).0 h in
      let d = part_out n (n + 1) (c.Bool b) e in
      let f = part_out n (end p (n + 1)) q.0 q.2 in
      let g = part_out n (end p (end p (n + 1))) q.1 q.3 in
      ConstantOf.conditional at d.0 (of_rows (n + 1) (c.Bool b) d.1) f.0 (of_rows (end p (n + 1)) q.0 f.1) g.0 (of_rows (end p (end p (n + 1))) q.1 g.1) q.4
  chosen_out n w _ at e h = absurd (none-some w h)

  pub row_out : (n : ℕ) (l : Label) (w : Const) → label p n ≡ l → valued_by p t k variables values n l ≡ Some w → ConstantOf p t (Picked k) n w
  row_out n (is.Literal token) w at h = ConstantOf.literal at h
  row_out n (is.Name kind place is_qualified) w at h = read_out n (k n) (t n) w refl refl h
  row_out n is.Select w at h = read_out n (k n) (t n) w refl refl h
  row_out n is.SuperSelect w at h = read_out n (k n) (t n) w refl refl h
  row_out n is.Paren w at h = let q = part_out n (n + 1) w h in ConstantOf.paren at q.0 (of_rows (n + 1) w q.1)
  row_out n is.Cast w at h = cast_out n w at h
  row_out n (is.Unary op) w at h = unary_out n w op at h
  row_out n (is.Binary op) w at h = binary_out n w op at h
  row_out n is.Conditional w at h = chosen_out n w (plain.part p values n (n + 1)) at refl h
  row_out n _ w at h = absurd (none-some w h)

-- ---- tables that grow

get_more : (texts more : List (List ℕ)) (m : ℕ) → m < length texts → slice_get (texts ++ more) m ≡ slice_get texts m
get_more [] more m lt = absurd (omega arith)
get_more (x ∷ xs) more zero lt = refl
get_more (x ∷ xs) more (suc m) lt = get_more xs more m (omega arith)

longer : (texts more : List (List ℕ)) (m : ℕ) → m < length texts → m < length (texts ++ more)
longer [] more m lt = absurd (omega arith)
longer (x ∷ xs) more zero lt = omega arith
longer (x ∷ xs) more (suc m) lt = let le = longer xs more m (omega arith) in omega arith

pub in_more : (texts more : List (List ℕ)) (value : Value) → IsIn texts value → IsIn (texts ++ more) value × (value_in texts value ≡ value_in (texts ++ more) value)
in_more texts more (v.Str m) lt = (longer texts more m lt, ap (λ o. c.Str (text_at o)) (sym (get_more texts more m lt)))
in_more texts more (v.Bool x) u = (tt, refl)
in_more texts more (v.Byte x) u = (tt, refl)
in_more texts more (v.Short x) u = (tt, refl)
in_more texts more (v.Char x) u = (tt, refl)
in_more texts more (v.Int x) u = (tt, refl)
in_more texts more (v.Long x) u = (tt, refl)

none_item : (count n : ℕ) → item (replicate count None) n ≡ None
none_item zero n = refl
none_item (suc count) zero = refl
none_item (suc count) (suc n) = none_item count n

module _ (R : ℕ → Const → Type 0) where
  tells_more : (old new : List (List ℕ)) (all : List (Option Value)) → IsGrown old new → Tells old all R → Tells new all R
  tells_more old new all grown h n value e =
      let q = h n value e in let g = in_more old grown.0 value q.0 in
      (subst (λ texts. IsIn texts value) (sym grown.1) g.0, subst (R n) (g.1 ∙ ap (λ texts. value_in texts value) (sym grown.1)) q.1)

  set_item : (all : List (Option Value)) (n m : ℕ) (x : Option Value) → (item (slice_set all n x) m ≡ item all m) ⊎ ((m ≡ n) × (item (slice_set all n x) m ≡ x))
  set_item [] n m x = inl refl
  set_item (z ∷ zs) zero zero x = inr (refl, refl)
  set_item (z ∷ zs) zero (suc m) x = inl refl
  set_item (z ∷ zs) (suc n) zero x = inl refl
  set_item (z ∷ zs) (suc n) (suc m) x = ⊎_elim (λ e. inl e) (λ q. inr (ap suc q.0, q.1)) (set_item zs n m x)

  tells_set : (texts : List (List ℕ)) (all : List (Option Value)) (n : ℕ) (x : Option Value) → Tells texts all R → ((value : Value) → x ≡ Some value → IsIn texts value × R n (value_in texts value))
      → Tells texts (slice_set all n x) R
  tells_set texts all n x h one m value e = ⊎_elim (λ q. h m value (sym q ∙ e)) (λ q. let g = one value (sym q.1 ∙ e) in (g.0, subst (λ i. R i (value_in texts value)) (sym q.0) g.1)) (set_item all n m x)

  pub are_in : (texts : List (List ℕ)) (all : List (Option Value)) → Tells texts all R → AreIn texts all
  are_in texts all h n = by (item all n) refl
    where
      by : (o : Option Value) → item all n ≡ o → IsInIf texts o
      by None e = tt
      by (Some value) e = (h n value e).0

  pub value_out : (texts : List (List ℕ)) (all : List (Option Value)) → Tells texts all R → (n : ℕ) (w : Const) → values_in texts all n ≡ Some w → R n w
  value_out texts all h n w = by (item all n) refl
    where
      by : (o : Option Value) → item all n ≡ o → value_in_if texts o ≡ Some w → R n w
      by None e q = absurd (none-some w q)
      by (Some value) e q = subst (R n) (same_Some (value_in texts value) w q) (h n value e).1

  none_tell : (texts : List (List ℕ)) (count : ℕ) → Tells texts (replicate count None) R
  none_tell texts count n value e = absurd (none-some value (sym (none_item count n) ∙ e))

module _ (p : Rows) (t : Table) (k : ℕ → Bool) where
  abbrev OfRows : ℕ → Const → Type 0
  OfRows n w = ConstantOf p t (Picked k) n w

  abbrev OfVariables : ℕ → Const → Type 0
  OfVariables d w = ConstantVariable p t (Picked k) d w

  pub none_known : (texts : List (List ℕ)) (variables values : List (Option Value)) → variables ≡ replicate (length p) None → values ≡ replicate (length p) None → AreKnown p t k texts variables values
  none_known texts variables values e f = record {
    of_rows = subst (λ all. Tells texts all OfRows) (sym f) (none_tell OfRows texts (length p));
    of_variables = subst (λ all. Tells texts all OfVariables) (sym e) (none_tell OfVariables texts (length p));
    size = ap length f ∙ length-replicate (length p) None;
  }

  module _ (variables values : List (Option Value)) where
    pub known_in : (texts : List (List ℕ)) → AreKnown p t k texts variables values → AreIn texts variables × AreIn texts values
    known_in texts known = (are_in OfVariables texts variables known.of_variables, are_in OfRows texts values known.of_rows)

    pub set_row : (old new : List (List ℕ)) (n : ℕ) (value : Option Value) (next : List (Option Value)) → AreKnown p t k old variables values → IsGrown old new
        → value_in_if new value ≡ valued_by p t k (values_in old variables) (values_in old values) n (label p n) → IsInIf new value → next ≡ slice_set values n value → AreKnown p t k new variables next
    set_row old new n value next known grown e inside set = record {
      of_rows = subst (λ all. Tells new all OfRows) (sym set) (tells_set OfRows new values n value (tells_more OfRows old new values grown known.of_rows) one);
      of_variables = tells_more OfVariables old new variables grown known.of_variables;
      size = ap length set ∙ length-set values n value ∙ known.size;
    }
      where
        one : (x : Value) → value ≡ Some x → IsIn new x × OfRows n (value_in new x)
        one x f = (
          subst (IsInIf new) f inside,
          row_out p t k (values_in old variables) (values_in old values) (value_out OfVariables old variables known.of_variables) (value_out OfRows old values known.of_rows)
              n (label p n) (value_in new x) refl (sym e ∙ ap (value_in_if new) f),
        )

    pub set_variable : (texts : List (List ℕ)) (d : ℕ) (value : Option Value) (next : List (Option Value)) → AreKnown p t k texts variables values → plain.is_initialized p d ≡ true
        → value_in_if texts value ≡ of_two (plain.converted_as p assigned_to) (type_of_declared p t d) (values_in texts values (d + 2)) → (IsInIf texts (item values (d + 2)) → IsInIf texts value)
        → next ≡ slice_set variables d value → AreKnown p t k texts next values
    set_variable texts d value next known start e inside set = record {
      of_rows = known.of_rows;
      of_variables = subst (λ all. Tells texts all OfVariables) (sym set) (tells_set OfVariables texts variables d value known.of_variables one);
      size = known.size;
    }
      where
        one : (x : Value) → value ≡ Some x → IsIn texts x × OfVariables d (value_in texts x)
        one x f =
            let g = (initialized_tells p d).0 start in
            let q = (two_finds (λ a v w. Converts p assigned_to v w a) (plain.converted_as p assigned_to) (λ a v. convert_finds p assigned_to (λ s units. refl) a v)
            (type_of_declared p t d) (values_in texts values (d + 2)) (has_type_finds p t d) (itself_finds (values_in texts values (d + 2))) (value_in texts x)).0 (sym e ∙ ap (value_in_if texts) f) in (
              subst (IsInIf texts) f (inside (are_in OfRows texts values known.of_rows (d + 2))),
              ConstantVariable.variable g.0.0.0.0 g.0.0.0.1 q.2 g.0.0.1 g.0.1 g.1 (value_out OfRows texts values known.of_rows (d + 2) q.1 q.3) q.4,
            )

    -- the tables as slices
    pub set_read : (old new : List (List ℕ)) (n : ℕ) (value : Option Value) (next vs ws : List (Option Value)) → AreKnown p t k old variables values → vs ≡ variables → ws ≡ values → IsGrown old new
        → value_in_if new value ≡ valued_by p t k (values_in old vs) (values_in old ws) n (label p n) → (AreIn old vs → AreIn old ws → IsInIf new value) → next ≡ slice_set values n value → AreKnown p t k new variables next
    set_read old new n value next vs ws known e f grown h inside set =
        let all = known_in old known in
        set_row old new n value next known grown (h ∙ ap₂ (λ a b. valued_by p t k (values_in old a) (values_in old b) n (label p n)) e f)
        (inside (subst (AreIn old) (sym e) all.0) (subst (AreIn old) (sym f) all.1)) set

    pub set_found : (texts : List (List ℕ)) (d expression : ℕ) (value : Option Value) (next ws : List (Option Value)) → AreKnown p t k texts variables values → IsInitializer p d expression → ws ≡ values
        → seen_if value ≡ of_two (plain.converted_as p assigned_to) (type_of_declared p t d) (seen_if (item ws expression)) → next ≡ slice_set variables d value → AreKnown p t k texts next values
    set_found texts d expression value next ws known init e h set =
        let at : item ws expression ≡ item values (d + 2) = ap₂ item e init.row in
        let told = assigned_tells p (type_of_declared p t d) texts (item values (d + 2)) value (h ∙ ap (λ o. of_two (plain.converted_as p assigned_to) (type_of_declared p t d) (seen_if o)) at) in
        set_variable texts d value next known init.initialized told.0 told.1 set
