-- Constants and types of expressions are the same under tables that agree.
use Rattle.std.proofs.Common.{◌≡◌, ◌⊎◌, ℕ, suc, zero, ◌+◌, ◌<◌, ◌≤◌, refl, sym, ◌∙◌, ap, subst, inl, inr, arith, List, [], ◌∷◌, length}
use Rattle.std.specs.Prelude.{Option, Some, None, Bool, true, false}
use Rattle.jr_base.specs.declared.kind.Symbol.{Symbol}
use Rattle.jr_base.specs.declared.kind.Symbol.TheVariants as y
use Rattle.jr_base.specs.declared.constant.Const.{Const}
use Rattle.jr_tree.specs.declared.label.Label.{Label}
use Rattle.jr_tree.specs.declared.label.Label.TheVariants as is
use Rattle.jr_tree.specs.declared.label.ReceiverKind.TheVariants as on
use Rattle.jr_tree.specs.declared.label.NameKind.{NameKind}
use Rattle.jr_tree.specs.declared.label.NameKind.TheVariants as kind
use Rattle.jr_tree.specs.declared.label.Sought.{Sought}
use Rattle.jr_tree.specs.declared.label.Sought.TheVariants as sought
use Rattle.jr_tree.specs.Labels.{sought_by}
use Rattle.jr_tree.specs.Rows.{Rows, label, parent, end, sought_at}
use Rattle.jr_defs.specs.declared.referent.Element.{Element}
use Rattle.jr_defs.specs.declared.referent.Element.TheVariants as element
use Rattle.jr_defs.specs.declared.referent.RowType.{RowType}
use Rattle.jr_defs.specs.Referents.{Table}
use Rattle.jr_defs.specs.Declarations.{IsType}
use Rattle.jr_tree.specs.declared.tree.Primitive.TheVariants as word
use Rattle.jr_defs.specs.Types.{array, plain, element_of, NamesType, TypeAt, HasType, deeper}
use Rattle.jr_defs.specs.Supertypes.{Super, Above, IsReferenceType, Subtype}
use Rattle.jr_defs.specs.Constants.{ConstantOf, ConstantVariable, HasConstantForm}
use Rattle.jr_defs.specs.Conversions.{IsCastable, Promotes, PromotesBoth}
use Rattle.jr_defs.specs.Typing.{LiteralType, IsComparable, BinaryType, UnaryType, CompoundType, FitsConstant, HasOwnType, ConditionalType, First, Second, Third, TypeOf, class_of}
use Rattle.jr_defs.specs.Laws.{SameHeaders}
use Rattle.jr_defs.specs.Formed.{SeeksType, IsNameLabel, SeeksKind, NamesTypeFirst, IsFormed}
use Rattle.jr_defs.specs.Correspondence.{Carries, moved_type}
use Rattle.jr_defs.proofs.CarryTypes.{subtype_over}
use Rattle.jr_defs.proofs.Itself.{same, type_same, carries, super_wide}
use Rattle.jr_defs.proofs.TypesAgree.{SameTypes, type_name_same, type_at_same, has_type_same}

-- ---- names

pub name_label : (l : Label) (s : Sought) → sought_by l ≡ s → ((k : NameKind) → (s ≡ sought.Simple k) ⊎ (s ≡ sought.Qualified k) → IsNameLabel l)
name_label (is.Name k at b) s e kind h = tt
name_label (is.Call on.Absent) s e kind (inl h) = let x = e ∙ h in cc
name_label (is.Call on.Absent) s e kind (inr h) = let x = e ∙ h in cc
name_label (is.Call on.Expression) s e kind (inl h) = let x = e ∙ h in cc
name_label (is.Call on.Expression) s e kind (inr h) = let x = e ∙ h in cc
name_label (is.Call on.Name) s e kind (inl h) = let x = e ∙ h in cc
name_label (is.Call on.Name) s e kind (inr h) = let x = e ∙ h in cc
name_label (is.Call on.Super) s e kind (inl h) = let x = e ∙ h in cc
name_label (is.Call on.Super) s e kind (inr h) = let x = e ∙ h in cc
name_label (is.Break true) s e kind (inl h) = let x = e ∙ h in cc
name_label (is.Break true) s e kind (inr h) = let x = e ∙ h in cc
name_label (is.Break false) s e kind (inl h) = let x = e ∙ h in cc
name_label (is.Break false) s e kind (inr h) = let x = e ∙ h in cc
name_label (is.Continue true) s e kind (inl h) = let x = e ∙ h in cc
name_label (is.Continue true) s e kind (inr h) = let x = e ∙ h in cc
name_label (is.Continue false) s e kind (inl h) = let x = e ∙ h in cc
name_label (is.Continue false) s e kind (inr h) = let x = e ∙ h in cc
name_label _ s e kind (inl h) = let x = e ∙ h in cc
name_label _ s e kind (inr h) = let x = e ∙ h in cc

pub record SameNames (p : Rows) (t u : Table) : Type 0 where
  pub at : (n : ℕ) → IsNameLabel (label p n) → t n ≡ u n

-- ---- constants

module _ (p : Rows) (t u : Table) (formed : IsFormed p) (types : SameTypes p t u) (names : SameNames p t u) where
  pub form_same : (n : ℕ) → HasConstantForm p t n → HasConstantForm p u n
  form_same n (HasConstantForm.simple e) = HasConstantForm.simple e
  form_same n (HasConstantForm.of_type {b = b} e w) = HasConstantForm.of_type e (record {
    first = w.first;
    level = w.level;
    type = w.type;
    refers = sym (names.at (n + 1) (formed.name_below n (n + 1) (name_label (label p n) (sought_at p n) refl kind.Variable (inr e)) w.first (omega arith))) ∙ w.refers;
  })

  form_name : (n : ℕ) → HasConstantForm p t n → IsNameLabel (label p n)
  form_name n (HasConstantForm.simple e) = name_label (label p n) (sought_at p n) refl kind.Variable (inl e)
  form_name n (HasConstantForm.of_type e w) = name_label (label p n) (sought_at p n) refl kind.Variable (inr e)

  mutual
    pub constant_same : (n : ℕ) (v : Const) → ConstantOf p t (HasConstantForm p t) n v → ConstantOf p u (HasConstantForm p u) n v
    constant_same n v (ConstantOf.literal e k) = ConstantOf.literal e k
    constant_same n v (ConstantOf.reference {d = d} k e w) = ConstantOf.reference (form_same n k) (sym (names.at n (form_name n k)) ∙ e) (variable_same d v w)
    constant_same n v (ConstantOf.paren e i w) = ConstantOf.paren e i (constant_same (n + 1) v w)
    constant_same n w (ConstantOf.cast {a = a} {v = v} e b i j k c) = ConstantOf.cast e b (type_at_same p t u formed types (n + 1) a i) j (constant_same (end p (n + 1)) v k) c
    constant_same n w (ConstantOf.unary {v = v} e i k c) = ConstantOf.unary e i (constant_same (n + 1) v k) c
    constant_same n w (ConstantOf.binary {u = a} {v = v} e i j k l c) = ConstantOf.binary e i (constant_same (n + 1) a j) k (constant_same (end p (n + 1)) v l) c
    constant_same n w (ConstantOf.conditional {u = a} {v = v} e i j k l m o c) =
        ConstantOf.conditional e i (constant_same (n + 1) _ j) k (constant_same (end p (n + 1)) a l) m (constant_same (end p (end p (n + 1))) v o) c

    pub variable_same : (d : ℕ) (v : Const) → ConstantVariable p t (HasConstantForm p t) d v → ConstantVariable p u (HasConstantForm p u) d v
    variable_same d w (ConstantVariable.variable {a = a} {v = v} x f h i j k l c) =
        ConstantVariable.variable x f (has_type_same p t u formed types d a h) i j k (constant_same (d + 2) v l) c

-- ---- conversions

module _ (p : Rows) (t u : Table) (formed : IsFormed p) (h : SameHeaders p t u) where
  pub subtype_same : (a b : RowType) → Subtype p t a b → Subtype p u a b
  subtype_same a b w = subst (λ x. Subtype p u x b) (type_same a) (subst (λ x. Subtype p u (moved_type same a) x) (type_same b)
      (subtype_over p t p u same same (IsType p) (IsType p) (carries p t u h) (super_wide p t formed) a b w))

  pub castable_same : (a b : RowType) → IsCastable p t a b → IsCastable p u a b
  castable_same _ _ (IsCastable.numbers i j) = IsCastable.numbers i j
  castable_same _ _ IsCastable.booleans = IsCastable.booleans
  castable_same a b (IsCastable.wider i j w) = IsCastable.wider i j (subtype_same a b w)
  castable_same a b (IsCastable.narrower i j w) = IsCastable.narrower i j (subtype_same b a w)
  castable_same _ _ (IsCastable.interface_class i j k) = IsCastable.interface_class i j k
  castable_same _ _ (IsCastable.class_interface i j k) = IsCastable.class_interface i j k
  castable_same _ _ (IsCastable.interfaces i j) = IsCastable.interfaces i j
  castable_same _ _ (IsCastable.arrays {a = a} {b = b} {m = m} {n = n} i j w) = IsCastable.arrays i j (castable_same (array a m) (array b n) w)

  comparable_same : (a b : RowType) → IsComparable p t a b → IsComparable p u a b
  comparable_same _ _ (IsComparable.numbers i j) = IsComparable.numbers i j
  comparable_same _ _ IsComparable.booleans = IsComparable.booleans
  comparable_same a b (IsComparable.references i j w) = IsComparable.references i j (turned w)
    where
      turned : IsCastable p t a b ⊎ IsCastable p t b a ⊎ (a ≡ b) → IsCastable p u a b ⊎ IsCastable p u b a ⊎ (a ≡ b)
      turned (inl w) = inl (castable_same a b w)
      turned (inr (inl w)) = inr (inl (castable_same b a w))
      turned (inr (inr e)) = inr (inr e)

  pub binary_same : (k : _) (a b r : RowType) → BinaryType p t k a b r → BinaryType p u k a b r
  binary_same _ _ _ _ (BinaryType.sum w) = BinaryType.sum w
  binary_same _ _ _ _ (BinaryType.text_left w i) = BinaryType.text_left w i
  binary_same _ _ _ _ (BinaryType.text_right w i) = BinaryType.text_right w i
  binary_same _ _ _ _ (BinaryType.number w) = BinaryType.number w
  binary_same _ _ _ _ (BinaryType.shifted w i) = BinaryType.shifted w i
  binary_same _ _ _ _ (BinaryType.compared w i) = BinaryType.compared w i
  binary_same _ a b _ (BinaryType.equated w) = BinaryType.equated (comparable_same a b w)
  binary_same _ _ _ _ (BinaryType.bits w) = BinaryType.bits w
  binary_same _ _ _ _ BinaryType.booleans = BinaryType.booleans
  binary_same _ _ _ _ BinaryType.tests = BinaryType.tests

  compound_same : (op : Symbol) (a b : RowType) → CompoundType p t op a b → CompoundType p u op a b
  compound_same op _ b (CompoundType.text e w i) = CompoundType.text e w i
  compound_same op _ _ (CompoundType.primitive {a = a} {b = b} {r = r} i j w c) =
      CompoundType.primitive i j (binary_same (class_of op) (plain a) (plain b) (plain r) w) (castable_same (plain r) (plain a) c)

  module _ (types : SameTypes p t u) (names : SameNames p t u) (types' : SameTypes p u t) (names' : SameNames p u t) where
    own_same : (m k : ℕ) (a b r : Element) → HasOwnType p t (HasConstantForm p t) m k a b r → HasOwnType p u (HasConstantForm p u) m k a b r
    own_same m k _ _ _ HasOwnType.byte_short = HasOwnType.byte_short
    own_same m k _ _ _ HasOwnType.short_byte = HasOwnType.short_byte
    own_same m k _ _ _ (HasOwnType.fits_left w) = HasOwnType.fits_left (record { small = w.small; value = w.value; fitting = w.fitting; constant = constant_same p t u formed types names k _ w.constant })
    own_same m k _ _ _ (HasOwnType.fits_right w) = HasOwnType.fits_right (record { small = w.small; value = w.value; fitting = w.fitting; constant = constant_same p t u formed types names m _ w.constant })

    own_back : (m k : ℕ) (a b r : Element) → HasOwnType p u (HasConstantForm p u) m k a b r → HasOwnType p t (HasConstantForm p t) m k a b r
    own_back m k _ _ _ HasOwnType.byte_short = HasOwnType.byte_short
    own_back m k _ _ _ HasOwnType.short_byte = HasOwnType.short_byte
    own_back m k _ _ _ (HasOwnType.fits_left w) = HasOwnType.fits_left (record { small = w.small; value = w.value; fitting = w.fitting; constant = constant_same p u t formed types' names' k _ w.constant })
    own_back m k _ _ _ (HasOwnType.fits_right w) = HasOwnType.fits_right (record { small = w.small; value = w.value; fitting = w.fitting; constant = constant_same p u t formed types' names' m _ w.constant })

    conditional_same : (m k : ℕ) (a b r : RowType) → ConditionalType p t (HasConstantForm p t) m k a b r → ConditionalType p u (HasConstantForm p u) m k a b r
    conditional_same m k _ _ _ (ConditionalType.same i) = ConditionalType.same i
    conditional_same m k _ _ _ (ConditionalType.own {a = a} {b = b} {r = r} w) = ConditionalType.own (own_same m k a b r w)
    conditional_same m k _ _ _ (ConditionalType.numbers {a = a} {b = b} i n w) = ConditionalType.numbers i (λ e v. n e (own_back m k a b e v)) w
    conditional_same m k _ _ _ (ConditionalType.null_left i) = ConditionalType.null_left i
    conditional_same m k _ _ _ (ConditionalType.null_right i) = ConditionalType.null_right i
    conditional_same m k a b _ (ConditionalType.wider_right i j w) = ConditionalType.wider_right i j (subtype_same a b w)
    conditional_same m k a b _ (ConditionalType.wider_left i j w) = ConditionalType.wider_left i j (subtype_same b a w)

    -- from o on the tables agree
    module _ (o : ℕ) (from : (n : ℕ) → o ≤ n → t n ≡ u n) where
      first_after : (n m : ℕ) → o ≤ n → First p n m → o ≤ m
      first_after n m le w = let e = w.at in omega arith

      second_after : (n m : ℕ) → o ≤ n → Second p n m → o ≤ m
      second_after n m le w = let e = w.at in let z = formed.tree.nested (n + 1) in omega arith

      third_after : (n m : ℕ) → o ≤ n → Third p n m → o ≤ m
      third_after n m le w = let e = w.at in let z = formed.tree.nested (n + 1) in let v = formed.tree.nested (end p (n + 1)) in omega arith

      first_type : (n c : ℕ) → o ≤ n → NamesType p t n c → NamesType p u n c
      first_type n c le w = record { first = w.first; level = w.level; type = w.type; refers = sym (from (n + 1) (omega arith)) ∙ w.refers }

      pub typing_same : (n : ℕ) (a : RowType) → o ≤ n → TypeOf p t (HasConstantForm p t) n a → TypeOf p u (HasConstantForm p u) n a
      typing_same n a le (TypeOf.literal e w) = TypeOf.literal e w
      typing_same n a le (TypeOf.variable {d = d} e v w) = TypeOf.variable (sym (from n le) ∙ e) v (has_type_same p t u formed types d a w)
      typing_same n _ le (TypeOf.length e) = TypeOf.length (sym (from n le) ∙ e)
      typing_same n a le (TypeOf.call {d = d} k e r w) = TypeOf.call k (sym (from n le) ∙ e) r (has_type_same p t u formed types d a w)
      typing_same n _ le (TypeOf.created {c = c} e w) = TypeOf.created e (first_type n c le w)
      typing_same n _ le (TypeOf.primitives e) = TypeOf.primitives e
      typing_same n _ le (TypeOf.objects {c = c} e w) = TypeOf.objects e (first_type n c le w)
      typing_same n a le (TypeOf.cast e i w) = TypeOf.cast e i (type_at_same p t u formed types (n + 1) a w)
      typing_same n a le (TypeOf.paren {m = m} e i w) = TypeOf.paren e i (typing_same m a (first_after n m le i) w)
      typing_same n _ le (TypeOf.this e i w) = TypeOf.this e i w
      typing_same n _ le (TypeOf.this_of {c = c} e i w) = TypeOf.this_of e (first_type n c le i) w
      typing_same n _ le (TypeOf.index {m = m} e i w) = TypeOf.index e i (typing_same m _ (first_after n m le i) w)
      typing_same n _ le (TypeOf.is_a {m = m} {a = b} e i w r) = TypeOf.is_a e i (typing_same m b (first_after n m le i) w) r
      typing_same n _ le (TypeOf.unary {m = m} e i w r) = TypeOf.unary e i (typing_same m _ (first_after n m le i) w) r
      typing_same n _ le (TypeOf.pre_step {m = m} e i w r) = TypeOf.pre_step e i (typing_same m _ (first_after n m le i) w) r
      typing_same n _ le (TypeOf.post_step {m = m} e i w r) = TypeOf.post_step e i (typing_same m _ (first_after n m le i) w) r
      typing_same n r le (TypeOf.binary {m = m} {k = k} {op = op} {a = a} {b = b} e i v j w c) =
          TypeOf.binary e i (typing_same m a (first_after n m le i) v) j (typing_same k b (second_after n k le j) w) (binary_same (class_of op) a b r c)
      typing_same n r le (TypeOf.conditional {l = l} {m = m} {k = k} {a = a} {b = b} e i v j w f x c) =
          TypeOf.conditional e i (typing_same l _ (first_after n l le i) v) j (typing_same m a (second_after n m le j) w) f (typing_same k b (third_after n k le f) x)
          (conditional_same m k a b r c)
      typing_same n a le (TypeOf.assigned {m = m} e i w) = TypeOf.assigned e i (typing_same m a (first_after n m le i) w)
      typing_same n a le (TypeOf.compound {m = m} {k = k} {op = op} {b = b} e f i v j w c) =
          TypeOf.compound e f i (typing_same m a (first_after n m le i) v) j (typing_same k b (second_after n k le j) w) (compound_same op a b c)

-- ---- the types of expressions are of types that are declared

abbrev pub KnownElement : Rows → Element → Type 0
KnownElement p (element.Class c) = IsType p c
KnownElement p _ = Unit {0}

type_at_known : (p : Rows) (t : Table) (n : ℕ) (a : RowType) → TypeAt p t n a → KnownElement p a.element
type_at_known p t n _ (TypeAt.primitive {e = e} k) = primitive_known e
  where
    primitive_known : (e : _) → KnownElement p (element_of e)
    primitive_known word.Boolean = tt
    primitive_known word.Byte = tt
    primitive_known word.Short = tt
    primitive_known word.Char = tt
    primitive_known word.Int = tt
    primitive_known word.Long = tt
type_at_known p t n _ (TypeAt.named k w) = w.type

has_type_known : (p : Rows) (t : Table) (d : ℕ) (a : RowType) → HasType p t d a → KnownElement p a.element
has_type_known p t d _ (HasType.field {a = a} e w) = type_at_known p t _ a w
has_type_known p t d _ (HasType.local {a = a} e w) = type_at_known p t _ a w
has_type_known p t d _ (HasType.parameter {a = a} e w) = type_at_known p t _ a w
has_type_known p t d _ (HasType.nothing e) = tt
has_type_known p t d a (HasType.outcome e w) = type_at_known p t _ a w

literal_known : (p : Rows) (k : _) (a : RowType) → LiteralType p k a → KnownElement p a.element
literal_known p _ _ LiteralType.int = tt
literal_known p _ _ LiteralType.least_int = tt
literal_known p _ _ LiteralType.long = tt
literal_known p _ _ LiteralType.least_long = tt
literal_known p _ _ LiteralType.char = tt
literal_known p _ _ (LiteralType.string w) = w.type
literal_known p _ _ LiteralType.yes_word = tt
literal_known p _ _ LiteralType.no_word = tt
literal_known p _ _ LiteralType.null = tt

promotes_known : (p : Rows) (a b : Element) → Promotes a b → KnownElement p b
promotes_known p a _ (Promotes.int w) = tt
promotes_known p _ _ Promotes.long = tt

both_known : (p : Rows) (a b r : Element) → PromotesBoth a b r → KnownElement p r
both_known p a b _ (PromotesBoth.int w i) = tt
both_known p _ b _ (PromotesBoth.left w) = tt
both_known p a _ _ (PromotesBoth.right w) = tt

unary_known : (p : Rows) (op : Symbol) (a r : Element) → UnaryType op a r → KnownElement p r
unary_known p _ a r (UnaryType.plus_sign w) = promotes_known p a r w
unary_known p _ a r (UnaryType.minus_sign w) = promotes_known p a r w
unary_known p _ a r (UnaryType.complement w) = promotes_known p a r w
unary_known p _ _ _ UnaryType.negation = tt

binary_known : (p : Rows) (t : Table) (k : _) (a b r : RowType) → BinaryType p t k a b r → KnownElement p r.element
binary_known p t _ _ _ _ (BinaryType.sum {a = a} {b = b} {r = r} w) = both_known p a b r w
binary_known p t _ _ _ _ (BinaryType.text_left w i) = w.type
binary_known p t _ _ _ _ (BinaryType.text_right w i) = w.type
binary_known p t _ _ _ _ (BinaryType.number {a = a} {b = b} {r = r} w) = both_known p a b r w
binary_known p t _ _ _ _ (BinaryType.shifted {a = a} {r = r} w i) = promotes_known p a r w
binary_known p t _ _ _ _ (BinaryType.compared w i) = tt
binary_known p t _ _ _ _ (BinaryType.equated w) = tt
binary_known p t _ _ _ _ (BinaryType.bits {a = a} {b = b} {r = r} w) = both_known p a b r w
binary_known p t _ _ _ _ BinaryType.booleans = tt
binary_known p t _ _ _ _ BinaryType.tests = tt

own_known : (p : Rows) (t : Table) (K : ℕ → Type 0) (m k : ℕ) (a b r : Element) → HasOwnType p t K m k a b r → KnownElement p a → KnownElement p b → KnownElement p r
own_known p t K m k _ _ _ HasOwnType.byte_short i j = tt
own_known p t K m k _ _ _ HasOwnType.short_byte i j = tt
own_known p t K m k _ _ _ (HasOwnType.fits_left w) i j = i
own_known p t K m k _ _ _ (HasOwnType.fits_right w) i j = j

conditional_known : (p : Rows) (t : Table) (K : ℕ → Type 0) (m k : ℕ) (a b r : RowType) → ConditionalType p t K m k a b r → KnownElement p a.element → KnownElement p b.element → KnownElement p r.element
conditional_known p t K m k _ _ _ (ConditionalType.same w) i j = i
conditional_known p t K m k _ _ _ (ConditionalType.own {a = a} {b = b} {r = r} w) i j = own_known p t K m k a b r w i j
conditional_known p t K m k _ _ _ (ConditionalType.numbers {a = a} {b = b} {r = r} x n w) i j = both_known p a b r w
conditional_known p t K m k _ _ _ (ConditionalType.null_left w) i j = j
conditional_known p t K m k _ _ _ (ConditionalType.null_right w) i j = i
conditional_known p t K m k _ _ _ (ConditionalType.wider_right v w x) i j = j
conditional_known p t K m k _ _ _ (ConditionalType.wider_left v w x) i j = i

pub typing_known : (p : Rows) (t : Table) (K : ℕ → Type 0) (n : ℕ) (a : RowType) → TypeOf p t K n a → KnownElement p a.element
typing_known p t K n a (TypeOf.literal {token = k} e w) = literal_known p k a w
typing_known p t K n a (TypeOf.variable {d = d} e v w) = has_type_known p t d a w
typing_known p t K n _ (TypeOf.length e) = tt
typing_known p t K n a (TypeOf.call {d = d} k e r w) = has_type_known p t d a w
typing_known p t K n _ (TypeOf.created e w) = w.type
typing_known p t K n _ (TypeOf.primitives {e = e} k) = primitive_known' e
  where
    primitive_known' : (e : _) → KnownElement p (element_of e)
    primitive_known' word.Boolean = tt
    primitive_known' word.Byte = tt
    primitive_known' word.Short = tt
    primitive_known' word.Char = tt
    primitive_known' word.Int = tt
    primitive_known' word.Long = tt
typing_known p t K n _ (TypeOf.objects e w) = w.type
typing_known p t K n a (TypeOf.cast e i w) = type_at_known p t (n + 1) a w
typing_known p t K n a (TypeOf.paren {m = m} e i w) = typing_known p t K m a w
typing_known p t K n _ (TypeOf.this e i w) = i.holds.of_type.type
typing_known p t K n _ (TypeOf.this_of e i w) = i.type
typing_known p t K n _ (TypeOf.index {m = m} e i w) = typing_known p t K m _ w
typing_known p t K n _ (TypeOf.is_a e i w r) = tt
typing_known p t K n _ (TypeOf.unary {op = op} {a = a} {r = r} e i w k) = unary_known p op a r k
typing_known p t K n _ (TypeOf.pre_step {m = m} {a = a} e i w r) = typing_known p t K m (plain a) w
typing_known p t K n _ (TypeOf.post_step {m = m} {a = a} e i w r) = typing_known p t K m (plain a) w
typing_known p t K n r (TypeOf.binary {op = op} {a = a} {b = b} e i v j w c) = binary_known p t (class_of op) a b r c
typing_known p t K n r (TypeOf.conditional {m = m} {k = k} {a = a} {b = b} e i v j w f x c) =
    conditional_known p t K m k a b r c (typing_known p t K m a w) (typing_known p t K k b x)
typing_known p t K n a (TypeOf.assigned {m = m} e i w) = typing_known p t K m a w
typing_known p t K n a (TypeOf.compound {m = m} e f i v j w c) = typing_known p t K m a v
