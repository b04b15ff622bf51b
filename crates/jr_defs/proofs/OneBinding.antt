-- Two bindings of a program that agree on headers are one.
use Rattle.std.proofs.Common.{◌≡◌, ◌⊎◌, ℕ, suc, zero, ◌+◌, ◌<◌, ◌≤◌, refl, sym, ◌∙◌, ap, subst, inl, inr, arith, List, [], ◌∷◌, length}
use Rattle.std.proofs.lemmas.List.{get_or_past}
use Rattle.std.specs.Prelude.{Option, Some, None}
use Rattle.jr_tree.specs.declared.label.Label.{Label}
use Rattle.jr_tree.specs.declared.label.Label.TheVariants as is
use Rattle.jr_tree.specs.declared.label.ReceiverKind.TheVariants as on
use Rattle.jr_tree.specs.declared.label.ImportKind.TheVariants as importing
use Rattle.jr_tree.specs.declared.label.NameKind.{NameKind}
use Rattle.jr_tree.specs.declared.label.NameKind.TheVariants as kind
use Rattle.jr_tree.specs.declared.label.Sought.{Sought}
use Rattle.jr_tree.specs.declared.label.Sought.TheVariants as sought
use Rattle.jr_tree.specs.Labels.{sought_by}
use Rattle.jr_tree.specs.Rows.{Rows, row, label, parent, end, sought_at}
use Rattle.jr_defs.specs.declared.referent.Element.{Element}
use Rattle.jr_defs.specs.declared.referent.RowType.{RowType}
use Rattle.jr_defs.specs.Referents.{Table}
use Rattle.jr_defs.specs.Declarations.{IsType}
use Rattle.jr_defs.specs.Types.{NamesType, TypeAt, HasType, array, class_type}
use Rattle.jr_defs.specs.Members.{MemberOf}
use Rattle.jr_defs.specs.Imports.{StaticImport}
use Rattle.jr_defs.specs.Scope.{Imported}
use Rattle.jr_defs.specs.Constants.{HasConstantForm}
use Rattle.jr_defs.specs.Typing.{TypeOf}
use Rattle.jr_defs.specs.Overloads.{ArgumentTypes}
use Rattle.jr_defs.specs.Lookup.{Receiver, ArrayBefore, Arguments, arguments_by}
use Rattle.jr_defs.specs.Binding.{IsBound}
use Rattle.jr_defs.specs.Laws.{SameHeaders}
use Rattle.jr_defs.specs.Formed.{SeeksType, IsNameLabel, SeeksKind, IsFormed}
use Rattle.jr_defs.specs.Correspondence.{Sees, Corresponds, IsRead, IsCall, moved_type, moved_types, moved_receiver}
use Rattle.jr_defs.proofs.CarryMembers.{member_over}
use Rattle.jr_defs.proofs.Itself.{same, types_same, receiver_same, turned_headers, carries, super_wide, places, SameImportNames, import_names, same_imports, SameFirst, named_same, packaged_same}
use Rattle.jr_defs.proofs.TypesAgree.{bound_same, SameTypes, turned_types, turned_names, import_names_agree, types_agree, has_type_same, sees_same}
use Rattle.jr_defs.proofs.TypingSame.{SameNames, name_label, typing_same, typing_known}

-- the types of what stands right below o are the same
abbrev pub SameBelow : Rows → Table → Table → (ℕ → Type 0) → (ℕ → Type 0) → ℕ → Type 0
SameBelow p t u K L o = (m : ℕ) (a : RowType) → parent p m ≡ o → o < m → TypeOf p t K m a → TypeOf p u L m a

module _ (p : Rows) (t u : Table) (K L : ℕ → Type 0) (formed : IsFormed p) (h : SameHeaders p t u) (names : SameImportNames p t u) (types : SameTypes p t u) (types' : SameTypes p u t)
    (o : ℕ) (first : SameFirst p t u o) (below : SameBelow p t u K L o) where
  receivers : (c : ℕ) (through : Option RowType) → Receiver p t K o c through → Receiver p u L o c (moved_receiver same through)
  receivers c _ (Receiver.object e w) = Receiver.object e (below (o + 1) _ e (omega arith) w)
  receivers c _ (Receiver.array_object e w i) = Receiver.array_object e (below (o + 1) _ e (omega arith) w) i
  receivers c _ (Receiver.type w) = Receiver.type (named_same p t u o first c w)

  receiver_type : (c : ℕ) (through : Option RowType) → Receiver p t K o c through → IsType p c
  receiver_type c _ (Receiver.object e w) = typing_known p t K (o + 1) (class_type c) w
  receiver_type c _ (Receiver.array_object e w i) = i.type
  receiver_type c _ (Receiver.type w) = w.type

  arrays : ArrayBefore p t K o → ArrayBefore p u L o
  arrays w = record { first = w.first; held = w.held; dims = w.dims; type = below (o + 1) _ w.first (omega arith) w.type }

  arguments_from : (k : ℕ) (all : List RowType) → o < k → ArgumentTypes p t K o k all → ArgumentTypes p u L o k all
  arguments_from k _ lo (ArgumentTypes.argument {a = a} {more = more} e w rest) =
      let z = formed.tree.nested k in ArgumentTypes.argument e (below k a e lo w) (arguments_from (end p k) more (omega arith) rest)
  arguments_from k _ lo (ArgumentTypes.done e) = ArgumentTypes.done e

  begins_after : (l : Label) → o < arguments_by l p o
  begins_after (is.Call on.Expression) = let z = formed.tree.nested (o + 1) in omega arith
  begins_after (is.Call on.Name) = let z = formed.tree.nested (o + 1) in omega arith
  begins_after is.New = let z = formed.tree.nested (o + 1) in omega arith
  begins_after (is.Call on.Absent) = omega arith
  begins_after (is.Call on.Super) = omega arith
  begins_after _ = omega arith

  arguments_same : (all : List RowType) → Arguments p t K o all → Arguments p u L o (moved_types same all)
  arguments_same all w = subst (Arguments p u L o) (sym (types_same all)) (arguments_from (arguments_by (label p o) p o) all (begins_after (label p o)) w)

  statics : (d : ℕ) → Imported p (StaticImport p t) o d → Imported p (StaticImport p u) o d
  statics d w = let b = w.brings.imports in record {
    unit = w.unit;
    holds = w.holds;
    brings = record {
      import = w.brings.import;
      imports = record {
        is_import = b.is_import;
        of_type = b.of_type;
        static = b.static;
        named = b.named;
        reached = b.reached;
        names = import_names p t u names w.brings.import b.of_type importing.StaticSingle b.is_import.import b.names;
        member = member_over p t p u same same (IsType p) (IsType p) (carries p t u h) (carries p u t (turned_headers p t u h)) b.of_type d b.names.type
            (λ _. sees_same p u t formed types') b.member;
      };
    };
  }

  pub search_same : Corresponds p t K p u L same same (IsType p) (IsType p) o o (sought_at p o)
  search_same = record {
    carries = carries p t u h;
    places = places p t u (IsType p) o (λ c w. w.of_type.type);
    imports = λ s. same_imports p t u h names o;
    asks = record {
      receiver = λ r. receivers;
      receiver_known = λ r. receiver_type;
      receiver_back = λ r c through w. ap (moved_receiver same) (receiver_same through) ∙ receiver_same through;
      array = λ r. arrays;
      named = named_same p t u o first;
      named_known = λ c w. w.type;
      packaged = packaged_same p t u o first;
      arguments = λ r. arguments_same;
      arguments_back = λ r all w. ap (moved_types same) (types_same all) ∙ types_same all;
      imported = λ r. statics;
    };
    sees = λ r. sees_same p t u formed types;
    wide = λ r c s w. super_wide p t formed c s w;
  }

-- the type of a name reads the table there alone
pub name_typing : (p : Rows) (t u : Table) (K L : ℕ → Type 0) (formed : IsFormed p) (types : SameTypes p t u) (n : ℕ) (a : RowType) → IsNameLabel (label p n) → t n ≡ u n
    → TypeOf p t K n a → TypeOf p u L n a
name_typing p t u K L formed types n a k e (TypeOf.literal w x) = absurd (subst IsNameLabel w k)
name_typing p t u K L formed types n a k e (TypeOf.variable {d = d} w v x) = TypeOf.variable (sym e ∙ w) v (has_type_same p t u formed types d a x)
name_typing p t u K L formed types n _ k e (TypeOf.length w) = TypeOf.length (sym e ∙ w)
name_typing p t u K L formed types n a k e (TypeOf.call w x y z) = absurd (subst IsNameLabel w k)
name_typing p t u K L formed types n _ k e (TypeOf.created w x) = absurd (subst IsNameLabel w k)
name_typing p t u K L formed types n _ k e (TypeOf.primitives w) = absurd (subst IsNameLabel w k)
name_typing p t u K L formed types n _ k e (TypeOf.objects w x) = absurd (subst IsNameLabel w k)
name_typing p t u K L formed types n a k e (TypeOf.cast w x y) = absurd (subst IsNameLabel w k)
name_typing p t u K L formed types n a k e (TypeOf.paren w x y) = absurd (subst IsNameLabel w k)
name_typing p t u K L formed types n _ k e (TypeOf.this w x y) = absurd (subst IsNameLabel w k)
name_typing p t u K L formed types n _ k e (TypeOf.this_of w x y) = absurd (subst IsNameLabel w k)
name_typing p t u K L formed types n _ k e (TypeOf.index w x y) = absurd (subst IsNameLabel w k)
name_typing p t u K L formed types n _ k e (TypeOf.is_a w x y z) = absurd (subst IsNameLabel w k)
name_typing p t u K L formed types n _ k e (TypeOf.unary w x y z) = absurd (subst IsNameLabel w k)
name_typing p t u K L formed types n _ k e (TypeOf.pre_step w x y z) = absurd (subst IsNameLabel w k)
name_typing p t u K L formed types n _ k e (TypeOf.post_step w x y z) = absurd (subst IsNameLabel w k)
name_typing p t u K L formed types n a k e (TypeOf.binary w x y z v r) = absurd (subst IsNameLabel w k)
name_typing p t u K L formed types n a k e (TypeOf.conditional w x y z v r s q) = absurd (subst IsNameLabel w k)
name_typing p t u K L formed types n a k e (TypeOf.assigned w x y) = absurd (subst IsNameLabel w k)
name_typing p t u K L formed types n a k e (TypeOf.compound w x y z v r s) = absurd (subst IsNameLabel w k)

name_past : (p : Rows) (n : ℕ) → length p ≤ n → IsNameLabel (label p n) → ⊥
name_past p n le h = let e = get_or_past p n (record { label = is.Skip; name = []; parent = n; end = n + 1; previous = n }) le in
    subst (λ r. IsNameLabel r.label) e h

module _ (p : Rows) (t u : Table) (formed : IsFormed p) (a : IsBound p t) (b : IsBound p u) (h : SameHeaders p t u) where
  imports : SameImportNames p t u
  imports = import_names_agree p t u formed a b h

  types : SameTypes p t u
  types = types_agree p t u formed a b h

  -- what looks up alike below is bound alike
  agree_at : (o : ℕ) → SameFirst p t u o → SameBelow p t u (HasConstantForm p t) (HasConstantForm p u) o → SameBelow p u t (HasConstantForm p u) (HasConstantForm p t) o → t o ≡ u o
  agree_at o first below back = bound_same p t u (IsType p) o (a o) (b o)
      (search_same p t u (HasConstantForm p t) (HasConstantForm p u) formed h imports types (turned_types p t u types) o first below)
      (search_same p u t (HasConstantForm p u) (HasConstantForm p t) formed (turned_headers p t u h) (turned_names p t u imports) (turned_types p t u types) types o (λ e. sym (first e)) back)

  -- names, from the last row back
  names_from : (k o : ℕ) → length p ≤ o + k → (n : ℕ) → o ≤ n → IsNameLabel (label p n) → t n ≡ u n
  names_from zero o le n after name' = absurd (name_past p n (omega arith) name')
  names_from (suc k) o le n after name' = agree_at n
      (λ e. names_from k (o + 1) (omega arith) (n + 1) (omega arith) (formed.name_below n (n + 1) name' e (omega arith)))
      (λ m w e lt x. let i = formed.name_below n m name' e lt in
      name_typing p t u (HasConstantForm p t) (HasConstantForm p u) formed types m w i (names_from k (o + 1) (omega arith) m (omega arith) i) x)
      (λ m w e lt x. let i = formed.name_below n m name' e lt in
      name_typing p u t (HasConstantForm p u) (HasConstantForm p t) formed (turned_types p t u types) m w i (sym (names_from k (o + 1) (omega arith) m (omega arith) i)) x)

  names_agree : SameNames p t u
  names_agree = record { at = λ n k. names_from (length p) 0 (omega arith) n (omega arith) k }

  names_back : SameNames p u t
  names_back = record { at = λ n k. sym (names_agree.at n k) }

  past_same : (n : ℕ) → length p ≤ n → t n ≡ u n
  past_same n le = agree_at n
      (λ e. absurd (not_below (n + 1) (omega arith) n (omega arith) e))
      (λ m w e lt x. absurd (not_below m (omega arith) n lt e))
      (λ m w e lt x. absurd (not_below m (omega arith) n lt e))
    where
      not_below : (m : ℕ) → length p ≤ m → (n : ℕ) → n < m → parent p m ≡ n → ⊥
      not_below m le n lt e = let z = ap (λ r. r.parent) (get_or_past p m (record { label = is.Skip; name = []; parent = m; end = m + 1; previous = m }) le) in
          let w : m ≡ n = sym z ∙ e in absurd (omega arith)

  -- all rows, from the last one back
  all_from : (k o : ℕ) → length p ≤ o + k → (n : ℕ) → o ≤ n → t n ≡ u n
  all_from zero o le n after = past_same n (omega arith)
  all_from (suc k) o le n after = agree_at n
      (λ e. all_from k (o + 1) (omega arith) (n + 1) (omega arith))
      (λ m w e lt x. typing_same p t u formed h types names_agree (turned_types p t u types) names_back (n + 1)
      (λ i le'. all_from k (o + 1) (omega arith) i (omega arith)) m w (omega arith) x)
      (λ m w e lt x. typing_same p u t formed (turned_headers p t u h) (turned_types p t u types) names_back types names_agree (n + 1)
      (λ i le'. sym (all_from k (o + 1) (omega arith) i (omega arith))) m w (omega arith) x)

  pub all_agree : (o : ℕ) → t o ≡ u o
  all_agree o = all_from (length p) 0 (omega arith) o (omega arith)
