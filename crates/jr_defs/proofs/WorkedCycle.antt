-- A program whose types are a cycle, and that the definitions say so:
-- package java.lang; public class Object { }
-- class A extends B { } class B extends A { }
use Rattle.std.proofs.Common.{◌≡◌, ◌⊎◌, ℕ, suc, zero, ◌+◌, ◌<◌, ◌≤◌, refl, sym, ◌∙◌, ap, subst, inl, inr, arith, List, [], ◌∷◌, length}
use Rattle.std.proofs.lemmas.List.{get_or_past}
use Rattle.std.specs.Prelude.{Option, Some, None, false, codes}
use Rattle.jr_base.specs.declared.text.Text.{Text}
use Rattle.jr_tree.specs.declared.label.Label.{Label}
use Rattle.jr_tree.specs.declared.label.Label.TheVariants as is
use Rattle.jr_tree.specs.declared.label.NameKind.TheVariants as kind
use Rattle.jr_tree.specs.declared.label.NamePlace.TheVariants as place
use Rattle.jr_tree.specs.declared.label.Role.TheVariants as role
use Rattle.jr_tree.specs.declared.label.Sought.{Sought}
use Rattle.jr_tree.specs.declared.label.Sought.TheVariants as sought
use Rattle.jr_tree.specs.Mirror.Decls as d
use Rattle.jr_tree.specs.Labels.{role_of}
use Rattle.jr_tree.specs.Forest.{none, node}
use Rattle.jr_tree.specs.Decls.{unit_labels}
use Rattle.jr_tree.specs.Rows.{Rows, rows_from, row, label, name, parent, end, role_at, sought_at}
use Rattle.jr_defs.specs.declared.referent.Referent.{Referent}
use Rattle.jr_defs.specs.declared.referent.Referent.TheVariants.{Unbound, Declared}
use Rattle.jr_defs.specs.declared.referent.Space.TheVariants as space
use Rattle.jr_defs.specs.Referents.{Table, entries, one}
use Rattle.jr_defs.specs.Declarations.{Declares, IsOf, IsType}
use Rattle.jr_defs.specs.Enclosing.{InBody}
use Rattle.jr_defs.specs.Supertypes.{IsSuperclassLabel, IsSuperinterfaceLabel}
use Rattle.jr_defs.specs.Scope.{Depth, of_unit, IsNoFurther, HasScope}
use Rattle.jr_defs.specs.Constants.{HasConstantForm}
use Rattle.jr_defs.specs.Lookup.{VisibleThrough, level_of, SimpleCandidate, Candidate, Look}
use Rattle.jr_defs.specs.Headers.{NamesHeader, IsIdentifierOf, NameMeets, Meets, IsSettled}
use Rattle.jr_defs.specs.Binding.{IsOfHeader, IsSettledPart, OfHeaders, HasCycle}
use Rattle.jr_defs.specs.Formed.{SeeksType}
use Rattle.jr_defs.specs.Correspondence.{IsScoped}
use Rattle.jr_defs.proofs.Worked.{lang}
use Rattle.jr_defs.proofs.Cycles.{never, mutual_headers}

abbrev class_a : d.TypeDecl
class_a = d.Class [] (codes "A") (Some (record { parts = codes "B" ∷ [] })) [] d.no_members

abbrev class_b : d.TypeDecl
class_b = d.Class [] (codes "B") (Some (record { parts = codes "A" ∷ [] })) [] d.no_members

abbrev p : Rows
p = rows_from 0 0 0 (node is.Program (unit_labels lang (unit_labels (d.UnitOf None [] (class_a ∷ class_b ∷ [])) none)) none)

-- A is row 10 and B row 15; the names of their superclasses are rows 11 and 16
how_many : length p ≡ 20
how_many = refl

name_b : label p 11 ≡ is.Name kind.Type place.Superclass false
name_b = refl

name_a : label p 16 ≡ is.Name kind.Type place.Superclass false
name_a = refl

-- what holds of each row, and past the end, holds of all
module _ (P : ℕ → Type 0) where
  each_row : P 0 → P 1 → P 2 → P 3 → P 4 → P 5 → P 6 → P 7 → P 8 → P 9 → P 10 → P 11 → P 12 → P 13 → P 14 → P 15 → P 16 → P 17 → P 18 → P 19 → ((n : ℕ) → 20 ≤ n → P n) → (n : ℕ) → P n
  each_row p0 _ _ _ _ _ _ _ _ _ _ _ _ _ _ _ _ _ _ _ rest zero = p0
  each_row _ p1 _ _ _ _ _ _ _ _ _ _ _ _ _ _ _ _ _ _ rest (suc zero) = p1
  each_row _ _ p2 _ _ _ _ _ _ _ _ _ _ _ _ _ _ _ _ _ rest (suc (suc zero)) = p2
  each_row _ _ _ p3 _ _ _ _ _ _ _ _ _ _ _ _ _ _ _ _ rest (suc (suc (suc zero))) = p3
  each_row _ _ _ _ p4 _ _ _ _ _ _ _ _ _ _ _ _ _ _ _ rest (suc (suc (suc (suc zero)))) = p4
  each_row _ _ _ _ _ p5 _ _ _ _ _ _ _ _ _ _ _ _ _ _ rest (suc (suc (suc (suc (suc zero))))) = p5
  each_row _ _ _ _ _ _ p6 _ _ _ _ _ _ _ _ _ _ _ _ _ rest (suc (suc (suc (suc (suc (suc zero)))))) = p6
  each_row _ _ _ _ _ _ _ p7 _ _ _ _ _ _ _ _ _ _ _ _ rest (suc (suc (suc (suc (suc (suc (suc zero))))))) = p7
  each_row _ _ _ _ _ _ _ _ p8 _ _ _ _ _ _ _ _ _ _ _ rest (suc (suc (suc (suc (suc (suc (suc (suc zero)))))))) = p8
  each_row _ _ _ _ _ _ _ _ _ p9 _ _ _ _ _ _ _ _ _ _ rest (suc (suc (suc (suc (suc (suc (suc (suc (suc zero))))))))) = p9
  each_row _ _ _ _ _ _ _ _ _ _ p10 _ _ _ _ _ _ _ _ _ rest (suc (suc (suc (suc (suc (suc (suc (suc (suc (suc zero)))))))))) = p10
  each_row _ _ _ _ _ _ _ _ _ _ _ p11 _ _ _ _ _ _ _ _ rest (suc (suc (suc (suc (suc (suc (suc (suc (suc (suc (suc zero))))))))))) = p11
  each_row _ _ _ _ _ _ _ _ _ _ _ _ p12 _ _ _ _ _ _ _ rest (suc (suc (suc (suc (suc (suc (suc (suc (suc (suc (suc (suc zero)))))))))))) = p12
  each_row _ _ _ _ _ _ _ _ _ _ _ _ _ p13 _ _ _ _ _ _ rest (suc (suc (suc (suc (suc (suc (suc (suc (suc (suc (suc (suc (suc zero))))))))))))) = p13
  each_row _ _ _ _ _ _ _ _ _ _ _ _ _ _ p14 _ _ _ _ _ rest (suc (suc (suc (suc (suc (suc (suc (suc (suc (suc (suc (suc (suc (suc zero)))))))))))))) = p14
  each_row _ _ _ _ _ _ _ _ _ _ _ _ _ _ _ p15 _ _ _ _ rest (suc (suc (suc (suc (suc (suc (suc (suc (suc (suc (suc (suc (suc (suc (suc zero))))))))))))))) = p15
  each_row _ _ _ _ _ _ _ _ _ _ _ _ _ _ _ _ p16 _ _ _ rest (suc (suc (suc (suc (suc (suc (suc (suc (suc (suc (suc (suc (suc (suc (suc (suc zero)))))))))))))))) = p16
  each_row _ _ _ _ _ _ _ _ _ _ _ _ _ _ _ _ _ p17 _ _ rest (suc (suc (suc (suc (suc (suc (suc (suc (suc (suc (suc (suc (suc (suc (suc (suc (suc zero))))))))))))))))) = p17
  each_row _ _ _ _ _ _ _ _ _ _ _ _ _ _ _ _ _ _ p18 _ rest (suc (suc (suc (suc (suc (suc (suc (suc (suc (suc (suc (suc (suc (suc (suc (suc (suc (suc zero)))))))))))))))))) = p18
  each_row _ _ _ _ _ _ _ _ _ _ _ _ _ _ _ _ _ _ _ p19 rest (suc (suc (suc (suc (suc (suc (suc (suc (suc (suc (suc (suc (suc (suc (suc (suc (suc (suc (suc zero))))))))))))))))))) = p19
  each_row _ _ _ _ _ _ _ _ _ _ _ _ _ _ _ _ _ _ _ _ rest (suc (suc (suc (suc (suc (suc (suc (suc (suc (suc (suc (suc (suc (suc (suc (suc (suc (suc (suc (suc n)))))))))))))))))))) = rest (suc (suc (suc (suc (suc (suc (suc (suc (suc (suc (suc (suc (suc (suc (suc (suc (suc (suc (suc (suc n)))))))))))))))))))) (omega arith)

no : {A : Type 0} → ⊥ → A
no h = absurd h

past : (n : ℕ) → 20 ≤ n → row p n ≡ record { label = is.Skip; name = []; parent = n; end = n + 1; previous = n }
past n le = get_or_past p n (record { label = is.Skip; name = []; parent = n; end = n + 1; previous = n }) le

-- ---- facts of all rows

superclass_rows : (n : ℕ) → IsSuperclassLabel (label p n) → (n ≡ 11) ⊎ (n ≡ 16)
superclass_rows n = each_row (λ n. IsSuperclassLabel (label p n) → (n ≡ 11) ⊎ (n ≡ 16))
    no no no no no no no no no no no (λ h. inl refl) no no no no (λ h. inr refl) no no no
    (λ n le h. absurd (subst (λ r. IsSuperclassLabel r.label) (past n le) h)) n

no_superinterface : (n : ℕ) → IsSuperinterfaceLabel (label p n) → ⊥
no_superinterface n = each_row (λ n. IsSuperinterfaceLabel (label p n) → ⊥)
    no no no no no no no no no no no no no no no no no no no no
    (λ n le h. subst (λ r. IsSuperinterfaceLabel r.label) (past n le) h) n

abbrev IsImportLabel : Label → Type 0
IsImportLabel (is.Import form) = Unit {0}
IsImportLabel _ = ⊥

no_import : (n : ℕ) → IsImportLabel (label p n) → ⊥
no_import n = each_row (λ n. IsImportLabel (label p n) → ⊥)
    no no no no no no no no no no no no no no no no no no no no
    (λ n le h. subst (λ r. IsImportLabel r.label) (past n le) h) n

abbrev IsBodyLabel : Label → Type 0
IsBodyLabel is.Body = Unit {0}
IsBodyLabel _ = ⊥

-- the names of superclasses stand in no body
no_body_at_11 : (b : ℕ) → IsBodyLabel (label p b) → b < 11 → 11 < end p b → ⊥
no_body_at_11 b = each_row (λ b. IsBodyLabel (label p b) → b < 11 → 11 < end p b → ⊥)
    no no no no no no (λ h x y. omega arith) no no no no no (λ h x y. omega arith) no no no no (λ h x y. omega arith) no no
    (λ n le h. absurd (subst (λ r. IsBodyLabel r.label) (past n le) h)) b

no_body_at_16 : (b : ℕ) → IsBodyLabel (label p b) → b < 16 → 16 < end p b → ⊥
no_body_at_16 b = each_row (λ b. IsBodyLabel (label p b) → b < 16 → 16 < end p b → ⊥)
    no no no no no no (λ h x y. omega arith) no no no no no (λ h x y. omega arith) no no no no (λ h x y. omega arith) no no
    (λ n le h. absurd (subst (λ r. IsBodyLabel r.label) (past n le) h)) b

abbrev first : Text → ℕ
first [] = 0
first (c ∷ all) = c

abbrev IsB : ℕ → Type 0
IsB e = Declares p space.Type (codes "B") e → e ≡ 15

named_b : (e : ℕ) → IsB e
named_b e = each_row IsB
    (λ h. no h.of_kind) (λ h. no h.of_kind) (λ h. no h.of_kind) (λ h. no h.of_kind) (λ h. no h.of_kind) (λ h. let z : 79 ≡ 66 = ap first h.named in absurd (omega arith)) (λ h. no h.of_kind) (λ h. no h.of_kind) (λ h. no h.of_kind) (λ h. no h.of_kind) (λ h. let z : 65 ≡ 66 = ap first h.named in absurd (omega arith)) (λ h. no h.of_kind) (λ h. no h.of_kind) (λ h. no h.of_kind) (λ h. no h.of_kind) (λ h. refl) (λ h. no h.of_kind) (λ h. no h.of_kind) (λ h. no h.of_kind) (λ h. no h.of_kind)
    (λ n le h. absurd (subst (λ r. IsOf space.Type (role_of r.label)) (past n le) h.of_kind)) e

abbrev IsA : ℕ → Type 0
IsA e = Declares p space.Type (codes "A") e → e ≡ 10

named_a : (e : ℕ) → IsA e
named_a e = each_row IsA
    (λ h. no h.of_kind) (λ h. no h.of_kind) (λ h. no h.of_kind) (λ h. no h.of_kind) (λ h. no h.of_kind) (λ h. let z : 79 ≡ 65 = ap first h.named in absurd (omega arith)) (λ h. no h.of_kind) (λ h. no h.of_kind) (λ h. no h.of_kind) (λ h. no h.of_kind) (λ h. refl) (λ h. no h.of_kind) (λ h. no h.of_kind) (λ h. no h.of_kind) (λ h. no h.of_kind) (λ h. let z : 66 ≡ 65 = ap first h.named in absurd (omega arith)) (λ h. no h.of_kind) (λ h. no h.of_kind) (λ h. no h.of_kind) (λ h. no h.of_kind)
    (λ n le h. absurd (subst (λ r. IsOf space.Type (role_of r.label)) (past n le) h.of_kind)) e

-- ---- the table of headers, and what is left of it without those of A and B

abbrev headers : List Referent
headers = Unbound ∷ Unbound ∷ Unbound ∷ Unbound ∷ Unbound ∷ Unbound ∷ Unbound ∷ Unbound ∷ Unbound ∷ Unbound ∷ Unbound ∷ Declared 15 None ∷ Unbound ∷ Unbound ∷ Unbound ∷ Unbound ∷ Declared 10 None ∷ []

abbrev t : Table
t = entries headers

abbrev bare : Table
bare n = Unbound

header_a : NamesHeader p 10 11
header_a = inl (record { names = tt; inside = refl })

header_b : NamesHeader p 15 16
header_b = inl (record { names = tt; inside = refl })

whole_11 : IsIdentifierOf p 11 11
whole_11 = record { from = omega arith; before = omega arith }

whole_16 : IsIdentifierOf p 16 16
whole_16 = record { from = omega arith; before = omega arith }

a_meets_b : Meets p t bare 10 15
a_meets_b = record { row = 11; header = header_a; meets = NameMeets.own {m = 11} {level = None} whole_11 refl refl }

b_meets_a : Meets p t bare 15 10
b_meets_a = record { row = 16; header = header_b; meets = NameMeets.own {m = 16} {level = None} whole_16 refl refl }

unsettled : (c : ℕ) → (c ≡ 10) ⊎ (c ≡ 15) → IsSettled p t bare c → ⊥
unsettled c at s = never p t bare 10 15 a_meets_b b_meets_a c at s

part : IsSettledPart p t bare
part = record { kept = kept; left_out = λ c o h s. refl }
  where
    kept : (o : ℕ) → ((c : ℕ) → NamesHeader p c o → IsSettled p t bare c) → Unbound ≡ t o
    kept o = each_row (λ o. ((c : ℕ) → NamesHeader p c o → IsSettled p t bare c) → Unbound ≡ t o)
        (λ h. refl) (λ h. refl) (λ h. refl) (λ h. refl) (λ h. refl) (λ h. refl) (λ h. refl) (λ h. refl) (λ h. refl) (λ h. refl) (λ h. refl) (λ h. absurd (unsettled 10 (inl refl) (h 10 header_a))) (λ h. refl) (λ h. refl) (λ h. refl) (λ h. refl) (λ h. absurd (unsettled 15 (inr refl) (h 15 header_b))) (λ h. refl) (λ h. refl) (λ h. refl)
        (λ n le h. sym (get_or_past headers n Unbound (omega arith))) o

others : (o : ℕ) → (t o ≡ Unbound → ⊥) → (c : ℕ) × IsType p c × IsOfHeader p bare c o
others o = each_row (λ o. (t o ≡ Unbound → ⊥) → (c : ℕ) × IsType p c × IsOfHeader p bare c o)
    (λ h. absurd (h refl)) (λ h. absurd (h refl)) (λ h. absurd (h refl)) (λ h. absurd (h refl)) (λ h. absurd (h refl)) (λ h. absurd (h refl)) (λ h. absurd (h refl)) (λ h. absurd (h refl)) (λ h. absurd (h refl)) (λ h. absurd (h refl)) (λ h. absurd (h refl)) (λ h. (10, refl, IsOfHeader.own header_a whole_11)) (λ h. absurd (h refl)) (λ h. absurd (h refl)) (λ h. absurd (h refl)) (λ h. absurd (h refl)) (λ h. (15, refl, IsOfHeader.own header_b whole_16)) (λ h. absurd (h refl)) (λ h. absurd (h refl)) (λ h. absurd (h refl))
    (λ n le h. absurd (h (get_or_past headers n Unbound (omega arith)))) o

-- ---- what lookup finds at the two names

-- where no body holds the place, no type is further in than those of its unit
no_further : (o : ℕ) → ((c : ℕ) → InBody p c o → ⊥) → (x : Text) (e : ℕ) (q : Depth) → Declares p space.Type x e → HasScope p bare o e q → IsNoFurther q of_unit
no_further o out x e _ k (HasScope.local h) = absurd (subst (IsOf space.Type) h.local k.of_kind)
no_further o out x e _ k (HasScope.parameter h) = absurd (subst (IsOf space.Type) h.parameter k.of_kind)
no_further o out x e _ k (HasScope.labeled h) = absurd (subst (IsOf space.Type) h.labeled k.of_kind)
no_further o out x e _ k (HasScope.member {c = c} h m) = absurd (out c h)
no_further o out x e _ k (HasScope.of_same_unit h) = IsNoFurther.by_rank (omega arith)
no_further o out x e _ k (HasScope.of_same_package h) = IsNoFurther.by_rank (omega arith)
no_further o out x e _ k (HasScope.single h) = IsNoFurther.by_rank (omega arith)
no_further o out x e _ k (HasScope.static h) = IsNoFurther.by_rank (omega arith)
no_further o out x e _ k (HasScope.demanded h) = IsNoFurther.by_rank (omega arith)

visible_of : (o : ℕ) (x : Text) (s : Sought) (e : ℕ) (l : Option ℕ) → SeeksType s → IsScoped s → Candidate p bare (HasConstantForm p bare) o x s e l → VisibleThrough p bare space.Type x o e l
visible_of o x _ e l k sc (Candidate.simple (SimpleCandidate.type h)) = h
visible_of o x _ e l k sc (Candidate.simple (SimpleCandidate.package_or_type h)) = h
visible_of o x _ e l k sc (Candidate.simple (SimpleCandidate.variable h)) = absurd k
visible_of o x _ e l k sc (Candidate.simple (SimpleCandidate.first_variable h)) = absurd k
visible_of o x _ e l k sc (Candidate.simple (SimpleCandidate.then_type n h)) = absurd k
visible_of o x _ e _ k sc (Candidate.qualified h) = absurd sc
visible_of o x _ e _ k sc (Candidate.field h) = absurd k
visible_of o x _ e _ k sc (Candidate.super_field h m) = absurd k
visible_of o x _ e l k sc (Candidate.method h m) = absurd k
visible_of o x _ e _ k sc (Candidate.method_of h m w) = absurd k
visible_of o x _ e _ k sc (Candidate.super_method h m w) = absurd k
visible_of o x _ e l k sc (Candidate.creation h n m w) = absurd k
visible_of o x _ e _ k sc (Candidate.constructor h m w) = absurd k
visible_of o x _ e _ k sc (Candidate.own_class h) = absurd k
visible_of o x _ e _ k sc (Candidate.labeled h) = absurd k

found_b : VisibleThrough p bare space.Type (codes "B") 11 15 None
found_b = record {
  depth = of_unit;
  through = refl;
  visible = record {
    in_scope = record {
      scope = HasScope.of_same_unit (record {
        top = record { type = refl; inside = refl };
        unit = 9;
        first = record { unit = refl; from = omega arith; before = omega arith };
        second = record { unit = refl; from = omega arith; before = omega arith };
      });
      declares = record { of_kind = tt; named = refl };
    };
    innermost = λ e q w. inl (no_further 11 (λ c h. no_body_at_11 h.body (subst IsBodyLabel (sym h.of_type.body) tt) h.after h.before) (codes "B") e q w.declares w.scope);
  };
}

found_a : VisibleThrough p bare space.Type (codes "A") 16 10 None
found_a = record {
  depth = of_unit;
  through = refl;
  visible = record {
    in_scope = record {
      scope = HasScope.of_same_unit (record {
        top = record { type = refl; inside = refl };
        unit = 9;
        first = record { unit = refl; from = omega arith; before = omega arith };
        second = record { unit = refl; from = omega arith; before = omega arith };
      });
      declares = record { of_kind = tt; named = refl };
    };
    innermost = λ e q w. inl (no_further 16 (λ c h. no_body_at_16 h.body (subst IsBodyLabel (sym h.of_type.body) tt) h.after h.before) (codes "A") e q w.declares w.scope);
  };
}

no_level : (x : Text) (o c e : ℕ) (l : Option ℕ) → role_at p c ≡ role.Type → e ≡ c → VisibleThrough p bare space.Type x o e l → (e ≡ c) × (l ≡ None)
no_level x o c e l k same w = (same, sym (subst (λ r. level_of r w.depth ≡ l) (ap (role_at p) same ∙ k) w.through))

look_b : Look p bare (HasConstantForm p bare) 11 (Declared 15 None)
look_b = one 15 None (Candidate.simple (SimpleCandidate.type found_b)) (λ e l w.
    let h = visible_of 11 (codes "B") (sought.Simple kind.Type) e l tt tt w in no_level (codes "B") 11 15 e l refl (named_b e h.visible.in_scope.declares) h)

look_a : Look p bare (HasConstantForm p bare) 16 (Declared 10 None)
look_a = one 10 None (Candidate.simple (SimpleCandidate.type found_a)) (λ e l w.
    let h = visible_of 16 (codes "A") (sought.Simple kind.Type) e l tt tt w in no_level (codes "A") 16 10 e l refl (named_a e h.visible.in_scope.declares) h)

header_rows : (c n : ℕ) → NamesHeader p c n → (n ≡ 11) ⊎ (n ≡ 16)
header_rows c n (inl h) = superclass_rows n h.names
header_rows c n (inr h) = absurd (no_superinterface n h.names)

abbrev IsLooked : ℕ → Type 0
IsLooked o = Look p bare (HasConstantForm p bare) o (t o)

looked_at : (n o : ℕ) → (n ≡ 11) ⊎ (n ≡ 16) → IsIdentifierOf p n o → IsLooked o
looked_at n o (inl e) i = let j : IsIdentifierOf p 11 o = subst (λ n. IsIdentifierOf p n o) e i in
    let x : 11 ≤ o = j.from in let y : o < 12 = j.before in let z : 11 ≡ o = omega arith in subst IsLooked z look_b
looked_at n o (inr e) i = let j : IsIdentifierOf p 16 o = subst (λ n. IsIdentifierOf p n o) e i in
    let x : 16 ≤ o = j.from in let y : o < 17 = j.before in let z : 16 ≡ o = omega arith in subst IsLooked z look_a

looked : (c o : ℕ) → IsType p c → IsOfHeader p bare c o → IsLooked o
looked c o k (IsOfHeader.own {n = n} h i) = looked_at n o (header_rows c n h) i
looked c o k (IsOfHeader.import {i = j} h f l i) = absurd (no_import j (subst IsImportLabel (sym l.import.import) tt))

pub of_headers : OfHeaders p t
of_headers = record { settled_part = bare; part = part; looked = looked; others = others }

pub cycle : HasCycle p
unfolding of_headers
cycle = mutual_headers p t 10 15 of_headers refl a_meets_b b_meets_a
