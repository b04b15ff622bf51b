-- The header of one type under two tables that lookup sees alike round it and at what it meets: nothing is asked of the tables at other headers.
use Rattle.std.proofs.Common.{◌≡◌, ℕ, ◌+◌, ◌<◌, refl, sym, ◌∙◌, subst, arith, Option}
use Rattle.jr_tree.specs.declared.label.Label.TheVariants as is
use Rattle.jr_tree.specs.declared.label.ImportKind.{ImportKind}
use Rattle.jr_tree.specs.declared.label.NameKind.{NameKind}
use Rattle.jr_tree.specs.declared.label.Sought.{Sought}
use Rattle.jr_tree.specs.declared.label.Sought.TheVariants as sought
use Rattle.jr_tree.specs.Rows.{Rows, label, parent, sought_at}
use Rattle.jr_defs.specs.declared.referent.Referent.TheVariants.{Declared}
use Rattle.jr_defs.specs.Referents.{Table}
use Rattle.jr_defs.specs.Declarations.{IsType}
use Rattle.jr_defs.specs.Enclosing.{InBody}
use Rattle.jr_defs.specs.Types.{NamesType}
use Rattle.jr_defs.specs.Scope.{rank}
use Rattle.jr_defs.specs.Constants.{HasConstantForm}
use Rattle.jr_defs.specs.Lookup.{Look}
use Rattle.jr_defs.specs.Headers.{NamesHeader, IsIdentifierOf, IsFirstOf, depth_of, IsLookedForIn, NameMeets, Meets}
use Rattle.jr_defs.specs.Binding.{IsOfHeader}
use Rattle.jr_defs.specs.Formed.{SeeksType, IsFormed}
use Rattle.jr_defs.specs.Correspondence.{IsScoped}
use Rattle.jr_defs.proofs.Itself.{SameFirst}
use Rattle.jr_defs.proofs.Scoping.{EndsSo, bounded_there, looked_there, looked_back, first_same}
use Rattle.jr_defs.proofs.Settling.{next_identifier}
use Rattle.jr_defs.proofs.HeadersAgree.{Agreed, ImportSame, agreed_around}
use Rattle.jr_headers.proofs.Names.{name_same, itself_identifier, inner_names_none, import_names_none, import_seeks, each_identifier, import_identifier_same}

-- x has what lookup gives at the header of c under y, and the two differ at names in headers alone
pub record LookedHere (p : Rows) (c : ℕ) (x y : Table) : Type 0 where
  pub looked : (o : ℕ) → IsOfHeader p y c o → Look p y (HasConstantForm p y) o (x o)
  pub others : (o : ℕ) → ((c : ℕ) → NamesHeader p c o → ⊥) → y o ≡ x o
  pub named : EndsSo p x

module _ (p : Rows) (formed : IsFormed p) where
  -- where two tables differ at names in headers alone
  module _ (x y : Table) (others : (o : ℕ) → ((c : ℕ) → NamesHeader p c o → ⊥) → y o ≡ x o) where
    inner_kept : (n m : ℕ) → SeeksType (sought_at p n) → IsIdentifierOf p n m → n < m → y m ≡ x m
    inner_kept n m seeks i lt = others m (λ c h. inner_names_none p formed n m c seeks i lt h)

    import_kept : (i : ℕ) (form : ImportKind) → label p i ≡ is.Import form → y (i + 1) ≡ x (i + 1)
    import_kept i form e = others (i + 1) (λ c h. import_names_none p formed i c form e h)

    pub named_kept : EndsSo p x → EndsSo p y
    named_kept named i d form e w = named i d form e (record { level = w.level; refers = sym (import_kept i form e) ∙ w.refers; type = w.type })

  -- the header of a type, where the tables that lookup sees agree on what it meets, and on all round it
  module _ (c : ℕ) (x y u v : Table) (a : LookedHere p c x y) (b : LookedHere p c u v) where
    module _ (type : IsType p c) (outer : (e : ℕ) → InBody p e c → Agreed p y v e) (met : (s : ℕ) → IsType p s → Meets p x y c s → Agreed p y v s) where
      module _ (n : ℕ) (h : NamesHeader p c n) where
        seeks : SeeksType (sought_at p n)
        seeks = formed.header_name c n h

        around : (m e : ℕ) → IsIdentifierOf p n m → InBody p e m → Agreed p y v e
        around m e i w = outer e (formed.header_place c n m e h i w)

        own_met : (m s : ℕ) (l : Option ℕ) → IsIdentifierOf p n m → x m ≡ Declared s l → IsType p s → Agreed p y v s
        own_met m s l i e k = met s k (record { row = n; header = h; meets = NameMeets.own i e k })

        -- the first identifier of the name
        module _ (m : ℕ) (f : IsFirstOf p n m) where
          inside : IsIdentifierOf p n m
          inside = let z = formed.tree.nested n in let e = f.last in record { from = omega arith; before = omega arith }

          import_met : (i k s : ℕ) (l : Option ℕ) → IsLookedForIn p y m i → IsIdentifierOf p (i + 1) k → x k ≡ Declared s l → IsType p s → Agreed p y v s
          import_met i k s l w j e t = met s t (record { row = n; header = h; meets = NameMeets.import f w j e t })

          pub import_agrees : (i : ℕ) → IsLookedForIn p y m i → IsLookedForIn p v m i → (k : ℕ) → IsIdentifierOf p (i + 1) k → x k ≡ u k
          import_agrees i w z = each_identifier p formed (i + 1) (λ k. x k ≡ u k) (λ k j before. step k j before)
            where
              step : (k : ℕ) → IsIdentifierOf p (i + 1) k → (parent p (k + 1) ≡ k → x (k + 1) ≡ u (k + 1)) → x k ≡ u k
              step k j before = import_identifier_same p formed y v (HasConstantForm p y) (HasConstantForm p v) i k w.form w.import.import j first known (x k) (u k)
                  (a.looked k (IsOfHeader.import h f w j)) (b.looked k (IsOfHeader.import h f z j))
                where
                  next : parent p (k + 1) ≡ k → IsIdentifierOf p (i + 1) (k + 1)
                  next e = next_identifier p formed.tree (i + 1) k j e

                  seeks_here : SeeksType (sought_at p (i + 1))
                  seeks_here = import_seeks p formed i w.form w.import.import

                  behind : i + 1 < k + 1
                  behind = let z = j.from in omega arith

                  first : SameFirst p y v k
                  first e = inner_kept x y a.others (i + 1) (k + 1) seeks_here (next e) behind ∙ before e ∙ sym (inner_kept u v b.others (i + 1) (k + 1) seeks_here (next e) behind)

                  known : (d : ℕ) → NamesType p y k d → Agreed p y v d
                  known d q = import_met i (k + 1) d q.level w (next q.first) (sym (inner_kept x y a.others (i + 1) (k + 1) seeks_here (next q.first) behind) ∙ q.refers) q.type

          import_same : (i : ℕ) → IsLookedForIn p y m i → IsLookedForIn p v m i → ImportSame p y v i
          import_same i w z = record {
            at = import_kept x y a.others i w.form w.import.import ∙ import_agrees i w z (i + 1) (itself_identifier p formed (i + 1)) ∙ sym (import_kept u v b.others i w.form w.import.import);
            known = λ d q. import_met i (i + 1) d q.level w (itself_identifier p formed (i + 1)) (sym (import_kept x y a.others i w.form w.import.import) ∙ q.refers) q.type;
          }

          high_there : (i : ℕ) (w : IsLookedForIn p y m i) → rank (depth_of w.form) ≡ 2 → IsLookedForIn p v m i
          high_there i w e = record {
            unit = w.unit;
            around = w.around;
            form = w.form;
            import = w.import;
            may = w.may;
            unshadowed = bounded_there p y v m (ImportSame p y v) (agreed_around p y v m (λ e q. around m e inside q)) (named_kept x y a.others a.named) (named_kept u v b.others b.named) (rank (depth_of w.form)) (omega arith) w.unshadowed;
          }

          named : (i : ℕ) (w : IsLookedForIn p y m i) → rank (depth_of w.form) ≡ 2 → ImportSame p y v i
          named i w e = import_same i w (high_there i w e)

          pub goes_there : (i : ℕ) → IsLookedForIn p y m i → IsLookedForIn p v m i
          goes_there i w = looked_there p y v m (ImportSame p y v) (agreed_around p y v m (λ e q. around m e inside q)) (named_kept x y a.others a.named) (named_kept u v b.others b.named) named i w

          pub comes_back : (i : ℕ) → IsLookedForIn p v m i → IsLookedForIn p y m i
          comes_back i w = looked_back p y v m (ImportSame p y v) (agreed_around p y v m (λ e q. around m e inside q)) (named_kept x y a.others a.named) (named_kept u v b.others b.named) named i w

          looked_same : (i : ℕ) → IsLookedForIn p y m i → ImportSame p y v i
          looked_same i w = import_same i w (goes_there i w)

          first_agrees : x m ≡ u m
          first_agrees = first_same p y v m (ImportSame p y v) (agreed_around p y v m (λ e q. around m e inside q)) (named_kept x y a.others a.named) (named_kept u v b.others b.named) (λ i w e. looked_same i w) looked_same
              (HasConstantForm p y) (HasConstantForm p v) f.kind f.simple (subst SeeksType f.simple (formed.identifier n m seeks inside)) (x m) (u m)
              (a.looked m (IsOfHeader.own h inside)) (b.looked m (IsOfHeader.own h inside))

        -- an identifier behind a dot
        module _ (m : ℕ) (i : IsIdentifierOf p n m) (before : parent p (m + 1) ≡ m → x (m + 1) ≡ u (m + 1)) where
          here : SeeksType (sought_at p m)
          here = formed.identifier n m seeks i

          next : parent p (m + 1) ≡ m → IsIdentifierOf p n (m + 1)
          next e = next_identifier p formed.tree n m i e

          behind : n < m + 1
          behind = let z = i.from in omega arith

          first : SameFirst p y v m
          first e = inner_kept x y a.others n (m + 1) seeks (next e) behind ∙ before e ∙ sym (inner_kept u v b.others n (m + 1) seeks (next e) behind)

          known : (d : ℕ) → NamesType p y m d → Agreed p y v d
          known d q = own_met (m + 1) d q.level (next q.first) (sym (inner_kept x y a.others n (m + 1) seeks (next q.first) behind) ∙ q.refers) q.type

          qualified_agrees : (k : NameKind) → sought_at p m ≡ sought.Qualified k → x m ≡ u m
          qualified_agrees k e = name_same p y v (HasConstantForm p y) (HasConstantForm p v) m here (λ d q. around m d i q)
              (λ sc. absurd (subst IsScoped e sc)) (λ sc. absurd (subst IsScoped e sc)) first known (x m) (u m) (a.looked m (IsOfHeader.own h i)) (b.looked m (IsOfHeader.own h i))

          identifier_agrees : (s : Sought) → sought_at p m ≡ s → x m ≡ u m
          identifier_agrees (sought.Simple k) e = first_agrees m (record { last = formed.first_last n m k seeks i e; kind = k; simple = e })
          identifier_agrees (sought.Qualified k) e = qualified_agrees k e
          identifier_agrees _ e = absurd (subst SeeksType e here)

        pub own_agree : (m : ℕ) → IsIdentifierOf p n m → x m ≡ u m
        own_agree = each_identifier p formed n (λ m. x m ≡ u m) (λ m i before. identifier_agrees m i before (sought_at p m) refl)

        -- the name meets no other types under the other table
        pub meets_back : (s : ℕ) → NameMeets p u v n s → NameMeets p x y n s
        meets_back s (NameMeets.own {m = m} i e k) = NameMeets.own i (own_agree m i ∙ e) k
        meets_back s (NameMeets.import {m = m} {i = i} {k = k} f w j e t) = let z = comes_back m f i w in NameMeets.import f z j (import_agrees m f i z w k j ∙ e) t

        pub meets_there : (s : ℕ) → NameMeets p x y n s → NameMeets p u v n s
        meets_there s (NameMeets.own {m = m} i e k) = NameMeets.own i (sym (own_agree m i) ∙ e) k
        meets_there s (NameMeets.import {m = m} {i = i} {k = k} f w j e t) = let z = goes_there m f i w in NameMeets.import f z j (sym (import_agrees m f i w z k j) ∙ e) t
