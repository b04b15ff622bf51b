-- The methods that a class has, and what calls of them find there.
use Rattle.std.proofs.Common.{◌≡◌, refl, sym, ◌∙◌, ap, subst, ⊎_elim, arith, ℕ, true, List, [], ◌∷◌, ◌++◌, map, flat_map, append-nil, append_assoc, Option, Some, None, nat_eq}
use Rattle.std.specs.List.Sorted.{IsStrictlyIncreasing}
use Rattle.std.proofs.lemmas.List.Sorted.{list_any-IsPermutation}
use Rattle.jr_tree.specs.Rows.{Rows}
use Rattle.jr_defs.specs.Referents.{Table}
use Rattle.jr_defs.specs.Declarations.{IsClass}
use Rattle.jr_defs.specs.Supertypes.{AtOrAbove}
use Rattle.jr_defs.specs.Members.{MemberOf}
use Rattle.jr_defs.specs.Overriding.{Has, Dispatches}
use Rattle.jr_plain.specs.Search.{has, Lists}
use Rattle.jr_plain.proofs.Tests.{like, decide}
use Rattle.jr_plain.proofs.Searches.{flat_of}
use Rattle.jr_plain.proofs.Declared.{class_tells}
use Rattle.jr_supers.specs.Supers.{once, ListsOnce, SortsOnce}
use Rattle.jr_supers.proofs.Listing.{once_has, once_is, once_increases}
use Rattle.jr_members.specs.declared.declared.MemberKind.TheVariants as kind
use Rattle.jr_members.specs.Held.{ObjectIsBare}
use Rattle.jr_members.proofs.Declaring.{type_listed}
use Rattle.jr_dispatch.specs.declared.dispatch.Found as code
use Rattle.jr_dispatch.specs.Dispatching.{declared_methods, edge_list, IsFoundAs, AddsFound, method_of, AreEdges, AreFoundIn}
use Rattle.jr_dispatch.proofs.Leading.{head_in, rest_in}
use Rattle.jr_dispatch.proofs.Having.{member_declared, at_then}

-- one type more of a list is done
pub flat_more : (f : ℕ → List ℕ) (all left more done new : List ℕ) (x : ℕ) → left ≡ x ∷ more → new ≡ done ++ f x → done ++ flat_map f left ≡ all → new ++ flat_map f more ≡ all
flat_more f all left more done new x is e before = ap (λ xs. xs ++ flat_map f more) e ∙ append_assoc done (f x) (flat_map f more) ∙ ap (λ xs. done ++ flat_map f xs) (sym is) ∙ before

pub flat_end : (f : ℕ → List ℕ) (all left done : List ℕ) → left ≡ [] → done ++ flat_map f left ≡ all → done ≡ all
flat_end f all left done is before = sym (append-nil done) ∙ ap (λ xs. done ++ flat_map f xs) (sym is) ∙ before

module _ (p : Rows) (t : Table) (c : ℕ) where
  -- ---- methods

  module _ (bare : ObjectIsBare p) where
    methods_listed : (overs : List ℕ) → Lists overs (AtOrAbove p t c) → Lists (flat_map (declared_methods p) overs) (Has p t c)
    methods_listed overs lists m = like (flat_of nat_eq (declared_methods p) overs lists m)
        (λ h. let own = (type_listed p kind.Method h.0 m).0 h.2 in record { method = own.0; holder = h.0; above = h.1; member = MemberOf.declared own.1 })
        (λ h. let k = member_declared p t h.holder m h.member in (k.0, at_then p t bare c h.holder k.0 h.above k.1, (type_listed p kind.Method k.0 m).1 (h.method, k.2)))

    methods_once : (overs all out : List ℕ) → Lists overs (AtOrAbove p t c) → all ≡ flat_map (declared_methods p) overs → SortsOnce all out → ListsOnce out (Has p t c)
    methods_once overs all out lists is s = subst (λ xs. ListsOnce xs (Has p t c)) (sym s.is) (record {
      rises = once_increases s.sorted s.rising;
      has = λ m. (
        (λ at. (methods_listed overs lists m).0 (ap (λ xs. has xs m) (sym is) ∙ list_any-IsPermutation (λ k. nat_eq k m) all s.sorted s.moved ∙ once_is s.sorted m at)),
        (λ held. once_has s.sorted m (sym (list_any-IsPermutation (λ k. nat_eq k m) all s.sorted s.moved) ∙ ap (λ xs. has xs m) is ∙ (methods_listed overs lists m).1 held)),
      );
    })

    pub methods_told : (overs given all passed out : List ℕ) → given ≡ overs → ListsOnce overs (AtOrAbove p t c) → all ≡ flat_map (declared_methods p) given → passed ≡ all → SortsOnce passed out → ListsOnce out (Has p t c)
    methods_told overs given all passed out same lists is also s = methods_once overs passed out lists.has (also ∙ is ∙ ap (λ xs. flat_map (declared_methods p) xs) same) s

  -- ---- edges

  edges_more : (all : List code.Found) (e : code.Found) → AreEdges p t c all → (e.class ≡ c) × Dispatches p t c e.method e.found → AreEdges p t c (all ++ e ∷ [])
  edges_more [] e h k = (k.0, k.1, tt)
  edges_more (x ∷ all) e h k = (h.0, h.1, edges_more all e h.2 k)

  map_more : (all : List code.Found) (e : code.Found) (rest : List ℕ) → map method_of (all ++ e ∷ []) ++ rest ≡ map method_of all ++ e.method ∷ rest
  map_more [] e rest = refl
  map_more (x ∷ all) e rest = ap (λ xs. x.method ∷ xs) (map_more all e rest)

  -- the edges of the methods but the rest
  pub record AreEdgesTo (methods rest : List ℕ) (all : List code.Found) : Type 0 where
    pub edges : AreEdges p t c all
    pub each : IsClass p c → map method_of all ++ rest ≡ methods
    pub none : (IsClass p c → ⊥) → all ≡ []
    pub held : (m : ℕ) → has rest m ≡ true → Has p t c m

  pub edges_start : (methods : List ℕ) → ListsOnce methods (Has p t c) → AreEdgesTo methods methods []
  edges_start methods h = record { edges = tt; each = λ class. refl; none = λ apart. refl; held = λ m at. (h.has m).0 at }

  pub edges_next : (methods rows rest : List ℕ) (m : ℕ) (old new : List code.Found) → rows ≡ m ∷ rest → AreEdgesTo methods rows old → AddsFound p t c m old new → AreEdgesTo methods rest new
  edges_next methods rows rest m old new is h k = by k.found k.is k.new_is
    where
      rest_held : (x : ℕ) → has rest x ≡ true → Has p t c x
      rest_held x at = h.held x (subst (λ xs. has xs x ≡ true) (sym is) (rest_in m x rest at))

      by : (found : Option ℕ) → IsFoundAs p t c m found → new ≡ old ++ edge_list c m found → AreEdgesTo methods rest new
      by (Some f) d e = subst (λ all. AreEdgesTo methods rest all) (sym e) (record {
        edges = edges_more old (record { class = c; method = m; found = f }) h.edges (refl, d);
        each = λ class. map_more old (record { class = c; method = m; found = f }) rest ∙ ap (λ xs. map method_of old ++ xs) (sym is) ∙ h.each class;
        none = λ apart. absurd (apart d.class);
        held = rest_held;
      })
      by None d e = subst (λ all. AreEdgesTo methods rest all) (sym (e ∙ append-nil old)) (record {
        edges = h.edges;
        each = λ class. absurd (d class (h.held m (subst (λ xs. has xs m ≡ true) (sym is) (head_in m rest))));
        none = h.none;
        held = rest_held;
      })

  none_rise : IsStrictlyIncreasing []
  none_rise k lt = absurd (omega arith)

  pub edges_end : (methods rest : List ℕ) (all : List code.Found) → rest ≡ [] → ListsOnce methods (Has p t c) → AreEdgesTo methods rest all → AreFoundIn p t c all
  edges_end methods rest all none once h = ⊎_elim of_class of_none (decide (class_tells p c))
    where
      of_class : IsClass p c → AreFoundIn p t c all
      of_class class = let same : map method_of all ≡ methods = sym (append-nil (map method_of all)) ∙ ap (λ xs. map method_of all ++ xs) (sym none) ∙ h.each class in record {
        edges = h.edges;
        rise = subst (λ xs. IsStrictlyIncreasing xs) (sym same) once.rises;
        told = λ m k held. subst (λ xs. has xs m ≡ true) (sym same) ((once.has m).1 held);
      }

      of_none : (IsClass p c → ⊥) → AreFoundIn p t c all
      of_none apart = record {
        edges = h.edges;
        rise = subst (λ xs. IsStrictlyIncreasing (map method_of xs)) (sym (h.none apart)) none_rise;
        told = λ m class. absurd (apart class);
      }
