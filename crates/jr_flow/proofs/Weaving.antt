-- The locals of a graph, each with its number, and the points for each.
use Rattle.std.proofs.Common.{◌≡◌, ◌⊎◌, inl, inr, ⊎_elim, refl, sym, ◌∙◌, ap, subst, arith, ℕ, ◌+◌, ◌<◌, ◌≤◌, Bool, true, false, cond, nat_eq, List, [], ◌∷◌, ◌++◌, length, map, Option, Some, None, option_map, slice_get}
use Rattle.std.specs.List.{Contains}
use Rattle.std.specs.HashMap.{IsEmpty}
use Rattle.std.specs.Map.{lookup}
use Rattle.std.proofs.lemmas.Bool.{false≢true, cases_lt}
use Rattle.std.proofs.lemmas.Bool.Decides.{Decides-eqb}
use Rattle.std.proofs.lemmas.Option.{none-some, same_Some, slice_get_within}
use Rattle.std.proofs.lemmas.List.Elements.{Contains-append_left, Contains-push, Contains-push_cases}
use Rattle.jr_flow_defs.specs.declared.point.Point.{Point}
use Rattle.jr_flow_defs.specs.declared.point.PointKind.{PointKind}
use Rattle.jr_flow_defs.specs.declared.point.PointKind.TheVariants as kind
use Rattle.jr_flow_defs.specs.Edges.{point}
use Rattle.jr_flow.specs.declared.locals.Locals.{Locals}
use Rattle.jr_flow.specs.Woven.{rows_of, definitions_of, uses_of, number_of, AreNumbered, KeepsRows, HasLocal, IsFor, AreListed, AreLocals}
use Rattle.jr_flow.proofs.Gets.{front_get, get_pushed, get_last, got}

-- ---- numbers of locals

pub none_numbered : (points : List Point) (locals : Locals) → IsEmpty locals.numbers → rows_of locals ≡ [] → definitions_of locals ≡ [] → uses_of locals ≡ [] → AreLocals points 0 locals
none_numbered points locals empty rows definitions uses = record {
  numbered = record {
    stands = λ d n e. absurd (none-some n (sym (ap (lookup (λ q. nat_eq d q)) empty) ∙ e));
    known = λ d n e. absurd (none-some d (subst (λ all. slice_get all n ≡ Some d) rows e));
  };
  definitions = none kind.Definition (definitions_of locals) definitions;
  uses = none kind.Use (uses_of locals) uses;
}
  where
    none : (of : ℕ → PointKind) (pairs : List (ℕ × ℕ)) → pairs ≡ [] → AreListed of points 0 (rows_of locals) pairs
    none of pairs e = record {
      only = λ n i c. let size = ap length e in absurd (omega (arith, c.1, size));
      every = λ i row local lt. absurd (omega (arith, lt));
    }

module _ (old new : Locals) (local n : ℕ) (h : AreNumbered old) where
  pub local_known : number_of old local ≡ Some n → HasLocal old old local n
  local_known e = record { right = h; kept = λ k d f. f; stands = h.stands local n e; definitions = refl; uses = refl }

  module _ (fresh : number_of old local ≡ None) (rows : rows_of new ≡ rows_of old ++ local ∷ []) (follows : n ≡ length (rows_of old)) (updates : (d : ℕ) → number_of new d ≡ cond (nat_eq local d) (Some n) (number_of old d))
      (definitions : definitions_of new ≡ definitions_of old) (uses : uses_of new ≡ uses_of old) where
    kept : KeepsRows (rows_of old) (rows_of new)
    kept k d e = ap (λ all. slice_get all k) rows ∙ front_get (rows_of old) (local ∷ []) k (slice_get_within (rows_of old) k d e) ∙ e

    at_n : slice_get (rows_of new) n ≡ Some local
    at_n = ap (λ all. slice_get all n) rows ∙ ap (slice_get (rows_of old ++ local ∷ [])) follows ∙ get_last (rows_of old) local

    stands_new : (d k : ℕ) → number_of new d ≡ Some k → slice_get (rows_of new) k ≡ Some d
    stands_new d k e = by (nat_eq local d) (Decides-eqb local d) (sym (updates d) ∙ e)
      where
        by : (b : Bool) → ((b ≡ true → local ≡ d) × (local ≡ d → b ≡ true)) → cond b (Some n) (number_of old d) ≡ Some k → slice_get (rows_of new) k ≡ Some d
        by true same is = subst (λ j. slice_get (rows_of new) j ≡ Some d) (same_Some n k is) (at_n ∙ ap Some (same.0 refl))
        by false same is = kept k d (h.stands d k is)

    known_new : (d k : ℕ) → slice_get (rows_of new) k ≡ Some d → number_of new d ≡ Some k
    known_new d k e = updates d ∙ by (nat_eq local d) (Decides-eqb local d) (get_pushed (rows_of old) local d k (sym (ap (λ all. slice_get all k) rows) ∙ e))
      where
        by : (b : Bool) → ((b ≡ true → local ≡ d) × (local ≡ d → b ≡ true)) → (slice_get (rows_of old) k ≡ Some d) ⊎ ((k ≡ length (rows_of old)) × (local ≡ d)) → cond b (Some n) (number_of old d) ≡ Some k
        by true same (inl early) = absurd (none-some k (sym fresh ∙ ap (number_of old) (same.0 refl) ∙ h.known d k early))
        by true same (inr last) = ap Some (follows ∙ sym last.0)
        by false same (inl early) = h.known d k early
        by false same (inr last) = absurd (false≢true (same.1 last.1))

    pub local_added : HasLocal old new local n
    local_added = record { right = record { stands = stands_new; known = known_new }; kept = kept; stands = at_n; definitions = definitions; uses = uses }

-- each local has one number
pub numbered_once : (locals : Locals) → AreNumbered locals → (n m d : ℕ) → slice_get (rows_of locals) n ≡ Some d → slice_get (rows_of locals) m ≡ Some d → n ≡ m
numbered_once locals h n m d e f = same_Some n m (sym (h.known d n e) ∙ h.known d m f)

-- ---- the points for each

module _ (of : ℕ → PointKind) (points : List Point) (count : ℕ) (old new : List ℕ) (pairs : List (ℕ × ℕ)) (h : AreListed of points count old pairs) (kept : KeepsRows old new) where
  moved : (n i : ℕ) → IsFor of points old n i → IsFor of points new n i
  moved n i one = record { local = one.local; row = one.row; is = kept n one.local one.is; stands = one.stands }

  pub no_more : ((row local : ℕ) → slice_get points count ≡ point row (of local) → ⊥) → AreListed of points (count + 1) new pairs
  no_more none_so = record {
    only = λ n i c. moved n i (h.only n i c);
    every = λ i row local lt e. ⊎_elim
        (λ early. let one = h.every i row local early e in (one.0, kept one.0 local one.1, one.2))
        (λ past. let at : i ≡ count = omega (arith, past, lt) in absurd (none_so row local (ap (slice_get points) (sym at) ∙ e)))
        (cases_lt i count);
  }

  pub one_more : (row local key : ℕ) → slice_get points count ≡ point row (of local) → slice_get new key ≡ Some local → ((a b : ℕ) → point row (of a) ≡ point row (of b) → a ≡ b) → AreListed of points (count + 1) new (pairs ++ (key, count) ∷ [])
  one_more row local key at_count at_key one_local = record {
    only = λ n i c. ⊎_elim (λ early. moved n i (h.only n i early)) (λ last. subst (λ x. IsFor of points new x.0 x.1) last (record { local = local; row = row; is = at_key; stands = at_count })) (Contains-push_cases pairs (key, count) (n, i) c);
    every = λ i r d lt e. ⊎_elim
        (λ early. let one = h.every i r d early e in (one.0, kept one.0 d one.1, Contains-append_left pairs ((key, count) ∷ []) (one.0, i) one.2))
        (λ past. let at : i ≡ count = omega (arith, past, lt) in let same = same_point (sym at_count ∙ ap (slice_get points) (sym at) ∙ e) in
        (key, at_key ∙ ap Some same, subst (λ z. Contains (pairs ++ (key, count) ∷ []) (key, z)) (sym at) (Contains-push pairs (key, count))))
        (cases_lt i count);
  }
    where
      same_point : {r d : ℕ} → point row (of local) ≡ point r (of d) → local ≡ d
      same_point {r} {d} e = let same = same_Some _ _ e in one_local local d (ap Some (λ i. record { row = row; kind = (same i).kind }))

-- ---- kinds of points

abbrev tag_by : PointKind → ℕ × ℕ
tag_by (kind.Definition d) = (1, d)
tag_by (kind.Use d) = (2, d)
tag_by _ = (0, 0)

abbrev tag : Point → ℕ × ℕ
tag x = tag_by x.kind

abbrev second : ℕ × ℕ → ℕ
second x = x.1

abbrev first : ℕ × ℕ → ℕ
first x = x.0

pub one_definition : (row a b : ℕ) → point row (kind.Definition a) ≡ point row (kind.Definition b) → a ≡ b
one_definition row a b e = ap (λ x. second (tag x)) (same_Some (record { row = row; kind = kind.Definition a }) (record { row = row; kind = kind.Definition b }) e)

pub one_use : (row a b : ℕ) → point row (kind.Use a) ≡ point row (kind.Use b) → a ≡ b
one_use row a b e = ap (λ x. second (tag x)) (same_Some (record { row = row; kind = kind.Use a }) (record { row = row; kind = kind.Use b }) e)

pub apart : (row r a b : ℕ) → point row (kind.Definition a) ≡ point r (kind.Use b) → ⊥
apart row r a b e = let no : 1 ≡ 2 = ap (λ x. first (tag x)) (same_Some (record { row = row; kind = kind.Definition a }) (record { row = r; kind = kind.Use b }) e) in omega (arith, no)

-- ---- one point more

module _ (points : List Point) (count : ℕ) (old mid new : Locals) (h : AreLocals points count old) where
  module _ (local key : ℕ) (n : HasLocal old mid local key) (same : (d : ℕ) → number_of new d ≡ number_of mid d) (rows : rows_of new ≡ rows_of mid) where
    numbered : AreNumbered new
    numbered = record {
      stands = λ d k e. ap (λ all. slice_get all k) rows ∙ n.right.stands d k (sym (same d) ∙ e);
      known = λ d k e. same d ∙ n.right.known d k (sym (ap (λ all. slice_get all k) rows) ∙ e);
    }

    kept_rows : KeepsRows (rows_of old) (rows_of new)
    kept_rows k d e = ap (λ all. slice_get all k) rows ∙ n.kept k d e

    at_key : slice_get (rows_of new) key ≡ Some local
    at_key = ap (λ all. slice_get all key) rows ∙ n.stands

    pub definition_added : (row : ℕ) → slice_get points count ≡ point row (kind.Definition local) → definitions_of new ≡ definitions_of mid ++ (key, count) ∷ [] → uses_of new ≡ uses_of mid → AreLocals points (count + 1) new
    definition_added row at definitions uses = record {
      numbered = numbered;
      definitions = subst (AreListed kind.Definition points (count + 1) (rows_of new)) (sym (definitions ∙ ap (λ xs. xs ++ (key, count) ∷ []) n.definitions))
          (one_more kind.Definition points count (rows_of old) (rows_of new) (definitions_of old) h.definitions kept_rows row local key at at_key (one_definition row));
      uses = subst (AreListed kind.Use points (count + 1) (rows_of new)) (sym (uses ∙ n.uses)) (no_more kind.Use points count (rows_of old) (rows_of new) (uses_of old) h.uses kept_rows (λ r d e. apart row r local d (sym at ∙ e)));
    }

    pub use_added : (row : ℕ) → slice_get points count ≡ point row (kind.Use local) → definitions_of new ≡ definitions_of mid → uses_of new ≡ uses_of mid ++ (key, count) ∷ [] → AreLocals points (count + 1) new
    use_added row at definitions uses = record {
      numbered = numbered;
      definitions = subst (AreListed kind.Definition points (count + 1) (rows_of new)) (sym (definitions ∙ n.definitions))
          (no_more kind.Definition points count (rows_of old) (rows_of new) (definitions_of old) h.definitions kept_rows (λ r d e. apart r row d local (sym e ∙ at)));
      uses = subst (AreListed kind.Use points (count + 1) (rows_of new)) (sym (uses ∙ ap (λ xs. xs ++ (key, count) ∷ []) n.uses))
          (one_more kind.Use points count (rows_of old) (rows_of new) (uses_of old) h.uses kept_rows row local key at at_key (one_use row));
    }

-- of another kind
pub other_point : (points : List Point) (count : ℕ) (locals : Locals) (row : ℕ) (x : PointKind) → slice_get points count ≡ point row x → ((d : ℕ) → x ≡ kind.Definition d → ⊥) → ((d : ℕ) → x ≡ kind.Use d → ⊥) → AreLocals points count locals → AreLocals points (count + 1) locals
other_point points count locals row x at no_definition no_use h = record {
  numbered = h.numbered;
  definitions = no_more kind.Definition points count (rows_of locals) (rows_of locals) (definitions_of locals) h.definitions (λ k d e. e) (λ r d e. no_definition d (ap kind_of (same_Some (record { row = row; kind = x }) (record { row = r; kind = kind.Definition d }) (sym at ∙ e))));
  uses = no_more kind.Use points count (rows_of locals) (rows_of locals) (uses_of locals) h.uses (λ k d e. e) (λ r d e. no_use d (ap kind_of (same_Some (record { row = row; kind = x }) (record { row = r; kind = kind.Use d }) (sym at ∙ e))));
}
  where
    kind_of : Point → PointKind
    kind_of y = y.kind
