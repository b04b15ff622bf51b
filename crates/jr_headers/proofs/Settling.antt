-- Settling one type at a time, in any order, comes to the table of headers, and gives an order of types.
use Rattle.std.proofs.Common.{◌≡◌, ◌⊎◌, refl, sym, ◌∙◌, ap, subst, inl, inr, ⊎_elim, ℕ, Bool, true, false, ◌||◌, List, [], ◌∷◌, ◌++◌, append_assoc, nat_eq, Option, Decides}
use Rattle.std.proofs.lemmas.Bool.Decides.{Decides-eqb}
use Rattle.std.proofs.lemmas.List.Folds.{list_any-append}
use Rattle.jr_tree.specs.Rows.{Rows}
use Rattle.jr_defs.specs.declared.referent.Referent.TheVariants.{Unbound, Declared}
use Rattle.jr_defs.specs.Referents.{Table, entries}
use Rattle.jr_defs.specs.Declarations.{IsType, IsObject}
use Rattle.jr_defs.specs.Enclosing.{InBody, DeclaredIn}
use Rattle.jr_defs.specs.Supertypes.{SuperAt, Super}
use Rattle.jr_defs.specs.Headers.{NamesHeader, IsIdentifierOf, NameMeets, Meets, IsSettled}
use Rattle.jr_defs.specs.Constants.{HasConstantForm}
use Rattle.jr_defs.specs.Binding.{IsOfHeader, IsSettledPart, OfHeaders}
use Rattle.jr_defs.specs.Formed.{IsFormed}
use Rattle.jr_defs.proofs.HeadersAgree.{Agreed, agreed_names}
use Rattle.jr_plain.specs.Search.{has}
use Rattle.jr_plain.proofs.Tests.{both, like, decide}
use Rattle.jr_plain.proofs.Searches.{among_append}
use Rattle.jr_plain.proofs.Declared.{type_tells}
use Rattle.jr_headers.specs.Rounds.{kept, under, with_names}
use Rattle.jr_headers.specs.Growing.{Stage, header_table, header_part, follows_from}
use Rattle.jr_headers.specs.Settling.{part_of, whole_of, MaySettle, GoesOn, SettlesOne, IsReached, IsAtRest, IsOrder}
use Rattle.jr_headers.specs.Headers.{is_settled_by}
use Rattle.jr_headers.proofs.Headed.{names_header_tells, header_name_tells}
use Rattle.jr_headers.proofs.Settled.{met_type, by_tells}
use Rattle.jr_headers.proofs.Names.{itself_identifier}
use Rattle.jr_headers.proofs.Pairs.{Looked, looked_of, one_type, headers_pair, name_kept, settled_done, settled_same, Done, look_type, one_header}
use Rattle.jr_headers.proofs.OneHeader.{own_agree}
use Rattle.jr_headers.proofs.HeaderRows.{headed}
use Rattle.jr_headers.proofs.Grounded.{agreed_over}
use Rattle.jr_headers.proofs.Given.{part_names, whole_entries, whole_other, whole_looked}
use Rattle.jr_headers.proofs.Cut.{settled_back, cut_headers}
use Rattle.jr_headers.proofs.OneTable.{tables_same, parts_same}
use Rattle.jr_headers.proofs.Growing.{grown_headers}
use Rattle.jr_headers.proofs.Stepping.{IsGrown, next_grown, nothing_grown}

-- ---- one more in a list

pub has_last : (xs : List ℕ) (c : ℕ) → has (xs ++ (c ∷ [])) c ≡ true
has_last xs c = (among_append nat_eq Decides-eqb xs (c ∷ []) c).1 (inr (one (nat_eq c c) ((Decides-eqb c c).1 refl)))
  where
    one : (b : Bool) → b ≡ true → (b || false) ≡ true
    one true e = refl
    one false e = e

pub has_more : (xs : List ℕ) (c x : ℕ) → has xs x ≡ true → has (xs ++ (c ∷ [])) x ≡ true
has_more xs c x h = (among_append nat_eq Decides-eqb xs (c ∷ []) x).1 (inl h)

pub has_or_last : (xs : List ℕ) (c x : ℕ) → has (xs ++ (c ∷ [])) x ≡ true → (has xs x ≡ true) ⊎ (c ≡ x)
has_or_last xs c x h = ⊎_elim (λ old. inl old) (λ new. inr ((Decides-eqb c x).0 (one (nat_eq c x) new))) ((among_append nat_eq Decides-eqb xs (c ∷ []) x).0 h)
  where
    one : (b : Bool) → (b || false) ≡ true → b ≡ true
    one true e = refl
    one false e = e

module _ (p : Rows) (formed : IsFormed p) where
  -- whether a type may be settled next
  pub may_tells : (s : Stage) → IsGrown p formed s → (c : ℕ) → Decides (follows_from p (with_names p (under p s.names)) (under p s.names) s.types c) (MaySettle p s c)
  may_tells s g c = like (both (type_tells p c) (subst (λ t. Decides (is_settled_by p (entries (with_names p (under p s.names))) (part_of p s) s.types c) (By t)) (whole_entries p formed s.names g.grounded)
      (by_tells p (entries (with_names p (under p s.names))) (part_of p s) (headed p formed) s.types c)))
      (λ h. record { type = h.0; around = h.1.0; met = h.1.1 }) (λ h. (h.type, (h.around, h.met)))
    where
      By : Table → Type 0
      By t = ((e : ℕ) → DeclaredIn p e c → has s.types e ≡ true) × ((k : ℕ) → Meets p t (part_of p s) c k → has s.types k ≡ true)

  -- ---- each step goes on

  module _ (s n : Stage) (c : ℕ) (g : IsGrown p formed s) (one : SettlesOne p s n c) where
    stays : (x : ℕ) → has s.types x ≡ true → has n.types x ≡ true
    stays x h = subst (λ xs. has xs x ≡ true) (sym one.types) (has_more s.types c x h)

    new_or_old : (x : ℕ) → has n.types x ≡ true → (has s.types x ≡ true) ⊎ (c ≡ x)
    new_or_old x h = has_or_last s.types c x (subst (λ xs. has xs x ≡ true) one.types h)

    here : has n.types c ≡ true
    here = subst (λ xs. has xs c ≡ true) (sym one.types) (has_last s.types c)

    names_kept : (x m : ℕ) → has n.types x ≡ true → NamesHeader p x m → entries n.names m ≡ whole_of p s m
    names_kept x m i h = ⊎_elim (λ w. one.own m w)
        (λ no'. ⊎_elim (λ old. one.others m no' ∙ sym (part_names p formed s.names g.grounded x m h) ∙ g.kept x m old h) (λ e. absurd (no' (subst (λ y. NamesHeader p y m) (sym e) h))) (new_or_old x i))
        (decide (names_header_tells p c m))

    names_left : (x m : ℕ) → NamesHeader p x m → (has n.types x ≡ true → ⊥) → entries n.names m ≡ Unbound
    names_left x m h no' = one.others m (λ w. no' (subst (λ y. has n.types y ≡ true) (one_type p m w h) here)) ∙ g.left x m h (λ old. no' (stays x old))

    goes_on : GoesOn p s n
    goes_on = record { stays = stays; from = λ x i. ⊎_elim (λ old. inl old) (λ e. inr (subst (MaySettle p s) e one.may)) (new_or_old x i); kept = names_kept; left = names_left }

  pub reached_grown : (s : Stage) → IsReached p s → IsGrown p formed s
  reached_grown _ IsReached.nothing = nothing_grown p formed
  reached_grown _ (IsReached.settled {s = s} {n = n} {c = c} before one) = let g = reached_grown s before in next_grown p formed s n g (goes_on s n c g one)

  -- ---- what is settled stays so, and has the entries of the table of headers

  abbrev one : Table
  one = entries (header_table p)

  abbrev its_part : Table
  its_part = entries (header_part p)

  abbrev one_table : OfHeaders p one
  one_table = grown_headers p formed

  module _ (s : Stage) (g : IsGrown p formed s) where
    looked : Looked p (whole_of p s) (part_of p s)
    looked = whole_looked p formed s.names g.grounded

    looked_one : Looked p one its_part
    looked_one = looked_of p one its_part (headers_pair p formed one one_table)

    one_kept : (c n : ℕ) → has s.types c ≡ true → NamesHeader p c n → whole_of p s n ≡ one n → IsSettled p one its_part c → one n ≡ its_part n
    one_kept c n i h e there = sym (name_kept p formed one its_part one_table.part.kept c n there h)

    done : (c : ℕ) → has s.types c ≡ true → Done p formed (whole_of p s) (part_of p s) one its_part looked looked_one (λ x. has s.types x ≡ true) g.outwards g.downwards g.kept one_kept c
    done c i = settled_done p formed (whole_of p s) (part_of p s) one its_part looked looked_one (λ x. has s.types x ≡ true) g.outwards g.downwards g.kept one_kept c (g.type c i) i (g.settled c i)

    pub settled_sound : (c : ℕ) → has s.types c ≡ true → IsSettled p one its_part c
    settled_sound c i = (done c i).settled

    pub whole_sound : (c m : ℕ) → has s.types c ≡ true → NamesHeader p c m → whole_of p s m ≡ one m
    whole_sound c m i h = agreed_names p (whole_of p s) one c m (done c i).entries h

    pub names_sound : (c m : ℕ) → has s.types c ≡ true → NamesHeader p c m → entries s.names m ≡ one m
    names_sound c m i h = sym (part_names p formed s.names g.grounded c m h) ∙ g.kept c m i h ∙ whole_sound c m i h

  -- ---- the header of a type that may be settled next has its entries in the table of headers already

  module _ (s : Stage) (g : IsGrown p formed s) (c : ℕ) (may : MaySettle p s c) where
    round_in : (f e : ℕ) → has s.types f ≡ true → IsSettled p (whole_of p s) (part_of p s) f → InBody p e f → has s.types e ≡ true
    round_in f e i (IsSettled.settled out met) w = elim (formed.body_chain f e (g.type f i) w) [
      | inl d ↦ g.outwards f e i d
      | inr h ↦ round_in h.0 e (g.outwards f h.0 i h.1) (out h.0 h.1) h.2
    ]

    all_round : (e : ℕ) → InBody p e c → has s.types e ≡ true
    all_round e w = elim (formed.body_chain c e may.type w) [
      | inl d ↦ may.around e d
      | inr h ↦ (let i = may.around h.0 h.1 in round_in h.0 e i (g.settled h.0 i) h.2)
    ]

    pub identifiers_sound : (n m : ℕ) → NamesHeader p c n → IsIdentifierOf p n m → whole_of p s m ≡ one m
    identifiers_sound n m h i = own_agree p formed c (whole_of p s) (part_of p s) one its_part
        (one_header p formed (whole_of p s) (part_of p s) (looked s g) c may.type) (one_header p formed one its_part (looked_one s g) c may.type) may.type
        (λ e w. (done s g e (all_round e w)).seen) (λ k t w. (done s g k (may.met k w)).seen) n h m i

  -- ---- at rest

  module _ (s : Stage) (g : IsGrown p formed s) (rest : IsAtRest p s) where
    in_rest : (c : ℕ) → IsType p c → IsSettled p (whole_of p s) (part_of p s) c → has s.types c ≡ true
    in_rest c k (IsSettled.settled out met) = rest c (record {
      type = k;
      around = λ e d. in_rest e d.inside.type (out e d);
      met = λ x m. in_rest x (met_type p (whole_of p s) (part_of p s) c x m) (met x m);
    })

    rest_part : IsSettledPart p (whole_of p s) (part_of p s)
    rest_part = record {
      kept = λ o h. ⊎_elim (λ w. g.kept w.0 o (in_rest w.0 (formed.header w.0 o w.1) (h w.0 w.1)) w.1)
          (λ no'. whole_other p formed s.names g.grounded o (λ c w. no' (c, w))) (decide (header_name_tells p o));
      left_out = λ c o h no'. part_names p formed s.names g.grounded c o h ∙ g.left c o h (λ i. no' (g.settled c i));
    }

    rest_grounded : (c : ℕ) → IsType p c → Agreed p (part_of p s) (part_of p s) c
    rest_grounded c k = let same = part_names p formed s.names g.grounded in agreed_over p (entries s.names) (part_of p s) (part_of p s) same same c (g.grounded c k)

    abbrev at_rest : OfHeaders p (kept p (whole_of p s) (part_of p s))
    at_rest = cut_headers p formed (whole_of p s) (part_of p s) (looked s g) rest_part rest_grounded

    pub rest_table : (o : ℕ) → kept p (whole_of p s) (part_of p s) o ≡ one o
    rest_table o = tables_same p formed (kept p (whole_of p s) (part_of p s)) one at_rest one_table o

    pub rest_settled_part : (o : ℕ) → kept p (part_of p s) (part_of p s) o ≡ its_part o
    rest_settled_part o = parts_same p formed (kept p (whole_of p s) (part_of p s)) one at_rest one_table o

    pub rest_types : (c : ℕ) → IsType p c → Decides (has s.types c) (IsSettled p one its_part c)
    rest_types c k = (
      settled_sound s g c,
      λ w. in_rest c k (settled_back p formed (whole_of p s) (part_of p s) (looked s g) rest_part rest_grounded c
          (settled_same p formed one (kept p (whole_of p s) (part_of p s)) one_table at_rest c k w)),
    )

  -- ---- the order

  -- what is behind these types in an order may be said of any list that has them
  abbrev Has : List ℕ → List ℕ → Type 0
  Has done xs = (x : ℕ) → has done x ≡ has xs x

  module _ (s n : Stage) (c : ℕ) (g : IsGrown p formed s) (g' : IsGrown p formed n) (settles : SettlesOne p s n c) where
    is_in : has n.types c ≡ true
    is_in = here s n c g settles

    -- what the header of c names in the table of headers is settled already
    named_in : (m x : ℕ) (l : Option ℕ) → NamesHeader p c m → one m ≡ Declared x l → has s.types x ≡ true
    named_in m x l h e = let w = settles.own m h in let z = names_sound n g' c m is_in h in let there : whole_of p s m ≡ Declared x l = sym w ∙ z ∙ e in
        let i = itself_identifier p formed m in
        let t = type_there m x l h there in settles.may.met x (record { row = m; header = h; meets = NameMeets.own i there t })
      where
        type_there : (m x : ℕ) (l : Option ℕ) → NamesHeader p c m → whole_of p s m ≡ Declared x l → IsType p x
        type_there m x l h e = look_type p formed (part_of p s) (HasConstantForm p (part_of p s)) (whole_of p s) m x l (formed.header_name c m h)
            ((looked s g).looked c m (formed.header c m h) (IsOfHeader.own h (itself_identifier p formed m))) e

    above_in : (x : ℕ) → Super p one c x → has s.types x ≡ true
    above_in x w = by w.place w.at
      where
        by : (m : ℕ) → SuperAt p one c m x → has s.types x ≡ true
        by m (SuperAt.class {level = l} h e) = named_in m x l (inl h) e
        by _ (SuperAt.implied h o) = ⊎_elim (λ e. absurd (h.below (subst (IsObject p) (sym e) o))) (λ i. i) (settles.top x o)
        by m (SuperAt.interface {level = l} h e) = named_in m x l (inr h) e

    order_step : (ys done : List ℕ) → Has done s.types → ((d : List ℕ) → Has d n.types → IsOrder p one d ys) → IsOrder p one done (c ∷ ys)
    order_step ys done same more = (
      same c ∙ settles.fresh,
      (λ e d. same e ∙ settles.may.around e d, (λ x w k. same x ∙ above_in x w, more (c ∷ done) longer)),
    )
      where
        turned : (a b : Bool) → (a || b) ≡ (b || (a || false))
        turned true true = refl
        turned true false = refl
        turned false true = refl
        turned false false = refl

        longer : Has (c ∷ done) n.types
        longer x = ap (λ b. nat_eq c x || b) (same x) ∙ turned (nat_eq c x) (has s.types x) ∙ sym (list_any-append (λ y. nat_eq y x) s.types (c ∷ [])) ∙ ap (λ xs. has xs x) (sym settles.types)

  reached_order : (s : Stage) → IsReached p s → (ys : List ℕ) → ((d : List ℕ) → Has d s.types → IsOrder p one d ys) → IsOrder p one [] (s.types ++ ys)
  reached_order _ IsReached.nothing ys more = more [] (λ x. refl)
  reached_order _ (IsReached.settled {s = s} {n = n} {c = c} before settles) ys more =
      let g = reached_grown s before in let g' = next_grown p formed s n g (goes_on s n c g settles) in
      subst (λ xs. IsOrder p one [] xs) (sym (append_assoc s.types (c ∷ []) ys) ∙ ap (λ xs. xs ++ ys) (sym settles.types))
      (reached_order s before (c ∷ ys) (λ d same. order_step s n c g g' settles ys d same more))

  pub order_of : (s : Stage) → IsReached p s → ((c : ℕ) → IsType p c → has s.types c ≡ true) → IsOrder p one [] s.types
  order_of s r all = subst (λ xs. IsOrder p one [] xs) (append_nil s.types) (reached_order s r [] (λ d same c k. same c ∙ all c k))
    where
      append_nil : (xs : List ℕ) → xs ++ [] ≡ xs
      append_nil [] = refl
      append_nil (x ∷ xs) = ap (λ ys. x ∷ ys) (append_nil xs)
