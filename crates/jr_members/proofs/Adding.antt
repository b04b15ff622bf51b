-- Lists of members are made and added, a step at a time.
use Rattle.std.proofs.Common.{◌≡◌, ◌⊎◌, refl, sym, ◌∙◌, ap, subst, inl, inr, ⊎_elim, arith, ℕ, ◌<◌, Bool, true, false, List, [], ◌∷◌, ◌++◌, filter, flat_map, length, Option, Some, None, nat_eq, Decides}
use Rattle.std.proofs.lemmas.Bool.{false≢true}
use Rattle.std.proofs.lemmas.Bool.Decides.{Decides-eqb}
use Rattle.jr_tree.specs.Rows.{Rows, role_at}
use Rattle.jr_tree.specs.Tree.{IsTree}
use Rattle.jr_defs.specs.Referents.{Table}
use Rattle.jr_defs.specs.Enclosing.{DeclaredIn}
use Rattle.jr_defs.specs.Supertypes.{Super, AtOrAbove}
use Rattle.jr_plain.specs.Search.{has, Lists}
use Rattle.jr_plain.specs.Headed.{IsHeaded}
use Rattle.jr_plain.proofs.Tests.{like}
use Rattle.jr_plain.proofs.Searches.{among_filter, among_append}
use Rattle.jr_plain.proofs.Listed.{flat_has}
use Rattle.jr_plain.proofs.Bounds.{member_below}
use Rattle.jr_places.specs.declared.chains.Entry.{Entry}
use Rattle.jr_places.specs.declared.stamps.Stamps.{Stamps}
use Rattle.jr_places.specs.Stamps.{IsStamping}
use Rattle.jr_places.specs.declared.places.Places.{Places}
use Rattle.jr_places.specs.Names.{name_row}
use Rattle.jr_places.proofs.Packing.{name_tells}
use Rattle.jr_supers.specs.declared.above.Link.{Link}
use Rattle.jr_supers.specs.declared.subtypes.Supers.{Supers}
use Rattle.jr_supers.specs.Above.{Tables, AreAbove, up_at, tables}
use Rattle.jr_supers.specs.Direct.{supers_in, HasSupers}
use Rattle.jr_supers.specs.Order.{IsOrderOf}
use Rattle.jr_supers.specs.Supers.{AreSupersOf, ListsOnce}
use Rattle.jr_members.specs.declared.declared.MemberKind.{MemberKind}
use Rattle.jr_members.specs.declared.named.Named.{Named}
use Rattle.jr_members.specs.declared.named.Sources.{Sources}
use Rattle.jr_members.specs.Each.{ListsEach, with_each, AreBelow, IsPushedAs}
use Rattle.jr_members.specs.Keys.{falling, is_declared_by, AreDeclared}
use Rattle.jr_members.specs.Held.{role_of_kind, IsDeclaredAs, IsHeldAs}
use Rattle.jr_members.specs.Named.{has_list, entries_for, IsTold, AreLists, IsDone}
use Rattle.jr_members.specs.Nearest.{AreNear, IsListed}
use Rattle.jr_members.specs.Sources.{AreSeen, AreSources, links_of, AreOfKind, CanClimb}
use Rattle.jr_members.specs.Gathered.{inherits, is_the, IsFurther, PushesUp, IsUpFurther, IsAddedUp, IsAddingUp, IsNaming, IsWantedAs, KeepsLists, CanGather, IsGatheringIn, CanAdd, CanAddTo, AddsList, AddsLists, IsAddingLists, AddsType, IsAddingTypes, AddsAll}
use Rattle.jr_members.proofs.Each.{has_front, front_has, first_in, rest_in, front_in, none_in, not_both}
use Rattle.jr_members.proofs.Heritage.{held_declared}
use Rattle.jr_members.proofs.Keyed.{keeps_itself, keeps_more, new_told}
use Rattle.jr_members.proofs.Declaring.{type_listed}
use Rattle.jr_members.proofs.Gathering.{gathering_start, gathering_more, gathering_end}
use Rattle.jr_members.proofs.Nearing.{near_kept}
use Rattle.jr_members.proofs.Doing.{from_up, listing_start, listing_next, listing_end, done_start, next_ready, done_next, done_end}

-- ---- kinds and bounds

pub own_kind : (p : Rows) (kind : MemberKind) (c x : ℕ) (own : List ℕ) → Lists own (IsDeclaredAs p kind c x) → AreOfKind p kind own
own_kind p kind c x own h = record { each = λ d k. ((h d).0 k).of.role_is }

pub held_kind : (p : Rows) (t : Table) (kind : MemberKind) (c x : ℕ) (all : List ℕ) → Lists all (IsHeldAs p t kind c x) → AreOfKind p kind all
held_kind p t kind c x all h = record { each = λ d k. ((h d).0 k).of.role_is }

pub own_below : (p : Rows) (kind : MemberKind) (c x : ℕ) (own : List ℕ) → Lists own (IsDeclaredAs p kind c x) → AreBelow (length p) own
own_below p kind c x own h = record { each = λ d k. member_below p d ((h d).0 k).declared.member }

held_below : (p : Rows) (t : Table) (kind : MemberKind) (c x d : ℕ) → IsHeldAs p t kind c x d → d < length p
held_below p t kind c x d h = let k = held_declared p t c d h.held in member_below p d k.2.member

pub some_below : (p : Rows) (t : Table) (kind : MemberKind) (c x : ℕ) (test : ℕ → Bool) (found some : List ℕ) → Lists found (IsHeldAs p t kind c x) → some ≡ filter test found → AreBelow (length p) some
some_below p t kind c x test found some h is = record {
  each = λ d k. held_below p t kind c x d ((h d).0 ((among_filter nat_eq Decides-eqb test found d).0 (subst (λ xs. has xs d ≡ true) is k)).0);
}

pub sources_kind : (t : Table) (kind other : MemberKind) (sources : Sources) → other ≡ kind → AreSources t kind sources → AreSources t other sources
sources_kind t kind other sources same h = subst (λ k. AreSources t k sources) (sym same) h

pub rows_kind : (p : Rows) (kind other : MemberKind) (all : List ℕ) → other ≡ kind → AreOfKind p kind all → AreOfKind p other all
rows_kind p kind other all same h = subst (λ k. AreOfKind p k all) (sym same) h

pub some_kind : (p : Rows) (t : Table) (kind other : MemberKind) (own : List ℕ) (c s : ℕ) (found some : List ℕ) → other ≡ kind → some ≡ filter (inherits p t other own c s) found → some ≡ filter (inherits p t kind own c s) found
some_kind p t kind other own c s found some same is = subst (λ k. some ≡ filter (inherits p t k own c s) found) same is

pub can_climb : (p : Rows) (t : Table) (supers : Supers) (kind : MemberKind) (named : Named) (c s : ℕ) → CanGather p t supers kind named c → Super p t c s → CanClimb p t supers kind named.lists s
can_climb p t supers kind named c s can up = record { all = can.all; done = λ y on. can.ready s y up on }

-- ---- what stands at or above further supertypes

module _ (p : Rows) (t : Table) (linked : Option ℕ) where
  pub up_first : (s : ℕ) (all : List ℕ) → is_the linked s ≡ true → PushesUp p t linked s all all
  up_first s all is = record { lists = λ e. (λ h. inl h, ⊎_elim (λ h. h) (λ h. absurd (not_both h.0 is))) }

  pub up_more : (s : ℕ) (old new above : List ℕ) → is_the linked s ≡ false → ListsOnce above (AtOrAbove p t s) → new ≡ old ++ above → PushesUp p t linked s old new
  up_more s old new above apart listed is = record {
    lists = λ e. subst (λ xs. Decides (has xs e) ((has old e ≡ true) ⊎ (IsFurther linked s × AtOrAbove p t s e))) (sym is) (like (among_append nat_eq Decides-eqb old above e)
        (⊎_elim (λ h. inl h) (λ h. inr (apart, (listed.has e).0 h))) (⊎_elim (λ h. inl h) (λ h. inr ((listed.has e).1 h.1))));
  }

  module _ (direct old : List ℕ) where
    pub ups_start : IsAddingUp p t linked direct old old direct
    ups_start = record { sound = λ e h. inl h; kept = λ e h. h; told = λ s e at further above. inr at; part = λ s h. h }

    pub ups_next : (all now rest more : List ℕ) (s : ℕ) → more ≡ s ∷ rest → IsAddingUp p t linked direct old all more → PushesUp p t linked s all now → IsAddingUp p t linked direct old now rest
    ups_next all now rest more s is h k = record {
      sound = λ e a. ⊎_elim (λ b. h.sound e b) (λ b. inr (record { over = s; direct_has = h.part s (first_in s rest more is); further = b.0; above = b.1 })) ((k.lists e).0 a);
      kept = λ e a. (k.lists e).1 (inl (h.kept e a));
      told = λ u e at further above. ⊎_elim (λ b. inl ((k.lists e).1 (inl b)))
          (λ b. ⊎_elim (λ same. inl ((k.lists e).1 (inr (subst (λ u. IsFurther linked u) (sym same) further, subst (λ u. AtOrAbove p t u e) (sym same) above)))) (λ b. inr b) (front_in s u rest more is b)) (h.told u e at further above);
      part = λ u a. h.part u (rest_in s u rest more is a);
    }

    pub ups_end : (all rest : List ℕ) → rest ≡ [] → IsAddingUp p t linked direct old all rest → Lists all (IsAddedUp p t linked direct old)
    ups_end all rest none h e = (h.sound e, ⊎_elim (λ k. h.kept e k) (λ k. ⊎_elim (λ a. a) (λ a. absurd (none_in k.over rest none a)) (h.told k.over e k.direct_has k.further k.above)))

naming_out : (p : Rows) (t : Table) (links : List (Option Link)) (c e : ℕ) → IsNaming p t links c e → (c ≡ e) ⊎ ((s : ℕ) × Super p t c s × IsFurther (up_at links c) s × AtOrAbove p t s e)
naming_out p t links c _ IsNaming.own = inl refl
naming_out p t links c e (IsNaming.further {s = s} up apart above) = inr (s, up, apart, above)

pub lists_none : (p : Rows) (t : Table) (kind : MemberKind) (lists : List Entry) → lists ≡ [] → AreLists p t kind lists
lists_none p t kind lists none = subst (λ l. AreLists p t kind l) (sym none) (record { sound = λ c x d k. absurd (false≢true k); whole = λ c x k. absurd (false≢true k); once = λ c x. tt })

pub pushed_same : (bound : ℕ) (stamps : Stamps) (all start mine own : List ℕ) → start ≡ [] → mine ≡ own → IsPushedAs bound stamps all (with_each start mine) → IsPushedAs bound stamps all (with_each [] own)
pushed_same bound stamps all start mine own none same h = subst (λ xs. IsPushedAs bound stamps all (with_each xs own)) none (subst (λ ys. IsPushedAs bound stamps all (with_each start ys)) same h)

module _ (p : Rows) (t : Table) (supers : Supers) (right : AreSupersOf p t supers) where
  direct_listed : (c : ℕ) (direct : List ℕ) → direct ≡ supers_in supers.direct.supers c → Lists direct (Super p t c)
  direct_listed c direct is = subst (λ xs. Lists xs (Super p t c)) (sym is) (right.direct.each c)

  pub naming_listed : (c : ℕ) (linked : Option ℕ) (direct first all : List ℕ) → direct ≡ supers_in supers.direct.supers c → linked ≡ up_at (links_of supers) c → first ≡ c ∷ [] → Lists all (IsAddedUp p t linked direct first)
      → Lists all (IsNaming p t (links_of supers) c)
  naming_listed c linked direct first all is up one h e = like (h e) (⊎_elim (λ k. ⊎_elim (λ same. subst (λ e. IsNaming p t (links_of supers) c e) same IsNaming.own) (λ k. absurd (false≢true k)) (front_in c e [] first one k))
      (λ k. IsNaming.further ((direct_listed c direct is k.over).0 k.direct_has) (subst (λ o. IsFurther o k.over) up k.further) k.above))
      (λ k. ⊎_elim (λ same. inl (subst (λ e. has first e ≡ true) same (first_in c [] first one)))
      (λ k. inr (record { over = k.0; direct_has = (direct_listed c direct is k.0).1 k.1; further = subst (λ o. IsFurther o k.0) (sym up) k.2; above = k.3 })) (naming_out p t (links_of supers) c e k))

  pub wanted_listed : (kind : MemberKind) (c : ℕ) (types rows : List ℕ) → Lists types (IsNaming p t (links_of supers) c) → rows ≡ flat_map (λ e. falling (length p) (is_declared_by p kind e)) types → Lists rows (IsWantedAs p t (links_of supers) kind c)
  wanted_listed kind c types rows h is d = subst (λ xs. Decides (has xs d) (IsWantedAs p t (links_of supers) kind c d)) (sym is)
      (like (flat_has nat_eq Decides-eqb nat_eq Decides-eqb (λ e. falling (length p) (is_declared_by p kind e)) (IsNaming p t (links_of supers) c) (λ e d. (role_at p d ≡ role_of_kind kind) × DeclaredIn p e d) (λ e. type_listed p kind e) types h d)
      (λ k. record { role_is = k.2.0; holder = k.0; naming = k.1; declared = k.2.1 }) (λ k. (k.holder, k.naming, (k.role_is, k.declared))))

  pub wanted_below : (kind : MemberKind) (c d : ℕ) → IsWantedAs p t (links_of supers) kind c d → d < length p
  wanted_below kind c d h = member_below p d h.declared.member

  -- ---- one list

  tree : IsTree p
  tree = right.well.headed.tree

  module _ (kind : MemberKind) (c : ℕ) where
    pub gathering_first : (x : ℕ) (own all direct : List ℕ) (stamps : Stamps) → Lists own (IsDeclaredAs p kind c x) → IsPushedAs (length p) stamps all (with_each [] own) → direct ≡ supers_in supers.direct.supers c → IsGatheringIn p t kind c x own stamps all direct
    gathering_first x own all direct stamps listed h is = record {
      own_is = listed;
      stamped = h.stamped;
      gathering = gathering_start p t tree (name_tells p) c x own kind listed all direct h.is (direct_listed c direct is);
    }

    pub gathering_up : (x : ℕ) (own all : List ℕ) (stamps : Stamps) (s : ℕ) (rest : List ℕ) → IsGatheringIn p t kind c x own stamps all (s ∷ rest) → Super p t c s
    gathering_up x own all stamps s rest h = h.gathering.supers s (front_has s rest)

    pub gathering_next : (x : ℕ) (own all more : List ℕ) (old new : Stamps) (s : ℕ) (rest found some : List ℕ) → IsGatheringIn p t kind c x own old all (s ∷ rest) → Lists found (IsHeldAs p t kind s x) → some ≡ filter (inherits p t kind own c s) found
        → IsPushedAs (length p) new more (with_each all some) → IsGatheringIn p t kind c x own new more rest
    gathering_next x own all more old new s rest found some h held is k = record {
      own_is = h.own_is;
      stamped = k.stamped;
      gathering = gathering_more p t tree (name_tells p) c x own kind h.own_is s (gathering_up x own all old s rest h) found some all more held is k.is rest h.gathering;
    }

    pub gathering_rest : (x : ℕ) (own all more less : List ℕ) (stamps : Stamps) → more ≡ less → IsGatheringIn p t kind c x own stamps all more → IsGatheringIn p t kind c x own stamps all less
    gathering_rest x own all more less stamps same h = subst (λ xs. IsGatheringIn p t kind c x own stamps all xs) same h

    pub gathered_all : (x : ℕ) (own all : List ℕ) (stamps : Stamps) → IsGatheringIn p t kind c x own stamps all [] → ListsEach all (IsHeldAs p t kind c x)
    gathered_all x own all stamps h = gathering_end p t tree (name_tells p) kind c x all h.gathering

    pub can_gather : (named : Named) (stamps : Stamps) → CanAddTo p t supers kind named stamps c → CanGather p t supers kind named c
    can_gather named stamps h = record { declared_is = h.can.declared_is; all = h.can.all; near = h.can.near; ready = h.ready }

    -- ---- lists are added

    pub list_there : (x : ℕ) (named : Named) (stamps : Stamps) → CanAddTo p t supers kind named stamps c → has_list named.lists c x ≡ true → AddsList p t supers kind c x named named stamps
    list_there x named stamps h some = record { can = h.can; keeps = keeps_itself p t (links_of supers) kind named.lists h.can.all; told = h.can.all.whole c x some }

    pub list_added : (x : ℕ) (named new : Named) (old stamps : Stamps) (all : List ℕ) → CanAddTo p t supers kind named old c → new.declared ≡ named.declared → new.nearest ≡ named.nearest → new.lists ≡ named.lists ++ entries_for c x all → has_list named.lists c x ≡ false
        → ListsEach all (IsHeldAs p t kind c x) → IsStamping stamps (length p) → AddsList p t supers kind c x named new stamps
    list_added x named new old stamps all h same near_is is none listed counted = let keeps = subst (λ l. KeepsLists p t (links_of supers) kind named.lists l) (sym is) (keeps_more p t (links_of supers) kind named.lists c x all listed none h.can.all) in record {
      can = record { declared_is = subst (λ d. AreDeclared p kind d) (sym same) h.can.declared_is; all = keeps.all; near = subst (λ n. AreNear p t kind new.lists n) (sym near_is) (near_kept p t (links_of supers) kind named.lists new.lists named.nearest keeps h.can.near); counted = counted };
      keeps = keeps;
      told = subst (λ l. IsTold p t kind l c x) (sym is) (new_told p t (links_of supers) kind named.lists c x all listed);
    }

    pub adding_start : (named : Named) (stamps : Stamps) (rows : List ℕ) → CanAddTo p t supers kind named stamps c → Lists rows (IsWantedAs p t (links_of supers) kind c) → IsAddingLists p t supers kind c rows named named stamps
    adding_start named stamps rows h wanted = record {
      can = h;
      listing = listing_start p t right.well.headed (tables supers.above) right.above.above kind c named.lists rows h.can.all wanted;
      wanted = λ d k. (wanted d).0 k;
    }

    pub adding_next : (old was new : Named) (stamps now : Stamps) (rows rest : List ℕ) (d x : ℕ) → rows ≡ d ∷ rest → IsAddingLists p t supers kind c rows old was stamps → x ≡ name_row p d → AddsList p t supers kind c x was new now
        → IsAddingLists p t supers kind c rest old new now
    adding_next old was new stamps now rows rest d x is h called k = record {
      can = record { can = k.can; ready = λ s y up on. k.keeps.done y (h.can.ready s y up on) };
      listing = listing_next p t right.well.headed (tables supers.above) right.above.above kind c old.lists rows rest d was.lists new.lists is h.listing k.keeps (subst (λ x. IsTold p t kind new.lists c x) called k.told);
      wanted = λ e a. h.wanted e (rest_in d e rest rows is a);
    }

    pub adding_end : (old new : Named) (stamps : Stamps) (rest : List ℕ) → rest ≡ [] → IsAddingLists p t supers kind c rest old new stamps → AddsLists p t supers kind c old new stamps
    adding_end old new stamps rest none h = record {
      can = h.can.can;
      keeps = h.listing.keeps;
      done = listing_end p t right.well.headed (tables supers.above) right.above.above kind c old.lists rest new.lists none h.listing;
      told = λ d k. ⊎_elim (λ a. a) (λ a. absurd (none_in d rest none a)) (h.listing.told d k);
    }

    -- c has lists for the names of the rows for which it wants them
    pub type_is_listed : (old new : Named) (stamps : Stamps) (rows : List ℕ) → AddsLists p t supers kind c old new stamps → Lists rows (IsWantedAs p t (links_of supers) kind c) → IsListed p t kind new.lists (up_at (links_of supers) c) c rows
    type_is_listed old new stamps rows h wanted = record {
      all = h.can.all;
      told = λ e among. h.told e ((wanted e).0 among);
      below = record { each = λ e among. wanted_below kind c e ((wanted e).0 among) };
      others = λ x apart. from_up p t right.well.headed (tables supers.above) right.above.above kind c x (name_tells p) (λ e k. apart e ((wanted e).1 k));
    }

    -- c is known besides
    pub type_added : (old new last : Named) (stamps : Stamps) → AddsLists p t supers kind c old new stamps → last.declared ≡ new.declared → last.lists ≡ new.lists → AreNear p t kind new.lists last.nearest → AddsType p t supers kind c old last stamps
    type_added old new last stamps h same is near = record {
      can = record { declared_is = subst (λ d. AreDeclared p kind d) (sym same) h.can.declared_is; all = subst (λ l. AreLists p t kind l) (sym is) h.can.all; near = subst (λ l. AreNear p t kind l last.nearest) (sym is) near; counted = h.can.counted };
      keeps = subst (λ l. KeepsLists p t (links_of supers) kind old.lists l) (sym is) h.keeps;
      done = subst (λ l. IsDone p t (links_of supers) kind l c) (sym is) h.done;
    }

  -- ---- all types

  module _ (kind : MemberKind) where
    pub types_start : (named : Named) (stamps : Stamps) (order : List ℕ) → CanAdd p t kind named stamps → named.lists ≡ [] → order ≡ supers.order.items → IsAddingTypes p t supers kind order named stamps
    types_start named stamps order h none is = record {
      can = h;
      done = done_start p t right.well.headed (tables supers.above) right.above.above kind supers.direct.supers right.direct order named.lists none (subst (λ xs. IsOrderOf p supers.direct.supers xs) (sym is) right.order);
    }

    pub types_ready : (named : Named) (stamps : Stamps) (rest more : List ℕ) (c : ℕ) → more ≡ c ∷ rest → IsAddingTypes p t supers kind more named stamps → CanAddTo p t supers kind named stamps c
    types_ready named stamps rest more c is h = record {
      can = h.can;
      ready = next_ready p t right.well.headed (tables supers.above) right.above.above kind supers.direct.supers right.direct rest more c named.lists is h.done;
    }

    pub types_next : (old new : Named) (stamps now : Stamps) (rest more : List ℕ) (c : ℕ) → more ≡ c ∷ rest → IsAddingTypes p t supers kind more old stamps → AddsType p t supers kind c old new now → IsAddingTypes p t supers kind rest new now
    types_next old new stamps now rest more c is h k = record {
      can = k.can;
      done = done_next p t right.well.headed (tables supers.above) right.above.above kind supers.direct.supers right.direct rest more c old.lists new.lists is h.done k.keeps k.done;
    }

    pub types_end : (named : Named) (stamps : Stamps) (rest : List ℕ) → rest ≡ [] → IsAddingTypes p t supers kind rest named stamps → AddsAll p t supers kind named stamps
    types_end named stamps rest none h = record {
      named_is = record {
        declared_is = h.can.declared_is;
        all = h.can.all;
        near = h.can.near;
        done = done_end p t right.well.headed (tables supers.above) right.above.above kind supers.direct.supers right.direct rest named.lists none h.done;
      };
      counted = h.can.counted;
    }
