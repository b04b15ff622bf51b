-- Types get their lists one at a time, behind their supertypes.
use Rattle.std.proofs.Common.{◌≡◌, ◌⊎◌, refl, sym, ◌∙◌, ap, subst, inl, inr, ⊎_elim, arith, ℕ, ◌<◌, Bool, true, false, List, [], ◌∷◌, ◌++◌, length, Option, Some, None, nat_eq, Decides}
use Rattle.std.proofs.lemmas.Bool.{false≢true, false_from_ne_true, cases_eq}
use Rattle.std.proofs.lemmas.Bool.Decides.{Decides-eqb}
use Rattle.jr_tree.specs.Rows.{Rows, name}
use Rattle.jr_defs.specs.Referents.{Table}
use Rattle.jr_defs.specs.Declarations.{IsType}
use Rattle.jr_defs.specs.Enclosing.{DeclaredIn}
use Rattle.jr_defs.specs.Supertypes.{Super}
use Rattle.jr_defs.specs.Members.{IsLeft, CanInherit, Passes}
use Rattle.jr_plain.specs.Search.{has, Lists}
use Rattle.jr_plain.specs.Headed.{IsHeaded}
use Rattle.jr_plain.proofs.Tests.{decide}
use Rattle.jr_plain.proofs.Declared.{type_tells}
use Rattle.jr_plain.proofs.Supertyped.{super_source}
use Rattle.jr_places.specs.declared.chains.Entry.{Entry}
use Rattle.jr_places.specs.Names.{name_row}
use Rattle.jr_supers.specs.Above.{Tables, up_at, OnChain, AreAbove}
use Rattle.jr_supers.specs.Direct.{HasSupers}
use Rattle.jr_supers.specs.Order.{IsSuperIn, AreBehind, IsOrderOf}
use Rattle.jr_supers.proofs.Chained.{rises}
use Rattle.jr_members.specs.declared.declared.MemberKind.{MemberKind}
use Rattle.jr_members.specs.Held.{Holds, IsOf, IsDeclaredAs, IsHeldAs}
use Rattle.jr_members.specs.Named.{under, IsTold, AreLists, IsDone}
use Rattle.jr_members.specs.Gathered.{is_the, IsNaming, IsWantedAs, IsReady, KeepsLists, IsListing, AreDone}
use Rattle.jr_members.specs.Nearest.{IsFromUp}
use Rattle.jr_members.proofs.Heritage.{replaced_alike, held_declared, held_source}
use Rattle.jr_members.proofs.Keyed.{keeps_itself, keeps_then}
use Rattle.jr_members.proofs.Each.{has_front, front_has, rest_has, front_in, none_in}

module _ (p : Rows) (t : Table) (headed : IsHeaded p) (T : Tables) (A : AreAbove p t T) (kind : MemberKind) where
  -- what is no type has no members
  pub done_apart : (lists : List Entry) (y : ℕ) → (IsType p y → ⊥) → IsDone p t T.links kind lists y
  done_apart lists y apart = record {
    own = λ x d k. absurd (apart k.declared.inside.type);
    held = λ x d k. absurd (apart (held_source p t headed y d k.held));
  }

  -- ---- one type

  -- under a name that no type declares for which c has lists, it has what it inherits from the one above it
  module _ (c x : ℕ) (alike : (e d : ℕ) → Decides (nat_eq (name_row p e) (name_row p d)) (name p e ≡ name p d)) (none : (e : ℕ) → IsWantedAs p t T.links kind c e → name_row p e ≡ x → ⊥) where
    never : (d e : ℕ) → IsOf p kind x d → IsNaming p t T.links c e → DeclaredIn p e d → ⊥
    never d e of naming declared = none d (record { role_is = of.role_is; holder = e; naming = naming; declared = declared }) of.named

    up_out : (d : ℕ) → IsOf p kind x d → Holds p t c d → (u : ℕ) × (up_at T.links c ≡ Some u) × IsHeldAs p t kind u x d × Passes p u d × CanInherit p c d
    up_out d of (Holds.declared h) = absurd (never d c of IsNaming.own h)
    up_out d of (Holds.inherited {s = s} up more passes inherits left) = first (up_at T.links c) refl
      where
        further : (o : Option ℕ) → up_at T.links c ≡ o → is_the o s ≡ false → ⊥
        further o e apart = let k = held_declared p t s d more in never d k.0 of (IsNaming.further up (subst (λ o. is_the o s ≡ false) (sym e) apart) k.1) k.2

        first : (o : Option ℕ) → up_at T.links c ≡ o → (u : ℕ) × (up_at T.links c ≡ Some u) × IsHeldAs p t kind u x d × Passes p u d × CanInherit p c d
        first None e = absurd (further None e refl)
        first (Some u) e = ⊎_elim (λ same. (s, e ∙ ap Some same, record { of = of; held = more }, passes, inherits))
            (λ apart. absurd (further (Some u) e (false_from_ne_true (nat_eq u s) (λ k. apart ((Decides-eqb u s).0 k))))) (cases_eq u s)

    up_left : (d : ℕ) → IsOf p kind x d → IsLeft p t c d
    up_left d of e declared h = let same = replaced_alike p t e d h in
        never e c (record { role_is = same.0 ∙ of.role_is; named = (Decides-eqb (name_row p e) (name_row p d)).0 ((alike e d).1 same.1) ∙ of.named }) IsNaming.own declared

    pub from_up : IsFromUp p t kind (up_at T.links c) c x
    from_up = record {
      out = λ d h. up_out d h.of h.held;
      into = λ u d up h passes inherits. record { of = h.of; held = Holds.inherited (rises p t T A c u up).6 h.held passes inherits (up_left d h.of) };
    }

  module _ (c : ℕ) (old : List Entry) where
    pub listing_start : (rows : List ℕ) → AreLists p t kind old → Lists rows (IsWantedAs p t T.links kind c) → IsListing p t T.links kind c rows old old
    listing_start rows all wanted = record { keeps = keeps_itself p t T.links kind old all; told = λ d k. inr ((wanted d).1 k) }

    -- the list of the next name is there
    pub listing_next : (rows rest : List ℕ) (d : ℕ) (lists more : List Entry) → rows ≡ d ∷ rest → IsListing p t T.links kind c rows old lists → KeepsLists p t T.links kind lists more → IsTold p t kind more c (name_row p d)
        → IsListing p t T.links kind c rest old more
    listing_next rows rest d lists more is h keeps now = record {
      keeps = keeps_then p t T.links kind old lists more h.keeps keeps;
      told = λ e k. ⊎_elim (λ a. inl (keeps.told c (name_row p e) a)) (λ a. ⊎_elim (λ same. inl (subst (λ e. IsTold p t kind more c (name_row p e)) same now)) (λ a. inr a) (front_in d e rest rows is a)) (h.told e k);
    }

    listing_done : (lists : List Entry) → ((d : ℕ) → IsWantedAs p t T.links kind c d → IsTold p t kind lists c (name_row p d)) → IsDone p t T.links kind lists c
    listing_done lists told = record {
      own = own;
      held = λ x d k. by x d k.of k.held;
    }
      where
        now : (x d e : ℕ) → IsOf p kind x d → IsNaming p t T.links c e → DeclaredIn p e d → Holds p t c d → has (under lists c x) d ≡ true
        now x d e of naming declared held = subst (λ x. has (under lists c x) d ≡ true) of.named
            (told d (record { role_is = of.role_is; holder = e; naming = naming; declared = declared }) d (record { of = record { role_is = of.role_is; named = refl }; held = held }))

        own : (x d : ℕ) → IsDeclaredAs p kind c x d → has (under lists c x) d ≡ true
        own x d k = now x d c k.of IsNaming.own k.declared (Holds.declared k.declared)

        by : (x d : ℕ) → IsOf p kind x d → Holds p t c d → (has (under lists c x) d ≡ true) ⊎ ((u : ℕ) × (up_at T.links c ≡ Some u) × IsHeldAs p t kind u x d × Passes p u d × CanInherit p c d)
        by x d of (Holds.declared h) = inl (own x d (record { of = of; declared = h }))
        by x d of (Holds.inherited {s = s} up more passes inherits left) = first (up_at T.links c) refl
          where
            further : (o : Option ℕ) → up_at T.links c ≡ o → is_the o s ≡ false → has (under lists c x) d ≡ true
            further o e apart = let k = held_declared p t s d more in now x d k.0 of (IsNaming.further up (subst (λ o. is_the o s ≡ false) (sym e) apart) k.1) k.2 (Holds.inherited up more passes inherits left)

            first : (o : Option ℕ) → up_at T.links c ≡ o → (has (under lists c x) d ≡ true) ⊎ ((u : ℕ) × (up_at T.links c ≡ Some u) × IsHeldAs p t kind u x d × Passes p u d × CanInherit p c d)
            first None e = inl (further None e refl)
            first (Some u) e = ⊎_elim (λ same. inr (s, e ∙ ap Some same, record { of = of; held = more }, passes, inherits))
                (λ apart. inl (further (Some u) e (false_from_ne_true (nat_eq u s) (λ k. apart ((Decides-eqb u s).0 k))))) (cases_eq u s)

    pub listing_end : (rest : List ℕ) (lists : List Entry) → rest ≡ [] → IsListing p t T.links kind c rest old lists → IsDone p t T.links kind lists c
    listing_end rest lists none h = listing_done lists (λ d k. ⊎_elim (λ a. a) (λ a. absurd (none_in d rest none a)) (h.told d k))

  -- ---- all types

  module _ (supers : List Entry) (listed : HasSupers p t supers) where
    -- the types up from one whose supertypes are done are done
    chain_done : (done : List ℕ) (lists : List Entry) → ((y : ℕ) → has done y ≡ true → IsDone p t T.links kind lists y) → ((y s : ℕ) → has done y ≡ true → IsSuperIn supers y s → IsType p s → has done s ≡ true)
        → (s y : ℕ) → OnChain T.links s y → (IsType p s → has done s ≡ true) → IsDone p t T.links kind lists y
    chain_done done lists each closed s _ OnChain.here there = ⊎_elim (λ type. each s (there type)) (λ apart. done_apart lists s apart) (decide (type_tells p s))
    chain_done done lists each closed s y (OnChain.over {u = u} e on) there = let r = rises p t T A s u e in
        chain_done done lists each closed u y on (λ type. closed s u (there (super_source p t headed s u r.6)) ((listed.each s u).1 r.6) type)

    pub done_start : (order : List ℕ) (lists : List Entry) → lists ≡ [] → IsOrderOf p supers order → AreDone p t T.links supers kind order lists
    done_start order lists none h = record {
      done = [];
      all = subst (λ l. AreLists p t kind l) (sym none) (record { sound = λ c x d k. absurd (false≢true k); whole = λ c x k. absurd (false≢true k); once = λ c x. tt });
      each = λ y k. absurd (false≢true k);
      closed = λ y s k. absurd (false≢true k);
      behind = h.behind;
      whole = λ y type. inr (h.all y type);
    }

    pub next_ready : (rest more : List ℕ) (c : ℕ) (lists : List Entry) → more ≡ c ∷ rest → AreDone p t T.links supers kind more lists → IsReady p t T.links kind lists c
    next_ready rest more c lists is h s y up on = let b : AreBehind p supers h.done (c ∷ rest) = subst (λ xs. AreBehind p supers h.done xs) is h.behind in
        chain_done h.done lists h.each h.closed s y on (λ type. b.1 s ((listed.each c s).1 up) type)

    pub done_next : (rest more : List ℕ) (c : ℕ) (lists now : List Entry) → more ≡ c ∷ rest → AreDone p t T.links supers kind more lists → KeepsLists p t T.links kind lists now → IsDone p t T.links kind now c
        → AreDone p t T.links supers kind rest now
    done_next rest more c lists now is h keeps new = let b : AreBehind p supers h.done (c ∷ rest) = subst (λ xs. AreBehind p supers h.done xs) is h.behind in record {
      done = c ∷ h.done;
      all = keeps.all;
      each = λ y k. ⊎_elim (λ same. subst (λ y. IsDone p t T.links kind now y) same new) (λ k. keeps.done y (h.each y k)) (has_front c y h.done k);
      closed = λ y s k up type. rest_has c s h.done (⊎_elim (λ same. b.1 s (subst (λ y. IsSuperIn supers y s) (sym same) up) type) (λ k. h.closed y s k up type) (has_front c y h.done k));
      behind = b.2;
      whole = λ y type. ⊎_elim (λ k. inl (rest_has c y h.done k)) (λ k. ⊎_elim (λ same. inl (subst (λ y. has (c ∷ h.done) y ≡ true) same (front_has c h.done))) (λ k. inr k) (front_in c y rest more is k)) (h.whole y type);
    }

    pub done_end : (rest : List ℕ) (lists : List Entry) → rest ≡ [] → AreDone p t T.links supers kind rest lists → (y : ℕ) → IsDone p t T.links kind lists y
    done_end rest lists none h y = ⊎_elim (λ type. ⊎_elim (λ k. h.each y k) (λ k. absurd (false≢true (subst (λ xs. has xs y ≡ true) none k))) (h.whole y type)) (λ apart. done_apart lists y apart) (decide (type_tells p y))
