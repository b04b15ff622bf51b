-- What a type declares and inherits under one name.
use Rattle.std.proofs.Common.{◌≡◌, ◌⊎◌, refl, sym, ◌∙◌, ap, subst, inl, inr, ⊎_elim, arith, ℕ, ◌<◌, Bool, true, false, not, cond, ◌&&◌, ◌||◌, List, [], ◌∷◌, ◌++◌, filter, length, Option, Some, None, nat_eq, nat_lt, Decides}
use Rattle.std.specs.List.{list_any}
use Rattle.std.proofs.lemmas.Bool.{false≢true, or_left, or_right, or_cases}
use Rattle.std.proofs.lemmas.Bool.Decides.{Decides-eqb}
use Rattle.jr_tree.specs.declared.label.Role.TheVariants as role
use Rattle.jr_tree.specs.Rows.{Rows, name, role_at}
use Rattle.jr_tree.specs.Tree.{IsTree}
use Rattle.jr_defs.specs.Referents.{Table}
use Rattle.jr_defs.specs.Enclosing.{DeclaredIn}
use Rattle.jr_defs.specs.Supertypes.{Super}
use Rattle.jr_defs.specs.Types.{SameSignature}
use Rattle.jr_defs.specs.Members.{Replaces, IsLeft, CanInherit, Passes}
use Rattle.jr_plain.specs.Search.{has, Lists}
use Rattle.jr_plain.specs.Types.{is_same_signature}
use Rattle.jr_plain.proofs.Tests.{always, both, opposite, like}
use Rattle.jr_plain.proofs.Searches.{some_of, among_filter}
use Rattle.jr_plain.proofs.Membership.{can_inherit_tells, passes_tells}
use Rattle.jr_plain.proofs.Typed.{signature_tells}
use Rattle.jr_places.specs.declared.chains.Entry.{Entry}
use Rattle.jr_places.specs.Names.{name_row}
use Rattle.jr_members.specs.declared.declared.MemberKind.{MemberKind}
use Rattle.jr_members.specs.declared.declared.MemberKind.TheVariants as kind
use Rattle.jr_members.specs.declared.named.Way.{Way}
use Rattle.jr_members.specs.Held.{role_of_kind, Holds, IsOf, IsDeclaredAs, IsHeldAs, IsInheritedFrom}
use Rattle.jr_members.specs.Each.{StandOnce, ListsEach, with_each}
use Rattle.jr_members.specs.Named.{under, carries, AreLists, IsNearest}
use Rattle.jr_members.specs.Gathered.{is_left_by, inherits, IsGathering}
use Rattle.jr_members.proofs.Each.{has_front, rest_has, each_has, stand_filter, stand_each}
use Rattle.jr_members.proofs.Heritage.{replaced_alike}
use Rattle.jr_members.proofs.Climbing.{carried_tells}

nearest_has : (p : Rows) (t : Table) (kind : MemberKind) (lists : List Entry) (c x : ℕ) (way : Way) (found : List ℕ) → IsNearest p t kind lists c x way → found ≡ filter (carries p way) (under lists way.here x) → Lists found (IsHeldAs p t kind c x)
nearest_has p t kind lists c x way found near is d = subst (λ xs. Decides (has xs d) (IsHeldAs p t kind c x d)) (sym is) (like (among_filter nat_eq Decides-eqb (carries p way) (under lists way.here x) d)
    (λ h. subst (λ e. IsHeldAs p t kind e x d) near.from_is (near.is.into d ((near.listed d).0 h.0) ((carried_tells p way d).0 h.1)))
    (λ k. let o = near.is.out d (subst (λ e. IsHeldAs p t kind e x d) (sym near.from_is) k) in ((near.listed d).1 o.0, (carried_tells p way d).1 o.1)))

-- what the way carries of the nearest list is what the first type has under the name
pub nearest_listed : (p : Rows) (t : Table) (kind : MemberKind) (lists : List Entry) (c x : ℕ) (way : Way) (found : List ℕ) → AreLists p t kind lists → IsNearest p t kind lists c x way → found ≡ filter (carries p way) (under lists way.here x)
    → ListsEach found (IsHeldAs p t kind c x)
nearest_listed p t kind lists c x way found all near is = record {
  once = subst StandOnce (sym is) (stand_filter (carries p way) (under lists way.here x) (all.once way.here x));
  lists = nearest_has p t kind lists c x way found near is;
}

module _ (p : Rows) (t : Table) (tree : IsTree p) (alike : (e d : ℕ) → Decides (nat_eq (name_row p e) (name_row p d)) (name p e ≡ name p d)) where
  same_name : (e d : ℕ) → name_row p e ≡ name_row p d → name p e ≡ name p d
  same_name e d h = (alike e d).0 ((Decides-eqb (name_row p e) (name_row p d)).1 h)

  name_same : (e d : ℕ) → name p e ≡ name p d → name_row p e ≡ name_row p d
  name_same e d h = (Decides-eqb (name_row p e) (name_row p d)).0 ((alike e d).1 h)

  module _ (c x : ℕ) (own : List ℕ) where
    replaces_own : (kind : MemberKind) (e d : ℕ) → Lists own (IsDeclaredAs p kind c x) → IsOf p kind x d → DeclaredIn p c e → Replaces p t e d → has own e ≡ true
    replaces_own kind e d listed of declared h = let same = replaced_alike p t e d h in
        (listed e).1 (record { of = record { role_is = same.0 ∙ of.role_is; named = name_same e d same.1 ∙ of.named }; declared = declared })

    pub left_tells : (kind : MemberKind) (d : ℕ) → Lists own (IsDeclaredAs p kind c x) → IsOf p kind x d → Decides (is_left_by p t kind own d) (IsLeft p t c d)
    left_tells kind.Field d listed of = like (opposite (some_of (λ e. true) (λ e. Unit {0}) (λ e. always) own listed))
        (λ none e declared h. none (e, (listed e).0 (replaces_own kind.Field e d listed of declared h), tt))
        (λ left k. left k.0 k.1.declared (Replaces.field (record { first = k.1.of.role_is; second = of.role_is; named = same_name k.0 d (k.1.of.named ∙ sym of.named) })))
    left_tells kind.Type d listed of = like (opposite (some_of (λ e. true) (λ e. Unit {0}) (λ e. always) own listed))
        (λ none e declared h. none (e, (listed e).0 (replaces_own kind.Type e d listed of declared h), tt))
        (λ left k. left k.0 k.1.declared (Replaces.type (record { first = k.1.of.role_is; second = of.role_is; named = same_name k.0 d (k.1.of.named ∙ sym of.named) })))
    left_tells kind.Method d listed of = like (opposite (some_of (λ e. is_same_signature p t e d) (λ e. SameSignature p t e d) (λ e. signature_tells p t e d tree) own listed))
        (λ none e declared h. none (e, (listed e).0 (replaces_own kind.Method e d listed of declared h), signed e h))
        (λ left k. left k.0 k.1.declared (Replaces.method (record { first = k.1.of.role_is; second = of.role_is; signature = k.2 })))
      where
        signed : (e : ℕ) → Replaces p t e d → SameSignature p t e d
        signed e (Replaces.field h) = let a : role.Field ≡ role.Method = sym h.second ∙ of.role_is in cc
        signed e (Replaces.type h) = let a : role.Type ≡ role.Method = sym h.second ∙ of.role_is in cc
        signed e (Replaces.method h) = h.signature

    pub inherits_tells : (kind : MemberKind) (s d : ℕ) → Lists own (IsDeclaredAs p kind c x) → IsOf p kind x d → Decides (inherits p t kind own c s d) (Passes p s d × (CanInherit p c d × IsLeft p t c d))
    inherits_tells kind s d listed of = both (passes_tells p s d) (both (can_inherit_tells p c d) (left_tells kind d listed of))

    -- ---- what all supertypes have

    module _ (kind : MemberKind) (listed : Lists own (IsDeclaredAs p kind c x)) where
      pub gathering_start : (all supers : List ℕ) → all ≡ with_each [] own → Lists supers (Super p t c) → IsGathering p t kind c x all supers
      gathering_start all supers is above = record {
        sound = λ d h. let k = (listed d).0 (⊎_elim (λ n. absurd (false≢true n)) (λ a. a) ((has_all d).0 h)) in record { of = k.of; held = Holds.declared k.declared };
        own = λ d h. (has_all d).1 (inr ((listed d).1 h));
        told = λ s d up h. inr ((above s).1 up);
        supers = λ s h. (above s).0 h;
        once = subst StandOnce (sym is) (stand_each own [] tt);
      }
        where
          has_all : (d : ℕ) → Decides (has all d) ((has [] d ≡ true) ⊎ (has own d ≡ true))
          has_all d = subst (λ xs. Decides (has xs d) ((has [] d ≡ true) ⊎ (has own d ≡ true))) (sym is) (each_has own [] d)

      -- what c inherits from one more
      module _ (s : ℕ) (up : Super p t c s) (found some all more : List ℕ) (held : Lists found (IsHeldAs p t kind s x)) (some_is : some ≡ filter (inherits p t kind own c s) found) (more_is : more ≡ with_each all some) where
        some_has : (d : ℕ) → Decides (has some d) ((has found d ≡ true) × (inherits p t kind own c s d ≡ true))
        some_has d = subst (λ xs. Decides (has xs d) ((has found d ≡ true) × (inherits p t kind own c s d ≡ true))) (sym some_is) (among_filter nat_eq Decides-eqb (inherits p t kind own c s) found d)

        more_has : (d : ℕ) → Decides (has more d) ((has all d ≡ true) ⊎ (has some d ≡ true))
        more_has d = subst (λ xs. Decides (has xs d) ((has all d ≡ true) ⊎ (has some d ≡ true))) (sym more_is) (each_has some all d)

        held_more : (d : ℕ) → has some d ≡ true → IsHeldAs p t kind c x d
        held_more d h = let k = (some_has d).0 h in let of = (held d).0 k.0 in let i = (inherits_tells kind s d listed of.of).0 k.1 in
            record { of = of.of; held = Holds.inherited up of.held i.0 i.1.0 i.1.1 }

        more_held : (d : ℕ) → IsInheritedFrom p t kind c s x d → has some d ≡ true
        more_held d h = (some_has d).1 ((held d).1 h.held, (inherits_tells kind s d listed h.held.of).1 (h.passes, (h.inherits, h.left)))

        pub gathering_more : (rest : List ℕ) → IsGathering p t kind c x all (s ∷ rest) → IsGathering p t kind c x more rest
        gathering_more rest h = record {
          sound = λ d k. ⊎_elim (λ a. h.sound d a) (λ a. held_more d a) ((more_has d).0 k);
          own = λ d k. (more_has d).1 (inl (h.own d k));
          told = λ e d a k. ⊎_elim (λ b. inl ((more_has d).1 (inl b))) (λ b. ⊎_elim (λ same. inl ((more_has d).1 (inr (more_held d (subst (λ e. IsInheritedFrom p t kind c e x d) (sym same) k))))) (λ b. inr b) (has_front s e rest b)) (h.told e d a k);
          supers = λ e k. h.supers e (rest_has s e rest k);
          once = subst StandOnce (sym more_is) (stand_each some all h.once);
        }

  pub gathering_end : (kind : MemberKind) (c x : ℕ) (all : List ℕ) → IsGathering p t kind c x all [] → ListsEach all (IsHeldAs p t kind c x)
  gathering_end kind c x all h = record { once = h.once; lists = λ d. (h.sound d, λ k. by d k.of k.held) }
    where
      by : (d : ℕ) → IsOf p kind x d → Holds p t c d → has all d ≡ true
      by d of (Holds.declared k) = h.own d (record { of = of; declared = k })
      by d of (Holds.inherited {s = s} up k passes inherits left) = ⊎_elim (λ a. a) (λ a. absurd (false≢true a))
          (h.told s d up (record { held = record { of = of; held = k }; passes = passes; inherits = inherits; left = left }))
