-- What a type finds of the nearest types with lists, from what the type above it finds.
use Rattle.std.proofs.Common.{◌≡◌, ◌⊎◌, refl, sym, ◌∙◌, ap, subst, inl, inr, ⊎_elim, arith, ℕ, zero, suc, ◌<◌, ◌≤◌, Bool, true, false, not, cond, ◌&&◌, ◌||◌, List, [], ◌∷◌, length, Option, Some, None, nat_eq, Decides}
use Rattle.std.proofs.lemmas.Bool.{false≢true, false_from_ne_true, cond_both, or_left, or_right, or_cases, and_from, and_parts, cases_eq, cond-true, cond-false}
use Rattle.std.proofs.lemmas.Bool.Decides.{Decides-eqb}
use Rattle.std.specs.Prelude.{IfSome}
use Rattle.std.proofs.lemmas.Option.{none-some, same_Some}
use Rattle.jr_tree.specs.declared.label.Label.TheVariants as is
use Rattle.jr_tree.specs.declared.label.Role.{Role}
use Rattle.jr_tree.specs.declared.label.Role.TheVariants as role
use Rattle.jr_tree.specs.Labels.{role_of}
use Rattle.jr_tree.specs.Rows.{Rows, label, parent, end, role_at}
use Rattle.jr_tree.specs.Local.{IsLocal}
use Rattle.jr_defs.specs.Referents.{Table}
use Rattle.jr_defs.specs.Enclosing.{DeclaredIn, IsMemberRole, holder}
use Rattle.jr_defs.specs.Members.{CanInherit, Passes}
use Rattle.jr_defs.specs.Modifiers.{IsPublic, IsProtected, IsPrivate, InInterface}
use Rattle.jr_defs.specs.Packages.{InUnit, InPackage, SamePackage}
use Rattle.jr_defs.proofs.Units.{unit_there, unit_parent}
use Rattle.jr_plain.specs.Search.{has}
use Rattle.jr_plain.specs.Declarations.{is_interface}
use Rattle.jr_plain.specs.Packages.{is_same_package}
use Rattle.jr_plain.proofs.Declared.{interface_tells}
use Rattle.jr_plain.proofs.Packaged.{same_package_tells}
use Rattle.jr_places.specs.declared.chains.Entry.{Entry}
use Rattle.jr_members.specs.declared.declared.MemberKind.{MemberKind}
use Rattle.jr_members.specs.declared.named.Way.{Way}
use Rattle.jr_members.specs.declared.nearest.Lister.{Lister}
use Rattle.jr_members.specs.declared.nearest.Nearest.{Nearest}
use Rattle.jr_members.specs.declared.nearest.Node.{Node}
use Rattle.jr_members.specs.declared.nearest.Outlook.{Outlook}
use Rattle.jr_members.specs.declared.nearest.Runs.{Runs}
use Rattle.jr_supers.specs.declared.above.Link.{Link}
use Rattle.jr_places.specs.Names.{name_row}
use Rattle.jr_members.specs.Held.{Holds, IsHeldAs}
use Rattle.jr_members.specs.Named.{IsTold, AreLists, IsCarried, IsNearest, way_from}
use Rattle.jr_members.specs.Gathered.{KeepsLists}
use Rattle.jr_members.specs.Nearest.{seek, IsIn, IsClosed, Keeps, Sets, known_in, runs_at, runs_below, outlook_below, first_outlook, way_to, IsKnown, AreKnown, IsLister, IsSought, IsOutlook, AreNearBy, AreNear, IsBlank, lister_of, IsGrownAt, IsGrowing, IsGrown, Grows, IsFromUp, IsListed}
use Rattle.jr_members.proofs.Climbing.{same_back, same_then}
use Rattle.jr_members.proofs.Each.{front_in, none_in}
use Rattle.jr_members.proofs.Trees.{keeps_itself, keeps_then, seek_none, itself_same}

module _ (p : Rows) (local : IsLocal p) where
  -- ---- packages

  -- the unit that holds a row holds the row above it, if it is not itself the row
  unit_up : (u n : ℕ) → InUnit p u n → (u ≡ n → ⊥) → InUnit p u (parent p n)
  unit_up u n h apart = let from = h.from in let before = h.before in let side : (u ≡ n) ⊎ (u < n) = grind arith in ⊎_elim (λ same. absurd (apart same))
      (λ lt. let last = local.tree.last u (unit_there p local u h.unit) in let le = local.tree.inner u n lt before in let up = local.tree.up n (omega arith) (omega arith) in
      record { unit = h.unit; from = le; before = omega arith }) side

  no_role : (u d : ℕ) → label p u ≡ is.Unit → u ≡ d → role_at p d ≡ role.Nothing
  no_role u d unit same = ap role_of (ap (label p) (sym same) ∙ unit)

  unit_round : (u c d : ℕ) → InUnit p u d → DeclaredIn p c d → InUnit p u c
  unit_round u c d h declared = subst (λ c. InUnit p u c) declared.inside.inside (unit_up u (holder (role_at p d) p d) (by (role_at p d) refl declared.member) not_body)
    where
      not_member : u ≡ d → ⊥
      not_member same = subst IsMemberRole (no_role u d h.unit same) declared.member

      not_body : u ≡ holder (role_at p d) p d → ⊥
      not_body same = let clash : is.Unit ≡ is.Body = sym h.unit ∙ ap (label p) same ∙ declared.inside.body in cc

      by : (r : Role) → role_at p d ≡ r → IsMemberRole r → InUnit p u (holder r p d)
      by role.Field e m = unit_up u (parent p d) (unit_up u d h not_member) (λ same. let body : label p (holder (role_at p d) p d) ≡ is.Body = declared.inside.body in
          let clash : is.Program ≡ is.Body = sym local.program ∙ ap (label p) (sym (ap (parent p) (sym same) ∙ unit_parent p local u h.unit)) ∙ ap (λ r. label p (holder r p d)) (sym e) ∙ body in cc)
      by role.Type e m = unit_up u d h not_member
      by role.Method e m = unit_up u d h not_member
      by _ e m = absurd m

  -- what is of one package with a member is so with the type that declares it
  same_holder : (q c d : ℕ) → SamePackage p q d → DeclaredIn p c d → SamePackage p q c
  same_holder q c d h declared = record { path = h.path; first = h.first; second = record { unit = h.second.unit; holds = unit_round h.second.unit c d h.second.holds declared; has_path = h.second.has_path } }

  abbrev Open : ℕ → ℕ → ℕ → Type 0
  Open q u d = IsPublic p d ⊎ IsProtected p d ⊎ SamePackage p q u

  same_held : (t : Table) (q u d : ℕ) → SamePackage p q d → Holds p t u d → Open q u d
  same_held t q u d h (Holds.declared declared) = inr (inr (same_holder q u d h declared))
  same_held t q u d h (Holds.inherited up more passes inherits left) = ⊎_elim (λ a. inl a) (⊎_elim (λ a. inr (inl a)) (λ a. inr (inr (same_then p local q d u h (same_back p local u d a))))) inherits.reach

  -- ---- one step down

  module _ (t : Table) (kind : MemberKind) (lists : List Entry) (c u x : ℕ) (way : Way) (near : IsNearest p t kind lists u x way) (from : IsFromUp p t kind (Some u) c x) where
    abbrev before : Way
    before = record { from = c; here = way.here; has_steps = true; is_in_one_package = is_same_package p c u && way.is_in_one_package; has_interface = is_interface p u || way.has_interface }

    abbrev Reach : ℕ → Type 0
    Reach d = IsPublic p d ⊎ IsProtected p d ⊎ (((is_same_package p c u && way.is_in_one_package) ≡ true) × SamePackage p c d)

    open_way : (d : ℕ) → IsCarried p way d → Open c u d → SamePackage p c d → Reach d
    open_way d k (inl a) same = inl a
    open_way d k (inr (inl a)) same = inr (inl a)
    open_way d k (inr (inr a)) same = by way.has_steps refl
      where
        both : way.is_in_one_package ≡ true → Reach d
        both one = inr (inr (and_from (is_same_package p c u) way.is_in_one_package ((same_package_tells p c u).1 a) one, same))

        by : (b : Bool) → way.has_steps ≡ b → Reach d
        by false e = both (near.is.starts e).1
        by true e = ⊎_elim (λ a. inl a) (⊎_elim (λ a. inr (inl a)) (λ a. both a.0)) (k e).1.0

    faced : (d : ℕ) → IsCarried p way d → Passes p u d → (is_interface p u || way.has_interface) ≡ true → InInterface p d
    faced d k passes h = ⊎_elim (λ a. passes.from_interface ((interface_tells p u).0 a)) (λ a. by way.has_steps refl a) (or_cases (is_interface p u) way.has_interface h)
      where
        by : (b : Bool) → way.has_steps ≡ b → way.has_interface ≡ true → InInterface p d
        by false e a = absurd (false≢true (sym (near.is.starts e).2 ∙ a))
        by true e a = (k e).1.1 a

    above_out : (d : ℕ) → IsHeldAs p t kind u x d → IsHeldAs p t kind way.here x d × IsCarried p way d
    above_out d h = near.is.out d (subst (λ v. IsHeldAs p t kind v x d) (sym near.from_is) h)

    below_out : (d : ℕ) → IsHeldAs p t kind c x d → IsHeldAs p t kind way.here x d × IsCarried p before d
    below_out d h = let o = from.out d h in let held = subst (λ v. IsHeldAs p t kind v x d) (sym (same_Some u o.0 o.1)) o.2 in let passes = subst (λ v. Passes p v d) (sym (same_Some u o.0 o.1)) o.3 in let k = above_out d held in
        (k.0, λ e. (o.4.open_member, (⊎_elim (λ a. inl a) (⊎_elim (λ a. inr (inl a)) (λ a. open_way d k.1 (same_held t c u d a held.held) a)) o.4.reach, faced d k.1 passes)))

    below_into : (d : ℕ) → IsHeldAs p t kind way.here x d → IsCarried p before d → IsHeldAs p t kind c x d
    below_into d h k = let q = k refl in from.into u d refl (subst (λ v. IsHeldAs p t kind v x d) near.from_is (near.is.into d h carried))
        (record { from_interface = λ i. q.1.1 (or_left (is_interface p u) way.has_interface ((interface_tells p u).1 i)) })
        (record { open_member = q.0; reach = ⊎_elim (λ a. inl a) (⊎_elim (λ a. inr (inl a)) (λ a. inr (inr a.1))) q.1.0 })
      where
        from_above : (is_same_package p c u && way.is_in_one_package) ≡ true → SamePackage p c d → SamePackage p way.from d
        from_above one same = subst (λ v. SamePackage p v d) (sym near.from_is)
            (same_then p local u c d (same_back p local c u ((same_package_tells p c u).0 (and_parts (is_same_package p c u) way.is_in_one_package one).0)) same)

        carried : IsCarried p way d
        carried = λ e. let q = k refl in (
          q.0,
          (
            ⊎_elim (λ a. inl a) (⊎_elim (λ a. inr (inl a)) (λ a. inr (inr ((and_parts (is_same_package p c u) way.is_in_one_package a.0).1, from_above a.0 a.1)))) q.1.0,
            λ i. q.1.1 (or_right (is_interface p u) way.has_interface i),
          ),
        )

    pub near_below : IsNearest p t kind lists c x before
    near_below = record { is = record { starts = λ e. absurd (false≢true (sym e)); out = below_out; into = below_into }; from_is = refl; listed = near.listed }

-- a type with a list
pub near_itself : (p : Rows) (t : Table) (kind : MemberKind) (lists : List Entry) (c x : ℕ) → AreLists p t kind lists → IsTold p t kind lists c x → IsNearest p t kind lists c x (way_from c)
near_itself p t kind lists c x all told = record {
  is = record { starts = λ e. (refl, refl, refl); out = λ d h. (h, λ e. absurd (false≢true e)); into = λ d h k. h };
  from_is = refl;
  listed = λ d. (all.sound c x d, told d);
}

-- ---- names are set

module _ (p : Rows) (c : ℕ) (start : Outlook) (levels : ℕ) (all : List ℕ) (old : List Node) where
  pub grow_start : IsClosed old → IsIn old start.tree → IsGrowing p c start levels all all old old start.tree
  grow_start closed there = record { keeps = keeps_itself old closed; there = there; finds = λ x. inr (λ e a named. a, refl) }

  module _ (rest more : List ℕ) (now new : List Node) (tree : Option ℕ) (d name : ℕ) (h : IsGrowing p c start levels all more old now tree) where
    pub grow_next : (found : ℕ) → more ≡ d ∷ rest → has all d ≡ true → name ≡ name_row p d → Sets levels tree name name (lister_of c start.runs) now new (Some found) → IsGrowing p c start levels all rest old new (Some found)
    grow_next found is among called k = record {
      keeps = keeps_then old now new h.keeps k.keeps;
      there = k.set.there;
      finds = λ x. by x (nat_eq name x) refl;
    }
      where
        by : (x : ℕ) (b : Bool) → nat_eq name x ≡ b → IsGrownAt p c start levels all rest old new (Some found) x
        by x true e = let same = (Decides-eqb name x).0 e in inl (subst (λ y. seek new levels y y (Some found) ≡ Some (lister_of c start.runs)) same k.set.hit, (d, among, sym called ∙ same))
        by x false e = ⊎_elim (λ a. inl (k.set.others levels x x e ∙ a.0, a.1))
            (λ a. inr (λ e among named. ⊎_elim (λ same. absurd (false≢true (sym apart ∙ (Decides-eqb name x).1 (called ∙ ap (name_row p) same ∙ named)))) (λ b. b) (front_in d e rest more is (a.0 e among named)), k.set.others levels x x e ∙ a.1)) (h.finds x)
          where
            apart : nat_eq name x ≡ false
            apart = e

    pub grow_failed : Sets levels tree name name (lister_of c start.runs) now new None → Grows p c start levels all old new None
    grow_failed k = record { keeps = keeps_then old now new h.keeps k.keeps; grown = tt }

  pub grow_end : (rest : List ℕ) (new : List Node) (tree : Option ℕ) (o : Outlook) → rest ≡ [] → o ≡ record { tree = tree; runs = start.runs } → IsGrowing p c start levels all rest old new tree → Grows p c start levels all old new (Some o)
  grow_end rest new tree o none is h = subst (λ o. Grows p c start levels all old new (Some o)) (sym is)
      (record { keeps = h.keeps; grown = record { runs_are = refl; growing = subst (λ r. IsGrowing p c start levels all r old new tree) none h } })

-- ---- one type more

module _ (p : Rows) (local : IsLocal p) (t : Table) (kind : MemberKind) (lists : List Entry) (levels : ℕ) (known : ℕ → Option Outlook) where
  pub near_grown : (old new : List Node) → Keeps old new → AreNearBy p t kind lists levels old known → AreNearBy p t kind lists levels new known
  near_grown old new keeps h = record {
    closed = keeps.closed;
    each = λ y o e. let k = h.each y o e in record {
      there = keeps.there o.tree k.there;
      runs_are = k.runs_are;
      finds = λ x. subst (λ f. IsSought p t kind lists known y x o.runs f) (sym (keeps.same levels x x o.tree k.there)) (k.finds x);
    };
  }

  -- the tree that a type begins with is there
  pub start_in : (nodes : List Node) (c : ℕ) (linked : Option ℕ) (start : Outlook) → AreNearBy p t kind lists levels nodes known → first_outlook p known c linked ≡ Some start → IsIn nodes start.tree
  start_in nodes c None start h e = subst (λ s. IsIn nodes s.tree) (same_Some _ start e) tt
  start_in nodes c (Some u) start h e = by (known u) refl e
    where
      by : (k : Option Outlook) → known u ≡ k → outlook_below p c u k ≡ Some start → IsIn nodes start.tree
      by None up e = absurd (none-some start e)
      by (Some over) up e = subst (λ s. IsIn nodes s.tree) (same_Some _ start e) (h.each u over up).there

  module _ (later : ℕ → Option Outlook) (c : ℕ) (o : Outlook) (updates : (q : ℕ) → later q ≡ cond (nat_eq c q) (Some o) (known q)) (fresh : known c ≡ None) where
    known_new : later c ≡ Some o
    known_new = updates c ∙ cond-true (nat_eq c c) _ _ (itself_same c)

    apart : (q : ℕ) → IsKnown known q → nat_eq c q ≡ false
    apart q k = false_from_ne_true _ (λ e. none-some k.0 (sym fresh ∙ ap known ((Decides-eqb c q).0 e) ∙ k.1))

    still : (q : ℕ) → IsKnown known q → IsKnown later q
    still q k = (k.0, updates q ∙ cond-false (nat_eq c q) _ _ (apart q k) ∙ k.1)

    runs_still : (runs : Runs) → AreKnown known runs → AreKnown later runs
    runs_still runs h = record { of_package = still runs.of_package h.of_package; of_classes = still runs.of_classes h.of_classes }

    sought_still : (y x : ℕ) (runs : Runs) (f : Option Lister) → IsSought p t kind lists known y x runs f → IsSought p t kind lists later y x runs f
    sought_still y x runs None h = h
    sought_still y x runs (Some f) h = record { at = still f.at h.at; runs_are = runs_still f.runs h.runs_are; near = h.near }

    near_known : (nodes : List Node) → AreNearBy p t kind lists levels nodes known → IsOutlook p t kind lists levels nodes later c o → AreNearBy p t kind lists levels nodes later
    near_known nodes h new = record { closed = h.closed; each = λ y r e. by y r e (nat_eq c y) refl }
      where
        by : (y : ℕ) (r : Outlook) → later y ≡ Some r → (b : Bool) → nat_eq c y ≡ b → IsOutlook p t kind lists levels nodes later y r
        by y r e true is = let same = (Decides-eqb c y).0 is in subst (λ y. IsOutlook p t kind lists levels nodes later y r) same
            (subst (λ r. IsOutlook p t kind lists levels nodes later c r) (same_Some o r (sym known_new ∙ ap later same ∙ e)) new)
        by y r e false is = let k = h.each y r (sym (updates y ∙ cond-false (nat_eq c y) _ _ is) ∙ e) in
            record { there = k.there; runs_are = runs_still r.runs k.runs_are; finds = λ x. sought_still y x r.runs (seek nodes levels x x r.tree) (k.finds x) }

    -- ---- its outlook

    module _ (old : List Node) (near : AreNearBy p t kind lists levels old known) where
      record IsStart (linked : Option ℕ) (start : Outlook) : Type 0 where
        runs_are : AreKnown later start.runs
        finds : (x : ℕ) → IsFromUp p t kind linked c x → IsSought p t kind lists later c x start.runs (seek old levels x x start.tree)

      itself_known : IsKnown later c
      itself_known = (o, known_new)

      start_top : IsStart None (record { tree = None; runs = runs_at c })
      start_top = record {
        runs_are = record { of_package = itself_known; of_classes = itself_known };
        finds = λ x from. subst (λ f. IsSought p t kind lists later c x (runs_at c) f) (sym (seek_none old levels x x)) (λ d h. let k = from.out d h in none-some k.0 k.1);
      }

      module _ (u : ℕ) (over : Outlook) (up : known u ≡ Some over) where
        abbrev runs : Runs
        runs = runs_below p c u over.runs (is_same_package p c u)

        above : IsOutlook p t kind lists levels old known u over
        above = near.each u over up

        runs_known : AreKnown later runs
        runs_known = let k = runs_still over.runs above.runs_are in record {
          of_package = cond_both (is_same_package p c u) over.runs.of_package c (λ q. IsKnown later q) (λ e. k.of_package) (λ e. itself_known);
          of_classes = cond_both (is_interface p u) c over.runs.of_classes (λ q. IsKnown later q) (λ e. itself_known) (λ e. k.of_classes);
        }

        module _ (x : ℕ) (from : IsFromUp p t kind (Some u) c x) where
          abbrev way_by : ℕ → Bool → Bool → Bool → Way
          way_by here steps one interface = record { from = c; here = here; has_steps = steps; is_in_one_package = one; has_interface = interface }

          package_is : (f : Lister) → IsKnown known f.runs.of_package → (b : Bool) → nat_eq (cond b over.runs.of_package c) f.runs.of_package ≡ (b && nat_eq over.runs.of_package f.runs.of_package)
          package_is f k true = refl
          package_is f k false = apart f.runs.of_package k

          classes_is : (f : Lister) → IsKnown known f.runs.of_classes → (b : Bool) → not (nat_eq (cond b c over.runs.of_classes) f.runs.of_classes) ≡ (b || not (nat_eq over.runs.of_classes f.runs.of_classes))
          classes_is f k true = ap not (apart f.runs.of_classes k)
          classes_is f k false = refl

          sought_below : (f : Option Lister) → IsSought p t kind lists known u x over.runs f → IsSought p t kind lists later c x runs f
          sought_below None h = λ d k. let q = from.out d k in h d (subst (λ v. IsHeldAs p t kind v x d) (sym (same_Some u q.0 q.1)) q.2)
          sought_below (Some f) h = record {
            at = still f.at h.at;
            runs_are = runs_still f.runs h.runs_are;
            near = subst (λ way. IsNearest p t kind lists c x way) (sym (ap (λ s. way_by f.at s (nat_eq runs.of_package f.runs.of_package) (not (nat_eq runs.of_classes f.runs.of_classes))) (ap not (apart f.at h.at))
                ∙ ap (λ b. way_by f.at true b (not (nat_eq runs.of_classes f.runs.of_classes))) (package_is f h.runs_are.of_package (is_same_package p c u))
                ∙ ap (λ b. way_by f.at true (is_same_package p c u && nat_eq over.runs.of_package f.runs.of_package) b) (classes_is f h.runs_are.of_classes (is_interface p u))))
                (near_below p local t kind lists c u x (way_to u over.runs f) h.near from);
          }

        start_below : IsStart (Some u) (record { tree = over.tree; runs = runs })
        start_below = record { runs_are = runs_known; finds = λ x from. sought_below x from (seek old levels x x over.tree) (above.finds x) }

      start_is : (linked : Option ℕ) (start : Outlook) → first_outlook p known c linked ≡ Some start → IsStart linked start
      start_is None start e = subst (λ s. IsStart None s) (same_Some _ start e) start_top
      start_is (Some u) start e = by (known u) refl e
        where
          by : (k : Option Outlook) → known u ≡ k → outlook_below p c u k ≡ Some start → IsStart (Some u) start
          by None up e = absurd (none-some start e)
          by (Some over) up e = subst (λ s. IsStart (Some u) s) (same_Some _ start e) (start_below u over up)

      module _ (new : List Node) (linked : Option ℕ) (start : Outlook) (first : first_outlook p known c linked ≡ Some start) (rows : List ℕ) (listed : IsListed p t kind lists linked c rows) (grown : IsGrown p c start levels rows old new o) where
        own_sought : (x e : ℕ) → has rows e ≡ true → name_row p e ≡ x → AreKnown later start.runs → IsLister p t kind lists later c x start.runs (lister_of c start.runs)
        own_sought x e among named runs_are = record {
          at = itself_known;
          runs_are = runs_are;
          near = subst (λ way. IsNearest p t kind lists c x way) (sym (ap (λ b. own_way (not b) (nat_eq start.runs.of_package start.runs.of_package) (not (nat_eq start.runs.of_classes start.runs.of_classes))) (itself_same c)
              ∙ ap (λ b. own_way false b (not (nat_eq start.runs.of_classes start.runs.of_classes))) (itself_same start.runs.of_package) ∙ ap (λ b. own_way false true (not b)) (itself_same start.runs.of_classes)))
              (near_itself p t kind lists c x listed.all (subst (λ x. IsTold p t kind lists c x) named (listed.told e among)));
        }
          where
            own_way : Bool → Bool → Bool → Way
            own_way steps one interface = record { from = c; here = c; has_steps = steps; is_in_one_package = one; has_interface = interface }

        outlook_is : IsOutlook p t kind lists levels new later c o
        outlook_is = let s = start_is linked start first in record {
          there = grown.growing.there;
          runs_are = subst (λ r. AreKnown later r) (sym grown.runs_are) s.runs_are;
          finds = λ x. subst (λ r. IsSought p t kind lists later c x r (seek new levels x x o.tree)) (sym grown.runs_are) (⊎_elim
              (λ a. subst (λ f. IsSought p t kind lists later c x start.runs f) (sym a.0) (own_sought x a.1.0 a.1.1 a.1.2 s.runs_are))
              (λ a. subst (λ f. IsSought p t kind lists later c x start.runs f) (sym a.1) (s.finds x (listed.others x (λ e among named. none_in e [] refl (a.0 e among named)))))
              (grown.growing.finds x));
        }

        pub near_added : Keeps old new → AreNearBy p t kind lists levels new later
        near_added keeps = near_known new (near_grown old new keeps near) outlook_is

-- ---- lists and tables

near_mapped : (p : Rows) (t u : Table) (kind : MemberKind) (lists more : List Entry) (levels : ℕ) (nodes : List Node) (known : ℕ → Option Outlook) → ((c x : ℕ) (way : Way) → IsNearest p t kind lists c x way → IsNearest p u kind more c x way)
    → ((c x d : ℕ) → IsHeldAs p u kind c x d → IsHeldAs p t kind c x d) → AreNearBy p t kind lists levels nodes known → AreNearBy p u kind more levels nodes known
near_mapped p t u kind lists more levels nodes known map back h = record {
  closed = h.closed;
  each = λ y o e. let k = h.each y o e in record { there = k.there; runs_are = k.runs_are; finds = λ x. by y x o (seek nodes levels x x o.tree) (k.finds x) };
}
  where
    by : (y x : ℕ) (o : Outlook) (f : Option Lister) → IsSought p t kind lists known y x o.runs f → IsSought p u kind more known y x o.runs f
    by y x o None k = λ d held. k d (back y x d held)
    by y x o (Some f) k = record { at = k.at; runs_are = k.runs_are; near = map y x (way_to y o.runs f) k.near }

-- what was nearest is so still where lists are added
pub near_kept : (p : Rows) (t : Table) (links : List (Option Link)) (kind : MemberKind) (lists more : List Entry) (nearest : Nearest) → KeepsLists p t links kind lists more → AreNear p t kind lists nearest → AreNear p t kind more nearest
near_kept p t links kind lists more nearest keeps = near_mapped p t t kind lists more nearest.levels nearest.nodes.items (known_in nearest)
    (λ c x way h. record { is = h.is; from_is = h.from_is; listed = λ d. (keeps.all.sound way.here x d, λ k. keeps.told way.here x (λ e k. (h.listed e).1 k) d k) }) (λ c x d k. k)

-- and under a table by which types have the same members
pub near_over : (p : Rows) (t u : Table) (kind : MemberKind) (lists : List Entry) (nearest : Nearest) → ((c x d : ℕ) → IsHeldAs p t kind c x d → IsHeldAs p u kind c x d) → ((c x d : ℕ) → IsHeldAs p u kind c x d → IsHeldAs p t kind c x d)
    → AreNear p t kind lists nearest → AreNear p u kind lists nearest
near_over p t u kind lists nearest forth back = near_mapped p t u kind lists lists nearest.levels nearest.nodes.items (known_in nearest)
    (λ c x way h. record {
      is = record { starts = h.is.starts; out = λ d k. let o = h.is.out d (back way.from x d k) in (forth way.here x d o.0, o.1); into = λ d k way_is. forth way.from x d (h.is.into d (back way.here x d k) way_is) };
      from_is = h.from_is;
      listed = λ d. (λ k. forth way.here x d ((h.listed d).0 k), λ k. (h.listed d).1 (back way.here x d k));
    }) back

pub near_none : (p : Rows) (t : Table) (kind : MemberKind) (lists : List Entry) (nearest : Nearest) → IsBlank nearest → AreNear p t kind lists nearest
near_none p t kind lists nearest blank = record {
  closed = subst IsClosed (sym blank.nodes) (record { even = λ n node e. absurd (none-some node e); odd = λ n node e. absurd (none-some node e) });
  each = λ y o e. absurd (none-some o (sym (blank.none y) ∙ e));
}
