-- Locals and parameters in scope are found by the rows that hold a place, from the innermost outwards.
use Rattle.std.proofs.Common.{◌≡◌, ◌⊎◌, refl, sym, ◌∙◌, ap, subst, inl, inr, ⊎_elim, arith, ℕ, zero, suc, ◌+◌, ◌<◌, ◌≤◌, Bool, true, false, cond, List, [], ◌∷◌, length, Option, Some, None, nat_eq, Decides}
use Rattle.std.proofs.lemmas.Bool.{false≢true, false_from_ne_true, cond_both, cases_eq, cases_lt}
use Rattle.std.proofs.lemmas.Bool.Decides.{Decides-eqb, Decides-ltb}
use Rattle.std.proofs.lemmas.Slice.Eq.{bytes_eq-Decides}
use Rattle.std.proofs.lemmas.Option.{none-some}
use Rattle.jr_base.specs.declared.text.Text.{Text}
use Rattle.jr_tree.specs.declared.label.Label.{Label}
use Rattle.jr_tree.specs.declared.label.Label.TheVariants as is
use Rattle.jr_tree.specs.declared.label.Role.{Role}
use Rattle.jr_tree.specs.declared.label.Role.TheVariants as role
use Rattle.jr_tree.specs.Labels.{role_of}
use Rattle.jr_tree.specs.Rows.{Rows, label, name, parent, end, role_at}
use Rattle.jr_tree.specs.Below.{IsQualifier, IsOtherName, IsTypeLabel, IsUnitOrBody, IsProgramLabel, Asks, Under}
use Rattle.jr_tree.specs.Local.{IsLocal}
use Rattle.jr_defs.specs.declared.referent.Space.TheVariants as space
use Rattle.jr_defs.specs.Referents.{Table}
use Rattle.jr_defs.specs.Declarations as def
use Rattle.jr_defs.specs.Enclosing.{InBody}
use Rattle.jr_defs.specs.Scope.{InLocalScope, InParameterScope, Depth, on_demand, of_package, of_unit, imported, within, rank, IsNoFurther, HasScope, InScope, InOneList}
use Rattle.jr_plain.specs.Search.{has, Lists, last_below, IsLast}
use Rattle.jr_plain.specs.Lists.{or_else}
use Rattle.jr_plain.specs.Scope.{is_block}
use Rattle.jr_plain.proofs.Tests.{never, both, either, like}
use Rattle.jr_plain.proofs.Searches.{finds_last}
use Rattle.jr_plain.proofs.Same.{role_tells}
use Rattle.jr_plain.proofs.Bounds.{bounded}
use Rattle.jr_plain.proofs.Scoped.{local_scope_tells}
use Rattle.jr_places.specs.Above.{above_to, holders, block_by, block_of, is_local_at}
use Rattle.jr_places.specs.Names.{name_row}
use Rattle.jr_places.proofs.Holding.{holders_tell}
use Rattle.jr_members.specs.Each.{StandOnce, ListsEach}
use Rattle.jr_members.specs.Keys.{falling}
use Rattle.jr_members.proofs.Each.{front_has, has_front}
use Rattle.jr_members.proofs.Declaring.{falling_lists}
use Rattle.jr_lookup.specs.Outward.{IsNumberOf}
use Rattle.jr_lookup.specs.Scopes.{is_local_before, is_parameter_of}
use Rattle.jr_lookup.specs.Locals.{IsVisibleLocal, DeclaresLocals, HasLocals, HasParameters, AreLocalsPlaced, parameters_beside, or_these, locals_in, first_with, locals_at, IsLocalIn, IsParameterIn, IsOwn, IsBestIn, IsBest}
use Rattle.jr_lookup.proofs.Outward.{last_least, body_down}

-- ---- labels

block_tells : (l : Label) → Decides (is_block l) (l ≡ is.Block)
block_tells is.Block = (λ h. refl, λ e. refl)
block_tells _ = (λ h. absurd (false≢true h), λ e. absurd (cc))

no_locals : (l : Label) → DeclaresLocals l → HasLocals l → ⊥
no_locals is.Locals h k = k
no_locals is.ForLocals h k = k
no_locals _ h k = absurd h

no_list : (l : Label) → DeclaresLocals l → HasParameters l → ⊥
no_list is.Locals h k = k
no_list is.ForLocals h k = k
no_list _ h k = absurd h

no_parameters : (l : Label) → HasLocals l → HasParameters l → ⊥
no_parameters is.Block h k = k
no_parameters (is.For f c) h k = k
no_parameters is.Switch h k = k
no_parameters _ h k = absurd h

no_local : (l : Label) → HasLocals l → role_of l ≡ role.Local → ⊥
no_local is.Block h e = cc
no_local (is.For f c) h e = cc
no_local is.Switch h e = cc
no_local _ h e = absurd h

other_roles : (r : Role) → r ≡ role.Local → r ≡ role.Parameter → ⊥
other_roles r e f = cc

-- programs, units, types and their bodies
abbrev IsOutside : Label → Type 0
IsOutside is.Program = Unit {0}
IsOutside is.Unit = Unit {0}
IsOutside is.Body = Unit {0}
IsOutside (is.Class m b) = Unit {0}
IsOutside (is.Interface m b) = Unit {0}
IsOutside _ = ⊥

type_outside : (l : Label) → role_of l ≡ role.Type → IsOutside l
type_outside (is.Class m b) e = tt
type_outside (is.Interface m b) e = tt
type_outside _ e = absurd (cc)

no_outside : (l : Label) → HasLocals l → IsOutside l → ⊥
no_outside is.Block h k = k
no_outside (is.For f c) h k = k
no_outside is.Switch h k = k
no_outside _ h k = absurd h

of_type_label : (over : Label) → IsTypeLabel over → IsOutside over
of_type_label (is.Class m b) h = tt
of_type_label (is.Interface m b) h = tt
of_type_label _ h = absurd h

of_unit_or_body : (over : Label) → IsUnitOrBody over → IsOutside over
of_unit_or_body is.Unit h = tt
of_unit_or_body is.Body h = tt
of_unit_or_body _ h = absurd h

of_program : (over : Label) → IsProgramLabel over → IsOutside over
of_program is.Program h = tt
of_program _ h = absurd h

asks_outside : (l over : Label) → IsOutside l → Asks l over → IsOutside over
asks_outside (is.Class m b) over h u = of_unit_or_body over u
asks_outside (is.Interface m b) over h u = of_unit_or_body over u
asks_outside is.Body over h u = of_type_label over u
asks_outside is.Unit over h u = of_program over u
asks_outside is.Program over h u = absurd u
asks_outside _ over h u = absurd h

no_qualifier : (l : Label) → IsOutside l → IsQualifier l → ⊥
no_qualifier (is.Name k a b) h u = h
no_qualifier _ h u = u

no_other_name : (l : Label) → IsOutside l → IsOtherName l → ⊥
no_other_name (is.Name k a b) h u = h
no_other_name _ h u = u

over_outside : (over l : Label) → IsOutside l → Under over l → IsOutside over
over_outside (is.Name k a b) l h u = absurd (no_qualifier l h u)
over_outside (is.Import f) l h u = absurd (no_other_name l h u)
over_outside is.Package l h u = absurd (no_other_name l h u)
over_outside over l h u = asks_outside l over h u

-- ---- each once

falling_under : (test : ℕ → Bool) (n d : ℕ) → has (falling n test) d ≡ true → d < n
falling_under test zero d h = absurd (false≢true h)
falling_under test (suc n) d h = by (test n) h (λ k. falling_under test n d k)
  where
    by : (b : Bool) → has (cond b (n ∷ falling n test) (falling n test)) d ≡ true → (has (falling n test) d ≡ true → d < n) → d < suc n
    by true h more = ⊎_elim (λ e. omega arith) (λ k. let lt = more k in omega arith) (has_front n d (falling n test) h)
    by false h more = let lt = more h in omega arith

stand_falling : (test : ℕ → Bool) (n : ℕ) → StandOnce (falling n test)
stand_falling test zero = tt
stand_falling test (suc n) = cond_both (test n) (n ∷ falling n test) (falling n test) StandOnce
    (λ e. (false_from_ne_true (has (falling n test) n) (λ h. let lt = falling_under test n n h in omega arith), stand_falling test n)) (λ e. stand_falling test n)

stand_first : (of : ℕ → List ℕ) → ((h : ℕ) → StandOnce (of h)) → (hs : List ℕ) → StandOnce (first_with of hs)
stand_first of each [] = tt
stand_first of each (h ∷ more) = by (of h) (each h) (stand_first of each more)
  where
    by : (here : List ℕ) → StandOnce here → StandOnce (first_with of more) → StandOnce (or_else here (first_with of more))
    by [] k rest = rest
    by (x ∷ xs) k rest = k

-- ---- the way up

nothing : (xs : List ℕ) → length xs ≡ 0 → xs ≡ []
nothing [] e = refl
nothing (y ∷ ys) e = absurd (omega arith)

module _ (p : Rows) (of : ℕ → List ℕ) (all : List ℕ) where
  pub climb_more : (room j k next : ℕ) (found : List ℕ) → suc j ≡ room → found ≡ of k → length found ≡ 0 → (k ≡ 0 → ⊥) → next ≡ parent p k → first_with of (above_to p room k) ≡ all → first_with of (above_to p j next) ≡ all
  climb_more room j k next found left is empty apart up h =
      ap (λ m. first_with of (above_to p j m)) up ∙ by (nat_eq k 0) (Decides-eqb k 0) (of k) (sym is ∙ nothing found empty) ∙ ap (λ r. first_with of (above_to p r k)) left ∙ h
    where
      by : (b : Bool) → Decides b (k ≡ 0) → (here : List ℕ) → here ≡ [] → first_with of (above_to p j (parent p k)) ≡ or_else here (first_with of (cond b [] (above_to p j (parent p k))))
      by true d here none = absurd (apart (d.0 refl))
      by false d [] none = refl
      by false d (y ∷ ys) none = absurd (cc)

  pub climb_found : (room j k : ℕ) (found : List ℕ) → suc j ≡ room → found ≡ of k → (length found ≡ 0 → ⊥) → first_with of (above_to p room k) ≡ all → found ≡ all
  climb_found room j k found left is some h = by (of k) is ∙ ap (λ r. first_with of (above_to p r k)) left ∙ h
    where
      by : (here : List ℕ) → found ≡ here → found ≡ or_else here (first_with of (cond (nat_eq k 0) [] (above_to p j (parent p k))))
      by [] none = absurd (some (ap length none))
      by (x ∷ xs) same = same

  pub climb_root : (room j k : ℕ) (found : List ℕ) → suc j ≡ room → found ≡ of k → length found ≡ 0 → k ≡ 0 → first_with of (above_to p room k) ≡ all → found ≡ all
  climb_root room j k found left is empty root h = nothing found empty ∙ by (nat_eq k 0) (Decides-eqb k 0) (of k) (sym is ∙ nothing found empty) ∙ ap (λ r. first_with of (above_to p r k)) left ∙ h
    where
      by : (b : Bool) → Decides b (k ≡ 0) → (here : List ℕ) → here ≡ [] → [] ≡ or_else here (first_with of (cond b [] (above_to p j (parent p k))))
      by false d here none = absurd (false≢true (d.1 root))
      by true d [] none = refl
      by true d (y ∷ ys) none = absurd (cc)

stand_locals : (p : Rows) (x o h : ℕ) → StandOnce (locals_in p x o h)
stand_locals p x o h = by (last_below (length p) (is_local_before p h x o))
  where
    beside : (b : Bool) → StandOnce (cond b (falling (length p) (is_parameter_of p (parent p h) x)) [])
    beside true = stand_falling (is_parameter_of p (parent p h) x) (length p)
    beside false = tt

    by : (m : Option ℕ) → StandOnce (or_these m (parameters_beside p x h))
    by (Some m) = (refl, tt)
    by None = beside (is_block (label p h))

cases_le : (a b : ℕ) → (a ≤ b) ⊎ (b < a)
cases_le a b = ⊎_elim (λ lt. inr lt) (λ le. inl le) (cases_lt b a)

module _ (p : Rows) (rows : IsLocal p) where
  parent_most : (k : ℕ) → k < length p → parent p k ≤ k
  parent_most k lt = ⊎_elim (λ e. let root = ap (parent p) e ∙ rows.tree.root in omega arith) (λ apart. let up = rows.tree.up k lt (omega arith) in omega arith) (cases_eq k 0)

  stands_below : (l : Label) (b : ℕ) → b < length p → block_by l p b ≤ b
  stands_below is.Group b lt = parent_most b lt
  stands_below _ b lt = omega arith

  local_below : (d : ℕ) → role_at p d ≡ role.Local → d < length p
  local_below d h = bounded (λ l. role_of l ≡ role.Local) (λ e. cc) p d h

  parameter_below : (d : ℕ) → role_at p d ≡ role.Parameter → d < length p
  parameter_below d h = bounded (λ l. role_of l ≡ role.Parameter) (λ e. cc) p d h

  -- a block stands before what is declared in it
  block_low : (d : ℕ) → d < length p → block_of p d ≤ d
  block_low d lt = let a = parent_most d lt in let b = parent_most (parent p d) (omega arith) in
      let c = stands_below (label p (parent p (parent p d))) (parent p (parent p d)) (omega arith) in omega arith

  -- what holds a type is a program, a unit, a type or the body of one
  outside_over : (n c m : ℕ) → c ≤ n → m < c → c < end p m → c < length p → IsOutside (label p c) → IsOutside (label p m)
  outside_over zero c m le less held lt h = absurd (omega arith)
  outside_over (suc n) c m le less held lt h =
      let pos : 0 < c = omega arith in
      let over = over_outside (label p (parent p c)) (label p c) h (rows.under c pos lt) in
      let up = rows.tree.up c lt pos in
      let low = rows.tree.inner m c less held in
      ⊎_elim (λ same. subst (λ k. IsOutside (label p k)) (sym same) over) (λ apart. outside_over n (parent p c) m (omega arith) (omega arith) (omega arith) (omega arith) over) (cases_eq m (parent p c))

  module _ (placed : AreLocalsPlaced p) where
    -- a local inside a row that neither declares such nor is a group has its block there
    block_in : (k e : ℕ) → (DeclaresLocals (label p k) → ⊥) → (label p k ≡ is.Group → ⊥) → role_at p e ≡ role.Local → k < e → e < end p k → k ≤ block_of p e
    block_in k e no_declaration no_group local less held =
        let below = local_below e local in
        let up = rows.tree.up e below (omega arith) in
        let low = rows.tree.inner k e less held in
        ⊎_elim (λ same. absurd (no_declaration (subst (λ m. DeclaresLocals (label p m)) (sym same) (placed.declared e local))))
        (λ apart. let further = rows.tree.up (parent p e) (omega arith) (omega arith) in
        by (label p (parent p (parent p e))) refl (rows.tree.inner k (parent p e) (omega arith) (omega arith)) (omega arith)) (cases_eq k (parent p e))
      where
        by : (l : Label) → label p (parent p (parent p e)) ≡ l → k ≤ parent p (parent p e) → parent p (parent p e) < end p k → k ≤ block_by l p (parent p (parent p e))
        by is.Group group le held = ⊎_elim (λ same. absurd (no_group (ap (label p) same ∙ group))) (λ apart. rows.tree.inner k (parent p (parent p e)) (omega arith) held) (cases_eq k (parent p (parent p e)))
        by _ other le held = le

    -- a row that has locals is no declaration of them, no group and no local
    has_block : (h d : ℕ) → role_at p d ≡ role.Local → block_of p d ≡ h → HasLocals (label p h)
    has_block h d local block = subst (λ m. HasLocals (label p m)) block (placed.inside d local)

    within_row : (h e : ℕ) → HasLocals (label p h) → role_at p e ≡ role.Local → h ≤ e → e < end p h → h ≤ block_of p e
    within_row h e k local le held = ⊎_elim (λ same. absurd (no_local (label p h) k (ap (role_at p) same ∙ local)))
        (λ apart. block_in h e (λ d. no_locals (label p h) d k) (λ group. subst HasLocals group k) local (omega arith) held) (cases_eq h e)

    within_owner : (q e : ℕ) → HasParameters (label p q) → role_at p e ≡ role.Local → q < e → e < end p q → q < block_of p e
    within_owner q e k local less held =
        let le = block_in q e (λ d. no_list (label p q) d k) (λ group. subst HasParameters group k) local less held in
        ⊎_elim (λ same. absurd (no_parameters (label p q) (has_block q e local (sym same)) k)) (λ apart. omega arith) (cases_eq q (block_of p e))

    before_body : (x h d : ℕ) → IsParameterIn p x h d → d < h
    before_body x h d k = placed.before d h k.parameter k.body (sym k.beside)

    block_here : (l : Label) → l ≡ is.Block → HasLocals l
    block_here l e = subst HasLocals (sym e) tt

    -- no body is the program
    below_program : (x h d : ℕ) → IsParameterIn p x h d → 0 < h
    below_program x h d k = let lt = before_body x h d k in omega arith

    owner_below : (x h d : ℕ) → IsParameterIn p x h d → h < length p → parent p h < d
    owner_below x h d k lt = ⊎_elim (λ zero. absurd (no_owner (label p (parent p d)) (placed.taken d k.parameter)
        (ap (λ m. label p (parent p m)) zero ∙ ap (label p) rows.tree.root ∙ rows.program)))
        (λ apart. let up = rows.tree.up d (parameter_below d k.parameter) (omega arith) in let beside = k.beside in omega arith) (cases_eq d 0)
      where
        no_owner : (l : Label) → HasParameters l → l ≡ is.Program → ⊥
        no_owner l h e = subst HasParameters e h

    module _ (x o : ℕ) where
      -- what a row further out has was declared before
      outer : (g k d e : ℕ) → k < length p → k ≤ o → o < end p k → g < k → k < end p g → IsOwn p x o k d → IsOwn p x o g e → (e < d) × (InOneList p d e → ⊥)
      outer g k d e lt from until less held (inl i) (inl j) = (
        ⊎_elim (λ before. before) (λ le. let a = i.block in let b = j.block in let c = j.before in let low = block_low d (local_below d i.local) in
            let high = within_row k e (has_block k d i.local i.block) j.local (omega arith) (omega arith) in absurd (omega arith)) (cases_lt e d),
        λ h. other_roles (role_at p d) i.local h.first,
      )
      outer g k d e lt from until less held (inl i) (inr j) = (
        (let a = i.block in let low = block_low d (local_below d i.local) in let before = before_body x g e j in omega arith),
        λ h. other_roles (role_at p d) i.local h.first,
      )
      outer g k d e lt from until less held (inr i) (inl j) = (
        ⊎_elim (λ before. before) (λ le. absurd (behind le)) (cases_lt e d),
        λ h. other_roles (role_at p e) j.local h.second,
      )
        where
          behind : d ≤ e → ⊥
          behind le = let up = owner_below x k d i lt in let b = j.block in let c = j.before in
              ⊎_elim (λ inside. let high = within_row k e (block_here (label p k) i.body) j.local inside (omega arith) in omega arith)
              (λ beside. let held_by = rows.tree.held k lt (omega arith) in let high = within_owner (parent p k) e (subst (λ m. HasParameters (label p m)) i.beside (placed.taken d i.parameter)) j.local (omega arith) (omega arith) in
              let low = rows.tree.inner g k less held in omega arith) (cases_le k e)
      outer g k d e lt from until less held (inr i) (inr j) =
          let up = owner_below x k d i lt in let before = before_body x g e j in let low = rows.tree.inner g k less held in (
            omega arith,
            λ h. let a = h.beside in let b = i.beside in let c = j.beside in let near = rows.tree.up g (omega arith) (below_program x g e j) in omega arith,
          )

      -- ---- one row

      local_tells : (h d : ℕ) → Decides (is_local_before p h x o d) (IsLocalIn p x o h d)
      local_tells h d = like (both (both (role_tells (role_at p d) role.Local) (both (Decides-eqb (block_of p d) h) (Decides-eqb (name_row p d) x))) (Decides-ltb d o))
          (λ k. record { local = k.0.0; block = k.0.1.0; named = k.0.1.1; before = k.1 }) (λ k. ((k.local, (k.block, k.named)), k.before))

      parameter_tells : (h d : ℕ) → label p h ≡ is.Block → Decides (is_parameter_of p (parent p h) x d) (IsParameterIn p x h d)
      parameter_tells h d body = like (both (role_tells (role_at p d) role.Parameter) (both (Decides-eqb (parent p d) (parent p h)) (Decides-eqb (name_row p d) x)))
          (λ k. record { body = body; parameter = k.0; beside = k.1.0; named = k.1.1 }) (λ k. (k.parameter, (k.beside, k.named)))

      best_local : (h m : ℕ) → IsLast (IsLocalIn p x o h) (length p) m → IsBestIn p x o h m
      best_local h m last = record {
        own = inl last.1;
        innermost = λ e. ⊎_elim (λ i. inl (last.2 e (local_below e i.local) i))
            (λ j. let before = before_body x h e j in let low = block_low m last.0 in let block = last.1.block in inl (omega arith));
      }

      only_local : (h m d : ℕ) → IsLast (IsLocalIn p x o h) (length p) m → IsBestIn p x o h d → m ≡ d
      only_local h m d last best = by best.own (best.innermost m (inl last.1))
        where
          by : IsOwn p x o h d → (m ≤ d) ⊎ InOneList p m d → m ≡ d
          by own (inr list) = absurd (other_roles (role_at p m) last.1.local list.first)
          by (inl i) (inl le) = let most = last.2 d (local_below d i.local) i in omega arith
          by (inr j) (inl le) = let before = before_body x h d j in let low = block_low m last.0 in let block = last.1.block in absurd (omega arith)

      best_parameter : (h d : ℕ) → ((e : ℕ) → IsLocalIn p x o h e → ⊥) → IsParameterIn p x h d → IsBestIn p x o h d
      best_parameter h d none k = record {
        own = inr k;
        innermost = λ e. ⊎_elim (λ i. absurd (none e i)) (λ j. inr (record { first = j.parameter; second = k.parameter; beside = j.beside ∙ sym k.beside }));
      }

      last_is : (h m : ℕ) → last_below (length p) (is_local_before p h x o) ≡ Some m → IsLast (IsLocalIn p x o h) (length p) m
      last_is h m e = (finds_last (is_local_before p h x o) (IsLocalIn p x o h) (local_tells h) (length p) m).0 e

      none_is : (h : ℕ) → last_below (length p) (is_local_before p h x o) ≡ None → (e : ℕ) → IsLocalIn p x o h e → ⊥
      none_is h none e i = let last = last_least (is_local_before p h x o) (length p) e (local_below e i.local) ((local_tells h e).1 i) in none-some last.0 (sym none ∙ last.1)

      beside_tells : (h : ℕ) → ((e : ℕ) → IsLocalIn p x o h e → ⊥) → (b : Bool) → Decides b (label p h ≡ is.Block)
          → Lists (cond b (falling (length p) (is_parameter_of p (parent p h) x)) []) (IsBestIn p x o h)
      beside_tells h none true is_body d = like (falling_lists (is_parameter_of p (parent p h) x) (IsParameterIn p x h) (length p) (λ e. parameter_tells h e (is_body.0 refl)) (λ e k. parameter_below e k.parameter) d)
          (best_parameter h d none) (λ best. ⊎_elim (λ i. absurd (none d i)) (λ j. j) best.own)
      beside_tells h none false is_body d = like never (λ z. absurd z) (λ best. ⊎_elim (λ i. none d i) (λ j. false≢true (is_body.1 j.body)) best.own)

      best_in : (h : ℕ) → Lists (locals_in p x o h) (IsBestIn p x o h)
      best_in h = by (last_below (length p) (is_local_before p h x o)) refl
        where
          by : (m : Option ℕ) → last_below (length p) (is_local_before p h x o) ≡ m → Lists (or_these m (parameters_beside p x h)) (IsBestIn p x o h)
          by (Some m) e d = like (either (Decides-eqb m d) never) (⊎_elim (λ same. subst (IsBestIn p x o h) same (best_local h m (last_is h m e))) (λ z. absurd z)) (λ best. inl (only_local h m d (last_is h m e) best))
          by None e d = beside_tells h (none_is h e) (is_block (label p h)) (block_tells (label p h)) d

      -- where a row has any, one is furthest in
      some_best : (h e : ℕ) → IsOwn p x o h e → (m : ℕ) × IsBestIn p x o h m
      some_best h e own = by (last_below (length p) (is_local_before p h x o)) refl own
        where
          by : (m : Option ℕ) → last_below (length p) (is_local_before p h x o) ≡ m → IsOwn p x o h e → (m : ℕ) × IsBestIn p x o h m
          by (Some m) is_last own = (m, best_local h m (last_is h m is_last))
          by None none (inl i) = absurd (none_is h none e i)
          by None none (inr j) = (e, best_parameter h e (none_is h none) j)

      -- ---- from row to row

      module _ (k : ℕ) (lt : k < length p) (from : k ≤ o) (until : o < end p k) where
        here_best : (y d : ℕ) {b : Bool} → IsBestIn p x o k y → Decides b (IsBestIn p x o k d) → Decides b (IsBest p x o k d)
        here_best y d some tells = like tells out into
          where
            out : IsBestIn p x o k d → IsBest p x o k d
            out h = let nested = rows.tree.nested k in record {
              row = k;
              from = omega arith;
              until = nested;
              own = h.own;
              innermost = λ g e le held own. ⊎_elim (λ same. h.innermost e (subst (λ g. IsOwn p x o g e) same own))
                  (λ apart. let before = (outer g k d e lt from until (omega arith) held h.own own).0 in inl (omega arith)) (cases_eq g k);
            }

            into : IsBest p x o k d → IsBestIn p x o k d
            into h = let nested = rows.tree.nested k in let below = h.from in let own = h.own in let known = h.innermost in
                ⊎_elim (λ same. record { own = subst (λ g. IsOwn p x o g d) same own; innermost = λ e k_own. known k e (omega arith) nested k_own })
                (λ apart. let far = outer h.row k y d lt from until (omega arith) h.until some.own own in
                absurd (⊎_elim (λ le. let before = far.0 in omega arith) far.1 (known k y (omega arith) nested some.own))) (cases_eq h.row k)

        there_best : (d : ℕ) {b : Bool} → ((e : ℕ) → IsOwn p x o k e → ⊥) → 0 < k → Decides b (IsBest p x o (parent p k) d) → Decides b (IsBest p x o k d)
        there_best d none pos tells = like tells out into
          where
            down : (g : ℕ) → g ≤ parent p k → parent p k < end p g → (g ≤ k) × (k < end p g)
            down g le held = let up = rows.tree.up k lt pos in let held_by = rows.tree.held k lt pos in
                ⊎_elim (λ same. let ends = ap (end p) same in (omega arith, omega arith)) (λ apart. let ends = rows.tree.apart g (parent p k) (omega arith) held in (omega arith, omega arith)) (cases_eq g (parent p k))

            above : (g : ℕ) → g ≤ k → k < end p g → (g ≡ k → ⊥) → (g ≤ parent p k) × (parent p k < end p g)
            above g le held apart = let up = rows.tree.up k lt pos in let low = rows.tree.inner g k (omega arith) held in (low, omega arith)

            out : IsBest p x o (parent p k) d → IsBest p x o k d
            out h = let held = down h.row h.from h.until in record {
              row = h.row;
              from = held.0;
              until = held.1;
              own = h.own;
              innermost = λ g e le before own. let up = above g le before (λ same. none e (subst (λ g. IsOwn p x o g e) same own)) in h.innermost g e up.0 up.1 own;
            }

            into : IsBest p x o k d → IsBest p x o (parent p k) d
            into h = let up = above h.row h.from h.until (λ same. none d (subst (λ g. IsOwn p x o g d) same h.own)) in record {
              row = h.row;
              from = up.0;
              until = up.1;
              own = h.own;
              innermost = λ g e le before own. let held = down g le before in h.innermost g e held.0 held.1 own;
            }

        choose : (rest : List ℕ) → (((e : ℕ) → IsOwn p x o k e → ⊥) → Lists rest (IsBest p x o k)) → Lists (or_else (locals_in p x o k) rest) (IsBest p x o k)
        choose rest further = by (locals_in p x o k) (best_in k)
          where
            by : (here : List ℕ) → Lists here (IsBestIn p x o k) → Lists (or_else here rest) (IsBest p x o k)
            by [] tells d = further (λ e own. let best = some_best k e own in false≢true ((tells best.0).1 best.1)) d
            by (y ∷ ys) tells d = here_best y d ((tells y).0 (front_has y ys)) (tells d)

        at_root : k ≡ 0 → ((e : ℕ) → IsOwn p x o k e → ⊥) → Lists [] (IsBest p x o k)
        at_root root none d = like never (λ z. absurd z) (λ h. let le = h.from in let same : h.row ≡ k = omega arith in none d (subst (λ g. IsOwn p x o g d) same h.own))

      walk : (rounds k : ℕ) → k ≤ rounds → k < length p → k ≤ o → o < end p k → Lists (first_with (locals_in p x o) (above_to p rounds k)) (IsBest p x o k)
      walk zero k le lt from until = choose k lt from until [] (at_root k lt from until (omega arith))
      walk (suc rounds) k le lt from until = by (nat_eq k 0) (Decides-eqb k 0) (λ pos. let up = rows.tree.up k lt pos in let held = rows.tree.held k lt pos in let ends = rows.tree.apart (parent p k) k up held in
          walk rounds (parent p k) (omega arith) (omega arith) (omega arith) (omega arith))
        where
          by : (b : Bool) → Decides b (k ≡ 0) → (0 < k → Lists (first_with (locals_in p x o) (above_to p rounds (parent p k))) (IsBest p x o (parent p k)))
              → Lists (first_with (locals_in p x o) (k ∷ cond b [] (above_to p rounds (parent p k)))) (IsBest p x o k)
          by true d more = choose k lt from until [] (at_root k lt from until (d.0 refl))
          by false d more = let pos : 0 < k = ⊎_elim (λ e. absurd (false≢true (d.1 e))) (λ apart. omega arith) (cases_eq k 0) in
              choose k lt from until (first_with (locals_in p x o) (above_to p rounds (parent p k))) (λ none n. there_best k lt from until n none pos (more pos n))

      -- what is found is in the scope that is furthest in
      pub locals_best : o < length p → Lists (locals_at p x o) (IsBest p x o o)
      locals_best lt = walk o o (omega arith) lt (omega arith) (rows.tree.nested o)

      -- nothing is found where nothing is in scope
      both_empty : (here rest : List ℕ) → or_else here rest ≡ [] → (here ≡ []) × (rest ≡ [])
      both_empty [] rest h = (refl, h)
      both_empty (y ∷ ys) rest h = absurd (cc)

      here_empty : (k : ℕ) → locals_in p x o k ≡ [] → (e : ℕ) → IsOwn p x o k e → ⊥
      here_empty k empty e own = let best = some_best k e own in false≢true (subst (λ xs. has xs best.0 ≡ true) empty ((best_in k best.0).1 best.1))

      none_walk : (rounds k : ℕ) → k ≤ rounds → k < length p → first_with (locals_in p x o) (above_to p rounds k) ≡ [] → (g e : ℕ) → g ≤ k → k < end p g → IsOwn p x o g e → ⊥
      none_walk zero k le lt h g e low held own = let same : g ≡ k = omega arith in here_empty k (both_empty (locals_in p x o k) [] h).0 e (subst (λ g. IsOwn p x o g e) same own)
      none_walk (suc rounds) k le lt h g e low held own = by (nat_eq k 0) (Decides-eqb k 0) h
          (λ less rest. let up = rows.tree.up k lt (omega arith) in let near = rows.tree.inner g k less held in none_walk rounds (parent p k) (omega arith) (omega arith) rest g e near (omega arith) own)
        where
          by : (b : Bool) → Decides b (k ≡ 0) → first_with (locals_in p x o) (k ∷ cond b [] (above_to p rounds (parent p k))) ≡ []
              → (g < k → first_with (locals_in p x o) (above_to p rounds (parent p k)) ≡ [] → ⊥) → ⊥
          by true d empty more = let root = d.0 refl in let same : g ≡ k = omega arith in here_empty k (both_empty (locals_in p x o k) [] empty).0 e (subst (λ g. IsOwn p x o g e) same own)
          by false d empty more = let parts = both_empty (locals_in p x o k) (first_with (locals_in p x o) (above_to p rounds (parent p k))) empty in
              ⊎_elim (λ same. here_empty k parts.0 e (subst (λ g. IsOwn p x o g e) same own)) (λ apart. more (omega arith) parts.1) (cases_eq g k)

    -- ---- scopes

    module _ (t : Table) (x : Text) (n o : ℕ) (lt : o < length p) (number : IsNumberOf p n x) where
      pub named : (d : ℕ) → name_row p d ≡ n → name p d ≡ x
      named d e = (bytes_eq-Decides (name p d) x).0 (sym (number d) ∙ (Decides-eqb (name_row p d) n).1 e)

      pub numbered : (d : ℕ) → name p d ≡ x → name_row p d ≡ n
      numbered d e = (Decides-eqb (name_row p d) n).0 (number d ∙ (bytes_eq-Decides (name p d) x).1 e)

      local_at : (d : ℕ) → Decides (is_local_at p d o) (((role_at p d ≡ role.Local) × (d < o)) × ((block_of p d ≤ o) × (o < end p (block_of p d))))
      local_at d = both (both (role_tells (role_at p d) role.Local) (Decides-ltb d o)) ((holders_tell p rows.tree).hold o lt (block_of p d))

      in_local_scope : (d : ℕ) → Decides (is_local_at p d o) (InLocalScope p d o)
      in_local_scope d = subst (λ b. Decides b (InLocalScope p d o)) (sym ((holders_tell p rows.tree).locals d o lt)) (local_scope_tells p d o)

      scope_of_local : (g d : ℕ) → g ≤ o → o < end p g → IsLocalIn p n o g d → InLocalScope p d o
      scope_of_local g d le held i = (in_local_scope d).0 ((local_at d).1 ((i.local, i.before), subst (λ m. (m ≤ o) × (o < end p m)) (sym i.block) (le, held)))

      scope_of_parameter : (g d : ℕ) → g ≤ o → o < end p g → IsParameterIn p n g d → InParameterScope p d o
      scope_of_parameter g d le held j = record { parameter = j.parameter; body = g; block = j.body; beside = sym j.beside; from = le; before = held }

      in_own_scope : (g d : ℕ) → g ≤ o → o < end p g → IsOwn p n o g d → InScope p t space.Variable x o d (within d)
      in_own_scope g d le held (inl i) = record {
        scope = HasScope.local (scope_of_local g d le held i);
        declares = record { of_kind = subst (def.IsOf space.Variable) (sym i.local) tt; named = named d i.named };
      }
      in_own_scope g d le held (inr j) = record {
        scope = HasScope.parameter (scope_of_parameter g d le held j);
        declares = record { of_kind = subst (def.IsOf space.Variable) (sym j.parameter) tt; named = named d j.named };
      }

      abbrev pub Owned : ℕ → Type 0
      Owned d = (g : ℕ) × (g ≤ o) × (o < end p g) × IsOwn p n o g d

      owned_local : (d : ℕ) → InLocalScope p d o → name p d ≡ x → Owned d
      owned_local d h e = let k = (local_at d).0 ((in_local_scope d).1 h) in (block_of p d, k.1.0, k.1.1, inl (record { local = h.local; block = refl; named = numbered d e; before = h.after }))

      owned_parameter : (d : ℕ) → InParameterScope p d o → name p d ≡ x → Owned d
      owned_parameter d h e = (h.body, h.from, h.before, inr (record { body = h.block; parameter = h.parameter; beside = sym h.beside; named = numbered d e }))

      pub no_label : (d : ℕ) → def.Declares p space.Variable x d → role_at p d ≡ role.Label → ⊥
      no_label d h e = subst (def.IsOf space.Variable) e h.of_kind

      pub no_type : (d : ℕ) → def.Declares p space.Variable x d → role_at p d ≡ role.Type → ⊥
      no_type d h e = subst (def.IsOf space.Variable) e h.of_kind

      pub owned : (d : ℕ) (r : Depth) → HasScope p t o d r → r ≡ within d → def.Declares p space.Variable x d → Owned d
      owned d r (HasScope.local h) e declares = owned_local d h declares.named
      owned d r (HasScope.parameter h) e declares = owned_parameter d h declares.named
      owned d r (HasScope.labeled h) e declares = absurd (no_label d declares h.labeled)
      owned d r (HasScope.member {c = c} i m) e declares = let same = ap rank e in let is_same : c ≡ d = omega arith in absurd (no_type d declares (subst (λ k. role_at p k ≡ role.Type) is_same i.of_type.type))
      owned d r (HasScope.of_same_unit h) e declares = absurd (cc)
      owned d r (HasScope.of_same_package h) e declares = absurd (cc)
      owned d r (HasScope.single h) e declares = absurd (cc)
      owned d r (HasScope.static h) e declares = absurd (cc)
      owned d r (HasScope.demanded h) e declares = absurd (cc)

      -- the types round the place are further out
      pub type_out : (c g d : ℕ) → InBody p c o → g ≤ o → o < end p g → IsOwn p n o g d → c ≤ d
      type_out c g d i le held own =
          let down = body_down p rows.tree c i.body i.of_type in
          let after = i.after in
          let before = i.before in
          ⊎_elim (λ low. outwards low own) (λ high. absurd (not_inside high own)) (cases_le c g)
        where
          not_inside : g < c → IsOwn p n o g d → ⊥
          not_inside high own =
              let down = body_down p rows.tree c i.body i.of_type in
              let after = i.after in
              no_outside (label p g) (⊎_elim (λ k. has_block g d k.local k.block) (λ k. block_here (label p g) k.body) own)
              (outside_over c c g (omega arith) high (omega arith) (omega arith) (type_outside (label p c) i.of_type.type))

          outwards : c ≤ g → IsOwn p n o g d → c ≤ d
          outwards low (inl k) = let block = k.block in let lower = block_low d (local_below d k.local) in omega arith
          outwards low (inr k) =
              let lower = owner_below n g d k (omega arith) in
              let down = body_down p rows.tree c i.body i.of_type in
              let before = i.before in
              let held_by : i.body < end p c = subst (λ m. i.body < end p m) i.of_type.inside (rows.tree.held i.body (omega arith) (omega arith)) in
              let ends = rows.tree.apart c i.body down held_by in
              ⊎_elim (λ same. absurd (no_outside (label p g) (block_here (label p g) k.body) (subst (λ m. IsOutside (label p m)) same (type_outside (label p c) i.of_type.type))))
              (λ apart. let up = rows.tree.inner c g (omega arith) (omega arith) in omega arith) (cases_eq c g)

      pub no_further : (q r : Depth) (e d : ℕ) → IsNoFurther q r → q ≡ within e → r ≡ within d → e ≤ d
      no_further q r e d (IsNoFurther.by_rank le) a b = let x = ap rank a in let y = ap rank b in omega arith
      no_further q r e d IsNoFurther.of_one_package a b = absurd (cc)

      far_out : (q : Depth) (d k : ℕ) → rank q ≡ k → k ≤ 3 → IsNoFurther q (within d)
      far_out q d k same le = IsNoFurther.by_rank (omega arith)

      -- what is furthest in of locals and parameters is visible, and no others are so far in
      pub visible_best : (d : ℕ) → IsBest p n o o d → IsVisibleLocal p t x o d
      visible_best d best = record { in_scope = in_own_scope best.row d best.from best.until best.own; innermost = λ e q h. by e q h.scope h.declares }
        where
          nearest : (e : ℕ) → Owned e → IsNoFurther (within e) (within d) ⊎ InOneList p e d
          nearest e own = ⊎_elim (λ le. let more : 3 + e ≤ 3 + d = omega arith in inl (IsNoFurther.by_rank more)) (λ list. inr list) (best.innermost own.0 e own.1 own.2 own.3)

          by : (e : ℕ) (q : Depth) → HasScope p t o e q → def.Declares p space.Variable x e → IsNoFurther q (within d) ⊎ InOneList p e d
          by e q (HasScope.local h) declares = nearest e (owned_local e h declares.named)
          by e q (HasScope.parameter h) declares = nearest e (owned_parameter e h declares.named)
          by e q (HasScope.labeled h) declares = absurd (no_label e declares h.labeled)
          by e q (HasScope.member {c = c} i m) declares = let le = type_out c best.row d i best.from best.until best.own in let more : 3 + c ≤ 3 + d = omega arith in inl (IsNoFurther.by_rank more)
          by e q (HasScope.of_same_unit h) declares = inl (far_out of_unit d 2 refl (omega arith))
          by e q (HasScope.of_same_package h) declares = inl (far_out of_package d 1 refl (omega arith))
          by e q (HasScope.single h) declares = inl (far_out imported d 2 refl (omega arith))
          by e q (HasScope.static h) declares = inl (far_out imported d 2 refl (omega arith))
          by e q (HasScope.demanded h) declares = inl (far_out on_demand d 0 refl (omega arith))

      pub best_visible : (d : ℕ) → IsVisibleLocal p t x o d → IsBest p n o o d
      best_visible d h = let own = owned d (within d) h.in_scope.scope refl h.in_scope.declares in record {
        row = own.0;
        from = own.1;
        until = own.2;
        own = own.3;
        innermost = λ g e le held found. ⊎_elim (λ k. inl (no_further (within e) (within d) e d k refl refl)) (λ list. inr list) (h.innermost e (within e) (in_own_scope g e le held found));
      }

      pub locals_visible : (found : List ℕ) → found ≡ locals_at p n o → ListsEach found (IsVisibleLocal p t x o)
      locals_visible found e = record {
        once = subst StandOnce (sym e) (stand_first (locals_in p n o) (stand_locals p n o) (holders p o));
        lists = λ d. like (subst (λ xs. Decides (has xs d) (IsBest p n o o d)) (sym e) (locals_best n o lt d)) (visible_best d) (best_visible d);
      }

      -- where no local or parameter is visible, none is in scope
      pub none_own : ((e : ℕ) → IsVisibleLocal p t x o e → ⊥) → (d : ℕ) → InScope p t space.Variable x o d (within d) → ⊥
      none_own none d h = by (locals_at p n o) refl
        where
          by : (found : List ℕ) → locals_at p n o ≡ found → ⊥
          by [] e = let own = owned d (within d) h.scope refl h.declares in none_walk n o o o (omega arith) lt e own.0 d own.1 own.2 own.3
          by (y ∷ ys) e = none y (visible_best y ((locals_best n o lt y).0 (subst (λ xs. has xs y ≡ true) (sym e) (front_has y ys))))
