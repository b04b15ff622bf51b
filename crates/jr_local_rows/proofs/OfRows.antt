-- In the rows of shaped units locals and parameters stand where they may.
use Rattle.std.proofs.Common.{◌≡◌, ◌⊎◌, inl, inr, refl, sym, ◌∙◌, ap, subst, arith, ℕ, suc, ◌+◌, ◌<◌, ◌≤◌, List, [], ◌∷◌, ◌++◌, length, length-append}
use Rattle.std.specs.List.{AllByRecursion}
use Rattle.std.proofs.Math.ListN.{get_or-append}
use Rattle.std.proofs.lemmas.List.{get_or-append-add, get_or_default, get_or_past}
use Rattle.jr_tree.specs.declared.tree.Unit as declared_unit
use Rattle.jr_tree.specs.declared.row.Row.{Row}
use Rattle.jr_tree.specs.declared.label.Label.{Label}
use Rattle.jr_tree.specs.declared.label.Label.TheVariants as is
use Rattle.jr_tree.specs.declared.label.Role.TheVariants as role
use Rattle.jr_tree.specs.Labels.{role_of}
use Rattle.jr_tree.specs.Shape.{IsShaped}
use Rattle.jr_tree.specs.Forest.{Forest, none, more, size}
use Rattle.jr_tree.specs.Rows.{Rows, rows_from, row, label, parent, end, role_at, program_rows}
use Rattle.jr_tree.specs.Tree.{IsTree}
use Rattle.jr_tree.proofs.Trees.{at_index, nothing, past, length_rows, each_program_is_tree, units_forest}
use Rattle.jr_tree.proofs.Locals.{HasRows, side, which, program_has_rows}
use Rattle.jr_places.specs.Above.{block_by}
use Rattle.jr_lookup.specs.Locals.{DeclaresLocals, HasLocals, HasParameters, AreLocalsPlaced}
use Rattle.jr_local_rows.specs.Placed.{EachProgramPlacesLocals, EachTryHasABlock}
use Rattle.jr_local_rows.proofs.Standing.{IsSwitch, Asks, NoParameter, Behind, ParametersFirst, IsTry, Starts, Placed}
use Rattle.jr_local_rows.proofs.StandingDecls.{units_placed}

-- ---- labels

local_asks : (l over : Label) → role_of l ≡ role.Local → Asks l over → DeclaresLocals over
local_asks (is.Local is_final dims) over e h = h
local_asks _ over e h = cc

parameter_asks : (l over : Label) → role_of l ≡ role.Parameter → Asks l over → HasParameters over
parameter_asks (is.Parameter is_final dims) over e h = h
parameter_asks _ over e h = cc

switch_has : (l : Label) → IsSwitch l → HasLocals l
switch_has is.Switch h = tt
switch_has _ h = absurd h

has_or_not : (l : Label) → HasParameters l ⊎ (HasParameters l → ⊥)
has_or_not (is.Method modifiers is_void has_body) = inl tt
has_or_not (is.Constructor modifiers) = inl tt
has_or_not is.Catch = inl tt
has_or_not _ = inr (λ h. h)

-- what holds a declaration of locals, by its label and that of the row b over it
module _ (p : Rows) (b : ℕ) where
  has_locals : (l over : Label) → DeclaresLocals l → Asks l over → label p b ≡ over → Asks over (label p (parent p b)) → HasLocals (label p (block_by over p b))
  has_locals is.Locals over q h e up = by over h e up
    where
      by : (over : Label) → Asks is.Locals over → label p b ≡ over → Asks over (label p (parent p b)) → HasLocals (label p (block_by over p b))
      by is.Block h e up = subst HasLocals (sym e) tt
      by is.Group h e up = switch_has (label p (parent p b)) up
      by _ h e up = absurd h
  has_locals is.ForLocals over q h e up = by over h e
    where
      by : (over : Label) → Asks is.ForLocals over → label p b ≡ over → HasLocals (label p (block_by over p b))
      by (is.For first condition) h e = subst HasLocals (sym e) tt
      by _ h e = absurd h
  has_locals _ over q h e up = absurd q

-- ---- parameters come first

no_parameters : (over : Label) (f : Forest) → (HasParameters over → ⊥) → Placed over f → NoParameter f
no_parameters over none no' h = tt
no_parameters over (more l x kids rest) no' h = (λ e. no' (parameter_asks l over e h.0), no_parameters over rest no' h.3)

behind : (l : Label) (rest : Forest) → NoParameter rest → Behind l rest
behind is.Block rest h = h
behind _ rest h = tt

none_first : (f : Forest) → NoParameter f → ParametersFirst f
none_first none h = tt
none_first (more l x kids rest) h = (behind l rest h.1, none_first rest h.1)

own_first : (l : Label) (kids : Forest) → HasParameters l → Starts l kids → ParametersFirst kids
own_first (is.Method modifiers is_void has_body) kids q h = h
own_first (is.Constructor modifiers) kids q h = h
own_first is.Catch kids q h = h
own_first _ kids q h = absurd q

kids_first : (l : Label) (kids : Forest) → Starts l kids → Placed l kids → ParametersFirst kids
kids_first l kids s h = elim (has_or_not l) [ inl q ↦ own_first l kids q s | inr no' ↦ none_first kids (no_parameters l kids no' h) ]

try_starts : (l : Label) (kids : Forest) → IsTry l → Starts l kids → 0 < size kids
try_starts (is.Try has_finally) none q h = absurd h
try_starts (is.Try has_finally) (more a x ks rest) q h = omega arith
try_starts _ kids q h = absurd q

-- ---- where rows stand

module _ (p : Rows) (tree : IsTree p) where
  -- what the row stands below is what it asks for
  abbrev StandsRight : ℕ → Type 0
  StandsRight n = Asks (label p n) (label p (parent p n))

  stands_right : (f : Forest) (over at : ℕ) (lo : Label) → label p over ≡ lo → HasRows p over at f → Placed lo f → (n : ℕ) → at ≤ n → n < at + size f → StandsRight n
  stands_right none over at lo e w h n ge lt = absurd (omega arith)
  stands_right (more l x kids rest) over at lo e w h n ge lt = elim (which n at (at + 1 + size kids) ge) [
    | inl q ↦ subst StandsRight (sym q) (subst (λ m. Asks (label p at) m) (sym (ap (label p) w.1 ∙ e)) (subst (λ m. Asks m lo) (sym w.0) h.0))
    | inr k ↦ elim k [
      | inl k ↦ stands_right kids at (at + 1) l w.0 w.3 h.2 n k.0 k.1
      | inr k ↦ stands_right rest over (at + 1 + size kids) lo e w.4 h.3 n k (omega arith)
    ]
  ]

  -- below each `try` something stands
  tries_start : (f : Forest) (over at : ℕ) (lo : Label) → HasRows p over at f → Placed lo f → (n : ℕ) → at ≤ n → n < at + size f → IsTry (label p n) → n + 1 < end p n
  tries_start none over at lo w h n ge lt q = absurd (omega arith)
  tries_start (more l x kids rest) over at lo w h n ge lt q = elim (which n at (at + 1 + size kids) ge) [
    | inl e ↦ (let first = try_starts l kids (subst IsTry (ap (label p) e ∙ w.0) q) h.1 in let stop : end p n ≡ at + 1 + size kids = ap (end p) e ∙ w.2 in omega arith)
    | inr k ↦ elim k [
      | inl k ↦ tries_start kids at (at + 1) l w.3 h.2 n k.0 k.1 q
      | inr k ↦ tries_start rest over (at + 1 + size kids) lo w.4 h.3 n k (omega arith) q
    ]
  ]

  -- what stands inside the row at has its parent there
  below_first : (over at mid n : ℕ) → over < at → end p at ≡ mid → at < n → n < mid → parent p n ≡ over → ⊥
  below_first over at mid n low e lo hi s = let z = tree.inner at n lo (omega arith) in omega arith

  no_parameter_behind : (f : Forest) (over at : ℕ) → over < at → HasRows p over at f → NoParameter f → (n : ℕ) → at ≤ n → n < at + size f → parent p n ≡ over → role_at p n ≡ role.Parameter → ⊥
  no_parameter_behind none over at low w h n ge lt e r = absurd (omega arith)
  no_parameter_behind (more l x kids rest) over at low w h n ge lt e r = elim (which n at (at + 1 + size kids) ge) [
    | inl q ↦ h.0 (ap role_of (sym w.0) ∙ ap (role_at p) (sym q) ∙ r)
    | inr k ↦ elim k [
      | inl k ↦ (let z = k.0 in below_first over at (at + 1 + size kids) n low w.2 (omega arith) k.1 e)
      | inr k ↦ no_parameter_behind rest over (at + 1 + size kids) (omega arith) w.4 h.1 n k (omega arith) e r
    ]
  ]

  -- of a row inside the row at and one behind it no row is the parent
  apart_from : (at mid b d : ℕ) → d < length p → end p at ≡ mid → at < b → b < mid → mid ≤ d → parent p b ≡ parent p d → ⊥
  apart_from at mid b d long e lo hi ge same =
      let z = tree.inner at b lo (omega arith) in let u = tree.up b (omega arith) (omega arith) in
      let h = subst (λ m. d < end p m) (sym same) (tree.held d long (omega arith)) in
      elim (first_or at (parent p b) z) [
        | inl q ↦ (let k = subst (λ m. d < end p m) (sym q) h in omega arith)
        | inr q ↦ (let k = tree.apart at (parent p b) q (omega arith) in omega arith)
      ]
    where
      first_or : (at n : ℕ) → at ≤ n → (at ≡ n) ⊎ (at < n)
      first_or at n h = grind arith

  -- behind a block no parameter has its parent
  none_behind : (f : Forest) (over at : ℕ) (lo : Label) → over < at → HasRows p over at f → Placed lo f → ParametersFirst f → (b d : ℕ) → at ≤ b → b < d → d < at + size f → d < length p
      → label p b ≡ is.Block → parent p b ≡ parent p d → role_at p d ≡ role.Parameter → ⊥
  none_behind none over at lo low w h o b d ge less lt long block same r = absurd (omega arith)
  none_behind (more l x kids rest) over at lo low w h o b d ge less lt long block same r = elim (which b at (at + 1 + size kids) ge) [
    | inl q ↦ (let up = sym same ∙ ap (parent p) q ∙ w.1 in elim (side d (at + 1 + size kids)) [
      | inl k ↦ below_first over at (at + 1 + size kids) d low w.2 (omega arith) k up
      | inr k ↦ no_parameter_behind rest over (at + 1 + size kids) (omega arith) w.4 (subst (λ m. Behind m rest) (sym w.0 ∙ ap (label p) (sym q) ∙ block) o.0) d k (omega arith) up r
    ])
    | inr k ↦ elim k [
      | inl k ↦ elim (side d (at + 1 + size kids)) [
        | inl m ↦ none_behind kids at (at + 1) l (omega arith) w.3 h.2 (kids_first l kids h.1 h.2) b d k.0 less m long block same r
        | inr m ↦ (let z = k.0 in apart_from at (at + 1 + size kids) b d long w.2 (omega arith) k.1 m same)
      ]
      | inr k ↦ none_behind rest over (at + 1 + size kids) lo (omega arith) w.4 h.3 o.1 b d k less (omega arith) long block same r
    ]
  ]

-- ---- programs

-- a row is the program, or one below it, or past the end
where_is : (n long : ℕ) → (n ≡ 0) ⊎ ((1 ≤ n) × (n < long)) ⊎ (long ≤ n)
where_is n long = elim (first_or n) [ inl e ↦ inl e | inr ge ↦ elim (side n long) [ inl lt ↦ inr (inl (ge, lt)) | inr le ↦ inr (inr le) ] ]
  where
    first_or : (n : ℕ) → (n ≡ 0) ⊎ (1 ≤ n)
    first_or n = grind arith

module _ (units : List declared_unit.Unit) (shaped : AllByRecursion IsShaped units) where
  abbrev p : Rows
  p = program_rows units

  abbrev all : Forest
  all = units_forest units

  tree : IsTree p
  tree = each_program_is_tree units

  rows : HasRows p 0 0 (more is.Program [] all none)
  rows = program_has_rows units

  long : length p ≡ size (more is.Program [] all none)
  long = length_rows 0 0 0 (more is.Program [] all none)

  placed : Placed is.Program all
  placed = units_placed units shaped

  past_end : (n : ℕ) → length p ≤ n → label p n ≡ is.Skip
  past_end n le = ap (λ r. r.label) (get_or_past p n (past n) le)

  stands : (n : ℕ) → Asks (label p n) (label p (parent p n))
  stands n = elim (where_is n (length p)) [
    | inl e ↦ subst (λ l. Asks l (label p (parent p n))) (sym (ap (label p) e ∙ rows.0)) tt
    | inr k ↦ elim k [
      | inl k ↦ (let s = long in let z = k.1 in stands_right p tree all 0 1 is.Program rows.0 rows.3 placed n k.0 (omega arith))
      | inr le ↦ subst (λ l. Asks l (label p (parent p n))) (sym (past_end n le)) tt
    ]
  ]

  declared : (d : ℕ) → role_at p d ≡ role.Local → DeclaresLocals (label p (parent p d))
  declared d e = local_asks (label p d) (label p (parent p d)) e (stands d)

  none_before : (b d : ℕ) → role_at p d ≡ role.Parameter → label p b ≡ is.Block → parent p b ≡ parent p d → b < d → ⊥
  none_before b d r block same less = elim (where_is b (length p)) [
    | inl e ↦ (let z = sym rows.0 ∙ ap (label p) (sym e) ∙ block in cc)
    | inr k ↦ elim k [
      | inl k ↦ (elim (side d (length p)) [
        | inl lt ↦ (let s = long in
            none_behind p tree all 0 1 is.Program (omega arith) rows.3 placed (none_first all (no_parameters is.Program all (λ q. q) placed)) b d k.0 less (omega arith) lt block same r)
        | inr le ↦ (let z = sym (ap role_of (past_end d le)) ∙ r in cc)
      ])
      | inr le ↦ (let z = sym (past_end b le) ∙ block in cc)
    ]
  ]

  before : (d b : ℕ) → role_at p d ≡ role.Parameter → label p b ≡ is.Block → parent p b ≡ parent p d → d < b
  before d b r block same = elim (order d b) [
    | inl lt ↦ lt
    | inr k ↦ elim k [
      | inl e ↦ (let z = sym (ap role_of (ap (label p) e ∙ block)) ∙ r in cc)
      | inr less ↦ absurd (none_before b d r block same less)
    ]
  ]
    where
      order : (d b : ℕ) → (d < b) ⊎ (d ≡ b) ⊎ (b < d)
      order d b = grind arith

  pub try_has_block : (n : ℕ) → IsTry (label p n) → n + 1 < end p n
  try_has_block n q = elim (where_is n (length p)) [
    | inl e ↦ absurd (subst IsTry (ap (label p) e ∙ rows.0) q)
    | inr k ↦ elim k [
      | inl k ↦ (let s = long in let z = k.1 in tries_start p tree all 0 1 is.Program rows.3 placed n k.0 (omega arith) q)
      | inr le ↦ absurd (subst IsTry (past_end n le) q)
    ]
  ]

  pub locals_placed : AreLocalsPlaced p
  locals_placed = record {
    declared = declared;
    inside = λ d e. has_locals p (parent p (parent p d)) (label p (parent p d)) (label p (parent p (parent p d))) (declared d e) (stands (parent p d)) refl (stands (parent p (parent p d)));
    taken = λ d e. parameter_asks (label p d) (label p (parent p d)) e (stands d);
    before = before;
  }

pub each_program_places_locals : EachProgramPlacesLocals
each_program_places_locals units shaped = locals_placed units shaped

pub each_try_has_a_block : EachTryHasABlock
each_try_has_a_block units shaped n has_finally here = try_has_block units shaped n (subst IsTry (sym here) tt)
