-- What goes over where rows do: acts, hops and points.
use Rattle.std.proofs.Common.{◌≡◌, ◌⊎◌, refl, sym, ◌∙◌, ap, ap₂, subst, arith, ℕ, zero, suc, ◌+◌, ◌-◌, ◌<◌, ◌≤◌, Bool, true, false, if◌then◌else◌, List, [], ◌∷◌, ◌++◌, map, flat_map, Option, Some, None, option_map, nat_eq, nat_lt, slice_get, Decides}
use Rattle.std.specs.List.{AllByRecursion}
use Rattle.std.proofs.lemmas.Bool.{false≢true}
use Rattle.std.proofs.lemmas.List.{map-append}
use Rattle.std.proofs.lemmas.Bool.Decides.{Decides-eqb, Decides-ltb}
use Rattle.jr_flow_defs.specs.declared.point.Point.{Point}
use Rattle.jr_flow_defs.specs.Acts.{Completion, normally, by_throw, Act, part, event, node, define, use_of, quit, fork, choose, go, jump, Acts}
use Rattle.jr_flow_defs.specs.States.{Pending, State, Hop, at, left, plainly, is_throw, completing, all_at, act_hops}
use Rattle.jr_flow_defs.specs.Edges.{act_point}
use Rattle.jr_flow_defs.specs.Kept.{each_hop}
use Rattle.jr_flow_defs.specs.Copied.{moved_point}
use Rattle.jr_flow_laws.specs.Shifted.{moved_completion, moved_state}

-- ---- tests of numbers

-- two tests of what goes both ways
pub same_test : {P Q : Type 0} (b c : Bool) → Decides b P → Decides c Q → (P → Q) → (Q → P) → b ≡ c
same_test true true d e there back = refl
same_test false false d e there back = refl
same_test true false d e there back = absurd (false≢true (e.1 (there (d.0 refl))))
same_test false true d e there back = absurd (false≢true (d.1 (back (e.0 refl))))

pub same_number : (s m n : ℕ) → nat_eq (m + s) (n + s) ≡ nat_eq m n
same_number s m n = same_test (nat_eq (m + s) (n + s)) (nat_eq m n) (Decides-eqb (m + s) (n + s)) (Decides-eqb m n) (λ e. omega (arith, e)) (λ e. omega (arith, e))

pub same_less : (s m n : ℕ) → nat_lt (m + s) (n + s) ≡ nat_lt m n
same_less s m n = same_test (nat_lt (m + s) (n + s)) (nat_lt m n) (Decides-ltb (m + s) (n + s)) (Decides-ltb m n) (λ e. omega (arith, e)) (λ e. omega (arith, e))

pub at_or_below : (a b : ℕ) → a ≤ b → (a < b) ⊎ (a ≡ b)
at_or_below a b h = grind (arith, h)

-- a choice that goes over
pub choice_over : {A B : Type 0} (f : A → B) (b c : Bool) (x y : A) (u v : B) → c ≡ b → u ≡ f x → v ≡ f y → (if c then u else v) ≡ f (if b then x else y)
choice_over f true true x y u v e h k = h
choice_over f false false x y u v e h k = k
choice_over f true false x y u v e h k = absurd (false≢true e)
choice_over f false true x y u v e h k = absurd (false≢true (sym e))

-- ---- acts

abbrev pub moved_act : ℕ → Act → Act
moved_act s (part k) = part (k + s)
moved_act s (event k) = event (k + s)
moved_act s (node k) = node (k + s)
moved_act s (define k d) = define (k + s) (d + s)
moved_act s (use_of k d) = use_of (k + s) (d + s)
moved_act s quit = quit
moved_act s (fork j) = fork j
moved_act s (choose b) = choose b
moved_act s (go j) = go j
moved_act s (jump c) = jump (moved_completion s c)

-- the act goes to such a row, or stands at one
abbrev pub ActIn : (ℕ → Type 0) → Act → Type 0
ActIn P (part k) = P k
ActIn P (event k) = P k
ActIn P (node k) = P k
ActIn P (define k d) = P k
ActIn P (use_of k d) = P k
ActIn P _ = Unit {0}

abbrev pub IfAct : (ℕ → Type 0) → Option Act → Type 0
IfAct P (Some a) = ActIn P a
IfAct P None = Unit {0}

pub act_at : (P : ℕ → Type 0) (all : Acts) (i : ℕ) → AllByRecursion (ActIn P) all → IfAct P (slice_get all i)
act_at P [] i h = tt
act_at P (a ∷ all) zero h = h.0
act_at P (a ∷ all) (suc i) h = act_at P all i h.1

pub all_append : {A : Type 0} (P : A → Type 0) (xs ys : List A) → AllByRecursion P xs → AllByRecursion P ys → AllByRecursion P (xs ++ ys)
all_append P [] ys h k = k
all_append P (x ∷ xs) ys h k = (h.0, all_append P xs ys h.1 k)

pub all_either : {A : Type 0} (P : A → Type 0) (b : Bool) (xs ys : List A) → AllByRecursion P xs → AllByRecursion P ys → AllByRecursion P (if b then xs else ys)
all_either P true xs ys h k = h
all_either P false xs ys h k = k

-- the acts of the copy are those of the row, and all stand at such rows
pub record IsOver (s : ℕ) (P : ℕ → Type 0) (here there : Acts) : Type 0 where
  pub moved : there ≡ map (moved_act s) here
  pub inside : AllByRecursion (ActIn P) here

module _ (s : ℕ) (P : ℕ → Type 0) where
  pub none_over : IsOver s P [] []
  none_over = record { moved = refl; inside = tt }

  pub more_over : (a b : Act) {all there : Acts} → b ≡ moved_act s a → ActIn P a → IsOver s P all there → IsOver s P (a ∷ all) (b ∷ there)
  more_over a b e h k = record { moved = ap₂ (λ x xs. x ∷ xs) e k.moved; inside = (h, k.inside) }

  pub one_over : (a b : Act) → b ≡ moved_act s a → ActIn P a → IsOver s P (a ∷ []) (b ∷ [])
  one_over a b e h = more_over a b e h none_over

  pub part_over : (k l : ℕ) {all there : Acts} → l ≡ k + s → P k → IsOver s P all there → IsOver s P (part k ∷ all) (part l ∷ there)
  part_over k l e h o = more_over (part k) (part l) (ap part e) h o

  pub append_over : {a b c d : Acts} → IsOver s P a b → IsOver s P c d → IsOver s P (a ++ c) (b ++ d)
  append_over {a} {b} {c} {d} h k = record {
    moved = ap₂ (λ x y. x ++ y) h.moved k.moved ∙ sym (map-append (moved_act s) a c);
    inside = all_append (ActIn P) a c h.inside k.inside;
  }

  pub if_over : (b c : Bool) {x y u v : Acts} → c ≡ b → (b ≡ true → IsOver s P x u) → (b ≡ false → IsOver s P y v) → IsOver s P (if b then x else y) (if c then u else v)
  if_over true true e h k = h refl
  if_over false false e h k = k refl
  if_over true false e h k = absurd (false≢true e)
  if_over false true e h k = absurd (false≢true (sym e))

  parts_own : (rows : List ℕ) → AllByRecursion P rows → IsOver s P (map part rows) (map part (map (λ k. k + s) rows))
  parts_own [] h = none_over
  parts_own (k ∷ rows) h = part_over k (k + s) refl h.0 (parts_own rows h.1)

  pub parts_over : (rows there : List ℕ) → there ≡ map (λ k. k + s) rows → AllByRecursion P rows → IsOver s P (map part rows) (map part there)
  parts_over rows there e h = subst (λ z. IsOver s P (map part rows) (map part z)) (sym e) (parts_own rows h)

  stores_own : (rows : List ℕ) → AllByRecursion P rows → IsOver s P (flat_map (λ k. part k ∷ event k ∷ []) rows) (flat_map (λ k. part k ∷ event k ∷ []) (map (λ k. k + s) rows))
  stores_own [] h = none_over
  stores_own (k ∷ rows) h = part_over k (k + s) refl h.0 (more_over (event k) (event (k + s)) refl h.0 (stores_own rows h.1))

  -- each item is evaluated and stored
  pub stores_over : (rows there : List ℕ) → there ≡ map (λ k. k + s) rows → AllByRecursion P rows
      → IsOver s P (flat_map (λ k. part k ∷ event k ∷ []) rows) (flat_map (λ k. part k ∷ event k ∷ []) there)
  stores_over rows there e h = subst (λ z. IsOver s P (flat_map (λ k. part k ∷ event k ∷ []) rows) (flat_map (λ k. part k ∷ event k ∷ []) z)) (sym e) (stores_own rows h)

-- ---- hops

abbrev pub HopIn : (ℕ → Type 0) → Hop State → Type 0
HopIn P h = P h.to.row

pub hops_append : {A B : Type 0} (f : A → B) (xs ys : List (Hop A)) → each_hop f (xs ++ ys) ≡ each_hop f xs ++ each_hop f ys
hops_append f [] ys = refl
hops_append f (x ∷ xs) ys = ap (λ all. record { to = f x.to; is_throw = x.is_throw } ∷ all) (hops_append f xs ys)

module _ (s : ℕ) where
  abbrev pub later : Pending → Pending
  later w = map (moved_completion s) w

  all_at_over : (n i count : ℕ) (w : Pending) → all_at (n + s) i count (later w) ≡ each_hop (moved_state s) (all_at n i count w)
  all_at_over n i zero w = refl
  all_at_over n i (suc count) w = ap (λ all. plainly (at (n + s) i (later w)) ∷ all) (all_at_over n (i + 1) count w)

  throw_over : (c : Completion) → is_throw (moved_completion s c) ≡ is_throw c
  throw_over by_throw = refl
  throw_over _ = refl

  completing_over : (n : ℕ) (c : Completion) (w : Pending) → completing (n + s) (moved_completion s c) (later w) ∷ [] ≡ each_hop (moved_state s) (completing n c w ∷ [])
  completing_over n c w = ap (λ t. record { to = left (n + s) (moved_completion s c) (later w); is_throw = t } ∷ []) (throw_over c)

  without_default : (b : Bool) (n : ℕ) (w : Pending) → (if b then [] else plainly (left (n + s) normally (later w)) ∷ []) ≡ each_hop (moved_state s) (if b then [] else plainly (left n normally w) ∷ [])
  without_default true n w = refl
  without_default false n w = refl

  pub act_hops_over : (o : Option Act) (n i count : ℕ) (w : Pending) → act_hops (option_map (moved_act s) o) (n + s) i count (later w) ≡ each_hop (moved_state s) (act_hops o n i count w)
  act_hops_over None n i count w = refl
  act_hops_over (Some (choose b)) n i count w = ap₂ (λ x y. x ++ y) (all_at_over n (i + 1) (count - (i + 1)) w) (without_default b n w)
      ∙ sym (hops_append (moved_state s) (all_at n (i + 1) (count - (i + 1)) w) (if b then [] else plainly (left n normally w) ∷ []))
  act_hops_over (Some (jump c)) n i count w = completing_over n c w
  act_hops_over (Some (part k)) n i count w = refl
  act_hops_over (Some (event k)) n i count w = refl
  act_hops_over (Some (node k)) n i count w = refl
  act_hops_over (Some (define k d)) n i count w = refl
  act_hops_over (Some (use_of k d)) n i count w = refl
  act_hops_over (Some quit) n i count w = refl
  act_hops_over (Some (fork j)) n i count w = refl
  act_hops_over (Some (go j)) n i count w = refl

  pub act_point_over : (o : Option Act) (n : ℕ) → act_point (n + s) (option_map (moved_act s) o) ≡ option_map (moved_point (λ k. k + s)) (act_point n o)
  act_point_over None n = refl
  act_point_over (Some (part k)) n = refl
  act_point_over (Some (event k)) n = refl
  act_point_over (Some (node k)) n = refl
  act_point_over (Some (define k d)) n = refl
  act_point_over (Some (use_of k d)) n = refl
  act_point_over (Some quit) n = refl
  act_point_over (Some (fork j)) n = refl
  act_point_over (Some (choose b)) n = refl
  act_point_over (Some (go j)) n = refl
  act_point_over (Some (jump c)) n = refl

module _ (P : ℕ → Type 0) where
  all_at_in : (n i count : ℕ) (w : Pending) → P n → AllByRecursion (HopIn P) (all_at n i count w)
  all_at_in n i zero w h = tt
  all_at_in n i (suc count) w h = (h, all_at_in n (i + 1) count w h)

  pub act_hops_in : (o : Option Act) (n i count : ℕ) (w : Pending) → P n → IfAct P o → AllByRecursion (HopIn P) (act_hops o n i count w)
  act_hops_in None n i count w h k = (h, tt)
  act_hops_in (Some (part j)) n i count w h k = (k, tt)
  act_hops_in (Some (event j)) n i count w h k = (h, (h, tt))
  act_hops_in (Some quit) n i count w h k = (h, (h, tt))
  act_hops_in (Some (fork j)) n i count w h k = (h, (h, tt))
  act_hops_in (Some (choose b)) n i count w h k = all_append (HopIn P) (all_at n (i + 1) (count - (i + 1)) w) (if b then [] else plainly (left n normally w) ∷ [])
      (all_at_in n (i + 1) (count - (i + 1)) w h) (all_either (HopIn P) b [] (plainly (left n normally w) ∷ []) tt (h, tt))
  act_hops_in (Some (node j)) n i count w h k = (h, tt)
  act_hops_in (Some (define j d)) n i count w h k = (h, tt)
  act_hops_in (Some (use_of j d)) n i count w h k = (h, tt)
  act_hops_in (Some (go j)) n i count w h k = (h, tt)
  act_hops_in (Some (jump c)) n i count w h k = (h, tt)

  -- a point stands at such a row
  abbrev pub IfPoint : Option Point → Type 0
  IfPoint (Some x) = P x.row
  IfPoint None = Unit {0}

  pub act_point_in : (o : Option Act) (n : ℕ) → P n → IfAct P o → IfPoint (act_point n o)
  act_point_in None n h k = tt
  act_point_in (Some (part j)) n h k = tt
  act_point_in (Some (event j)) n h k = k
  act_point_in (Some (node j)) n h k = k
  act_point_in (Some (define j d)) n h k = k
  act_point_in (Some (use_of j d)) n h k = k
  act_point_in (Some quit) n h k = h
  act_point_in (Some (fork j)) n h k = h
  act_point_in (Some (choose b)) n h k = h
  act_point_in (Some (go j)) n h k = tt
  act_point_in (Some (jump c)) n h k = h
