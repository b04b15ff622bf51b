-- The copy of a body by itself is a body by itself.
use Rattle.std.proofs.Common.{◌≡◌, refl, sym, ◌∙◌, ap, subst, ⊎_elim, arith, ℕ, zero, suc, ◌+◌, ◌-◌, ◌<◌, ◌≤◌, Bool, true, false, if◌then◌else◌, List, [], ◌∷◌, length, Option, Some, None, nat_lt}
use Rattle.std.proofs.lemmas.Bool.{false≢true, cases_lt}
use Rattle.std.proofs.lemmas.Bool.Decides.{Decides-ltb}
use Rattle.std.proofs.lemmas.Option.{none-some, same_Some}
use Rattle.jr_tree.specs.declared.label.Label.{Label}
use Rattle.jr_tree.specs.declared.label.Label.TheVariants as is
use Rattle.jr_tree.specs.Rows.{Rows, label, parent, end, role_at}
use Rattle.jr_tree.specs.Tree.{IsTree}
use Rattle.jr_defs.specs.declared.referent.Referent.{Referent}
use Rattle.jr_defs.specs.declared.referent.Referent.TheVariants.{Unbound, Ambiguous, ArrayLength, Package, Declared}
use Rattle.jr_flow_defs.specs.Meaning.{Meaning, declared, is_local_role, local_among, local_at}
use Rattle.jr_flow_defs.specs.Acts.{siblings, children, is_loop, is_loop_or_switch, around, break_target, labeled_loop, continue_target}
use Rattle.jr_flow_laws.specs.Shifted.{IsIn, declares_code, least_parts, HasTarget, IsWholeBody}
use Rattle.jr_flow_laws.proofs.Moving.{same_test, at_or_below}
use Rattle.jr_flow_laws.proofs.Parents.{parents_follow}
use Rattle.jr_flow_laws.proofs.Jumping.{code_is_no_loop, code_is_no_target, outside_of}
use Rattle.jr_change.specs.declared.change.Change.{Change}
use Rattle.jr_locks.specs.Origins.{no_row}
use Rattle.jr_locks.specs.Ending.{StandsAgain}
use Rattle.jr_locks.specs.Changed.{IsChanged}
use Rattle.jr_locks.proofs.Standing.{on_few, on_ends, again_back}
use Rattle.jr_copied_flow.specs.Alone.{copy_in, IsLeftAlone, KeepsMeaning}
use Rattle.jr_copied_flow.proofs.Seen.{GoesTo}
use Rattle.jr_copied_flow.proofs.Alone as alone

-- two lists of which one goes on as long as the other
as_long : (b c : Bool) (k x : ℕ) (xs ys : List ℕ) → c ≡ b → (b ≡ true → length ys ≡ length xs) → length (if c then x ∷ ys else []) ≡ length (if b then k ∷ xs else [])
as_long true true k x xs ys e h = let l = h refl in omega (arith, l)
as_long false false k x xs ys e h = refl
as_long true false k x xs ys e h = absurd (false≢true e)
as_long false true k x xs ys e h = absurd (false≢true (sym e))

-- a local is one of what is declared
local_is : (p : Rows) (o : Option ℕ) (d : ℕ) → local_among p o ≡ Some d → o ≡ Some d
local_is p None d e = absurd (none-some d e)
local_is p (Some c) d e = by_test (is_local_role (role_at p c)) e where
  by_test : (b : Bool) → (if b then Some c else None) ≡ Some d → Some c ≡ Some d
  by_test true e = e
  by_test false e = absurd (none-some d e)

module _ (p q : Rows) (change : Change) (m w : Meaning) (body at : ℕ) (move : ℕ → ℕ) (changed : IsChanged p m.targets change q w.targets) (here : IsTree p) (there : IsTree q) (fits : length p ≤ no_row)
    (whole : IsWholeBody p m body) (left : IsLeftAlone p change body at) (read : KeepsMeaning p q m w change body at move) where
  abbrev In : ℕ → Type 0
  In = IsIn p body

  -- a row of the copy
  abbrev Under : ℕ → Type 0
  Under = IsIn q at

  abbrev Goes : Referent → Referent → Type 0
  Goes = GoesTo change.inner (alone.origin p q change m w body at move changed here there fits whole left read) (length p) at

  again : StandsAgain p q body at
  again = alone.again p q change m w body at move changed here there fits whole left read

  some : body < end p body
  some = here.nested body

  few_at : at < length q
  few_at = let a = again.few in omega (arith, a, some)

  end_at : end q at + body ≡ end p body + at
  end_at = let e : at + 0 ≡ at = omega arith in let f : body + 0 ≡ body = omega arith in
      subst (λ x. end q x + body ≡ end p body + at) e (subst (λ x. end q (at + 0) + body ≡ end p x + at) f (again.ends 0 (omega (arith, some))))

  -- the row k of the copy is that of the row n
  abbrev Stands : ℕ → ℕ → Type 0
  Stands n k = k + body ≡ n + at

  same_label : (n k : ℕ) → In n → Stands n k → label q k ≡ label p n
  same_label n k i e = let f = i.from in let t = i.to in let x : at + (n - body) ≡ k = omega (arith, e, f) in let y : body + (n - body) ≡ n = omega (arith, f) in
      ap (label q) (sym x) ∙ (again.labels (n - body) (omega (arith, f, t)) ∙ ap (label p) y)

  same_end : (n k : ℕ) → In n → Stands n k → end q k + body ≡ end p n + at
  same_end n k i e = let f = i.from in let t = i.to in let x : at + (n - body) ≡ k = omega (arith, e, f) in let y : body + (n - body) ≡ n = omega (arith, f) in
      subst (λ z. end q z + body ≡ end p n + at) x (subst (λ z. end q (at + (n - body)) + body ≡ end p z + at) y (again.ends (n - body) (omega (arith, f, t))))

  old_in : (n k : ℕ) → Under k → Stands n k → In n
  old_in n k u e = let f = u.from in let t = u.to in let a = end_at in record { from = omega (arith, e, f); to = omega (arith, e, t, a) }

  new_under : (n k : ℕ) → In n → Stands n k → Under k
  new_under n k i e = let f = i.from in let t = i.to in let a = end_at in record { from = omega (arith, e, f); to = omega (arith, e, t, a) }

  stands_at : (k : ℕ) → Under k → Stands (copy_in at body k) k
  stands_at k u = let f = u.from in omega (arith, f)

  stands_copy : (n : ℕ) → In n → Stands n (copy_in body at n)
  stands_copy n i = let f = i.from in omega (arith, f)

  -- ---- parents

  parents_on : (s : ℕ) → body + s ≡ at → (n k : ℕ) → In n → body < n → Stands n k → parent q k + body ≡ parent p n + at
  parents_on s high n k i less e =
      let stands : StandsAgain p q body (body + s) = subst (λ z. StandsAgain p q body z) (sym high) again in
      let r = parents_follow p q body s here there whole.few (on_few p q body s stands some) (λ n i. on_ends p q body s stands n i.from i.to) n i less in
      let same : n + s ≡ k = omega (arith, e, high) in
      let moved : parent q k ≡ parent p n + s = subst (λ z. parent q z ≡ parent p n + s) same r in
      omega (arith, moved, high)

  parents_back : (s : ℕ) → at + s ≡ body → (n k : ℕ) → In n → body < n → Stands n k → parent q k + body ≡ parent p n + at
  parents_back s low n k i less e =
      let stands : StandsAgain q p at (at + s) = subst (λ z. StandsAgain q p at z) (sym low) (again_back p q body at here there whole.few again) in
      let r = parents_follow q p at s there here few_at (on_few q p at s stands (there.nested at)) (λ n i. on_ends q p at s stands n i.from i.to) k (new_under n k i e) (omega (arith, e, less)) in
      let same : k + s ≡ n = omega (arith, e, low) in
      let moved : parent p n ≡ parent q k + s = subst (λ z. parent p z ≡ parent q k + s) same r in
      omega (arith, moved, low)

  same_parent : (n k : ℕ) → In n → body < n → Stands n k → Stands (parent p n) (parent q k)
  same_parent n k i less e = ⊎_elim (λ low. parents_back (body - at) (omega (arith, low)) n k i less e) (λ high. parents_on (at - body) (omega (arith, high)) n k i less e) (cases_lt at body)

  old_parent_in : (n : ℕ) → In n → body < n → In (parent p n)
  old_parent_in n i less = let l = here.last body whole.few in let t = i.to in let u = here.up n (omega (arith, l, t)) (omega (arith, less)) in record { from = here.inner body n less i.to; to = omega (arith, u, t) }

  -- ---- parts

  same_number_less : (x y k stop : ℕ) → Stands x k → Stands y stop → nat_lt x y ≡ nat_lt k stop
  same_number_less x y k stop e f = same_test (nat_lt x y) (nat_lt k stop) (Decides-ltb x y) (Decides-ltb k stop) (λ h. omega (arith, e, f, h)) (λ h. omega (arith, e, f, h))

  siblings_long : (room x y k stop : ℕ) → body ≤ x → y ≤ end p body → Stands x k → Stands y stop → length (siblings p room x y) ≡ length (siblings q room k stop)
  siblings_long zero x y k stop low high e f = refl
  siblings_long (suc room) x y k stop low high e f = as_long (nat_lt k stop) (nat_lt x y) k x (siblings q room (end q k) stop) (siblings p room (end p x) y) (same_number_less x y k stop e f)
      (λ t. let less = (Decides-ltb k stop).0 t in let up = here.nested x in
      siblings_long room (end p x) y (end q k) stop (omega (arith, up, low)) high (same_end x k (record { from = low; to = omega (arith, less, e, f, high) }) e) f)

  ends_inside : (n : ℕ) → In n → end p n ≤ end p body
  ends_inside n i = ⊎_elim (λ less. here.apart body n less i.to) (λ e. subst (λ k. end p k ≤ end p body) e (omega arith)) (at_or_below body n i.from)

  children_long : (n k : ℕ) → In n → Stands n k → length (children p n) ≡ length (children q k)
  children_long n k i e = let f = i.from in let ends = same_end n k i e in let up = here.nested n in let over = there.nested k in let room : end p n - n ≡ end q k - k = omega (arith, ends, e, up, over) in
      ap (λ z. length (siblings p z (n + 1) (end p n))) room
      ∙ siblings_long (end q k - k) (n + 1) (end p n) (k + 1) (end q k) (omega (arith, f)) (ends_inside n i) (omega (arith, e)) ends

  parts_at : (k : ℕ) → Under k → least_parts (label q k) ≤ length (children q k)
  parts_at k u = let e = stands_at k u in let i = old_in (copy_in at body k) k u e in let h = whole.parts (copy_in at body k) i in
      let same = ap least_parts (same_label (copy_in at body k) k i e) in let long = children_long (copy_in at body k) k i e in omega (arith, h, same, long)

  -- ---- jumps

  -- what is found in the copy where something is found in the body
  record IsFoundAt (o : Option ℕ) : Type 0 where
    row : ℕ
    found : o ≡ Some row
    inside : Under row

  has_target : {o : Option ℕ} → IsFoundAt o → HasTarget q at o
  has_target f = record { row = f.row; is_target = f.found; inside = f.inside }

  module _ (test : Label → Bool) (none : test (label p body) ≡ false) where
    found_next : (b c : Bool) (x y z : ℕ) (o r : Option ℕ) → c ≡ b → Under y → (if b then Some x else o) ≡ Some z → (b ≡ false → o ≡ Some z → IsFoundAt r) → IsFoundAt (if c then Some y else r)
    found_next true true x y z o r e u f rest = record { row = y; found = refl; inside = u }
    found_next false false x y z o r e u f rest = rest refl f
    found_next true false x y z o r e u f rest = absurd (false≢true e)
    found_next false true x y z o r e u f rest = absurd (false≢true (sym e))

    around_at : (room other n k x : ℕ) → In n → body < n → Stands n k → In x → k ≤ other + at → around p test room n ≡ Some x → IsFoundAt (around q test other k)
    around_at zero other n k x i less e j fuel f = absurd (none-some x f)
    around_at (suc room) zero n k x i less e j fuel f = absurd (omega (arith, less, e, fuel))
    around_at (suc room) (suc other) n k x i less e j fuel f =
        let over = old_parent_in n i less in
        let stands = same_parent n k i less e in
        found_next (test (label p (parent p n))) (test (label q (parent q k))) (parent p n) (parent q k) x (around p test room (parent p n)) (around q test other (parent q k))
        (ap test (same_label (parent p n) (parent q k) over stands)) (new_under (parent p n) (parent q k) over stands) f
        (λ t g. ⊎_elim (λ below. let l = here.last body whole.few in let to = i.to in let up = here.up n (omega (arith, l, to)) (omega (arith, less)) in
        around_at room other (parent p n) (parent q k) x over below stands j (omega (arith, up, stands, e, fuel)) g)
        (λ same. let before = outside_of p m body whole test none room (parent p n) x (omega (arith, same)) g in let from = j.from in absurd (omega (arith, before, from)))
        (at_or_below body (parent p n) over.from))

  goes_at : (n k : ℕ) → In n → Stands n k → Goes (m.targets n) (w.targets k)
  goes_at n k i e = let f = i.from in let same : copy_in body at n ≡ k = omega (arith, e, f) in
      subst (λ z. Goes (m.targets n) (w.targets z)) same (alone.goes p q change m w body at move changed here there fits whole left read n i)

  -- what is declared in the body
  record IsDeclaredAt (d : ℕ) (b : Referent) : Type 0 where
    row : ℕ
    declares : declared b ≡ Some row
    stands : Stands d row

  declared_at : (a b : Referent) (d : ℕ) → Goes a b → declared a ≡ Some d → In d → IsDeclaredAt d b
  declared_at Unbound b d g e i = absurd (none-some d e)
  declared_at Ambiguous b d g e i = absurd (none-some d e)
  declared_at ArrayLength b d g e i = absurd (none-some d e)
  declared_at Package b d g e i = absurd (none-some d e)
  declared_at (Declared c level) b d g e i = let same = same_Some c d e in let j = subst In (sym same) i in
      let at_copy = alone.seen_inside p q change m w body at move changed here there fits whole left read c g.row g.sees j in let f = j.from in
      record { row = g.row; declares = ap declared g.is; stands = omega (arith, same, at_copy, f) }

  below : (l : Label) (n : ℕ) → In n → label p n ≡ l → declares_code l ≡ false → body < n
  below l n i e none = ⊎_elim (λ less. less) (λ same. absurd (false≢true (sym none ∙ (ap declares_code (sym e) ∙ subst (λ k. declares_code (label p k) ≡ true) same whole.declares)))) (at_or_below body n i.from)

  break_at : (n k : ℕ) (has_label : Bool) → In n → Stands n k → label p n ≡ is.Break has_label → HasTarget p body (break_target p m n has_label) → IsFoundAt (break_target q w k has_label)
  break_at n k true i e l t = let d = declared_at (m.targets n) (w.targets k) t.row (goes_at n k i e) t.is_target t.inside in
      record { row = d.row; found = d.declares; inside = new_under t.row d.row t.inside d.stands }
  break_at n k false i e l t = around_at is_loop_or_switch (code_is_no_target (label p body) whole.declares) n k n k t.row i (below (is.Break false) n i l refl) e t.inside (omega arith) t.is_target

  breaks_at : (k : ℕ) (has_label : Bool) → Under k → label q k ≡ is.Break has_label → HasTarget q at (break_target q w k has_label)
  breaks_at k has_label u l = let e = stands_at k u in let i = old_in (copy_in at body k) k u e in let old = sym (same_label (copy_in at body k) k i e) ∙ l in
      has_target (break_at (copy_in at body k) k has_label i e old (whole.breaks (copy_in at body k) has_label i old))

  labeled_at : (d c x : ℕ) → In x → labeled_loop p (Some d) ≡ Some x → (In d → Stands d c) → IsFoundAt (labeled_loop q (Some c))
  labeled_at d c x i e stands = by_test (is_loop (label p (d + 1))) refl e where
    no_loop : is_loop (label p body) ≡ false
    no_loop = code_is_no_loop (label p body) whole.declares

    by_test : (b : Bool) → is_loop (label p (d + 1)) ≡ b → (if b then Some (d + 1) else None) ≡ Some x → IsFoundAt (labeled_loop q (Some c))
    by_test false t e = absurd (none-some x e)
    by_test true t e =
        let same = same_Some (d + 1) x e in
        let j : In (d + 1) = subst In (sym same) i in
        let less : body < d + 1 = ⊎_elim (λ less. less) (λ here. absurd (false≢true (sym no_loop ∙ (ap (λ k. is_loop (label p k)) here ∙ t)))) (at_or_below body (d + 1) j.from) in
        let to = j.to in
        let s = stands (record { from = omega (arith, less); to = omega (arith, to) }) in
        let next : Stands (d + 1) (c + 1) = omega (arith, s) in
        let looped : is_loop (label q (c + 1)) ≡ true = ap is_loop (same_label (d + 1) (c + 1) j next) ∙ t in
        record { row = c + 1; found = ap (λ b. if b then Some (c + 1) else None) looped; inside = new_under (d + 1) (c + 1) j next }

  loop_at : (a b : Referent) (x : ℕ) → Goes a b → In x → labeled_loop p (declared a) ≡ Some x → IsFoundAt (labeled_loop q (declared b))
  loop_at Unbound b x g i e = absurd (none-some x e)
  loop_at Ambiguous b x g i e = absurd (none-some x e)
  loop_at ArrayLength b x g i e = absurd (none-some x e)
  loop_at Package b x g i e = absurd (none-some x e)
  loop_at (Declared d level) b x g i e = subst (λ z. IsFoundAt (labeled_loop q (declared z))) (sym g.is) (labeled_at d g.row x i e
      (λ j. let at_copy = alone.seen_inside p q change m w body at move changed here there fits whole left read d g.row g.sees j in let f = j.from in omega (arith, at_copy, f)))

  continue_at : (n k : ℕ) (has_label : Bool) → In n → Stands n k → label p n ≡ is.Continue has_label → HasTarget p body (continue_target p m n has_label) → IsFoundAt (continue_target q w k has_label)
  continue_at n k true i e l t = loop_at (m.targets n) (w.targets k) t.row (goes_at n k i e) t.inside t.is_target
  continue_at n k false i e l t = around_at is_loop (code_is_no_loop (label p body) whole.declares) n k n k t.row i (below (is.Continue false) n i l refl) e t.inside (omega arith) t.is_target

  continues_at : (k : ℕ) (has_label : Bool) → Under k → label q k ≡ is.Continue has_label → HasTarget q at (continue_target q w k has_label)
  continues_at k has_label u l = let e = stands_at k u in let i = old_in (copy_in at body k) k u e in let old = sym (same_label (copy_in at body k) k i e) ∙ l in
      has_target (continue_at (copy_in at body k) k has_label i e old (whole.continues (copy_in at body k) has_label i old))

  -- ---- locals

  local_by : (n k : ℕ) (a b : Referent) (d : ℕ) → In n → Stands n k → m.targets n ≡ a → w.targets k ≡ b → Goes a b → local_among q (declared b) ≡ Some d → Under d
  local_by n k Unbound b d i st e h g l = absurd (none-some d (sym (ap (λ z. local_among q (declared z)) g) ∙ l))
  local_by n k Ambiguous b d i st e h g l = absurd (none-some d (sym (ap (λ z. local_among q (declared z)) g) ∙ l))
  local_by n k ArrayLength b d i st e h g l = absurd (none-some d (sym (ap (λ z. local_among q (declared z)) g) ∙ l))
  local_by n k Package b d i st e h g l = absurd (none-some d (sym (ap (λ z. local_among q (declared z)) g) ∙ l))
  local_by n k (Declared c level) b d i st e h g l =
      let now : local_among q (Some g.row) ≡ Some d = sym (ap (λ z. local_among q (declared z)) g.is) ∙ l in
      let same : g.row ≡ d = same_Some g.row d (local_is q (Some g.row) d now) in
      let from = i.from in
      let stood : copy_in body at n ≡ k = omega (arith, st, from) in
      let role = read.roles n c g.row i (ap declared e) (ap (λ z. declared (w.targets z)) stood ∙ (ap declared h ∙ ap declared g.is)) in
      let old : local_at p m n ≡ Some c = ap (λ z. local_among p (declared z)) e ∙ local_was c g.row (ap is_local_role role) d now in
      let j = whole.locals n c i old in
      let at_copy = alone.seen_inside p q change m w body at move changed here there fits whole left read c g.row g.sees j in
      let f = j.from in
      new_under c d j (omega (arith, at_copy, same, f))
    where
      local_was : (c r : ℕ) → is_local_role (role_at q r) ≡ is_local_role (role_at p c) → (d : ℕ) → local_among q (Some r) ≡ Some d → local_among p (Some c) ≡ Some c
      local_was c r same d e = by_test (is_local_role (role_at q r)) (is_local_role (role_at p c)) same e where
        by_test : (s t : Bool) → s ≡ t → (if s then Some r else None) ≡ Some d → (if t then Some c else None) ≡ Some c
        by_test true true e f = refl
        by_test true false e f = absurd (false≢true (sym e))
        by_test false t e f = absurd (none-some d f)

  locals_at : (k d : ℕ) → Under k → local_at q w k ≡ Some d → Under d
  locals_at k d u l = let e = stands_at k u in let i = old_in (copy_in at body k) k u e in
      local_by (copy_in at body k) k (m.targets (copy_in at body k)) (w.targets k) d i e refl refl (goes_at (copy_in at body k) k i e) l

  pub whole_at : IsWholeBody q w at
  whole_at = record {
    tree = there;
    few = few_at;
    declares = let i : In body = record { from = omega arith; to = some } in ap declares_code (same_label body at i (omega arith)) ∙ whole.declares;
    parts = parts_at;
    breaks = breaks_at;
    continues = continues_at;
    locals = locals_at;
  }
