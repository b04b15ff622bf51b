-- The way up by first supertypes.
use Rattle.std.proofs.Common.{◌≡◌, refl, sym, ◌∙◌, ap, subst, ⊎_elim, arith, ℕ, zero, suc, ◌+◌, ◌<◌, ◌≤◌, Bool, true, false, cond, ◌&&◌, List, Option, Some, None, nat_eq, nat_lt, nat_le, unwrap_or, Decides}
use Rattle.std.specs.List.{list_any}
use Rattle.std.proofs.lemmas.Bool.{false≢true, cases_lt, or_left, or_right, or_cases, and_from, and_parts, leb-true, le-leb}
use Rattle.std.proofs.lemmas.Bool.Decides.{Decides-eqb, Decides-ltb}
use Rattle.std.proofs.lemmas.Option.{none-some, same_Some}
use Rattle.jr_tree.specs.Rows.{Rows}
use Rattle.jr_defs.specs.Referents.{Table}
use Rattle.jr_defs.specs.Supertypes.{Super}
use Rattle.jr_plain.specs.Search.{Reaches}
use Rattle.jr_supers.specs.declared.above.Link.{Link}
use Rattle.jr_supers.specs.Pairs.{uppers}
use Rattle.jr_supers.specs.Above.{Tables, link_at, up_of, depth_of, branching_of, up_at, branching_from, branching_above, walk, jump_up, step_by, go_up, climb, at_depth, is_linked_to, is_linked, is_some_item, IsKnown, OnChain, AreAbove}

le_tells : (a b : ℕ) → Decides (nat_le a b) (a ≤ b)
le_tells a b = (leb-true a b, le-leb a b)

pub up_known : (o : Option Link) (u : ℕ) → up_of o ≡ Some u → (l : Link) × (o ≡ Some l) × (l.up ≡ Some u)
up_known None u e = absurd (none-some u e)
up_known (Some l) u e = (l, refl, e)

pub chain_then : {links : List (Option Link)} {a b c : ℕ} → OnChain links a b → OnChain links b c → OnChain links a c
chain_then OnChain.here k = k
chain_then (OnChain.over e h) k = OnChain.over e (chain_then h k)

pub chain_one_up : {links : List (Option Link)} {c u : ℕ} → up_at links c ≡ Some u → OnChain links c u
chain_one_up e = OnChain.over e OnChain.here

module _ (p : Rows) (t : Table) (T : Tables) (A : AreAbove p t T) where
  abbrev depth : ℕ → ℕ
  depth c = depth_of (link_at T.links c)

  -- one step up
  abbrev Rises : ℕ → ℕ → Type 0
  Rises c u = (l : Link) × (k : Link) × (link_at T.links c ≡ Some l) × (link_at T.links u ≡ Some k) × (l.up ≡ Some u) × (depth c ≡ suc (depth u)) × Super p t c u

  pub rises : (c u : ℕ) → up_at T.links c ≡ Some u → Rises c u
  rises c u e = let l = up_known (link_at T.links c) u e in let f = (A.each c l.0 l.1).first u l.2 in
      (l.0, f.1.over, l.1, f.1.known, l.2, ap depth_of l.1 ∙ f.1.deeper ∙ ap (λ o. suc (depth_of o)) (sym f.1.known), f.0)

  pub chain_falls : (c y : ℕ) → OnChain T.links c y → depth y ≤ depth c
  chain_falls c _ OnChain.here = omega arith
  chain_falls c y (OnChain.over {u = u} e h) = let r = rises c u e in let d = r.5 in let le = chain_falls u y h in omega arith

  pub chain_known : (c y : ℕ) → OnChain T.links c y → IsKnown T.links c → IsKnown T.links y
  chain_known c _ OnChain.here k = k
  chain_known c y (OnChain.over {u = u} e h) k = let r = rises c u e in chain_known u y h (r.1, r.3)

  pub chain_one : (c x y : ℕ) → OnChain T.links c x → OnChain T.links c y → depth x ≡ depth y → x ≡ y
  chain_one c _ _ OnChain.here OnChain.here e = refl
  chain_one c _ y OnChain.here (OnChain.over {u = u} f k) e = let r = rises c u f in let d = r.5 in let le = chain_falls u y k in absurd (omega arith)
  chain_one c x _ (OnChain.over {u = u} f k) OnChain.here e = let r = rises c u f in let d = r.5 in let le = chain_falls u x k in absurd (omega arith)
  chain_one c x y (OnChain.over {u = u} f k) (OnChain.over {u = v} g h) e = chain_one u x y k (subst (λ w. OnChain T.links w y) (sym (same_Some u v (sym f ∙ g))) h) e

  -- strictly above by first supertypes
  abbrev pub Strictly : ℕ → ℕ → Type 0
  Strictly c s = (u : ℕ) × (up_at T.links c ≡ Some u) × OnChain T.links u s

  chain_reaches : (c u s : ℕ) → up_at T.links c ≡ Some u → OnChain T.links u s → Reaches (Super p t) c s
  chain_reaches c u _ e OnChain.here = let r = rises c u e in Reaches.direct r.6
  chain_reaches c u s e (OnChain.over {u = v} f h) = let r = rises c u e in Reaches.further r.6 (chain_reaches u v s f h)

  pub strictly_reaches : (c s : ℕ) → Strictly c s → Reaches (Super p t) c s
  strictly_reaches c s h = chain_reaches c h.0 s h.1 h.2

  -- ---- up to a depth

  next_up : (c here depth_to turns : ℕ) (l : Link) (far : Option Link) → OnChain T.links c here → link_at T.links here ≡ Some l → link_at T.links l.jump ≡ far → depth_to < l.depth → l.depth ≤ suc (depth_to + turns)
      → (OnChain T.links c (jump_up depth_to here l far)) × (depth_to ≤ depth (jump_up depth_to here l far)) × (depth (jump_up depth_to here l far) ≤ depth_to + turns) × IsKnown T.links (jump_up depth_to here l far)
  next_up c here depth_to turns l far on is jump gt le = by far jump
    where
      Good : ℕ → Type 0
      Good x = OnChain T.links c x × (depth_to ≤ depth x) × (depth x ≤ depth_to + turns) × IsKnown T.links x

      up : (o : Option ℕ) → l.up ≡ o → Good (unwrap_or o here)
      up None e = let z = (A.each here l is).top e in absurd (omega arith)
      up (Some u) e = let at : up_at T.links here ≡ Some u = ap up_of is ∙ e in let r = rises here u at in let d = r.5 in let same = ap depth_of is in
          (chain_then on (chain_one_up at), omega arith, omega arith, (r.1, r.3))

      far_by : (k : Link) → link_at T.links l.jump ≡ Some k → (b : Bool) → (nat_le depth_to k.depth && nat_lt k.depth l.depth) ≡ b → Good (cond b l.jump (unwrap_or l.up here))
      far_by k j true e = let both = and_parts (nat_le depth_to k.depth) (nat_lt k.depth l.depth) e in let a = (le_tells depth_to k.depth).0 both.0 in let b = (Decides-ltb k.depth l.depth).0 both.1 in let same = ap depth_of j in
          (chain_then on (A.each here l is).jumps, omega arith, omega arith, (k, j))
      far_by k j false e = up l.up refl

      by : (far : Option Link) → link_at T.links l.jump ≡ far → Good (jump_up depth_to here l far)
      by None j = up l.up refl
      by (Some k) j = far_by k j (nat_le depth_to k.depth && nat_lt k.depth l.depth) refl

  pub climb_is : (c turns depth_to here : ℕ) → OnChain T.links c here → IsKnown T.links here → depth_to ≤ depth here → depth here ≤ depth_to + turns
      → OnChain T.links c (climb T.links depth_to turns here) × (depth (climb T.links depth_to turns here) ≡ depth_to)
  climb_is c zero depth_to here on known le most = (on, omega arith)
  climb_is c (suc turns) depth_to here on known le most = by (link_at T.links here) refl (λ x. climb_is c turns depth_to x)
    where
      Ends : ℕ → Type 0
      Ends x = OnChain T.links c x × (depth x ≡ depth_to)

      step : (l : Link) → link_at T.links here ≡ Some l → ((x : ℕ) → OnChain T.links c x → IsKnown T.links x → depth_to ≤ depth x → depth x ≤ depth_to + turns → Ends (climb T.links depth_to turns x)) → (b : Bool) → nat_le l.depth depth_to ≡ b
          → Ends (go_up (climb T.links depth_to turns) here (cond b None (Some (jump_up depth_to here l (link_at T.links l.jump)))))
      step l is more true e = let a = (le_tells l.depth depth_to).0 e in let same = ap depth_of is in (on, omega arith)
      step l is more false e = let same = ap depth_of is in
          let gt : depth_to < l.depth = ⊎_elim (λ lt. lt) (λ ge. absurd (false≢true (sym e ∙ (le_tells l.depth depth_to).1 ge))) (cases_lt depth_to l.depth) in
          let n = next_up c here depth_to turns l (link_at T.links l.jump) on is refl gt (omega arith) in more (jump_up depth_to here l (link_at T.links l.jump)) n.0 n.3 n.1 n.2

      by : (o : Option Link) → link_at T.links here ≡ o → ((x : ℕ) → OnChain T.links c x → IsKnown T.links x → depth_to ≤ depth x → depth x ≤ depth_to + turns → Ends (climb T.links depth_to turns x))
          → Ends (go_up (climb T.links depth_to turns) here (step_by T.links depth_to here o))
      by None e more = absurd (none-some known.0 (sym e ∙ known.1))
      by (Some l) e more = step l e more (nat_le l.depth depth_to) refl

  -- ---- by first supertypes

  module _ (c : ℕ) (low : Link) (is : link_at T.links c ≡ Some low) where
    at_depth_is : (d : ℕ) → d ≤ low.depth → OnChain T.links c (at_depth T.links c d) × (depth (at_depth T.links c d) ≡ d)
    at_depth_is d le = let same = ap depth_of is in climb_is c (suc (depth c)) d c OnChain.here (low, is) (omega arith) (omega arith)

    linked_out : (s : ℕ) (o : Option Link) → link_at T.links s ≡ o → is_linked_to T.links c low s o ≡ true → Strictly c s
    linked_out s None e h = absurd (false≢true h)
    linked_out s (Some high) e h =
        let both = and_parts (nat_lt high.depth low.depth) (nat_eq (at_depth T.links c high.depth) s) h in
        let lt = (Decides-ltb high.depth low.depth).0 both.0 in
        let at = at_depth_is high.depth (omega arith) in let on = subst (λ x. OnChain T.links c x) ((Decides-eqb (at_depth T.links c high.depth) s).0 both.1) at.0 in
        by on
      where
        by : OnChain T.links c s → Strictly c s
        by on = strict on (λ same. let k = same_Some low high (sym is ∙ ap (link_at T.links) same ∙ e) in let lt = (Decides-ltb high.depth low.depth).0 (and_parts (nat_lt high.depth low.depth) (nat_eq (at_depth T.links c high.depth) s) h).0 in let d = ap (λ l. l.depth) k in absurd (omega arith))
          where
            strict : {y : ℕ} → OnChain T.links c y → (c ≡ y → ⊥) → Strictly c y
            strict OnChain.here apart = absurd (apart refl)
            strict (OnChain.over {u = u} e h) apart = (u, e, h)

    linked_into : (s : ℕ) → Strictly c s → is_linked T.links c low s ≡ true
    linked_into s h = let r = rises c h.0 h.1 in let known = chain_known h.0 s h.2 (r.1, r.3) in
        let high = known.0 in let there = ap depth_of known.1 in let mine = ap depth_of is in let d = r.5 in let le = chain_falls h.0 s h.2 in
        let lt : high.depth < low.depth = omega arith in
        let at = at_depth_is high.depth (omega arith) in let deep = at.1 in
        subst (λ o. is_linked_to T.links c low s o ≡ true) (sym known.1)
        (and_from (nat_lt high.depth low.depth) (nat_eq (at_depth T.links c high.depth) s) ((Decides-ltb high.depth low.depth).1 lt)
        ((Decides-eqb (at_depth T.links c high.depth) s).1 (chain_one c (at_depth T.links c high.depth) s at.0 (OnChain.over h.1 h.2) (deep ∙ sym there))))

    pub linked_tells : (s : ℕ) → Decides (is_linked T.links c low s) (Strictly c s)
    linked_tells s = (linked_out s (link_at T.links s) refl, linked_into s)

  -- ---- by further supertypes

  -- the nearest that branches stands on the way up
  branching_up : (c b : ℕ) (l : Link) → link_at T.links c ≡ Some l → ((u : ℕ) (k : Link) → link_at T.links u ≡ Some k → l.depth ≡ suc k.depth → k.branching ≡ Some b → OnChain T.links u b)
      → (x : Bool) (o : Option ℕ) → l.up ≡ o → Some b ≡ cond x (Some c) (branching_from T.links o) → OnChain T.links c b
  branching_up c b l is more true o up h = subst (λ y. OnChain T.links c y) (sym (same_Some b c h)) OnChain.here
  branching_up c b l is more false None up h = absurd (none-some b (sym h))
  branching_up c b l is more false (Some u) up h = let at : up_at T.links c ≡ Some u = ap up_of is ∙ up in let f = ((A.each c l is).first u up).1 in
      OnChain.over at (more u f.over f.known f.deeper (sym (h ∙ ap branching_of f.known)))

  branches_are : (c b : ℕ) (l : Link) → link_at T.links c ≡ Some l → l.branching ≡ Some b → Some b ≡ cond (is_some_item (uppers T.pairs c)) (Some c) (branching_from T.links l.up)
  branches_are c b l is e = sym e ∙ (A.each c l is).branches

  pub branching_on : (n c b : ℕ) (l : Link) → link_at T.links c ≡ Some l → l.depth ≤ n → l.branching ≡ Some b → OnChain T.links c b
  branching_on zero c b l is le e = branching_up c b l is (λ u k there d f. absurd (omega arith)) (is_some_item (uppers T.pairs c)) l.up refl (branches_are c b l is e)
  branching_on (suc n) c b l is le e = branching_up c b l is (λ u k there d f. branching_on n u b k there (omega arith) f) (is_some_item (uppers T.pairs c)) l.up refl (branches_are c b l is e)

  -- what stands above from there on
  abbrev further_on : (ℕ → Bool) → ℕ → Option ℕ → Bool
  further_on test turns at = list_any test (walk (branching_above T.links) turns at)

  abbrev pub SomeOn : (ℕ → Bool) → ℕ → Type 0
  SomeOn test c = (y : ℕ) × OnChain T.links c y × (test y ≡ true)

  branched_from : (test : ℕ → Bool) (turns c b : ℕ) (l : Link) → link_at T.links c ≡ Some l → OnChain T.links c b
      → ((u : ℕ) (k : Link) → link_at T.links u ≡ Some k → OnChain T.links c u → further_on test turns k.branching ≡ true → SomeOn test c)
      → (o : Option ℕ) → up_at T.links b ≡ o → further_on test turns (branching_from T.links o) ≡ true → SomeOn test c
  branched_from test zero c b l is on more None up h = absurd (false≢true h)
  branched_from test (suc turns) c b l is on more None up h = absurd (false≢true h)
  branched_from test turns c b l is on more (Some u) up h = let r = rises b u up in more u r.1 r.3 (chain_then on (chain_one_up up)) (ap (λ o. further_on test turns (branching_of o)) (sym r.3) ∙ h)

  pub branched_out : (test : ℕ → Bool) (turns c : ℕ) (l : Link) → link_at T.links c ≡ Some l → further_on test turns l.branching ≡ true → SomeOn test c
  branched_out test zero c l is h = absurd (false≢true h)
  branched_out test (suc turns) c l is h = by l.branching refl h (λ u k there on f. let m = branched_out test turns u k there f in (m.0, chain_then on m.1, m.2))
    where
      by : (o : Option ℕ) → l.branching ≡ o → further_on test (suc turns) o ≡ true
          → ((u : ℕ) (k : Link) → link_at T.links u ≡ Some k → OnChain T.links c u → further_on test turns k.branching ≡ true → SomeOn test c) → SomeOn test c
      by None e h more = absurd (false≢true h)
      by (Some b) e h more = let on = branching_on l.depth c b l is (omega arith) e in
          ⊎_elim (λ k. (b, on, k)) (λ k. branched_from test turns c b l is on more (up_at T.links b) refl k) (or_cases (test b) (further_on test turns (branching_above T.links b)) h)

  branched_here : (test : ℕ → Bool) (n c : ℕ) (l : Link) → link_at T.links c ≡ Some l → ((y : ℕ) → test y ≡ true → is_some_item (uppers T.pairs y) ≡ true) → test c ≡ true → further_on test (suc n) l.branching ≡ true
  branched_here test n c l is some h = ap (further_on test (suc n)) ((A.each c l is).branches ∙ ap (λ x. cond x (Some c) (branching_from T.links l.up)) (some c h)) ∙ or_left (test c) (further_on test n (branching_above T.links c)) h

  branched_over : (test : ℕ → Bool) (n c u : ℕ) (l k : Link) → link_at T.links c ≡ Some l → l.up ≡ Some u → link_at T.links u ≡ Some k → l.depth ≡ suc k.depth
      → ((m : ℕ) → k.depth ≤ m → further_on test (suc m) k.branching ≡ true) → l.depth ≤ n → (x : Bool) → is_some_item (uppers T.pairs c) ≡ x → further_on test (suc n) l.branching ≡ true
  branched_over test zero c u l k is up there d more le x e = absurd (omega arith)
  branched_over test (suc m) c u l k is up there d more le true e =
      ap (further_on test (suc (suc m))) ((A.each c l is).branches ∙ ap (λ x. cond x (Some c) (branching_from T.links l.up)) e)
      ∙ or_right (test c) (further_on test (suc m) (branching_above T.links c))
      (ap (λ o. further_on test (suc m) (branching_from T.links (up_of o))) is ∙ ap (λ o. further_on test (suc m) (branching_from T.links o)) up ∙ ap (λ o. further_on test (suc m) (branching_of o)) there ∙ more m (omega arith))
  branched_over test (suc m) c u l k is up there d more le false e =
      ap (further_on test (suc (suc m))) ((A.each c l is).branches ∙ ap (λ x. cond x (Some c) (branching_from T.links l.up)) e ∙ ap (branching_from T.links) up ∙ ap branching_of there) ∙ more (suc m) (omega arith)

  pub branched_into : (test : ℕ → Bool) → ((y : ℕ) → test y ≡ true → is_some_item (uppers T.pairs y) ≡ true) → (c y n : ℕ) (l : Link) → OnChain T.links c y → link_at T.links c ≡ Some l → l.depth ≤ n → test y ≡ true
      → further_on test (suc n) l.branching ≡ true
  branched_into test some c _ n l OnChain.here is le h = branched_here test n c l is some h
  branched_into test some c y n l (OnChain.over {u = u} e on) is le h =
      let up : l.up ≡ Some u = ap up_of (sym is) ∙ e in let f = ((A.each c l is).first u up).1 in
      branched_over test n c u l f.over is up f.known f.deeper (λ m le. branched_into test some u y m f.over on f.known le h) le (is_some_item (uppers T.pairs c)) refl
