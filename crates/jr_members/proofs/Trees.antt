-- Trees of names that share what they have in common.
use Rattle.std.proofs.Common.{◌≡◌, ◌⊎◌, refl, sym, ◌∙◌, ap, subst, inl, inr, ⊎_elim, arith, ℕ, zero, suc, ◌+◌, ◌/◌, ◌<◌, ◌≤◌, Bool, true, false, cond, List, [], ◌∷◌, ◌++◌, length, length-append, Option, Some, None, nat_eq}
use Rattle.std.specs.Prelude.{IfSome, slice_get}
use Rattle.std.proofs.lemmas.Bool.{false_from_ne_true, cond_both, cond-true, cond-false}
use Rattle.std.proofs.lemmas.Bool.Decides.{Decides-eqb}
use Rattle.std.proofs.lemmas.Option.{none-some, same_Some}
use Rattle.jr_members.specs.declared.nearest.Lister.{Lister}
use Rattle.jr_members.specs.declared.nearest.Node.{Node}
use Rattle.jr_members.specs.Nearest.{node_of, is_even, below, with_below, with_lister, leaf, found_at, seek, IsIn, IsClosed, Keeps, IsSet, Sets}

-- ---- one node more

get_kept : (nodes : List Node) (more : Node) (n : ℕ) → n < length nodes → slice_get (nodes ++ more ∷ []) n ≡ slice_get nodes n
get_kept [] more n lt = absurd (omega arith)
get_kept (node ∷ nodes) more zero lt = refl
get_kept (node ∷ nodes) more (suc n) lt = get_kept nodes more n (omega arith)

get_new : (nodes : List Node) (more : Node) → slice_get (nodes ++ more ∷ []) (length nodes) ≡ Some more
get_new [] more = refl
get_new (node ∷ nodes) more = get_new nodes more

get_past : (nodes : List Node) (n : ℕ) (node : Node) → slice_get nodes n ≡ Some node → n < length nodes
get_past [] n node e = absurd (none-some node e)
get_past (first ∷ nodes) zero node e = omega arith
get_past (first ∷ nodes) (suc n) node e = let lt = get_past nodes n node e in omega arith

below_in : (nodes : List Node) (n : ℕ) (node : Node) (bits : ℕ) → IsClosed nodes → slice_get nodes n ≡ Some node → IsIn nodes (below node bits)
below_in nodes n node bits h e = cond_both (is_even bits) node.even node.odd (λ o. IsIn nodes o) (λ k. h.even n node e) (λ k. h.odd n node e)

pub node_in : (nodes : List Node) (tree : Option ℕ) (node : Node) (bits : ℕ) → IsClosed nodes → node_of nodes tree ≡ Some node → IsIn nodes (below node bits)
node_in nodes None node bits h e = absurd (none-some node e)
node_in nodes (Some n) node bits h e = below_in nodes n node bits h e

-- what stands below a node that is there is there
parts_in : (nodes : List Node) (tree : Option ℕ) (node : Node) → IsClosed nodes → node_of nodes tree ≡ Some node → IsIn nodes node.even × IsIn nodes node.odd
parts_in nodes None node h e = absurd (none-some node e)
parts_in nodes (Some n) node h e = (h.even n node e, h.odd n node e)

module _ (nodes : List Node) (more : Node) where
  longer : length (nodes ++ more ∷ []) ≡ suc (length nodes)
  longer = let s = length-append nodes (more ∷ []) in omega arith

  still_in : (tree : Option ℕ) → IsIn nodes tree → IsIn (nodes ++ more ∷ []) tree
  still_in None h = tt
  still_in (Some n) h = let l = longer in omega arith

  node_kept : (tree : Option ℕ) → IsIn nodes tree → node_of (nodes ++ more ∷ []) tree ≡ node_of nodes tree
  node_kept None h = refl
  node_kept (Some n) h = get_kept nodes more n h

  module _ (closed : IsClosed nodes) where
    seek_kept : (levels name bits : ℕ) (tree : Option ℕ) → IsIn nodes tree → seek (nodes ++ more ∷ []) levels name bits tree ≡ seek nodes levels name bits tree
    seek_kept zero name bits tree h = refl
    seek_kept (suc levels) name bits tree h = ap (found_at (seek (nodes ++ more ∷ []) levels name (bits / 2)) name bits) (node_kept tree h) ∙ by (node_of nodes tree) refl (λ t k. seek_kept levels name (bits / 2) t k)
      where
        by : (o : Option Node) → node_of nodes tree ≡ o → ((t : Option ℕ) → IsIn nodes t → seek (nodes ++ more ∷ []) levels name (bits / 2) t ≡ seek nodes levels name (bits / 2) t)
            → found_at (seek (nodes ++ more ∷ []) levels name (bits / 2)) name bits o ≡ found_at (seek nodes levels name (bits / 2)) name bits o
        by None e further = refl
        by (Some node) e further = ap (λ o. cond (nat_eq node.name name) (Some node.lister) o) (further (below node bits) (node_in nodes tree node bits closed e))

    module _ (even : IsIn nodes more.even) (odd : IsIn nodes more.odd) where
      closed_more : IsClosed (nodes ++ more ∷ [])
      closed_more = record {
        even = λ n node e. by n node e (λ o. o.even) (λ k. closed.even n node k) even;
        odd = λ n node e. by n node e (λ o. o.odd) (λ k. closed.odd n node k) odd;
      }
        where
          by : (n : ℕ) (node : Node) → slice_get (nodes ++ more ∷ []) n ≡ Some node → (side : Node → Option ℕ) → (slice_get nodes n ≡ Some node → IsIn nodes (side node)) → IsIn nodes (side more) → IsIn (nodes ++ more ∷ []) (side node)
          by n node e side old new = let l = longer in let lt = get_past (nodes ++ more ∷ []) n node e in let side_of : (n < length nodes) ⊎ (n ≡ length nodes) = grind arith in
              ⊎_elim (λ lt. still_in (side node) (old (sym (get_kept nodes more n lt) ∙ e)))
              (λ same. let one : more ≡ node = same_Some more node (sym (get_new nodes more) ∙ ap (slice_get (nodes ++ more ∷ [])) (sym same) ∙ e) in still_in (side node) (subst (λ o. IsIn nodes (side o)) one new)) side_of

      pub keeps_more : Keeps nodes (nodes ++ more ∷ [])
      keeps_more = record { closed = closed_more; there = still_in; same = seek_kept }

pub keeps_itself : (nodes : List Node) → IsClosed nodes → Keeps nodes nodes
keeps_itself nodes h = record { closed = h; there = λ tree k. k; same = λ levels name bits tree k. refl }

pub keeps_then : (old mid new : List Node) → Keeps old mid → Keeps mid new → Keeps old new
keeps_then old mid new h k = record {
  closed = k.closed;
  there = λ tree i. k.there tree (h.there tree i);
  same = λ levels name bits tree i. k.same levels name bits tree (h.there tree i) ∙ h.same levels name bits tree i;
}

-- ---- what a new node has

new_in : (nodes : List Node) (node : Node) → IsIn (nodes ++ node ∷ []) (Some (length nodes))
new_in nodes node = let l = longer nodes node in omega arith

seek_new : (nodes : List Node) (node : Node) (levels name bits : ℕ) → seek (nodes ++ node ∷ []) (suc levels) name bits (Some (length nodes)) ≡ cond (nat_eq node.name name) (Some node.lister) (seek (nodes ++ node ∷ []) levels name (bits / 2) (below node bits))
seek_new nodes node levels name bits = ap (found_at (seek (nodes ++ node ∷ []) levels name (bits / 2)) name bits) (get_new nodes node)

seek_old : (nodes : List Node) (tree : Option ℕ) (node : Node) (levels name bits : ℕ) → node_of nodes tree ≡ Some node → seek nodes (suc levels) name bits tree ≡ cond (nat_eq node.name name) (Some node.lister) (seek nodes levels name (bits / 2) (below node bits))
seek_old nodes tree node levels name bits e = ap (found_at (seek nodes levels name (bits / 2)) name bits) e

pub seek_none : (nodes : List Node) (levels name bits : ℕ) → seek nodes levels name bits None ≡ None
seek_none nodes zero name bits = refl
seek_none nodes (suc levels) name bits = refl

pub itself_same : (x : ℕ) → nat_eq x x ≡ true
itself_same x = (Decides-eqb x x).1 refl

-- ---- a name is set

abbrev side_of : Bool → Node → Option ℕ
side_of x node = cond x node.even node.odd

abbrev with_side : Bool → Node → ℕ → Node
with_side x node tree = cond x (record { name = node.name; lister = node.lister; even = Some tree; odd = node.odd }) (record { name = node.name; lister = node.lister; even = node.even; odd = Some tree })

-- on one side stands the new tree, on the other what stood there
sides : (x y : Bool) (node : Node) (tree : ℕ) → ((side_of y (with_side x node tree) ≡ Some tree) × (side_of y node ≡ side_of x node)) ⊎ (side_of y (with_side x node tree) ≡ side_of y node)
sides true true node tree = inl (refl, refl)
sides true false node tree = inr refl
sides false true node tree = inr refl
sides false false node tree = inl (refl, refl)

side_name : (x : Bool) (node : Node) (tree : ℕ) → (with_side x node tree).name ≡ node.name
side_name true node tree = refl
side_name false node tree = refl

side_lister : (x : Bool) (node : Node) (tree : ℕ) → (with_side x node tree).lister ≡ node.lister
side_lister true node tree = refl
side_lister false node tree = refl

sides_in : (nodes : List Node) (x : Bool) (node : Node) (tree : ℕ) → IsIn nodes (Some tree) → IsIn nodes node.even × IsIn nodes node.odd → IsIn nodes (with_side x node tree).even × IsIn nodes (with_side x node tree).odd
sides_in nodes true node tree h k = (h, k.1)
sides_in nodes false node tree h k = (k.0, h)

module _ (bits name : ℕ) (lister : Lister) where
  set_leaf : (levels : ℕ) (tree : Option ℕ) (nodes : List Node) → IsClosed nodes → node_of nodes tree ≡ None → Sets (suc levels) tree bits name lister nodes (nodes ++ leaf name lister ∷ []) (Some (length nodes))
  set_leaf levels tree nodes closed none = record {
    keeps = keeps_more nodes (leaf name lister) closed tt tt;
    set = record {
      there = new_in nodes (leaf name lister);
      hit = seek_new nodes (leaf name lister) levels name bits ∙ cond-true (nat_eq name name) _ _ (itself_same name);
      others = others;
    };
  }
    where
      others : (n x b : ℕ) → nat_eq name x ≡ false → seek (nodes ++ leaf name lister ∷ []) n x b (Some (length nodes)) ≡ seek nodes n x b tree
      others zero x b apart = refl
      others (suc n) x b apart = seek_new nodes (leaf name lister) n x b ∙ cond-false (nat_eq name x) _ _ apart ∙ cond_both (is_even b) None None (λ o. seek (nodes ++ leaf name lister ∷ []) n x (b / 2) o ≡ None) (λ k. seek_none _ n x (b / 2)) (λ k. seek_none _ n x (b / 2))
          ∙ ap (found_at (seek nodes n x (b / 2)) x b) (sym none)

  set_here : (levels : ℕ) (tree : Option ℕ) (nodes : List Node) (node : Node) → IsClosed nodes → node_of nodes tree ≡ Some node → nat_eq node.name name ≡ true
      → Sets (suc levels) tree bits name lister nodes (nodes ++ with_lister node lister ∷ []) (Some (length nodes))
  set_here levels tree nodes node closed e same = let parts = parts_in nodes tree node closed e in record {
    keeps = keeps_more nodes (with_lister node lister) closed parts.0 parts.1;
    set = record {
      there = new_in nodes (with_lister node lister);
      hit = seek_new nodes (with_lister node lister) levels name bits ∙ cond-true (nat_eq node.name name) _ _ same;
      others = others;
    };
  }
    where
      others : (n x b : ℕ) → nat_eq name x ≡ false → seek (nodes ++ with_lister node lister ∷ []) n x b (Some (length nodes)) ≡ seek nodes n x b tree
      others zero x b apart = refl
      others (suc n) x b apart = let other : nat_eq node.name x ≡ false = subst (λ m. nat_eq m x ≡ false) (sym ((Decides-eqb node.name name).0 same)) apart in
          seek_new nodes (with_lister node lister) n x b ∙ cond-false (nat_eq node.name x) _ _ other ∙ seek_kept nodes (with_lister node lister) closed n x (b / 2) (below node b) (node_in nodes tree node b closed e)
          ∙ sym (seek_old nodes tree node n x b e ∙ cond-false (nat_eq node.name x) _ _ other)

  module _ (levels : ℕ) (tree : Option ℕ) (nodes mid : List Node) (node : Node) (under : ℕ) (closed : IsClosed nodes) (e : node_of nodes tree ≡ Some node) (apart : nat_eq node.name name ≡ false)
      (h : Sets levels (below node bits) (bits / 2) name lister nodes mid (Some under)) where
    abbrev changed : Node
    changed = with_below node bits under

    name_is : changed.name ≡ node.name
    name_is = side_name (is_even bits) node under

    lister_is : changed.lister ≡ node.lister
    lister_is = side_lister (is_even bits) node under

    parts : IsIn mid changed.even × IsIn mid changed.odd
    parts = let i = parts_in nodes tree node closed e in sides_in mid (is_even bits) node under h.set.there (h.keeps.there node.even i.0, h.keeps.there node.odd i.1)

    side_hit : below changed bits ≡ Some under
    side_hit = by (is_even bits)
      where
        by : (x : Bool) → side_of x (with_side x node under) ≡ Some under
        by true = refl
        by false = refl

    found_below : (n x b : ℕ) → nat_eq name x ≡ false → seek (mid ++ changed ∷ []) n x (b / 2) (below changed b) ≡ seek nodes n x (b / 2) (below node b)
    found_below n x b other = ⊎_elim
        (λ k. ap (seek (mid ++ changed ∷ []) n x (b / 2)) k.0 ∙ seek_kept mid changed h.keeps.closed n x (b / 2) (Some under) h.set.there ∙ h.set.others n x (b / 2) other ∙ ap (seek nodes n x (b / 2)) (sym k.1))
        (λ k. let there = node_in nodes tree node b closed e in ap (seek (mid ++ changed ∷ []) n x (b / 2)) k ∙ seek_kept mid changed h.keeps.closed n x (b / 2) (below node b) (h.keeps.there (below node b) there)
        ∙ h.keeps.same n x (b / 2) (below node b) there) (sides (is_even bits) (is_even b) node under)

    others : (n x b : ℕ) → nat_eq name x ≡ false → seek (mid ++ changed ∷ []) n x b (Some (length mid)) ≡ seek nodes n x b tree
    others zero x b other = refl
    others (suc n) x b other = seek_new mid changed n x b ∙ ap (λ m. cond (nat_eq m x) (Some changed.lister) (seek (mid ++ changed ∷ []) n x (b / 2) (below changed b))) name_is
        ∙ ap (λ l. cond (nat_eq node.name x) (Some l) (seek (mid ++ changed ∷ []) n x (b / 2) (below changed b))) lister_is ∙ ap (λ o. cond (nat_eq node.name x) (Some node.lister) o) (found_below n x b other)
        ∙ sym (seek_old nodes tree node n x b e)

    set_below : Sets (suc levels) tree bits name lister nodes (mid ++ changed ∷ []) (Some (length mid))
    set_below = record {
      keeps = keeps_then nodes mid (mid ++ changed ∷ []) h.keeps (keeps_more mid changed h.keeps.closed parts.0 parts.1);
      set = record {
        there = new_in mid changed;
        hit = seek_new mid changed levels name bits ∙ cond-false (nat_eq changed.name name) _ _ (ap (λ m. nat_eq m name) name_is ∙ apart)
            ∙ ap (seek (mid ++ changed ∷ []) levels name (bits / 2)) side_hit ∙ seek_kept mid changed h.keeps.closed levels name (bits / 2) (Some under) h.set.there ∙ h.set.hit;
        others = others;
      };
    }

  -- ---- as the code has it

  module _ (levels few : ℕ) (some : suc few ≡ levels) (tree : Option ℕ) (nodes new : List Node) (closed : IsClosed nodes) (item : Node) (at : ℕ) where
    sets_by : (mid : List Node) (made : Node) → at ≡ length mid → new ≡ mid ++ item ∷ [] → item ≡ made → Sets (suc few) tree bits name lister nodes (mid ++ made ∷ []) (Some (length mid)) → Sets levels tree bits name lister nodes new (Some at)
    sets_by mid made at_is is same h = subst (λ n. Sets n tree bits name lister nodes new (Some at)) some (subst (λ m. Sets (suc few) tree bits name lister nodes new (Some m)) (sym at_is)
        (subst (λ l. Sets (suc few) tree bits name lister nodes l (Some (length mid))) (sym is) (subst (λ x. Sets (suc few) tree bits name lister nodes (mid ++ x ∷ []) (Some (length mid))) (sym same) h)))

    pub leaf_set : node_of nodes tree ≡ None → at ≡ length nodes → new ≡ nodes ++ item ∷ [] → item ≡ leaf name lister → Sets levels tree bits name lister nodes new (Some at)
    leaf_set none at_is is same = sets_by nodes (leaf name lister) at_is is same (set_leaf few tree nodes closed none)

    pub here_set : (node : Node) → node_of nodes tree ≡ Some node → node.name ≡ name → at ≡ length nodes → new ≡ nodes ++ item ∷ [] → item ≡ with_lister node lister → Sets levels tree bits name lister nodes new (Some at)
    here_set node e named at_is is same = sets_by nodes (with_lister node lister) at_is is same (set_here few tree nodes node closed e ((Decides-eqb node.name name).1 named))

    pub below_set : (node : Node) (under : ℕ) (mid : List Node) → node_of nodes tree ≡ Some node → (node.name ≡ name → ⊥) → Sets few (below node bits) (bits / 2) name lister nodes mid (Some under) → at ≡ length mid → new ≡ mid ++ item ∷ []
        → item ≡ with_below node bits under → Sets levels tree bits name lister nodes new (Some at)
    below_set node under mid e apart h at_is is same = sets_by mid (with_below node bits under) at_is is same (set_below few tree nodes mid node under closed e (false_from_ne_true _ (λ k. apart ((Decides-eqb node.name name).0 k))) h)

  pub none_set : (levels few : ℕ) (tree below_it : Option ℕ) (half : ℕ) (old new : List Node) → Sets few below_it half name lister old new None → Sets levels tree bits name lister old new None
  none_set levels few tree below_it half old new h = record { keeps = h.keeps; set = tt }

  pub zero_set : (levels : ℕ) (tree : Option ℕ) (nodes : List Node) → IsClosed nodes → Sets levels tree bits name lister nodes nodes None
  zero_set levels tree nodes h = record { keeps = keeps_itself nodes h; set = tt }

-- ---- what a tree has for a name

module _ (nodes : List Node) (levels few : ℕ) (some : suc few ≡ levels) (name bits : ℕ) (tree : Option ℕ) where
  seek_one : seek nodes levels name bits tree ≡ found_at (seek nodes few name (bits / 2)) name bits (node_of nodes tree)
  seek_one = ap (λ n. seek nodes n name bits tree) (sym some)

  pub seek_next : (node : Node) (next : Option ℕ) → node_of nodes tree ≡ Some node → (node.name ≡ name → ⊥) → next ≡ below node bits → seek nodes few name (bits / 2) next ≡ seek nodes levels name bits tree
  seek_next node next e apart is = ap (seek nodes few name (bits / 2)) is ∙ sym (seek_one ∙ ap (found_at (seek nodes few name (bits / 2)) name bits) e
      ∙ cond-false (nat_eq node.name name) _ _ (false_from_ne_true _ (λ k. apart ((Decides-eqb node.name name).0 k))))
