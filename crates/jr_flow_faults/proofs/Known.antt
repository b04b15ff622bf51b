-- What is computed of rows is what is known of them, and it is known once.
use Rattle.std.proofs.Common.{◌≡◌, refl, sym, ◌∙◌, ap, subst, arith, ℕ, zero, suc, ◌+◌, ◌<◌, Bool, true, false, cond, ◌&&◌, ◌||◌, length, Option, Some, None, is_some, nat_eq, nat_lt, Decides}
use Rattle.std.proofs.lemmas.Bool.{false≢true}
use Rattle.std.proofs.lemmas.Bool.Decides.{Decides-eqb, Decides-ltb, Decides-at}
use Rattle.std.proofs.lemmas.List.{ext_get_or}
use Rattle.std.proofs.lemmas.Option.{none-some, same_Some}
use Rattle.jr_base.specs.declared.constant.Const.{Const}
use Rattle.jr_base.specs.declared.constant.Const.TheVariants as c
use Rattle.jr_tree.specs.declared.label.Label.{Label}
use Rattle.jr_tree.specs.declared.label.Label.TheVariants as is
use Rattle.jr_tree.specs.Rows.{Rows, label, parent, end}
use Rattle.jr_defs.specs.declared.referent.Referent.{Referent}
use Rattle.jr_defs.specs.declared.referent.Referent.TheVariants.{Declared}
use Rattle.jr_defs.specs.Constants.{Constant}
use Rattle.jr_defs.specs.Referents.{Table}
use Rattle.jr_plain.specs.Search.{Finds, last_below, any_below}
use Rattle.jr_plain.specs.Typing.{IsTypable}
use Rattle.jr_plain.proofs.Bounds.{bounded}
use Rattle.jr_plain.proofs.Finding.{none_finds, like_finds, map_finds, then_finds}
use Rattle.jr_plain.proofs.Searches.{some, finds_last}
use Rattle.jr_plain.proofs.Tests.{always, never, both, like}
use Rattle.jr_places.proofs.Tables.{length-tabulated, tabulated_at}
use Rattle.jr_supers.specs.Tabled.{declared}
use Rattle.jr_rules.specs.Computed.{values}
use Rattle.jr_rules.specs.Statements.{IsLoop, IsLoopOrSwitch, LabelsLoop}
use Rattle.jr_rules.specs.StatementTests.{is_loop, is_loop_or_switch}
use Rattle.jr_rules.proofs.Known.{values_find}
use Rattle.jr_reach.specs.declared.fact.Exit.{Exit}
use Rattle.jr_reach.specs.declared.fact.Exit.TheVariants as exit
use Rattle.jr_reach.specs.declared.fact.Fact.{Fact}
use Rattle.jr_reach.specs.Statements.{Facts, fact}
use Rattle.jr_flow_faults.specs.declared.facts.Part.TheVariants as part
use Rattle.jr_flow_faults.specs.Known.{IsInnermost, IsTargetOf, IsLaterBlock, IsLastBlock, HasDefault, IsKnownAt, AreKnown}
use Rattle.jr_flow_faults.specs.Computed.{truth_in, innermost, targets, labeled_loop, referred_loop, target_by, is_block, is_guarded, is_default, holder, is_it, last_part, fact_at, facts}

-- ---- constants

truth_out : (found : Option Const) (b : Bool) → truth_in found ≡ Some b → found ≡ Some (c.Bool b)
truth_out None b e = absurd (none-some b e)
truth_out (Some (c.Bool a)) b e = ap (λ x. Some (c.Bool x)) (same_Some a b e)
truth_out (Some _) b e = absurd (none-some b e)

truth_finds : (P : Const → Type 0) (found : Option Const) → Finds found P → Finds (truth_in found) (λ b. P (c.Bool b))
truth_finds P found finds b = (λ e. (finds (c.Bool b)).0 (truth_out found b e), λ h. ap truth_in ((finds (c.Bool b)).1 h))

-- ---- jumps

loop_tells : (l : Label) → Decides (is_loop l) (IsLoop l)
loop_tells is.Do = always
loop_tells is.While = always
loop_tells (is.For has_first has_condition) = always
loop_tells _ = never

loop_or_switch_tells : (l : Label) → Decides (is_loop_or_switch l) (IsLoopOrSwitch l)
loop_or_switch_tells is.Switch = always
loop_or_switch_tells is.Do = always
loop_or_switch_tells is.While = always
loop_or_switch_tells (is.For has_first has_condition) = always
loop_or_switch_tells _ = never

pub declared_finds : (a : Referent) → Finds (declared a) (λ d. (level : Option ℕ) × (a ≡ Declared d level))
declared_finds (Declared d level) x = (λ e. (level, ap (λ r. Declared r level) (same_Some d x e)), λ h. let e = h.1 in ap Some (row_of e))
  where
    row_of : {a b : ℕ} {l m : Option ℕ} → Declared a l ≡ Declared b m → a ≡ b
    row_of e = cc
declared_finds _ x = (λ e. absurd (none-some x e), λ h. let e = h.1 in absurd (cc))

-- a label of a jump
abbrev is_jump : Label → Bool
is_jump (is.Break has_label) = true
is_jump (is.Continue has_label) = true
is_jump _ = false

module _ (p : Rows) where
  innermost_finds : (P : Label → Type 0) (test : Label → Bool) → ((l : Label) → Decides (test l) (P l)) → (n : ℕ) → Finds (innermost p test n) (λ s. IsInnermost p P n s)
  innermost_finds P test tells n = like_finds (innermost p test n)
      (finds_last (λ s. test (label p s) && nat_lt n (end p s)) (λ s. P (label p s) × (n < end p s)) (λ s. both (tells (label p s)) (Decides-ltb n (end p s))) n)
      (λ s h. record { round = record { statement = h.1.0; after = h.0; before = h.1.1 }; innermost = λ e r. h.2 e r.after (r.statement, r.before) })
      (λ s h. (h.round.after, (h.round.statement, h.round.before), λ j lt r. h.innermost j (record { statement = r.0; after = lt; before = r.1 })))

  labeled_finds : (d : ℕ) → Finds (labeled_loop p d) (λ s. LabelsLoop p d × (d + 1 ≡ s))
  labeled_finds d x = by (nat_eq (parent p (d + 1)) d && is_loop (label p (d + 1))) (both (Decides-eqb (parent p (d + 1)) d) (loop_tells (label p (d + 1))))
    where
      by : (b : Bool) → Decides b ((parent p (d + 1) ≡ d) × IsLoop (label p (d + 1))) → (cond b (Some (d + 1)) None ≡ Some x → LabelsLoop p d × (d + 1 ≡ x)) × (LabelsLoop p d × (d + 1 ≡ x) → cond b (Some (d + 1)) None ≡ Some x)
      by true tells = (λ e. let h = tells.0 refl in (record { inside = h.0; loop = h.1 }, same_Some (d + 1) x e), λ h. ap Some h.1)
      by false tells = (λ e. absurd (none-some x e), λ h. absurd (false≢true (tells.1 (h.0.inside, h.0.loop))))

  module _ (t : Table) (n : ℕ) where
    jumps : {x : Exit} → IsTargetOf p t n x → is_jump (label p n) ≡ true
    jumps (IsTargetOf.labeled_break at e) = ap is_jump at
    jumps (IsTargetOf.plain_break at h) = ap is_jump at
    jumps (IsTargetOf.labeled_continue at e h) = ap is_jump at
    jumps (IsTargetOf.plain_continue at h) = ap is_jump at

    labeled_break_in : {x : Exit} → label p n ≡ is.Break true → IsTargetOf p t n x → (d : ℕ) × ((level : Option ℕ) × (t n ≡ Declared d level)) × (exit.Break d ≡ x)
    labeled_break_in l (IsTargetOf.labeled_break {d = d} {level = level} at e) = (d, (level, e), refl)
    labeled_break_in l (IsTargetOf.plain_break at h) = absurd (cc)
    labeled_break_in l (IsTargetOf.labeled_continue at e h) = absurd (cc)
    labeled_break_in l (IsTargetOf.plain_continue at h) = absurd (cc)

    plain_break_in : {x : Exit} → label p n ≡ is.Break false → IsTargetOf p t n x → (s : ℕ) × IsInnermost p IsLoopOrSwitch n s × (exit.Break s ≡ x)
    plain_break_in l (IsTargetOf.labeled_break at e) = absurd (cc)
    plain_break_in l (IsTargetOf.plain_break {s = s} at h) = (s, h, refl)
    plain_break_in l (IsTargetOf.labeled_continue at e h) = absurd (cc)
    plain_break_in l (IsTargetOf.plain_continue at h) = absurd (cc)

    abbrev IsLoopAt : ℕ → Type 0
    IsLoopAt s = (d : ℕ) × ((level : Option ℕ) × (t n ≡ Declared d level)) × (LabelsLoop p d × (d + 1 ≡ s))

    labeled_continue_in : {x : Exit} → label p n ≡ is.Continue true → IsTargetOf p t n x → (s : ℕ) × IsLoopAt s × (exit.Continue s ≡ x)
    labeled_continue_in l (IsTargetOf.labeled_break at e) = absurd (cc)
    labeled_continue_in l (IsTargetOf.plain_break at h) = absurd (cc)
    labeled_continue_in l (IsTargetOf.labeled_continue {d = d} {level = level} at e h) = (d + 1, (d, (level, e), (h, refl)), refl)
    labeled_continue_in l (IsTargetOf.plain_continue at h) = absurd (cc)

    labeled_continue_out : {x : Exit} (s : ℕ) → label p n ≡ is.Continue true → IsLoopAt s → exit.Continue s ≡ x → IsTargetOf p t n x
    labeled_continue_out s l h e = subst (λ x. IsTargetOf p t n x) (ap exit.Continue h.2.1 ∙ e) (IsTargetOf.labeled_continue l h.1.1 h.2.0)

    plain_continue_in : {x : Exit} → label p n ≡ is.Continue false → IsTargetOf p t n x → (s : ℕ) × IsInnermost p IsLoop n s × (exit.Continue s ≡ x)
    plain_continue_in l (IsTargetOf.labeled_break at e) = absurd (cc)
    plain_continue_in l (IsTargetOf.plain_break at h) = absurd (cc)
    plain_continue_in l (IsTargetOf.labeled_continue at e h) = absurd (cc)
    plain_continue_in l (IsTargetOf.plain_continue {s = s} at h) = (s, h, refl)

    none_in : (l : Label) → label p n ≡ l → is_jump l ≡ false → Finds None (λ x. IsTargetOf p t n x)
    none_in l at apart = like_finds None none_finds (λ x h. absurd h) (λ x h. false≢true (sym apart ∙ ap is_jump (sym at) ∙ jumps h))

    target_finds : (l : Label) → label p n ≡ l → Finds (target_by l p t (targets p n) n) (λ x. IsTargetOf p t n x)
    target_finds (is.Break true) at = like_finds _ (map_finds exit.Break (declared (t n)) (declared_finds (t n)))
        (λ x h. subst (λ y. IsTargetOf p t n y) h.2 (IsTargetOf.labeled_break at h.1.1)) (λ x h. labeled_break_in at h)
    target_finds (is.Break false) at = like_finds _ (map_finds exit.Break (innermost p is_loop_or_switch n) (innermost_finds IsLoopOrSwitch is_loop_or_switch loop_or_switch_tells n))
        (λ x h. subst (λ y. IsTargetOf p t n y) h.2 (IsTargetOf.plain_break at h.1)) (λ x h. plain_break_in at h)
    target_finds (is.Continue true) at = like_finds _ (map_finds exit.Continue (referred_loop p t n) (then_finds (labeled_loop p) (declared (t n)) (declared_finds (t n)) labeled_finds))
        (λ x h. labeled_continue_out h.0 at h.1 h.2) (λ x h. labeled_continue_in at h)
    target_finds (is.Continue false) at = like_finds _ (map_finds exit.Continue (innermost p is_loop n) (innermost_finds IsLoop is_loop loop_tells n))
        (λ x h. subst (λ y. IsTargetOf p t n y) h.2 (IsTargetOf.plain_continue at h.1)) (λ x h. plain_continue_in at h)
    target_finds l at = none_in l at refl

-- ---- parts

pub block_tells : (l : Label) → Decides (is_block l) (l ≡ is.Block)
block_tells is.Block = (λ h. refl, λ e. refl)
block_tells _ = (λ h. absurd (false≢true h), λ e. absurd (cc))

guarded_tells : (l : Label) → Decides (is_guarded l) (l ≡ is.Try true)
guarded_tells (is.Try true) = (λ h. refl, λ e. refl)
guarded_tells (is.Try false) = (λ h. absurd (false≢true h), λ e. absurd (cc))
guarded_tells _ = (λ h. absurd (false≢true h), λ e. absurd (cc))

default_label_tells : (l : Label) → Decides (is_default l) (l ≡ is.Default)
default_label_tells is.Default = (λ h. refl, λ e. refl)
default_label_tells _ = (λ h. absurd (false≢true h), λ e. absurd (cc))

-- the one that is held
it_tells : {P : Type 0} (b : Bool) (m n : ℕ) → Decides b P → Decides (is_it (cond b (Some m) None) n) (P × (m ≡ n))
it_tells true m n tells = both tells (Decides-eqb m n)
it_tells false m n tells = (λ h. absurd (false≢true h), λ h. absurd (false≢true (tells.1 h.0)))

some_last : (test : ℕ → Bool) (n : ℕ) → is_some (last_below n test) ≡ any_below n test
some_last test zero = refl
some_last test (suc n) = by (test n) (last_below n test) (any_below n test) (some_last test n)
  where
    by : (b : Bool) (before : Option ℕ) (any : Bool) → is_some before ≡ any → is_some (cond b (Some n) before) ≡ (any || b)
    by true before true e = refl
    by true before false e = refl
    by false before true e = e
    by false before false e = e

module _ (p : Rows) (n : ℕ) where
  later_tells : (k : ℕ) → Decides (is_it (holder p part.Finally k) n) (IsLaterBlock p n k)
  later_tells k = like (it_tells (is_block (label p k) && is_guarded (label p (parent p k)) && nat_lt (parent p k + 1) k) (parent p k) n
      (both (both (block_tells (label p k)) (guarded_tells (label p (parent p k)))) (Decides-ltb (parent p k + 1) k)))
      (λ h. record { guarded = subst (λ m. label p m ≡ is.Try true) h.1 h.0.0.1; block = h.0.0.0; inside = h.1; behind = subst (λ m. m + 1 < k) h.1 h.0.1 })
      (λ h. (((h.block, subst (λ m. label p m ≡ is.Try true) (sym h.inside) h.guarded), subst (λ m. m + 1 < k) (sym h.inside) h.behind), h.inside))

  later_below : (k : ℕ) → IsLaterBlock p n k → k < length p
  later_below k h = bounded (λ l. l ≡ is.Block) (λ e. absurd (cc)) p k h.block

  pub last_finds : Finds (last_part p part.Finally (length p) n) (λ k. IsLastBlock p n k)
  last_finds = like_finds (last_part p part.Finally (length p) n) (finds_last (λ k. is_it (holder p part.Finally k) n) (λ k. IsLaterBlock p n k) later_tells (length p))
      (λ k h. record { block = h.1; last = λ j later. h.2 j (later_below j later) later })
      (λ k h. (later_below k h.block, h.block, λ j lt later. h.last j later))

  default_tells : Decides (is_some (last_part p part.Default (length p) n)) (HasDefault p n)
  default_tells = Decides-at _ _ (some_last (λ k. is_it (holder p part.Default k) n) (length p)) (like
      (some (λ k. is_it (holder p part.Default k) n) (λ k. (label p k ≡ is.Default) × (parent p (parent p k) ≡ n))
      (λ k. it_tells (is_default (label p k)) (parent p (parent p k)) n (default_label_tells (label p k))) (length p)
      (λ k h. bounded (λ l. l ≡ is.Default) (λ e. absurd (cc)) p k h.0))
      (λ h. record { row = h.0; default = h.1.0; inside = h.1.1 }) (λ h. (h.row, (h.default, h.inside))))

-- ---- all that is known

module _ (p : Rows) (t : Table) where
  pub facts_known : IsTypable p t → AreKnown p t (facts p t (values p t))
  facts_known typable = record {
    count = length-tabulated (fact_at p t (values p t)) (length p);
    each = λ n lt. subst (λ (known : Fact). IsKnownAt p t n known) (sym (tabulated_at (fact_at p t (values p t)) _ (length p) n lt)) (record {
      truth = truth_finds (λ v. Constant p t n v) (values p t n) (values_find p t typable n);
      exit = target_finds p t n (label p n) refl;
      last = last_finds p n;
      default = default_tells p n;
    });
  }

  same_found : {A : Type 0} {P : A → Type 0} (x y : Option A) → Finds x P → Finds y P → x ≡ y
  same_found None None f g = refl
  same_found None (Some a) f g = (f a).1 ((g a).0 refl)
  same_found (Some a) y f g = sym ((g a).1 ((f a).0 refl))

  same_decided : {P : Type 0} (a b : Bool) → Decides a P → Decides b P → a ≡ b
  same_decided true b f g = sym (g.1 (f.0 refl))
  same_decided false true f g = f.1 (g.0 refl)
  same_decided false false f g = refl

  abbrev made : Option Bool → Option Exit → Option ℕ → Bool → Fact
  made truth to last default = record { truth = truth; exit = to; last = last; has_default = default }

  known_same : (n : ℕ) (x y : Fact) → IsKnownAt p t n x → IsKnownAt p t n y → x ≡ y
  known_same n x y a b = ap (λ truth. made truth x.exit x.last x.has_default) (same_found x.truth y.truth a.truth b.truth)
      ∙ ap (λ to. made y.truth to x.last x.has_default) (same_found x.exit y.exit a.exit b.exit)
      ∙ ap (λ last. made y.truth y.exit last x.has_default) (same_found x.last y.last a.last b.last)
      ∙ ap (λ default. made y.truth y.exit y.last default) (same_decided x.has_default y.has_default a.default b.default)

  pub known_once : (f g : Facts) → AreKnown p t f → AreKnown p t g → f ≡ g
  known_once f g a b = ext_get_or (made None None None false) f g (a.count ∙ sym b.count)
      (λ n lt. let inside : n < length p = let long = a.count in omega arith in known_same n (fact f n) (fact g n) (a.each n inside) (b.each n inside))
