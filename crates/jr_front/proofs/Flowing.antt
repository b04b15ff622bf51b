-- A row is broken by the rules on jumps, reaching and completing just where the computed facts say so.
use Rattle.std.proofs.Common.{◌≡◌, refl, sym, ◌∙◌, ap, subst, ⊎_elim, arith, ℕ, zero, suc, ◌+◌, ◌<◌, ◌≤◌, Bool, true, false, not, ◌&&◌, ◌||◌, length, Option, Some, None}
use Rattle.std.proofs.Math.Path.{fun_ext}
use Rattle.std.proofs.lemmas.Bool.{false≢true, cases_lt}
use Rattle.std.proofs.lemmas.Option.{none-some}
use Rattle.jr_tree.specs.declared.label.Label.{Label}
use Rattle.jr_tree.specs.declared.label.Label.TheVariants as is
use Rattle.jr_tree.specs.declared.label.Sought.{Sought}
use Rattle.jr_tree.specs.declared.label.Sought.TheVariants as sought
use Rattle.jr_tree.specs.Labels.{sought_by}
use Rattle.jr_tree.specs.Local.{IsLocal}
use Rattle.jr_tree.specs.Rows.{Rows, label, name, parent, previous, sought_at}
use Rattle.jr_defs.specs.declared.referent.Referent.{Referent}
use Rattle.jr_defs.specs.declared.referent.Referent.TheVariants.{Unbound, Ambiguous, Declared}
use Rattle.jr_defs.specs.Binding.{IsBound}
use Rattle.jr_defs.specs.Compiling.{AllFound}
use Rattle.jr_defs.specs.Constants.{HasConstantForm}
use Rattle.jr_defs.specs.Declarations.{IsOccurrence}
use Rattle.jr_defs.specs.Lookup.{LookFor, Otherwise, IsPackageName}
use Rattle.jr_defs.specs.Referents.{Table, IsAnswer}
use Rattle.jr_plain.proofs.Bounds.{bounded}
use Rattle.jr_rules.specs.Statements.{IsRound, IsLoop, IsLoopOrSwitch, LabelsLoop, HasNoTarget}
use Rattle.jr_reach.specs.declared.fact.Exit.{Exit}
use Rattle.jr_reach.specs.declared.fact.Exit.TheVariants as exit
use Rattle.jr_reach.specs.Statements.{Facts, Entries, fact, courses, AreCourses, CoursesAreOne}
use Rattle.jr_reach.specs.Reached.{Reached, AreReached, reached, ReadsEarlier, ReachedIsOne}
use Rattle.jr_reach.specs.Faults.{is_nowhere, is_lost, is_statement, is_unreached, completes_wrongly}
use Rattle.jr_reach.proofs.One.{each_has_courses}
use Rattle.jr_reach.proofs.OneReached.{each_is_reached}
use Rattle.jr_flow_faults.specs.Known.{IsInnermost, IsTargetOf, AreKnown}
use Rattle.jr_flow_faults.specs.Faults.{BreaksFlow}
use Rattle.jr_flow_faults.proofs.Known.{known_once}
use Rattle.jr_flow_faults.proofs.Kept.{reads_later}

module _ (p : Rows) (t : Table) (local : IsLocal p) (f : Facts) (known : AreKnown p t f) where
  -- ---- the tables are read in order

  reads_earlier : ReadsEarlier p
  reads_earlier = record { program = local.program; root = local.tree.root; below = λ n positive lt. local.tree.up n lt positive; beside = λ n positive lt. local.tree.before n lt positive }

  one_courses : CoursesAreOne p f
  one_courses = each_has_courses p f (reads_later p t local f known)

  one_reached : ReachedIsOne p f
  one_reached = each_is_reached p f reads_earlier

  -- ---- where they say so it is broken

  pub unreached_breaks : (n : ℕ) → is_unreached p (reached p f) n ≡ true → BreaksFlow p t 36 n
  unreached_breaks n h = BreaksFlow.unreached known one_courses.computed one_reached.computed h

  pub completing_breaks : (n : ℕ) → completes_wrongly (label p n) (courses p f n).own.completes ≡ true → BreaksFlow p t 37 n
  completing_breaks n h = BreaksFlow.completes known one_courses.computed h

  -- ---- which rows can break a rule

  reached_past : (n : ℕ) → length p ≤ n → reached p f n ≡ true
  reached_past n le = one_reached.computed.outside n le

  unreached_row : (n : ℕ) → is_unreached p (reached p f) n ≡ true → n < length p
  unreached_row n h = ⊎_elim (λ lt. lt) (λ le. absurd (false≢true (sym (past le) ∙ h))) (cases_lt n (length p))
    where
      past : length p ≤ n → is_unreached p (reached p f) n ≡ false
      past le = by (is_statement (label p n)) (reached p f n) (reached_past n le)
        where
          by : (a b : Bool) → b ≡ true → (a && not b && reached p f (parent p n) && (reached p f (previous p n) || not (is_statement (label p (previous p n))))) ≡ false
          by true true e = refl
          by false true e = refl
          by true false e = absurd (false≢true e)
          by false false e = refl

  completing_row : (n : ℕ) (b : Bool) → completes_wrongly (label p n) b ≡ true → n < length p
  completing_row n b h = bounded (λ l. completes_wrongly l b ≡ true) (λ e. false≢true e) p n h

  -- ---- where it is broken they say so

  unreached_said : (g : Facts) (e : Entries) (all : Reached) (n : ℕ) → AreKnown p t g → AreCourses p g e → AreReached p g e all → is_unreached p all n ≡ true → is_unreached p (reached p f) n ≡ true
  unreached_said g e all n a b c h =
      let same : g ≡ f = known_once p t g f a known in
      let here = subst (λ x. AreCourses p x e) same b in
      let entries_are : e ≡ courses p f = fun_ext (one_courses.only e (courses p f) here one_courses.computed) in
      let there = subst (λ x. AreReached p f x all) entries_are (subst (λ x. AreReached p x e all) same c) in
      let all_are : all ≡ reached p f = fun_ext (one_reached.only all (reached p f) there one_reached.computed) in
      subst (λ x. is_unreached p x n ≡ true) all_are h

  completing_said : (g : Facts) (e : Entries) (n : ℕ) → AreKnown p t g → AreCourses p g e → completes_wrongly (label p n) (e n).own.completes ≡ true → completes_wrongly (label p n) (courses p f n).own.completes ≡ true
  completing_said g e n a b h =
      let here = subst (λ x. AreCourses p x e) (known_once p t g f a known) b in
      let entry_is = one_courses.only e (courses p f) here one_courses.computed n in
      subst (λ x. completes_wrongly (label p n) x.own.completes ≡ true) entry_is h

  -- what follows of a row that they name follows of one that is broken
  pub flow_said : (Said : ℕ → ℕ → Type 0) → ((n : ℕ) → n < length p → is_unreached p (reached p f) n ≡ true → Said 36 n)
      → ((n : ℕ) → n < length p → completes_wrongly (label p n) (courses p f n).own.completes ≡ true → Said 37 n) → (k n : ℕ) → BreaksFlow p t k n → Said k n
  flow_said Said at_36 at_37 k n (BreaksFlow.unreached {f = g} {e = e} {known = all} a b c h) = let is = unreached_said g e all n a b c h in at_36 n (unreached_row n is) is
  flow_said Said at_36 at_37 k n (BreaksFlow.completes {f = g} {e = e} a b h) = let is = completing_said g e n a b h in at_37 n (completing_row n _ is) is

  -- ---- jumps

  nowhere : (n : ℕ) (to : Option Exit) → ((x : Exit) → to ≡ Some x → IsTargetOf p t n x) → ((x : Exit) → IsTargetOf p t n x → ⊥) → is_nowhere to ≡ true
  nowhere n None told out = refl
  nowhere n (Some x) told out = absurd (out x (told x refl))

  jump_lost : (n : ℕ) (l : Label) → label p n ≡ l → (is_lost l f n ≡ is_nowhere (fact f n).exit) → n < length p → ((x : Exit) → IsTargetOf p t n x → ⊥) → is_lost (label p n) f n ≡ true
  jump_lost n l at is lt out = ap (λ l. is_lost l f n) at ∙ is ∙ nowhere n (fact f n).exit (λ x. (((known.each n lt).exit) x).0) out

  jump_row : (n : ℕ) (l : Label) → (is.Skip ≡ l → ⊥) → label p n ≡ l → n < length p
  jump_row n l other at = bounded (λ x. x ≡ l) other p n at

  no_plain_break : (n : ℕ) → label p n ≡ is.Break false → ((s : ℕ) → IsRound p IsLoopOrSwitch n s → ⊥) → (x : Exit) → IsTargetOf p t n x → ⊥
  no_plain_break n at out x (IsTargetOf.labeled_break l e) = absurd (cc)
  no_plain_break n at out x (IsTargetOf.plain_break {s = s} l h) = out s h.round
  no_plain_break n at out x (IsTargetOf.labeled_continue l e h) = absurd (cc)
  no_plain_break n at out x (IsTargetOf.plain_continue l h) = absurd (cc)

  no_plain_continue : (n : ℕ) → label p n ≡ is.Continue false → ((s : ℕ) → IsRound p IsLoop n s → ⊥) → (x : Exit) → IsTargetOf p t n x → ⊥
  no_plain_continue n at out x (IsTargetOf.labeled_break l e) = absurd (cc)
  no_plain_continue n at out x (IsTargetOf.plain_break l h) = absurd (cc)
  no_plain_continue n at out x (IsTargetOf.labeled_continue l e h) = absurd (cc)
  no_plain_continue n at out x (IsTargetOf.plain_continue {s = s} l h) = out s h.round

  no_labeled_continue : {d : ℕ} {level : Option ℕ} (n : ℕ) → label p n ≡ is.Continue true → t n ≡ Declared d level → (LabelsLoop p d → ⊥) → (x : Exit) → IsTargetOf p t n x → ⊥
  no_labeled_continue n at refers out x (IsTargetOf.labeled_break l e) = absurd (cc)
  no_labeled_continue n at refers out x (IsTargetOf.plain_break l h) = absurd (cc)
  no_labeled_continue {d} n at refers out x (IsTargetOf.labeled_continue {d = other} l e h) = out (subst (λ m. LabelsLoop p m) (let same : other ≡ d = cc in same) h)
  no_labeled_continue n at refers out x (IsTargetOf.plain_continue l h) = absurd (cc)

  pub jump_said : (n : ℕ) → HasNoTarget p t n → (n < length p) × (is_lost (label p n) f n ≡ true)
  jump_said n (HasNoTarget.of_break at out) = let lt = jump_row n (is.Break false) (λ e. absurd (cc)) at in (lt, jump_lost n (is.Break false) at refl lt (no_plain_break n at out))
  jump_said n (HasNoTarget.of_continue at out) = let lt = jump_row n (is.Continue false) (λ e. absurd (cc)) at in (lt, jump_lost n (is.Continue false) at refl lt (no_plain_continue n at out))
  jump_said n (HasNoTarget.of_label at refers out) = let lt = jump_row n (is.Continue true) (λ e. absurd (cc)) at in (lt, jump_lost n (is.Continue true) at refl lt (no_labeled_continue n at refers out))

  -- a jump that goes nowhere has no target
  no_exit : (to : Option Exit) → is_nowhere to ≡ true → to ≡ None
  no_exit None e = refl
  no_exit (Some x) e = absurd (false≢true e)

  no_target : (n : ℕ) → n < length p → is_nowhere (fact f n).exit ≡ true → (x : Exit) → IsTargetOf p t n x → ⊥
  no_target n lt e x h = none-some x (sym (no_exit (fact f n).exit e) ∙ (((known.each n lt).exit) x).1 h)

  -- no such statement is round a place where none is the innermost
  none_round : (n : ℕ) (P : Label → Type 0) → ((m : ℕ) → IsInnermost p P n m → ⊥) → (j s : ℕ) → n ≤ s + j → IsRound p P n s → ⊥
  none_round n P out zero s le r = let lt = r.after in absurd (omega arith)
  none_round n P out (suc j) s le r = out s (record { round = r; innermost = λ e h. ⊎_elim (λ lt. absurd (none_round n P out j e (omega arith) h)) (λ up. up) (cases_lt s e) })

  -- a row that looks for a label refers to one, where all is found
  no_package : (n : ℕ) (s : Sought) → IsPackageName p t n s → s ≡ sought.Label → ⊥
  no_package n _ (IsPackageName.simple may) e = absurd (cc)
  no_package n _ (IsPackageName.qualified may before) e = absurd (cc)

  no_other : (n : ℕ) (a : Referent) → Otherwise p t (HasConstantForm p t) n (name p n) sought.Label a → (a ≡ Unbound → ⊥) → ⊥
  no_other n _ (Otherwise.package_name h) out = no_package n sought.Label h refl
  no_other n _ (Otherwise.length none h) out = h.allowed
  no_other n _ (Otherwise.unbound a b) out = out refl

  a_label : (n : ℕ) (a : Referent) → LookFor p t (HasConstantForm p t) n (name p n) sought.Label a → (a ≡ Unbound → ⊥) × (a ≡ Ambiguous → ⊥) → (d : ℕ) × (level : Option ℕ) × (a ≡ Declared d level)
  a_label n _ (IsAnswer.one d level c only) h = (d, level, refl)
  a_label n a (IsAnswer.none none other) h = absurd (no_other n a other h.0)
  a_label n _ (IsAnswer.several d e level other c k apart) h = absurd (h.1 refl)

  module _ (bound : IsBound p t) (found : AllFound p t) where
    refers_to_label : (n : ℕ) (l : Label) → label p n ≡ l → sought_by l ≡ sought.Label → (is.ImplicitCall ≡ l → ⊥) → (d : ℕ) × (level : Option ℕ) × (t n ≡ Declared d level)
    refers_to_label n l at seeks other =
        let sought_is : sought_at p n ≡ sought.Label = ap sought_by at ∙ seeks in
        let occurs : IsOccurrence p n = record { seeks = λ e. absurd (cc); above = λ e object. other (sym e ∙ at) } in
        a_label n (t n) (subst (λ s. LookFor p t (HasConstantForm p t) n (name p n) s (t n)) sought_is (bound n)) (found n occurs)

    lost_by : (n : ℕ) (l : Label) → n < length p → label p n ≡ l → is_lost l f n ≡ true → HasNoTarget p t n
    lost_by n (is.Break false) lt at h = HasNoTarget.of_break at (λ s r. none_round n IsLoopOrSwitch (λ m i. no_target n lt h (exit.Break m) (IsTargetOf.plain_break at i)) n s (omega arith) r)
    lost_by n (is.Continue false) lt at h = HasNoTarget.of_continue at (λ s r. none_round n IsLoop (λ m i. no_target n lt h (exit.Continue m) (IsTargetOf.plain_continue at i)) n s (omega arith) r)
    lost_by n (is.Break true) lt at h = let refers = refers_to_label n (is.Break true) at refl (λ e. absurd (cc)) in absurd (no_target n lt h (exit.Break refers.0) (IsTargetOf.labeled_break at refers.2))
    lost_by n (is.Continue true) lt at h = let refers = refers_to_label n (is.Continue true) at refl (λ e. absurd (cc)) in
        HasNoTarget.of_label at refers.2 (λ loop. no_target n lt h (exit.Continue (refers.0 + 1)) (IsTargetOf.labeled_continue at refers.2 loop))
    lost_by n _ lt at h = absurd (false≢true h)

    lost_row : (n : ℕ) → is_lost (label p n) f n ≡ true → n < length p
    lost_row n h = bounded (λ l. is_lost l f n ≡ true) (λ e. false≢true e) p n h

    pub lost_breaks : (n : ℕ) → is_lost (label p n) f n ≡ true → HasNoTarget p t n
    lost_breaks n h = lost_by n (label p n) (lost_row n h) refl h
