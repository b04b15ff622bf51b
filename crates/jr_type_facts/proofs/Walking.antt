-- Walks from a constructor to those that it calls, and the rounds that they find.
use Rattle.std.proofs.Common.{◌≡◌, ◌⊎◌, refl, sym, ◌∙◌, ap, subst, inl, inr, ⊎_elim, arith, ℕ, zero, suc, ◌+◌, ◌<◌, ◌≤◌, Bool, true, false, cond, ◌&&◌, List, [], ◌∷◌, length, replicate, Option, Some, None, Decides}
use Rattle.std.specs.Prelude.{is_some, slice_set}
use Rattle.std.proofs.lemmas.Bool.{false≢true, cases_eq, cases_lt, and_parts, and_from}
use Rattle.std.proofs.lemmas.Bool.Decides.{Decides-eqb}
use Rattle.std.proofs.lemmas.List.{get_or-set_same, get_or-set_other, get_or-replicate, get_or_past, length-set, length-replicate}
use Rattle.std.proofs.lemmas.List.Sums.{sum_by-cons, sum_by-set, get_or-le-sum_by}
use Rattle.std.proofs.lemmas.Option.{none-some, same_Some}
use Rattle.jr_tree.specs.declared.label.Label.{Label}
use Rattle.jr_tree.specs.declared.label.Label.TheVariants as is
use Rattle.jr_tree.specs.declared.label.Role.TheVariants as role
use Rattle.jr_tree.specs.declared.tree.ThisOrSuper.TheVariants as which
use Rattle.jr_tree.specs.Labels.{role_of}
use Rattle.jr_tree.specs.Rows.{Rows, label, parent, role_at}
use Rattle.jr_defs.specs.declared.referent.Referent.{Referent}
use Rattle.jr_defs.specs.declared.referent.Referent.TheVariants.{Declared}
use Rattle.jr_defs.specs.Referents.{Table}
use Rattle.jr_plain.proofs.Bounds.{bounded}
use Rattle.jr_plain.proofs.Same.{role_tells}
use Rattle.jr_plain.proofs.Tests.{like}
use Rattle.jr_rules.specs.CreationTests.{is_this_call, calls_itself_round}
use Rattle.jr_rules.specs.Creations.{CallsByThis, CallsItselfRound}
use Rattle.jr_rules.proofs.Creations.{calls_itself_tells}
use Rattle.jr_supers.proofs.Subtyped.{one_test}
use Rattle.jr_plain.specs.Search.{Reaches}
use Rattle.jr_supers.specs.Tabled.{declared}
use Rattle.jr_type_facts.specs.Rounds.{is_constructor, caller, with_item, called_to, HaveOneCall, Leads, IsOnRound, IsThere, onward_by, onward, count_none, unmet, IsWalking, IsWalked, AreRoundsTo, is_way, AreRounds, AreRoundsOf}
use Rattle.jr_type_facts.specs.Tables.{item}

-- ---- items

item_past : (all : List (Option ℕ)) (n : ℕ) → length all ≤ n → item all n ≡ None
item_past all n le = get_or_past all n None le

item_below : (all : List (Option ℕ)) (n w : ℕ) → item all n ≡ Some w → n < length all
item_below all n w e = ⊎_elim (λ lt. lt) (λ le. absurd (none-some w (sym (item_past all n le) ∙ e))) (cases_lt n (length all))

item_none : (count n : ℕ) → item {A = ℕ} (replicate count None) n ≡ None
item_none count n = ⊎_elim (λ lt. get_or-replicate count n None None lt) (λ le. item_past (replicate count None) n (let size = length-replicate {A = Option ℕ} count None in omega arith)) (cases_lt n count)

item_same : (all : List (Option ℕ)) (n : ℕ) (o : Option ℕ) → n < length all → item (slice_set all n o) n ≡ o
item_same all n o lt = get_or-set_same all n o None lt

item_other : (all : List (Option ℕ)) (n k : ℕ) (o : Option ℕ) → (k ≡ n → ⊥) → item (slice_set all n o) k ≡ item all k
item_other all n k o apart = get_or-set_other all n k o None apart

unmet_le : (all : List (Option ℕ)) → unmet all ≤ length all
unmet_le [] = omega arith
unmet_le (None ∷ all) = let one : unmet (None ∷ all) ≡ count_none None + unmet all = sum_by-cons count_none None all in let h = unmet_le all in omega arith
unmet_le (Some w ∷ all) = let none : unmet (Some w ∷ all) ≡ count_none (Some w) + unmet all = sum_by-cons count_none (Some w) all in let h = unmet_le all in omega arith

-- ---- what is called

length_with : (all : List (Option ℕ)) (a b : Option ℕ) → length (with_item all a b) ≡ length all
length_with all None b = refl
length_with all (Some a) b = length-set all a b

pub length_called : (p : Rows) (t : Table) (n : ℕ) → length (called_to p t n) ≡ length p
length_called p t zero = length-replicate {A = Option ℕ} (length p) None
length_called p t (suc n) = length_with (called_to p t n) (caller p n) (declared (t n)) ∙ length_called p t n

-- ---- ways

module _ (called : List (Option ℕ)) where
  next_same : (a b c : ℕ) → Leads called a b → Leads called a c → b ≡ c
  next_same a b c e f = same_Some b c (sym e ∙ f)

  join : {a b c : ℕ} → Reaches (Leads called) a b → Leads called b c → Reaches (Leads called) a c
  join (Reaches.direct e) f = Reaches.further e (Reaches.direct f)
  join (Reaches.further e more) f = Reaches.further e (join more f)

  then : {a b c : ℕ} → Reaches (Leads called) a b → Reaches (Leads called) b c → Reaches (Leads called) a c
  then (Reaches.direct e) h = Reaches.further e h
  then (Reaches.further e more) h = Reaches.further e (then more h)

  -- the first step
  step : {a b : ℕ} → Reaches (Leads called) a b → (c : ℕ) × Leads called a c
  step (Reaches.direct {b = b} e) = (b, e)
  step (Reaches.further {r = r} e more) = (r, e)

  -- what follows on a round leads back
  next_back : {a b c : ℕ} → Reaches (Leads called) a b → Leads called a c → ((c ≡ b) ⊎ Reaches (Leads called) c b)
  next_back {a} {b} {c} (Reaches.direct e) f = inl (next_same a c b f e)
  next_back {a} {b} {c} (Reaches.further {r = r} e more) f = inr (subst (λ x. Reaches (Leads called) x b) (next_same a r c e f) more)

  back_one : {a c : ℕ} → IsOnRound called a → Leads called a c → Reaches (Leads called) c a
  back_one {a} {c} round f = ⊎_elim (λ same. subst (λ x. Reaches (Leads called) x a) (sym same) round) (λ h. h) (next_back round f)

  back : {a x : ℕ} → IsOnRound called a → Reaches (Leads called) a x → Reaches (Leads called) x a
  back round (Reaches.direct f) = back_one round f
  back round (Reaches.further f more) = then (back (join (back_one round f) f) more) (back_one round f)

  on_round : {a x : ℕ} → IsOnRound called a → Reaches (Leads called) a x → IsOnRound called x
  on_round round h = then (back round h) h

  -- ---- one walk

  pub walking_start : (old : List (Option ℕ)) (first : ℕ) → length old ≡ length called → IsWalking called old first old first × (unmet old ≤ length called)
  walking_start old first size = (
    record { size = size; kept = λ x w h. h; fresh = λ x w h. inl h; reached = inl refl; begun = inr refl; closed = λ x y w h e. inl h },
    let le = unmet_le old in omega arith,
  )

  onward_none : (o next : Option ℕ) → onward_by o next ≡ None → IsThere o ⊎ (next ≡ None)
  onward_none None next e = inr e
  onward_none (Some w) next e = inl (w, refl)

  onward_some : (o next : Option ℕ) (n : ℕ) → onward_by o next ≡ Some n → (o ≡ None) × (next ≡ Some n)
  onward_some None next n e = (refl, e)
  onward_some (Some w) next n e = absurd (none-some n e)

  pub walked_stops : {old now : List (Option ℕ)} {first here : ℕ} → onward called now here ≡ None → IsWalking called old first now here → IsWalked called old first now here
  walked_stops {old} {now} {first} {here} e h = record { walking = h; stops = onward_none (item now here) (item called here) e }

  -- none is left that was not met
  pub walked_out : {old now : List (Option ℕ)} {first here : ℕ} (turn : ℕ) → length called ≤ turn → unmet now + turn ≤ length called → IsWalking called old first now here → IsWalked called old first now here
  walked_out {old} {now} {first} {here} turn past few h = record { walking = h; stops = by (item now here) refl }
    where
      none : (o : Option ℕ) → item now here ≡ o → o ≡ None → here < length now → ⊥
      none o e is lt = let one = get_or-le-sum_by count_none now here None lt in let now_one : count_none (item now here) ≡ 1 = ap count_none (e ∙ is) in omega arith

      by : (o : Option ℕ) → item now here ≡ o → IsThere (item now here) ⊎ (item called here ≡ None)
      by (Some w) e = inl (w, e)
      by None e = ⊎_elim (λ lt. absurd (none None e refl lt)) (λ le. inr (item_past called here (let size = h.size in omega arith))) (cases_lt here (length now))

  pub walking_more : {old now new : List (Option ℕ)} {first here : ℕ} (next turn : ℕ) → onward called now here ≡ Some next → new ≡ slice_set now here (Some first) → IsWalking called old first now here → unmet now + turn ≤ length called
      → IsWalking called old first new next × (unmet new + (turn + 1) ≤ length called)
  walking_more {old} {now} {new} {first} {here} next turn goes puts h few = (
    record { size = size; kept = kept; fresh = fresh; reached = inr (⊎_elim (λ same. Reaches.direct (subst (λ x. Leads called x next) (sym same) leads)) (λ r. join r leads) h.reached); begun = inl begun; closed = closed },
    fewer,
  )
    where
      both : (item now here ≡ None) × (item called here ≡ Some next)
      both = onward_some (item now here) (item called here) next goes

      leads : Leads called here next
      leads = both.1

      inside : here < length now
      inside = let lt = item_below called here next leads in let size = h.size in omega arith

      size : length new ≡ length called
      size = ap length puts ∙ length-set now here (Some first) ∙ h.size

      now_here : item new here ≡ Some first
      now_here = ap (λ l. item l here) puts ∙ item_same now here (Some first) inside

      now_other : (x : ℕ) → (x ≡ here → ⊥) → item new x ≡ item now x
      now_other x apart = ap (λ l. item l x) puts ∙ item_other now here x (Some first) apart

      stays : (x w : ℕ) → item now x ≡ Some w → item new x ≡ Some w
      stays x w e = now_other x (λ same. none-some w (sym both.0 ∙ ap (item now) (sym same) ∙ e)) ∙ e

      kept : (x w : ℕ) → item old x ≡ Some w → item new x ≡ Some w
      kept x w e = stays x w (h.kept x w e)

      begun : IsThere (item new first)
      begun = ⊎_elim (λ k. (k.0, stays first k.0 k.1)) (λ same. (first, ap (item new) same ∙ now_here)) h.begun

      fresh : (x w : ℕ) → item new x ≡ Some w → (item old x ≡ Some w) ⊎ ((w ≡ first) × Reaches (Leads called) x next × ((first ≡ x) ⊎ Reaches (Leads called) first x))
      fresh x w e = ⊎_elim (λ same. inr (
        same_Some w first (sym e ∙ ap (item new) same ∙ now_here),
        subst (λ y. Reaches (Leads called) y next) (sym same) (Reaches.direct leads),
        subst (λ y. (first ≡ y) ⊎ Reaches (Leads called) first y) (sym same) h.reached,
      ))
          (λ apart. ⊎_elim (λ k. inl k) (λ k. inr (k.0, join k.1 leads, k.2)) (h.fresh x w (sym (now_other x apart) ∙ e))) (cases_eq x here)

      closed : (x y w : ℕ) → item new x ≡ Some w → Leads called x y → (item old x ≡ Some w) ⊎ ((next ≡ y) ⊎ IsThere (item new y))
      closed x y w e f = ⊎_elim (λ same. inr (inl (next_same here next y leads (subst (λ z. Leads called z y) same f))))
          (λ apart. ⊎_elim (λ k. inl k) (λ k. inr (inr (⊎_elim (λ at. (first, ap (item new) (sym at) ∙ now_here)) (λ s. (s.0, stays y s.0 s.1)) k))) (h.closed x y w (sym (now_other x apart) ∙ e) f)) (cases_eq x here)

      fewer : unmet new + (turn + 1) ≤ length called
      fewer = let sum = sum_by-set count_none now here (Some first) None inside in let one : count_none (item now here) ≡ 1 = ap count_none both.0 in let same : unmet new ≡ unmet (slice_set now here (Some first)) = ap unmet puts in omega arith

  -- ---- all walks

  pub rounds_start : (met rounds : List (Option ℕ)) (count : ℕ) → count ≡ length called → met ≡ replicate count None → rounds ≡ replicate count None → AreRoundsTo called 0 met rounds
  rounds_start met rounds count e m r = record {
    met_size = ap length m ∙ length-replicate {A = Option ℕ} count None ∙ e;
    rounds_size = ap length r ∙ length-replicate {A = Option ℕ} count None ∙ e;
    early = λ x w h. absurd (nothing met m x w h);
    sound = λ x w h. absurd (nothing rounds r x w h);
    closed = λ x y w h f. absurd (nothing rounds r x w h);
    decided = λ x w h f. absurd (nothing met m x w h);
    told = λ x lt f. absurd (omega arith);
  }
    where
      nothing : (l : List (Option ℕ)) → l ≡ replicate count None → (x w : ℕ) → item l x ≡ Some w → ⊥
      nothing l is x w h = none-some w (sym (item_none count x) ∙ ap (λ l. item l x) (sym is) ∙ h)

  marked_on : (rounds : List (Option ℕ)) → ((x y w : ℕ) → item rounds x ≡ Some w → Leads called x y → IsThere (item rounds y)) → {a x : ℕ} → Reaches (Leads called) a x → IsThere (item rounds a) → IsThere (item rounds x)
  marked_on rounds closed (Reaches.direct {a = a} {b = b} e) h = closed a b h.0 h.1 e
  marked_on rounds closed (Reaches.further {a = a} {r = r} e more) h = marked_on rounds closed more (closed a r h.0 h.1 e)

  way_tells : (o : Option ℕ) (first : ℕ) → Decides (is_way o first) (o ≡ Some first)
  way_tells None first = (λ h. absurd (false≢true h), λ e. absurd (none-some first e))
  way_tells (Some w) first = (λ h. ap Some ((Decides-eqb w first).0 h), λ e. (Decides-eqb w first).1 (same_Some w first e))

  module _ {n : ℕ} {met rounds now : List (Option ℕ)} {end : ℕ} (h : AreRoundsTo called n met rounds) (walk : IsWalked called met n now end) where
    early : (x w : ℕ) → item now x ≡ Some w → w < n + 1
    early x w e = ⊎_elim (λ k. let lt = h.early x w k in omega arith) (λ k. let same = k.0 in omega arith) (walk.walking.fresh x w e)

    -- what is to be known of the marks, once those that are met are decided
    told_more : (marks : List (Option ℕ)) → ((x w : ℕ) → item rounds x ≡ Some w → IsThere (item marks x)) → ((x w : ℕ) → item now x ≡ Some w → IsOnRound called x → IsThere (item marks x)) → (x : ℕ) → x < n + 1 → IsOnRound called x → IsThere (item marks x)
    told_more marks kept decided x lt round = ⊎_elim (λ same. subst (λ y. IsThere (item marks y)) (sym same) (own (subst (IsOnRound called) same round)))
        (λ apart. let k = h.told x (omega arith) round in kept x k.0 k.1) (cases_eq x n)
      where
        own : IsOnRound called n → IsThere (item marks n)
        own r = ⊎_elim (λ k. decided n k.0 k.1 r)
            (λ same. ⊎_elim (λ k. decided n k.0 (ap (item now) same ∙ k.1) r) (λ none. let s = step r in absurd (none-some s.0 (sym none ∙ ap (item called) (sym same) ∙ s.1))) walk.stops) walk.walking.begun

    -- the way does not come back to itself
    pub round_none : is_way (item now end) n ≡ false → AreRoundsTo called (n + 1) now rounds
    round_none other = record {
      met_size = walk.walking.size;
      rounds_size = h.rounds_size;
      early = early;
      sound = h.sound;
      closed = h.closed;
      decided = decided;
      told = told_more rounds (λ x w e. (w, e)) decided;
    }
      where
        at_end : IsOnRound called end → IsThere (item rounds end)
        at_end r = ⊎_elim (λ k. ⊎_elim (λ was. h.decided end k.0 was r) (λ new. absurd (false≢true (sym other ∙ (way_tells (item now end) n).1 (k.1 ∙ ap Some new.0)))) (walk.walking.fresh end k.0 k.1))
            (λ none. let s = step r in absurd (none-some s.0 (sym none ∙ s.1))) walk.stops

        decided : (x w : ℕ) → item now x ≡ Some w → IsOnRound called x → IsThere (item rounds x)
        decided x w e round = ⊎_elim (λ k. h.decided x w k round)
            (λ k. marked_on rounds h.closed (back round k.1) (at_end (on_round round k.1))) (walk.walking.fresh x w e)

    -- it does, and the round is marked
    module _ (own : is_way (item now end) n ≡ true) where
      pub end_round : IsOnRound called end
      end_round = ⊎_elim (λ k. let lt = h.early end n k in absurd (omega arith)) (λ k. k.1) (walk.walking.fresh end n ((way_tells (item now end) n).0 own))

      pub round_more : {marks : List (Option ℕ)} {last : ℕ} → IsWalked called rounds end marks last → AreRoundsTo called (n + 1) now marks
      round_more {marks} {last} second = record {
        met_size = walk.walking.size;
        rounds_size = second.walking.size;
        early = early;
        sound = sound;
        closed = closed;
        decided = decided;
        told = told_more marks (λ x w e. (w, second.walking.kept x w e)) decided;
      }
        where
          last_round : IsOnRound called last
          last_round = ⊎_elim (λ same. subst (IsOnRound called) same end_round) (λ r. on_round end_round r) second.walking.reached

          last_marked : IsThere (item marks last)
          last_marked = ⊎_elim (λ k. k) (λ none. let s = step last_round in absurd (none-some s.0 (sym none ∙ s.1))) second.stops

          end_marked : IsThere (item marks end)
          end_marked = ⊎_elim (λ k. k) (λ same. subst (λ y. IsThere (item marks y)) (sym same) last_marked) second.walking.begun

          sound : (x w : ℕ) → item marks x ≡ Some w → IsOnRound called x
          sound x w e = ⊎_elim (λ k. h.sound x w k) (λ k. ⊎_elim (λ same. subst (IsOnRound called) same end_round) (λ r. on_round end_round r) k.2) (second.walking.fresh x w e)

          closed : (x y w : ℕ) → item marks x ≡ Some w → Leads called x y → IsThere (item marks y)
          closed x y w e f = ⊎_elim (λ k. let s = h.closed x y w k f in (s.0, second.walking.kept y s.0 s.1)) (⊎_elim (λ same. subst (λ z. IsThere (item marks z)) same last_marked) (λ s. s)) (second.walking.closed x y w e f)

          decided : (x w : ℕ) → item now x ≡ Some w → IsOnRound called x → IsThere (item marks x)
          decided x w e round = ⊎_elim (λ k. let s = h.decided x w k round in (s.0, second.walking.kept x s.0 s.1))
              (λ k. marked_on marks closed (back round k.1) end_marked) (walk.walking.fresh x w e)

  some_item : (o : Option ℕ) → is_some o ≡ true → IsThere o
  some_item None e = absurd (false≢true e)
  some_item (Some w) e = (w, refl)

  pub rounds_end : {n : ℕ} {met rounds : List (Option ℕ)} → n ≡ length called → AreRoundsTo called n met rounds → AreRounds called rounds
  rounds_end {n} {met} {rounds} whole h x = (
    λ e. let s = some_item (item rounds x) e in h.sound x s.0 s.1,
    λ r. let first = step r in let s = h.told x (let lt = item_below called x first.0 first.1 in omega arith) r in ap is_some s.1,
  )

-- ---- what is called is what the definition says

declared_tells : (a : Referent) (b : ℕ) → declared a ≡ Some b → (level : Option ℕ) × (a ≡ Declared b level)
declared_tells (Declared d level) b e = (level, ap (λ x. Declared x level) (same_Some d b e))
declared_tells _ b e = absurd (none-some b e)

this_call : (l : Label) → is_this_call l ≡ true → l ≡ is.ConstructorCall which.This
this_call (is.ConstructorCall which.This) e = refl
this_call _ e = absurd (false≢true e)

module _ (p : Rows) (t : Table) where
  caller_is : (n a : ℕ) → caller p n ≡ Some a → (is_this_call (label p n) ≡ true) × ((role_at p a ≡ role.Constructor) × (parent p (parent p n) ≡ a))
  caller_is n a e = by (is_this_call (label p n) && is_constructor p (parent p (parent p n))) refl e
    where
      by : (b : Bool) → (is_this_call (label p n) && is_constructor p (parent p (parent p n))) ≡ b → cond b (Some (parent p (parent p n))) None ≡ Some a → (is_this_call (label p n) ≡ true) × ((role_at p a ≡ role.Constructor) × (parent p (parent p n) ≡ a))
      by false is e = absurd (none-some a e)
      by true is e = let both = and_parts (is_this_call (label p n)) (is_constructor p (parent p (parent p n))) is in let same = same_Some (parent p (parent p n)) a e in
          (both.0, (subst (λ k. role_at p k ≡ role.Constructor) same ((role_tells (role_at p (parent p (parent p n))) role.Constructor).0 both.1), same))

  is_caller : (n a : ℕ) → label p n ≡ is.ConstructorCall which.This → role_at p a ≡ role.Constructor → parent p (parent p n) ≡ a → caller p n ≡ Some a
  is_caller n a calls constructor inside = ap (λ b. cond b (Some (parent p (parent p n))) None) (and_from (is_this_call (label p n)) (is_constructor p (parent p (parent p n))) (ap is_this_call calls)
      ((role_tells (role_at p (parent p (parent p n))) role.Constructor).1 (ap (role_at p) inside ∙ constructor))) ∙ ap Some inside

  -- by a call among the first n rows
  abbrev CalledTo : ℕ → ℕ → ℕ → Type 0
  CalledTo n a b = (c : ℕ) × (c < n) × (caller p c ≡ Some a) × (declared (t c) ≡ Some b)

  called_out : (n a b : ℕ) → Leads (called_to p t n) a b → CalledTo n a b
  called_out zero a b e = absurd (none-some b (sym (item_none (length p) a) ∙ e))
  called_out (suc n) a b e = by (λ k. called_out n a b k) (caller p n) refl e
    where
      later : CalledTo n a b → CalledTo (suc n) a b
      later k = let lt = k.1 in (k.0, omega arith, k.2, k.3)

      by : (Leads (called_to p t n) a b → CalledTo n a b) → (o : Option ℕ) → caller p n ≡ o → item (with_item (called_to p t n) o (declared (t n))) a ≡ Some b → CalledTo (suc n) a b
      by before None is e = later (before e)
      by before (Some d) is e = ⊎_elim (λ same. ⊎_elim
          (λ lt. (n, omega arith, is ∙ ap Some (sym same), sym (item_same (called_to p t n) d (declared (t n)) lt) ∙ ap (item (slice_set (called_to p t n) d (declared (t n)))) (sym same) ∙ e))
          (λ le. absurd (none-some b (sym (item_past (slice_set (called_to p t n) d (declared (t n))) a (let size = length-set (called_to p t n) d (declared (t n)) in omega arith)) ∙ e)))
          (cases_lt d (length (called_to p t n))))
          (λ apart. later (before (sym (item_other (called_to p t n) d a (declared (t n)) apart) ∙ e))) (cases_eq a d)

  pub called_sound : (a b : ℕ) → Leads (called_to p t (length p)) a b → CallsByThis p t a b
  called_sound a b e = let k = called_out (length p) a b e in let c = caller_is k.0 a k.2 in let d = declared_tells (t k.0) b k.3 in
      record { constructor = c.1.0; call = k.0; calls = this_call (label p k.0) c.0; inside = c.1.1; level = d.0; refers = d.1 }

  module _ (h : HaveOneCall p) where
    one_caller : (c d a : ℕ) → caller p c ≡ Some a → caller p d ≡ Some a → c ≡ d
    one_caller c d a e f = let k = caller_is c a e in let l = caller_is d a f in h.one c d k.0 l.0 (k.1.1 ∙ sym l.1.1)

    called_into : (n a : ℕ) → a < length p → (c : ℕ) → c < n → caller p c ≡ Some a → item (called_to p t n) a ≡ declared (t c)
    called_into zero a inside c lt e = absurd (omega arith)
    called_into (suc n) a inside c lt e = by (λ apart. called_into n a inside c (⊎_elim (λ same. absurd (apart (ap (caller p) (sym same) ∙ e))) (λ other. omega arith) (cases_eq c n)) e) (caller p n) refl
      where
        by : ((caller p n ≡ Some a → ⊥) → item (called_to p t n) a ≡ declared (t c)) → (o : Option ℕ) → caller p n ≡ o → item (with_item (called_to p t n) o (declared (t n))) a ≡ declared (t c)
        by earlier None is = earlier (λ k. none-some a (sym is ∙ k))
        by earlier (Some d) is = ⊎_elim (λ same. ap (λ k. item (slice_set (called_to p t n) k (declared (t n))) a) (sym same) ∙ item_same (called_to p t n) a (declared (t n)) (let size = length_called p t n in omega arith)
            ∙ ap (λ k. declared (t k)) (one_caller n c a (is ∙ ap Some (sym same)) e))
            (λ apart. item_other (called_to p t n) d a (declared (t n)) apart ∙ earlier (λ k. apart (same_Some a d (sym k ∙ is)))) (cases_eq a d)

    called_whole : (a b : ℕ) → CallsByThis p t a b → Leads (called_to p t (length p)) a b
    called_whole a b k = called_into (length p) a (bounded (λ l. role_of l ≡ role.Constructor) (λ e. cc) p a k.constructor) k.call (bounded (λ l. l ≡ is.ConstructorCall which.This) (λ e. cc) p k.call k.calls)
        (is_caller k.call a k.calls k.constructor k.inside) ∙ ap declared k.refers

    rounds_out : {a b : ℕ} → Reaches (Leads (called_to p t (length p))) a b → Reaches (CallsByThis p t) a b
    rounds_out (Reaches.direct {a = a} {b = b} e) = Reaches.direct (called_sound a b e)
    rounds_out (Reaches.further {a = a} {r = r} e more) = Reaches.further (called_sound a r e) (rounds_out more)

    rounds_into : {a b : ℕ} → Reaches (CallsByThis p t) a b → Reaches (Leads (called_to p t (length p))) a b
    rounds_into (Reaches.direct {a = a} {b = b} k) = Reaches.direct (called_whole a b k)
    rounds_into (Reaches.further {a = a} {r = r} k more) = Reaches.further (called_whole a r k) (rounds_into more)

    -- where a body has one call at most, the rounds are those of the definition
    pub rounds_are : (rounds : List (Option ℕ)) → AreRounds (called_to p t (length p)) rounds → AreRoundsOf p t rounds
    rounds_are rounds told k = one_test (is_some (item rounds k)) (calls_itself_round p t k) (CallsItselfRound p t k) (like (told k) rounds_out rounds_into) (calls_itself_tells p t k)
