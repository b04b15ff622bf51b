-- The table of a member is filled with what is wanted, from child to child in the order of evaluation.
use Rattle.std.proofs.Common.{◌≡◌, ◌≢◌, refl, sym, ◌∙◌, ap, subst, ⊎_elim, arith, ℕ, ◌+◌, ◌-◌, ◌<◌, ◌≤◌, Bool, false, length, Option, Some, None, replicate, slice_index_or, slice_set}
use Rattle.std.proofs.lemmas.Bool.{cases_eq, cases_lt, cases_Bool}
use Rattle.std.proofs.lemmas.List.{length-set, length-replicate, get_or-replicate, get_or-set_same, get_or-set_other}
use Rattle.jr_tree.specs.declared.label.Label.{Label}
use Rattle.jr_tree.specs.declared.label.Label.TheVariants as is
use Rattle.jr_tree.specs.Rows.{Rows, label, end}
use Rattle.jr_assign.specs.declared.course.Seen as course_seen
use Rattle.jr_assign.specs.declared.run.ForParts.{ForParts}
use Rattle.jr_assign.specs.declared.run.Frame.{Frame}
use Rattle.jr_assign.specs.Changes.{Facts}
use Rattle.jr_assign.specs.Sets.{Sets}
use Rattle.jr_assign.specs.Assigned.{Seen, Gain, before_at, gain_at, met_at, guarded_in, last_part, for_update}
use Rattle.jr_assign.specs.Words.{words, seen_of, seen_in}
use Rattle.jr_assign.specs.Walked.{Table, parts_in, for_parts, before_by, gain_by, after_entry, after_exit, IsWanted, IsFilled, IsBegun, IsBelow, IsRun, RunsOn, FillsParts, IsTableOf}
use Rattle.jr_assign.proofs.Inside.{child_ends, last_tells, first_starts, next_starts, ends_before}
use Rattle.jr_assign.proofs.Following.{seen_same}
use Rattle.jr_assign.proofs.Once.{IsSame, AreSame, is_for, for_tells, behind_same, in_turn, in_header, at_body, in_updates, low_update, update_starts, for_ends}

alike : {a b : ℕ → Seen ℕ} (n : ℕ) → a n ≡ b n → IsSame a b n
alike n e = record {
  before = ap (λ (x : Seen ℕ). x.before) e;
  done = ap (λ (x : Seen ℕ). x.done) e;
  yes = ap (λ (x : Seen ℕ). x.yes) e;
  no = ap (λ (x : Seen ℕ). x.no) e;
}

-- ---- the parts of a `for`

module _ (p : Rows) (f : Facts) (n : ℕ) where
  record IsForOf (l : Label) (x : ForParts) : Type 0 where
    has_first : Bool
    has_condition : Bool
    is : l ≡ is.For has_first has_condition
    last : last_part f n ≡ Some x.body
    update : x.update ≡ for_update p n has_first has_condition

  some_parts : (o : Option ℕ) (update : ℕ) (x : ForParts) → parts_in o update ≡ Some x → (o ≡ Some x.body) × (x.update ≡ update)
  some_parts None update x e = absurd (none_some e)
    where
      none_some : None ≡ Some x → ⊥
      none_some e = cc
  some_parts (Some body) update x e = let same = some_same e in (ap (λ (x : ForParts). Some x.body) same, sym (ap (λ (x : ForParts). x.update) same))
    where
      some_same : {x y : ForParts} → Some x ≡ Some y → x ≡ y
      some_same e = cc

  for_told : (l : Label) (x : ForParts) → for_parts l p f n ≡ Some x → IsForOf l x
  for_told (is.For has_first has_condition) x e = let parts = some_parts (last_part f n) _ x e in
      record { has_first = has_first; has_condition = has_condition; is = refl; last = parts.0; update = parts.1 }
  for_told _ x e = absurd (none_some e)
    where
      none_some : None ≡ Some x → ⊥
      none_some e = cc

  no_for_with : (l : Label) (has_first has_condition : Bool) (last : ℕ) → l ≡ is.For has_first has_condition → last_part f n ≡ Some last → for_parts l p f n ≡ None → ⊥
  no_for_with l has_first has_condition last is_for_so is_last none = none_some (sym none ∙ ap (λ l. for_parts l p f n) is_for_so ∙ ap (λ o. parts_in o (for_update p n has_first has_condition)) is_last)
    where
      none_some : {x : ForParts} → None ≡ Some x → ⊥
      none_some e = cc

module _ (c : Frame) (start : ℕ) (b : ℕ → Seen ℕ) where
  abbrev p : Rows
  p = c.rows.now

  abbrev f : Facts
  f = c.facts.now

  abbrev s : Sets ℕ
  s = words c.numbers.now c.from

  abbrev at : Table → ℕ → Seen ℕ
  at all = seen_in all c.root

  put_here : (all : Table) (n : ℕ) (x : course_seen.Seen) → n - c.root < length all → at (slice_set all (n - c.root) x) n ≡ seen_of x
  put_here all n x lt = ap seen_of (get_or-set_same all (n - c.root) x _ lt)

  put_other : (all : Table) (n m : ℕ) (x : course_seen.Seen) → c.root ≤ n → c.root ≤ m → m ≢ n → at (slice_set all (n - c.root) x) m ≡ at all m
  put_other all n m x low low_m apart = ap seen_of (get_or-set_other all (n - c.root) (m - c.root) x _ (λ e. apart (omega arith)))

  module _ (wanted : IsWanted c start b) where
    abbrev before_of : (ℕ → Seen ℕ) → ℕ → ℕ
    before_of a n = before_at s p f a (met_at s p f (guarded_in p c.root) a) n

    in_rows : (n : ℕ) → n < end p c.root → n < length p
    in_rows n high = let most = wanted.tree.last c.root wanted.there in omega arith

    ends_within : (n : ℕ) → c.root ≤ n → n < end p c.root → end p n ≤ end p c.root
    ends_within n low high = ⊎_elim (λ same. subst (λ r. end p n ≤ end p r) (sym same) (omega arith)) (λ apart. wanted.tree.apart c.root n (omega arith) high) (cases_eq c.root n)

    from_step : (a : ℕ → Seen ℕ) (k : ℕ) → c.root < k → k < end p c.root → before_of a k ≡ before_of b k → before_by c a k ≡ (b k).before
    from_step a k low high e = ap (λ ts. before_at s p f a (met_at s p f ts a) k) wanted.guarded ∙ e ∙ sym (wanted.assigned.before k low high)

    -- a row is left: it has what is wanted, if all that stands inside it does
    module _ (all new : Table) (n : ℕ) (is : new ≡ after_exit c all n) (low : c.root ≤ n) (high : n < end p c.root) (long : length all ≡ end p c.root - c.root)
        (before : (at all n).before ≡ (b n).before) (same : (m : ℕ) → n + 1 ≤ m → m < end p n → at all m ≡ b m) where
      gain_same : gain_by c (at all) n ≡ gain_at s p f b (met_at s p f (guarded_in p c.root) b) n
      gain_same = ap (λ ts. gain_at s p f (at all) (met_at s p f ts (at all)) n) wanted.guarded
          ∙ behind_same s p wanted.tree f wanted.lasts c.root wanted.there (at all) b n (in_rows n high) (λ m from to. alike m (same m from to)) before (wanted.parts n low high)

      left_here : at new n ≡ b n
      left_here = ap (λ all. at all n) is ∙ put_here all n _ (omega arith) ∙ seen_same _ _ before
          (ap (λ (g : Gain ℕ). g.done) gain_same ∙ sym (wanted.assigned.done n low high))
          (ap (λ (g : Gain ℕ). g.yes) gain_same ∙ sym (wanted.assigned.yes n low high))
          (ap (λ (g : Gain ℕ). g.no) gain_same ∙ sym (wanted.assigned.no n low high))

      left_other : (m : ℕ) → c.root ≤ m → m ≢ n → at new m ≡ at all m
      left_other m low_m apart = ap (λ all. at all m) is ∙ put_other all n m _ low low_m apart

      left_long : length new ≡ length all
      left_long = ap (λ (all : Table). length all) is ∙ length-set all (n - c.root) _

    -- a table of the same rows
    begun_again : (old now : Table) (n room low high : ℕ) → n < low → IsFilled c b old now low high → IsBegun c start b old n room → IsBegun c start b now n room
    begun_again old now n room low high lt filled begun = record {
      wanted = wanted;
      long = filled.long ∙ begun.long;
      low = begun.low;
      high = begun.high;
      levels = begun.levels;
      before = ap (λ (x : Seen ℕ). x.before) (filled.below n begun.low lt) ∙ begun.before;
    }

  -- ---- from child to child

  pub record IsUnderWay (old now : Table) (n from to at turn : ℕ) : Type 0 where
    pub filled : IsFilled c b old now from at
    pub low : from ≤ at
    pub high : at ≤ to
    pub starts : at < end p n → IsBelow p n at
    pub turns : turn ≤ at

  pub under_way : (old : Table) (n from to room : ℕ) → IsRun c start b old n from to room → IsUnderWay old old n from to from from
  under_way old n from to room run = record {
    filled = record { long = refl; below = λ m low lt. refl; behind = λ m low le. refl; same = λ m low high. absurd (omega arith) };
    low = omega arith;
    high = run.le;
    starts = run.starts;
    turns = omega arith;
  }

  pub run_ends : (old now : Table) (n from to at turn : ℕ) → IsUnderWay old now n from to at turn → to ≤ at → IsFilled c b old now from to
  run_ends old now n from to at turn h le = let high = h.high in subst (IsFilled c b old now from) (omega arith) h.filled

  pub no_room : (old : Table) (n from to room : ℕ) → room ≡ 0 → IsRun c start b old n from to room → IsFilled c b old old from to
  no_room old n from to room none run = let most = run.begun.levels in let after = run.after in let within = run.within in
      record { long = refl; below = λ m low lt. refl; behind = λ m low le. refl; same = λ m low high. absurd (omega arith) }

  module _ (old now inner new final : Table) (n from to room less k turn : ℕ) (run : IsRun c start b old n from to room) (so_far : IsUnderWay old now n from to k turn) (lt : k < to) (fewer : room ≡ less + 1)
      (enters : inner ≡ after_entry c now k) (fills : FillsParts c inner new k less) (leaves : final ≡ after_exit c new k) where
    abbrev wants : IsWanted c start b
    wants = run.begun.wanted

    child : IsBelow p n k
    child = let within = run.within in so_far.starts (omega arith)

    k_low : c.root < k
    k_low = let over = run.begun.low in let after = child.0 in omega arith

    inside : k < end p n
    inside = (child_ends p wants.tree n k child).0

    k_high : k < end p c.root
    k_high = let most = ends_within wants n run.begun.low run.begun.high in let lt = inside in omega arith

    now_long : length now ≡ end p c.root - c.root
    now_long = so_far.filled.long ∙ run.begun.long

    enters_here : (at inner k).before ≡ (b k).before
    enters_here = let lt_root = k_low in let lt_end = k_high in let long = now_long in ap (λ (x : Seen ℕ). x.before) (ap (λ all. at all k) enters ∙ put_here now k _ (omega arith)) ∙ run.step k child so_far.low lt now so_far.filled

    enters_other : (m : ℕ) → c.root ≤ m → m ≢ k → at inner m ≡ at now m
    enters_other m low_m apart = let lt_root = k_low in ap (λ all. at all m) enters ∙ put_other now k m _ (omega arith) low_m apart

    inner_long : length inner ≡ length now
    inner_long = ap (λ (all : Table). length all) enters ∙ length-set now (k - c.root) _

    filled : IsFilled c b inner new (k + 1) (end p k)
    filled = fills start b (record {
      wanted = wants;
      long = inner_long ∙ now_long;
      low = let lt = k_low in omega arith;
      high = k_high;
      levels = let most = run.begun.levels in let ends = (child_ends p wants.tree n k child).1 in let after = child.0 in omega arith;
      before = enters_here;
    })

    before_kept : (at new k).before ≡ (b k).before
    before_kept = let lt = k_low in ap (λ (x : Seen ℕ). x.before) (filled.below k (omega arith) (omega arith)) ∙ enters_here

    new_long : length new ≡ end p c.root - c.root
    new_long = filled.long ∙ inner_long ∙ now_long

    low_le : c.root ≤ k
    low_le = let lt = k_low in omega arith

    here : at final k ≡ b k
    here = left_here wants new final k leaves low_le k_high new_long before_kept filled.same

    other : (m : ℕ) → c.root ≤ m → m ≢ k → at final m ≡ at new m
    other = left_other wants new final k leaves low_le k_high new_long before_kept filled.same

    ends_in : end p k ≤ to
    ends_in = ends_before p wants.tree n k to run.within run.ends child lt

    next_filled : IsFilled c b old final from (end p k)
    next_filled = let nested = wants.tree.nested k in let le = so_far.low in record {
      long = left_long wants new final k leaves low_le k_high new_long before_kept filled.same ∙ filled.long ∙ inner_long ∙ so_far.filled.long;
      below = λ m low_m less_m. other m low_m (λ e. absurd (omega arith)) ∙ filled.below m low_m (omega arith) ∙ enters_other m low_m (λ e. absurd (omega arith)) ∙ so_far.filled.below m low_m less_m;
      behind = λ m low_m past. other m low_m (λ e. absurd (omega arith)) ∙ filled.behind m low_m past ∙ enters_other m low_m (λ e. absurd (omega arith)) ∙ so_far.filled.behind m low_m (omega arith);
      same = λ m from_m to_m. let after = run.after in let over = run.begun.low in let low_m : c.root ≤ m = omega arith in ⊎_elim
          (λ e. subst (λ m. at final m ≡ b m) (sym e) here)
          (λ apart. other m low_m apart ∙ ⊎_elim
          (λ less_m. filled.below m low_m (omega arith) ∙ enters_other m low_m apart ∙ so_far.filled.same m from_m less_m)
          (λ past. filled.same m (omega arith) to_m)
          (cases_lt m k))
          (cases_eq m k);
    }

    pub run_more : (next : ℕ) → next ≡ end p k → IsUnderWay old final n from to next (turn + 1)
    run_more next is = subst (λ next. IsUnderWay old final n from to next (turn + 1)) (sym is) more
      where
        more : IsUnderWay old final n from to (end p k) (turn + 1)
        more = let nested = wants.tree.nested k in let le = so_far.low in let turns = so_far.turns in record {
          filled = next_filled;
          low = omega arith;
          high = ends_in;
          starts = next_starts p wants.tree n k (in_rows wants n run.begun.high) child;
          turns = omega arith;
        }

  -- ---- what stands inside a row

  module _ (old : Table) (n room : ℕ) (begun : IsBegun c start b old n room) where
    abbrev wanted_so : IsWanted c start b
    wanted_so = begun.wanted

    in_p : n < length p
    in_p = in_rows wanted_so n begun.high

    -- a child is in the member
    child_low : (k : ℕ) → IsBelow p n k → c.root < k
    child_low k child = let low = begun.low in let after = child.0 in omega arith

    child_high : (k : ℕ) → IsBelow p n k → k < end p c.root
    child_high k child = let inside = (child_ends p wanted_so.tree n k child).0 in let most = ends_within wanted_so n begun.low begun.high in omega arith

    before_in : (now : Table) (k high : ℕ) → n < k → IsFilled c b old now k high → (at now n).before ≡ (b n).before
    before_in now k high lt filled = ap (λ (x : Seen ℕ). x.before) (filled.below n begun.low lt) ∙ begun.before

    none_for : for_parts (label p n) p f n ≡ None → is_for (label p n) ≡ false
    none_for none = ⊎_elim
        (λ t. let so = for_tells (label p n) t in let last = for_ends p wanted_so.tree f n in_p so.0 so.1 so.2 (wanted_so.parts n begun.low begun.high) in
        absurd (no_for_with p f n (label p n) so.0 so.1 last.0 so.2 last.1 none))
        (λ no. no)
        (cases_Bool (is_for (label p n)))

    plain_run : for_parts (label p n) p f n ≡ None → IsRun c start b old n (n + 1) (end p n) room
    plain_run none = let nested = wanted_so.tree.nested n in record {
      begun = begun;
      after = omega arith;
      le = omega arith;
      within = omega arith;
      starts = first_starts p wanted_so.tree n in_p;
      ends = λ lt. absurd (omega arith);
      step = λ k child low lt now filled. from_step wanted_so (at now) k (child_low k child) (child_high k child)
          (in_turn s p wanted_so.tree f wanted_so.lasts c.root wanted_so.there (at now) b n in_p (before_in now (n + 1) k (omega arith) filled) (none_for none) k child (λ m from to. alike m (filled.same m from to)));
    }

    module _ (x : ForParts) (is_some : for_parts (label p n) p f n ≡ Some x) where
      told : IsForOf p f n (label p n) x
      told = for_told p f n (label p n) x is_some

      abbrev update : ℕ
      update = for_update p n told.has_first told.has_condition

      some_same : {k m : ℕ} → Some k ≡ Some m → k ≡ m
      some_same e = cc

      pub update_le : x.update ≤ x.body
      update_le = let last = for_ends p wanted_so.tree f n in_p told.has_first told.has_condition told.is (wanted_so.parts n begun.low begun.high) in
          let same = some_same (sym told.last ∙ last.1) in let le = last.2 in let is = told.update in omega arith

      le : update ≤ x.body
      le = let is = told.update in let le = update_le in omega arith

      body : IsBelow p n x.body
      body = (last_tells p wanted_so.tree f wanted_so.lasts n x.body told.last).child

      body_in : x.body < end p n
      body_in = (child_ends p wanted_so.tree n x.body body).0

      low_up : n + 1 ≤ x.update
      low_up = let low = low_update p wanted_so.tree f n in_p told.has_first told.has_condition in let is = told.update in omega arith

      up_starts : x.update < end p n → IsBelow p n x.update
      up_starts = subst (λ u. u < end p n → IsBelow p n u) (sym told.update) (update_starts p wanted_so.tree f n in_p told.has_first told.has_condition x.body body le)

      same_to : (now : Table) (low : ℕ) → ((m : ℕ) → low ≤ m → m < x.update → at now m ≡ b m) → AreSame (at now) b low update
      same_to now low same m from to = let is = told.update in alike m (same m from (omega arith))

      header_run : IsRun c start b old n (n + 1) x.update room
      header_run = let low = low_up in let most = update_le in let inside = body_in in record {
        begun = begun;
        after = omega arith;
        le = omega arith;
        within = omega arith;
        starts = first_starts p wanted_so.tree n in_p;
        ends = up_starts;
        step = λ k child low_k lt now filled. let is = told.update in from_step wanted_so (at now) k (child_low k child) (child_high k child)
            (in_header s p wanted_so.tree f wanted_so.lasts c.root wanted_so.there (at now) b n in_p (before_in now (n + 1) k (omega arith) filled) told.has_first told.has_condition told.is x.body told.last le k child (omega arith)
            (λ m from to. alike m (filled.same m from to)));
      }

      module _ (one : Table) (header : IsFilled c b old one (n + 1) x.update) where
        body_run : IsRun c start b one n x.body (end p n) room
        body_run = let low = low_up in let most = update_le in let inside = body_in in record {
          begun = begun_again wanted_so old one n room (n + 1) x.update (omega arith) header begun;
          after = body.0;
          le = omega arith;
          within = omega arith;
          starts = λ lt. body;
          ends = λ lt. absurd (omega arith);
          step = λ k child low_k lt now filled.
              let last = (last_tells p wanted_so.tree f wanted_so.lasts n x.body told.last).last k child in let at_k : x.body ≡ k = omega arith in let after = body.0 in
              from_step wanted_so (at now) k (child_low k child) (child_high k child) (subst (λ k. before_of wanted_so (at now) k ≡ before_of wanted_so b k) at_k
              (at_body s p wanted_so.tree f wanted_so.lasts c.root wanted_so.there (at now) b n in_p
              (ap (λ (x : Seen ℕ). x.before) (filled.below n begun.low after ∙ header.below n begun.low (omega arith)) ∙ begun.before) told.has_first told.has_condition told.is x.body told.last le
              (same_to now (n + 1) (λ m from to. let over = begun.low in filled.below m (omega arith) (omega arith) ∙ header.same m from to))));
        }

        module _ (two : Table) (bodies : IsFilled c b one two x.body (end p n)) where
          update_run : IsRun c start b two n x.update x.body room
          update_run = let low = low_up in let most = update_le in let inside = body_in in record {
            begun = begun_again wanted_so one two n room x.body (end p n) body.0 bodies (begun_again wanted_so old one n room (n + 1) x.update (omega arith) header begun);
            after = omega arith;
            le = most;
            within = omega arith;
            starts = up_starts;
            ends = λ lt. body;
            step = λ k child low_k lt now filled. let after = body.0 in let over = begun.low in from_step wanted_so (at now) k (child_low k child) (child_high k child)
                (in_updates s p wanted_so.tree f wanted_so.lasts c.root wanted_so.there (at now) b n in_p
                (ap (λ (x : Seen ℕ). x.before) (filled.below n begun.low (omega arith) ∙ bodies.below n begun.low after ∙ header.below n begun.low (omega arith)) ∙ begun.before)
                told.has_first told.has_condition told.is x.body told.last le k child lt
                (λ m from to. alike m (⊎_elim
                (λ less. filled.below m (omega arith) less ∙ bodies.below m (omega arith) (omega arith) ∙ header.same m from less)
                (λ past. filled.same m past to)
                (cases_lt m x.update)))
                (λ m from to. alike m (filled.behind m (omega arith) (omega arith) ∙ bodies.same m from to)));
          }

          for_filled : (new : Table) → IsFilled c b two new x.update x.body → IsFilled c b old new (n + 1) (end p n)
          for_filled new updates = let low = low_up in let most = update_le in let inside = body_in in let over = begun.low in record {
            long = updates.long ∙ bodies.long ∙ header.long;
            below = λ m low_m lt. updates.below m low_m (omega arith) ∙ bodies.below m low_m (omega arith) ∙ header.below m low_m lt;
            behind = λ m low_m past. updates.behind m low_m (omega arith) ∙ bodies.behind m low_m past ∙ header.behind m low_m (omega arith);
            same = λ m from to. ⊎_elim
                (λ less. ⊎_elim
                (λ in_header. updates.below m (omega arith) in_header ∙ bodies.below m (omega arith) less ∙ header.same m from in_header)
                (λ past. updates.same m past less)
                (cases_lt m x.update))
                (λ past. updates.behind m (omega arith) past ∙ bodies.same m past to)
                (cases_lt m x.body);
          }

-- ---- what the code says

module _ (c : Frame) where
  pub fills_plain : (old new : Table) (n room stop : ℕ) → for_parts (label c.rows.now n) c.rows.now c.facts.now n ≡ None → stop ≡ end c.rows.now n → RunsOn c old new (n + 1) stop room → FillsParts c old new n room
  fills_plain old new n room stop none is runs = λ start b begun. subst (λ stop. RunsOn c old new (n + 1) stop room) is runs start b n (plain_run c start b old n room begun none)

  pub fills_not : (old : Table) (n room : ℕ) (x : ForParts) → for_parts (label c.rows.now n) c.rows.now c.facts.now n ≡ Some x → x.body < x.update → FillsParts c old old n room
  fills_not old n room x is lt = λ start b begun. let le = update_le c start b old n room begun x is in absurd (omega arith)

  pub fills_for : (old one two new : Table) (n room stop : ℕ) (x : ForParts) → for_parts (label c.rows.now n) c.rows.now c.facts.now n ≡ Some x → stop ≡ end c.rows.now n
      → RunsOn c old one (n + 1) x.update room → RunsOn c one two x.body stop room → RunsOn c two new x.update x.body room → FillsParts c old new n room
  fills_for old one two new n room stop x is stop_is first second third = λ start b begun.
      let header = first start b n (header_run c start b old n room begun x is) in
      let bodies = subst (λ stop. RunsOn c one two x.body stop room) stop_is second start b n (body_run c start b old n room begun x is one header) in
      let updates = third start b n (update_run c start b old n room begun x is one header two bodies) in
      for_filled c start b old n room begun x is one header two bodies new updates

  pub table_told : (start size : ℕ) (old inner new : Table) → size ≡ end c.rows.now c.root - c.root → old ≡ replicate size (record { before = start; done = start; yes = start; no = start })
      → FillsParts c old inner c.root size → new ≡ after_exit c inner c.root → IsTableOf c start new
  table_told start size old inner new size_is old_is fills leaves = record { each = λ b wanted. by b wanted }
    where
      by : (b : ℕ → Seen ℕ) → IsWanted c start b → (n : ℕ) → c.root ≤ n → n < end c.rows.now c.root → seen_in new c.root n ≡ b n
      by b wanted n low high = ⊎_elim
          (λ e. subst (λ n. seen_in new c.root n ≡ b n) (sym e) (left_here c start b wanted inner new c.root leaves (omega arith) some inner_long before_kept filled.same))
          (λ apart. left_other c start b wanted inner new c.root leaves (omega arith) some inner_long before_kept filled.same n low apart ∙ filled.same n (omega arith) high)
          (cases_eq n c.root)
        where
          some : c.root < end c.rows.now c.root
          some = wanted.tree.nested c.root

          begun_seen : course_seen.Seen
          begun_seen = record { before = start; done = start; yes = start; no = start }

          at_root : seen_in old c.root c.root ≡ seen_of begun_seen
          at_root = let more = some in ap seen_of (ap (λ (all : Table). slice_index_or all (c.root - c.root) (record { before = 0; done = 0; yes = 0; no = 0 })) old_is ∙ get_or-replicate size (c.root - c.root) begun_seen _ (omega arith))

          begun : IsBegun c start b old c.root size
          begun = let more = some in record {
            wanted = wanted;
            long = ap (λ (all : Table). length all) old_is ∙ length-replicate size begun_seen ∙ size_is;
            low = omega arith;
            high = more;
            levels = omega arith;
            before = ap (λ (x : Seen ℕ). x.before) at_root ∙ sym wanted.assigned.begins;
          }

          filled : IsFilled c b old inner (c.root + 1) (end c.rows.now c.root)
          filled = fills start b begun

          inner_long : length inner ≡ end c.rows.now c.root - c.root
          inner_long = filled.long ∙ begun.long

          before_kept : (seen_in inner c.root c.root).before ≡ (b c.root).before
          before_kept = ap (λ (x : Seen ℕ). x.before) (filled.below c.root (omega arith) (omega arith)) ∙ begun.before
