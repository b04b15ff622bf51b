-- Moved `return` statements, by what is found of points and steps.
use Rattle.std.proofs.Common.{◌≡◌, ◌⊎◌, inl, inr, ⊎_elim, refl, sym, ◌∙◌, ap, subst, arith, ℕ, ◌+◌, ◌-◌, ◌<◌, ◌≤◌, Bool, true, false, not, ◌&&◌, List, length, map, Option, Some, None, nat_lt, slice_get, Decides}
use Rattle.std.specs.List.{Contains}
use Rattle.std.proofs.lemmas.Bool.{false≢true, cases_lt}
use Rattle.std.proofs.lemmas.Bool.Decides.{Decides-ltb}
use Rattle.std.proofs.lemmas.Option.{none-some, same_Some}
use Rattle.jr_tree.specs.Rows.{Rows, label, end}
use Rattle.jr_places.specs.declared.stamps.Stamps.{Stamps}
use Rattle.jr_places.specs.Stamps.{is_stamped, IsStamping, IsEmptied, AddsStamp}
use Rattle.jr_flow_defs.specs.declared.point.Point.{Point}
use Rattle.jr_flow_defs.specs.declared.point.PointKind.{PointKind}
use Rattle.jr_flow_defs.specs.declared.point.PointKind.TheVariants as kind
use Rattle.jr_flow_defs.specs.Edges.{point}
use Rattle.jr_flow_defs.specs.Kept.{Origin}
use Rattle.jr_flow.specs.declared.point.Step.{Step}
use Rattle.jr_flow.specs.Reached.{step_seen}
use Rattle.jr_kept.specs.declared.edges.Firsts.{Firsts}
use Rattle.jr_kept.specs.Ordered.{Tells}
use Rattle.jr_kept.specs.Carried.{is_exit_at}
use Rattle.jr_kept.specs.Disturbed.{some_if}
use Rattle.jr_kept.specs.Waiting.{AreShaped, IsFree}
use Rattle.jr_kept.specs.Returned.{is_return, is_noted, AreMoved, OnlyMoved, NotesIf, NotesReturn, NotesTo, moved_by, moved_at, AreFreeTo, LeadsOut, LeadOutTo, IsMoved, LeavesByNumbers}
use Rattle.jr_kept.proofs.Naming.{get_inside}
use Rattle.jr_kept.proofs.Coming.{stamped_inside}
use Rattle.jr_kept.proofs.Telling.{tells_still, tells_both, tells_like}
use Rattle.jr_kept.proofs.Disturbing.{and_true, and_out, never_true, either_way, step_got, step_there}

-- ---- which rows are moved

not_before : (n body : ℕ) → body ≤ n → not (nat_lt n body) ≡ true
not_before n body le = ap not (never_true (nat_lt n body) (λ e. let less = (Decides-ltb n body).0 e in absurd (omega (arith, le, less))))

before_not : (n body : ℕ) → not (nat_lt n body) ≡ true → body ≤ n
before_not n body e = ⊎_elim (λ less. absurd (false≢true (sym (ap not ((Decides-ltb n body).1 less)) ∙ e))) (λ le. le) (cases_lt n body)

pub noted_now : (body bound row : ℕ) (old new : Stamps) (is_new : Bool) → AddsStamp old new bound (row - body) is_new → NotesIf body bound old new row true
noted_now body bound row old new is_new adds = record {
  counted = adds.counted;
  kept = adds.kept;
  here = λ e lt. ⊎_elim (λ is. (adds.new_one is).1) (λ not_new. adds.kept (row - body) (adds.was lt not_new)) (either_way is_new);
  out = λ j s. ⊎_elim (λ early. inl early) (λ same. inr (refl, same)) (adds.out j s);
}

pub noted_none : (body bound row : ℕ) (set : Stamps) → IsStamping set bound → NotesIf body bound set set row false
noted_none body bound row set counted = record { counted = counted; kept = λ n s. s; here = λ e. absurd (false≢true e); out = λ j s. inl s }

pub notes_row : (p : Rows) (body bound at : ℕ) (old new : Stamps) (is_such : Bool) → is_such ≡ is_noted p body at → NotesIf body bound old new at is_such → NotesReturn p body bound old new (Some at)
notes_row p body bound at old new is_such is notes = record {
  counted = notes.counted;
  kept = notes.kept;
  here = λ n e such lt. let same = same_Some at n e in
      subst (λ m. is_stamped new (m - body) ≡ true) same (notes.here (is ∙ subst (λ m. is_noted p body m ≡ true) (sym same) such) (subst (λ m. m - body < bound) (sym same) lt));
  out = λ j s. ⊎_elim (λ early. inl early) (λ now. inr (record { at = at; stands = refl; noted = sym is ∙ now.0; place = now.1 })) (notes.out j s);
}

pub notes_no_row : (p : Rows) (body bound : ℕ) (set : Stamps) → IsStamping set bound → NotesReturn p body bound set set None
notes_no_row p body bound set counted = record { counted = counted; kept = λ n s. s; here = λ n e. absurd (none-some n e); out = λ j s. inl s }

pub notes_none : (p : Rows) (body bound : ℕ) (origin : Origin) (first : ℕ) (set : Stamps) → IsEmptied set bound → NotesTo p body bound origin first first set
notes_none p body bound origin first set empty = record {
  counted = empty.counted;
  here = λ k n low high. absurd (omega (arith, low, high));
  out = λ j s. absurd (false≢true (sym (empty.none j) ∙ s));
}

pub notes_more : (p : Rows) (body bound : ℕ) (origin : Origin) (first at : ℕ) (old new : Stamps) (row : Option ℕ) → first ≤ at → row ≡ origin at → NotesTo p body bound origin first at old → NotesReturn p body bound old new row
    → NotesTo p body bound origin first (at + 1) new
notes_more p body bound origin first at old new row le is h notes = record {
  counted = notes.counted;
  here = λ k n low high e such lt. ⊎_elim (λ early. notes.kept (n - body) (h.here k n low early e such lt))
      (λ past. let same : at ≡ k = omega (arith, high, past) in notes.here n (is ∙ ap origin same ∙ e) such lt) (cases_lt k at);
  out = λ j s. ⊎_elim (λ early. let o = h.out j early in let to = o.to in record { copy = o.copy; from = o.from; to = omega (arith, to); noted = o.noted })
      (λ now. record { copy = at; from = le; to = omega arith; noted = record { at = now.at; stands = sym is ∙ now.stands; noted = now.noted; place = now.place } }) (notes.out j s);
}

pub notes_end : (p : Rows) (body bound : ℕ) (origin : Origin) (first at stop : ℕ) (moved : Stamps) → (at ≤ first) ⊎ (at ≤ stop) → stop ≤ at → NotesTo p body bound origin first at moved → NotesTo p body bound origin first stop moved
notes_end p body bound origin first at stop moved either past notes = record {
  counted = notes.counted;
  here = λ k n low high e such lt. notes.here k n low (omega (arith, high, past)) e such lt;
  out = λ j s. let o = notes.out j s in let from = o.from in let to = o.to in
      record { copy = o.copy; from = o.from; to = ⊎_elim (λ none. absurd (omega (arith, none, from, to))) (λ near. omega (arith, near, to)) either; noted = o.noted };
}

pub all_moved : (p q : Rows) (body method first stop last bound : ℕ) (origin : Origin) (moved : Stamps) → first ≡ method + 1 → stop ≡ end q method → last ≡ end p body → bound ≡ last - body
    → NotesTo p body bound origin first stop moved → AreMoved p q body method origin moved
all_moved p q body method first stop last bound origin moved is_first is_stop is_last is_bound notes n m =
    let low = m.from in let high = m.to in let behind = m.behind in let within = m.within in
    notes.here m.copy n (omega (arith, is_first, behind)) (omega (arith, is_stop, within)) m.is_copy
    (and_true (not (nat_lt n body)) (is_return (label p n)) (not_before n body m.from) m.returns) (omega (arith, is_bound, is_last, low, high))

pub only_moved : (p q : Rows) (body method first stop last bound : ℕ) (origin : Origin) (moved : Stamps) → first ≡ method + 1 → stop ≡ end q method → last ≡ end p body → bound ≡ last - body
    → NotesTo p body bound origin first stop moved → OnlyMoved p q body method origin moved
only_moved p q body method first stop last bound origin moved is_first is_stop is_last is_bound notes j s =
    let o = notes.out j s in let both = and_out (not (nat_lt o.noted.at body)) (is_return (label p o.noted.at)) o.noted.noted in
    let low = before_not o.noted.at body both.0 in let place = o.noted.place in let less = stamped_inside moved bound j notes.counted s in let from = o.from in let to = o.to in
    let same : o.noted.at ≡ body + j = omega (arith, low, place) in record {
      from = omega arith;
      to = omega (arith, less, is_bound, is_last);
      returns = subst (λ n. is_return (label p n) ≡ true) same both.1;
      copy = o.copy;
      is_copy = o.noted.stands ∙ ap Some same;
      behind = omega (arith, is_first, from);
      within = omega (arith, is_stop, to);
    }

-- ---- what is found

moved_is : (body : ℕ) (moved : Stamps) (x : Point) → x.kind ≡ kind.Node → body ≤ x.row → is_stamped moved (x.row - body) ≡ true → moved_at body moved (Some x) ≡ Some x.row
moved_is body moved x node le is = ap (λ k. moved_by k x.row (not (nat_lt x.row body) && is_stamped moved (x.row - body))) node
    ∙ ap (some_if x.row) (and_true (not (nat_lt x.row body)) (is_stamped moved (x.row - body)) (not_before x.row body le) is)

some_out : (row n : ℕ) (b : Bool) → some_if row b ≡ Some n → (b ≡ true) × (row ≡ n)
some_out row n true e = (refl, same_Some row n e)
some_out row n false e = absurd (none-some n e)

-- a row of one of the points that is in the set
record IsMovedNode (p q : Rows) (body method : ℕ) (origin : Origin) (o : Option Point) (row : ℕ) : Type 0 where
  stands : o ≡ point row kind.Node
  moved : IsMoved p q body method origin row

module _ (p q : Rows) (body method : ℕ) (origin : Origin) (moved : Stamps) (only : OnlyMoved p q body method origin moved) where
  moved_kind : (k : PointKind) (n row : ℕ) → moved_by k n (not (nat_lt n body) && is_stamped moved (n - body)) ≡ Some row → IsMovedNode p q body method origin (point n k) row
  moved_kind kind.Entry n row e = absurd (none-some row e)
  moved_kind kind.Exit n row e = absurd (none-some row e)
  moved_kind kind.Thrown n row e = absurd (none-some row e)
  moved_kind (kind.Definition d) n row e = absurd (none-some row e)
  moved_kind (kind.Use d) n row e = absurd (none-some row e)
  moved_kind kind.Node n row e =
      let o = some_out n row (not (nat_lt n body) && is_stamped moved (n - body)) e in let both = and_out (not (nat_lt n body)) (is_stamped moved (n - body)) o.0 in
      let low = before_not n body both.0 in let whole : body + (n - body) ≡ n = omega (arith, low) in
      record { stands = ap (λ m. point m kind.Node) o.1; moved = subst (IsMoved p q body method origin) (whole ∙ o.1) (only (n - body) both.1) }

  moved_tells : (o : Option Point) (row : ℕ) → moved_at body moved o ≡ Some row → IsMovedNode p q body method origin o row
  moved_tells None row e = absurd (none-some row e)
  moved_tells (Some x) row e = moved_kind x.kind x.row row e

  pub all_free : (points : List Point) (steps : List Step) → LeavesByNumbers p q body method origin points (map step_seen steps) → AreFreeTo p body moved points (length points)
  all_free points steps leaves k row lt e = let o = moved_tells (slice_get points k) row e in leaves.free k (record { row = row; kind = kind.Node }) o.stands refl o.moved

  pub all_leave : (points : List Point) (steps : List Step) → LeavesByNumbers p q body method origin points (map step_seen steps) → LeadOutTo body moved points steps (length steps)
  all_leave points steps leaves k lt = by (slice_get steps k) refl
    where
      by : (s : Option Step) → slice_get steps k ≡ s → LeadsOut body moved points s
      by None e = tt
      by (Some s) e = λ row is. let o = moved_tells (slice_get points s.from) row is in leaves.exits s.from s.to s.is_throw (record { row = row; kind = kind.Node }) (step_there steps k s e) o.stands refl o.moved

-- ---- what is put

pub row_told : (row : Option ℕ) (at : ℕ) (a b : Firsts) (is_such : Bool) (P : ℕ → Type 0) → row ≡ Some at → Decides is_such (P at) → Tells a b (is_such ≡ true) → Tells a b ((n : ℕ) → row ≡ Some n → P n)
row_told row at a b is_such P is tells t = tells_like a b (is_such ≡ true) ((n : ℕ) → row ≡ Some n → P n) (λ e n same. subst P (same_Some at n (sym is ∙ same)) (tells.0 e)) (λ h. tells.1 (h at is)) t

pub no_row_told : (row : Option ℕ) (a : Firsts) (P : ℕ → Type 0) → row ≡ None → Tells a a ((n : ℕ) → row ≡ Some n → P n)
no_row_told row a P none = tells_still a ((n : ℕ) → row ≡ Some n → P n) (λ n is. absurd (none-some n (sym none ∙ is)))

pub free_told : (p : Rows) (body : ℕ) (moved : Stamps) (points : List Point) (n : ℕ) (row : Option ℕ) (a b c : Firsts) → row ≡ moved_at body moved (slice_get points n) → Tells a b (AreFreeTo p body moved points n)
    → Tells b c ((m : ℕ) → row ≡ Some m → IsFree p body m) → Tells a c (AreFreeTo p body moved points (n + 1))
free_told p body moved points n row a b c is first second =
    tells_like a c (AreFreeTo p body moved points n × ((m : ℕ) → row ≡ Some m → IsFree p body m)) (AreFreeTo p body moved points (n + 1))
    (λ both k m lt e. ⊎_elim (λ early. both.0 k m early e) (λ past. let same : n ≡ k = omega (arith, lt, past) in both.1 m (is ∙ ap (λ i. moved_at body moved (slice_get points i)) same ∙ e)) (cases_lt k n))
    (λ all. (λ k m lt e. all k m (omega (arith, lt)) e, λ m e. all n m (omega arith) (sym is ∙ e))) (tells_both a b c (AreFreeTo p body moved points n) ((m : ℕ) → row ≡ Some m → IsFree p body m) first second)

pub step_told : (body : ℕ) (moved : Stamps) (points : List Point) (s : Step) (row : Option ℕ) (is_out : Bool) (a b : Firsts) → row ≡ moved_at body moved (slice_get points s.from) → is_out ≡ is_exit_at body false (slice_get points s.to)
    → Tells a b ((n : ℕ) → row ≡ Some n → is_out ≡ true) → Tells a b (LeadsOut body moved points (Some s))
step_told body moved points s row is_out a b is out t =
    tells_like a b ((n : ℕ) → row ≡ Some n → is_out ≡ true) (LeadsOut body moved points (Some s)) (λ h n e. sym out ∙ h n (is ∙ e)) (λ h n e. out ∙ h n (sym is ∙ e)) t

pub leaves_by_numbers : (p q : Rows) (body method : ℕ) (origin : Origin) (moved : Stamps) (points : List Point) (steps : List Step) → AreShaped p body → AreMoved p q body method origin moved
    → AreFreeTo p body moved points (length points) → LeadOutTo body moved points steps (length steps) → LeavesByNumbers p q body method origin points (map step_seen steps)
leaves_by_numbers p q body method origin moved points steps shaped are free out = record {
  shaped = shaped;
  free = λ i x stands node is. free i x.row (get_inside points i x stands) (ap (moved_at body moved) stands ∙ moved_is body moved x node is.from (are x.row is));
  exits = exits;
}
  where
    exits : (i j : ℕ) (t : Bool) (x : Point) → Contains (map step_seen steps) (i, j, t) → slice_get points i ≡ Some x → x.kind ≡ kind.Node → IsMoved p q body method origin x.row → is_exit_at body false (slice_get points j) ≡ true
    exits i j t x c stands node is =
        let s = step_got steps (i, j, t) c in
        let from : s.step.from ≡ i = ap (λ y. y.0) s.seen in
        let to : s.step.to ≡ j = ap (λ y. y.1) s.seen in
        let leads : LeadsOut body moved points (Some s.step) = subst (LeadsOut body moved points) s.stands (out s.place (get_inside steps s.place s.step s.stands)) in
        subst (λ n. is_exit_at body false (slice_get points n) ≡ true) to
        (leads x.row (ap (λ n. moved_at body moved (slice_get points n)) from ∙ ap (moved_at body moved) stands ∙ moved_is body moved x node is.from (are x.row is)))
