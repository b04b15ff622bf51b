-- Counting the copies of rows.
use Rattle.std.proofs.Common.{◌≡◌, inl, inr, ⊎_elim, refl, sym, ◌∙◌, ap, subst, arith, ℕ, zero, suc, ◌+◌, ◌<◌, ◌≤◌, Bool, true, false, not, ◌&&◌, if◌then◌else◌, List, [], ◌∷◌, length, replicate, Option, Some, None, option_map, nat_eq, Decides, slice_get, slice_index_or}
use Rattle.std.proofs.lemmas.Bool.{false≢true, cases_lt, cases_eq}
use Rattle.std.proofs.lemmas.Bool.Decides.{Decides-eqb, Decides-and, Decides-not, Decides-like}
use Rattle.std.proofs.lemmas.Option.{none-some, same_Some}
use Rattle.jr_locks.specs.Origins.{no_row, origin_of, row_by}
use Rattle.jr_tree.specs.Rows.{Rows, label}
use Rattle.jr_flow_defs.specs.declared.point.Point.{Point}
use Rattle.jr_flow_defs.specs.declared.point.PointKind.{PointKind}
use Rattle.jr_flow_defs.specs.declared.point.PointKind.TheVariants as kind
use Rattle.jr_flow_defs.specs.Acts.{is_parameter}
use Rattle.jr_flow_defs.specs.Edges.{FlowNode, Naming, node_of_point}
use Rattle.jr_flow_defs.specs.Kept.{HasOneCopy, old_name}
use Rattle.jr_kept.specs.Named.{no_name, node_of_number, IsNameOf, origin_in}
use Rattle.jr_kept.specs.Copied.{Counts, IsOneMore, AddsOne, AreCounted, IsEvent, is_node, is_event}
use Rattle.jr_kept.proofs.Naming.{get_inside, or_none}
use Rattle.jr_kept.proofs.Searching.{got_or, or_got}

-- ---- one more row

two_of : (d : ℕ) (origin : List ℕ) (n i j k : ℕ) → 2 ≤ d → j < k → k < i → slice_get origin j ≡ Some n → slice_get origin k ≡ Some n → Counts d origin n i
two_of zero origin n i j k le lt in_ a b = absurd (omega (arith, le))
two_of (suc zero) origin n i j k le lt in_ a b = absurd (omega (arith, le))
two_of (suc (suc d)) origin n i j k le lt in_ a b = (j, k, lt, in_, a, b)

one_of : (d : ℕ) (origin : List ℕ) (n i copy : ℕ) → d ≡ 1 → copy < i → slice_get origin copy ≡ Some n → ((k : ℕ) → k < i → slice_get origin k ≡ Some n → k ≡ copy) → Counts d origin n i
one_of d origin n i copy e lt at only = subst (λ c. Counts c origin n i) (sym e) (copy, lt, at, only)

counts_here : (c d : ℕ) (origin : List ℕ) (n i : ℕ) → slice_get origin i ≡ Some n → IsOneMore c d → Counts c origin n i → Counts d origin n (i + 1)
counts_here zero d origin n i at (inl e) h = one_of d origin n (i + 1) i (omega (arith, e)) (omega arith) at (λ k lt f. ⊎_elim (λ early. absurd (h k early f)) (λ past. omega (arith, lt, past)) (cases_lt k i))
counts_here zero d origin n i at (inr e) h = let le = e.1 in absurd (omega (arith, le))
counts_here (suc zero) d origin n i at more h = let lt = h.1 in two_of d origin n (i + 1) h.0 i (⊎_elim (λ e. omega (arith, e)) (λ e. let a = e.0 in let b = e.1 in omega (arith, a, b)) more) lt (omega arith) h.2 at
counts_here (suc (suc c)) d origin n i at more h = let lt = h.3 in two_of d origin n (i + 1) h.0 h.1 (⊎_elim (λ e. omega (arith, e)) (λ e. let a = e.0 in omega (arith, a)) more) h.2 (omega (arith, lt)) h.4 h.5

counts_past : (c : ℕ) (origin : List ℕ) (n i from : ℕ) → slice_get origin i ≡ Some from → (from ≡ n → ⊥) → Counts c origin n i → Counts c origin n (i + 1)
counts_past zero origin n i from at apart h = λ k lt f. ⊎_elim (λ early. h k early f) (λ past. let same : k ≡ i = omega (arith, lt, past) in apart (same_Some from n (sym at ∙ subst (λ z. slice_get origin z ≡ Some n) same f))) (cases_lt k i)
counts_past (suc zero) origin n i from at apart h = let lt = h.1 in (h.0, omega (arith, lt), h.2, only)
  where
    only : (k : ℕ) → k < i + 1 → slice_get origin k ≡ Some n → k ≡ h.0
    only k less f = ⊎_elim (λ early. h.3 k early f) (λ past. let same : k ≡ i = omega (arith, less, past) in absurd (apart (same_Some from n (sym at ∙ subst (λ z. slice_get origin z ≡ Some n) same f)))) (cases_lt k i)
counts_past (suc (suc c)) origin n i from at apart h = let lt = h.3 in (h.0, h.1, h.2, omega (arith, lt), h.4, h.5)

pub counted_here : (origin : List ℕ) (body i from place : ℕ) (old new : List ℕ) → slice_get origin i ≡ Some from → from ≡ body + place → AddsOne old new place → AreCounted origin body i old → AreCounted origin body (i + 1) new
counted_here origin body i from place old new at is adds h = record { few = let few = h.few in let size = adds.size in omega (arith, few, size); counts = counts }
  where
    counts : (p c : ℕ) → slice_get new p ≡ Some c → Counts c origin (body + p) (i + 1)
    counts p c e = ⊎_elim
        (λ same. let b = adds.here c (subst (λ z. slice_get new z ≡ Some c) same e) in
        subst (λ z. Counts c origin (body + z) (i + 1)) (sym same) (counts_here b.0 c origin (body + place) i (at ∙ ap Some is) b.2 (h.counts place b.0 b.1)))
        (λ apart. counts_past c origin (body + p) i from at (λ f. apart (omega (arith, f, is))) (h.counts p c (adds.others p c apart e)))
        (cases_eq p place)

pub counted_past : (origin : List ℕ) (body i from : ℕ) (copies : List ℕ) → slice_get origin i ≡ Some from → from < body → AreCounted origin body i copies → AreCounted origin body (i + 1) copies
counted_past origin body i from copies at lt h = record { few = h.few; counts = λ p c e. counts_past c origin (body + p) i from at (λ f. absurd (omega (arith, f, lt))) (h.counts p c e) }

none_at : (count p c : ℕ) → slice_get (replicate count 0) p ≡ Some c → c ≡ 0
none_at zero p c e = absurd (none-some c e)
none_at (suc count) zero c e = sym (same_Some 0 c e)
none_at (suc count) (suc p) c e = none_at count p c e

none_size : (count : ℕ) → length {A = ℕ} (replicate count 0) ≡ count
none_size zero = refl
none_size (suc count) = ap suc (none_size count)

pub counted_none : (origin : List ℕ) (body count : ℕ) (copies : List ℕ) → copies ≡ replicate count 0 → body + count ≤ 4294967295 → AreCounted origin body 0 copies
counted_none origin body count copies is le = record {
  few = let size : length copies ≡ count = ap length is ∙ none_size count in omega (arith, size, le);
  counts = λ p c e. subst (λ z. Counts z origin (body + p) 0) (sym (none_at count p c (subst (λ xs. slice_get xs p ≡ Some c) is e))) (λ k lt f. absurd (omega (arith, lt)));
}

pub or_at : {A : Type 0} (xs : List A) (i : ℕ) (d : A) → i < length xs → slice_get xs i ≡ Some (slice_index_or xs i d)
or_at [] i d lt = absurd (omega (arith, lt))
or_at (x ∷ xs) zero d lt = refl
or_at (x ∷ xs) (suc i) d lt = or_at xs i d (omega (arith, lt))

-- ---- what a count tells

not_true : (b : Bool) → (b ≡ true → ⊥) → b ≡ false
not_true true h = absurd (h refl)
not_true false h = refl

row_is : (v n : ℕ) → row_by v ≡ Some n → (v ≡ n) × (v ≡ no_row → ⊥)
row_is v n e = by (nat_eq v no_row) (Decides-eqb v no_row).1 e
  where
    by : (b : Bool) → (v ≡ no_row → b ≡ true) → (if b then None else Some v) ≡ Some n → (v ≡ n) × (v ≡ no_row → ⊥)
    by true tells f = absurd (none-some n f)
    by false tells f = (same_Some v n f, λ g. false≢true (tells g))

row_known : (v : ℕ) → (v ≡ no_row → ⊥) → row_by v ≡ Some v
row_known v apart = ap (λ b. if b then None else Some v) (not_true (nat_eq v no_row) (λ e. apart ((Decides-eqb v no_row).0 e)))

from_into : (origin : List ℕ) (k n : ℕ) → (n ≡ no_row → ⊥) → slice_get origin k ≡ Some n → origin_in origin k ≡ Some n
from_into origin k n apart e = ap row_by (got_or origin k no_row n e) ∙ row_known n apart

from_out : (origin : List ℕ) (k n : ℕ) → origin_in origin k ≡ Some n → slice_get origin k ≡ Some n
from_out origin k n e = let is = row_is (origin_of origin k) n e in or_got origin k no_row is.1 ∙ ap Some is.0

has_one : (c : ℕ) (origin : List ℕ) (n : ℕ) → (n ≡ no_row → ⊥) → Counts c origin n (length origin) → Decides (nat_eq c 1) (HasOneCopy (origin_in origin) n)
has_one zero origin n apart h = (λ e. absurd (false≢true e), λ o. absurd (let at = from_out origin o.copy n o.is_copy in h o.copy (get_inside origin o.copy n at) at))
has_one (suc zero) origin n apart h = (
  λ e. record { copy = h.0; is_copy = from_into origin h.0 n apart h.2; only = λ k f. let at = from_out origin k n f in h.3 k (get_inside origin k n at) at },
  λ o. refl,
)
has_one (suc (suc c)) origin n apart h = (
  λ e. let is = (Decides-eqb (suc (suc c)) 1).0 e in absurd (omega (arith, is)),
  λ o. let a = o.only h.0 (from_into origin h.0 n apart h.4) in let b = o.only h.1 (from_into origin h.1 n apart h.5) in let lt = h.2 in absurd (omega (arith, a, b, lt)),
)

pub counted_tells : (origin copies : List ℕ) (body row place number : ℕ) → AreCounted origin body (length origin) copies → row ≡ body + place → slice_get copies place ≡ Some number → Decides (nat_eq number 1) (HasOneCopy (origin_in origin) row)
counted_tells origin copies body row place number h is at =
    let few = h.few in let inside = get_inside copies place number at in
    subst (λ n. Decides (nat_eq number 1) (HasOneCopy (origin_in origin) n)) (sym is) (has_one number origin (body + place) (λ e. absurd (omega (arith, few, inside, e))) (h.counts place number at))

-- ---- events

node_tells : (k : PointKind) → Decides (is_node k) (k ≡ kind.Node)
node_tells kind.Node = (λ h. refl, λ e. refl)
node_tells _ = (λ h. absurd (false≢true h), λ e. absurd (cc))

-- a name of a node is one where its row has a name
name_tells : (body count name : ℕ) (o : Option ℕ) → IsNameOf body count name (option_map FlowNode.acting o) → ((name ≡ no_name → ⊥) → (m : ℕ) × (o ≡ Some m)) × ((m : ℕ) → o ≡ Some m → name ≡ no_name → ⊥)
name_tells body count name None h = (
  λ apart. absurd (none-some (node_of_number body name) (sym h.is ∙ ap (λ b. if b then None else Some (node_of_number body name)) (not_true (nat_eq name no_name) (λ e. apart ((Decides-eqb name no_name).0 e))))),
  λ m e. absurd (none-some m e),
)
name_tells body count name (Some m) h = (
  λ apart. (m, refl),
  λ n e same. none-some (FlowNode.acting m) (sym (ap (λ b. if b then None else Some (node_of_number body name)) ((Decides-eqb name no_name).1 same)) ∙ h.is),
)

acting_name : (body count name at : ℕ) (naming : Naming) (x : Point) → x.kind ≡ kind.Node → IsNameOf body count name (node_of_point at naming x) → IsNameOf body count name (option_map FlowNode.acting (naming x.row))
acting_name body count name at naming x e h = subst (IsNameOf body count name) (or_none (option_map FlowNode.acting (naming x.row)) (nat_eq x.row at)) (subst (λ k. IsNameOf body count name (node_of_point at naming (record { row = x.row; kind = k }))) e h)

pub event_tells : (p : Rows) (dropped : Option ℕ) (body count name at : ℕ) (x : Point) → IsNameOf body count name (node_of_point at (λ n. old_name p dropped n) x) → Decides (is_event p name x) (IsEvent p dropped x)
event_tells p dropped body count name at x h = Decides-like (is_event p name x) to from
    (Decides-and (is_node x.kind && not (nat_eq name no_name)) (not (is_parameter (label p x.row))) (Decides-and (is_node x.kind) (not (nat_eq name no_name)) (node_tells x.kind) (Decides-not (nat_eq name no_name) (Decides-eqb name no_name)))
    (Decides-not (is_parameter (label p x.row)) (itself (is_parameter (label p x.row)))))
  where
    itself : (b : Bool) → Decides b (b ≡ true)
    itself b = (λ e. e, λ e. e)

    told : x.kind ≡ kind.Node → ((name ≡ no_name → ⊥) → (m : ℕ) × (old_name p dropped x.row ≡ Some m)) × ((m : ℕ) → old_name p dropped x.row ≡ Some m → name ≡ no_name → ⊥)
    told e = name_tells body count name (old_name p dropped x.row) (acting_name body count name at (λ n. old_name p dropped n) x e h)

    to : ((x.kind ≡ kind.Node) × (name ≡ no_name → ⊥)) × (is_parameter (label p x.row) ≡ true → ⊥) → IsEvent p dropped x
    to all = let m = (told all.0.0).0 all.0.1 in record { name = m.0; node = all.0.0; named = m.1; event = not_true (is_parameter (label p x.row)) all.1 }

    from : IsEvent p dropped x → ((x.kind ≡ kind.Node) × (name ≡ no_name → ⊥)) × (is_parameter (label p x.row) ≡ true → ⊥)
    from e = ((e.node, (told e.node).1 e.name e.named), λ f. false≢true (sym e.event ∙ f))
