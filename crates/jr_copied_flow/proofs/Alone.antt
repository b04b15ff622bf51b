-- The copy of a body that a change leaves alone, further down or further up, reads what the body reads.
use Rattle.std.proofs.Common.{◌≡◌, refl, sym, ◌∙◌, ap, subst, ⊎_elim, arith, ℕ, ◌+◌, ◌-◌, ◌<◌, ◌≤◌, Bool, true, false, if◌then◌else◌, List, length, Option, Some, None, nat_eq}
use Rattle.std.proofs.lemmas.Bool.Decides.{Decides-eqb}
use Rattle.std.proofs.lemmas.Option.{none-some, same_Some}
use Rattle.jr_tree.specs.declared.label.Label.{Label}
use Rattle.jr_tree.specs.declared.label.Label.TheVariants as is
use Rattle.jr_tree.specs.Rows.{Rows, label, end, role_at}
use Rattle.jr_tree.specs.Tree.{IsTree}
use Rattle.jr_defs.specs.declared.referent.Referent.TheVariants.{Declared}
use Rattle.jr_flow_defs.specs.Meaning.{Meaning, is_constant, is_text, is_shown, narrows, declared}
use Rattle.jr_flow_defs.specs.Edges.{body_flow}
use Rattle.jr_flow_defs.specs.Kept.{KeepsBody}
use Rattle.jr_flow_laws.specs.Shifted.{IsIn, declares_code, IsWholeBody, moved_row, AreShiftedRows, AreOrigins}
use Rattle.jr_flow_laws.proofs.Parents.{parents_follow}
use Rattle.jr_flow_laws.proofs.Keeping.{body_by_origins}
use Rattle.jr_change.specs.declared.change.Change.{Change}
use Rattle.jr_locks.specs.Origins.{no_row, origin_of, row_by}
use Rattle.jr_locks.specs.Ending.{takes_declarations, StandsAgain}
use Rattle.jr_locks.specs.Locked.{IsSeenFrom, IsLockOf, raised_to}
use Rattle.jr_locks.specs.Changed.{IsChanged, origins_by}
use Rattle.jr_locks.proofs.Standing.{each_origin, stands_again, on_few, on_labels, on_ends}
use Rattle.jr_copied_flow.specs.Alone.{copy_in, IsLeftAlone, KeepsMeaning, origin_by, KeepsFlowAt}
use Rattle.jr_copied_flow.proofs.Seen.{in_or_not, row_inside, row_outside, Sees, IsSeenAs, GoesTo, goes_by_lock, moved_there}

code_takes_none : (l : Label) → declares_code l ≡ true → takes_declarations l ≡ false
code_takes_none (is.Method modifiers is_void has_body) e = refl
code_takes_none (is.Constructor modifiers) e = refl
code_takes_none is.DefaultConstructor e = refl
code_takes_none (is.Initializer is_static) e = refl
code_takes_none (is.Field modifiers dims) e = refl
code_takes_none is.Program e = absurd (cc)
code_takes_none is.Unit e = absurd (cc)
code_takes_none (is.Class modifiers is_member) e = absurd (cc)
code_takes_none (is.Interface modifiers is_member) e = absurd (cc)
code_takes_none is.Body e = absurd (cc)
code_takes_none _ e = refl

-- a row that is one, and what one is
pub row_is : (k n : ℕ) → k ≡ n → n < no_row → row_by k ≡ Some n
row_is k n e less = by_test (nat_eq k no_row) (λ t. let f = (Decides-eqb k no_row).0 t in absurd (omega (arith, e, f, less))) where
  by_test : (b : Bool) → (b ≡ true → ⊥) → (if b then None else Some k) ≡ Some n
  by_test true none = absurd (none refl)
  by_test false none = ap Some e

pub is_row : (k n : ℕ) → row_by k ≡ Some n → k ≡ n
is_row k n e = by_test (nat_eq k no_row) e where
  by_test : (b : Bool) → (if b then None else Some k) ≡ Some n → k ≡ n
  by_test true e = absurd (none-some n e)
  by_test false e = same_Some k n e

module _ (p q : Rows) (change : Change) (m w : Meaning) (body at : ℕ) (move : ℕ → ℕ) (changed : IsChanged p m.targets change q w.targets) (here : IsTree p) (there : IsTree q) (fits : length p ≤ no_row)
    (whole : IsWholeBody p m body) (alone : IsLeftAlone p change body at) (read : KeepsMeaning p q m w change body at move) where
  abbrev pub In : ℕ → Type 0
  In = IsIn p body

  abbrev pub origin : List ℕ
  origin = origins_by change

  abbrev pub Seen : ℕ → ℕ → Type 0
  Seen = Sees change.inner origin (length p) at

  pub again : StandsAgain p q body at
  again = stands_again p m.targets change q w.targets changed here there fits body at whole.few (code_takes_none (label p body) whole.declares) alone.one

  pub few_rows : (n : ℕ) → In n → n < length p
  few_rows n i = let l = here.last body whole.few in let t = i.to in omega (arith, l, t)

  pub from_copy : (n : ℕ) → In n → origin_of origin (copy_in body at n) ≡ n
  from_copy n i = let f = i.from in let t = i.to in let back : body + (n - body) ≡ n = omega (arith, f) in
      each_origin p change body at alone.one (n - body) (omega (arith, f, t)) ∙ back

  pub copy_few : (n : ℕ) → In n → copy_in body at n < length q
  copy_few n i = let f = i.from in let t = i.to in let a = again.few in omega (arith, f, t, a)

  -- ---- what the copy refers to

  lock_at : (n : ℕ) → In n → IsLockOf change.inner origin (length p) (copy_in body at n) (raised_to change.raised n (m.targets n)) (w.targets (copy_in body at n))
  lock_at n i = let few = few_rows n i in subst (λ z. IsLockOf change.inner origin (length p) (copy_in body at n) (raised_to change.raised z (m.targets z)) (w.targets (copy_in body at n))) (from_copy n i)
      (changed.locked.each (copy_in body at n) (copy_few n i) (alone.unsaid n i) (λ none. let from = from_copy n i in absurd (omega (arith, none, from, few, fits))))

  pub goes : (n : ℕ) → In n → GoesTo change.inner origin (length p) at (m.targets n) (w.targets (copy_in body at n))
  goes n i = goes_by_lock change.inner origin (length p) at change.raised n (copy_in body at n) (alone.beside n i) (m.targets n) (w.targets (copy_in body at n)) (lock_at n i)
      (λ d e. read.known n d i e) (λ d e none. read.bound n d i e none)

  -- ---- what is seen

  origin_seen : (d c : ℕ) → IsSeenFrom change.inner origin (length p) at d c → origin_of origin c ≡ d
  origin_seen d c (IsSeenFrom.beside f) = f.copy
  origin_seen d c (IsSeenFrom.beyond g f) = f.copy

  pub seen_origin : (d c : ℕ) → Seen d c → origin_of origin c ≡ d
  seen_origin d c s = origin_seen d c s.seen

  pub seen_inside : (d c : ℕ) → Seen d c → In d → c ≡ copy_in body at d
  seen_inside d c s i = alone.once d c i (seen_origin d c s)

  -- ---- further down, or where it stood

  module _ (s : ℕ) (high : body + s ≡ at) where
    abbrev over : ℕ → ℕ
    over = moved_row p body s move

    on : (n : ℕ) → In n → copy_in body at n ≡ n + s
    on n i = let f = i.from in omega (arith, f, high)

    stands : StandsAgain p q body (body + s)
    stands = subst (λ z. StandsAgain p q body z) (sym high) again

    some : body < end p body
    some = here.nested body

    few_on : end p body + s ≤ length q
    few_on = on_few p q body s stands some

    ends_on : (n : ℕ) → In n → end q (n + s) ≡ end p n + s
    ends_on n i = on_ends p q body s stands n i.from i.to

    over_seen : (d c : ℕ) → Seen d c → over d ≡ c
    over_seen d c v = ⊎_elim (λ i. row_inside p body s move d i ∙ (sym (on d i) ∙ sym (seen_inside d c v i)))
        (λ none. row_outside p body s move d none ∙ read.sees d c v.stood v.seen) (in_or_not p body d)

    role_outside : (n d : ℕ) (level : Option ℕ) → In n → m.targets n ≡ Declared d level → role_at q (move d) ≡ role_at p d
    role_outside n d level i e = let v : IsSeenAs change.inner origin (length p) at d (w.targets (copy_in body at n)) = subst (λ z. GoesTo change.inner origin (length p) at z (w.targets (copy_in body at n))) e (goes n i) in
        ap (role_at q) (read.sees d v.row v.sees.stood v.sees.seen) ∙ read.roles n d v.row i (ap declared e) (ap declared v.is)

    shifted : AreShiftedRows p q m w body s move
    shifted = record {
      few = few_on;
      labels = λ n i. on_labels p q body s stands n i.from i.to;
      ends = ends_on;
      parents = λ n i less. parents_follow p q body s here there whole.few few_on ends_on n i less;
      referents = λ n i. moved_there change.inner origin (length p) at over (m.targets n) (w.targets (n + s))
          (subst (λ z. GoesTo change.inner origin (length p) at (m.targets n) (w.targets z)) (on n i) (goes n i)) over_seen;
      roles = λ n d level i e none. role_outside n d level i e;
      constants = λ n i. ap (is_constant w) (sym (on n i)) ∙ read.constants n i;
      texts = λ n i. ap (λ k. is_text q (w.types k)) (sym (on n i)) ∙ read.texts n i;
      shown = λ n i. ap (λ k. is_shown q (w.types k)) (sym (on n i)) ∙ read.shown n i;
      casts = λ n i e. ap (narrows q w) (sym (on n i)) ∙ read.casts n i e;
    }

    own : AreOrigins p body s (origin_by change)
    own = record {
      own = λ n i. row_is (origin_of origin (n + s)) n (ap (origin_of origin) (sym (on n i)) ∙ from_copy n i) (let l = few_rows n i in omega (arith, l, fits));
      once = λ n k i e. alone.once n k i (is_row (origin_of origin k) n e) ∙ on n i;
    }

    pub kept_below : KeepsFlowAt p q m w change body at
    kept_below = subst (λ z. KeepsBody p q (body_flow p m body) (body_flow q w z) body z None (origin_by change)) high (body_by_origins p q m w body s move whole shifted (origin_by change) own)
