-- The words of fields: what is assigned where a member ends, behind the parts of a body, and where its constructors end.
use Rattle.std.proofs.Common.{◌≡◌, refl, sym, ◌∙◌, ap, ap₂, subst, ⊎_elim, arith, ℕ, ◌+◌, ◌-◌, ◌<◌, Bool, true, false, ◌&&◌, if◌then◌else◌, List, length, Option, Some, None, nat_eq, bit_and, slice_index_or, slice_set}
use Rattle.std.proofs.lemmas.Bool.{false≢true, cases_eq, cases_lt}
use Rattle.std.proofs.lemmas.Bool.Decides.{Decides-eqb}
use Rattle.std.proofs.lemmas.Nat.Bits.{bit_at-zero, bit_at_ones}
use Rattle.jr_tree.specs.Rows.{Rows, label, parent, end}
use Rattle.jr_assign.specs.declared.course.Course.{Course}
use Rattle.jr_assign.specs.declared.fields.Group.{Group}
use Rattle.jr_assign.specs.Changes.{Facts, fact, field_body}
use Rattle.jr_assign.specs.Sets.{only, both_of}
use Rattle.jr_assign.specs.Assigned.{Seen, AreAssigned, arrives}
use Rattle.jr_assign.specs.Words.{ones, mask, has_bit, bits_of, IsTold, sets_by, seen_by}
use Rattle.jr_assign.specs.Confirmed.{IsWhole}
use Rattle.jr_assign.specs.Judged.{IsConfirmed, Verdicts, number, is_owned}
use Rattle.jr_assign.specs.Blank.{is_part, is_return, is_constructor, is_first, is_static_field, ends_with, EndsSo, IsBefore}
use Rattle.jr_assign.specs.Made.{is_in, is_followed, returned_by, ended_by, AreEnded, AreBefore, IsBuilt, AreBuilt, AreMade, IsMade, AreFieldsJudged, is_asked_field, judged_field}
use Rattle.jr_assign.proofs.Inside.{both_true, not_true, past_label}
use Rattle.jr_assign.proofs.Carried.{Keeps, arrives_kept, both_kept}
use Rattle.jr_assign.proofs.Bits.{bits_keep, each_word}
use Rattle.jr_assign.proofs.Judging.{BitOf, bit_told, has_bit_of, bit_tested, has_each_last, solution, is_solution, found, verdict_more}
use Rattle.jr_assign.proofs.Blank.{ends_same}

-- ---- a member

module _ (c : Course) (start : ℕ) (owners : List (Option ℕ)) (sure : IsConfirmed c start owners) where
  module _ (v : ℕ) (bit : BitOf c.from (number c v)) (owned : is_owned c owners v ≡ true) where
    abbrev k : ℕ
    k = bit.number - c.from

    abbrev keeps : Keeps (sets_by c) (only v) (has_bit k) (IsTold c.numbers.now c.from v k)
    keeps = bits_keep c.numbers.now c.from v k bit.small

    abbrev returned_with : List ℕ → Bool
    returned_with guarded = both_of (only v) (λ i. is_return (fact c.facts.now (c.root + i)).way) (λ i. arrives (only v) c.rows.now c.facts.now guarded (bits_of k (seen_by c)) (c.root + i)) (end c.rows.now c.root - c.root)

    returned_kept : has_bit k (returned_by c) ≡ returned_with c.guarded.now
    returned_kept = both_kept (sets_by c) (only v) (has_bit k) (IsTold c.numbers.now c.from v k) keeps c.rows.now c.facts.now c.guarded.now (seen_by c) _ _ _ (end c.rows.now c.root - c.root)
        (λ i. arrives_kept (sets_by c) (only v) (has_bit k) (IsTold c.numbers.now c.from v k) keeps c.rows.now c.facts.now c.guarded.now (seen_by c) (c.root + i))

    ended_kept : has_bit k (ended_by c) ≡ ends_with v c.rows.now c.facts.now c.root (bits_of k (seen_by c))
    ended_kept = keeps.both (seen_by c c.root).done (returned_by c) ∙ ap (λ b. has_bit k (seen_by c c.root).done && b) (returned_kept ∙ ap returned_with sure.guarded)

    module _ (whole : IsWhole c.rows.now c.facts.now) (there : c.root < length c.rows.now) where
      abbrev table : ℕ → Seen ℕ
      table = solution c start owners sure whole there

      bits_same : {x y : Seen ℕ} → x ≡ y → ◌≡◌ {A = Seen Bool} (record { before = has_bit k x.before; done = has_bit k x.done; yes = has_bit k x.yes; no = has_bit k x.no })
          (record { before = has_bit k y.before; done = has_bit k y.done; yes = has_bit k y.yes; no = has_bit k y.no })
      bits_same {x} {y} e = subst (λ (z : Seen ℕ). ◌≡◌ {A = Seen Bool} (record { before = has_bit k x.before; done = has_bit k x.done; yes = has_bit k x.yes; no = has_bit k x.no })
          (record { before = has_bit k z.before; done = has_bit k z.done; yes = has_bit k z.yes; no = has_bit k z.no })) e refl

      found_so : ends_with v c.rows.now c.facts.now c.root (bits_of k (seen_by c)) ≡ ends_with v c.rows.now c.facts.now c.root (bits_of k table)
      found_so = ends_same v c.rows.now c.facts.now whole.tree (has_each_last c.rows.now c.facts.now whole.lasts) c.root there (bits_of k (seen_by c)) (bits_of k table)
          (λ n low high. bits_same (found c start owners sure whole there n low high))

      ends_one : EndsSo v c.rows.now c.facts.now c.root (is_in c.numbers.now c.from v start) (is_in c.numbers.now c.from v (ended_by c))
      ends_one = record {
        table = bits_of k table;
        assigned = subst (λ b. AreAssigned (only v) c.rows.now c.facts.now c.root b (bits_of k table)) (sym (bit_tested start (mask c.numbers.now c.from v) k bit.mask))
            (each_word c.numbers.now c.from v k c.rows.now c.facts.now c.root start table (has_bit_of c owners v bit owned sure.owned) (is_solution c start owners sure whole there));
        is = sym found_so ∙ sym ended_kept ∙ sym (bit_tested (ended_by c) (mask c.numbers.now c.from v) k bit.mask);
      }

  pub ended_told : (word : ℕ) → word ≡ ended_by c → AreEnded c.rows.now c.facts.now c.numbers.now owners c.from c.root start word
  ended_told word e = subst (AreEnded c.rows.now c.facts.now c.numbers.now owners c.from c.root start) (sym e)
      (record { each = λ whole there v followed. let parts = both_true _ _ followed in ends_one v (bit_told c.from (number c v) (not_true _ parts.0)) parts.1 whole there })

-- ---- words

module _ (numbers owners : List (Option ℕ)) (from v : ℕ) (followed : is_followed numbers owners from v ≡ true) where
  bit : BitOf from (slice_index_or numbers v None)
  bit = bit_told from (slice_index_or numbers v None) (not_true _ (both_true _ _ followed).0)

  in_bit : (word : ℕ) → is_in numbers from v word ≡ has_bit (bit.number - from) word
  in_bit word = bit_tested word (mask numbers from v) (bit.number - from) bit.mask

  in_none : is_in numbers from v 0 ≡ false
  in_none = in_bit 0 ∙ ap (λ b. nat_eq b 1) (bit_at-zero (bit.number - from))

  in_all : is_in numbers from v ones ≡ true
  in_all = in_bit ones ∙ ap (λ b. nat_eq b 1) (bit_at_ones 64 (bit.number - from) bit.small)

  in_both : (x y : ℕ) → is_in numbers from v (bit_and x y) ≡ (is_in numbers from v x && is_in numbers from v y)
  in_both x y = in_bit (bit_and x y) ∙ (bits_keep numbers from v (bit.number - from) bit.small).both x y ∙ sym (ap₂ (λ x y. x && y) (in_bit x) (in_bit y))

-- ---- parts and constructors are rows

part_within : (p : Rows) (k : ℕ) (is_static : Bool) → is_part (label p k) is_static ≡ true → k < length p
part_within p k is_static is = ⊎_elim (λ lt. lt) (λ past. absurd (false≢true (sym (ap (λ l. is_part l is_static) (past_label p k past)) ∙ is))) (cases_lt k (length p))

pub first_within : (p : Rows) (body c : ℕ) → is_first p body c ≡ true → c < length p
first_within p body c is = ⊎_elim (λ lt. lt) (λ past. absurd (false≢true (sym (ap is_constructor (past_label p c past)) ∙ (both_true _ _ is).0))) (cases_lt c (length p))

-- ---- a group of fields

module _ (g : Group) (body : ℕ) where
  abbrev p : Rows
  p = g.rows.now

  abbrev f : Facts
  f = g.facts.now

  abbrev holds : ℕ → ℕ → Bool
  holds v word = is_in g.numbers.now g.from v word

  -- ---- the parts of the body

  pub before_begins : (is_static : Bool) → AreBefore g body is_static (body + 1) 0
  before_begins is_static = record { each = λ whole v followed. subst (λ b. IsBefore v p f body is_static (body + 1) b) (sym (in_none g.numbers.now g.owners.now g.from v followed)) IsBefore.begins }

  pub before_passes : (is_static : Bool) (k word : ℕ) → parent p k ≡ body → is_part (label p k) is_static ≡ false → AreBefore g body is_static k word → AreBefore g body is_static (end p k) word
  before_passes is_static k word up is h = record { each = λ whole v followed. IsBefore.passes (h.each whole v followed) up is }

  pub before_behind : (is_static : Bool) (k word out : ℕ) → parent p k ≡ body → is_part (label p k) is_static ≡ true → AreEnded p f g.numbers.now g.owners.now g.from k word out
      → AreBefore g body is_static k word → AreBefore g body is_static (end p k) out
  before_behind is_static k word out up is ends h = record { each = λ whole v followed. IsBefore.behind (h.each whole v followed) up is (ends.each whole (part_within p k is_static is) v followed) }

  pub before_end : (is_static : Bool) (k word : ℕ) → k ≡ end p body → AreBefore g body is_static k word → AreBefore g body is_static (end p body) word
  before_end is_static k word e h = subst (λ k. AreBefore g body is_static k word) e h

  -- ---- its constructors

  pub built_begins : (start : ℕ) → AreBuilt g body 0 start ones
  built_begins start = record { each = λ whole v followed. subst (λ b. IsBuilt v p f body 0 (holds v start) b) (sym (in_all g.numbers.now g.owners.now g.from v followed)) (IsBuilt.always (λ c low high first. absurd (omega arith))) }

  -- a row that is no constructor, and one that is
  passes_built : {v k : ℕ} {start b : Bool} → is_first p body (body + k) ≡ false → IsBuilt v p f body k start b → IsBuilt v p f body (k + 1) start b
  passes_built none (IsBuilt.never first ends) = IsBuilt.never first ends
  passes_built {k = k} none (IsBuilt.always all) = IsBuilt.always (λ c low high first. ⊎_elim
      (λ at. absurd (false≢true (sym none ∙ sym (ap (is_first p body) at) ∙ first)))
      (λ apart. all c low (omega arith) first)
      (cases_eq c (body + k)))

  more_built : {v k : ℕ} {start b : Bool} (d : Bool) → is_first p body (body + k) ≡ true → EndsSo v p f (body + k) start d → IsBuilt v p f body k start b → IsBuilt v p f body (k + 1) start (b && d)
  more_built d is ends (IsBuilt.never first other) = IsBuilt.never first other
  more_built false is ends (IsBuilt.always all) = IsBuilt.never is ends
  more_built {v} {k} {start} true is ends (IsBuilt.always all) = IsBuilt.always (λ c low high first. ⊎_elim
      (λ at. subst (λ c. EndsSo v p f c start true) (sym at) ends)
      (λ apart. all c low (omega arith) first)
      (cases_eq c (body + k)))

  pub built_passes : (at start word : ℕ) → is_first p body at ≡ false → (k : ℕ) → body + k ≡ at → AreBuilt g body k start word → AreBuilt g body (k + 1) start word
  built_passes at start word none k e h = record { each = λ whole v followed. passes_built (ap (is_first p body) e ∙ none) (h.each whole v followed) }

  pub built_more : (at start word out : ℕ) → is_first p body at ≡ true → AreEnded p f g.numbers.now g.owners.now g.from at start out → (k : ℕ) → body + k ≡ at
      → AreBuilt g body k start word → AreBuilt g body (k + 1) start (bit_and word out)
  built_more at start word out is ends k e h = record {
    each = λ whole v followed. subst (λ b. IsBuilt v p f body (k + 1) (holds v start) b) (sym (in_both g.numbers.now g.owners.now g.from v followed word out))
        (more_built (holds v out) (ap (is_first p body) e ∙ is) (subst (λ c. EndsSo v p f c (holds v start) (holds v out)) (sym e) (ends.each whole (first_within p body at is) v followed)) (h.each whole v followed));
  }

  -- ---- all of it

  pub all_made : (statics instances built : ℕ) → AreBefore g body true (end p body) statics → AreBefore g body false (end p body) instances → AreBuilt g body (end p body - body) instances built → AreMade g body statics built
  all_made statics instances built h k b = record { instances = instances; of_class = h; of_instances = k; are_built = b }

  made_one : IsWhole p f → (statics built : ℕ) → AreMade g body statics built → (v : ℕ) → is_followed g.numbers.now g.owners.now g.from v ≡ true → field_body p v ≡ body
      → (b : Bool) → is_static_field (label p v) ≡ b → IsMade p f v (holds v (if b then statics else built))
  made_one whole statics built h v followed e true is = IsMade.of_class is (subst (λ body. IsBefore v p f body true (end p body) (holds v statics)) (sym e) (h.of_class.each whole v followed))
  made_one whole statics built h v followed e false is = IsMade.of_instances is (subst (λ body. IsBefore v p f body false (end p body) (holds v h.instances)) (sym e) (h.of_instances.each whole v followed))
      (subst (λ body. IsBuilt v p f body (end p body - body) (holds v h.instances) (holds v built)) (sym e) (h.are_built.each whole v followed))

  pub field_more : (statics built v : ℕ) (old new : Verdicts) → AreMade g body statics built → new ≡ judged_field g body statics built v old → AreFieldsJudged p f old → AreFieldsJudged p f new
  field_more statics built v old new h is are = subst (AreFieldsJudged p f) (sym is) (by (is_asked_field g body v) refl)
    where
      word : ℕ
      word = if is_static_field (label p v) then statics else built

      by : (b : Bool) → is_asked_field g body v ≡ b → AreFieldsJudged p f (if b then slice_set old v (Some (holds v word)) else old)
      by false asked = are
      by true asked = let parts = both_true _ _ asked in record {
        each = λ whole. verdict_more (IsMade p f) old v (holds v word) (are.each whole)
            (made_one whole statics built h v parts.0 ((Decides-eqb (field_body p v) body).0 parts.1) (is_static_field (label p v)) refl);
      }
