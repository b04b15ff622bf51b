-- What comes of a row by its label, and the step of one row.
use Rattle.std.proofs.Common.{◌≡◌, refl, sym, ◌∙◌, ap, subst, ℕ, ◌+◌, ◌<◌, ◌≤◌, ◌^◌, Bool, List, [], ◌∷◌, ◌++◌, length, Option, Some, None, arith}
use Rattle.jr_base.specs.declared.constant.Const.{Const}
use Rattle.jr_defs.specs.declared.referent.RowType.{RowType}
use Rattle.jr_tree.specs.declared.label.Label.{Label}
use Rattle.jr_tree.specs.declared.label.Label.TheVariants as is
use Rattle.jr_tree.specs.Rows.{label, end}
use Rattle.jr_codes.specs.declared.source.Source.{Source}
use Rattle.jr_codes.specs.Facts.{Facts}
use Rattle.jr_codes.specs.Making.{Below, Made, code, nothing, unknown, Stands}
use Rattle.jr_codes.specs.Reads.{rows_of, facts, Becomes}
use Rattle.jr_codes.specs.Waiting.{behind}
use Rattle.jr_expressions.specs.Expressions.{expression_made, constant_made}
use Rattle.jr_expressions.specs.Stacks.{Stacks, stacks_of, IsParted, ComesTo, Makes, AreCounted, IsSettled}
use Rattle.jr_expressions.specs.Statements.{Part, code_part, Parts, Comes, comes_of, as_code, as_case, as_group, as_catch, those, codes, alone, plain_made, statement_made, made_by, made_at}
use Rattle.jr_expressions.proofs.Joined.{those_joined, those_parted, stacks_are, SameOthers}
use Rattle.jr_expressions.proofs.Operated.{one_counted}
use Rattle.jr_elab.specs.declared.statements.Outside.{Outside}
use Rattle.jr_elab.specs.Stacked.{Does, AreOutside}
use Rattle.jr_elab.proofs.Left.{none_inside, only_codes}
use Rattle.jr_elab.proofs.Stacking.{outside, alone_is, left_outside}

-- a row that is none of these statements is an expression, if it is anything
pub other_plain : (l : Label) (f : Facts) (n : ℕ) (parts : Below) → (l ≡ is.Nest → ⊥) → ((is_final : Bool) (dims : ℕ) → l ≡ is.Local is_final dims → ⊥) → (l ≡ is.Skip → ⊥) → (l ≡ is.If → ⊥) → (l ≡ is.Eval → ⊥) → (l ≡ is.Labeled → ⊥) → (l ≡ is.Throw → ⊥) → ((b : Bool) → l ≡ is.Break b → ⊥) → ((b : Bool) → l ≡ is.Continue b → ⊥) → (l ≡ is.Do → ⊥) → (l ≡ is.While → ⊥) → ((first cond : Bool) → l ≡ is.For first cond → ⊥) → plain_made l f n parts ≡ expression_made l f n parts
other_plain is.Nest f n parts h _ _ _ _ _ _ _ _ _ _ _ = absurd (h refl)
other_plain (is.Local is_final dims) f n parts _ h _ _ _ _ _ _ _ _ _ _ = absurd (h is_final dims refl)
other_plain is.Skip f n parts _ _ h _ _ _ _ _ _ _ _ _ = absurd (h refl)
other_plain is.If f n parts _ _ _ h _ _ _ _ _ _ _ _ = absurd (h refl)
other_plain is.Eval f n parts _ _ _ _ h _ _ _ _ _ _ _ = absurd (h refl)
other_plain is.Labeled f n parts _ _ _ _ _ h _ _ _ _ _ _ = absurd (h refl)
other_plain is.Throw f n parts _ _ _ _ _ _ h _ _ _ _ _ = absurd (h refl)
other_plain (is.Break b) f n parts _ _ _ _ _ _ _ h _ _ _ _ = absurd (h b refl)
other_plain (is.Continue b) f n parts _ _ _ _ _ _ _ _ h _ _ _ = absurd (h b refl)
other_plain is.Do f n parts _ _ _ _ _ _ _ _ _ h _ _ = absurd (h refl)
other_plain is.While f n parts _ _ _ _ _ _ _ _ _ _ h _ = absurd (h refl)
other_plain (is.For first cond) f n parts _ _ _ _ _ _ _ _ _ _ _ h = absurd (h first cond refl)
other_plain _ f n parts _ _ _ _ _ _ _ _ _ _ _ _ = refl

-- one that is none of these comes of codes alone
pub other_statement : (l : Label) (f : Facts) (outcome : Option RowType) (n : ℕ) (parts : Parts) → (l ≡ is.Return → ⊥) → (l ≡ is.Case → ⊥) → (l ≡ is.Default → ⊥) → (l ≡ is.Group → ⊥) → (l ≡ is.Switch → ⊥) → (l ≡ is.Catch → ⊥) → ((b : Bool) → l ≡ is.Try b → ⊥) → statement_made l f outcome n parts ≡ alone parts (λ below. comes_of (plain_made l f n below))
other_statement is.Return f outcome n parts h _ _ _ _ _ _ = absurd (h refl)
other_statement is.Case f outcome n parts _ h _ _ _ _ _ = absurd (h refl)
other_statement is.Default f outcome n parts _ _ h _ _ _ _ = absurd (h refl)
other_statement is.Group f outcome n parts _ _ _ h _ _ _ = absurd (h refl)
other_statement is.Switch f outcome n parts _ _ _ _ h _ _ = absurd (h refl)
other_statement is.Catch f outcome n parts _ _ _ _ _ h _ = absurd (h refl)
other_statement (is.Try b) f outcome n parts _ _ _ _ _ _ h = absurd (h b refl)
other_statement _ f outcome n parts _ _ _ _ _ _ _ = refl

-- ---- a row whose code comes of the codes below it

made_to : (m : Made) (n : ℕ) (inner outer : Parts) (old new : Stacks) → those as_case inner ≡ [] → those as_group inner ≡ [] → those as_catch inner ≡ [] → old ≡ stacks_of (inner ++ outer) → SameOthers old new
    → Stands m n (codes inner) (codes outer) new.of_code → ComesTo (comes_of m) n inner outer new
made_to (code x) n inner outer old new no_case no_group no_catch was same st =
    stacks_are ((n, code_part x) ∷ outer) st (same.label ∙ outside as_case inner outer (ap (λ s. s.of_label) was) no_case)
    (same.group ∙ outside as_group inner outer (ap (λ s. s.of_group) was) no_group) (same.catch ∙ outside as_catch inner outer (ap (λ s. s.of_catch) was) no_catch)
made_to nothing n inner outer old new no_case no_group no_catch was same st =
    stacks_are (inner ++ outer) (st ∙ sym (those_joined as_code inner outer)) (same.label ∙ ap (λ s. s.of_label) was) (same.group ∙ ap (λ s. s.of_group) was) (same.catch ∙ ap (λ s. s.of_catch) was)
made_to unknown n inner outer old new no_case no_group no_catch was same st = absurd st

pub plain_does : {s : Source} {n : ℕ} {old new : Stacks} (made : Below → Made) → Becomes s n made old.of_code new.of_code → SameOthers old new → Does s n (λ parts. alone parts (λ below. comes_of (made below))) old new
plain_does {s} {n} {old} {new} made becomes same = record {
  does = λ read inner outer h was settled.
      let no_case : those as_case inner ≡ [] = none_inside as_case n inner outer new.of_label h.rising (same.label ∙ ap (λ x. x.of_label) was) settled.label in
      let no_group : those as_group inner ≡ [] = none_inside as_group n inner outer new.of_group h.rising (same.group ∙ ap (λ x. x.of_group) was) settled.group in
      let no_catch : those as_catch inner ≡ [] = none_inside as_catch n inner outer new.of_catch h.rising (same.catch ∙ ap (λ x. x.of_catch) was) settled.catch in
      subst (λ m. ComesTo m n inner outer new) (sym (alone_is inner (λ below. comes_of (made below)) (only_codes inner no_case no_group no_catch)))
      (made_to (made (codes inner)) n inner outer old new no_case no_group no_catch was same
      (becomes.stands read (codes inner) (codes outer) (those_parted as_code inner outer h (ap (λ x. x.of_code) was)) settled.code));
}

pub does_along : {s : Source} {n : ℕ} {made other : Parts → Comes} {old new : Stacks} → ((parts : Parts) → made parts ≡ other parts) → Does s n other old new → Does s n made old new
does_along {s} {n} {made} {other} {old} {new} same d = record {
  does = λ read inner outer h was settled. subst (λ m. ComesTo m n inner outer new) (sym (same inner)) (d.does read inner outer h was settled);
}

-- what comes of the label that the row has
pub labeled_does : {s : Source} {n : ℕ} {l to : Label} (outcome : Option RowType) {old new : Stacks} → l ≡ to → Does s n (λ parts. statement_made to (facts s) outcome n parts) old new
    → Does s n (λ parts. statement_made l (facts s) outcome n parts) old new
labeled_does {s} {n} {l} {to} outcome {old} {new} same d = does_along (λ parts. ap (λ x. statement_made x (facts s) outcome n parts) same) d

-- ---- the step of a row

pub constant_does : {s : Source} {n : ℕ} {v : Const} {old new : Stacks} (outcome : Option RowType) → (facts s).value n ≡ Some v → Becomes s n (λ parts. constant_made v (facts s) n parts) old.of_code new.of_code
    → SameOthers old new → Does s n (made_at (facts s) outcome n) old new
constant_does {s} {n} {v} {old} {new} outcome is becomes same =
    does_along (λ parts. ap (λ o. made_by o (facts s) outcome n parts) is) (plain_does {s = s} {n = n} {old = old} {new = new} (λ parts. constant_made v (facts s) n parts) becomes same)

pub label_does : {s : Source} {n : ℕ} {l : Label} {old new : Stacks} (outcome : Option RowType) → (facts s).value n ≡ None → label (rows_of s) n ≡ l
    → Does s n (λ parts. statement_made l (facts s) outcome n parts) old new → Does s n (made_at (facts s) outcome n) old new
label_does {s} {n} {l} {old} {new} outcome none named d =
    does_along (λ parts. ap (λ o. made_by o (facts s) outcome n parts) none ∙ ap (λ x. statement_made x (facts s) outcome n parts) named) d

not_past : (n len : ℕ) → n < len → len ≤ n → ⊥
not_past n len lt le = omega (arith, lt, le)

pub past_does : {s : Source} {n : ℕ} {made : Parts → Comes} {old new : Stacks} → length (rows_of s) ≤ n → Does s n made old new
past_does {s} {n} past = record { does = λ read inner outer h was settled. absurd (not_past n (length (rows_of s)) read.inside past) }

-- ---- what is left below a row

-- what waits behind a row are the parts behind it
behind_outside : {T : Type 0} → (kind : Part → Option T) (n e : ℕ) (inner outer : Parts) (was : List (ℕ × T)) → IsParted n e inner outer → was ≡ those kind (inner ++ outer) → length (behind e was) ≡ length (those kind outer)
behind_outside kind n e inner outer was h is = ap length (left_outside (those_parted kind inner outer h is) (record { taken = refl; left = refl }))

settled_along : (n a b d e : ℕ) (outer : Parts) (now : Stacks) → a ≡ length (codes outer) → b ≡ length (those as_case outer) → d ≡ length (those as_group outer) → e ≡ length (those as_catch outer)
    → AreCounted n a b d e now → IsSettled n outer now
settled_along n a b d e outer now codes_are cases_are groups_are catches_are counted =
    subst (λ k. AreCounted n (length (codes outer)) (length (those as_case outer)) (length (those as_group outer)) k now) catches_are
    (subst (λ k. AreCounted n (length (codes outer)) (length (those as_case outer)) k e now) groups_are
    (subst (λ k. AreCounted n (length (codes outer)) k d e now) cases_are (subst (λ k. AreCounted n k b d e now) codes_are counted)))

pub settled_makes : {s : Source} {n e : ℕ} {outcome : Option RowType} {old new : Stacks} (counts : Outside) → (n + 1 < 2 ^ 32 → e ≡ end (rows_of s) n) → AreOutside e old counts → Does s n (made_at (facts s) outcome n) old new
    → AreCounted n counts.codes counts.labels counts.groups counts.catches new → Makes s outcome n old new
settled_makes {s} {n} {e} {outcome} {old} {new} counts ends outside d counted = record {
  makes = λ read inner outer h was.
      let stop : ℕ = end (rows_of s) n in
      let there : AreOutside stop old counts = subst (λ k. AreOutside k old counts) (ends (one_counted read)) outside in
      d.does read inner outer h was (settled_along n counts.codes counts.labels counts.groups counts.catches outer new
      (there.code ∙ behind_outside as_code n stop inner outer old.of_code h (ap (λ x. x.of_code) was))
      (there.label ∙ behind_outside as_case n stop inner outer old.of_label h (ap (λ x. x.of_label) was))
      (there.group ∙ behind_outside as_group n stop inner outer old.of_group h (ap (λ x. x.of_group) was))
      (there.catch ∙ behind_outside as_catch n stop inner outer old.of_catch h (ap (λ x. x.of_catch) was)) counted);
}
